use Rattle.std.proofs.Common.{◌≡◌, ℕ, List, refl, sym, subst, arith}
use Rattle.std.specs.Result.{IsOk}
use Rattle.std.proofs.lemmas.Option.{slice_get_within}
use Rattle.address_map.specs.Slots.{place_in}
use Rattle.address_map.proofs.IndexMended.{place-is, found-there}
use Rattle.address_map.proofs.order.place_in.Goals as goal

pub returns-then-stands_at-clause-place : goal.returns-then-stands_at-clause-place
returns-then-stands_at-clause-place c = place-is 0 c.args.row.now c.args.guess c.args.slot c.requires.rising (c.stands_at.ensures c.if-stands_at.true)

pub returns-then-stands_at-clause-within : goal.returns-then-stands_at-clause-within
returns-then-stands_at-clause-within c = slice_get_within c.args.row.now c.args.guess c.args.slot (c.stands_at.ensures c.if-stands_at.true)

pub unwrap-requires : goal.unwrap-requires
unwrap-requires c =
    let row : List ℕ = c.args.row.now in
    let found = found-there row (place_in row c.args.slot) c.args.slot c.binary_search.result c.requires.rising c.binary_search.ensures.position c.requires.there in
    subst IsOk (sym found) refl

pub returns-clause-place : goal.returns-clause-place
returns-clause-place c =
    let row : List ℕ = c.args.row.now in
    let found = found-there row (place_in row c.args.slot) c.args.slot c.binary_search.result c.requires.rising c.binary_search.ensures.position c.requires.there in
    cc (found, c.unwrap.ensures)

pub returns-clause-within : goal.returns-clause-within
returns-clause-within c =
    let row : List ℕ = c.args.row.now in
    let found = found-there row (place_in row c.args.slot) c.args.slot c.binary_search.result c.requires.rising c.binary_search.ensures.position c.requires.there in
    let place : c.unwrap.result ≡ place_in row c.args.slot = cc (found, c.unwrap.ensures) in
    let within = slice_get_within row (place_in row c.args.slot) c.args.slot c.requires.there in
    omega (arith, place, within)

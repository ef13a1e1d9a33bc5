use Rattle.std.proofs.Common.{◌≡◌, ◌+◌, ◌++◌, ℕ, List, Option, Some, suc, take, drop, slice_get, sym, ap, subst, ◌∙◌, arith}
use Rattle.std.specs.Prelude.{IfSome}
use Rattle.indexmap.specs.IndexMap.{set_value_at}
use Rattle.std.specs.Map.{lookup}
use Rattle.std.specs.Str.{bytes_eq}
use Rattle.address_map.specs.Slots.{place_in, with_places}
use Rattle.address_map.proofs.IndexMended.{value-at, lookup-own, slot-left, place-put}
use Rattle.address_map.proofs.map.mend.Goals as goal

pub place_in-place-requires-clause-there : goal.place_in-place-requires-clause-there
place_in-place-requires-clause-there c =
    let old : List (List ℕ × ℕ) = c.args.index.now.entries in
    let row : List ℕ = c.args.row.now in
    let at : ℕ = c.loop-at.at in
    let slot : ℕ = c.index.result.now in
    let read = value-at c.loop-at.index.entries at slot c.index.ensures in
    let there : slice_get old at ≡ Some (read.0, slot) = sym (slot-left row old at) ∙ ap (λ (es : List (List ℕ × ℕ)). slice_get es at) (sym c.loop-at.invariant) ∙ read.1 in
    let own : lookup (bytes_eq read.0) old ≡ Some slot = lookup-own old at (read.0, slot) c.len-at-end.ensures.unique there in
    subst (λ (o : Option ℕ). IfSome o (λ i. slice_get row (place_in row i) ≡ Some i)) own (c.requires.listed read.0)

pub loop-at-preserved : goal.loop-at-preserved
loop-at-preserved c =
    let old : List (List ℕ × ℕ) = c.args.index.now.entries in
    let row : List ℕ = c.args.row.now in
    let at : ℕ = c.loop-at.at in
    let slot : ℕ = c.index.result.now in
    let read = value-at c.loop-at.index.entries at slot c.index.ensures in
    let there : slice_get old at ≡ Some (read.0, slot) = sym (slot-left row old at) ∙ ap (λ (es : List (List ℕ × ℕ)). slice_get es at) (sym c.loop-at.invariant) ∙ read.1 in
    let next : suc at ≡ at + 1 = omega arith in
    ap (λ (es : List (List ℕ × ℕ)). set_value_at es at c.place_in-place.result) c.loop-at.invariant
    ∙ ap (set_value_at (with_places row (take at old) ++ drop at old) at) c.place_in-place.ensures.place
    ∙ place-put row old at (read.0, slot) there
    ∙ ap (λ n. with_places row (take n old) ++ drop n old) next

use Rattle.std.proofs.Common.{◌≡◌, ◌<◌, ◌≤◌, ◌++◌, ℕ, List, length, get_or, set, Option, Some, None, refl, sym, ap, ◌∙◌, arith}
use Rattle.std.proofs.lemmas.List.{take_all, length-set}
use Rattle.std.proofs.lemmas.Option.{slice_get-get_or}
use Rattle.ap_config.specs.Configuration.{most_networks}
use Rattle.events.specs.Lines.{event_of_line}
use Rattle.workers.specs.Giving.{entries_of}
use Rattle.workers.specs.declared.copies.Copies.{Copies}
use Rattle.workers.specs.declared.outcome.Outcome.{Outcome}
use Rattle.workers.specs.declared.outcome.Outcome.TheVariants.{NotHeard}
use Rattle.workers.proofs.Offering.{own-copies, none-offered, offered-more, place-of}
use Rattle.workers.proofs.ap.Ap.offer_each.Goals as goal

pub loop-place-init : goal.loop-place-init
loop-place-init g c =
    let count = c.requires.count in
    let room = c.requires.room in
    record { count = count; long = refl; offered = λ line are. none-offered _ line _ _ _ are; room = omega (arith, room) }

pub offer-requires-clause-place : goal.offer-requires-clause-place
offer-requires-clause-place g c =
    let line = c.requires.copies.0 in
    let place : ℕ = c.loop-place.place in
    let count = c.loop-place.invariant.count in
    let ok = c.loop-place.copies.ok.0 in
    let test : place < most_networks = c.loop-place-test.true in
    let inside : place < length c.loop-place.copies.items = omega (arith, test, count, ok) in
    place-of g.N.ApName.config line place c.take-copies.result
    (sym ((c.loop-place.invariant.offered line c.requires.copies.1).rest place (omega arith) test) ∙ own-copies c.loop-place.copies.items place _ _ inside c.index_mut.ensures.value c.take-copies.ensures.value)

pub loop-place-preserved : goal.loop-place-preserved
loop-place-preserved g c =
    let i = c.loop-place.invariant in
    let place : ℕ = c.loop-place.place in
    let copies : List (Option Copies) = c.loop-place.copies.items in
    let outcomes : List Outcome = c.loop-place.outcomes in
    let count = i.count in
    let long = i.long in
    let ok = c.loop-place.copies.ok.0 in
    let test : place < most_networks = c.loop-place-test.true in
    let inside : place < length copies = omega (arith, test, count, ok) in
    let within : place < length outcomes = omega (arith, test, long) in
    let taken : set copies place c.take-copies.new.self ≡ set copies place None = ap (set copies place) c.take-copies.ensures.after in
    let room = i.room in
    let more = c.offer.ensures.len in
    let same = c.offer.ensures.capacity in
    record {
      count = count;
      long = length-set outcomes place c.offer.result ∙ long;
      offered = λ line are. offered-more g.N.ApName.config line copies _ outcomes _ _ _ place c.take-copies.result c.offer.result test within
          (own-copies copies place _ _ inside c.index_mut.ensures.value c.take-copies.ensures.value) taken c.offer.ensures.heard c.offer.ensures.entries (i.offered line are);
      room = omega (arith, room, more, same);
    }

pub returns-clause-count : goal.returns-clause-count
returns-clause-count g c = c.loop-place.invariant.long

pub returns-clause-heard : goal.returns-clause-heard
returns-clause-heard g c line are place within =
    let over = c.loop-place-test.false in
    let long = c.loop-place.invariant.long in
    let outcomes : List Outcome = c.loop-place.outcomes in
    let lower : place < c.loop-place.place = omega (arith, within, over) in
    let inside : place < length outcomes = omega (arith, long, within) in
    let got = slice_get-get_or outcomes place NotHeard inside in
    let heard = (c.loop-place.invariant.offered line are).heard place lower in (
      λ none. heard.0 (let e : Some (get_or outcomes place NotHeard) ≡ Some NotHeard = sym got ∙ none in cc),
      λ unheard. got ∙ ap Some (heard.1 unheard),
    )

pub returns-clause-entries : goal.returns-clause-entries
returns-clause-entries g c line are =
    let over = c.loop-place-test.false in
    let outcomes : List Outcome = c.loop-place.outcomes in
    let long = c.loop-place.invariant.long in
    let count : length outcomes ≤ c.loop-place.place = omega (arith, over, long) in
    (c.loop-place.invariant.offered line are).kept
    ∙ ap (λ os. c.args.entries.now.items ++ entries_of (event_of_line line) os) (take_all c.loop-place.place outcomes count)

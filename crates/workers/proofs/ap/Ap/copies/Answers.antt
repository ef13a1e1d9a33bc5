use Rattle.std.proofs.Common.{◌≡◌, ◌+◌, ◌++◌, [], ◌∷◌, ℕ, sym, ◌∙◌, arith}
use Rattle.std.proofs.lemmas.List.FromFn.{map-range_with_len_more}
use Rattle.events.specs.LentEvents.{line_of}
use Rattle.workers.specs.Copies.{copies_at}
use Rattle.workers.proofs.ap.Ap.copies.Goals as goal

pub loop-place-preserved : goal.loop-place-preserved
loop-place-preserved g c =
    let i = c.loop-place.invariant in
    let place : ℕ = c.loop-place.place in
    let at : 0 + place ≡ place = omega arith in
    let same = c.in_ok-copies_at.ensures in
    let put = c.push_reserved.ensures in
    let room = i.room in
    let count = i.count in
    let len = put.len in
    let capacity = put.capacity in
    record {
      made =
          put.items ∙ (λ k. i.made k ++ same k ∷ [])
          ∙ sym (map-range_with_len_more (copies_at g.N.ApName.config (line_of c.args.given)) 0 place place at);
      count = omega (arith, count, len);
      room = omega (arith, room, capacity);
    }

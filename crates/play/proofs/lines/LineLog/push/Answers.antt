use Rattle.std.proofs.Common.{ℕ, ◌≤◌, List, length, ap, ◌∙◌, arith}
use Rattle.std.proofs.lemmas.List.{length-append}
use Rattle.play.proofs.LineSteps.{lines-push, order-push}
use Rattle.play.proofs.lines.LineLog.push.Goals as goal

pub invariant_of-self-2 : goal.invariant_of-self-2
invariant_of-self-2 c =
    let old : List ℕ = c.self.inside.octets.items in
    let new : List ℕ = c.extend_from_slice.new.self.items in
    let more : length old ≤ length new =
    omega (arith, ap length c.in_ok-extend_from_slice.ensures.items, length-append old c.parts_of-kind.result.1.now) in
    rw (c.push_reserved.ensures.items, c.in_ok-reserve.ensures.items)
    (order-push 0 c.self.inside.marks.items (length old) (length new) _ c.self.invariant
    (c.len-end.ensures ∙ c.extend_from_slice.new.self.ok.0) more)

pub returns-clause-ok : goal.returns-clause-ok
returns-clause-ok c =
    rw (
      c.push_reserved.ensures.items,
      c.in_ok-reserve.ensures.items,
      c.in_ok-extend_from_slice.ensures.items,
      ← c.self.view_is,
      ← c.parts_of-kind.ensures,
    )
    (lines-push 0 c.self.inside.marks.items c.self.inside.octets.items _ _ c.self.invariant
    (c.len-end.ensures ∙ c.extend_from_slice.new.self.ok.0 ∙ ap length c.in_ok-extend_from_slice.ensures.items))

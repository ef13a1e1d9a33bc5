use Rattle.std.proofs.Common.{◌<◌, ℕ, length, sym, subst, ◌∙◌}
use Rattle.play.proofs.Seats.{kept-still}
use Rattle.play.proofs.seat.Seat.hand.Goals as goal

pub invariant_of-self : goal.invariant_of-self
invariant_of-self g c =
    let seat = c.self.inside in
    let pass = c.hand_first.ensures.pass in (
      pass.0 ∙ c.self.invariant.0,
      subst (λ (p : ℕ). p < length g.N.PlayName.play.config.networks) (sym pass.1) c.self.invariant.1,
      c.self.invariant.2,
      c.self.invariant.3,
      λ fine.
          kept-still g.N.PlayName.play seat.pass.place c.hand_first.new.pass.place seat.next.items seat.network.network _ _
          seat.network.wire seat.given.items pass.1 c.hand_first.ensures.sent (c.self.invariant.4 fine),
    )

use Rattle.std.proofs.Common.{◌≡◌, [], ◌++◌, ℕ, List, refl, sym, subst, ◌∙◌, arith}
use Rattle.std.proofs.lemmas.Grind.{common_steps}
use Rattle.std.proofs.lemmas.List.{append-nil, nil_from_length}
use Rattle.networks.specs.WithFrames.{sent_after}
use Rattle.play.specs.Kept.{IsWholeAt}
use Rattle.play.specs.Sources.{lists_of}
use Rattle.play.proofs.Seats.{ended}
use Rattle.play.proofs.seat.Seat.into_parts.Goals as goal

pub returns-clause-sent : goal.returns-clause-sent
returns-clause-sent g c =
    let seat = c.self.inside in
    let none : seat.network.waiting.items ≡ [] =
    nil_from_length seat.network.waiting.items (grind (arith, common_steps, seat.network.waiting.ok.0)) in
    subst
    (λ (air : List (List ℕ)).
    IsWholeAt g.N.PlayName.play c.args.place air (record {
      network = seat.network.network;
      wire = seat.network.wire;
      given = seat.given;
    }))
    ((λ k. seat.pass.pushed ++ none k) ∙ append-nil seat.pass.pushed)
    (ended g.N.PlayName.play (lists_of c.args.sources) seat.next.items c.as_slice.result.now c.args.place seat.pass.place
    (sent_after seat.pass.pushed seat.network) seat.given.items c.requires c.as_slice.ensures.value
    (sym c.place.ensures ∙ c.if-place.false) (c.if-not-are_ends.ensures refl) (c.self.invariant.4 c.if-self.false))

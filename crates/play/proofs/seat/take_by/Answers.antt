use Rattle.std.proofs.Common.{◌≡◌, true, false, inl, inr, refl, sym, ap, ◌∙◌}
use Rattle.networks.specs.declared.network_with_frames.NetworkWithFrames.{NetworkWithFrames}
use Rattle.play.proofs.Steps.{given-when}
use Rattle.play.proofs.seat.take_by.Goals as goal

pub returns-in_ok-push-clause-given : goal.returns-in_ok-push-clause-given
returns-in_ok-push-clause-given c s es gone was keep =
    given-when c.args.place s.network es c.args.line.now c.args.by c.events-before.result c.events.result
    c.args.given.now.items c.push.new.self.items
    (c.events-before.ensures ∙ ap (λ (l : NetworkWithFrames). l.network.events) was)
    (c.events.ensures ∙ ap (λ (l : NetworkWithFrames). l.network.events) (c.in_ok-take_heard.ensures s es gone was))
    (inl (c.if-took.true, c.in_ok-push.ensures.items))

pub returns-else-keeps-clause-given : goal.returns-else-keeps-clause-given
returns-else-keeps-clause-given c s es gone was keep =
    elim c.else-keeps.either [
      | inl few ↦
          given-when c.args.place s.network es c.args.line.now c.args.by c.events-before.result c.events.result
          c.args.given.now.items c.args.given.now.items
          (c.events-before.ensures ∙ ap (λ (l : NetworkWithFrames). l.network.events) was)
          (c.events.ensures ∙ ap (λ (l : NetworkWithFrames). l.network.events) (c.in_ok-take_heard.ensures s es gone was))
          (inr (few.1, refl))
      | inr not ↦ let no : true ≡ false = sym keep ∙ not in absurd (cc)
    ]

use Rattle.std.proofs.Common.{◌≡◌, ◌<◌, ap, arith}
use Rattle.live_rules.specs.Moments.{Moment}
use Rattle.live.proofs.AnswerSteps.{at, countable, moment-reading}
use Rattle.live.proofs.live_networks.LiveNetworks.answer.Goals as goal

pub answer_reading-requires-clause-countable : goal.answer_reading-requires-clause-countable
answer_reading-requires-clause-countable g c =
    let below : c.args.self.now.lines < 4611686018427387904 = c.requires.countable in
    let same : c.self.inside.lines ≡ c.args.self.now.lines = ap (λ (m : Moment). m.lines) c.self.view_is in
    countable c.self.inside.networks c.self.inside.lines (omega arith) c.self.invariant

pub invariant_of-self : goal.invariant_of-self
invariant_of-self g c =
    moment-reading _ _ c.args.face c.args.reading (at c.self.inside.lines c.self.inside.networks)
    (at c.answer_reading.new.lines c.answer_reading.new.networks) _ _ c.self.invariant
    (λ said is. c.answer_reading.ensures said is)

pub returns : goal.returns
returns g c said is =
    rw (← c.self.view_is) (c.answer_reading.ensures said is)

use Rattle.std.proofs.Common.{◌∙◌, sym, arith}
use Rattle.roster.proofs.SoonestClock.{soonest-set}
use Rattle.roster.proofs.aging_clocks.AgingClocks.enter.Goals as goal

pub returns-clause-soonest : goal.returns-clause-soonest
returns-clause-soonest c h is =
    soonest-set c.args.self.now.clocks.items c.args.self.now.aids.items _ c.args.self.now.soonest c.min-self.result c.from-index.result _
    (omega (arith, c.if-index-len.false, c.len.ensures)) (omega (arith, c.min-self.ensures)) (omega (arith, c.min-self.ensures, c.young_until.ensures))
    (λ m other among. c.in-Some.ensures.2 m (λ same. other (same ∙ sym c.from-index.ensures)) among) h

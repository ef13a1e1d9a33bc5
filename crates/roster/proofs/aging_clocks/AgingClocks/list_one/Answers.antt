use Rattle.std.proofs.Common.{◌∙◌, ℕ, List, Some, sym, ap, subst}
use Rattle.roster.specs.AgingClocks.{AreNoSooner}
use Rattle.roster.proofs.ClocksKept.{station-listed, listed-more}
use Rattle.roster.proofs.SoonestClock.{soonest-more}
use Rattle.roster.proofs.aging_clocks.AgingClocks.list_one.Goals as goal

pub returns-clause-listed : goal.returns-clause-listed
returns-clause-listed c is =
    let entered = rw c.make_room.ensures.aids at c.enter.ensures.entered is in
    listed-more c.args.stations.now.table c.args.one.now c.args.self.now.clocks.items c.make_room.new.self.clocks.items c.enter.new.self.clocks.items c.args.self.now.aids.items c.enter.new.self.aids.items c.make_room.ensures.clocks
    (station-listed c.identifiers_differ.ensures c.args.stations.now.table c.args.one.now c.make_room.new.self.clocks.items c.enter.new.self.clocks.items c.args.self.now.aids.items c.enter.new.self.aids.items c.in-One.addr c.in-Some-Associated.aid c.in-Some-Associated.listen entered.0 c.in-Some-Associated.field-0-2
    c.in-One.is (sym c.state_of.ensures ∙ c.in-Some-Associated.is ∙ ap Some c.in-Some-Associated.field-0-is) entered.1)

pub returns-clause-soonest : goal.returns-clause-soonest
returns-clause-soonest c h is =
    let more = c.make_room.new.self.clocks.items in
    c.enter.ensures.soonest
    (subst (λ (soonest : ℕ). AreNoSooner soonest more c.make_room.new.self.aids.items) (sym c.make_room.ensures.soonest)
    (subst (λ (aids : List ℕ). AreNoSooner c.args.self.now.soonest more aids) (sym c.make_room.ensures.aids)
    (soonest-more c.args.self.now.soonest c.args.self.now.clocks.items more c.args.self.now.aids.items c.make_room.ensures.clocks h))) is

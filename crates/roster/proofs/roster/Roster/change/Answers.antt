use Rattle.std.proofs.Common.{◌≡◌, ◌∙◌, sym, ap, subst, arith}
use Rattle.std.specs.Prelude.{nat_lt}
use Rattle.roster.specs.Roster.{RosterState}
use Rattle.stations.specs.Stations.{IsAllowed}
use Rattle.roster.proofs.RosterChanges.{roster-renumbered, roster-renumbered_not, roster-unkept}
use Rattle.roster.proofs.roster.Roster.change.Goals as goal

pub invariant_of-self : goal.invariant_of-self
invariant_of-self c =
    let allowed = subst (λ (r : RosterState). IsAllowed r.stations.most c.args.change r.stations.table) (sym c.self.view_is) c.requires in
    roster-renumbered_not c.changes_stay_sound.ensures c.others_stay.ensures c.modes_alone.ensures c.change.result c.self.inside.traffic c.self.inside.clocks.complete c.self.inside.clocks.clocks.items c.self.inside.clocks.aids.items c.self.inside.clocks.soonest (record { stations = c.self.inside.stations; kept = c.self.inside.kept }) c.args.change c.change.new.self (sym c.renumbered.ensures ∙ c.in_default.is) allowed c.self.invariant
    c.change.ensures.ok c.change.ensures.err

pub invariant_of-self-then-not-waits : goal.invariant_of-self-then-not-waits
invariant_of-self-then-not-waits c =
    let allowed = subst (λ (r : RosterState). IsAllowed r.stations.most c.args.change r.stations.table) (sym c.self.view_is) c.requires in
    let none : c.count_for-waits.result ≡ 0 = omega (arith, c.if-not-waits.true) in
    roster-unkept c.changes_stay_sound.ensures c.others_stay.ensures c.change-then-not-waits.result c.self.inside.traffic c.self.inside.clocks.complete c.self.inside.clocks.clocks.items c.self.inside.clocks.aids.items c.self.inside.clocks.soonest (record { stations = c.self.inside.stations; kept = c.self.inside.kept }) c.args.change c.in-Some.addr c.change-then-not-waits.new.self (sym c.renumbered.ensures ∙ c.in-Some.is) allowed c.self.invariant
    (ap (nat_lt 0) (sym none ∙ c.count_for-waits.ensures)) c.change-then-not-waits.ensures.ok c.change-then-not-waits.ensures.err

pub invariant_of-self-2 : goal.invariant_of-self-2
invariant_of-self-2 c =
    let allowed = subst (λ (r : RosterState). IsAllowed r.stations.most c.args.change r.stations.table) (sym c.self.view_is) c.requires in
    roster-renumbered c.changes_stay_sound.ensures c.others_stay.ensures c.identifiers_differ.ensures c.self.inside.traffic c.show.new.traffic c.self.inside.clocks.complete _ c.self.inside.clocks.clocks.items _ c.self.inside.clocks.aids.items _ c.self.inside.clocks.soonest _ (record { stations = c.self.inside.stations; kept = c.self.inside.kept }) c.args.change c.in-Some.addr c.change-2.new.self c.aid_of-before.result c.aid_of-after.result _ (sym c.renumbered.ensures ∙ c.in-Some.is) allowed
    c.self.invariant c.lose_one.ensures c.in_ok-change.ensures.ok c.aid_of-before.ensures.aid c.aid_of-after.ensures.aid (ap (nat_lt 0) c.count_for-waits.ensures) c.show.ensures

use Rattle.std.proofs.Common.{◌∙◌, List, sym, subst}
use Rattle.powersave.specs.Keep.{AreOldest, AreToldOnce}
use Rattle.powersave.specs.declared.unit.Oldest.{Oldest}
use Rattle.roster.specs.Roster.{RosterState}
use Rattle.roster.specs.KeptUnits.{CameBy}
use Rattle.roster.proofs.roster.Roster.look_up_due.Goals as goal

pub invariant_of-self : goal.invariant_of-self
invariant_of-self c =
    let h = c.self.invariant in
    let came = subst (λ (r : RosterState). CameBy c.args.clock r.kept.entries) (sym c.self.view_is) c.requires in
    record {
      limit = h.limit;
      sound = h.sound;
      traffic = h.traffic;
      aging = λ all. c.look_up_due.ensures.clocks c.self.inside.stations.most c.args.clock h.sound came h.traffic (h.aging (sym c.look_up_due.ensures.complete ∙ all));
      young = λ all. c.look_up_due.ensures.soonest (h.young (sym c.look_up_due.ensures.complete ∙ all));
    }

pub invariant_of-self-in-Ok : goal.invariant_of-self-in-Ok
invariant_of-self-in-Ok c =
    let h = c.self.invariant in
    let es = c.self.inside.kept.entries in
    let came = subst (λ (r : RosterState). CameBy c.args.clock r.kept.entries) (sym c.self.view_is) c.requires in
    let read = sym c.as_slice.ensures.value in
    record {
      limit = h.limit;
      sound = h.sound;
      traffic = h.traffic;
      aging =
          λ all. c.list.ensures.clocks c.self.inside.stations.most c.args.clock es h.sound (subst (λ (os : List Oldest). AreOldest os es) read c.in-Ok.ensures.each) (subst AreToldOnce read c.in-Ok.ensures.once) came all;
      young = c.list.ensures.soonest;
    }

use Rattle.std.proofs.Common.{List, length, not, sym, ap}
use Rattle.std.specs.Prelude.{nat_lt}
use Rattle.powersave.specs.Keep.{Entry, is_for, without_all}
use Rattle.roster.specs.AgingClocks.{HasClock}
use Rattle.roster.proofs.Aging.{each-filtered}
use Rattle.roster.proofs.roster.Roster.take_for.Goals as goal

pub invariant_of-self : goal.invariant_of-self
invariant_of-self c =
    let es : List Entry = c.self.inside.kept.entries in
    let whom = c.args.whom in
    rw c.take_for-units.ensures.after (record {
      limit = c.self.invariant.limit;
      sound = c.self.invariant.sound;
      traffic =
          c.follow.ensures c.self.invariant.sound es (without_all whom es) (λ other apart. c.parts_stay.ensures.others_dropped whom other es apart)
          (sym (ap (λ us. nat_lt 0 (length us)) (c.parts_stay.ensures.dropped whom es))) c.self.invariant.traffic;
      aging = λ all. each-filtered (λ e. HasClock c.self.inside.clocks.clocks.items c.self.inside.clocks.aids.items c.self.inside.stations.table e.0 e.1.at) (λ entry. not (is_for whom entry)) es (c.self.invariant.aging all);
      young = c.self.invariant.young;
    })

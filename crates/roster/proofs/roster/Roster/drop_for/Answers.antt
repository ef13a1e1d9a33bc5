use Rattle.std.proofs.Common.{◌≡◌, List, length, not, sym, ap, arith}
use Rattle.std.specs.Prelude.{nat_lt}
use Rattle.powersave.specs.Keep.{Entry, Kept, is_for, without_all}
use Rattle.roster.specs.AgingClocks.{HasClock}
use Rattle.roster.proofs.Aging.{each-filtered}
use Rattle.roster.proofs.UnitsLeft.{all-pass}
use Rattle.roster.proofs.roster.Roster.drop_for.Goals as goal

pub invariant_of-self : goal.invariant_of-self
invariant_of-self c =
    let es : List Entry = c.self.inside.kept.entries in
    rw c.drop_for.ensures (record {
      limit = c.self.invariant.limit;
      sound = c.self.invariant.sound;
      traffic =
          c.follow.ensures c.self.invariant.sound es (without_all c.args.whom.now es) (λ other apart. c.parts_stay.ensures.others_dropped c.args.whom.now other es apart)
          (sym (ap (λ us. nat_lt 0 (length us)) (c.parts_stay.ensures.dropped c.args.whom.now es))) c.self.invariant.traffic;
      aging = λ all. each-filtered (λ e. HasClock c.self.inside.clocks.clocks.items c.self.inside.clocks.aids.items c.self.inside.stations.table e.0 e.1.at) (λ entry. not (is_for c.args.whom.now entry)) es (c.self.invariant.aging all);
      young = c.self.invariant.young;
    })

pub invariant_of-self-else-len-before : goal.invariant_of-self-else-len-before
invariant_of-self-else-len-before c =
    let es : List Entry = c.self.inside.kept.entries in
    let whom = c.args.whom.now in
    let after : length c.drop_for.new.self.entries ≡ length (without_all whom es) =
    ap (λ (k : Kept). length k.entries) c.drop_for.ensures in
    let same : without_all whom es ≡ es =
    all-pass (λ entry. not (is_for whom entry)) es
    (omega (arith, after, c.len-before.ensures, c.len.ensures, c.if-len-before.false)) in
    rw (c.drop_for.ensures, same) (record {
      limit = c.self.invariant.limit;
      sound = c.self.invariant.sound;
      traffic = c.self.invariant.traffic;
      aging = c.self.invariant.aging;
      young = c.self.invariant.young;
    })

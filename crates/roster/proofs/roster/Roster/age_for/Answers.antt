use Rattle.std.proofs.Common.{◌≡◌, true, false, List, length, not, sym, ap, arith}
use Rattle.std.proofs.lemmas.Bool.{lt-ltb, le-ltb}
use Rattle.std.specs.Prelude.{nat_lt}
use Rattle.powersave.specs.Keep.{Entry, Kept, is_older, units_for, without_older}
use Rattle.roster.specs.AgingClocks.{HasClock}
use Rattle.roster.proofs.Aging.{each-filtered}
use Rattle.roster.proofs.UnitsLeft.{some-before}
use Rattle.roster.proofs.WaitedFor.{still-shown}
use Rattle.roster.proofs.roster.Roster.age_for.Goals as goal

pub invariant_of-self : goal.invariant_of-self
invariant_of-self c =
    let es : List Entry = c.self.inside.kept.entries in
    let whom = c.args.whom.now in
    let limit = c.args.limit in
    let after : List Entry = without_older whom limit es in
    let none : false ≡ nat_lt 0 (length (units_for whom after)) = sym (le-ltb 0 (length (units_for whom after)) (omega (arith, c.count_for.ensures, c.if-count_for-eq0.true, ap (λ (k : Kept). length (units_for whom k.entries)) c.drop_older-dropped.ensures.after))) in
    rw c.drop_older-dropped.ensures.after (record {
      limit = c.self.invariant.limit;
      sound = c.self.invariant.sound;
      traffic = c.follow.ensures c.self.invariant.sound es after (λ other apart. c.parts_stay.ensures.others_older whom other limit es apart) none c.self.invariant.traffic;
      aging = λ all. each-filtered (λ e. HasClock c.self.inside.clocks.clocks.items c.self.inside.clocks.aids.items c.self.inside.stations.table e.0 e.1.at) (λ entry. not (is_older whom limit entry)) es (c.self.invariant.aging all);
      young = c.self.invariant.young;
    })

pub invariant_of-self-else-count_for-eq0 : goal.invariant_of-self-else-count_for-eq0
invariant_of-self-else-count_for-eq0 c =
    let es : List Entry = c.self.inside.kept.entries in
    let whom = c.args.whom.now in
    let limit = c.args.limit in
    let after : List Entry = without_older whom limit es in
    let some : nat_lt 0 (length (units_for whom after)) ≡ true = lt-ltb 0 (length (units_for whom after)) (omega (arith, c.count_for.ensures, c.if-count_for-eq0.false, ap (λ (k : Kept). length (units_for whom k.entries)) c.drop_older-dropped.ensures.after)) in
    rw c.drop_older-dropped.ensures.after (record {
      limit = c.self.invariant.limit;
      sound = c.self.invariant.sound;
      traffic =
          still-shown whom c.self.inside.stations.table es after c.self.inside.traffic (λ other apart. c.parts_stay.ensures.others_older whom other limit es apart)
          (some-before limit (units_for whom es) (units_for whom after) (c.parts_stay.ensures.older whom limit es)) some c.self.invariant.traffic;
      aging = λ all. each-filtered (λ e. HasClock c.self.inside.clocks.clocks.items c.self.inside.clocks.aids.items c.self.inside.stations.table e.0 e.1.at) (λ entry. not (is_older whom limit entry)) es (c.self.invariant.aging all);
      young = c.self.invariant.young;
    })

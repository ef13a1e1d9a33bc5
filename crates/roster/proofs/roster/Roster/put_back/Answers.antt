use Rattle.std.proofs.Common.{◌≡◌, ◌∙◌, true, List, ◌∷◌, ◌++◌, length, take, drop, sym, ap, arith}
use Rattle.std.specs.Prelude.{nat_lt}
use Rattle.std.proofs.lemmas.Bool.{lt-ltb}
use Rattle.std.proofs.lemmas.List.{length-append}
use Rattle.powersave.specs.Keep.{Entry, units_for}
use Rattle.powersave.specs.Returns.{put_back}
use Rattle.powersave.specs.declared.unit.Unit.{Unit as DataUnit}
use Rattle.roster.specs.Keeping.{aid_for}
use Rattle.roster.specs.Roster.{RosterState}
use Rattle.stations.specs.Stations.{Table}
use Rattle.roster.specs.AgingClocks.{HasClock}
use Rattle.roster.proofs.Returned.{each-put_back}
use Rattle.roster.proofs.WaitedFor.{identifier-range, put-followed}
use Rattle.roster.proofs.roster.Roster.put_back.Goals as goal

-- one among others is one at least
some : (us vs : List DataUnit) (u : DataUnit) → true ≡ nat_lt 0 (length (us ++ u ∷ vs))
some us vs u = sym (lt-ltb 0 (length (us ++ u ∷ vs)) (omega (arith, length-append us (u ∷ vs))))

pub arrive-requires : goal.arrive-requires
arrive-requires c =
    let table : Table = c.self.inside.stations.table in
    let told = c.requires.aid ∙ ap (λ (r : RosterState). aid_for c.args.arriving.whom r.stations.table) (sym c.self.view_is) in
    identifier-range c.identifiers_differ.ensures c.args.arriving.whom table c.args.arriving.aid told c.self.invariant.sound.aids

pub set_bit-requires : goal.set_bit-requires
set_bit-requires c =
    let table : Table = c.self.inside.stations.table in
    let told = c.requires.aid ∙ ap (λ (r : RosterState). aid_for c.args.arriving.whom r.stations.table) (sym c.self.view_is) in
    identifier-range c.identifiers_differ.ensures c.args.arriving.whom table c.args.arriving.aid told c.self.invariant.sound.aids

pub invariant_of-self-2 : goal.invariant_of-self-2
invariant_of-self-2 c =
    let whom = c.args.arriving.whom in
    let unit = c.args.arriving.unit in
    let before = c.args.before in
    let es : List Entry = c.self.inside.kept.entries in
    let us : List DataUnit = units_for whom es in
    let table : Table = c.self.inside.stations.table in
    let told = c.requires.aid ∙ ap (λ (r : RosterState). aid_for whom r.stations.table) (sym c.self.view_is) in
    rw c.in_ok-put_back.ensures.ok (record {
      limit = c.self.invariant.limit;
      sound = c.self.invariant.sound;
      traffic =
          put-followed c.others_stay.ensures c.identifiers_differ.ensures whom table es (put_back whom before unit es) c.self.inside.traffic c.set_bit.new.traffic c.args.arriving.aid
          c.self.invariant.sound.addresses c.self.invariant.sound.aids
          (λ other apart. c.returns_in_its_place.ensures.others whom other before unit es apart)
          (some (take before us) (drop before us) unit ∙ sym (ap (λ vs. nat_lt 0 (length vs)) (c.returns_in_its_place.ensures.place whom before unit es)))
          told c.set_bit.ensures c.self.invariant.traffic;
      aging =
          λ all.
          let both = c.arrive.ensures.clocks c.self.inside.stations.most es c.self.invariant.sound told c.self.invariant.traffic c.self.invariant.aging all in
          each-put_back (λ e. HasClock c.arrive.new.self.clocks.items c.arrive.new.self.aids.items table e.0 e.1.at) whom before unit es both.0 both.1;
      young = c.arrive.ensures.soonest c.self.invariant.young;
    })

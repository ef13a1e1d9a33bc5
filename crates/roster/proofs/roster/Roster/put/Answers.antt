use Rattle.std.proofs.Common.{◌≡◌, ◌∙◌, true, List, [], ◌∷◌, ◌++◌, length, sym, ap, arith}
use Rattle.std.specs.Prelude.{nat_lt}
use Rattle.std.proofs.lemmas.Bool.{lt-ltb}
use Rattle.std.proofs.lemmas.List.{length-append}
use Rattle.powersave.specs.Keep.{Entry, units_for}
use Rattle.powersave.specs.declared.unit.Unit.{Unit as DataUnit}
use Rattle.roster.specs.Keeping.{aid_for}
use Rattle.roster.specs.Roster.{RosterState}
use Rattle.stations.specs.Stations.{Table}
use Rattle.roster.specs.AgingClocks.{HasClock}
use Rattle.roster.proofs.Aging.{each-push}
use Rattle.roster.proofs.WaitedFor.{identifier-range, put-followed}
use Rattle.roster.proofs.roster.Roster.put.Goals as goal

-- one more is one at least
some : (us : List DataUnit) (u : DataUnit) → true ≡ nat_lt 0 (length (us ++ u ∷ []))
some us u = sym (lt-ltb 0 (length (us ++ u ∷ [])) (omega (arith, length-append us (u ∷ []))))

pub arrive-requires : goal.arrive-requires
arrive-requires c =
    let table : Table = c.self.inside.stations.table in
    let told = c.requires.aid ∙ ap (λ (r : RosterState). aid_for c.args.arriving.whom r.stations.table) (sym c.self.view_is) in
    identifier-range c.identifiers_differ.ensures c.args.arriving.whom table c.args.arriving.aid told c.self.invariant.sound.aids

pub set_bit-requires : goal.set_bit-requires
set_bit-requires c =
    let table : Table = c.self.inside.stations.table in
    let told = c.requires.aid ∙ ap (λ (r : RosterState). aid_for c.args.arriving.whom r.stations.table) (sym c.self.view_is) in
    identifier-range c.identifiers_differ.ensures c.args.arriving.whom table c.args.arriving.aid told c.self.invariant.sound.aids

pub invariant_of-self-2 : goal.invariant_of-self-2
invariant_of-self-2 c =
    let whom = c.args.arriving.whom in
    let unit = c.args.arriving.unit in
    let es : List Entry = c.self.inside.kept.entries in
    let table : Table = c.self.inside.stations.table in
    let told = c.requires.aid ∙ ap (λ (r : RosterState). aid_for whom r.stations.table) (sym c.self.view_is) in
    rw c.in_ok-put.ensures.ok (record {
      limit = c.self.invariant.limit;
      sound = c.self.invariant.sound;
      traffic =
          put-followed c.others_stay.ensures c.identifiers_differ.ensures whom table es (es ++ (whom, unit) ∷ []) c.self.inside.traffic c.set_bit.new.traffic c.args.arriving.aid
          c.self.invariant.sound.addresses c.self.invariant.sound.aids
          (λ other apart. c.parts_stay.ensures.others_put whom other unit es apart)
          (some (units_for whom es) unit ∙ sym (ap (λ us. nat_lt 0 (length us)) (c.parts_stay.ensures.put whom unit es)))
          told c.set_bit.ensures c.self.invariant.traffic;
      aging =
          λ all.
          let both = c.arrive.ensures.clocks c.self.inside.stations.most es c.self.invariant.sound told c.self.invariant.traffic c.self.invariant.aging all in
          each-push (λ e. HasClock c.arrive.new.self.clocks.items c.arrive.new.self.aids.items table e.0 e.1.at) (whom, unit) es both.0 both.1;
      young = c.arrive.ensures.soonest c.self.invariant.young;
    })

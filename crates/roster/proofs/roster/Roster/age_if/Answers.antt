use Rattle.std.proofs.Common.{◌≡◌, ◌&&◌, ℕ, Bool, false, List, length, Option, Some, None, sym, ap}
use Rattle.std.specs.Option.{option_map}
use Rattle.powersave.specs.Keep.{Entry}
use Rattle.powersave.specs.declared.unit.Oldest.{Oldest}
use Rattle.stations.specs.Stations.{Table}
use Rattle.roster.specs.KeptUnits.{is_too_old}
use Rattle.roster.specs.Roster.{AgesBy}
use Rattle.roster.proofs.Aging.{none-leaves}
use Rattle.roster.proofs.roster.Roster.age_if.Goals as goal

-- where none is told, none ages
off : (ages : Bool) (clock : ℕ) (t : Table) (o : Option (List Oldest)) (es : List Entry) → o ≡ None → AgesBy ages clock t o es → ages ≡ false
off ages clock t None es none told = told
off ages clock t (Some oldest) es none told = absurd (cc)

pub returns-in-None-clause-count : goal.returns-in-None-clause-count
returns-in-None-clause-count c =
    let leaves : Entry → Bool = λ e. c.args.ages && is_too_old c.args.clock c.args.self.now.stations.table e in
    let none = off c.args.ages c.args.clock c.args.self.now.stations.table _ c.args.self.now.kept.entries (ap (option_map (λ v. v.items)) c.in-None.is) c.requires.oldest in
    sym (ap (λ (es : List Entry). length es) (none-leaves leaves c.args.self.now.kept.entries (λ e. ap (λ b. b && is_too_old c.args.clock c.args.self.now.stations.table e) none)).1)

pub returns-in-None-clause-entries : goal.returns-in-None-clause-entries
returns-in-None-clause-entries c =
    let leaves : Entry → Bool = λ e. c.args.ages && is_too_old c.args.clock c.args.self.now.stations.table e in
    let none = off c.args.ages c.args.clock c.args.self.now.stations.table _ c.args.self.now.kept.entries (ap (option_map (λ v. v.items)) c.in-None.is) c.requires.oldest in
    sym (none-leaves leaves c.args.self.now.kept.entries (λ e. ap (λ b. b && is_too_old c.args.clock c.args.self.now.stations.table e) none)).0

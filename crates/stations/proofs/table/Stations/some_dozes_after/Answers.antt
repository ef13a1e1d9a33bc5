use Rattle.std.proofs.Common.{◌≡◌, ◌∙◌, ℕ, true, false, sym, ap}
use Rattle.std.specs.Prelude.{nat_lt}
use Rattle.std.specs.Int.{from_bool}
use Rattle.stations.specs.Stations.{Table, StationTable, dozes_with, is_dozing, some_station_dozes, set_mode, changed}
use Rattle.stations.specs.declared.table.Change.{Change}
use Rattle.stations.specs.StationsKept.{dozing_count}
use Rattle.stations.proofs.StationTables.{dozing_at, dozes-some, other-dozes, some-dozes, nothing-changes}
use Rattle.stations.proofs.table.Stations.some_dozes_after.Goals as goal

pub returns-in_default : goal.returns-in_default
returns-in_default c =
    let t : Table = c.self.inside.states in
    let table : c.args.self.now.table ≡ t = ap (λ (s : StationTable). s.table) (sym c.self.view_is) in
    ap (nat_lt 0) c.self.invariant.dozing ∙ sym (some-dozes t) ∙ ap some_station_dozes (sym table ∙ sym (nothing-changes c.args.change c.args.self.now.table c.requires c.in_default.not-SetMode))

pub returns-then-after : goal.returns-then-after
returns-then-after c =
    let a = c.in-SetMode.addr in
    let t : Table = c.args.self.now.table in
    let dozes : is_dozing a (set_mode a c.in-SetMode.doze t) ≡ true = ap dozes_with (sym c.state_after.ensures) ∙ sym c.dozes_with-after.ensures ∙ c.if-after.true in
    c.if-after.true ∙ sym (dozes-some a (set_mode a c.in-SetMode.doze t) dozes)
    ∙ ap (λ (k : Change). some_station_dozes (changed k t)) (sym c.in-SetMode.is)

pub returns-else-after : goal.returns-else-after
returns-else-after c =
    let a = c.in-SetMode.addr in
    let t : Table = c.self.inside.states in
    let now : Table = c.args.self.now.table in
    let table : now ≡ t = ap (λ (s : StationTable). s.table) (sym c.self.view_is) in
    let is : (u : Table) → changed c.args.change u ≡ set_mode a c.in-SetMode.doze u = λ u. ap (λ (k : Change). changed k u) c.in-SetMode.is in
    let active : is_dozing a (set_mode a c.in-SetMode.doze now) ≡ false = ap dozes_with (sym c.state_after.ensures) ∙ sym c.dozes_with-after.ensures ∙ c.if-after.false in
    let dozed : c.from.result ≡ dozing_at a now = c.from.ensures ∙ ap from_bool (c.dozes_with-before.ensures ∙ ap dozes_with c.state_of.ensures) in
    ap (λ (n : ℕ). nat_lt n c.self.inside.dozing) dozed
    ∙ ap (nat_lt (dozing_at a now)) (c.self.invariant.dozing ∙ ap dozing_count (sym table))
    ∙ other-dozes a c.in-SetMode.doze now active ∙ ap some_station_dozes (sym (is now))

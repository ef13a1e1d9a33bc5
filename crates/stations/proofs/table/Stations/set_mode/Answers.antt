use Rattle.std.proofs.Common.{◌≡◌, Bool, true, false, ◌≤◌, subst, ◌∙◌, Some, sym, ap, arith}
use Rattle.std.specs.Int.{from_bool}
use Rattle.stations.specs.Stations.{Table, state_of, dozes, dozes_with, set_state, with_mode, set_mode, identifiers}
use Rattle.stations.specs.StationsKept.{AreOut}
use Rattle.stations.proofs.StationTables.{changed_table, dozing_at, dozing-set, dozing-at_most, dozing-few, set_mode-is_set_state, set_mode-unknown}
use Rattle.stations.proofs.StationsSound.{identifiers-moded}
use Rattle.stations.proofs.table.Stations.set_mode.Goals as goal

pub returns-in_default : goal.returns-in_default
returns-in_default c =
    changed_table (set_mode c.args.addr c.args.doze) _ _ _ _ c.self.view_is c.in_default.ensures.stations

pub invariant_of-self : goal.invariant_of-self
invariant_of-self c =
    let t : Table = c.self.inside.states in
    let same : c.set_mode.new.states ≡ t = c.in_default.ensures.stations ∙ set_mode-unknown c.args.addr c.args.doze t (sym c.in_default.ensures.old) in
    rw same c.self.invariant

pub overflow_sub-self : goal.overflow_sub-self
overflow_sub-self c =
    let t : Table = c.self.inside.states in
    let state : Some c.in-Some.before ≡ state_of c.args.addr t = c.in-Some.ensures.old in
    let dozed : c.from.result ≡ dozing_at c.args.addr t = c.from.ensures ∙ ap from_bool (c.dozes_with.ensures ∙ ap dozes_with state) in
    omega (arith, dozed, dozing-at_most c.args.addr t, c.self.invariant.dozing)

pub overflow_add-self : goal.overflow_add-self
overflow_add-self c =
    let t : Table = c.self.inside.states in
    omega (arith, c.self.invariant.limit, c.self.invariant.dozing, dozing-few t, c.self.invariant.pool.few, c.from-2.ensures, one c.dozes_with-2.result)
  where
    one : (b : Bool) → from_bool b ≤ 1
    one true = omega arith
    one false = omega arith

pub invariant_of-self-2 : goal.invariant_of-self-2
invariant_of-self-2 c =
    let t : Table = c.self.inside.states in
    let known = c.in-Some.before in
    let state : Some known ≡ state_of c.args.addr t = c.in-Some.ensures.old in
    let moded : set_mode c.args.addr c.args.doze t ≡ set_state c.args.addr (with_mode c.args.doze known) t = set_mode-is_set_state c.args.addr c.args.doze known t (sym state) in
    let same : identifiers (set_state c.args.addr (with_mode c.args.doze known) t) ≡ identifiers t = ap identifiers (sym moded) ∙ identifiers-moded c.args.addr c.args.doze t in
    let dozed : c.from.result ≡ dozing_at c.args.addr t = c.from.ensures ∙ ap from_bool (c.dozes_with.ensures ∙ ap dozes_with state) in
    let doze : c.from-2.result ≡ from_bool (dozes (with_mode c.args.doze known)) = c.from-2.ensures ∙ ap from_bool (c.dozes_with-2.ensures ∙ ap dozes c.with_mode-state.ensures) in
    let set : c.set_mode.new.states ≡ set_state c.args.addr (with_mode c.args.doze known) t = c.in-Some.ensures.stations ∙ moded in
    rw set (record {
      limit = c.self.invariant.limit;
      pool = subst (AreOut c.self.inside.pool.most c.self.inside.pool.out) (sym same) c.self.invariant.pool;
      dozing = omega (arith, dozed, doze, dozing-set c.args.addr (with_mode c.args.doze known) t, dozing-at_most c.args.addr t, c.self.invariant.dozing);
    })

pub returns : goal.returns
returns c =
    changed_table (set_mode c.args.addr c.args.doze) _ _ _ _ c.self.view_is c.in-Some.ensures.stations

use Rattle.std.proofs.Common.{◌≡◌, ◌∙◌, Some, None, sym, ap, subst, arith}
use Rattle.std.specs.Int.{from_bool}
use Rattle.stations.specs.Stations.{Table, StationTable, state_of, aid_with, dozes_with}
use Rattle.stations.specs.Restoring.{restored, state_fault}
use Rattle.stations.proofs.StationTables.{with_entry-is_set_state, changed_table, dozing-few}
use Rattle.stations.proofs.Restored.{IsTakeable, takeable, may_be_taken, out-restored, out-restored_none, one_at_most, dozing-restored}
use Rattle.stations.proofs.table.Stations.add.Goals as goal

pub overflow_add-self : goal.overflow_add-self
overflow_add-self c =
    let t : Table = c.self.inside.states in
    let few = dozing-few t in
    omega (arith, few, c.self.invariant.dozing, c.self.invariant.pool.few, c.self.invariant.limit, c.from.ensures, one_at_most c.dozes_with.result)

pub invariant_of-self-in-Some : goal.invariant_of-self-in-Some
invariant_of-self-in-Some c =
    let t : Table = c.self.inside.states in
    let most = c.self.inside.pool.most in
    let seen = c.self.view_is in
    let unknown = subst (λ (s : StationTable). state_of c.args.addr s.table ≡ None) (sym seen) c.requires.unknown in
    let may = subst (λ (s : StationTable). state_fault s.most c.args.state s.table ≡ None) (sym seen) c.requires.may in
    let has : aid_with (Some c.args.state) ≡ Some c.in-Some.aid = sym c.in-Some.ensures in
    let free : IsTakeable most c.in-Some.aid t = takeable most c.in-Some.aid c.args.state t has may in
    let taken = c.take_this.ensures.taken (c.take_this.ensures.may.1 (may_be_taken most c.self.inside.pool.out c.in-Some.aid t free c.self.invariant.pool)) in
    let now : c.insert.new.self ≡ restored c.args.addr c.args.state t = c.in-Ok.ensures.entries ∙ with_entry-is_set_state c.args.addr c.args.state t in
    let dozing : c.from.result ≡ from_bool (dozes_with (Some c.args.state)) = c.from.ensures ∙ ap from_bool c.dozes_with.ensures in
    rw (taken, now) (record {
      limit = c.self.invariant.limit;
      pool = out-restored most c.self.inside.pool.out c.args.addr c.args.state t c.in-Some.aid unknown has free c.self.invariant.pool;
      dozing = omega (arith, dozing, dozing-restored c.args.addr c.args.state t unknown, c.self.invariant.dozing);
    })

pub invariant_of-self-in_default-aid_with : goal.invariant_of-self-in_default-aid_with
invariant_of-self-in_default-aid_with c =
    let t : Table = c.self.inside.states in
    let most = c.self.inside.pool.most in
    let seen = c.self.view_is in
    let unknown = subst (λ (s : StationTable). state_of c.args.addr s.table ≡ None) (sym seen) c.requires.unknown in
    let none : aid_with (Some c.args.state) ≡ None = sym c.in_default-aid_with.ensures in
    let now : c.insert.new.self ≡ restored c.args.addr c.args.state t = c.in-Ok.ensures.entries ∙ with_entry-is_set_state c.args.addr c.args.state t in
    let dozing : c.from.result ≡ from_bool (dozes_with (Some c.args.state)) = c.from.ensures ∙ ap from_bool c.dozes_with.ensures in
    rw now (record {
      limit = c.self.invariant.limit;
      pool = out-restored_none most c.self.inside.pool.out c.args.addr c.args.state t unknown none c.self.invariant.pool;
      dozing = omega (arith, dozing, dozing-restored c.args.addr c.args.state t unknown, c.self.invariant.dozing);
    })

pub returns-in-Some-clause-ok : goal.returns-in-Some-clause-ok
returns-in-Some-clause-ok c told =
    let t : Table = c.self.inside.states in
    let most = c.self.inside.pool.most in
    let may = subst (λ (s : StationTable). state_fault s.most c.args.state s.table ≡ None) (sym c.self.view_is) c.requires.may in
    let free : IsTakeable most c.in-Some.aid t = takeable most c.in-Some.aid c.args.state t (sym c.in-Some.ensures) may in
    let taken = c.take_this.ensures.taken (c.take_this.ensures.may.1 (may_be_taken most c.self.inside.pool.out c.in-Some.aid t free c.self.invariant.pool)) in
    rw taken (changed_table (restored c.args.addr c.args.state) _ _ _ _ c.self.view_is (c.in-Ok.ensures.entries ∙ with_entry-is_set_state c.args.addr c.args.state t))

pub returns-in_default-aid_with-clause-ok : goal.returns-in_default-aid_with-clause-ok
returns-in_default-aid_with-clause-ok c told =
    changed_table (restored c.args.addr c.args.state) _ _ _ _ c.self.view_is (c.in-Ok.ensures.entries ∙ with_entry-is_set_state c.args.addr c.args.state c.self.inside.states)

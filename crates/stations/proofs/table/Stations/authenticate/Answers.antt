use Rattle.std.proofs.Common.{◌≡◌, ◌∙◌, Some, None, sym, ap, arith}
use Rattle.std.specs.Int.{from_bool}
use Rattle.stations.specs.Stations.{Table, aid_of, aid_with, dozes_with, set_state, authenticate}
use Rattle.station_state.specs.declared.state.StationState.TheVariants.{Authenticated}
use Rattle.stations.proofs.StationTables.{with_entry-is_set_state, out-of_associated, out-freed, out-kept, changed_table, dozing_at, dozing-set, dozing-at_most}
use Rattle.stations.proofs.table.Stations.authenticate.Goals as goal

pub overflow_sub-self : goal.overflow_sub-self
overflow_sub-self c =
    let t : Table = c.self.inside.states in
    let dozed : c.from.result ≡ dozing_at c.args.addr t = c.from.ensures ∙ ap from_bool (c.dozes_with.ensures ∙ ap dozes_with c.in_ok-before.ensures.old) in
    omega (arith, dozed, dozing-at_most c.args.addr t, c.self.invariant.dozing)

pub give-requires : goal.give-requires
give-requires c =
    let t : Table = c.self.inside.states in
    let had : aid_of c.args.addr t ≡ Some c.in-Some.aid = ap aid_with (sym c.in_ok-before.ensures.old) ∙ sym c.in-Some.ensures in
    out-of_associated c.self.inside.pool.most c.self.inside.pool.out c.args.addr t c.in-Some.aid had c.self.invariant.pool

pub invariant_of-self-in-Some : goal.invariant_of-self-in-Some
invariant_of-self-in-Some c =
    let t : Table = c.self.inside.states in
    let had : aid_of c.args.addr t ≡ Some c.in-Some.aid = ap aid_with (sym c.in_ok-before.ensures.old) ∙ sym c.in-Some.ensures in
    let now : c.insert.new.self ≡ set_state c.args.addr Authenticated t = (c.in_ok-before.ensures.entries ∙ with_entry-is_set_state c.args.addr Authenticated c.self.inside.states) in
    let dozed : c.from.result ≡ dozing_at c.args.addr t = c.from.ensures ∙ ap from_bool (c.dozes_with.ensures ∙ ap dozes_with c.in_ok-before.ensures.old) in
    rw (c.give.ensures, now) (record {
      limit = c.self.invariant.limit;
      pool = (out-freed c.self.inside.pool.most c.self.inside.pool.out c.args.addr t c.in-Some.aid had c.self.invariant.pool).0;
      dozing = omega (arith, dozed, dozing-set c.args.addr Authenticated t, dozing-at_most c.args.addr t, c.self.invariant.dozing);
    })

pub invariant_of-self-in_default : goal.invariant_of-self-in_default
invariant_of-self-in_default c =
    let t : Table = c.self.inside.states in
    let had : aid_of c.args.addr t ≡ None = ap aid_with (sym c.in_ok-before.ensures.old) ∙ sym c.in_default.ensures in
    let now : c.insert.new.self ≡ set_state c.args.addr Authenticated t = (c.in_ok-before.ensures.entries ∙ with_entry-is_set_state c.args.addr Authenticated c.self.inside.states) in
    let dozed : c.from.result ≡ dozing_at c.args.addr t = c.from.ensures ∙ ap from_bool (c.dozes_with.ensures ∙ ap dozes_with c.in_ok-before.ensures.old) in
    rw now (record {
      limit = c.self.invariant.limit;
      pool = (out-kept c.self.inside.pool.most c.self.inside.pool.out c.args.addr t had c.self.invariant.pool).0;
      dozing = omega (arith, dozed, dozing-set c.args.addr Authenticated t, dozing-at_most c.args.addr t, c.self.invariant.dozing);
    })

pub returns-in-Some-clause-ok : goal.returns-in-Some-clause-ok
returns-in-Some-clause-ok c =
    rw c.give.ensures
    (changed_table (authenticate c.args.addr) _ _ _ _ c.self.view_is ((c.in_ok-before.ensures.entries ∙ with_entry-is_set_state c.args.addr Authenticated c.self.inside.states)))

pub returns-in_default-clause-ok : goal.returns-in_default-clause-ok
returns-in_default-clause-ok c =
    changed_table (authenticate c.args.addr) _ _ _ _ c.self.view_is ((c.in_ok-before.ensures.entries ∙ with_entry-is_set_state c.args.addr Authenticated c.self.inside.states))

use Rattle.std.proofs.Common.{◌≡◌, ◌∙◌, Some, is_some, if◌then◌else◌, sym, ap, arith}
use Rattle.std.specs.Int.{from_bool}
use Rattle.stations.specs.Stations.{Table, StationTable, aid_of, aid_with, dozes_with, state_of, set_state, disassociate}
use Rattle.station_state.specs.declared.state.StationState.TheVariants.{Authenticated}
use Rattle.stations.proofs.StationTables.{out-of_associated, out-freed, changed_table, dozing_at, dozing-set, dozing-at_most}
use Rattle.stations.proofs.table.Stations.disassociate.Goals as goal

pub overflow_sub-self : goal.overflow_sub-self
overflow_sub-self c =
    let t : Table = c.self.inside.states in
    let table : c.args.self.now.table ≡ t = ap (λ (s : StationTable). s.table) (sym c.self.view_is) in
    let state : c.state_of-before.result ≡ state_of c.args.addr t = c.state_of-before.ensures ∙ ap (state_of c.args.addr) table in
    let dozed : c.from.result ≡ dozing_at c.args.addr t = c.from.ensures ∙ ap from_bool (c.dozes_with.ensures ∙ ap dozes_with state) in
    omega (arith, dozed, dozing-at_most c.args.addr t, c.self.invariant.dozing)

pub give-requires : goal.give-requires
give-requires c =
    let t : Table = c.self.inside.states in
    let table : c.args.self.now.table ≡ t = ap (λ (s : StationTable). s.table) (sym c.self.view_is) in
    let state : c.state_of-before.result ≡ state_of c.args.addr t = c.state_of-before.ensures ∙ ap (state_of c.args.addr) table in
    let had : aid_of c.args.addr t ≡ Some c.in-Some.aid = ap aid_with (sym state) ∙ sym c.in-Some.ensures in
    out-of_associated c.self.inside.pool.most c.self.inside.pool.out c.args.addr t c.in-Some.aid had c.self.invariant.pool

pub invariant_of-self : goal.invariant_of-self
invariant_of-self c =
    let t : Table = c.self.inside.states in
    let table : c.args.self.now.table ≡ t = ap (λ (s : StationTable). s.table) (sym c.self.view_is) in
    let state : c.state_of-before.result ≡ state_of c.args.addr t = c.state_of-before.ensures ∙ ap (state_of c.args.addr) table in
    let had : aid_of c.args.addr t ≡ Some c.in-Some.aid = ap aid_with (sym state) ∙ sym c.in-Some.ensures in
    let dozed : c.from.result ≡ dozing_at c.args.addr t = c.from.ensures ∙ ap from_bool (c.dozes_with.ensures ∙ ap dozes_with state) in
    rw (c.give.ensures, c.set_known.ensures) (record {
      limit = c.self.invariant.limit;
      pool = (out-freed c.self.inside.pool.most c.self.inside.pool.out c.args.addr t c.in-Some.aid had c.self.invariant.pool).0;
      dozing = omega (arith, dozed, dozing-set c.args.addr Authenticated t, dozing-at_most c.args.addr t, c.self.invariant.dozing);
    })

pub returns : goal.returns
returns c =
    let t : Table = c.self.inside.states in
    let table : c.args.self.now.table ≡ t = ap (λ (s : StationTable). s.table) (sym c.self.view_is) in
    let state : c.state_of-before.result ≡ state_of c.args.addr t = c.state_of-before.ensures ∙ ap (state_of c.args.addr) table in
    let had : aid_of c.args.addr t ≡ Some c.in-Some.aid = ap aid_with (sym state) ∙ sym c.in-Some.ensures in
    let change : set_state c.args.addr Authenticated t ≡ disassociate c.args.addr t = ap (λ o. if is_some o then set_state c.args.addr Authenticated t else t) (sym had) in
    rw c.give.ensures (changed_table (disassociate c.args.addr) _ _ _ _ c.self.view_is (c.set_known.ensures ∙ change))

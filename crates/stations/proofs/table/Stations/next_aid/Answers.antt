use Rattle.std.proofs.Common.{◌≡◌, ◌∙◌, Some, None, unwrap_or, sym, ap, subst}
use Rattle.std.specs.Prelude.{IfSome}
use Rattle.std.specs.FinSet as set
use Rattle.aid_pool.specs.LeastFree.{least_free, is_among}
use Rattle.stations.specs.Stations.{Table, StationTable, aid_of, aid_with, state_of, identifiers, next_aid}
use Rattle.stations.proofs.StationTables.{least-of_out, range-of_associated, room-where}
use Rattle.stations.proofs.table.Stations.next_aid.Goals as goal

pub returns-in-Some-clause-last : goal.returns-in-Some-clause-last
returns-in-Some-clause-last c =
    let t : Table = c.self.inside.states in
    let table : c.args.self.now.table ≡ t = ap (λ (s : StationTable). s.table) (sym c.self.view_is) in
    let state : c.args.state ≡ state_of c.args.addr t = c.requires ∙ ap (state_of c.args.addr) table in
    let had : aid_of c.args.addr t ≡ Some c.in-Some.aid = ap aid_with (sym state) ∙ sym c.in-Some.ensures in
    (range-of_associated c.args.addr t c.in-Some.aid had c.self.invariant.pool.sound).1

pub returns-in-None-clause-room : goal.returns-in-None-clause-room
returns-in-None-clause-room c =
    let t : Table = c.self.inside.states in
    let table : c.args.self.now.table ≡ t = ap (λ (s : StationTable). s.table) (sym c.self.view_is) in
    let state : c.args.state ≡ state_of c.args.addr t = c.requires ∙ ap (state_of c.args.addr) table in
    let none : aid_of c.args.addr t ≡ None = ap aid_with (sym state) ∙ sym c.in-None.ensures in
    let most : c.args.self.now.most ≡ c.self.inside.pool.most = ap (λ (s : StationTable). s.most) (sym c.self.view_is) in
    rw (table, most, none) (room-where c.self.inside.pool.most c.self.inside.pool.out (identifiers t) c.least.result c.least.ensures.none c.self.invariant.pool)

pub returns-in-None-clause-aid : goal.returns-in-None-clause-aid
returns-in-None-clause-aid c =
    let t : Table = c.self.inside.states in
    let table : c.args.self.now.table ≡ t = ap (λ (s : StationTable). s.table) (sym c.self.view_is) in
    let state : c.args.state ≡ state_of c.args.addr t = c.requires ∙ ap (state_of c.args.addr) table in
    let none : aid_of c.args.addr t ≡ None = ap aid_with (sym state) ∙ sym c.in-None.ensures in
    let number : least_free (set.contains c.self.inside.pool.out) ≡ next_aid c.args.addr c.args.self.now.table =
    least-of_out c.self.inside.pool.most c.self.inside.pool.out (identifiers t) c.self.invariant.pool ∙ ap (λ o. unwrap_or o (least_free (is_among (identifiers t)))) (sym none) ∙ ap (next_aid c.args.addr) (sym table) in
    subst (λ n. IfSome c.least.result (λ aid. aid ≡ n)) number c.least.ensures.number

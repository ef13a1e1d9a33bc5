use Rattle.std.proofs.Common.{◌≡◌, ◌∙◌, Some, None, true, false, is_some, unwrap_or, refl, sym, ap, ◌≢◌, ◌<◌, arith}
use Rattle.std.specs.Int.{from_bool}
use Rattle.stations.specs.Stations.{Table, StationTable, aid_of, aid_with, dozes_with, state_of, identifiers, next_aid, set_state, associate}
use Rattle.station_state.specs.declared.state.StationState.TheVariants.{Associated}
use Rattle.aid_pool.specs.LeastFree.{least_free, is_among}
use Rattle.std.specs.FinSet as set
use Rattle.stations.proofs.StationTables.{out-associated, out-associated_again, authenticated-where, least-of_out, changed_table, dozing_at, dozing-set, dozing-at_most}
use Rattle.std.proofs.lemmas.Bool.{both_ways}
use Rattle.stations.proofs.table.Stations.associate.Goals as goal
use Rattle.stations.proofs.table.Stations.associate.Goals.{in-Some, in-None}

pub overflow_sub-self : goal.overflow_sub-self
overflow_sub-self c =
    let t : Table = c.self.inside.states in
    let table : c.args.self.now.table ≡ t = ap (λ (s : StationTable). s.table) (sym c.self.view_is) in
    let state : c.state_of-before.result ≡ state_of c.args.addr t = c.state_of-before.ensures ∙ ap (state_of c.args.addr) table in
    let dozed : c.from.result ≡ dozing_at c.args.addr t = c.from.ensures ∙ ap from_bool (c.dozes_with.ensures ∙ ap dozes_with state) in
    omega (arith, dozed, dozing-at_most c.args.addr t, c.self.invariant.dozing)

pub invariant_of-self : goal.invariant_of-self
invariant_of-self c =
    let t : Table = c.self.inside.states in
    let table : c.args.self.now.table ≡ t = ap (λ (s : StationTable). s.table) (sym c.self.view_is) in
    let state : c.state_of-before.result ≡ state_of c.args.addr t = c.state_of-before.ensures ∙ ap (state_of c.args.addr) table in
    let dozed : c.from.result ≡ dozing_at c.args.addr t = c.from.ensures ∙ ap from_bool (c.dozes_with.ensures ∙ ap dozes_with state) in
    let known : is_some (state_of c.args.addr t) ≡ true = ap (λ (u : Table). is_some (state_of c.args.addr u)) (sym table) ∙ c.requires.known in
    elim c.match-aid_with.branch [
      | in-Some w ↦
          let had : aid_of c.args.addr t ≡ Some w.in-Some.aid = ap aid_with (sym state) ∙ sym w.in-Some.ensures in
          rw (c.set_known.ensures, w.self-inside-is, w.aid-is) (record {
            limit = c.self.invariant.limit;
            pool = out-associated_again c.self.inside.pool.most c.self.inside.pool.out c.args.addr t w.in-Some.aid c.args.listen false had c.self.invariant.pool;
            dozing = omega (arith, dozed, dozing-set c.args.addr (Associated w.in-Some.aid c.args.listen false) t, dozing-at_most c.args.addr t, c.self.invariant.dozing);
          })
      | in-None w ↦
          let none : aid_of c.args.addr t ≡ None = ap aid_with (sym state) ∙ sym w.in-None.ensures in
          let least = rw w.unwrap-aid.ensures at w.take.ensures.least in
          let free = rw w.unwrap-aid.ensures at w.take.ensures.none in
          let some : set.len c.self.inside.pool.out ≢ c.self.inside.pool.most = λ e. both_ways true (free.1 e) refl in
          let room : set.len c.self.inside.pool.out < c.self.inside.pool.most = omega (arith, some, c.self.invariant.pool.count, c.self.invariant.pool.few) in
          let taken = rw w.unwrap-aid.ensures at w.take.ensures.taken in
          rw (c.set_known.ensures, w.self-inside-is, w.aid-is, taken) (record {
            limit = c.self.invariant.limit;
            pool = out-associated c.self.inside.pool.most c.self.inside.pool.out c.args.addr t w.unwrap-aid.result c.args.listen false (authenticated-where c.args.addr t known none) least room c.self.invariant.pool;
            dozing = omega (arith, dozed, dozing-set c.args.addr (Associated w.unwrap-aid.result c.args.listen false) t, dozing-at_most c.args.addr t, c.self.invariant.dozing);
          })
    ]

pub returns : goal.returns
returns c =
    let t : Table = c.self.inside.states in
    let table : c.args.self.now.table ≡ t = ap (λ (s : StationTable). s.table) (sym c.self.view_is) in
    let state : c.state_of-before.result ≡ state_of c.args.addr t = c.state_of-before.ensures ∙ ap (state_of c.args.addr) table in
    elim c.match-aid_with.branch [
      | in-Some w ↦
          let had : aid_of c.args.addr t ≡ Some w.in-Some.aid = ap aid_with (sym state) ∙ sym w.in-Some.ensures in
          let aid : w.in-Some.aid ≡ next_aid c.args.addr t = ap (λ o. unwrap_or o (least_free (is_among (identifiers t)))) (sym had) in
          rw (w.self-inside-is)
          (changed_table (associate c.args.addr c.args.listen) _ _ _ _ c.self.view_is (c.set_known.ensures ∙ rw (w.self-inside-is, w.aid-is) (ap (λ n. set_state c.args.addr (Associated n c.args.listen false) t) aid)))
      | in-None w ↦
          let none : aid_of c.args.addr t ≡ None = ap aid_with (sym state) ∙ sym w.in-None.ensures in
          let number = rw w.unwrap-aid.ensures at w.take.ensures.number in
          let taken = rw w.unwrap-aid.ensures at w.take.ensures.taken in
          let aid : w.unwrap-aid.result ≡ next_aid c.args.addr t =
          number ∙ least-of_out c.self.inside.pool.most c.self.inside.pool.out (identifiers t) c.self.invariant.pool ∙ ap (λ o. unwrap_or o (least_free (is_among (identifiers t)))) (sym none) in
          rw (w.self-inside-is, taken)
          (changed_table (associate c.args.addr c.args.listen) _ _ _ _ c.self.view_is (c.set_known.ensures ∙ rw (w.self-inside-is, w.aid-is) (ap (λ n. set_state c.args.addr (Associated n c.args.listen false) t) aid)))
    ]

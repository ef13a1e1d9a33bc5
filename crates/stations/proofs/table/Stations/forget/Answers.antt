use Rattle.std.proofs.Common.{◌≡◌, ◌∙◌, Some, None, sym, ap, arith}
use Rattle.std.specs.Int.{from_bool}
use Rattle.stations.specs.Stations.{Table, aid_of, aid_with, dozes_with, forget}
use Rattle.stations.proofs.StationTables.{out-of_associated, out-freed, out-kept, dozing_at, dozing-forgotten}
use Rattle.stations.proofs.table.Stations.forget.Goals as goal

pub overflow_sub-self : goal.overflow_sub-self
overflow_sub-self c =
    let t : Table = c.self.inside.states in
    let dozed : c.from.result ≡ dozing_at c.args.addr t = c.from.ensures ∙ ap from_bool (c.dozes_with.ensures ∙ ap dozes_with c.remove-before.ensures.old) in
    omega (arith, dozed, dozing-forgotten c.args.addr t, c.self.invariant.dozing)

pub give-requires : goal.give-requires
give-requires c =
    let t : Table = c.self.inside.states in
    let had : aid_of c.args.addr t ≡ Some c.in-Some.aid = ap aid_with (sym c.remove-before.ensures.old) ∙ sym c.in-Some.ensures in
    out-of_associated c.self.inside.pool.most c.self.inside.pool.out c.args.addr t c.in-Some.aid had c.self.invariant.pool

pub invariant_of-self : goal.invariant_of-self
invariant_of-self c =
    let t : Table = c.self.inside.states in
    let had : aid_of c.args.addr t ≡ Some c.in-Some.aid = ap aid_with (sym c.remove-before.ensures.old) ∙ sym c.in-Some.ensures in
    let now : c.remove-before.new.self ≡ forget c.args.addr t = c.remove-before.ensures.entries in
    let dozed : c.from.result ≡ dozing_at c.args.addr t = c.from.ensures ∙ ap from_bool (c.dozes_with.ensures ∙ ap dozes_with c.remove-before.ensures.old) in
    rw (c.give.ensures, now) (record {
      limit = c.self.invariant.limit;
      pool = (out-freed c.self.inside.pool.most c.self.inside.pool.out c.args.addr t c.in-Some.aid had c.self.invariant.pool).1;
      dozing = omega (arith, dozed, dozing-forgotten c.args.addr t, c.self.invariant.dozing);
    })

pub invariant_of-self-in_default : goal.invariant_of-self-in_default
invariant_of-self-in_default c =
    let t : Table = c.self.inside.states in
    let had : aid_of c.args.addr t ≡ None = ap aid_with (sym c.remove-before.ensures.old) ∙ sym c.in_default.ensures in
    let now : c.remove-before.new.self ≡ forget c.args.addr t = c.remove-before.ensures.entries in
    let dozed : c.from.result ≡ dozing_at c.args.addr t = c.from.ensures ∙ ap from_bool (c.dozes_with.ensures ∙ ap dozes_with c.remove-before.ensures.old) in
    rw now (record {
      limit = c.self.invariant.limit;
      pool = (out-kept c.self.inside.pool.most c.self.inside.pool.out c.args.addr t had c.self.invariant.pool).1;
      dozing = omega (arith, dozed, dozing-forgotten c.args.addr t, c.self.invariant.dozing);
    })

use Rattle.std.proofs.Common.{sym, arith}
use Rattle.tim.proofs.Reading.{read_shows}
use Rattle.tim.proofs.Laws.{one_meaning}
use Rattle.tim.proofs.element.read_tim.Goals as goal

pub returns-clause-found : goal.returns-clause-found
returns-clause-found c =
    let r = c.in_ok-fields in
    read_shows c.args.element.now r.fields.count r.fields.period r.fields.control c.from.result r.fields.octets.now _ r.ensures.found
    (λ place. omega (arith, c.type_inv.element place)) (sym c.if-not-is_spelled.ensures) c.from.ensures c.from_octets.ensures.numbers

pub returns-clause-only : goal.returns-clause-only
returns-clause-only c = λ count period group members w.
    one_meaning c.args.element.now c.in_ok-fields.fields.count count c.in_ok-fields.fields.period period _ group _ members (returns-clause-found c) w

pub returns-clause-aids : goal.returns-clause-aids
returns-clause-aids c = c.from_octets.ensures.aids

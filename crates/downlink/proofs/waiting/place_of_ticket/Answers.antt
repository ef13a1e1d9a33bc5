use Rattle.downlink.proofs.Firsts.{first_by_ticket, nowhere_by_ticket}
use Rattle.downlink.proofs.waiting.place_of_ticket.Goals as goal

pub returns-then-one-ticket-clause-found : goal.returns-then-one-ticket-clause-found
returns-then-one-ticket-clause-found c =
    first_by_ticket c.args.ticket c.args.sent.now c.loop-place.place _ c.if-one-ticket.true c.loop-place-test.true
    c.loop-place.invariant

pub returns-clause-none : goal.returns-clause-none
returns-clause-none c =
    nowhere_by_ticket c.args.ticket c.args.sent.now c.loop-place.place c.loop-place-test.false c.loop-place.invariant

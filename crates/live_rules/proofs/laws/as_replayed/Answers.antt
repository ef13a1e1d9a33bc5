use Rattle.live_rules.proofs.Replayed.{is-shown, trace-lines}
use Rattle.live_rules.proofs.laws.as_replayed.Goals as goal

pub returns-clause-shown : goal.returns-clause-shown
returns-clause-shown c =
    is-shown
    (record { first = c.one_step.ensures.first; next = c.one_step.ensures.next; append = c.steps_append.ensures })
    c.reachable.ensures c.checked_networks.ensures.networks c.checked_numbers.ensures.events

pub returns-clause-text : goal.returns-clause-text
returns-clause-text c = trace-lines

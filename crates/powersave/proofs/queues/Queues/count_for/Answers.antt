use Rattle.std.proofs.Common.{length, sym, ap, ◌∙◌}
use Rattle.powersave.proofs.QueueSteps.{queue_found, queue_missing}
use Rattle.powersave.proofs.Whoms.{found_in, missing_in}
use Rattle.powersave.proofs.queues.Queues.count_for.Goals as goal

pub returns-in-Some : goal.returns-in-Some
returns-in-Some c =
    let map = c.args.self.now.map in
    let queue = c.in-Some.queue.now in
    let found = found_in c.args.whom.now map queue c.in-Some.ensures.value in
    c.len.ensures ∙ queue.ok.0 ∙ ap length (sym (queue_found c.args.whom.now map.entries queue found))

pub returns-in-None : goal.returns-in-None
returns-in-None c =
    let map = c.args.self.now.map in
    ap length (sym (queue_missing c.args.whom.now map.entries (missing_in c.args.whom.now map c.in-None.ensures.value)))

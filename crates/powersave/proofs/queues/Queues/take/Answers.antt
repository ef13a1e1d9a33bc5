use Rattle.std.proofs.Common.{length, sym, ap, ◌∙◌}
use Rattle.indexmap.specs.IndexMap.{swap_remove_entry}
use Rattle.powersave.specs.Queues.{units_of}
use Rattle.powersave.proofs.QueueSteps.{queue_found, queue_missing, removes, units_for-entries_in}
use Rattle.powersave.proofs.Whoms.{is_at_whom, found_in, missing_in, one_each, stays_for}
use Rattle.powersave.proofs.queues.Queues.take.Goals as goal

pub returns-in-Some : goal.returns-in-Some
returns-in-Some c =
    let whom = c.args.whom.now in
    let map = c.args.self.now.map in
    let new = c.swap_remove.new.self in
    let queue = c.in-Some.queue in
    let items = queue_found whom map.entries queue (found_in whom map queue c.in-Some.ensures.value) in
    record {
      units = λ puts sound. sym (units_for-entries_in puts whom map.entries sound ∙ ap units_of items);
      gone =
          removes whom map.entries new.entries (length queue.items)
          (c.in-Some.ensures.entries ∙ ap (λ t. swap_remove_entry t map.entries) (is_at_whom whom))
          (one_each new c.in-Some.ensures.unique)
          (λ other apart. stays_for whom other map.entries new.entries apart (c.in-Some.ensures.updates.2 other))
          (ap length (sym items));
    }

pub returns-in-None : goal.returns-in-None
returns-in-None c =
    let whom = c.args.whom.now in
    let map = c.args.self.now.map in
    let new = c.swap_remove.new.self in
    let items = queue_missing whom map.entries (missing_in whom map c.in-None.ensures.value) in
    record {
      units = λ puts sound. ap units_of c.new.ensures.items ∙ sym (units_for-entries_in puts whom map.entries sound ∙ ap units_of items);
      gone =
          removes whom map.entries new.entries (length c.new.result.items)
          (c.in-None.ensures.entries ∙ ap (λ t. swap_remove_entry t map.entries) (is_at_whom whom))
          (one_each new c.in-None.ensures.unique)
          (λ other apart. stays_for whom other map.entries new.entries apart (c.in-None.ensures.updates.2 other))
          (ap length (c.new.ensures.items ∙ sym items));
    }

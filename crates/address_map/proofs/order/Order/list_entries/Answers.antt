use Rattle.std.proofs.Common.{is_some, rules}
use Rattle.std.proofs.lemmas.Fn.{filter_same}
use Rattle.address_map.specs.Slots.{slot_at}
use Rattle.address_map.proofs.order.Order.list_entries.Goals as goal

pub returns-clause-row : goal.returns-clause-row
returns-clause-row g c = filter_same _ (λ slot. is_some (slot_at c.args.slots.now slot)) _ (λ x b f' k. search rules) _ _ c.retain.ensures.filtered

use Rattle.std.proofs.Common.{◌≡◌, ◌++◌, take}
use Rattle.events.specs.Items.{items_of}
use Rattle.bss_core.proofs.radio.running.copy_items.Given as goal

abbrev pub invariant-loop-item : goal.invariant-loop-item
invariant-loop-item l = l.air.items ≡ l.initial.air.items ++ items_of l.place (take l.item-index l.items)

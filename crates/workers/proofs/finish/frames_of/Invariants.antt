use Rattle.std.proofs.Common.{◌≡◌, take}
use Rattle.events.specs.Items.{items_of}
use Rattle.workers.proofs.finish.frames_of.Given as goal

abbrev pub invariant-loop-item : goal.invariant-loop-item
invariant-loop-item l = l.frames.items ≡ items_of l.place (take l.item-index l.items)

use Rattle.std.proofs.Common.{◌≡◌, map, take}
use Rattle.downlink.specs.Receiver.{new_queue}
use Rattle.downlink.proofs.network_queue.NetworkQueue.new.Given as goal

abbrev pub invariant-loop-most : goal.invariant-loop-most
invariant-loop-most l = l.receivers.items ≡ map new_queue (take l.most-index l.mosts)

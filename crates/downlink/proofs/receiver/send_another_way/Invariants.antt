use Rattle.std.proofs.Common.{◌≡◌, ◌++◌, map, take, drop}
use Rattle.downlink.specs.Receiver.{sent_another_way}
use Rattle.downlink.proofs.receiver.send_another_way.Given as goal

abbrev pub invariant-loop-frame : goal.invariant-loop-frame
invariant-loop-frame l = l.frames ≡ map (sent_another_way l.way) (take l.frame-index l.initial.frames) ++ drop l.frame-index l.initial.frames

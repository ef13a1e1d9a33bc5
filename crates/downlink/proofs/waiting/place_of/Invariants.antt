use Rattle.std.proofs.Common.{◌≡◌, ◌<◌, ℕ, false, get_or}
use Rattle.downlink.specs.declared.frame.Frame.{Frame}
use Rattle.downlink.specs.Receiver.{takes_way}
use Rattle.downlink.proofs.waiting.place_of.Given as goal

abbrev pub invariant-loop-place : goal.invariant-loop-place
invariant-loop-place l = (k : ℕ) (d : Frame) → k < l.place → takes_way l.goes (get_or l.frames k d) ≡ false

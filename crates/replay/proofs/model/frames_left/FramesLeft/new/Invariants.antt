use Rattle.std.proofs.Common.{◌≡◌, map}
use Rattle.replay.specs.Frames.{none_sent}
use Rattle.replay.proofs.model.frames_left.FramesLeft.new.Given as goal

abbrev pub invariant-loop : goal.invariant-loop
invariant-loop l = map (λ frames. frames.items) l.frames.items ≡ none_sent l.counter

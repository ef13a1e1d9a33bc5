-- The records of the frames so far were put.
use Rattle.std.proofs.Common.{take}
use Rattle.text_io.specs.Buffers.{Puts, watch}
use Rattle.live.specs.Frames.{frames_octets}
use Rattle.live.proofs.output.records.put_frames.Given as goal

abbrev pub invariant-loop-frame : goal.invariant-loop-frame
invariant-loop-frame g l =
    Puts (watch g.W.Sink.taken g.W.Sink.failed) l.initial.out l.out
    (frames_octets l.kind l.bssid (take l.frame-index l.frames))

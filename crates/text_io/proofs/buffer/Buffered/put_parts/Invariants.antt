-- The texts so far were put.
use Rattle.std.proofs.Common.{take}
use Rattle.std.specs.Prelude.{flat_map}
use Rattle.text_io.specs.Buffers.{Puts, watch}
use Rattle.text_io.proofs.buffer.Buffered.put_parts.Given as goal

abbrev pub invariant-loop-part : goal.invariant-loop-part
invariant-loop-part g l =
    Puts (watch g.W.Sink.taken g.W.Sink.failed) l.initial.self l.self
    (flat_map (λ part. part.now) (take l.part-index l.parts))

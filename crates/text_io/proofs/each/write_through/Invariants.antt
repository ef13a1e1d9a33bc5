-- The items so far were put.
use Rattle.std.proofs.Common.{take}
use Rattle.std.specs.Prelude.{flat_map}
use Rattle.text_io.specs.Buffers.{Puts, watch}
use Rattle.text_io.proofs.each.write_through.Given as goal

abbrev pub invariant-loop-item : goal.invariant-loop-item
invariant-loop-item g l =
    Puts (watch g.W.Sink.taken g.W.Sink.failed) l.initial.buffered l.buffered
    (flat_map g.P.PutItem.written (take l.item-index l.items))

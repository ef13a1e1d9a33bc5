-- The texts so far were put.
use Rattle.std.proofs.Common.{take}
use Rattle.std.specs.Prelude.{flat_map}
use Rattle.text_io.specs.Buffers.{Puts, watch}
use Rattle.play_text.proofs.reporting.put_texts.Given as goal

abbrev pub invariant-loop-text : goal.invariant-loop-text
invariant-loop-text g l =
    Puts (watch g.W.Sink.taken g.W.Sink.failed) l.initial.out l.out
    (flat_map (λ text. text) (take l.text-index l.texts))

-- Some of the records that end in the piece are answered; the partial record then, and the rest of it, are left.
use Rattle.std.proofs.Common.{length}
use Rattle.text_io.specs.Buffers.{watch}
use Rattle.live.specs.Output.{AnswersRecords, through, waiting}
use Rattle.live.specs.declared.face.Face.TheVariants.{Records}
use Rattle.live.proofs.records.answer_records.Given as goal

abbrev pub invariant-loop-rest : goal.invariant-loop-rest
invariant-loop-rest g l =
    AnswersRecords (through Records (watch g.W.Sink.taken g.W.Sink.failed) l.initial.out l.out) (waiting l.initial.networks l.initial.partial l.piece) (waiting l.networks l.partial l.rest)

abbrev pub decreases-loop-rest : goal.decreases-loop-rest
decreases-loop-rest g l = length l.rest

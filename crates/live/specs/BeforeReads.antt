-- What a sink has taken of a run when the source is asked for more.
use Rattle.std.specs.Prelude.{◌≡◌, ℕ, ◌+◌, ◌≤◌, ◌⊎◌, List, Result}
use Rattle.std.specs.Io.KnownBytes.{Appends, Consumes}
use Rattle.text_io.specs.Endings.{failures_of}
use Rattle.text_io.specs.Streams.{Streams}
use Rattle.live.specs.Run.{AnswersEnded, Runs, Setup, live_ending}
use Rattle.live.specs.declared.fault.LiveFault.{LiveFault}

-- the source and the sink of a run: before it, when it made a read, and after it
pub record RunStreams : Type 0 where
  pub old : Streams
  pub asked : Streams
  pub new : Streams

-- A run whose streams stood so when a read was made, and which met failures from then on: that read failed and nothing
-- more was read, and a write failed or the sink took no more. The source and the sink may always do that.
pub record FailsAtRead (setup : Setup) (result : Result Unit LiveFault) (run : RunStreams) : Type 0 where
  pub runs : Runs setup result run.old run.new
  pub failures : run.new.sink.failed ≡ run.old.sink.failed + failures_of live_ending result
  pub read : run.new.source.failed ≡ run.old.source.failed + 1
  pub left : run.new.source.left ≡ run.asked.source.left
  pub before : run.old.sink.failed ≤ run.asked.sink.failed
  pub write : (run.new.sink.failed ≡ run.asked.sink.failed + 1) ⊎ (run.new.sink.taken ≡ run.asked.sink.taken)

-- When the read was made, the sink had taken how many networks there are, and the answers to all that had ended in what
-- was read before.
pub record HasAnswered (setup : Setup) (old asked : Streams) : Type 0 where
  pub input : List ℕ
  pub written : List ℕ
  pub taken : Consumes old.source.left asked.source.left input
  pub ended : AnswersEnded (record { setup = setup; input = input }) written
  pub grown : Appends old.sink.taken asked.sink.taken written

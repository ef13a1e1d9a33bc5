-- What was put through a piece of memory, which is written in the end.
use Rattle.std.proofs.Common.{◌≡◌, ℕ, ◌+◌, List, [], Option, Result, false}
use Rattle.text_io.specs.Buffers.{Flushes, Puts, held, sink_of, watch}
use Rattle.text_io.specs.BufferLaws.{Puts-flushed, Puts-then}
use Rattle.text_io.specs.Endings.{failures_of}
use Rattle.text_io.specs.Sinks.{write_ending}
use Rattle.text_io.specs.declared.buffer.Buffered.{Buffered}
use Rattle.text_io.specs.declared.sink.Failed.{Failed}
use Rattle.live_rules.specs.Moments.{Moment, bssids_at}
use Rattle.live.specs.Inputs.{face_of, last_said}
use Rattle.live.specs.LiveView.{Finishes, Reached, Takes, running}
use Rattle.live.specs.Output.{AnswersPiece, AreAnswered, through}
use Rattle.live.specs.Written.{written_tables}

-- the answers to a piece
pub takes-flushed : {W : Type 0} (taken : W → Option (List ℕ)) (failed : W → ℕ) (r : Result Unit Failed) (first : W)
    (a b c : Buffered W) (live next : Reached) (piece : List ℕ) → sink_of a ≡ first → a.has_failed ≡ false → held a ≡ []
    → AnswersPiece (through (face_of live.partial) (watch taken failed) a b) live next piece
    → Flushes (watch taken failed) r b c
    → Takes r piece (running live (taken first)) (running next (taken (sink_of c)))
    × (failed (sink_of c) ≡ failed first + failures_of write_ending r)
takes-flushed taken failed r first a b c live next piece same fresh none h flushed =
    let ends = Puts-flushed r first a b c _ same fresh none h.answered.puts flushed in (
      record {
        said = h.said;
        answers = h.answered.answers;
        is_said = h.is_said;
        answered = h.answered.answered;
        written = ends.0;
      },
      ends.1,
    )

-- the answer to what the end says, and then the tables
pub finishes-flushed : {W : Type 0} (taken : W → Option (List ℕ)) (failed : W → ℕ) (r : Result Unit Failed) (first : W)
    (a b c d : Buffered W) (live : Reached) (last : Moment) → sink_of a ≡ first → a.has_failed ≡ false → held a ≡ []
    → AreAnswered (through (face_of live.partial) (watch taken failed) a b) live.moment last
    (last_said (bssids_at live.moment) live.partial)
    → Puts (watch taken failed) b c (written_tables (face_of live.partial) last.networks)
    → Flushes (watch taken failed) r c d
    → Finishes r (running live (taken first)) (taken (sink_of d))
    × (failed (sink_of d) ≡ failed first + failures_of write_ending r)
finishes-flushed taken failed r first a b c d live last same fresh none h tables flushed =
    let ends = Puts-flushed r first a c d _ same fresh none (Puts-then h.puts tables) flushed in (
      record { answers = h.answers; last = last; answered = h.answered; written = ends.0 },
      ends.1,
    )

-- An answer that is held back at a read leaves no result.
use Rattle.std.specs.Prelude.{◌⊎◌}
use Rattle.std.proofs.Common.{inl, inr, ◌≡◌, ◌+◌, Result, Ok, Err, arith}
use Rattle.live.specs.BeforeReads.{FailsAtRead, HasAnswered, RunStreams}
use Rattle.live.specs.Run.{Setup, WritesEnded}
use Rattle.live.specs.declared.fault.LiveFault.{LiveFault}
use Rattle.live.specs.declared.fault.LiveFault.TheVariants.{Config, NoMemory, Read, Write}

-- no answer but `Read` counts a failed read, and `Read` counts no failed write
pub has-answered : (s : Setup) (result : Result Unit LiveFault) (run : RunStreams)
    → FailsAtRead s result run → HasAnswered s run.old run.asked
has-answered s (Ok u) run h = absurd (omega (arith, h.runs.reads.failed, h.read))
has-answered s (Err (Config fault)) run h = absurd (omega (arith, h.runs.reads.failed, h.read))
has-answered s (Err NoMemory) run h = absurd (omega (arith, h.runs.reads.failed, h.read))
has-answered s (Err Write) run h = absurd (omega (arith, h.runs.reads.failed, h.read))
has-answered s (Err Read) run h = by h.write
  where
    by : (run.new.sink.failed ≡ run.asked.sink.failed + 1) ⊎ (run.new.sink.taken ≡ run.asked.sink.taken) → HasAnswered s run.old run.asked
    by (inl more) =
        let none : run.new.sink.failed ≡ run.old.sink.failed + 0 = h.failures in absurd (omega (arith, none, more, h.before))
    by (inr same) =
        let end : WritesEnded (record { setup = s; input = h.runs.input }) run.old run.new = h.runs.end in
        record {
          input = h.runs.input;
          written = end.written;
          taken = rw h.left at h.runs.reads.taken;
          ended = end.ended;
          grown = rw same at end.grown;
        }

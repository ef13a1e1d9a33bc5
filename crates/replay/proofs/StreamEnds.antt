-- What a run of a stream leaves, by how it ended.
use Rattle.std.proofs.Common.{◌≡◌, ℕ, ◌+◌, List, [], Ok, Err, refl, inl, inr, arith}
use Rattle.std.proofs.KnownBytes.{Consumes-nil, Keeps-refl}
use Rattle.std.specs.Io.KnownBytes.{Appends}
use Rattle.ap_config.specs.declared.config.RadioConfig.{RadioConfig}
use Rattle.ap_config.specs.declared.config.ConfigFault.{ConfigFault}
use Rattle.events.specs.declared.line.Line.{Line}
use Rattle.events.specs.declared.section.Section.{Section}
use Rattle.network.specs.Section.{sections_of_lines}
use Rattle.config_text.specs.ConfigurationText.{configuration_of}
use Rattle.text_io.specs.Endings.{Ending, Well, Refused, OutOfMemory, WriteFailed, IsFaultOf, Ends, failures_of, ending_of}
use Rattle.text_io.specs.Faults.{read_as, read_ending, report_as}
use Rattle.report.specs.Report.{report_text}
use Rattle.text_io.specs.Sinks.{report_ending}
use Rattle.text_io.specs.Streams.{FailsAt, SourceChange, SourceView, SinkView, Streams, Reads, changed}
use Rattle.trace.specs.TraceText.{lines_of}
use Rattle.trace.specs.declared.fault.TraceFault.{TraceFault}
use Rattle.text_io.specs.declared.read_fault.ReadFault.{ReadFault}
use Rattle.text_io.specs.declared.read_fault.ReadFault.TheVariants as reads
use Rattle.text_io.specs.declared.report_fault.ReportFault.{ReportFault}
use Rattle.text_io.specs.declared.report_fault.ReportFault.TheVariants as reports
use Rattle.text_io.specs.EndingLaws.{part_written, whole_written}
use Rattle.replay.specs.Answer.{answer_of}
use Rattle.trace.specs.Pieces.{AreTaken}
use Rattle.replay.specs.Stream.{AreSectionsOf, ReadsToEnd, RunsStream, IsStreamFault, StopsIn}
use Rattle.replay.specs.Stream.{max_reads, stream_ending}
use Rattle.replay.specs.declared.fault.StreamFault.{StreamFault}
use Rattle.replay.specs.declared.fault.StreamFault.TheVariants.{Config, Trace, NoMemory, Read, Write}
use Rattle.replay.proofs.AnswerLemmas.{config_ends, trace_ends, answer_of-sections}
use Rattle.replay.proofs.StreamSteps.{counted-none}

-- ---- the reads

-- none was made, where a call that made none may end so
pub unread : {F : Type 0} (ending : Ending F) (source : SourceView) → FailsAt ending max_reads 0 (changed source source)
    → Reads ending max_reads (changed source source) []
unread ending source failed = record {
  taken = Consumes-nil source.left;
  made = 0;
  within = omega arith;
  counted = counted-none source.reads;
  failed = failed;
}

-- the same reads in a call that ended in another way
reads-as : {F G : Type 0} {ending : Ending F} (other : Ending G) {source : SourceChange} {text : List ℕ}
    (r : Reads ending max_reads source text) → FailsAt other max_reads r.made source → Reads other max_reads source text
reads-as other r failed =
    record { taken = r.taken; made = r.made; within = r.within; counted = r.counted; failed = failed }

-- all were made, and the trace has a fault, or memory ran out
pub reads-then : {F : Type 0} (e : ReadFault TraceFault) (old new : SourceView) (text : List ℕ)
    → Reads {F = F} Well max_reads (changed old new) text
    → Reads (stream_ending (read_as Trace NoMemory e)) max_reads (changed old new) text
reads-then (reads.At fault) old new text r = reads-as (Refused (Trace fault)) r r.failed
reads-then reads.NoMemory old new text r = reads-as OutOfMemory r r.failed

-- the fault is that of the trace
pub is_fault : (c : RadioConfig) (text : List ℕ) (e : ReadFault TraceFault) → StopsIn c text
    → IsFaultOf (lines_of c text) (read_ending e) → IsStreamFault c text (read_as Trace NoMemory e)
is_fault c text (reads.At fault) stops h = (h, stops)
is_fault c text reads.NoMemory stops h = tt

-- ---- a run

-- no write failed
none_failed : (failed : ℕ) → failed ≡ failed + 0
none_failed failed = omega arith

-- a fault of the configuration: nothing was read
pub config_runs : (e : ReadFault ConfigFault) (ct : List ℕ) (old : Streams)
    → IsFaultOf (configuration_of ct) (read_ending e) → RunsStream (Err (read_as Config NoMemory e)) ct old old
config_runs (reads.At fault) ct old h = record {
  text = [];
  reads = unread (Refused (Config fault)) old.source refl;
  stops = tt;
  end = ((config_ends (reads.At fault) ct [] old.sink.taken h).0, refl, Keeps-refl old.sink.taken);
  failures = none_failed old.sink.failed;
}
config_runs reads.NoMemory ct old h = record {
  text = [];
  reads = unread OutOfMemory old.source refl;
  stops = tt;
  end = inl (Keeps-refl old.sink.taken);
  failures = none_failed old.sink.failed;
}

-- reading ended before the source did, or the last line is at fault
pub fault_runs : {A : Type 0} (holds : A → List ℕ → Type 0) (e : StreamFault) (c : RadioConfig) (ct : List ℕ)
    (old new : SourceView) (sink : SinkView) → configuration_of ct ≡ Ok c
    → ReadsToEnd holds (Err e) c (changed old new)
    → RunsStream (Err e) ct (record { source = old; sink = sink }) (record { source = new; sink = sink })
fault_runs holds (Config fault) c ct old new sink is s = absurd s.end
fault_runs holds (Trace fault) c ct old new sink is s = record {
  text = s.text;
  reads = s.reads;
  stops = (c, is, s.end.1);
  end = ((trace_ends (reads.At fault) c ct s.text sink.taken is s.end.0).0, Keeps-refl sink.taken);
  failures = none_failed sink.failed;
}
fault_runs holds NoMemory c ct old new sink is s = record {
  text = s.text;
  reads = s.reads;
  stops = tt;
  end = inl (Keeps-refl sink.taken);
  failures = none_failed sink.failed;
}
fault_runs holds Read c ct old new sink is s = record {
  text = s.text;
  reads = s.reads;
  stops = (c, is, s.end);
  end = Keeps-refl sink.taken;
  failures = none_failed sink.failed;
}
fault_runs holds Write c ct old new sink is s = absurd s.end

-- the report was cut short
pub report_runs : {A : Type 0} (items : A → List Section) (made : A) (e : ReportFault) (c : RadioConfig) (ct : List ℕ)
    (old new : Streams) → configuration_of ct ≡ Ok c
    → ReadsToEnd (λ made text. AreSectionsOf c text (items made)) (Ok made) c (changed old.source new.source)
    → Ends (ending_of {A = Unit} report_ending (Err e)) (Ok (report_text (items made))) old.sink.taken new.sink.taken
    → new.sink.failed ≡ old.sink.failed + failures_of {A = Unit} report_ending (Err e)
    → RunsStream (Err (report_as Write NoMemory e)) ct old new
report_runs items made reports.Write c ct old new is s part failures =
    let answer = answer_of-sections c (items made) ct s.text is s.end.1 in
    record {
      text = s.text;
      reads = reads-as WriteFailed s.reads s.reads.failed;
      stops = tt;
      end = (s.end.0, part_written (answer_of ct s.text) _ _ _ answer part);
      failures = failures;
    }
report_runs items made reports.NoMemory c ct old new is s part failures =
    let answer = answer_of-sections c (items made) ct s.text is s.end.1 in
    record {
      text = s.text;
      reads = reads-as OutOfMemory s.reads s.reads.failed;
      stops = tt;
      end = inr (s.end.0, part_written (answer_of ct s.text) _ _ _ answer part);
      failures = failures;
    }

-- the whole report was written
pub whole_runs : {A : Type 0} (items : A → List Section) (made : A) (u : Unit {0}) (c : RadioConfig) (ct : List ℕ)
    (old new : Streams) → configuration_of ct ≡ Ok c
    → ReadsToEnd (λ made text. AreSectionsOf c text (items made)) (Ok made) c (changed old.source new.source)
    → Appends old.sink.taken new.sink.taken (report_text (items made)) → new.sink.failed ≡ old.sink.failed + 0
    → RunsStream (Ok u) ct old new
whole_runs items made u c ct old new is s written failures =
    let answer = answer_of-sections c (items made) ct s.text is s.end.1 in
    record {
      text = s.text;
      reads = s.reads;
      stops = tt;
      end = (s.end.0, whole_written (answer_of ct s.text) _ _ _ answer written);
      failures = failures;
    }

-- ---- networks that keep no history

-- of one that ended well the report is that of the sections
pub all-reported : {A : Type 0} (taken : A → List Line → Type 0) (made : A) (c : RadioConfig) (source : SourceChange)
    (s : ReadsToEnd (λ made text. AreTaken c text (taken made)) (Ok made) c source)
    → ReadsToEnd {A = A} (λ _ text. AreSectionsOf c text (sections_of_lines c s.end.1.0)) (Ok made) c source
all-reported taken made c source s = record {
  text = s.text;
  reads = s.reads;
  end = (s.end.0, (s.end.1.0, s.end.1.1, refl));
}

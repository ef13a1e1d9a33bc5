-- What each part of a run leaves, as the end of the whole.
use Rattle.std.proofs.Common.{◌≡◌, ℕ, List, Option, Result, Ok, Err, refl}
use Rattle.std.proofs.KnownBytes.{Keeps-refl}
use Rattle.ap_config.specs.declared.config.RadioConfig.{RadioConfig}
use Rattle.ap_config.specs.declared.config.ConfigFault.{ConfigFault}
use Rattle.events.specs.declared.section.Section.{Section}
use Rattle.config_text.specs.ConfigurationText.{configuration_of}
use Rattle.text_io.specs.Endings.{IsFaultOf, Ends, ending_of}
use Rattle.text_io.specs.Faults.{read_as, read_ending, report_as}
use Rattle.report.specs.Report.{report_text}
use Rattle.text_io.specs.Sinks.{report_ending}
use Rattle.trace.specs.TraceText.{lines_of}
use Rattle.trace.specs.declared.fault.TraceFault.{TraceFault}
use Rattle.text_io.specs.declared.read_fault.ReadFault.{ReadFault}
use Rattle.text_io.specs.declared.read_fault.ReadFault.TheVariants as reads
use Rattle.text_io.specs.declared.report_fault.ReportFault.{ReportFault}
use Rattle.text_io.specs.declared.report_fault.ReportFault.TheVariants as reports
use Rattle.text_io.specs.EndingLaws.{nothing_written, part_written, part_kept}
use Rattle.replay.specs.Answer.{answer_of, text_ending}
use Rattle.replay.specs.Stream.{AreSectionsOf}
use Rattle.replay.specs.declared.fault.TextFault.{TextFault}
use Rattle.replay.specs.declared.fault.TextFault.TheVariants as texts

-- a report that was cut short
pub report_ends : (e : ReportFault) (text : List ℕ) (answer : Result (List ℕ) TextFault) (old new : Option (List ℕ))
    → answer ≡ Ok text
    → Ends (ending_of {A = Unit} report_ending (Err e)) (Ok text) old new → Ends (ending_of {A = Unit} text_ending (Err (report_as texts.Write texts.NoMemory e))) answer
    old new
report_ends reports.Write text answer old new is part = part_written answer text old new is part
report_ends reports.NoMemory text answer old new is part = part_kept answer text old new is part

-- ---- the two texts

-- a fault of the configuration
pub config_ends : (e : ReadFault ConfigFault) (ct tt : List ℕ) (old : Option (List ℕ))
    → IsFaultOf (configuration_of ct) (read_ending e)
    → Ends (ending_of {A = Unit} text_ending (Err (read_as texts.Config texts.NoMemory e))) (answer_of ct tt) old old
unfolding answer_of
config_ends (reads.At fault) ct tt old h =
    (rw h refl, Keeps-refl old)
config_ends reads.NoMemory ct tt old h = nothing_written (answer_of ct tt) old

-- a fault of the trace
pub trace_ends : (e : ReadFault TraceFault) (c : RadioConfig) (ct tt : List ℕ) (old : Option (List ℕ))
    → configuration_of ct ≡ Ok c
    → IsFaultOf (lines_of c tt) (read_ending e) → Ends (ending_of {A = Unit} text_ending (Err (read_as texts.Trace texts.NoMemory e))) (answer_of ct tt) old
    old
unfolding answer_of
trace_ends (reads.At fault) c ct tt old read h =
    (rw (read, h) refl, Keeps-refl old)
trace_ends reads.NoMemory c ct tt old read h = nothing_written (answer_of ct tt) old

-- the report of the sections of a trace, where neither is at fault
pub answer_of-sections : (c : RadioConfig) (sections : List Section) (ct tt : List ℕ) → configuration_of ct ≡ Ok c
    → AreSectionsOf c tt sections → answer_of ct tt ≡ Ok (report_text sections)
unfolding answer_of
answer_of-sections c sections ct tt read are = rw (read, are.1, are.2) refl

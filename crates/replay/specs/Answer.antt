-- What is answered to the octets of a configuration and of a trace.
use Rattle.std.specs.Prelude.{ℕ, List, Result, Ok, Err}
use Rattle.network.specs.Section.{sections_of_lines}
use Rattle.ap_config.specs.declared.config.RadioConfig.{RadioConfig}
use Rattle.ap_config.specs.declared.config.ConfigFault.{ConfigFault}
use Rattle.events.specs.declared.line.Line.{Line}
use Rattle.config_text.specs.ConfigurationText.{configuration_of}
use Rattle.text_io.specs.Endings.{Ending, Refused, WriteFailed, OutOfMemory}
use Rattle.report.specs.Report.{report_text}
use Rattle.trace.specs.TraceText.{lines_of}
use Rattle.trace.specs.declared.fault.TraceFault.{TraceFault}
use Rattle.replay.specs.declared.fault.TextFault.{TextFault}
use Rattle.replay.specs.declared.fault.TextFault.TheVariants.{Config, Trace, NoMemory, Write}

-- the report of what a trace says to the networks of a configuration, or the trace's fault
abbrev pub replayed : RadioConfig → Result (List Line) TraceFault → Result (List ℕ) TextFault
replayed c (Ok lines) = Ok (report_text (sections_of_lines c lines))
replayed c (Err fault) = Err (Trace fault)

abbrev pub answered : Result RadioConfig ConfigFault → List ℕ → Result (List ℕ) TextFault
answered (Ok c) text = replayed c (lines_of c text)
answered (Err fault) text = Err (Config fault)

-- the report of a configuration's text and a trace's text, or the first fault: the configuration's before the trace's
unfoldable pub answer_of : List ℕ → List ℕ → Result (List ℕ) TextFault
answer_of config_text trace_text = answered (configuration_of config_text) trace_text

-- ---- how a call ends that answers a text

abbrev pub text_ending : TextFault → Ending TextFault
text_ending (Config fault) = Refused (Config fault)
text_ending (Trace fault) = Refused (Trace fault)
text_ending NoMemory = OutOfMemory
text_ending Write = WriteFailed

-- What is answered to the octets of a configuration and of several traces that are played at once.
use Rattle.std.specs.Prelude.{ℕ, ◌≡◌, ◌++◌, ◌∷◌, true, false, List, Option, Result, Ok, Err, length}
use Rattle.std.specs.List.{AllZip}
use Rattle.ap_config.specs.declared.config.RadioConfig.{RadioConfig}
use Rattle.events.specs.declared.line.Line.{Line}
use Rattle.config_text.specs.ConfigurationText.{configuration_of}
use Rattle.text_io.specs.Endings.{Ending, Refused, WriteFailed, OutOfMemory, Ends, ending_of}
use Rattle.text_io.specs.Faults.{read_as}
use Rattle.report.specs.Report.{report_text}
use Rattle.trace.specs.TraceText.{lines_of}
use Rattle.trace.specs.declared.fault.TraceFault.{TraceFault}
use Rattle.text_io.specs.declared.read_fault.ReadFault.{ReadFault}
use Rattle.play.specs.Faults.{callers_fit}
use Rattle.play.specs.Played.{IsPlayOf}
use Rattle.play.specs.declared.finish_fault.FinishFault.TheVariants.{Uncovered}
use Rattle.play.specs.declared.finished.Finished.{Finished}
use Rattle.play.specs.declared.play_fault.PlayFault.{PlayFault}
use Rattle.play.specs.declared.play_fault.PlayFault.TheVariants as plays
use Rattle.play_text.specs.declared.fault.PlayTextFault.{PlayTextFault}
use Rattle.play_text.specs.declared.fault.PlayTextFault.TheVariants.{Config, Sources, Trace, NoThread, NoMemory}
use Rattle.play_text.specs.declared.fault.PlayTextFault.TheVariants.{Finish, Write}

-- ---- the traces

-- what each trace says, in order
abbrev pub AreLines : RadioConfig → List (List ℕ) → List (List Line) → Type 0
AreLines c traces sources = AllZip (λ text lines. lines_of c text ≡ Ok lines) traces sources

-- The first trace that has a fault stands at this place, counted from 0, and this is its fault.
pub record IsFirstFault (c : RadioConfig) (traces : List (List ℕ)) (source : ℕ) (fault : TraceFault) : Type 0 where
  pub before : List (List ℕ)
  pub text : List ℕ
  pub after : List (List ℕ)
  pub in_order : traces ≡ before ++ text ∷ after
  pub place : source ≡ length before
  pub sound : (sources : List (List Line)) × AreLines c before sources
  pub found : lines_of c text ≡ Err fault

-- ---- what is played

-- the configuration, the number of traces and each of them can be played
pub record ArePlayable (config_text : List ℕ) (traces : List (List ℕ)) (c : RadioConfig) (sources : List (List Line))
    : Type 0 where
  pub read : configuration_of config_text ≡ Ok c
  pub fit : callers_fit (length traces) ≡ true
  pub lines : AreLines c traces sources

abbrev pub Playable : List ℕ → List (List ℕ) → Type 0
Playable config_text traces =
    (c : RadioConfig) × (sources : List (List Line)) × ArePlayable config_text traces c sources

-- the report of what these traces may have made, played at once
pub record IsReport (config_text : List ℕ) (traces : List (List ℕ)) (report : List ℕ) : Type 0 where
  pub c : RadioConfig
  pub sources : List (List Line)
  pub playable : ArePlayable config_text traces c sources
  pub end : Finished
  pub play : IsPlayOf c sources end
  pub text : report ≡ report_text end.sections

-- ---- what may be answered

-- What may be answered to a configuration and traces. A fault of the configuration is the first of it; it comes before
-- the number of traces, and that before a fault of a trace. A thread that could not be started, and an access point
-- that could not be finished, come where all that is sound; of the latter there is one fault, that a network was not
-- given all lines of each trace. Memory may run out at any point.
abbrev pub MayBeAnswered : List ℕ → List (List ℕ) → Result (List ℕ) PlayTextFault → Type 0
MayBeAnswered config_text traces (Ok report) = IsReport config_text traces report
MayBeAnswered config_text traces (Err (Config fault)) = configuration_of config_text ≡ Err fault
MayBeAnswered config_text traces (Err Sources) =
    ((c : RadioConfig) × (configuration_of config_text ≡ Ok c)) × (callers_fit (length traces) ≡ false)
MayBeAnswered config_text traces (Err (Trace source fault)) =
    (callers_fit (length traces) ≡ true)
    × ((c : RadioConfig) × (configuration_of config_text ≡ Ok c) × IsFirstFault c traces source fault)
MayBeAnswered config_text traces (Err NoThread) = Playable config_text traces
MayBeAnswered config_text traces (Err (Finish fault)) = Playable config_text traces × (fault ≡ Uncovered)
MayBeAnswered config_text traces (Err NoMemory) = Unit {0}
MayBeAnswered config_text traces (Err Write) = ⊥

-- how a call ends that plays texts
abbrev pub play_ending : PlayTextFault → Ending PlayTextFault
play_ending NoMemory = OutOfMemory
play_ending Write = WriteFailed
play_ending fault = Refused fault

-- what its output took of a call that plays texts and ended so
pub record EndsPlay (result : Result Unit PlayTextFault) (config_text : List ℕ) (traces : List (List ℕ))
    (old new : Option (List ℕ)) : Type 0 where
  pub answer : Result (List ℕ) PlayTextFault
  pub allowed : MayBeAnswered config_text traces answer
  pub taken : Ends (ending_of play_ending result) answer old new

-- ---- a fault of a part, as that of the whole

abbrev pub of_play : PlayFault → PlayTextFault
of_play (plays.Config fault) = Config fault
of_play plays.Sources = Sources
of_play plays.NoThread = NoThread
of_play plays.NoMemory = NoMemory
of_play (plays.Finish fault) = Finish fault

-- the traces could not all be read: the first fault, or memory ran out
abbrev pub IsTracesFault : RadioConfig → List (List ℕ) → PlayTextFault → Type 0
IsTracesFault c traces (Trace source fault) = IsFirstFault c traces source fault
IsTracesFault c traces NoMemory = Unit {0}
IsTracesFault c traces _ = ⊥

-- a fault of the trace at this place
abbrev pub in_trace : ℕ → ReadFault TraceFault → PlayTextFault
in_trace source fault = read_as (Trace source) NoMemory fault

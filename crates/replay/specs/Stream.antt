-- What is answered to the octets of a configuration and to a trace that is read as it comes.
use Rattle.std.specs.Prelude.{◌≡◌, ℕ, ◌+◌, ◌-◌, ◌^◌, ◌≤◌, ◌++◌, ◌⊎◌, List, length, Option, Result, Ok, Err, MatchResult}
use Rattle.std.specs.Prelude.{IsOkAnd}
use Rattle.std.specs.Io.KnownBytes.{Appends, IsAtEnd, Keeps}
use Rattle.network.specs.Section.{sections_of_lines}
use Rattle.ap_config.specs.declared.config.RadioConfig.{RadioConfig}
use Rattle.events.specs.declared.line.Line.{Line}
use Rattle.events.specs.declared.section.Section.{Section}
use Rattle.config_text.specs.ConfigurationText.{configuration_of}
use Rattle.text_io.specs.Endings.{Ending, Refused, ReadFailed, WriteFailed, OutOfMemory, AppendsPrefix, ending_of}
use Rattle.text_io.specs.Endings.{failures_of}
use Rattle.trace.specs.Pieces.{whole_lines}
use Rattle.text_io.specs.Streams.{SourceChange, SourceView, Streams, Reads, changed}
use Rattle.trace.specs.TraceText.{bssids_of, lines_from, lines_of}
use Rattle.replay.specs.Answer.{answer_of}
use Rattle.replay.specs.declared.fault.StreamFault.{StreamFault}
use Rattle.replay.specs.declared.fault.StreamFault.TheVariants.{Config, Trace, NoMemory, Read, Write}
use Rattle.replay.specs.declared.fault.TextFault.{TextFault}
use Rattle.replay.specs.declared.fault.TextFault.TheVariants as texts

-- ---- a trace that is being read

-- the most reads of one trace
abbrev pub max_reads : ℕ
max_reads = 2 ^ 32 - 1

-- the most octets that one read gives
abbrev pub piece_len : ℕ
piece_len = 4096

-- how a call ends that reads a stream
abbrev pub stream_ending : StreamFault → Ending StreamFault
stream_ending NoMemory = OutOfMemory
stream_ending Read = ReadFailed
stream_ending Write = WriteFailed
stream_ending fault = Refused fault

-- ---- why it ended

-- Reading stopped with the piece in which a fault was met: the lines that ended before that piece have none.
pub record StopsIn (c : RadioConfig) (text : List ℕ) : Type 0 where
  pub before : List ℕ
  pub piece : List ℕ
  pub said : List Line
  pub in_order : text ≡ before ++ piece
  pub short : length piece ≤ piece_len
  pub sound : lines_from (bssids_of c) 1 (whole_lines before) ≡ Ok said

-- no line that ended in a text has a fault
abbrev pub HasNoFault : RadioConfig → List ℕ → Type 0
HasNoFault c text = (said : List Line) × (lines_from (bssids_of c) 1 (whole_lines text) ≡ Ok said)

-- The fault is that of what was read. Where reading failed, no line that ended before has one.
abbrev pub IsStreamFault : RadioConfig → List ℕ → StreamFault → Type 0
IsStreamFault c text (Trace fault) = (lines_of c text ≡ Err fault) × StopsIn c text
IsStreamFault c text NoMemory = Unit {0}
IsStreamFault c text Read = HasNoFault c text
IsStreamFault c text (Config fault) = ⊥
IsStreamFault c text Write = ⊥

-- the sections are those of a trace
abbrev pub AreSectionsOf : RadioConfig → List ℕ → List Section → Type 0
AreSectionsOf c text sections =
    (lines : List Line) × (lines_of c text ≡ Ok lines) × (sections ≡ sections_of_lines c lines)

-- A source was read to its end, and this holds of what is handed out and of all that it gave; or why reading ended
-- before.
pub record ReadsToEnd {A : Type 0} (holds : A → List ℕ → Type 0) (result : Result A StreamFault) (c : RadioConfig)
    (source : SourceChange) : Type 0 where
  pub text : List ℕ
  pub reads : Reads (ending_of stream_ending result) max_reads source text
  pub end : MatchResult result
      (λ made. IsAtEnd source.new.left × holds made text)
      (λ fault. IsStreamFault c text fault)

-- ---- the whole

-- What a run did that ended so, where this is the answer to the two texts, the configuration's and what was read of the
-- trace. Nothing is written before the source came to its end, and nothing is read where the configuration has a fault.
abbrev pub EndsStream : Result Unit StreamFault → Result (List ℕ) TextFault → Streams → Streams → Type 0
EndsStream (Ok u) answer old new =
    IsAtEnd new.source.left × IsOkAnd answer (λ report. Appends old.sink.taken new.sink.taken report)
EndsStream (Err (Config fault)) answer old new =
    (answer ≡ Err (texts.Config fault)) × (new.source ≡ old.source) × Keeps old.sink.taken new.sink.taken
EndsStream (Err (Trace fault)) answer old new =
    (answer ≡ Err (texts.Trace fault)) × Keeps old.sink.taken new.sink.taken
EndsStream (Err NoMemory) answer old new =
    Keeps old.sink.taken new.sink.taken
    ⊎ (IsAtEnd new.source.left × IsOkAnd answer (λ report. AppendsPrefix old.sink.taken new.sink.taken report))
EndsStream (Err Read) answer old new = Keeps old.sink.taken new.sink.taken
EndsStream (Err Write) answer old new =
    IsAtEnd new.source.left × IsOkAnd answer (λ report. AppendsPrefix old.sink.taken new.sink.taken report)

-- Where the trace has a fault, reading stopped with the piece in which it was met. So where reading failed, no line that
-- ended before has one.
abbrev pub StopsAtFault : Result Unit StreamFault → List ℕ → List ℕ → Type 0
StopsAtFault (Err (Trace fault)) config_text text =
    (c : RadioConfig) × (configuration_of config_text ≡ Ok c) × StopsIn c text
StopsAtFault (Err Read) config_text text =
    (c : RadioConfig) × (configuration_of config_text ≡ Ok c) × HasNoFault c text
StopsAtFault result config_text text = Unit {0}

-- A run of a configuration's text and of what was read of a source ended so.
pub record RunsStream (result : Result Unit StreamFault) (config_text : List ℕ) (old new : Streams) : Type 0 where
  pub text : List ℕ
  pub reads : Reads (ending_of stream_ending result) max_reads (changed old.source new.source) text
  pub stops : StopsAtFault result config_text text
  pub end : EndsStream result (answer_of config_text text) old new
  pub failures : new.sink.failed ≡ old.sink.failed + failures_of stream_ending result

-- ---- streams as contracts name them

abbrev pub seen : Option (List ℕ) → ℕ → ℕ → SourceView
seen left failed reads = record { left = left; failed = failed; reads = reads }

abbrev pub streams : SourceView → Option (List ℕ) → ℕ → Streams
streams source taken failed = record { source = source; sink = record { taken = taken; failed = failed } }

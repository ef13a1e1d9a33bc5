-- What is read of listed files, and which is told, as a value that is computed; and how a call ends by it.
use Rattle.std.specs.Prelude.{ℕ, ◌≡◌, ◌⊎◌, ◌∷◌, [], List, Option, Some, None, Result, Ok, Err}
use Rattle.text_io.specs.Endings.{Ends, ending_of}
use Rattle.text_io.specs.Streams.{SinkView, SourceView, Streams}
use Rattle.live.specs.Run.{Runs, setup}
use Rattle.live.specs.declared.face.Face.{Face}
use Rattle.live.specs.declared.fault.LiveFault.{LiveFault}
use Rattle.play_text.specs.Playing.{EndsPlay}
use Rattle.play_text.specs.declared.fault.PlayTextFault.{PlayTextFault}
use Rattle.replay.specs.Answer.{text_ending}
use Rattle.replay.specs.Checking.{check_of}
use Rattle.replay.specs.Stream.{RunsStream, seen}
use Rattle.replay.specs.declared.fault.StreamFault.{StreamFault}
use Rattle.replay.specs.declared.fault.TextFault.{TextFault}
use Rattle.text_files.specs.AnsweredInput.{IsToldLive}
use Rattle.text_files.specs.CheckedFile.{as_check}
use Rattle.text_files.specs.Faults.{IsOfFile}
use Rattle.text_files.specs.PlayedFiles.{as_run}
use Rattle.text_files.specs.RunFiles.{IsToldRun}
use Rattle.text_files.specs.declared.fault.Fault.{Fault}
use Rattle.text_files.specs.declared.fault.Fault.TheVariants.{Memory}
use Rattle.text_files_tests.specs.ListedFiles.{Held, Text, Unreadable, TooLarge, Listed, left_of, named}

-- each file gave its text; or the first that didn't has this name; or memory ran out as it was read
pub data Outcome : Type 0 where
  Gave : List (List ℕ) → Outcome
  Told : List ℕ → Outcome
  RanOut : Outcome

-- the texts of the files after it, and its own before them
abbrev pub before_others : List ℕ → Outcome → Outcome
before_others text (Gave texts) = Gave (text ∷ texts)
before_others text (Told name) = Told name
before_others text RanOut = RanOut

-- what becomes of a file of this name, of which this is found, and of those after it
abbrev pub outcome_with : Option Held → List ℕ → Outcome → Outcome
outcome_with None name others = Told name
outcome_with (Some (Text text)) name others = before_others text others
outcome_with (Some Unreadable) name others = Told name
outcome_with (Some TooLarge) name others = RanOut

-- what files of these names come to that are read in their order
abbrev pub outcome : List Listed → List (List ℕ) → Outcome
outcome files [] = Gave []
outcome files (name ∷ names) = outcome_with (named files name) name (outcome files names)

-- ---- how a call ends

-- it tells of the file of this name, or that memory ran out
abbrev pub TellsOf : List ℕ → Result Unit Fault → Type 0
TellsOf name (Ok u) = ⊥
TellsOf name (Err fault) = IsOfFile name fault

-- A call that reads files first ended so, of which this came: where each gave its text, by these, or memory ran out
-- before; else the file is told, and nothing was done, as this says.
abbrev pub EndsBy : Outcome → (List (List ℕ) → Type 0) → Result Unit Fault → Type 0 → Type 0
EndsBy (Gave texts) By end nothing = By texts ⊎ ((end ≡ Err Memory) × nothing)
EndsBy (Told name) By end nothing = TellsOf name end × nothing
EndsBy RanOut By end nothing = (end ≡ Err Memory) × nothing

-- the first text was played as a configuration, with the others as traces
pub record Plays (texts : List (List ℕ)) (end : Result Unit Fault) (old new : Option (List ℕ)) : Type 0 where
  pub config : List ℕ
  pub traces : List (List ℕ)
  pub in_order : texts ≡ config ∷ traces
  pub played : Result Unit PlayTextFault
  pub same : end ≡ as_run played
  pub ends : EndsPlay played config traces old new

-- the text was checked as a configuration
pub record Checks (texts : List (List ℕ)) (end : Result Unit Fault) (old new : Option (List ℕ)) : Type 0 where
  pub config : List ℕ
  pub alone : texts ≡ config ∷ []
  pub checked : Result Unit TextFault
  pub same : end ≡ as_check checked
  pub ends : Ends (ending_of text_ending checked) (check_of config) old new

-- the text was the configuration of an access point
pub record Answers (texts : List (List ℕ)) (face : Face) (end : Result Unit Fault) (old new : Streams) : Type 0 where
  pub config : List ℕ
  pub alone : texts ≡ config ∷ []
  pub run : Result Unit LiveFault
  pub runs : Runs (setup face config) run old new
  pub told : IsToldLive run end

-- the text was the configuration of a run, whose trace was read as it came of a file that held this
pub record RunsOn (texts : List (List ℕ)) (held : Held) (trace : List ℕ) (end : Result Unit Fault) (old new : SinkView)
    : Type 0 where
  pub config : List ℕ
  pub alone : texts ≡ config ∷ []
  pub source : SourceView
  pub run : Result Unit StreamFault
  pub runs :
      RunsStream run config (record { source = seen (left_of held) 0 0; sink = old })
      (record { source = source; sink = new })
  pub told : IsToldRun trace run end

-- The trace of a run could be opened, and held this: it was run, or, before anything was read of it, memory ran out or
-- it is told where it can't be read.
abbrev pub EndsOpened : Held → List (List ℕ) → (trace : List ℕ) → Result Unit Fault → SinkView → SinkView → Type 0
EndsOpened Unreadable texts trace end old new =
    RunsOn texts Unreadable trace end old new ⊎ (TellsOf trace end × (new ≡ old))
EndsOpened held texts trace end old new = RunsOn texts held trace end old new ⊎ ((end ≡ Err Memory) × (new ≡ old))

-- a run ended so of whose configuration this came, and of whose trace this is found
abbrev pub EndsRunBy : Outcome → Option Held → (trace : List ℕ) → Result Unit Fault → SinkView → SinkView → Type 0
EndsRunBy (Gave texts) None trace end old new = TellsOf trace end × (new ≡ old)
EndsRunBy (Gave texts) (Some held) trace end old new = EndsOpened held texts trace end old new
EndsRunBy (Told name) found trace end old new = TellsOf name end × (new ≡ old)
EndsRunBy RanOut found trace end old new = (end ≡ Err Memory) × (new ≡ old)

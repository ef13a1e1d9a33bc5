-- What calls come to over a configuration and a trace in listed files: for each of the two that can't be read, and for
-- each pair of them. A missing file can't be opened; a folder can be opened, and not read; memory runs out as a large
-- file is read.
use Rattle.std.specs.Prelude.{ℕ, ◌≡◌, ◌⊎◌, ◌∷◌, [], List, Option, Some, None, Result, Err, refl, codes}
use Rattle.text_io.specs.Streams.{SinkView}
use Rattle.text_files.specs.declared.fault.Fault.{Fault}
use Rattle.text_files.specs.declared.fault.Fault.TheVariants.{Memory}
use Rattle.text_files_tests.specs.ListedFiles.{Held, Text, Unreadable, TooLarge, Listed, named}
use Rattle.text_files_tests.specs.Outcome.{Gave, Told, RanOut, outcome, EndsRunBy, RunsOn, TellsOf}

-- ---- the files

-- names, of which some have spaces
abbrev radio : List ℕ
radio = codes " radio.toml "

abbrev trace : List ℕ
trace = codes " two  words "

abbrev other : List ℕ
other = codes "two  words"

-- a file of this name, where there is one, before others
abbrev with_file : List ℕ → Option Held → List Listed → List Listed
with_file name None files = files
with_file name (Some held) files = record { name = name; held = held } ∷ files

-- a configuration and a trace that are found so
abbrev two : Option Held → Option Held → List Listed
two config first = with_file radio config (with_file trace first [])

-- a configuration with this text, and two traces that are found so
abbrev three : List ℕ → Option Held → Option Held → List Listed
three text first second = with_file radio (Some (Text text)) (with_file trace first (with_file other second []))

-- ---- one file: `check` and `live`, and the configuration of each form

pub missing_configuration : (found : Option Held) → outcome (two None found) (radio ∷ []) ≡ Told radio
missing_configuration None = refl
missing_configuration (Some held) = refl

pub folder_configuration : (found : Option Held) → outcome (two (Some Unreadable) found) (radio ∷ []) ≡ Told radio
folder_configuration None = refl
folder_configuration (Some held) = refl

pub large_configuration : (found : Option Held) → outcome (two (Some TooLarge) found) (radio ∷ []) ≡ RanOut
large_configuration None = refl
large_configuration (Some held) = refl

pub configuration : (text : List ℕ) (found : Option Held)
    → outcome (two (Some (Text text)) found) (radio ∷ []) ≡ Gave (text ∷ [])
configuration text None = refl
configuration text (Some held) = refl

-- ---- two files of `play`: the first of them is told, whatever the second is

pub played_missing_before_missing : outcome (two None None) (radio ∷ trace ∷ []) ≡ Told radio
played_missing_before_missing = refl

pub played_missing_before_folder : outcome (two None (Some Unreadable)) (radio ∷ trace ∷ []) ≡ Told radio
played_missing_before_folder = refl

pub played_missing_before_large : outcome (two None (Some TooLarge)) (radio ∷ trace ∷ []) ≡ Told radio
played_missing_before_large = refl

pub played_folder_before_missing : outcome (two (Some Unreadable) None) (radio ∷ trace ∷ []) ≡ Told radio
played_folder_before_missing = refl

pub played_folder_before_folder : outcome (two (Some Unreadable) (Some Unreadable)) (radio ∷ trace ∷ []) ≡ Told radio
played_folder_before_folder = refl

pub played_folder_before_large : outcome (two (Some Unreadable) (Some TooLarge)) (radio ∷ trace ∷ []) ≡ Told radio
played_folder_before_large = refl

pub played_large_before_missing : outcome (two (Some TooLarge) None) (radio ∷ trace ∷ []) ≡ RanOut
played_large_before_missing = refl

pub played_large_before_folder : outcome (two (Some TooLarge) (Some Unreadable)) (radio ∷ trace ∷ []) ≡ RanOut
played_large_before_folder = refl

pub played_large_before_large : outcome (two (Some TooLarge) (Some TooLarge)) (radio ∷ trace ∷ []) ≡ RanOut
played_large_before_large = refl

-- ---- two traces of `play`, after a configuration that was read

pub trace_missing_before_missing : (text : List ℕ)
    → outcome (three text None None) (radio ∷ trace ∷ other ∷ []) ≡ Told trace
trace_missing_before_missing text = refl

pub trace_missing_before_folder : (text : List ℕ)
    → outcome (three text None (Some Unreadable)) (radio ∷ trace ∷ other ∷ []) ≡ Told trace
trace_missing_before_folder text = refl

pub trace_missing_before_large : (text : List ℕ)
    → outcome (three text None (Some TooLarge)) (radio ∷ trace ∷ other ∷ []) ≡ Told trace
trace_missing_before_large text = refl

pub trace_folder_before_missing : (text : List ℕ)
    → outcome (three text (Some Unreadable) None) (radio ∷ trace ∷ other ∷ []) ≡ Told trace
trace_folder_before_missing text = refl

pub trace_folder_before_folder : (text : List ℕ)
    → outcome (three text (Some Unreadable) (Some Unreadable)) (radio ∷ trace ∷ other ∷ []) ≡ Told trace
trace_folder_before_folder text = refl

pub trace_folder_before_large : (text : List ℕ)
    → outcome (three text (Some Unreadable) (Some TooLarge)) (radio ∷ trace ∷ other ∷ []) ≡ Told trace
trace_folder_before_large text = refl

pub trace_large_before_missing : (text : List ℕ)
    → outcome (three text (Some TooLarge) None) (radio ∷ trace ∷ other ∷ []) ≡ RanOut
trace_large_before_missing text = refl

pub trace_large_before_folder : (text : List ℕ)
    → outcome (three text (Some TooLarge) (Some Unreadable)) (radio ∷ trace ∷ other ∷ []) ≡ RanOut
trace_large_before_folder text = refl

pub trace_large_before_large : (text : List ℕ)
    → outcome (three text (Some TooLarge) (Some TooLarge)) (radio ∷ trace ∷ other ∷ []) ≡ RanOut
trace_large_before_large text = refl

pub trace_missing_before_another : (text said : List ℕ)
    → outcome (three text None (Some (Text said))) (radio ∷ trace ∷ other ∷ []) ≡ Told trace
trace_missing_before_another text said = refl

pub trace_missing_after_another : (text said : List ℕ)
    → outcome (three text (Some (Text said)) None) (radio ∷ trace ∷ other ∷ []) ≡ Told other
trace_missing_after_another text said = refl

pub trace_folder_before_another : (text said : List ℕ)
    → outcome (three text (Some Unreadable) (Some (Text said))) (radio ∷ trace ∷ other ∷ []) ≡ Told trace
trace_folder_before_another text said = refl

pub trace_folder_after_another : (text said : List ℕ)
    → outcome (three text (Some (Text said)) (Some Unreadable)) (radio ∷ trace ∷ other ∷ []) ≡ Told other
trace_folder_after_another text said = refl

pub trace_large_before_another : (text said : List ℕ)
    → outcome (three text (Some TooLarge) (Some (Text said))) (radio ∷ trace ∷ other ∷ []) ≡ RanOut
trace_large_before_another text said = refl

pub trace_large_after_another : (text said : List ℕ)
    → outcome (three text (Some (Text said)) (Some TooLarge)) (radio ∷ trace ∷ other ∷ []) ≡ RanOut
trace_large_after_another text said = refl

pub traces_in_their_order : (text said more : List ℕ)
    → outcome (three text (Some (Text said)) (Some (Text more))) (radio ∷ other ∷ trace ∷ [])
    ≡ Gave (text ∷ more ∷ said ∷ [])
traces_in_their_order text said more = refl

-- ---- the two files of `run`

-- a run of the two ended so
abbrev pub RunEnds : List Listed → Result Unit Fault → SinkView → SinkView → Type 0
RunEnds files end old new = EndsRunBy (outcome files (radio ∷ [])) (named files trace) trace end old new

pub run_missing_before_missing : (end : Result Unit Fault) (old new : SinkView)
    → RunEnds (two None None) end old new → TellsOf radio end × (new ≡ old)
run_missing_before_missing end old new h = h

pub run_missing_before_folder : (end : Result Unit Fault) (old new : SinkView)
    → RunEnds (two None (Some Unreadable)) end old new → TellsOf radio end × (new ≡ old)
run_missing_before_folder end old new h = h

pub run_missing_before_large : (end : Result Unit Fault) (old new : SinkView)
    → RunEnds (two None (Some TooLarge)) end old new → TellsOf radio end × (new ≡ old)
run_missing_before_large end old new h = h

pub run_missing_before_another : (text : List ℕ) (end : Result Unit Fault) (old new : SinkView)
    → RunEnds (two None (Some (Text text))) end old new → TellsOf radio end × (new ≡ old)
run_missing_before_another text end old new h = h

pub run_folder_before_missing : (end : Result Unit Fault) (old new : SinkView)
    → RunEnds (two (Some Unreadable) None) end old new → TellsOf radio end × (new ≡ old)
run_folder_before_missing end old new h = h

pub run_folder_before_folder : (end : Result Unit Fault) (old new : SinkView)
    → RunEnds (two (Some Unreadable) (Some Unreadable)) end old new → TellsOf radio end × (new ≡ old)
run_folder_before_folder end old new h = h

pub run_folder_before_large : (end : Result Unit Fault) (old new : SinkView)
    → RunEnds (two (Some Unreadable) (Some TooLarge)) end old new → TellsOf radio end × (new ≡ old)
run_folder_before_large end old new h = h

pub run_folder_before_another : (text : List ℕ) (end : Result Unit Fault) (old new : SinkView)
    → RunEnds (two (Some Unreadable) (Some (Text text))) end old new → TellsOf radio end × (new ≡ old)
run_folder_before_another text end old new h = h

pub run_large_before_missing : (end : Result Unit Fault) (old new : SinkView)
    → RunEnds (two (Some TooLarge) None) end old new → (end ≡ Err Memory) × (new ≡ old)
run_large_before_missing end old new h = h

pub run_large_before_folder : (end : Result Unit Fault) (old new : SinkView)
    → RunEnds (two (Some TooLarge) (Some Unreadable)) end old new → (end ≡ Err Memory) × (new ≡ old)
run_large_before_folder end old new h = h

pub run_large_before_large : (end : Result Unit Fault) (old new : SinkView)
    → RunEnds (two (Some TooLarge) (Some TooLarge)) end old new → (end ≡ Err Memory) × (new ≡ old)
run_large_before_large end old new h = h

pub run_large_before_another : (text : List ℕ) (end : Result Unit Fault) (old new : SinkView)
    → RunEnds (two (Some TooLarge) (Some (Text text))) end old new → (end ≡ Err Memory) × (new ≡ old)
run_large_before_another text end old new h = h

-- a trace that can't be opened is told before anything is said of the configuration
pub run_missing_trace : (text : List ℕ) (end : Result Unit Fault) (old new : SinkView)
    → RunEnds (two (Some (Text text)) None) end old new → TellsOf trace end × (new ≡ old)
run_missing_trace text end old new h = h

-- a folder can be opened, so its fault may come after one of the configuration
pub run_folder_trace : (text : List ℕ) (end : Result Unit Fault) (old new : SinkView)
    → RunEnds (two (Some (Text text)) (Some Unreadable)) end old new
    → RunsOn (text ∷ []) Unreadable trace end old new ⊎ (TellsOf trace end × (new ≡ old))
run_folder_trace text end old new h = h

pub run_large_trace : (text : List ℕ) (end : Result Unit Fault) (old new : SinkView)
    → RunEnds (two (Some (Text text)) (Some TooLarge)) end old new
    → RunsOn (text ∷ []) TooLarge trace end old new ⊎ ((end ≡ Err Memory) × (new ≡ old))
run_large_trace text end old new h = h

-- both can be read: it is the run of the two texts, and no file is told
pub run_of_two : (text said : List ℕ) (end : Result Unit Fault) (old new : SinkView)
    → RunEnds (two (Some (Text text)) (Some (Text said))) end old new
    → RunsOn (text ∷ []) (Text said) trace end old new ⊎ ((end ≡ Err Memory) × (new ≡ old))
run_of_two text said end old new h = h

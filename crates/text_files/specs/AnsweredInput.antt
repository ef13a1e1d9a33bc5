-- How an access point ends whose configuration stands in a file, and which answers what a source says.
use Rattle.std.specs.Prelude.{ℕ, ◌≡◌, ◌⊎◌, ◌∷◌, [], List, Option, Some, Result, Ok, Err, codes}
use Rattle.text_io.specs.Streams.{Streams}
use Rattle.live.specs.Run.{Runs, setup}
use Rattle.live.specs.declared.face.Face.{Face}
use Rattle.live.specs.declared.fault.LiveFault.{LiveFault}
use Rattle.text_files.specs.Faults.{IsOfLive}
use Rattle.text_files.specs.Files.{IsOfFirstUnread}
use Rattle.text_files.specs.declared.fault.Fault.{Fault}

-- the end of an access point, with the program's faults, where it read standard input
abbrev pub IsToldLive : Result Unit LiveFault → Result Unit Fault → Type 0
IsToldLive (Ok u) (Ok told) = Unit {0}
IsToldLive (Ok u) (Err fault) = ⊥
IsToldLive (Err found) (Ok told) = ⊥
IsToldLive (Err found) (Err fault) = IsOfLive found (codes "-") fault

-- the file was read as a configuration; then the source was read as it came
pub record AreAnswered {S : Type 0} (opens : S → List ℕ → Option (List ℕ) → S → Type 0) (files : S) (config : List ℕ)
    (face : Face) (end : Result Unit Fault) (old new : Streams) : Type 0 where
  pub text : List ℕ
  pub last : S
  pub read : opens files config (Some text) last
  pub run : Result Unit LiveFault
  pub runs : Runs (setup face text) run old new
  pub told : IsToldLive run end

-- What an access point did, and what became of its source and its output meanwhile: where the file can't be opened or
-- read, it is told, and nothing was read or written; memory may run out before it was read; else it is the run of it.
abbrev pub EndsAnswers : {S : Type 0} → (S → List ℕ → Option (List ℕ) → S → Type 0) → S → (config : List ℕ) → Face
    → Result Unit Fault → Streams → Streams → Type 0
EndsAnswers opens files config face (Ok u) old new = AreAnswered opens files config face (Ok u) old new
EndsAnswers opens files config face (Err fault) old new =
    (IsOfFirstUnread opens files (config ∷ []) fault × (new ≡ old))
    ⊎ AreAnswered opens files config face (Err fault) old new

-- How a run of two files ends: what was read of them, and what its output took.
use Rattle.std.specs.Prelude.{ℕ, ◌≡◌, ◌⊎◌, ◌∷◌, [], List, Option, Some, Result, Ok, Err}
use Rattle.text_io.specs.Streams.{SinkView, SourceView}
use Rattle.replay.specs.Stream.{RunsStream, seen}
use Rattle.replay.specs.declared.fault.StreamFault.{StreamFault}
use Rattle.text_files.specs.Faults.{IsOfStream}
use Rattle.text_files.specs.Files.{IsOfFirstUnread}
use Rattle.text_files.specs.declared.fault.Fault.{Fault}

-- the end of a run, with the program's faults, where the trace is read from a file of this name
abbrev pub IsToldRun : List ℕ → Result Unit StreamFault → Result Unit Fault → Type 0
IsToldRun trace (Ok u) (Ok told) = Unit {0}
IsToldRun trace (Ok u) (Err fault) = ⊥
IsToldRun trace (Err found) (Ok told) = ⊥
IsToldRun trace (Err found) (Err fault) = IsOfStream found trace fault

-- the first of two files was read as a configuration; then the other was opened, and was read as it came
pub record AreRun {S O : Type 0} (opens : S → List ℕ → Option (List ℕ) → S → Type 0)
    (opened : S → List ℕ → O → S → Type 0) (gives : O → Option (List ℕ) → Type 0)
    (left : O → Option (List ℕ)) (files : S) (config trace : List ℕ) (end : Result Unit Fault) (old new : SinkView) : Type 0 where
  pub text : List ℕ
  pub next : S
  pub read : opens files config (Some text) next
  pub file : O
  pub last : S
  pub is_opened : opened next trace file last
  pub may_give : (given : Option (List ℕ)) → gives file given → opens next trace given last
  pub source : SourceView
  pub run : Result Unit StreamFault
  pub runs : RunsStream run text (record { source = seen (left file) 0 0; sink = old }) (record { source = source; sink = new })
  pub told : IsToldRun trace run end

-- What a run of two files did, and what its output took meanwhile: where one can't be opened, or the configuration can't
-- be read, the first such is told, and nothing was written; memory may run out before; else it is the run of the two.
abbrev pub EndsRun : {S O : Type 0} → (S → List ℕ → Option (List ℕ) → S → Type 0) → (S → List ℕ → O → S → Type 0)
    → (O → Option (List ℕ) → Type 0) → (O → Option (List ℕ)) → S → (config trace : List ℕ)
    → Result Unit Fault → SinkView → SinkView → Type 0
EndsRun opens opened gives left files config trace (Ok u) old new =
    AreRun opens opened gives left files config trace (Ok u) old new
EndsRun opens opened gives left files config trace (Err fault) old new =
    (IsOfFirstUnread opens files (config ∷ trace ∷ []) fault × (new ≡ old))
    ⊎ AreRun opens opened gives left files config trace (Err fault) old new

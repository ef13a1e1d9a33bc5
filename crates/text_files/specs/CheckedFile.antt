-- How a check of a file ends: what was read of it, and what its output took.
use Rattle.std.specs.Prelude.{ℕ, ◌≡◌, ◌⊎◌, ◌∷◌, [], List, Option, Some, Result, Ok, Err, string_bytes}
use Rattle.std.specs.Io.KnownBytes.{Keeps}
use Rattle.std.specs.Result.{result_map_both}
use Rattle.text_io.specs.Endings.{Ends, ending_of}
use Rattle.replay.specs.Answer.{text_ending}
use Rattle.replay.specs.Checking.{check_of}
use Rattle.replay.specs.declared.fault.TextFault.{TextFault}
use Rattle.text_files.specs.Faults.{of_texts}
use Rattle.text_files.specs.Files.{IsFirstUnread}
use Rattle.text_files.specs.declared.fault.Fault.{Fault}
use Rattle.text_files.specs.declared.fault.Fault.TheVariants.{Memory, File}

-- the end of a check, with the program's faults
abbrev pub as_check : Result Unit TextFault → Result Unit Fault
as_check checked = result_map_both (λ u. u) of_texts checked

-- the file was read as a configuration, and this was checked to this end
pub record IsChecked {S : Type 0} (opens : S → List ℕ → Option (List ℕ) → S → Type 0) (files : S) (config : List ℕ)
    (end : Result Unit Fault) (old new : Option (List ℕ)) : Type 0 where
  pub text : List ℕ
  pub last : S
  pub read : opens files config (Some text) last
  pub checked : Result Unit TextFault
  pub same : end ≡ as_check checked
  pub ends : Ends (ending_of text_ending checked) (check_of text) old new

-- What a check of a file did, and what its output took meanwhile: where the file can't be opened or read, it is told,
-- and nothing was written; memory may run out before it was read; else it is the check of what it gave.
abbrev pub EndsCheck : {S : Type 0} → (S → List ℕ → Option (List ℕ) → S → Type 0) → S → (config : List ℕ)
    → Result Unit Fault → Option (List ℕ) → Option (List ℕ) → Type 0
EndsCheck opens files config (Err (File told)) old new =
    IsFirstUnread opens files (config ∷ []) (string_bytes told) × Keeps old new
EndsCheck opens files config (Err Memory) old new = Keeps old new ⊎ IsChecked opens files config (Err Memory) old new
EndsCheck opens files config end old new = IsChecked opens files config end old new

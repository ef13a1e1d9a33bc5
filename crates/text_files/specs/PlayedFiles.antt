-- How a play of files ends: what was read of them, and what its output took.
use Rattle.std.specs.Prelude.{ℕ, ◌≡◌, ◌⊎◌, ◌∷◌, List, Option, Result, Ok, Err, string_bytes}
use Rattle.std.specs.Io.KnownBytes.{Keeps}
use Rattle.std.specs.Result.{result_map_both}
use Rattle.play_text.specs.Playing.{EndsPlay}
use Rattle.play_text.specs.declared.fault.PlayTextFault.{PlayTextFault}
use Rattle.text_files.specs.Faults.{of_play}
use Rattle.text_files.specs.Files.{AreRead, IsFirstUnread}
use Rattle.text_files.specs.declared.fault.Fault.{Fault}
use Rattle.text_files.specs.declared.fault.Fault.TheVariants.{Memory, File}

-- the end of a play, with the program's faults
abbrev pub as_run : Result Unit PlayTextFault → Result Unit Fault
as_run played = result_map_both (λ u. u) of_play played

-- the first of these files was read as a configuration and the others as traces, and these were played to this end
pub record ArePlayed {S : Type 0} (opens : S → List ℕ → Option (List ℕ) → S → Type 0) (files : S) (names : List (List ℕ))
    (end : Result Unit Fault) (old new : Option (List ℕ)) : Type 0 where
  pub config : List ℕ
  pub traces : List (List ℕ)
  pub last : S
  pub read : AreRead opens files names (config ∷ traces) last
  pub played : Result Unit PlayTextFault
  pub same : end ≡ as_run played
  pub ends : EndsPlay played config traces old new

-- What a play of files did, and what its output took meanwhile: where one can't be opened or read, the first such is
-- told, and nothing was written; memory may run out before all were read; else it is the play of what they gave.
abbrev pub EndsFiles : {S : Type 0} → (S → List ℕ → Option (List ℕ) → S → Type 0) → S → List (List ℕ)
    → Result Unit Fault → Option (List ℕ) → Option (List ℕ) → Type 0
EndsFiles opens files names (Err (File told)) old new = IsFirstUnread opens files names (string_bytes told) × Keeps old new
EndsFiles opens files names (Err Memory) old new = Keeps old new ⊎ ArePlayed opens files names (Err Memory) old new
EndsFiles opens files names end old new = ArePlayed opens files names end old new

-- How a check of a file ends.
use Rattle.std.proofs.Common.{◌∷◌, [], ℕ, List, Option, Err, inl}
use Rattle.std.proofs.KnownBytes.{Keeps-refl}
use Rattle.text_files.specs.CheckedFile.{EndsCheck}
use Rattle.text_files.specs.Files.{IsOfFirstUnread}
use Rattle.text_files.specs.declared.fault.Fault.{Fault}
use Rattle.text_files.specs.declared.fault.Fault.TheVariants.{Memory, File}

-- the file could not be opened or read, before anything was checked
pub unread_ends_check : {S : Type 0} (opens : S → List ℕ → Option (List ℕ) → S → Type 0) (files : S) (config : List ℕ)
    (fault : Fault) (old : Option (List ℕ)) → IsOfFirstUnread opens files (config ∷ []) fault
    → EndsCheck opens files config (Err fault) old old
unread_ends_check opens files config (File told) old is = (is, Keeps-refl old)
unread_ends_check opens files config Memory old is = inl (Keeps-refl old)
unread_ends_check opens files config other old is = absurd is

-- How a play of files ends.
use Rattle.std.proofs.Common.{ℕ, List, Option, Err, inl}
use Rattle.std.proofs.KnownBytes.{Keeps-refl}
use Rattle.text_files.specs.Files.{IsOfFirstUnread}
use Rattle.text_files.specs.PlayedFiles.{EndsFiles}
use Rattle.text_files.specs.declared.fault.Fault.{Fault}
use Rattle.text_files.specs.declared.fault.Fault.TheVariants.{Memory, File}

-- a file that could not be opened or read, before anything was played
pub unread_ends : {S : Type 0} (opens : S → List ℕ → Option (List ℕ) → S → Type 0) (files : S) (names : List (List ℕ))
    (fault : Fault) (old : Option (List ℕ)) → IsOfFirstUnread opens files names fault
    → EndsFiles opens files names (Err fault) old old
unread_ends opens files names (File told) old is = (is, Keeps-refl old)
unread_ends opens files names Memory old is = inl (Keeps-refl old)
unread_ends opens files names other old is = absurd is

-- How a run of two files ends.
use Rattle.std.proofs.Common.{◌∷◌, [], ℕ, List, Option, Err, refl, inl}
use Rattle.text_io.specs.Streams.{SinkView}
use Rattle.text_files.specs.Files.{IsOfFirstUnread}
use Rattle.text_files.specs.RunFiles.{EndsRun}
use Rattle.text_files.specs.declared.fault.Fault.{Fault}

-- a file could not be opened or read, before anything was run
pub unread_ends_run : {S O : Type 0} (opens : S → List ℕ → Option (List ℕ) → S → Type 0)
    (opened : S → List ℕ → O → S → Type 0) (gives : O → Option (List ℕ) → Type 0) (left : O → Option (List ℕ))
    (files : S) (config trace : List ℕ) (fault : Fault) (old : SinkView)
    → IsOfFirstUnread opens files (config ∷ trace ∷ []) fault
    → EndsRun opens opened gives left files config trace (Err fault) old old
unread_ends_run opens opened gives left files config trace fault old is = inl (is, refl)

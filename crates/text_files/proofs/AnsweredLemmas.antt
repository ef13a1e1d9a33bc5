-- How an access point ends whose configuration stands in a file.
use Rattle.std.proofs.Common.{◌∷◌, [], ℕ, List, Option, Err, refl, inl}
use Rattle.text_io.specs.Streams.{Streams}
use Rattle.live.specs.declared.face.Face.{Face}
use Rattle.text_files.specs.AnsweredInput.{EndsAnswers}
use Rattle.text_files.specs.Files.{IsOfFirstUnread}
use Rattle.text_files.specs.declared.fault.Fault.{Fault}

-- the file could not be opened or read, before anything was answered
pub unread_ends_answers : {S : Type 0} (opens : S → List ℕ → Option (List ℕ) → S → Type 0) (files : S) (config : List ℕ)
    (face : Face) (fault : Fault) (old : Streams) → IsOfFirstUnread opens files (config ∷ []) fault
    → EndsAnswers opens files config face (Err fault) old old
unread_ends_answers opens files config face fault old is = inl (is, refl)

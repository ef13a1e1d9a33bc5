-- What was written of an answer that is known.
use Rattle.std.proofs.Common.{◌≡◌, ℕ, List, [], Option, Result, Ok, Err, refl, sym, subst}
use Rattle.std.proofs.KnownBytes.{Appends-nil, Keeps-refl}
use Rattle.std.specs.Io.KnownBytes.{Appends}
use Rattle.text_io.specs.Endings.{AppendsPrefix, Ends, Well, WriteFailed, OutOfMemory, IsFaultOf}
use Rattle.text_io.specs.Faults.{read_ending}
use Rattle.text_io.specs.declared.read_fault.ReadFault.{ReadFault}
use Rattle.text_io.specs.declared.read_fault.ReadFault.TheVariants as reads

-- memory ran out before anything was written
pub nothing_written : {F : Type 0} (answer : Result (List ℕ) F) (known : Option (List ℕ))
    → Ends OutOfMemory answer known known
nothing_written (Ok text) known = record { written = []; rest = text; in_order = refl; taken = Appends-nil known }
nothing_written (Err fault) known = Keeps-refl known

-- the whole text was written
pub whole_written : {F : Type 0} (answer : Result (List ℕ) F) (text : List ℕ) (old new : Option (List ℕ))
    → answer ≡ Ok text → Appends old new text → Ends Well answer old new
whole_written {F} answer text old new is written =
    subst (λ (a : Result (List ℕ) F). Ends Well a old new) (sym is) written

-- a prefix of it was, and then a write failed
pub part_written : {F : Type 0} (answer : Result (List ℕ) F) (text : List ℕ) (old new : Option (List ℕ))
    → answer ≡ Ok text → AppendsPrefix old new text → Ends WriteFailed answer old new
part_written {F} answer text old new is written =
    subst (λ (a : Result (List ℕ) F). Ends WriteFailed a old new) (sym is) written

-- or memory ran out
pub part_kept : {F : Type 0} (answer : Result (List ℕ) F) (text : List ℕ) (old new : Option (List ℕ))
    → answer ≡ Ok text → AppendsPrefix old new text → Ends OutOfMemory answer old new
part_kept {F} answer text old new is written =
    subst (λ (a : Result (List ℕ) F). Ends OutOfMemory a old new) (sym is) written

-- a fault of one is that of the other
pub same_fault : {A B F : Type 0} (one : Result A F) (other : Result B F) (e : ReadFault F)
    → IsFaultOf one (read_ending e) → ((met : F) → one ≡ Err met → other ≡ Err met) → IsFaultOf other (read_ending e)
same_fault one other (reads.At met) h on = on met h
same_fault one other reads.NoMemory h on = tt

-- How a call ends that reads, writes or takes memory, and what hangs on it: what it says of a text that was read, what
-- its sink took, and how often its sink failed. Each type of errors has one function that says how a call ended with
-- it.
use Rattle.std.specs.Prelude.{ℕ, ◌≡◌, List, ◌++◌, Option, Result, Ok, Err, MatchResult, IsOkAnd}
use Rattle.std.specs.Io.KnownBytes.{Appends, Keeps}

-- well, or refused by a fault of what it was given; a read or a write failed; memory ran out
pub data Ending (F : Type 0) : Type 0 where
  Well : Ending F
  Refused : F → Ending F
  ReadFailed : Ending F
  WriteFailed : Ending F
  OutOfMemory : Ending F

-- how a call ended that answers this
abbrev pub ending_of : {A E F : Type 0} → (E → Ending F) → Result A E → Ending F
ending_of named (Ok x) = Well
ending_of named (Err e) = named e

-- what a call answered, whatever it hands out
abbrev pub outcome_of : {A E : Type 0} → Result A E → Result Unit E
outcome_of (Ok x) = Ok tt
outcome_of (Err e) = Err e

-- ---- what it read

-- A fault is the one that reading finds. Any other end says nothing of the text.
abbrev pub IsFaultOf : {A F : Type 0} → Result A F → Ending F → Type 0
IsFaultOf read (Refused fault) = read ≡ Err fault
IsFaultOf read _ = Unit {0}

-- what was answered, seen by a view, is what reading finds
abbrev pub Gives : {A B E F : Type 0} → (A → B) → (E → Ending F) → Result A E → Result B F → Type 0
Gives view named answer read = MatchResult answer (λ x. read ≡ Ok (view x)) (λ e. IsFaultOf read (named e))

-- ---- what its sink took

-- known octets stay first and grow by a prefix of the text, the empty one and the whole among them
pub record AppendsPrefix (old new : Option (List ℕ)) (text : List ℕ) : Type 0 where
  pub written : List ℕ
  pub rest : List ℕ
  pub in_order : text ≡ written ++ rest
  pub taken : Appends old new written

-- What the sink took, before and after, of a call that ends so and is to write a text, unless a fault refuses it: where
-- it ended well, the whole text and nothing else; where a fault refused it or a read failed, nothing; where a write
-- failed, a prefix of the text; and where memory ran out, a prefix of it or, where there is none, nothing.
abbrev pub Ends : {F : Type 0} → Ending F → Result (List ℕ) F → Option (List ℕ) → Option (List ℕ) → Type 0
Ends Well answer old new = IsOkAnd answer (λ text. Appends old new text)
Ends (Refused fault) answer old new = (answer ≡ Err fault) × Keeps old new
Ends ReadFailed answer old new = Keeps old new
Ends WriteFailed answer old new = IsOkAnd answer (λ text. AppendsPrefix old new text)
Ends OutOfMemory answer old new = MatchResult answer (λ text. AppendsPrefix old new text) (λ _. Keeps old new)

-- ---- how often its sink failed

-- A call stops at the first failure, so that it meets one at most.
abbrev pub failures_at : {F : Type 0} → Ending F → ℕ
failures_at WriteFailed = 1
failures_at _ = 0

-- how many failures of its sink a call met that answers this
abbrev pub failures_of : {A E F : Type 0} → (E → Ending F) → Result A E → ℕ
failures_of named result = failures_at (ending_of named result)

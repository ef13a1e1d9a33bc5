-- What is read of files, in the order of their names.
use Rattle.std.specs.Prelude.{ℕ, ◌≡◌, ◌++◌, ◌∷◌, [], List, Option, Some, None, Result, Ok, Err, MatchOption, map, string_bytes}
use Rattle.std.proofs.Common.{Bor}
use Rattle.text_files.specs.Faults.{IsOfFile}
use Rattle.text_files.specs.declared.fault.Fault.{Fault}
use Rattle.text_files.specs.declared.fault.Fault.TheVariants.{Memory, File}
use Rattle.text_files.specs.declared.files.Content.{Content}
use Rattle.text_files.specs.declared.files.Content.TheVariants.{OnDisk, Read}
use Rattle.text_files.specs.declared.files.Opened.{Opened}
use Rattle.text_files.specs.declared.file_system.Unread.{Unread}
use Rattle.text_files.specs.declared.file_system.Unread.TheVariants as unread

-- the names that these words are
abbrev pub names_of : List (Bor (List ℕ)) → List (List ℕ)
names_of words = map (λ word. word.now) words

-- this is so, unless it was memory that ran out
abbrev pub IsUnlessMemory : Type 0 → Unread → Type 0
IsUnlessMemory P unread.Failed = P
IsUnlessMemory P unread.NoMemory = Unit {0}

-- the fault that tells it of a file of this name
abbrev pub IsTold : List ℕ → Unread → Fault → Type 0
IsTold name unread.Failed fault = IsOfFile name fault
IsTold name unread.NoMemory fault = fault ≡ Memory

-- the fault of a file of this name, of which this is so, or of memory that ran out
abbrev pub IsOfUnread : List ℕ → Type 0 → Fault → Type 0
IsOfUnread name P (File told) = (string_bytes told ≡ name) × P
IsOfUnread name P Memory = Unit {0}
IsOfUnread name P _ = ⊥

-- what a content may give
abbrev pub MayGive : {O : Type 0} → (O → Option (List ℕ) → Type 0) → Content O → Option (List ℕ) → Type 0
MayGive gives (OnDisk file) given = gives file given
MayGive gives (Read octets) given = given ≡ Some octets

-- it is a file of this name, which gives what opening one may give
abbrev pub IsOpened : {O : Type 0} → (O → Option (List ℕ) → Type 0) → (Option (List ℕ) → Type 0) → List ℕ → Opened O → Type 0
IsOpened gives opens name opened =
    (opened.name.now ≡ name) × ((given : Option (List ℕ)) → MayGive gives opened.content given → opens given)

-- this was read of a file that was opened
abbrev pub IsReadOf : {O : Type 0} → (O → Option (List ℕ) → Type 0) → Opened O → Result (List ℕ) Fault → Type 0
IsReadOf gives opened (Ok octets) = MayGive gives opened.content (Some octets)
IsReadOf gives opened (Err fault) = IsOfUnread opened.name.now (MayGive gives opened.content None) fault

-- files of these names, opened one after another in this order, gave these texts
abbrev pub AreRead : {S : Type 0} → (S → List ℕ → Option (List ℕ) → S → Type 0) → S → List (List ℕ) → List (List ℕ) → S → Type 0
AreRead opens old [] [] new = old ≡ new
AreRead opens old [] (text ∷ texts) new = ⊥
AreRead opens old (name ∷ names) [] new = ⊥
AreRead {S} opens old (name ∷ names) (text ∷ texts) new =
    (next : S) × opens old name (Some text) next × AreRead opens next names texts new

-- the first of these files that can't be opened or read has this name
pub record IsFirstUnread {S : Type 0} (opens : S → List ℕ → Option (List ℕ) → S → Type 0) (old : S) (names : List (List ℕ))
    (name : List ℕ) : Type 0 where
  pub before : List (List ℕ)
  pub after : List (List ℕ)
  pub in_order : names ≡ before ++ name ∷ after
  pub texts : List (List ℕ)
  pub then : S
  pub read : AreRead opens old before texts then
  pub last : S
  pub unread : opens then name None last

-- the fault of the first of these files that can't be opened or read, or of memory that ran out
abbrev pub IsOfFirstUnread : {S : Type 0} → (S → List ℕ → Option (List ℕ) → S → Type 0) → S → List (List ℕ) → Fault → Type 0
IsOfFirstUnread opens old names (File told) = IsFirstUnread opens old names (string_bytes told)
IsOfFirstUnread opens old names Memory = Unit {0}
IsOfFirstUnread opens old names _ = ⊥

-- these files were opened one after another in this order
abbrev pub AreOpened : {S O : Type 0} → (O → Option (List ℕ) → Type 0) → (S → List ℕ → Option (List ℕ) → S → Type 0) → S → List (List ℕ) → List (Opened O) → S → Type 0
AreOpened gives opens old [] [] new = old ≡ new
AreOpened gives opens old [] (file ∷ files) new = ⊥
AreOpened gives opens old (name ∷ names) [] new = ⊥
AreOpened {S} gives opens old (name ∷ names) (file ∷ files) new =
    (next : S) × IsOpened gives (λ given. opens old name given next) name file × AreOpened gives opens next names files new

-- they were opened as far as the first that can't be
pub record AreOpenedUntil {S O : Type 0} (gives : O → Option (List ℕ) → Type 0) (opens : S → List ℕ → Option (List ℕ) → S → Type 0)
    (old : S) (names : List (List ℕ)) (files : List (Opened O)) (fault : Fault) (new : S) : Type 0 where
  pub before : List (List ℕ)
  pub name : List ℕ
  pub after : List (List ℕ)
  pub in_order : names ≡ before ++ name ∷ after
  pub then : S
  pub opened : AreOpened gives opens old before files then
  pub unread : IsOfUnread name (opens then name None new) fault

-- they were opened, all or as far as the first that can't be
abbrev pub AreOpenedSoFar : {S O : Type 0} → (O → Option (List ℕ) → Type 0) → (S → List ℕ → Option (List ℕ) → S → Type 0) → S → List (List ℕ) → List (Opened O) → Option Fault → S → Type 0
AreOpenedSoFar gives opens old names files fault new =
    MatchOption fault (AreOpened gives opens old names files new) (λ fault. AreOpenedUntil gives opens old names files fault new)

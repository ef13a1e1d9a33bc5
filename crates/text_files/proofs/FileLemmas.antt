-- What is read of files, in the order of their names.
use Rattle.std.proofs.Common.{◌≡◌, ◌++◌, ◌∷◌, [], ℕ, suc, ◌+◌, ◌<◌, List, length, get_or, take, drop, Option, None, Some, Result, Ok, Err, map, Bor, refl, sym, ap, subst, ◌∙◌, arith, add-one, append-nil, append_assoc}
use Rattle.std.proofs.Math.Seq.{take-suc}
use Rattle.std.proofs.lemmas.List.{map-append, take-append-drop}
use Rattle.std.specs.Prelude.{string_bytes}
use Rattle.text_files.specs.Files.{IsUnlessMemory, IsTold, IsOfUnread, MayGive, IsOpened, IsReadOf, AreRead, IsFirstUnread, IsOfFirstUnread, AreOpened, AreOpenedUntil, AreOpenedSoFar, names_of}
use Rattle.text_files.specs.declared.fault.Fault.{Fault}
use Rattle.text_files.specs.declared.fault.Fault.TheVariants.{Memory, File}
use Rattle.text_files.specs.declared.files.Opened.{Opened}
use Rattle.text_files.specs.declared.file_system.Unread.{Unread}
use Rattle.text_files.specs.declared.file_system.Unread.TheVariants as unread

-- the fault that tells it of a file of which this is so
pub told : (P : Type 0) (name : List ℕ) (why : Unread) (fault : Fault) → IsTold name why fault → IsUnlessMemory P why
    → IsOfUnread name P fault
told P name unread.Failed (File given) is so = (is, so)
told P name unread.Failed Memory is so = tt
told P name unread.Failed other is so = absurd is
told P name unread.NoMemory fault is so = subst (λ f. IsOfUnread name P f) (sym is) tt

-- each file was read
abbrev pub AreReadOf : {O : Type 0} → (O → Option (List ℕ) → Type 0) → List (Opened O) → List (Result (List ℕ) Fault) → Type 0
AreReadOf gives [] [] = Unit {0}
AreReadOf gives [] (r ∷ results) = ⊥
AreReadOf gives (f ∷ files) [] = ⊥
AreReadOf gives (f ∷ files) (r ∷ results) = IsReadOf gives f r × AreReadOf gives files results

-- each file that was opened was read, by their places
pub read_by_place : {O : Type 0} (gives : O → Option (List ℕ) → Type 0) (files : List (Opened O)) (results : List (Result (List ℕ) Fault)) → length files ≡ length results
    → ((i : ℕ) (d : Opened O) (e : Result (List ℕ) Fault) → i < length files → IsReadOf gives (get_or files i d) (get_or results i e))
    → AreReadOf gives files results
read_by_place gives [] [] count each = tt
read_by_place gives [] (r ∷ results) count each = absurd (omega (arith, count))
read_by_place gives (f ∷ files) [] count each = absurd (omega (arith, count))
read_by_place gives (f ∷ files) (r ∷ results) count each = (
  each 0 f r (omega arith),
  read_by_place gives files results (omega (arith, count)) (λ i d e within. each (suc i) d e (omega (arith, within))),
)

module _ {S O : Type 0} (gives : O → Option (List ℕ) → Type 0) (opens : S → List ℕ → Option (List ℕ) → S → Type 0) where
  -- one file more was opened
  pub opened_more : (old : S) (names : List (List ℕ)) (files : List (Opened O)) (then : S) (name : List ℕ) (file : Opened O) (new : S)
      → AreOpened gives opens old names files then → IsOpened gives (λ given. opens then name given new) name file
      → AreOpened gives opens old (names ++ name ∷ []) (files ++ file ∷ []) new
  opened_more old [] [] then name file new h is =
      (new, subst (λ (s : S). IsOpened gives (λ given. opens s name given new) name file) (sym h) is, refl)
  opened_more old [] (f ∷ files) then name file new h is = absurd h
  opened_more old (n ∷ names) [] then name file new h is = absurd h
  opened_more old (n ∷ names) (f ∷ files) then name file new h is =
      (h.0, h.1, opened_more h.0 names files then name file new h.2 is)

  -- all that were opened could be read
  pub all_read : (old : S) (names : List (List ℕ)) (files : List (Opened O)) (new : S) (texts : List (List ℕ))
      → AreOpened gives opens old names files new → AreReadOf gives files (map (λ text. Ok text) texts)
      → AreRead opens old names texts new
  all_read old [] [] new [] h read = h
  all_read old [] [] new (t ∷ texts) h read = absurd read
  all_read old [] (f ∷ files) new texts h read = absurd h
  all_read old (n ∷ names) [] new texts h read = absurd h
  all_read old (n ∷ names) (f ∷ files) new [] h read = absurd read
  all_read old (n ∷ names) (f ∷ files) new (t ∷ texts) h read =
      (h.0, h.1.1 (Some t) read.0, all_read h.0 names files new texts h.2 read.1)

  -- a file before them was read
  pub unread_later : (old : S) (name text : List ℕ) (next : S) (names : List (List ℕ)) (fault : Fault)
      → opens old name (Some text) next → IsOfFirstUnread opens next names fault
      → IsOfFirstUnread opens old (name ∷ names) fault
  unread_later old name text next names (File told) one h = record {
    before = name ∷ h.before;
    after = h.after;
    in_order = ap (λ (ns : List (List ℕ)). name ∷ ns) h.in_order;
    texts = text ∷ h.texts;
    then = h.then;
    read = (next, one, h.read);
    last = h.last;
    unread = h.unread;
  }
  unread_later old name text next names Memory one h = tt
  unread_later old name text next names other one h = absurd h

  -- the first of them could not be opened or read
  pub unread_first : (old : S) (name : List ℕ) (next : S) (names : List (List ℕ)) (fault : Fault)
      → IsOfUnread name (opens old name None next) fault → IsOfFirstUnread opens old (name ∷ names) fault
  unread_first old name next names (File told) is = record {
    before = [];
    after = names;
    in_order = ap (λ (n : List ℕ). n ∷ names) (sym is.0);
    texts = [];
    then = old;
    read = refl;
    last = next;
    unread = subst (λ (n : List ℕ). opens old n None next) (sym is.0) is.1;
  }
  unread_first old name next names Memory is = tt
  unread_first old name next names other is = absurd is

  -- the first of them could not be read
  unread_now : (old : S) (name : List ℕ) (file : Opened O) (next : S) (names : List (List ℕ)) (fault : Fault)
      → IsOpened gives (λ given. opens old name given next) name file → IsReadOf gives file (Err fault)
      → IsOfFirstUnread opens old (name ∷ names) fault
  unread_now old name file next names (File told) is read = record {
    before = [];
    after = names;
    in_order = ap (λ (n : List ℕ). n ∷ names) (sym (read.0 ∙ is.0));
    texts = [];
    then = old;
    read = refl;
    last = next;
    unread = subst (λ (n : List ℕ). opens old n None next) (sym (read.0 ∙ is.0)) (is.1 None read.1);
  }
  unread_now old name file next names Memory is read = tt
  unread_now old name file next names other is read = absurd read

  -- one of those that were opened could not be read, and others may follow
  pub one_unread : (old : S) (names : List (List ℕ)) (files : List (Opened O)) (new : S) (before : List (List ℕ)) (fault : Fault)
      (after : List (Result (List ℕ) Fault)) (more : List (List ℕ))
      → AreOpened gives opens old names files new → AreReadOf gives files (map (λ text. Ok text) before ++ Err fault ∷ after)
      → IsOfFirstUnread opens old (names ++ more) fault
  one_unread old [] [] new [] fault after more h read = absurd read
  one_unread old [] [] new (t ∷ before) fault after more h read = absurd read
  one_unread old [] (f ∷ files) new before fault after more h read = absurd h
  one_unread old (n ∷ names) [] new before fault after more h read = absurd h
  one_unread old (n ∷ names) (f ∷ files) new [] fault after more h read =
      unread_now old n f h.0 (names ++ more) fault h.1 read.0
  one_unread old (n ∷ names) (f ∷ files) new (t ∷ before) fault after more h read =
      unread_later old n t h.0 (names ++ more) fault (h.1.1 (Some t) read.0)
      (one_unread h.0 names files new before fault after more h.2 read.1)

  -- all that were opened could be read, and the next could not be opened
  pub none_opened : (old : S) (names : List (List ℕ)) (files : List (Opened O)) (fault : Fault) (new : S) (texts : List (List ℕ))
      → AreOpenedUntil gives opens old names files fault new → AreReadOf gives files (map (λ text. Ok text) texts)
      → IsOfFirstUnread opens old names fault
  none_opened old names files (File told) new texts h read = record {
    before = h.before;
    after = h.after;
    in_order = h.in_order ∙ ap (λ (n : List ℕ). h.before ++ n ∷ h.after) (sym h.unread.0);
    texts = texts;
    then = h.then;
    read = all_read old h.before files h.then texts h.opened read;
    last = new;
    unread = subst (λ (n : List ℕ). opens h.then n None new) (sym h.unread.0) h.unread.1;
  }
  none_opened old names files Memory new texts h read = tt
  none_opened old names files other new texts h read = absurd h.unread

  -- one of those before could not be read
  pub unread_before : (old : S) (names : List (List ℕ)) (files : List (Opened O)) (missing : Option Fault) (new : S)
      (before : List (List ℕ)) (fault : Fault) (after : List (Result (List ℕ) Fault))
      → AreOpenedSoFar gives opens old names files missing new
      → AreReadOf gives files (map (λ text. Ok text) before ++ Err fault ∷ after)
      → IsOfFirstUnread opens old names fault
  unread_before old names files None new before fault after h read =
      subst (λ (ns : List (List ℕ)). IsOfFirstUnread opens old ns fault) (append-nil names)
      (one_unread old names files new before fault after [] h read)
  unread_before old names files (Some e) new before fault after h read =
      subst (λ (ns : List (List ℕ)). IsOfFirstUnread opens old ns fault) (sym h.in_order)
      (one_unread old h.before files h.then before fault after (h.name ∷ h.after) h.opened read)

-- the next name is that of the next word
pub names_next : (words : List (Bor (List ℕ))) (i : ℕ) (d : Bor (List ℕ)) → i < length words
    → names_of (take (i + 1) words) ≡ names_of (take i words) ++ (get_or words i d).now ∷ []
names_next words i d within =
    ap (λ (n : ℕ). names_of (take n words)) (add-one i)
    ∙ ap names_of (take-suc words i d within)
    ∙ map-append (λ (w : Bor (List ℕ)). w.now) (take i words) (get_or words i d ∷ [])

-- the names before a word, its own, and those after it
pub names_parted : (words : List (Bor (List ℕ))) (i : ℕ) (d : Bor (List ℕ)) → i < length words
    → names_of words ≡ names_of (take i words) ++ (get_or words i d).now ∷ names_of (drop (i + 1) words)
names_parted words i d within =
    ap names_of (sym (take-append-drop (i + 1) words))
    ∙ map-append (λ (w : Bor (List ℕ)). w.now) (take (i + 1) words) (drop (i + 1) words)
    ∙ ap (λ (ns : List (List ℕ)). ns ++ names_of (drop (i + 1) words)) (names_next words i d within)
    ∙ append_assoc (names_of (take i words)) ((get_or words i d).now ∷ []) (names_of (drop (i + 1) words))

-- the file of the next word was opened
pub opened_next : {S O : Type 0} (gives : O → Option (List ℕ) → Type 0) (opens : S → List ℕ → Option (List ℕ) → S → Type 0)
    (old : S) (words : List (Bor (List ℕ))) (i : ℕ) (d : Bor (List ℕ)) (files : List (Opened O)) (then : S) (file : Opened O) (new : S)
    → i < length words → AreOpened gives opens old (names_of (take i words)) files then
    → IsOpened gives (λ given. opens then (get_or words i d).now given new) (get_or words i d).now file
    → AreOpened gives opens old (names_of (take (i + 1) words)) (files ++ file ∷ []) new
opened_next gives opens old words i d files then file new within before is =
    subst (λ (ns : List (List ℕ)). AreOpened gives opens old ns (files ++ file ∷ []) new) (sym (names_next words i d within))
    (opened_more gives opens old (names_of (take i words)) files then (get_or words i d).now file new before is)

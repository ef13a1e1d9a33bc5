-- What the definitions of files that are read in order say of listed files.
use Rattle.std.proofs.Common.{◌≡◌, ◌++◌, ◌∷◌, [], ℕ, List, Option, None, Some, MatchOption, refl, sym, ap, subst, ◌∙◌}
use Rattle.text_files.specs.Files.{AreRead, IsFirstUnread}
use Rattle.text_files_tests.specs.ListedFiles.{Held, Text, Unreadable, TooLarge, Listed, MayGive, Opens, named}
use Rattle.text_files_tests.specs.Outcome.{Outcome, Gave, Told, before_others, outcome, outcome_with}

-- a file that gave a text holds it
held_text : (found : Option Held) (text : List ℕ)
    → MatchOption found (Some text ≡ None) (λ held. MayGive held (Some text)) → found ≡ Some (Text text)
held_text None text h = absurd cc
held_text (Some (Text t)) text h = cc
held_text (Some Unreadable) text h = absurd cc
held_text (Some TooLarge) text h = absurd h

-- no octets
abbrev none : Option (List ℕ)
none = None

-- a file that gave none is told
none_told : (found : Option Held) (name : List ℕ) (others : Outcome)
    → MatchOption found (none ≡ none) (λ held. MayGive held none)
    → outcome_with found name others ≡ Told name
none_told None name others h = refl
none_told (Some (Text t)) name others h = absurd cc
none_told (Some Unreadable) name others h = refl
none_told (Some TooLarge) name others h = absurd h

-- a file was read, and then others
text_first : (files : List Listed) (name text : List ℕ) (names : List (List ℕ)) (next : List Listed) (others : Outcome)
    → Opens files name (Some text) next → outcome files names ≡ others
    → outcome files (name ∷ names) ≡ before_others text others
text_first files name text names next others is rest =
    ap (λ found. outcome_with found name (outcome files names)) (held_text (named files name) text is.1)
    ∙ ap (before_others text) rest

-- files that were read gave their texts
pub all_gave : (files : List Listed) (names texts : List (List ℕ)) (last : List Listed)
    → AreRead Opens files names texts last → outcome files names ≡ Gave texts
all_gave files [] [] last h = refl
all_gave files [] (t ∷ texts) last h = absurd h
all_gave files (n ∷ names) [] last h = absurd h
all_gave files (n ∷ names) (t ∷ texts) last h =
    text_first files n t names h.0 (Gave texts) h.1
    (all_gave files names texts last (subst (λ s. AreRead Opens s names texts last) h.1.0 h.2))

-- files before one that can't be read gave their texts
told_after : (files : List Listed) (before : List (List ℕ)) (name : List ℕ) (after texts : List (List ℕ))
    (then last : List Listed) → AreRead Opens files before texts then → Opens then name None last
    → outcome files (before ++ name ∷ after) ≡ Told name
told_after files [] name after [] then last read is =
    none_told (named files name) name (outcome files after) (subst (λ s. Opens s name None last) (sym read) is).1
told_after files [] name after (t ∷ texts) then last read is = absurd read
told_after files (b ∷ before) name after [] then last read is = absurd read
told_after files (b ∷ before) name after (t ∷ texts) then last read is =
    text_first files b t (before ++ name ∷ after) read.0 (Told name) read.1
    (told_after files before name after texts then last (subst (λ s. AreRead Opens s before texts then) read.1.0 read.2)
    is)

-- the first that can't be read is told
pub first_told : (files : List Listed) (names : List (List ℕ)) (name : List ℕ) → IsFirstUnread Opens files names name
    → outcome files names ≡ Told name
first_told files names name h =
    ap (outcome files) h.in_order ∙ told_after files h.before name h.after h.texts h.then h.last h.read h.unread

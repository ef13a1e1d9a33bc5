-- The two parts of a text, before and after its first line that is exactly `---`.
use Rattle.std.specs.Prelude.{◌≡◌, ◌≢◌, ℕ, Bool, if◌then◌else◌, codes, List, [], ◌∷◌, ◌++◌, All, ◌⊎◌}
use Rattle.std.specs.List.{list_any, before_first, after_first, flat_map, join_with_byte}
use Rattle.std.specs.Str.{bytes_eq}
use Rattle.text_io.specs.Texts.{LacksLineFeed, cut, ended}

-- the line between the parts
abbrev pub separator : List ℕ
separator = codes "---"

abbrev pub is_separator : List ℕ → Bool
is_separator line = bytes_eq line separator

-- the lines before the first that is `---`, each ended by LF again, and those after it, joined with LF again
abbrev pub parts_of : List (List ℕ) → List ℕ × List ℕ
parts_of lines = (flat_map ended (before_first is_separator lines), join_with_byte 10 (after_first is_separator lines))

-- a text's two parts: without a line `---` the first is the whole text, and the second is empty
unfoldable pub joined_parts : List ℕ → List ℕ × List ℕ
joined_parts text = if list_any is_separator (cut text) then parts_of (cut text) else (text, [])

-- whole lines, each ended by LF, of which none is `---`
abbrev pub AreOtherLines : List ℕ → Type 0
AreOtherLines octets =
    (lines : List (List ℕ))
    × (octets ≡ flat_map ended lines)
    × All (λ line. LacksLineFeed line × (line ≢ separator)) lines

-- no line of the text is `---`
abbrev pub LacksSeparator : List ℕ → Type 0
LacksSeparator text = All (λ line. line ≢ separator) (cut text)

-- The text is other whole lines, `---`, and then LF and the second part, or nothing more. Or no line of it is `---`,
-- and it is all the first part.
unfoldable pub IsJoined : List ℕ → List ℕ → List ℕ → Type 0
IsJoined text before after =
    (AreOtherLines before
    × ((text ≡ before ++ separator ++ 10 ∷ after) ⊎ ((text ≡ before ++ separator) × (after ≡ []))))
    ⊎ (LacksSeparator text × (before ≡ text) × (after ≡ []))

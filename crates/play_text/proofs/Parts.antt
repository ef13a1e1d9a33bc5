-- Items that are put in two parts.
use Rattle.std.proofs.Common.{◌≡◌, ℕ, suc, ◌<◌, List, [], ◌∷◌, ◌++◌, take, drop, length, get_or, Option, Result, refl, sym, ap, ◌∙◌, arith}
use Rattle.std.specs.Prelude.{flat_map, IfOk}
use Rattle.std.specs.List.{AllZip}
use Rattle.std.proofs.lemmas.List.{nil_from_length, take-append-drop}
use Rattle.std.proofs.lemmas.Slice.Zip.{AllZip-long}
use Rattle.std.proofs.lemmas.List.Concat.{flat_map-append}
use Rattle.text_io.specs.Buffers.{Puts, watch}
use Rattle.text_io.specs.declared.buffer.Buffered.{Buffered}
use Rattle.text_io.specs.BufferLaws.{Puts-then, Puts-same}

-- the first items and the others
pub parted : {X : Type 0} (count : ℕ) (xs : List X) {front back : List X} → front ≡ take count xs → back ≡ drop count xs
    → xs ≡ front ++ back
parted count xs {front = front} first others =
    sym (take-append-drop count xs) ∙ ap (λ l. l ++ drop count xs) (sym first) ∙ ap (λ l. front ++ l) (sym others)

pub Puts-parts : {W : Type 0} {taken : W → Option (List ℕ)} {failed : W → ℕ} {X : Type 0} (f : X → List ℕ)
    (one two : List X) {xs : List X} {a b c : Buffered W} → xs ≡ one ++ two → Puts (watch taken failed) a b (flat_map f one)
    → Puts (watch taken failed) b c (flat_map f two) → Puts (watch taken failed) a c (flat_map f xs)
Puts-parts f one two parts d e =
    Puts-same (sym (flat_map-append f one two) ∙ ap (flat_map f) (sym parts)) (Puts-then d e)

-- ---- parts that became text

-- each text that there was memory for is that of its part
abbrev pub AreTexts : {X E : Type 0} → (X → List ℕ) → List X → List (Result (List ℕ) E) → Type 0
AreTexts f parts texts = AllZip (λ part text. IfOk text (λ t. t ≡ f part)) parts texts

pub texts_by_place : {X E : Type 0} (f : X → List ℕ) (parts : List X) (texts : List (Result (List ℕ) E))
    → length parts ≡ length texts
    → ((i : ℕ) (d : X) (e : Result (List ℕ) E) → i < length parts
    → IfOk (get_or texts i e) (λ t. t ≡ f (get_or parts i d)))
    → AreTexts f parts texts
texts_by_place f [] [] count each = tt
texts_by_place f [] (text ∷ texts) count each = absurd (omega (arith, count))
texts_by_place f (part ∷ parts) [] count each = absurd (omega (arith, count))
texts_by_place f (part ∷ parts) (text ∷ texts) count each = (
  each 0 part text (omega arith),
  texts_by_place f parts texts (omega (arith, count)) (λ i d e within. each (suc i) d e (omega (arith, within))),
)

-- ---- two lists, of which each pair agrees

-- the next pair, where the second list goes on
pub next_pair : {X Y : Type 0} (R : X → Y → Type 0) (xs : List X) (ys : List Y) (y : Y) (rest : List Y) → ys ≡ y ∷ rest
    → AllZip R xs ys → (x : X) × (later : List X) × (xs ≡ x ∷ later) × R x y × AllZip R later rest
next_pair R [] ys y rest is all = absurd (rw is at all)
next_pair R (x ∷ xs) ys y rest is all = let both = rw is at all in (x, xs, refl, both.0, both.1)

-- no pair is left
pub no_pair : {X Y : Type 0} (R : X → Y → Type 0) (xs : List X) (ys : List Y) → length ys ≡ 0 → AllZip R xs ys → xs ≡ []
no_pair R xs ys none all = nil_from_length xs (omega (arith, none, AllZip-long R xs ys all))

-- the items of all parts
pub flat_parts : {X : Type 0} (f : X → List ℕ) (parts : List (List X))
    → flat_map (λ part. flat_map f part) parts ≡ flat_map f (flat_map (λ part. part) parts)
flat_parts f [] = refl
flat_parts f (part ∷ parts) =
    ap (λ (t : List ℕ). flat_map f part ++ t) (flat_parts f parts)
    ∙ sym (flat_map-append f part (flat_map (λ part. part) parts))

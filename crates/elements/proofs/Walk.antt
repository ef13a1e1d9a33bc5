-- The walk over a body gives its elements, and no others.
use Rattle.std.proofs.Common.{◌≡◌, ◌-◌, ℕ, zero, suc, ◌+◌, ◌<◌, ◌≤◌, Bool, true, false, get_or, List, [], ◌∷◌, ◌++◌, length, take, drop, Option, Some, None, cond, leb, eqb, refl, sym, ap, ◌∙◌, subst, arith, tests, length-drop, length-append}
use Rattle.std.specs.Option.{is_some, unwrap_or}
use Rattle.std.specs.List.{flat_map}
use Rattle.std.proofs.lemmas.Bool.{le-leb, lt-leb, leb-true}
use Rattle.std.proofs.lemmas.List.{take_at, drop_at, take-append-drop, get_or-drop, length-take, take_rest}
use Rattle.std.proofs.lemmas.Option.{none-some, same_Some}
use Rattle.elements.specs.Elements.{Pair, spelled, before, elements_within, elements_of, listed, IsElements}

-- more steps than octets change nothing
pub elements_within-enough : (m n : ℕ) (body : List ℕ) → length body ≤ m → length body ≤ n → elements_within m body ≡ elements_within n body
unfolding elements_within
elements_within-enough m n [] p q = refl
elements_within-enough m n (id ∷ []) p q = refl
elements_within-enough zero n (id ∷ len ∷ rest) p q = absurd (omega arith)
elements_within-enough (suc m) zero (id ∷ len ∷ rest) p q = absurd (omega arith)
elements_within-enough (suc m) (suc n) (id ∷ len ∷ rest) p q =
    ap (λ others. cond (leb len (length rest)) (before (id, take len rest) others) None)
    (elements_within-enough m n (drop len rest) (omega (arith, length-drop len rest)) (omega (arith, length-drop len rest)))

-- the first element is read, and the walk goes on after it
pub elements_of-cons : (id len : ℕ) (rest : List ℕ) → elements_of (id ∷ len ∷ rest) ≡ cond (leb len (length rest)) (before (id, take len rest) (elements_of (drop len rest))) None
unfolding elements_of elements_within
elements_of-cons id len rest =
    ap (λ others. cond (leb len (length rest)) (before (id, take len rest) others) None)
    (elements_within-enough (suc (length rest)) (length (drop len rest)) (drop len rest) (omega (arith, length-drop len rest)) (omega arith))

-- the first element fits
pub elements_of-fits : (id len : ℕ) (rest : List ℕ) → len ≤ length rest → elements_of (id ∷ len ∷ rest) ≡ before (id, take len rest) (elements_of (drop len rest))
elements_of-fits id len rest fits =
    elements_of-cons id len rest ∙ ap (λ test. cond test (before (id, take len rest) (elements_of (drop len rest))) None) (le-leb len (length rest) fits)

-- the first element passes the end
pub elements_of-overrun : (id len : ℕ) (rest : List ℕ) → length rest < len → elements_of (id ∷ len ∷ rest) ≡ None
elements_of-overrun id len rest passes =
    elements_of-cons id len rest ∙ ap (λ test. cond test (before (id, take len rest) (elements_of (drop len rest))) None) (lt-leb len (length rest) passes)

-- a concatenation of elements is read as these
pub elements_of-spelled : (es : List Pair) → elements_of (flat_map spelled es) ≡ Some es
unfolding elements_of elements_within
elements_of-spelled [] = refl
elements_of-spelled (e ∷ es) =
    let others = flat_map spelled es in
    let here : length e.1 ≤ length (e.1 ++ others) = omega (arith, length-append e.1 others) in
    elements_of-fits e.0 (length e.1) (e.1 ++ others) here
    ∙ rw (take_at e.1 others (length e.1) refl, drop_at e.1 others (length e.1) refl, elements_of-spelled es) refl

-- what comes after an element that is before others
pub before_is : (e : Pair) (o : Option (List Pair)) (es : List Pair) → before e o ≡ Some es → (others : List Pair) × (o ≡ Some others) × (e ∷ others ≡ es)
before_is e None es h = absurd (none-some es h)
before_is e (Some others) es h = (others, refl, same_Some (e ∷ others) es h)

-- an element before a concatenation of elements
pub IsElements-cons : (id len : ℕ) (rest : List ℕ) (others : List Pair) → len < 256 → len ≤ length rest → IsElements (drop len rest) others → IsElements (id ∷ len ∷ rest) ((id, take len rest) ∷ others)
IsElements-cons id len rest others octet fits after =
    let same : length (take len rest) ≡ len = omega (arith, length-take len rest) in
    record {
      whole = rw (same, ← after.whole, take-append-drop len rest) refl;
      short = (omega arith, after.short);
    }

-- a test that gave something was true
chosen : (b : Bool) (o : Option (List Pair)) (es : List Pair) → cond b o None ≡ Some es → (b ≡ true) × (o ≡ Some es)
chosen true o es h = (refl, h)
chosen false o es h = absurd (none-some es h)

-- the walk gives a concatenation of elements
pub IsElements-from_within : (n : ℕ) (body : List ℕ) (es : List Pair) → ((i : ℕ) → get_or body i 0 < 256) → elements_within n body ≡ Some es → IsElements body es
unfolding elements_within
IsElements-from_within n [] es octets h =
    subst (IsElements []) (same_Some [] es h) (record { whole = refl; short = tt })
IsElements-from_within n (id ∷ []) es octets h = absurd (none-some es h)
IsElements-from_within zero (id ∷ len ∷ rest) es octets h = absurd (none-some es h)
IsElements-from_within (suc n) (id ∷ len ∷ rest) es octets h =
    let test = chosen (leb len (length rest)) (before (id, take len rest) (elements_within n (drop len rest))) es h in
    let fits = leb-true len (length rest) test.0 in
    let p = before_is (id, take len rest) (elements_within n (drop len rest)) es test.1 in
    subst (IsElements (id ∷ len ∷ rest)) p.2 (IsElements-cons id len rest p.0 (octets 1) fits (IsElements-from_within n (drop len rest) p.0 (λ i. rw get_or-drop (octets (suc (suc (len + i))))) p.1))

-- the octets of a body are below 256
abbrev pub AreOctets : List ℕ → Type 0
AreOctets body = (i : ℕ) → get_or body i 0 < 256

-- what is read is the body
pub IsElements-from_read : (body : List ℕ) (es : List Pair) → AreOctets body → elements_of body ≡ Some es → IsElements body es
unfolding elements_of
IsElements-from_read body es octets h = IsElements-from_within (length body) body es octets h

-- what is the body is read
pub elements_of_elements : (body : List ℕ) (es : List Pair) → IsElements body es → elements_of body ≡ Some es
elements_of_elements body es h = ap elements_of h.whole ∙ elements_of-spelled es

-- a body is one list of elements at most
pub same_elements : (body : List ℕ) (es fs : List Pair) → IsElements body es → IsElements body fs → es ≡ fs
same_elements body es fs h k =
    same_Some es fs (sym (elements_of_elements body es h) ∙ elements_of_elements body fs k)

-- ---- a body by its places

-- fewer than two octets are no element
pub elements_of_short : (body : List ℕ) → length body < 2 → elements_of body ≡ cond (eqb (length body) 0) (Some []) None
unfolding elements_of elements_within
elements_of_short [] short = refl
elements_of_short (id ∷ []) short = refl
elements_of_short (id ∷ len ∷ rest) short = absurd (omega arith)

-- nor are octets whose length passes the end
pub elements_of_overrun : (body : List ℕ) → 2 ≤ length body → length body < get_or body 1 0 + 2 → elements_of body ≡ cond (eqb (length body) 0) (Some []) None
elements_of_overrun [] two passes = absurd (omega arith)
elements_of_overrun (id ∷ []) two passes = absurd (omega arith)
elements_of_overrun (id ∷ len ∷ rest) two passes =
    let some : eqb (length (id ∷ len ∷ rest)) 0 ≡ false = search (arith, tests) in
    elements_of-overrun id len rest (omega arith) ∙ rw some refl

-- any others are, and the walk goes on after it
pub elements_of_split : (body : List ℕ) → get_or body 1 0 + 2 ≤ length body → elements_of body ≡ before (get_or body 0 0, take (get_or body 1 0) (take (length body - 2) (drop 2 body))) (elements_of (drop (get_or body 1 0) (take (length body - 2) (drop 2 body))))
elements_of_split [] fits = absurd (omega arith)
elements_of_split (id ∷ []) fits = absurd (omega arith)
elements_of_split (id ∷ len ∷ rest) fits =
    let all = take_rest (id ∷ len ∷ rest) 2 in
    let here : len ≤ length rest = omega arith in
    elements_of-fits id len rest here ∙ rw all refl

-- ---- whether there are elements

-- an option that has a value
pub some_is : (o : Option (List Pair)) → is_some o ≡ true → o ≡ Some (unwrap_or o [])
some_is None h = absurd (cc)
some_is (Some es) h = refl

-- a body of elements is the list of its elements
pub listed_is : (body : List ℕ) → is_some (elements_of body) ≡ true → elements_of body ≡ Some (listed body)
listed_is body h = some_is (elements_of body) h

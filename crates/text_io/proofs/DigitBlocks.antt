-- What is loaded of a text, and what a store leaves.
use Rattle.std.proofs.Common.{◌≡◌, ℕ, ◌+◌, ◌-◌, ◌*◌, ◌<◌, ◌≤◌, Bool, true, false, eqb, ltb, List, [], ◌∷◌, ◌++◌, length}
use Rattle.std.proofs.Common.{get_or, refl, sym, ap, ◌∙◌, subst, arith, inl, inr}
use Rattle.std.proofs.lemmas.Bool.{agree_below_at, cases_lt, eqb-true, ltb-true}
use Rattle.std.proofs.lemmas.List.{get_or-map, get_or_append_left, get_or-append_right}
use Rattle.std.proofs.lemmas.Simd.{get_or-chunk, get_or-put_chunk_at, get_or-put_chunk_below, length-chunk}
use Rattle.std.proofs.lemmas.Simd.{length-put_chunk, pick_l_left, pick_l-range_with_len}
use Rattle.std.specs.Bool.{OnTrue}
use Rattle.std.specs.List.{range_with_len}
use lib.Lanes.{chunk, pick_l, put_chunk}
use Rattle.hex.specs.Hex.{is_hex_digit}
use Rattle.text_io.specs.Pairs.{AreDigits, PairReads, PairSpells, ReadsAt, SpellsAt}

-- two loads, one after the other
pub loaded-two : (xs : List ℕ) (i m : ℕ) → i + 32 ≤ length xs → m < 32
    → get_or (chunk i 16 xs ++ chunk (i + 16) 16 xs) m 0 ≡ get_or xs (i + m) 0
loaded-two xs i m room lt =
    let long : length (chunk i 16 xs) ≡ 16 = length-chunk i 16 xs (omega arith) in
    elim (cases_lt m 16) [
      | inl early ↦ get_or_append_left (chunk i 16 xs) _ 0 m (omega arith) ∙ get_or-chunk i 16 xs m 0 early
      | inr late ↦
          get_or-append_right (chunk i 16 xs) (chunk (i + 16) 16 xs) 16 m 0 long late
          ∙ get_or-chunk (i + 16) 16 xs (m - 16) 0 (omega arith) ∙ ap (λ k. get_or xs k 0) (omega arith)
    ]

-- the first lanes of a load that is followed by others
pub loaded-first : (xs ys : List ℕ) (i m : ℕ) → i + 16 ≤ length xs → m < 16
    → get_or (chunk i 16 xs ++ ys) m 0 ≡ get_or xs (i + m) 0
loaded-first xs ys i m room lt =
    get_or_append_left (chunk i 16 xs) ys 0 m (omega (arith, length-chunk i 16 xs room)) ∙ get_or-chunk i 16 xs m 0 lt

-- the first n lanes of a block, as a store of a part of it takes them
abbrev pub front : ℕ → List ℕ → List ℕ
front n block = pick_l 0 (block ++ block) (range_with_len 0 n)

pub get_or-front : (n : ℕ) (block : List ℕ) (j : ℕ) → front n block ≡ chunk 0 n block → j < n
    → get_or (front n block) j 0 ≡ get_or block j 0
get_or-front n block j is lt =
    ap (λ l. get_or l j 0) is ∙ get_or-chunk 0 n block j 0 lt ∙ ap (λ k. get_or block k 0) (omega arith)

pub front-eight : (block : List ℕ) → length block ≡ 16 → front 8 block ≡ chunk 0 8 block
front-eight block long =
    pick_l_left 0 block block 16 (range_with_len 0 8) long tt ∙ pick_l-range_with_len 0 block 0 8 (omega arith)

pub front-four : (block : List ℕ) → length block ≡ 16 → front 4 block ≡ chunk 0 4 block
front-four block long =
    pick_l_left 0 block block 16 (range_with_len 0 4) long tt ∙ pick_l-range_with_len 0 block 0 4 (omega arith)

-- the same octet of the same characters
pub same_pair : {a b v a' b' v' : ℕ} → a ≡ a' → b ≡ b' → v ≡ v' → PairReads a b v → PairReads a' b' v'
same_pair p q r = subst (λ t. t) (λ i. PairReads (p i) (q i) (r i))

-- a block whose characters were loaded from the text, and whose first n octets are stored
pub stored_reads : (text octets xs block part : List ℕ) (ok : Bool) (at n : ℕ) → n ≤ 16 → length part ≡ n
    → at + n ≤ length octets
    → ((j : ℕ) → j < n → get_or part j 0 ≡ get_or block j 0)
    → ((m : ℕ) → m < 2 * n → get_or xs m 0 ≡ get_or text (2 * at + m) 0)
    → OnTrue ok ((j : ℕ) → j < 16 → PairReads (get_or xs (2 * j) 0) (get_or xs (2 * j + 1) 0) (get_or block j 0))
    → OnTrue ok ((k : ℕ) → at ≤ k → k < at + n → ReadsAt text (put_chunk at octets part) k)
stored_reads text octets xs block part false at n few long room same loaded reads = tt
stored_reads text octets xs block part true at n few long room same loaded reads = λ k from to.
    let j : ℕ = k - at in
    let whole : at + j ≡ k = omega arith in
    let stored : get_or (put_chunk at octets part) k 0 ≡ get_or block j 0 =
    ap (λ m. get_or (put_chunk at octets part) m 0) (sym whole)
    ∙ get_or-put_chunk_at at octets part j 0 (omega arith) (omega arith) ∙ same j (omega arith) in
    let high : get_or xs (2 * j) 0 ≡ get_or text (2 * k) 0 =
    loaded (2 * j) (omega arith) ∙ ap (λ m. get_or text m 0) (omega arith) in
    let low : get_or xs (2 * j + 1) 0 ≡ get_or text (2 * k + 1) 0 =
    loaded (2 * j + 1) (omega arith) ∙ ap (λ m. get_or text m 0) (omega arith) in
    same_pair high low (sym stored) (reads j (omega arith))

-- eight lanes, twice
abbrev pub twice_eight : List ℕ
twice_eight = 0 ∷ 1 ∷ 2 ∷ 3 ∷ 4 ∷ 5 ∷ 6 ∷ 7 ∷ 0 ∷ 1 ∷ 2 ∷ 3 ∷ 4 ∷ 5 ∷ 6 ∷ 7 ∷ []

-- a load of eight lanes, made 16
pub eight_lanes : (xs : List ℕ) (i m : ℕ) → i + 8 ≤ length xs → m < 8
    → get_or (pick_l 0 (chunk i 8 xs ++ chunk i 8 xs) twice_eight) m 0 ≡ get_or xs (i + m) 0
eight_lanes xs i m room lt =
    let few : List ℕ = chunk i 8 xs in
    let at = agree_below_at (λ k. eqb (get_or twice_eight k 0) k) (λ _. true) 8 m refl lt in
    get_or-map (λ k. get_or (few ++ few) k 0) twice_eight m 0 0 (omega arith)
    ∙ ap (λ k. get_or (few ++ few) k 0) (eqb-true _ _ at)
    ∙ get_or_append_left few few 0 m (omega (arith, length-chunk i 8 xs room)) ∙ get_or-chunk i 8 xs m 0 lt

pub loaded-eight : (xs ys : List ℕ) (i m : ℕ) → i + 8 ≤ length xs → m < 8
    → get_or (pick_l 0 (chunk i 8 xs ++ chunk i 8 xs) twice_eight ++ ys) m 0 ≡ get_or xs (i + m) 0
loaded-eight xs ys i m room lt =
    get_or_append_left (pick_l 0 (chunk i 8 xs ++ chunk i 8 xs) twice_eight) ys 0 m (omega arith)
    ∙ eight_lanes xs i m room lt

-- four lanes, four times
abbrev pub four_times : List ℕ
four_times = 0 ∷ 1 ∷ 2 ∷ 3 ∷ 0 ∷ 1 ∷ 2 ∷ 3 ∷ 0 ∷ 1 ∷ 2 ∷ 3 ∷ 0 ∷ 1 ∷ 2 ∷ 3 ∷ []

-- a load of four lanes, made 16
pub four_lanes : (xs : List ℕ) (i m : ℕ) → i + 4 ≤ length xs → m < 4
    → get_or (pick_l 0 (chunk i 4 xs ++ chunk i 4 xs) four_times) m 0 ≡ get_or xs (i + m) 0
four_lanes xs i m room lt =
    let few : List ℕ = chunk i 4 xs in
    let at = agree_below_at (λ k. eqb (get_or four_times k 0) k) (λ _. true) 4 m refl lt in
    get_or-map (λ k. get_or (few ++ few) k 0) four_times m 0 0 (omega arith)
    ∙ ap (λ k. get_or (few ++ few) k 0) (eqb-true _ _ at)
    ∙ get_or_append_left few few 0 m (omega (arith, length-chunk i 4 xs room)) ∙ get_or-chunk i 4 xs m 0 lt

-- two stores, one after the other
pub stored-two : (xs ys zs : List ℕ) (i m : ℕ) → length ys ≡ 16 → length zs ≡ 16 → i + 32 ≤ length xs → m < 32
    → get_or (put_chunk (i + 16) (put_chunk i xs ys) zs) (i + m) 0 ≡ get_or (ys ++ zs) m 0
stored-two xs ys zs i m p q room lt =
    elim (cases_lt m 16) [
      | inl early ↦
          get_or-put_chunk_below (i + 16) (put_chunk i xs ys) zs (i + m) 0 (omega arith)
          ∙ get_or-put_chunk_at i xs ys m 0 (omega arith) (omega arith)
          ∙ sym (get_or_append_left ys zs 0 m (omega arith))
      | inr late ↦
          ap (λ k. get_or (put_chunk (i + 16) (put_chunk i xs ys) zs) k 0) (omega arith)
          ∙ get_or-put_chunk_at (i + 16) (put_chunk i xs ys) zs (m - 16) 0 (omega arith)
          (omega (arith, length-put_chunk i xs ys))
          ∙ sym (get_or-append_right ys zs 16 m 0 p late)
    ]

-- a store of the first n of 16 lanes
pub stored-first : (xs part ys zs : List ℕ) (i n m : ℕ) → length part ≡ n → length ys ≡ 16 → n ≤ 16 → i + n ≤ length xs
    → ((j : ℕ) → j < n → get_or part j 0 ≡ get_or ys j 0) → m < n
    → get_or (put_chunk i xs part) (i + m) 0 ≡ get_or (ys ++ zs) m 0
stored-first xs part ys zs i n m p q few room same lt =
    get_or-put_chunk_at i xs part m 0 (omega arith) (omega arith) ∙ same m lt
    ∙ sym (get_or_append_left ys zs 0 m (omega arith))

pub same_spelling : {o a b o' a' b' : ℕ} → o ≡ o' → a ≡ a' → b ≡ b' → PairSpells o a b → PairSpells o' a' b'
same_spelling p q r = subst (λ t. t) (λ i. PairSpells (p i) (q i) (r i))

-- a block whose octets were loaded, and whose first n pairs of digits are stored
pub stored_spells : (octets new block pairs : List ℕ) (at n : ℕ) → n ≤ 16
    → ((j : ℕ) → j < n → get_or block j 0 ≡ get_or octets (at + j) 0)
    → ((m : ℕ) → m < 2 * n → get_or new (2 * at + m) 0 ≡ get_or pairs m 0)
    → ((j : ℕ) → j < 16 → SpellsAt block pairs j) → (k : ℕ) → at ≤ k → k < at + n → SpellsAt octets new k
stored_spells octets new block pairs at n few loaded stored spells k from to =
    let j : ℕ = k - at in
    let octet : get_or block j 0 ≡ get_or octets k 0 =
    loaded j (omega arith) ∙ ap (λ m. get_or octets m 0) (omega arith) in
    let high : get_or new (2 * k) 0 ≡ get_or pairs (2 * j) 0 =
    ap (λ m. get_or new m 0) (omega arith) ∙ stored (2 * j) (omega arith) in
    let low : get_or new (2 * k + 1) 0 ≡ get_or pairs (2 * j + 1) 0 =
    ap (λ m. get_or new m 0) (omega arith) ∙ stored (2 * j + 1) (omega arith) in
    same_spelling octet (sym high) (sym low) (spells j (omega arith))

-- of a text of digits, the characters that were loaded are digits
pub loaded_digits : (text xs : List ℕ) (start n : ℕ) → start + n ≤ length text
    → ((m : ℕ) → m < n → get_or xs m 0 ≡ get_or text (start + m) 0) → AreDigits text
    → (m : ℕ) → m < n → is_hex_digit (get_or xs m 0) ≡ true
loaded_digits text xs start n room loaded digits m lt = rw (loaded m lt) (digits (start + m) (omega arith))

-- the same characters twice
pub twice_digits : (n : ℕ) (xs : List ℕ) → length xs ≡ n → ((m : ℕ) → m < n → is_hex_digit (get_or xs m 0) ≡ true)
    → (m : ℕ) → m < 2 * n → is_hex_digit (get_or (xs ++ xs) m 0) ≡ true
twice_digits n xs long digits m lt =
    elim (cases_lt m n) [
      | inl early ↦ rw (get_or_append_left xs xs 0 m (omega arith)) (digits m early)
      | inr late ↦ rw (get_or-append_right xs xs n m 0 long late) (digits (m - n) (omega arith))
    ]

abbrev is_early : ℕ → Bool
is_early k = ltb (get_or twice_eight k 0) 8

-- eight characters that were loaded, made 16
pub picked_digits : (text : List ℕ) (start : ℕ) → start + 8 ≤ length text → AreDigits text → (m : ℕ) → m < 16
    → is_hex_digit (get_or (pick_l 0 (chunk start 8 text ++ chunk start 8 text) twice_eight) m 0) ≡ true
picked_digits text start room digits m lt =
    let few : List ℕ = chunk start 8 text in
    let at : ℕ = get_or twice_eight m 0 in
    let early : at < 8 = ltb-true at 8 (agree_below_at is_early (λ _. true) 16 m refl lt) in
    let is : get_or (pick_l 0 (few ++ few) twice_eight) m 0 ≡ get_or text (start + at) 0 =
    get_or-map (λ k. get_or (few ++ few) k 0) twice_eight m 0 0 lt
    ∙ get_or_append_left few few 0 at (omega (arith, length-chunk start 8 text room))
    ∙ get_or-chunk start 8 text at 0 early in
    rw is (digits (start + at) (omega arith))

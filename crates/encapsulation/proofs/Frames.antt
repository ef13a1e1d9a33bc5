-- A string is an Ethernet frame, by the concatenation of its fields, exactly where the tests in their order find no
-- fault.
use Rattle.std.proofs.Common.{◌≡◌, ℕ, ◌+◌, ◌≤◌, ◌⊎◌, inl, inr, Bool, true, false, ltb, List, ◌++◌, length, take, drop}
use Rattle.std.proofs.Common.{Result, Ok, Err, if◌then◌else◌, refl, sym, ◌∙◌, ap, subst, ⊎_elim, arith, length-append}
use Rattle.std.proofs.Common.{append_assoc, length-drop}
use Rattle.std.proofs.lemmas.Bool.{le-ltb, le-leb, lt-leb, leb-true, ltb-false, and_from, and_parts}
use Rattle.std.proofs.lemmas.List.{length-take-le, take-append-drop, take_at, drop_at, drop-drop}
use Rattle.mac_frame.specs.declared.frame.Unread.{Unread}
use Rattle.mac_frame.specs.declared.frame.Unread.TheVariants.{Short, Body, TooLong}
use Rattle.encapsulation.specs.declared.ethernet.Kind.{Kind}
use Rattle.encapsulation.specs.declared.ethernet.Kind.TheVariants.{Typed, Sized}
use Rattle.encapsulation.specs.Ethernet.{Ethernet, number, is_type, is_length, IsParted, IsOfKind, IsEthernet, number_of}
use Rattle.encapsulation.specs.Ethernet.{rest_of, frame_at, typed_of, sized_of, ethernet_of}

-- ---- where the fields stand

-- each field stands at its place of the string
pub record IsPlaced (y to source : List ℕ) (n : ℕ) (rest : List ℕ) : Type 0 where
  pub long : length y ≡ 14 + length rest
  pub to_is : take 6 y ≡ to
  pub source_is : take 6 (drop 6 y) ≡ source
  pub number_is : number_of y ≡ n
  pub rest_is : rest_of y ≡ rest

pub placed : (y to source : List ℕ) (n : ℕ) (rest : List ℕ) → IsParted y to source n rest → IsPlaced y to source n rest
placed y to source n rest p =
    let after_source = p.field ++ rest in
    let after_destination = source ++ after_source in
    let string : y ≡ to ++ after_destination =
    p.string ∙ append_assoc (to ++ source) p.field rest ∙ append_assoc to source after_source in
    let at_6 : drop 6 y ≡ after_destination = ap (drop 6) string ∙ drop_at to after_destination 6 p.destination_len in
    let at_12 : drop 12 y ≡ after_source =
    sym (drop-drop 6 6 y) ∙ ap (drop 6) at_6 ∙ drop_at source after_source 6 p.source_len in
    let at_14 : drop 14 y ≡ rest = sym (drop-drop 2 12 y) ∙ ap (drop 2) at_12 ∙ drop_at p.field rest 2 p.field_len in
    let field : take 2 (drop 12 y) ≡ p.field = ap (take 2) at_12 ∙ take_at p.field rest 2 p.field_len in
    let destination_rest = length-append to after_destination in
    let source_rest = length-append source after_source in
    let field_rest = length-append p.field rest in
    let parts_len : length (to ++ after_destination) ≡ 14 + length rest =
    omega (arith, destination_rest, source_rest, field_rest, p.destination_len, p.source_len, p.field_len) in
    record {
      long = ap length string ∙ parts_len;
      to_is = ap (take 6) string ∙ take_at to after_destination 6 p.destination_len;
      source_is = ap (take 6) at_6 ∙ take_at source after_source 6 p.source_len;
      number_is = ap number field ∙ p.number_is;
      rest_is = at_14;
    }

-- a string of 14 octets and more has these fields
pub parted : (y : List ℕ) → 14 ≤ length y → IsParted y (take 6 y) (take 6 (drop 6 y)) (number_of y) (rest_of y)
parted y long =
    let at_12 : take 2 (drop 12 y) ++ rest_of y ≡ drop 12 y =
    ap (λ rest. take 2 (drop 12 y) ++ rest) (sym (drop-drop 2 12 y)) ∙ take-append-drop 2 (drop 12 y) in
    let at_6 : take 6 (drop 6 y) ++ drop 12 y ≡ drop 6 y =
    ap (λ rest. take 6 (drop 6 y) ++ rest) (sym (drop-drop 6 6 y)) ∙ take-append-drop 6 (drop 6 y) in
    let destination = take 6 y in
    let source = take 6 (drop 6 y) in
    let field = take 2 (drop 12 y) in
    let whole : destination ++ source ++ field ++ rest_of y ≡ y =
    append_assoc (destination ++ source) field (rest_of y)
    ∙ append_assoc destination source (field ++ rest_of y)
    ∙ ap (λ rest. destination ++ (source ++ rest)) at_12
    ∙ ap (λ rest. destination ++ rest) at_6
    ∙ take-append-drop 6 y in
    record {
      field = field;
      string = sym whole;
      destination_len = length-take-le 6 y (omega arith);
      source_len = length-take-le 6 (drop 6 y) (omega (arith, length-drop 6 y));
      field_len = length-take-le 2 (drop 12 y) (omega (arith, length-drop 12 y));
      number_is = refl;
    }

-- ---- a frame passes the tests

typed_where : (y : List ℕ) → ltb (length y) 14 ≡ false → is_type (number_of y) ≡ true
    → ltb 2296 (length (rest_of y)) ≡ false → ethernet_of y ≡ Ok (frame_at y (Typed (number_of y)) (rest_of y))
typed_where y long typed short = rw (long, typed, short) refl

sized_where : (y : List ℕ) → ltb (length y) 14 ≡ false → is_type (number_of y) ≡ false → is_length (number_of y) ≡ true
    → ltb (length (rest_of y)) (number_of y) ≡ false
    → ethernet_of y ≡ Ok (frame_at y Sized (take (number_of y) (rest_of y)))
sized_where y long typed sized fits = rw (long, typed, sized, fits) refl

same_frame : (kind other : Kind) (y to source : List ℕ) (n : ℕ) (rest payload part : List ℕ)
    → IsPlaced y to source n rest → kind ≡ other → part ≡ payload
    → frame_at y kind part ≡ record { to = to; source = source; kind = other; payload = payload }
same_frame kind other y to source n rest payload part p k e =
    λ i. record { to = p.to_is i; source = p.source_is i; kind = k i; payload = e i }

read_of_kind : (kind : Kind) (y to source payload : List ℕ) → IsOfKind kind y to source payload
    → ethernet_of y ≡ Ok (record { to = to; source = source; kind = kind; payload = payload })
read_of_kind (Typed type) y to source payload t =
    let p = placed y to source type payload t.parts in
    let least = t.least in
    let short = t.short in
    let long : ltb (length y) 14 ≡ false = le-ltb (length y) 14 (omega (arith, p.long)) in
    let typed : is_type (number_of y) ≡ true =
    le-leb 0x0600 (number_of y) (subst (λ n. 0x0600 ≤ n) (sym p.number_is) least) in
    let fits : ltb 2296 (length (rest_of y)) ≡ false =
    le-ltb 2296 (length (rest_of y)) (subst (λ rest. length rest ≤ 2296) (sym p.rest_is) short) in
    let same_kind = ap Typed p.number_is in
    typed_where y long typed fits
    ∙ ap Ok (same_frame (Typed (number_of y)) (Typed type) y to source type payload payload (rest_of y)
    p same_kind p.rest_is)
read_of_kind Sized y to source payload s =
    let n = length payload in
    let p = placed y to source n (payload ++ s.padding) s.parts in
    let least = s.least in
    let greatest = s.greatest in
    let number_is = p.number_is in
    let long : ltb (length y) 14 ≡ false = le-ltb (length y) 14 (omega (arith, p.long)) in
    let typed : is_type (number_of y) ≡ false = lt-leb 0x0600 (number_of y) (omega arith) in
    let sized : is_length (number_of y) ≡ true =
    and_from _ _ (le-leb 3 (number_of y) (omega arith)) (le-leb (number_of y) 1500 (omega arith)) in
    let rest_len : length (rest_of y) ≡ length payload + length s.padding =
    ap length p.rest_is ∙ length-append payload s.padding in
    let fits : ltb (length (rest_of y)) (number_of y) ≡ false =
    le-ltb (length (rest_of y)) (number_of y) (omega arith) in
    let part : take (number_of y) (rest_of y) ≡ payload =
    ap (λ k. take k (rest_of y)) number_is ∙ ap (take n) p.rest_is ∙ take_at payload s.padding n refl in
    let rest = payload ++ s.padding in
    sized_where y long typed sized fits
    ∙ ap Ok (same_frame Sized Sized y to source n rest payload (take (number_of y) (rest_of y)) p refl part)

-- a frame is what the function gives
pub is_read : (y : List ℕ) (w : Ethernet) → IsEthernet y w → ethernet_of y ≡ Ok w
is_read y w h = read_of_kind w.kind y w.to w.source w.payload h

-- ---- what passes the tests is a frame

-- a step that isn't taken
not_taken : (b : Bool) (u : Unread) (r : Result Ethernet Unread) (w : Ethernet) → (if b then Err u else r) ≡ Ok w
    → (b ≡ false) × (r ≡ Ok w)
not_taken true u r w e = cc
not_taken false u r w e = (refl, e)

-- one of two ways
taken : (b : Bool) (r s : Result Ethernet Unread) (w : Ethernet) → (if b then r else s) ≡ Ok w
    → ((b ≡ true) × (r ≡ Ok w)) ⊎ ((b ≡ false) × (s ≡ Ok w))
taken true r s w e = inl (refl, e)
taken false r s w e = inr (refl, e)

typed_is : (y : List ℕ) (w : Ethernet) → 14 ≤ length y → is_type (number_of y) ≡ true → typed_of y ≡ Ok w
    → IsEthernet y w
typed_is y w long typed e =
    let back = not_taken (ltb 2296 (length (rest_of y))) TooLong _ w e in
    let same : frame_at y (Typed (number_of y)) (rest_of y) ≡ w = cc back.1 in
    subst (IsEthernet y) same (record {
      parts = parted y long;
      least = leb-true 0x0600 (number_of y) typed;
      short = ltb-false 2296 (length (rest_of y)) back.0;
    })

sized_is : (y : List ℕ) (w : Ethernet) → 14 ≤ length y → is_length (number_of y) ≡ true → sized_of y ≡ Ok w
    → IsEthernet y w
sized_is y w long sized e =
    let n = number_of y in
    let back = not_taken (ltb (length (rest_of y)) n) Body _ w e in
    let same : frame_at y Sized (take n (rest_of y)) ≡ w = cc back.1 in
    let limits = and_parts _ _ sized in
    let fits : n ≤ length (rest_of y) = ltb-false (length (rest_of y)) n back.0 in
    let payload_len : length (take n (rest_of y)) ≡ n = length-take-le n (rest_of y) fits in
    let p = parted y long in
    let P : ℕ → List ℕ → Type 0 = λ k rest. IsParted y (take 6 y) (take 6 (drop 6 y)) k rest in
    let parts : P (length (take n (rest_of y))) (take n (rest_of y) ++ drop n (rest_of y)) =
    subst (λ k. P k (take n (rest_of y) ++ drop n (rest_of y))) (sym payload_len)
    (subst (P n) (sym (take-append-drop n (rest_of y))) p) in
    subst (IsEthernet y) same (record {
      padding = drop n (rest_of y);
      parts = parts;
      least = subst (λ k. 3 ≤ k) (sym payload_len) (leb-true 3 n limits.0);
      greatest = subst (λ k. k ≤ 1500) (sym payload_len) (leb-true n 1500 limits.1);
    })

-- what the function gives is a frame
pub is_a_frame : (y : List ℕ) (w : Ethernet) → ethernet_of y ≡ Ok w → IsEthernet y w
is_a_frame y w e =
    let short = not_taken (ltb (length y) 14) Short _ w e in
    let long : 14 ≤ length y = ltb-false (length y) 14 short.0 in
    ⊎_elim
    (λ typed. typed_is y w long typed.0 typed.1)
    (λ other. ⊎_elim
    (λ sized. sized_is y w long sized.0 sized.1)
    (λ none. absurd (cc none.1))
    (taken (is_length (number_of y)) (sized_of y) (Err Body) w other.1))
    (taken (is_type (number_of y)) (typed_of y) _ w short.1)

-- ---- what follows

pub is_one : (y : List ℕ) (v w : Ethernet) → IsEthernet y v → IsEthernet y w → v ≡ w
is_one y v w h k = cc (is_read y v h, is_read y w k)

-- what is read is the only frame
pub is_the_read : (y : List ℕ) (v w : Ethernet) → ethernet_of y ≡ Ok v → IsEthernet y w → v ≡ w
is_the_read y v w e h = cc (e, is_read y w h)

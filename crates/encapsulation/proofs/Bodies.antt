-- A frame comes back from the air, and a body from the wire.
use Rattle.std.proofs.Common.{Bool, false, None, inl, inr, [], length-drop, ◌≡◌, ℕ, ◌+◌, ◌^◌, ◌<◌, ◌≤◌, true, leb, List}
use Rattle.std.proofs.Common.{◌++◌, length, take, drop, slice_index, Some, Ok, option_map, if◌then◌else◌, refl, sym}
use Rattle.std.proofs.Common.{◌∙◌, ap, subst, arith, length-append, append_assoc, ◌⊎◌, ⊎_elim}
use Rattle.std.specs.Int.{w16, to_be_bytes}
use Rattle.std.proofs.lemmas.Bool.{le-leb, leb-true, and_from, and_parts, cases_lt}
use Rattle.std.proofs.lemmas.List.{get_or-append-add, get_or_append_left, get_or_past, take_at, append-nil, drop-drop}
use Rattle.std.proofs.lemmas.List.{take-append-drop, length-take-le}
use Rattle.std.specs.Cmp.Lexicographic.{bytes_decides}
use Rattle.std.proofs.lemmas.Nat.{be_bytes_2, from_be_bytes-to_be_bytes_2}
use Rattle.encapsulation.specs.declared.ethernet.Kind.TheVariants.{Typed, Sized}
use Rattle.encapsulation.specs.Ethernet.{Ethernet, number, is_type, is_length, IsTyped, IsSized, IsOfKind, ethernet_of}
use Rattle.encapsulation.specs.Encapsulation.{rfc1042_header, body_of, on_air, on_wire, type_of, names_type}
use Rattle.encapsulation.specs.Encapsulation.{number_and_payload, Carries}
use Rattle.encapsulation.proofs.Frames.{is_a_frame}

-- a body that was made of a type and a payload is taken apart again
taken_apart : (type : ℕ) (payload : List ℕ) → type < 2 ^ 16 → 0x0600 ≤ type
    → number_and_payload (body_of (Typed type) payload) ≡ Some (type, payload)
taken_apart type payload fits least =
    let body = body_of (Typed type) payload in
    let same : type_of body ≡ type = from_be_bytes-to_be_bytes_2 type fits in
    let long : leb 8 (length body) ≡ true = le-leb 8 (length body) (omega arith) in
    let typed : is_type (type_of body) ≡ true =
    le-leb 0x0600 (type_of body) (subst (λ n. 0x0600 ≤ n) (sym same) least) in
    let named : names_type body ≡ true = and_from _ _ (and_from _ _ refl long) typed in
    rw (named, same) refl

-- the number of two octets is below 2 ^ 16
number_fits : (field : List ℕ) → ((place : ℕ) → slice_index field place < 256) → number field < 2 ^ 16
number_fits field octets = omega (arith, octets 0, octets 1)

-- the octets of a part are octets of the whole
part_octets : (before part after : List ℕ) → ((place : ℕ) → slice_index (before ++ part ++ after) place < 256)
    → (place : ℕ) → slice_index part place < 256
part_octets before part after octets place = ⊎_elim
    (λ within.
    let string : before ++ part ++ after ≡ before ++ (part ++ after) = append_assoc before part after in
    let same : slice_index (before ++ part ++ after) (length before + place) ≡ slice_index part place =
    ap (λ s. slice_index s (length before + place)) string
    ∙ get_or-append-add before (part ++ after) place 0
    ∙ get_or_append_left part after 0 place within in
    subst (λ octet. octet < 256) same (octets (length before + place)))
    (λ past. subst (λ octet. octet < 256) (sym (get_or_past part place 0 past)) (omega arith))
    (cases_lt place (length part))

comes_back : (y to source : List ℕ) (type : ℕ) (payload : List ℕ) → ((place : ℕ) → slice_index y place < 256)
    → IsTyped y to source type payload → on_wire to source (body_of (Typed type) payload) ≡ Some y
comes_back y to source type payload octets t =
    let p = t.parts in
    let least = t.least in
    let field_octets : (place : ℕ) → slice_index p.field place < 256 =
    part_octets (to ++ source) p.field payload (subst (λ s. (place : ℕ) → slice_index s place < 256) p.string octets) in
    let fits : type < 2 ^ 16 = subst (λ n. n < 2 ^ 16) p.number_is (number_fits p.field field_octets) in
    let field_is : to_be_bytes w16 type ≡ p.field =
    be_bytes_2 p.field type p.field_len field_octets (sym p.number_is) in
    ap (option_map (λ parts. to ++ source ++ to_be_bytes w16 parts.0 ++ parts.1)) (taken_apart type payload fits least)
    ∙ ap (λ field. Some (to ++ source ++ field ++ payload)) field_is
    ∙ ap Some (sym p.string)

-- a frame that names a type comes back
pub typed_comes_back : (y : List ℕ) (w : Ethernet) (type : ℕ) → ((place : ℕ) → slice_index y place < 256)
    → ethernet_of y ≡ Ok w → w.kind ≡ Typed type → on_wire w.to w.source (on_air w) ≡ Some y
typed_comes_back y w type octets e kind =
    let h = is_a_frame y w e in
    let t : IsTyped y w.to w.source type w.payload = subst (λ k. IsOfKind k y w.to w.source w.payload) kind h in
    ap (λ k. on_wire w.to w.source (body_of k w.payload)) kind ∙ comes_back y w.to w.source type w.payload octets t

-- ---- a frame that names its length

sized_back : (y to source payload : List ℕ) → ((place : ℕ) → slice_index y place < 256) → IsSized y to source payload
    → names_type payload ≡ false → on_wire to source payload ≡ Some (take (14 + length payload) y)
sized_back y to source payload octets s plain =
    let p = s.parts in
    let least = s.least in
    let greatest = s.greatest in
    let n = length payload in
    let header = to ++ source ++ p.field in
    let field_octets : (place : ℕ) → slice_index p.field place < 256 =
    part_octets (to ++ source) p.field (payload ++ s.padding)
    (subst (λ s. (place : ℕ) → slice_index s place < 256) p.string octets) in
    let field_is : to_be_bytes w16 n ≡ p.field = be_bytes_2 p.field n p.field_len field_octets (sym p.number_is) in
    let sized : is_length n ≡ true = and_from _ _ (le-leb 3 n least) (le-leb n 1500 greatest) in
    let taken : number_and_payload payload ≡ Some (n, payload) = rw (plain, sized) refl in
    let header_len : length header ≡ 14 =
    simp length-append (omega (arith, p.destination_len, p.source_len, p.field_len)) in
    let len : length (header ++ payload) ≡ 14 + n = omega (arith, length-append header payload, header_len) in
    let cut : take (14 + n) y ≡ header ++ payload =
    ap (take (14 + n)) (p.string ∙ sym (append_assoc header payload s.padding))
    ∙ take_at (header ++ payload) s.padding (14 + n) len in
    ap (option_map (λ parts. to ++ source ++ to_be_bytes w16 parts.0 ++ parts.1)) taken
    ∙ ap (λ field. Some (to ++ source ++ field ++ payload)) field_is
    ∙ ap Some (sym cut)

-- a frame that names its length comes back without its padding
pub sized_comes_back : (y : List ℕ) (w : Ethernet) → ((place : ℕ) → slice_index y place < 256) → ethernet_of y ≡ Ok w
    → w.kind ≡ Sized → names_type w.payload ≡ false
    → on_wire w.to w.source (on_air w) ≡ Some (take (14 + length w.payload) y)
sized_comes_back y w octets e kind plain =
    let h = is_a_frame y w e in
    let s : IsSized y w.to w.source w.payload = subst (λ k. IsOfKind k y w.to w.source w.payload) kind h in
    ap (λ k. on_wire w.to w.source (body_of k w.payload)) kind ∙ sized_back y w.to w.source w.payload octets s plain

-- ---- a body comes back from the wire

-- which of the two forms it has
chosen : (typed sized : Bool) (p q : ℕ × List ℕ) (f : ℕ × List ℕ → List ℕ) (y : List ℕ)
    → option_map f (if typed then Some p else if sized then Some q else None) ≡ Some y
    → ((typed ≡ true) × (f p ≡ y)) ⊎ ((sized ≡ true) × (f q ≡ y))
chosen true sized p q f y e = inl (refl, cc e)
chosen false true p q f y e = inr (refl, cc e)
chosen false false p q f y e = absurd (cc e)

-- a body by its parts: the header of RFC 1042, a type, the payload
body_split : (body : List ℕ) → take 6 body ++ take 2 (drop 6 body) ++ drop 8 body ≡ body
body_split body =
    append_assoc (take 6 body) (take 2 (drop 6 body)) (drop 8 body)
    ∙ ap (λ rest. take 6 body ++ (take 2 (drop 6 body) ++ rest)) (sym (drop-drop 2 6 body))
    ∙ ap (λ rest. take 6 body ++ rest) (take-append-drop 2 (drop 6 body))
    ∙ take-append-drop 6 body

-- two octets of a body are a number of 16 bits, and are written as they stand
field_of : (body : List ℕ) → ((place : ℕ) → slice_index body place < 256) → 8 ≤ length body
    → (type_of body < 2 ^ 16) × (to_be_bytes w16 (type_of body) ≡ take 2 (drop 6 body))
field_of body octets long =
    let field = take 2 (drop 6 body) in
    let split : take 6 body ++ field ++ drop 8 body ≡ body = body_split body in
    let field_len : length field ≡ 2 = length-take-le 2 (drop 6 body) (omega (arith, length-drop 6 body)) in
    let field_octets : (place : ℕ) → slice_index field place < 256 =
    part_octets (take 6 body) field (drop 8 body)
    (subst (λ s. (place : ℕ) → slice_index s place < 256) (sym split) octets) in
    (number_fits field field_octets, be_bytes_2 field (type_of body) field_len field_octets refl)

typed_carries : (y to source body : List ℕ) → length to ≡ 6 → length source ≡ 6
    → ((place : ℕ) → slice_index body place < 256) → length body ≤ 2304 → names_type body ≡ true
    → to ++ source ++ to_be_bytes w16 (type_of body) ++ drop 8 body ≡ y → Carries y to source body
typed_carries y to source body to_len source_len octets short named string =
    let tests = and_parts _ _ named in
    let front = and_parts _ _ tests.0 in
    let long : 8 ≤ length body = leb-true 8 (length body) front.1 in
    let least : 0x0600 ≤ type_of body = leb-true 0x0600 (type_of body) tests.1 in
    let header : take 6 body ≡ rfc1042_header = (bytes_decides (take 6 body) rfc1042_header).0 front.0 in
    let field = field_of body octets long in
    record {
      frame = record { to = to; source = source; kind = Typed (type_of body); payload = drop 8 body };
      string = record {
        parts = record {
          field = to_be_bytes w16 (type_of body);
          string = sym string;
          destination_len = to_len;
          source_len = source_len;
          field_len = refl;
          number_is = from_be_bytes-to_be_bytes_2 (type_of body) field.0;
        };
        least = least;
        short = omega (arith, length-drop 8 body);
      };
      destination_is = refl;
      source_is = refl;
      body_is = (λ i. sym header i ++ field.1 i ++ drop 8 body) ∙ body_split body;
    }

sized_carries : (y to source body : List ℕ) → length to ≡ 6 → length source ≡ 6 → is_length (length body) ≡ true
    → to ++ source ++ to_be_bytes w16 (length body) ++ body ≡ y → Carries y to source body
sized_carries y to source body to_len source_len sized string =
    let limits = and_parts _ _ sized in
    let greatest : length body ≤ 1500 = leb-true (length body) 1500 limits.1 in
    record {
      frame = record { to = to; source = source; kind = Sized; payload = body };
      string = record {
        padding = [];
        parts = record {
          field = to_be_bytes w16 (length body);
          string =
              sym string ∙ ap (λ rest. to ++ source ++ to_be_bytes w16 (length body) ++ rest) (sym (append-nil body));
          destination_len = to_len;
          source_len = source_len;
          field_len = refl;
          number_is = from_be_bytes-to_be_bytes_2 (length body) (omega arith);
        };
        least = leb-true 3 (length body) limits.0;
        greatest = greatest;
      };
      destination_is = refl;
      source_is = refl;
      body_is = refl;
    }

pub carries_body : (y to source body : List ℕ) → length to ≡ 6 → length source ≡ 6
    → ((place : ℕ) → slice_index body place < 256) → length body ≤ 2304 → on_wire to source body ≡ Some y
    → Carries y to source body
carries_body y to source body to_len source_len octets short e = ⊎_elim
    (λ typed. typed_carries y to source body to_len source_len octets short typed.0 typed.1)
    (λ sized. sized_carries y to source body to_len source_len sized.0 sized.1)
    (chosen (names_type body) (is_length (length body)) (type_of body, drop 8 body) (length body, body)
    (λ parts. to ++ source ++ to_be_bytes w16 parts.0 ++ parts.1) y e)

-- A string has a header of 24 octets, by the concatenation of its fields, exactly where the tests of a header find no
-- fault.
use Rattle.std.proofs.Common.{◌≡◌, ◌≢◌, ℕ, ◌+◌, ◌≤◌, Bool, true, false, not, List, ◌++◌, length, take, drop, Result, Ok}
use Rattle.std.proofs.Common.{Err, if◌then◌else◌, refl, sym, ◌∙◌, ap, subst, arith, length-drop}
use Rattle.std.specs.Cmp.Lexicographic.{bytes_decides}
use Rattle.std.specs.Str.{bytes_eq}
use Rattle.std.proofs.lemmas.Bool.{eq-eqb, eqb-true, le-ltb, ltb-false, not_from_true, not-true, not-false, or_from}
use Rattle.std.proofs.lemmas.Bool.{or_parts, false≢true, false_from_ne_true}
use Rattle.std.proofs.lemmas.List.{length-take-le, take-append-drop}
use Rattle.mac_frame.specs.Address.{is_group, is_station}
use Rattle.mac_frame.specs.FrameControl.{control_of, has_refused_flags}
use Rattle.mac_frame.specs.Header.{Fields, spelled, IsHeaded, fragment_of, control_at, address_at, fragment_at}
use Rattle.mac_frame.specs.Header.{is_refused, is_from_station, is_too_long, unless_faulty}
use Rattle.mac_frame.specs.declared.frame_control.FrameControl.{FrameControl}
use Rattle.mac_frame.specs.declared.frame.Unread.{Unread}
use Rattle.mac_frame.specs.declared.frame.Unread.TheVariants.{Flags, Direction, Address, TooLong}
use Rattle.mac_frame.proofs.Cells.{cells, is_its_cells}

-- ---- where the fields stand

-- each field stands at its place of the string
pub record IsPlaced (x : List ℕ) (f : Fields) : Type 0 where
  pub long : length x ≡ 24 + length f.body
  pub control : control_at x ≡ control_of f.control
  pub address_1 : address_at x 4 ≡ f.address_1
  pub address_2 : address_at x 10 ≡ f.address_2
  pub address_3 : address_at x 16 ≡ f.address_3
  pub fragment : fragment_at x ≡ fragment_of f.sequence_control
  pub body : drop 24 x ≡ f.body

-- the same fields, octet by octet
abbrev by_cells : Fields → Fields
by_cells f = record {
  control = cells f.control 2;
  duration = cells f.duration 2;
  address_1 = cells f.address_1 6;
  address_2 = cells f.address_2 6;
  address_3 = cells f.address_3 6;
  sequence_control = cells f.sequence_control 2;
  body = f.body;
}

by_cells_is : (bss x : List ℕ) (f : Fields) → IsHeaded bss x f → f ≡ by_cells f
by_cells_is bss x f h = λ i. record {
  control = is_its_cells f.control 2 h.control i;
  duration = is_its_cells f.duration 2 h.duration i;
  address_1 = is_its_cells f.address_1 6 h.address_1 i;
  address_2 = is_its_cells f.address_2 6 h.address_2 i;
  address_3 = is_its_cells f.address_3 6 h.address_3 i;
  sequence_control = is_its_cells f.sequence_control 2 h.sequence_control i;
  body = f.body;
}

placed_by_cells : (f : Fields) → IsPlaced (spelled (by_cells f)) (by_cells f)
placed_by_cells f = record {
  long = omega arith;
  control = refl;
  address_1 = refl;
  address_2 = refl;
  address_3 = refl;
  fragment = refl;
  body = refl;
}

pub placed : (bss x : List ℕ) (f : Fields) → IsHeaded bss x f → IsPlaced x f
placed bss x f h =
    let spelled_placed : IsPlaced (spelled f) f =
    subst (λ g. IsPlaced (spelled g) g) (sym (by_cells_is bss x f h)) (placed_by_cells f) in
    subst (λ y. IsPlaced y f) (sym h.string) spelled_placed

-- the fields at their places
abbrev pub fields_at : List ℕ → Fields
fields_at x = record {
  control = take 2 x;
  duration = take 2 (drop 2 x);
  address_1 = address_at x 4;
  address_2 = address_at x 10;
  address_3 = address_at x 16;
  sequence_control = take 2 (drop 22 x);
  body = drop 24 x;
}

spelled_at_places : (x : List ℕ) → 24 ≤ length x → x ≡ spelled (fields_at x)
spelled_at_places x long =
    let header = is_its_cells (take 24 x) 24 (length-take-le 24 x long) in
    let split : x ≡ cells (take 24 x) 24 ++ drop 24 x = sym (take-append-drop 24 x) ∙ ap (λ h. h ++ drop 24 x) header in
    let P : List ℕ → Type 0 = λ y. y ≡ spelled (fields_at y) in
    subst P (sym split) refl

pub part_length : (x : List ℕ) (n place : ℕ) → place + n ≤ length x → length (take n (drop place x)) ≡ n
part_length x n place h = length-take-le n (drop place x) (omega (arith, length-drop place x))

-- ---- the tests of a header

-- they find no fault
pub record Passes (bss x : List ℕ) : Type 0 where
  pub long : 24 ≤ length x
  pub version : (control_at x).version ≡ 0
  pub refused : is_refused x ≡ false
  pub station : is_from_station bss x ≡ true
  pub fits : is_too_long x ≡ false

pub is_station_where : (bss address : List ℕ) → is_group address ≡ false → address ≢ bss → is_station bss address ≡ true
is_station_where bss address single other =
    let differs = false_from_ne_true (bytes_eq address bss) (λ e. other ((bytes_decides address bss).0 e)) in
    ap not (or_from (is_group address) (bytes_eq address bss) single differs)

pub where_is_station : (bss address : List ℕ) → is_station bss address ≡ true
    → (is_group address ≡ false) × (address ≢ bss)
where_is_station bss address h =
    let parts = or_parts (is_group address) (bytes_eq address bss) (not-true _ h) in
    (parts.0, λ e. false≢true (sym parts.1 ∙ (bytes_decides address bss).1 e))

pub passes : (bss x : List ℕ) (f : Fields) → IsHeaded bss x f → Passes bss x
passes bss x f h =
    let p = placed bss x f h in
    let long = p.long in
    let size : length (drop 24 x) ≤ 2304 = subst (λ b. length b ≤ 2304) (sym p.body) h.body in
    let flags : has_refused_flags (control_of f.control) ≡ false =
    or_from _ _ (or_from _ _ h.more_fragments h.protected) h.order in
    record {
      long = omega arith;
      version = ap (λ (c : FrameControl). c.version) p.control ∙ h.version;
      refused =
          or_from _ _ (ap has_refused_flags p.control ∙ flags)
          (not_from_true _ (eq-eqb (fragment_at x) 0 (p.fragment ∙ h.first_fragment)));
      station = ap (is_station bss) p.address_2 ∙ is_station_where bss f.address_2 h.from_station h.from_another;
      fits = le-ltb 2304 (length (drop 24 x)) size;
    }

pub headed : (bss x : List ℕ) → Passes bss x → IsHeaded bss x (fields_at x)
headed bss x p =
    let long = p.long in
    let refused = or_parts _ _ p.refused in
    let order = or_parts _ _ refused.0 in
    let protected = or_parts _ _ order.0 in
    let station = where_is_station bss (address_at x 10) p.station in
    record {
      string = spelled_at_places x long;
      control = length-take-le 2 x (omega arith);
      duration = part_length x 2 2 (omega arith);
      address_1 = part_length x 6 4 (omega arith);
      address_2 = part_length x 6 10 (omega arith);
      address_3 = part_length x 6 16 (omega arith);
      sequence_control = part_length x 2 22 (omega arith);
      version = p.version;
      more_fragments = protected.0;
      protected = protected.1;
      order = order.1;
      first_fragment = eqb-true (fragment_at x) 0 (not-false _ refused.1);
      from_station = station.0;
      from_another = station.1;
      body = ltb-false 2304 (length (drop 24 x)) p.fits;
    }

-- ---- the faults that follow those of the kind

-- none of them
pub record FindsNone (r d a l : Bool) : Type 0 where
  pub refused : r ≡ false
  pub direction : d ≡ false
  pub address : a ≡ false
  pub too_long : l ≡ false

pub unless_faulty_none : {A : Type 0} (refused direction address too_long : Bool) (frame : A)
    → FindsNone refused direction address too_long → unless_faulty refused direction address too_long frame ≡ Ok frame
unless_faulty_none refused direction address too_long frame n =
    λ i. unless_faulty (n.refused i) (n.direction i) (n.address i) (n.too_long i) frame

-- a step that isn't taken
pub not_taken : {A : Type 0} (b : Bool) (u : Unread) (r : Result A Unread) (f : A) → (if b then Err u else r) ≡ Ok f
    → (b ≡ false) × (r ≡ Ok f)
not_taken true u r f e = cc
not_taken false u r f e = (refl, e)

pub unless_faulty_read : {A : Type 0} (refused direction address too_long : Bool) (frame f : A)
    → unless_faulty refused direction address too_long frame ≡ Ok f
    → FindsNone refused direction address too_long × (frame ≡ f)
unless_faulty_read refused direction address too_long frame f e =
    let first = not_taken refused Flags _ f e in
    let second = not_taken direction Direction _ f first.1 in
    let third = not_taken address Address _ f second.1 in
    let last = not_taken too_long TooLong _ f third.1 in
    let same : frame ≡ f = cc last.1 in
    (record { refused = first.0; direction = second.0; address = third.0; too_long = last.0 }, same)

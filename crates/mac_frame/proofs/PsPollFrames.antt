-- A string is a PS-Poll frame, by its fields, exactly where the tests of a PS-Poll frame find no fault.
use Rattle.std.proofs.Common.{◌≡◌, ℕ, ◌+◌, ◌≤◌, length, true, false, not, ◌&&◌, List, ◌++◌, take, drop, Ok, refl, sym}
use Rattle.std.proofs.Common.{◌∙◌, ap, subst, arith}
use Rattle.std.specs.Cmp.Lexicographic.{bytes_decides}
use Rattle.std.proofs.lemmas.Bool.{eq-eqb, eqb-true, not_from_true, not-false, and_from, and_parts, or_from, or_parts}
use Rattle.std.proofs.lemmas.List.{length-take-le, take-append-drop}
use Rattle.mac_frame.specs.Address.{is_station}
use Rattle.mac_frame.specs.FrameControl.{is_control, control_of, has_refused_flags, has_direction}
use Rattle.mac_frame.specs.Header.{control_at, address_at, addressed_to, is_from_station, is_to_network}
use Rattle.mac_frame.specs.PsPoll.{ps_poll_subtype, aid_of, PollFields, spelled_poll, IsPolled, IsPsPoll}
use Rattle.mac_frame.specs.PsPoll.{is_ps_poll_read, aid_at, poll_at, ps_poll_of}
use Rattle.mac_frame.specs.Rx.{Frame, Poll}
use Rattle.mac_frame.specs.Frame.{IsFrame}
use Rattle.mac_frame.specs.declared.frame_control.FrameControl.{FrameControl}
use Rattle.mac_frame.proofs.FrameTypes.{where_is_control}
use Rattle.mac_frame.proofs.Cells.{cells, is_its_cells}
use Rattle.mac_frame.proofs.Headers.{part_length, is_station_where, where_is_station, unless_faulty_none}
use Rattle.mac_frame.proofs.Headers.{unless_faulty_read}

-- ---- where the fields stand

-- each field stands at its place of the string
pub record IsPlaced (x : List ℕ) (f : PollFields) : Type 0 where
  pub long : length x ≡ 16 + length f.rest
  pub control : control_at x ≡ control_of f.control
  pub aid : aid_at x ≡ aid_of f.aid
  pub bssid : address_at x 4 ≡ f.bssid
  pub transmitter : address_at x 10 ≡ f.transmitter

-- the same fields, octet by octet
abbrev by_cells : PollFields → PollFields
by_cells f = record {
  control = cells f.control 2;
  aid = cells f.aid 2;
  bssid = cells f.bssid 6;
  transmitter = cells f.transmitter 6;
  rest = f.rest;
}

by_cells_is : (bss x : List ℕ) (f : PollFields) → IsPolled bss x f → f ≡ by_cells f
by_cells_is bss x f h = λ i. record {
  control = is_its_cells f.control 2 h.control i;
  aid = is_its_cells f.aid 2 h.aid i;
  bssid = is_its_cells f.bssid 6 h.bssid i;
  transmitter = is_its_cells f.transmitter 6 h.transmitter i;
  rest = f.rest;
}

placed_by_cells : (f : PollFields) → IsPlaced (spelled_poll (by_cells f)) (by_cells f)
placed_by_cells f = record { long = omega arith; control = refl; aid = refl; bssid = refl; transmitter = refl }

pub placed : (bss x : List ℕ) (f : PollFields) → IsPolled bss x f → IsPlaced x f
placed bss x f h =
    let spelled_placed : IsPlaced (spelled_poll f) f =
    subst (λ g. IsPlaced (spelled_poll g) g) (sym (by_cells_is bss x f h)) (placed_by_cells f) in
    subst (λ y. IsPlaced y f) (sym h.string) spelled_placed

-- the fields at their places
abbrev fields_at : List ℕ → PollFields
fields_at x = record {
  control = take 2 x;
  aid = take 2 (drop 2 x);
  bssid = address_at x 4;
  transmitter = address_at x 10;
  rest = drop 16 x;
}

spelled_at_places : (x : List ℕ) → 16 ≤ length x → x ≡ spelled_poll (fields_at x)
spelled_at_places x long =
    let header = is_its_cells (take 16 x) 16 (length-take-le 16 x long) in
    let split : x ≡ cells (take 16 x) 16 ++ drop 16 x = sym (take-append-drop 16 x) ∙ ap (λ h. h ++ drop 16 x) header in
    let P : List ℕ → Type 0 = λ y. y ≡ spelled_poll (fields_at y) in
    subst P (sym split) refl

-- ---- a frame passes the tests

-- what the tests before those of a PS-Poll frame say of it, and what is read of it
pub record IsRead (bss x : List ℕ) (f : Frame) : Type 0 where
  pub long : 16 ≤ length x
  pub version : (control_at x).version ≡ 0
  pub kind : is_ps_poll_read (control_at x) ≡ true
  pub frame : ps_poll_of bss x ≡ Ok f

pub read_where_frame : (bss x from : List ℕ) (aid : ℕ) → IsPsPoll bss x from aid → IsRead bss x (Poll from aid)
read_where_frame bss x from aid w =
    let f = w.fields in
    let h = w.polled in
    let p = placed bss x f h in
    let long = p.long in
    let kind = ap (λ (c : FrameControl). c.kind) p.control ∙ h.type in
    let which = ap (λ (c : FrameControl). c.subtype) p.control ∙ h.subtype in
    let flags : has_refused_flags (control_of f.control) ≡ false =
    or_from _ _ (or_from _ _ h.more_fragments h.protected) h.order in
    let direction : has_direction (control_of f.control) ≡ false = or_from _ _ h.to_ds h.from_ds in
    let station : is_from_station bss x ≡ true =
    ap (is_station bss) p.transmitter ∙ is_station_where bss f.transmitter h.from_station h.from_another in
    let receiver : is_to_network bss x ≡ true = (bytes_decides (addressed_to x) bss).1 (p.bssid ∙ h.to_network) in
    let read =
    unless_faulty_none (has_refused_flags (control_at x)) (has_direction (control_at x))
    (not (is_from_station bss x && is_to_network bss x)) false (poll_at x) (record {
      refused = ap has_refused_flags p.control ∙ flags;
      direction = ap has_direction p.control ∙ direction;
      address = not_from_true _ (and_from _ _ station receiver);
      too_long = refl;
    }) in
    let from_is : address_at x 10 ≡ from = p.transmitter ∙ sym w.from_is in
    let aid_is : aid_at x ≡ aid = p.aid ∙ sym w.aid_is in
    let frame_is : poll_at x ≡ Poll from aid = λ i. Poll (from_is i) (aid_is i) in
    record {
      long = omega arith;
      version = ap (λ (c : FrameControl). c.version) p.control ∙ h.version;
      kind =
          and_from (is_control (control_at x).kind) _ (ap is_control kind)
          (eq-eqb (control_at x).subtype ps_poll_subtype which);
      frame = read ∙ ap Ok frame_is;
    }

-- ---- what passes the tests is a frame

pub frame_where_read : (bss x : List ℕ) → 16 ≤ length x → (control_at x).version ≡ 0
    → is_ps_poll_read (control_at x) ≡ true → (f : Frame) → ps_poll_of bss x ≡ Ok f → IsFrame bss x f
frame_where_read bss x long version read f e =
    let found =
    unless_faulty_read (has_refused_flags (control_at x)) (has_direction (control_at x))
    (not (is_from_station bss x && is_to_network bss x)) false (poll_at x) f e in
    let n = found.0 in
    let kind = and_parts _ _ read in
    let order = or_parts _ _ n.refused in
    let protected = or_parts _ _ order.0 in
    let direction = or_parts _ _ n.direction in
    let address = and_parts (is_from_station bss x) (is_to_network bss x) (not-false _ n.address) in
    let station = where_is_station bss (address_at x 10) address.0 in
    let here : IsFrame bss x (poll_at x) = record {
      fields = fields_at x;
      polled = record {
        string = spelled_at_places x long;
        control = length-take-le 2 x (omega arith);
        aid = part_length x 2 2 (omega arith);
        bssid = part_length x 6 4 (omega arith);
        transmitter = part_length x 6 10 (omega arith);
        version = version;
        type = where_is_control (control_at x).kind kind.0;
        subtype = eqb-true (control_at x).subtype ps_poll_subtype kind.1;
        to_ds = direction.0;
        from_ds = direction.1;
        more_fragments = protected.0;
        protected = protected.1;
        order = order.1;
        to_network = (bytes_decides (addressed_to x) bss).0 address.1;
        from_station = station.0;
        from_another = station.1;
      };
      from_is = refl;
      aid_is = refl;
    } in
    subst (λ g. IsFrame bss x g) found.1 here

-- A string is a Data or a Null frame, by its fields, exactly where the tests of a data frame find no fault.
use Rattle.std.proofs.Common.{◌≡◌, ℕ, ◌≤◌, Bool, length, true, false, not, ◌&&◌, ◌||◌, ◌==◌, if◌then◌else◌, List, drop}
use Rattle.std.proofs.Common.{Ok, refl, sym, ◌∙◌, ap, subst}
use Rattle.std.specs.Cmp.Lexicographic.{bytes_decides}
use Rattle.std.proofs.lemmas.Bool.{eq-eqb, eqb-true, not_from_true, not_from_false, not-true, not-false, and_from}
use Rattle.std.proofs.lemmas.Bool.{and_parts, or_left, or_right}
use Rattle.mac_frame.specs.FrameControl.{is_data, is_to_ds}
use Rattle.mac_frame.specs.Header.{Fields, control_at, address_at, addressed_to, is_refused, is_from_station}
use Rattle.mac_frame.specs.Header.{is_to_network, is_too_long}
use Rattle.mac_frame.specs.Data.{data_subtype, null_subtype, IsData, IsMsdu, IsNull, is_data_read, msdu_at, null_at}
use Rattle.mac_frame.specs.Data.{data_of}
use Rattle.mac_frame.specs.Rx.{Frame, Msdu, Null}
use Rattle.mac_frame.specs.Frame.{IsFrame}
use Rattle.mac_frame.specs.declared.frame_control.FrameControl.{FrameControl}
use Rattle.mac_frame.proofs.FrameTypes.{where_is_data}
use Rattle.mac_frame.proofs.Headers.{placed, fields_at, Passes, passes, headed, unless_faulty_none, unless_faulty_read}

-- what is told of a frame that is Data, or isn't
abbrev told_at : Bool → List ℕ → Frame
told_at msdu x = if msdu then msdu_at x else null_at x

-- ---- a frame passes the tests

-- what the tests before those of a data frame say of it, and what is read of it
pub record IsRead (bss x : List ℕ) (f : Frame) : Type 0 where
  pub passes : Passes bss x
  pub kind : is_data_read (control_at x) ≡ true
  pub frame : data_of bss x ≡ Ok f

-- whatever its subtype is
read_where_data : (bss x : List ℕ) (f : Fields) → IsData bss x f
    → (control_at x).subtype == data_subtype || (control_at x).subtype == null_subtype ≡ true
    → IsRead bss x (told_at ((control_at x).subtype == data_subtype) x)
read_where_data bss x f d subtype =
    let p = placed bss x f d.headed in
    let t = passes bss x f d.headed in
    let kind = ap (λ (c : FrameControl). c.kind) p.control ∙ d.type in
    let to_ds =
    and_from _ _ (ap (λ (c : FrameControl). c.to_ds) p.control ∙ d.to_ds)
    (not_from_false _ (ap (λ (c : FrameControl). c.from_ds) p.control ∙ d.from_ds)) in
    let receiver : is_to_network bss x ≡ true = (bytes_decides (addressed_to x) bss).1 (p.address_1 ∙ d.to_network) in
    let read =
    unless_faulty_none (is_refused x) (not (is_to_ds (control_at x)))
    (not (is_from_station bss x && is_to_network bss x)) (is_too_long x)
    (told_at ((control_at x).subtype == data_subtype) x) (record {
      refused = t.refused;
      direction = not_from_true _ to_ds;
      address = not_from_true _ (and_from _ _ t.station receiver);
      too_long = t.fits;
    }) in
    record { passes = t; kind = and_from (is_data (control_at x).kind) _ (ap is_data kind) subtype; frame = read }

pub read_where_msdu : (bss x from : List ℕ) (doze : Bool) (to body : List ℕ) → IsMsdu bss x from doze to body
    → IsRead bss x (Msdu from doze to body)
read_where_msdu bss x from doze to body w =
    let p = placed bss x w.fields w.data_frame.headed in
    let which =
    eq-eqb (control_at x).subtype data_subtype (ap (λ (c : FrameControl). c.subtype) p.control ∙ w.subtype) in
    let from_is : address_at x 10 ≡ from = p.address_2 ∙ sym w.from_is in
    let doze_is : (control_at x).power_management ≡ doze =
    ap (λ (c : FrameControl). c.power_management) p.control ∙ sym w.doze_is in
    let to_is : address_at x 16 ≡ to = p.address_3 ∙ sym w.to_is in
    let body_is : drop 24 x ≡ body = p.body ∙ sym w.body_is in
    let frame_is : msdu_at x ≡ Msdu from doze to body = λ i. Msdu (from_is i) (doze_is i) (to_is i) (body_is i) in
    let told : told_at ((control_at x).subtype == data_subtype) x ≡ Msdu from doze to body =
    ap (λ (b : Bool). told_at b x) which ∙ frame_is in
    subst (IsRead bss x) told (read_where_data bss x w.fields w.data_frame (or_left _ _ which))

pub read_where_null : (bss x from : List ℕ) (doze : Bool) → IsNull bss x from doze → IsRead bss x (Null from doze)
read_where_null bss x from doze w =
    let p = placed bss x w.fields w.data_frame.headed in
    let subtype : (control_at x).subtype ≡ null_subtype = ap (λ (c : FrameControl). c.subtype) p.control ∙ w.subtype in
    let which : ((control_at x).subtype == data_subtype) ≡ false = ap (λ (s : ℕ). s == data_subtype) subtype in
    let from_is : address_at x 10 ≡ from = p.address_2 ∙ sym w.from_is in
    let doze_is : (control_at x).power_management ≡ doze =
    ap (λ (c : FrameControl). c.power_management) p.control ∙ sym w.doze_is in
    let frame_is : null_at x ≡ Null from doze = λ i. Null (from_is i) (doze_is i) in
    let told : told_at ((control_at x).subtype == data_subtype) x ≡ Null from doze =
    ap (λ (b : Bool). told_at b x) which ∙ frame_is in
    subst (IsRead bss x) told
    (read_where_data bss x w.fields w.data_frame (or_right _ _ (eq-eqb (control_at x).subtype null_subtype subtype)))

-- ---- what passes the tests is a frame

-- it is the frame that its subtype says
frame_of_subtype : (bss x : List ℕ) (msdu : Bool) → ((control_at x).subtype == data_subtype) ≡ msdu
    → (msdu || (control_at x).subtype == null_subtype) ≡ true → IsData bss x (fields_at x)
    → IsFrame bss x (told_at msdu x)
frame_of_subtype bss x true which read d = record {
  fields = fields_at x;
  data_frame = d;
  subtype = eqb-true (control_at x).subtype data_subtype which;
  from_is = refl;
  doze_is = refl;
  to_is = refl;
  body_is = refl;
}
frame_of_subtype bss x false which read d = record {
  fields = fields_at x;
  data_frame = d;
  subtype = eqb-true (control_at x).subtype null_subtype read;
  from_is = refl;
  doze_is = refl;
}

pub frame_where_read : (bss x : List ℕ) → 24 ≤ length x → (control_at x).version ≡ 0
    → is_data_read (control_at x) ≡ true → (f : Frame) → data_of bss x ≡ Ok f → IsFrame bss x f
frame_where_read bss x long version read f e =
    let found =
    unless_faulty_read (is_refused x) (not (is_to_ds (control_at x)))
    (not (is_from_station bss x && is_to_network bss x)) (is_too_long x)
    (told_at ((control_at x).subtype == data_subtype) x) f e in
    let n = found.0 in
    let kind = and_parts _ _ read in
    let direction = and_parts _ _ (not-false _ n.direction) in
    let address = and_parts (is_from_station bss x) (is_to_network bss x) (not-false _ n.address) in
    let d : IsData bss x (fields_at x) = record {
      headed =
          headed bss x
          (record { long = long; version = version; refused = n.refused; station = address.0; fits = n.too_long });
      type = where_is_data (control_at x).kind kind.0;
      to_ds = direction.0;
      from_ds = not-true _ direction.1;
      to_network = (bytes_decides (addressed_to x) bss).0 address.1;
    } in
    subst (λ g. IsFrame bss x g) found.1 (frame_of_subtype bss x ((control_at x).subtype == data_subtype) refl kind.1 d)

-- A string is a management frame, by its fields, exactly where the tests of a management frame find no fault.
use Rattle.std.proofs.Common.{◌≡◌, ◌⊎◌, ℕ, ◌≤◌, Bool, length, true, false, not, ◌&&◌, ◌||◌, ◌==◌, if◌then◌else◌, List}
use Rattle.std.proofs.Common.{drop, Ok, inl, inr, refl, sym, ◌∙◌, ap, subst}
use Rattle.std.specs.Cmp.Lexicographic.{bytes_decides}
use Rattle.std.specs.Str.{bytes_eq}
use Rattle.std.proofs.lemmas.Bool.{eq-eqb, eqb-true, false_from_ne_true, false≢true, not_from_true, not-false, and_from}
use Rattle.std.proofs.lemmas.Bool.{and_parts, or_from, or_left, or_right, or_parts}
use Rattle.mac_frame.specs.Address.{broadcast, is_bss_or_broadcast}
use Rattle.mac_frame.specs.FrameControl.{is_management, has_direction}
use Rattle.mac_frame.specs.Header.{Fields, control_at, address_at, addressed_to, is_refused, is_from_station}
use Rattle.mac_frame.specs.Header.{is_too_long}
use Rattle.mac_frame.specs.Management.{probe_request_subtype, is_individual_subtype, IsProbeRequest, IsIndividual}
use Rattle.mac_frame.specs.Management.{IsMgmt, is_management_read, is_probe_addressed, is_individually_addressed}
use Rattle.mac_frame.specs.Management.{is_management_addressed, mgmt_at, management_of}
use Rattle.mac_frame.specs.Rx.{Frame, Mgmt}
use Rattle.mac_frame.specs.Frame.{IsFrame}
use Rattle.mac_frame.specs.declared.frame_control.FrameControl.{FrameControl}
use Rattle.mac_frame.proofs.FrameTypes.{where_is_management}
use Rattle.mac_frame.proofs.Addresses.{tested_where_one, is_one_where_tested}
use Rattle.mac_frame.proofs.Headers.{IsPlaced, placed, fields_at, Passes, passes, headed, unless_faulty_none}
use Rattle.mac_frame.proofs.Headers.{unless_faulty_read}

-- ---- the two ways to be addressed

-- a subtype of frames to the network alone is not that of a probe request
individual_is_no_probe : (subtype : ℕ) → is_individual_subtype subtype ≡ true
    → (subtype == probe_request_subtype) ≡ false
individual_is_no_probe subtype h =
    false_from_ne_true (subtype == probe_request_subtype)
    (λ e. false≢true (subst (λ s. is_individual_subtype s ≡ true) (eqb-true subtype probe_request_subtype e) h))

-- the subtype is one that is read, and the addresses are those of a frame of it
record IsAddressed (bss x : List ℕ) : Type 0 where
  subtype : ((control_at x).subtype == probe_request_subtype || is_individual_subtype (control_at x).subtype) ≡ true
  addresses : is_management_addressed bss x ≡ true

addressed_as_probe : (bss x : List ℕ) (f : Fields) → IsPlaced x f → IsProbeRequest bss f → IsAddressed bss x
addressed_as_probe bss x f p r =
    let which : ((control_at x).subtype == probe_request_subtype) ≡ true =
    eq-eqb (control_at x).subtype probe_request_subtype (ap (λ (c : FrameControl). c.subtype) p.control ∙ r.subtype) in
    let receiver = ap (is_bss_or_broadcast bss) p.address_1 ∙ tested_where_one bss f.address_1 r.to_network in
    let network = ap (is_bss_or_broadcast bss) p.address_3 ∙ tested_where_one bss f.address_3 r.of_network in
    let both : is_probe_addressed bss x ≡ true = and_from _ _ receiver network in
    record {
      subtype = or_left _ _ which;
      addresses =
          ap (λ (b : Bool). if b then is_probe_addressed bss x else is_individually_addressed bss x) which ∙ both;
    }

addressed_alone : (bss x : List ℕ) (f : Fields) → IsPlaced x f → IsIndividual bss f → IsAddressed bss x
addressed_alone bss x f p r =
    let which : is_individual_subtype (control_at x).subtype ≡ true =
    ap (λ (c : FrameControl). is_individual_subtype c.subtype) p.control ∙ r.subtype in
    let receiver : bytes_eq (addressed_to x) bss ≡ true =
    (bytes_decides (addressed_to x) bss).1 (p.address_1 ∙ r.to_network) in
    let network : bytes_eq (address_at x 16) bss ≡ true =
    (bytes_decides (address_at x 16) bss).1 (p.address_3 ∙ r.of_network) in
    let both : is_individually_addressed bss x ≡ true = and_from _ _ receiver network in
    record {
      subtype = or_right _ _ which;
      addresses =
          ap (λ (b : Bool). if b then is_probe_addressed bss x else is_individually_addressed bss x)
          (individual_is_no_probe (control_at x).subtype which)
          ∙ both;
    }

addressed : (bss x : List ℕ) (f : Fields) → IsPlaced x f → IsProbeRequest bss f ⊎ IsIndividual bss f → IsAddressed bss x
addressed bss x f p (inl r) = addressed_as_probe bss x f p r
addressed bss x f p (inr r) = addressed_alone bss x f p r

-- what the tests say of the fields at their places
addressed_by : (bss x : List ℕ) (probe : Bool) → ((control_at x).subtype == probe_request_subtype) ≡ probe
    → (probe || is_individual_subtype (control_at x).subtype) ≡ true
    → (if probe then is_probe_addressed bss x else is_individually_addressed bss x) ≡ true
    → IsProbeRequest bss (fields_at x) ⊎ IsIndividual bss (fields_at x)
addressed_by bss x true which read addresses =
    let parts = and_parts _ _ addresses in
    inl (record {
      subtype = eqb-true (control_at x).subtype probe_request_subtype which;
      to_network = is_one_where_tested bss (addressed_to x) parts.0;
      of_network = is_one_where_tested bss (address_at x 16) parts.1;
    })
addressed_by bss x false which read addresses =
    let parts = and_parts _ _ addresses in
    inr (record {
      subtype = read;
      to_network = (bytes_decides (addressed_to x) bss).0 parts.0;
      of_network = (bytes_decides (address_at x 16) bss).0 parts.1;
    })

-- ---- a frame passes the tests

-- what the tests before those of a management frame say of it, and what is read of it
pub record IsRead (bss x : List ℕ) (f : Frame) : Type 0 where
  pub passes : Passes bss x
  pub kind : is_management_read (control_at x) ≡ true
  pub frame : management_of bss x ≡ Ok f

pub read_where_frame : (bss x : List ℕ) (subtype : ℕ) (from : List ℕ) (to_all : Bool) (body : List ℕ)
    → IsMgmt bss x subtype from to_all body → IsRead bss x (Mgmt subtype from to_all body)
read_where_frame bss x subtype from to_all body w =
    let f = w.fields in
    let m = w.management in
    let p = placed bss x f m.headed in
    let t = passes bss x f m.headed in
    let a = addressed bss x f p w.addressed in
    let kind = ap (λ (c : FrameControl). c.kind) p.control ∙ m.type in
    let from_here = and_from (is_from_station bss x) (is_management_addressed bss x) t.station a.addresses in
    let read =
    unless_faulty_none (is_refused x) (has_direction (control_at x))
    (not (is_from_station bss x && is_management_addressed bss x)) (is_too_long x) (mgmt_at x) (record {
      refused = t.refused;
      direction =
          or_from _ _ (ap (λ (c : FrameControl). c.to_ds) p.control ∙ m.to_ds)
          (ap (λ (c : FrameControl). c.from_ds) p.control ∙ m.from_ds);
      address = not_from_true _ from_here;
      too_long = t.fits;
    }) in
    let subtype_is : (control_at x).subtype ≡ subtype =
    ap (λ (c : FrameControl). c.subtype) p.control ∙ sym w.subtype_is in
    let from_is : address_at x 10 ≡ from = p.address_2 ∙ sym w.from_is in
    let to_all_is : bytes_eq (addressed_to x) broadcast ≡ to_all =
    ap (λ a. bytes_eq a broadcast) p.address_1 ∙ sym w.to_all_is in
    let body_is : drop 24 x ≡ body = p.body ∙ sym w.body_is in
    let frame_is : mgmt_at x ≡ Mgmt subtype from to_all body =
    λ i. Mgmt (subtype_is i) (from_is i) (to_all_is i) (body_is i) in
    record {
      passes = t;
      kind = and_from (is_management (control_at x).kind) _ (ap is_management kind) a.subtype;
      frame = read ∙ ap Ok frame_is;
    }

-- ---- what passes the tests is a frame

pub frame_where_read : (bss x : List ℕ) → 24 ≤ length x → (control_at x).version ≡ 0
    → is_management_read (control_at x) ≡ true → (f : Frame) → management_of bss x ≡ Ok f → IsFrame bss x f
frame_where_read bss x long version read f e =
    let found =
    unless_faulty_read (is_refused x) (has_direction (control_at x))
    (not (is_from_station bss x && is_management_addressed bss x)) (is_too_long x) (mgmt_at x) f e in
    let n = found.0 in
    let kind = and_parts _ _ read in
    let direction = or_parts _ _ n.direction in
    let address = and_parts (is_from_station bss x) (is_management_addressed bss x) (not-false _ n.address) in
    let here : IsFrame bss x (mgmt_at x) = record {
      fields = fields_at x;
      management = record {
        headed =
            headed bss x
            (record { long = long; version = version; refused = n.refused; station = address.0; fits = n.too_long });
        type = where_is_management (control_at x).kind kind.0;
        to_ds = direction.0;
        from_ds = direction.1;
      };
      addressed = addressed_by bss x ((control_at x).subtype == probe_request_subtype) refl kind.1 address.1;
      subtype_is = refl;
      from_is = refl;
      to_all_is = refl;
      body_is = refl;
    } in
    subst (λ g. IsFrame bss x g) found.1 here

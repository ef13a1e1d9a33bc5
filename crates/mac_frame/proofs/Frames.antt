-- A string is a frame, by the concatenation of its fields, exactly where the tests in their order find no fault.
use Rattle.std.proofs.Common.{◌≡◌, ℕ, ◌+◌, ◌<◌, ◌≤◌, ◌⊎◌, Bool, true, false, not, ◌&&◌, ◌==◌, ltb, List, length, drop}
use Rattle.std.proofs.Common.{slice_index, Result, Ok, Err, MatchResult, IfOk, IsOkAnd, if◌then◌else◌, inl, inr, refl}
use Rattle.std.proofs.Common.{sym, ◌∙◌, ap, subst, ⊎_elim, arith}
use Rattle.std.proofs.lemmas.Bool.{eq-eqb, eqb-true, le-ltb, ltb-false, not_from_true, not-false, or_from, or_parts}
use Rattle.std.proofs.lemmas.Bool.{and_left, and_right, and_parts, and_cases, false≢true}
use Rattle.std.proofs.lemmas.List.{get_or-drop}
use Rattle.mac_frame.specs.Address.{broadcast}
use Rattle.mac_frame.specs.FrameControl.{is_management, is_control, is_data}
use Rattle.mac_frame.specs.Header.{control_at, addressed_to}
use Rattle.mac_frame.specs.Management.{IsProbeRequest, IsIndividual, is_management_read, management_of}
use Rattle.mac_frame.specs.Data.{is_data_read, data_of}
use Rattle.mac_frame.specs.PsPoll.{is_ps_poll_read, ps_poll_of}
use Rattle.mac_frame.specs.Frame.{Frame, Mgmt, Msdu, Null, Poll, shown, IsFrame, is_short, frame_of}
use Rattle.mac_frame.specs.declared.frame.Rx.{Rx}
use Rattle.mac_frame.specs.declared.frame_control.FrameControl.{FrameControl}
use Rattle.mac_frame.specs.declared.frame_control.FrameType.TheVariants.{Control}
use Rattle.mac_frame.specs.declared.frame.Unread.{Unread}
use Rattle.mac_frame.specs.declared.frame.Unread.TheVariants.{Short, Version, Kind}
use Rattle.mac_frame.proofs.FrameTypes.{where_is_management, where_is_control, where_is_data}
use Rattle.mac_frame.proofs.Headers.{placed, not_taken}
use Rattle.mac_frame.proofs.ManagementFrames as management
use Rattle.mac_frame.proofs.DataFrames as data_frames
use Rattle.mac_frame.proofs.PsPollFrames as polls

-- ---- the first tests

-- a string with a header of 24 octets is long enough
not_short : (x : List ℕ) → 24 ≤ length x → is_short x ≡ false
not_short x long =
    or_from _ _ (le-ltb (length x) 16 (omega arith)) (and_left _ _ (le-ltb (length x) 24 (omega arith)))

-- a control frame with a header of 16 octets is
no_short_control : (x : List ℕ) → 16 ≤ length x → (control_at x).kind ≡ Control → is_short x ≡ false
no_short_control x long type =
    or_from _ _ (le-ltb (length x) 16 long)
    (and_right _ _ (not_from_true (is_control (control_at x).kind) (ap is_control type)))

sixteen : (x : List ℕ) → is_short x ≡ false → 16 ≤ length x
sixteen x short =
    ltb-false (length x) 16
    (or_parts (ltb (length x) 16) (ltb (length x) 24 && not (is_control (control_at x).kind)) short).0

-- a frame that is no control frame has a header of 24 octets
twenty_four : (x : List ℕ) → is_short x ≡ false → is_control (control_at x).kind ≡ false → 24 ≤ length x
twenty_four x short other =
    let parts = or_parts (ltb (length x) 16) (ltb (length x) 24 && not (is_control (control_at x).kind)) short in
    let not_control : not (is_control (control_at x).kind) ≡ true = ap not other in
    ltb-false (length x) 24 (⊎_elim (λ e. e) (λ e. absurd (false≢true (sym e ∙ not_control))) (and_cases _ _ parts.1))

-- ---- the kinds

-- the function, by the answers of its tests
abbrev ladder : (short version is_management is_data is_poll : Bool) (m d p : Result Frame Unread) → Result Frame Unread
ladder short version is_management is_data is_poll m d p =
    if short then Err Short
    else if version then Err Version
    else if is_management then m
    else if is_data then d
    else if is_poll then p
    else Err Kind

-- one of two steps is taken
taken : (b : Bool) (r s : Result Frame Unread) (f : Frame) → (if b then r else s) ≡ Ok f
    → ((b ≡ true) × (r ≡ Ok f)) ⊎ ((b ≡ false) × (s ≡ Ok f))
taken true r s f e = inl (refl, e)
taken false r s f e = inr (refl, e)

-- a data frame and a PS-Poll frame are read as no other kind
pub read_as_data : (bss x : List ℕ) (c : FrameControl) → c ≡ control_at x → 24 ≤ length x → c.version ≡ 0
    → is_data_read c ≡ true → frame_of bss x ≡ data_of bss x
read_as_data bss x c same long zero_version read =
    let version_is : (control_at x).version ≡ 0 = ap (λ (d : FrameControl). d.version) (sym same) ∙ zero_version in
    let data_is : is_data_read (control_at x) ≡ true = ap is_data_read (sym same) ∙ read in
    let type = where_is_data (control_at x).kind (and_parts _ _ data_is).0 in
    let short = not_short x long in
    let version = not_from_true _ (eq-eqb (control_at x).version 0 version_is) in
    let other = and_left _ _ (ap is_management type) in
    λ i. ladder (short i) (version i) (other i) (data_is i) (is_ps_poll_read (control_at x)) (management_of bss x)
    (data_of bss x) (ps_poll_of bss x)

pub read_as_poll : (bss x : List ℕ) (c : FrameControl) → c ≡ control_at x → 16 ≤ length x → c.version ≡ 0
    → is_ps_poll_read c ≡ true → frame_of bss x ≡ ps_poll_of bss x
read_as_poll bss x c same long zero_version poll =
    let version_is : (control_at x).version ≡ 0 = ap (λ (d : FrameControl). d.version) (sym same) ∙ zero_version in
    let poll_is : is_ps_poll_read (control_at x) ≡ true = ap is_ps_poll_read (sym same) ∙ poll in
    let type = where_is_control (control_at x).kind (and_parts _ _ poll_is).0 in
    let short = no_short_control x long type in
    let version = not_from_true _ (eq-eqb (control_at x).version 0 version_is) in
    let other = and_left _ _ (ap is_management type) in
    let another = and_left _ _ (ap is_data type) in
    λ i. ladder (short i) (version i) (other i) (another i) (poll_is i) (management_of bss x) (data_of bss x)
    (ps_poll_of bss x)

-- ---- a frame is what the function gives

-- each kind, once it was read by the function of its kind
module _ (bss x : List ℕ) (f : Frame) where
  management_is_read : management.IsRead bss x f → frame_of bss x ≡ Ok f
  management_is_read r =
      let short = not_short x r.passes.long in
      let version = not_from_true _ (eq-eqb (control_at x).version 0 r.passes.version) in
      let here : frame_of bss x ≡ management_of bss x =
      λ i. ladder (short i) (version i) (r.kind i) (is_data_read (control_at x)) (is_ps_poll_read (control_at x))
      (management_of bss x) (data_of bss x) (ps_poll_of bss x) in
      here ∙ r.frame

  data_is_read : data_frames.IsRead bss x f → frame_of bss x ≡ Ok f
  data_is_read r = read_as_data bss x (control_at x) refl r.passes.long r.passes.version r.kind ∙ r.frame

  poll_is_read : polls.IsRead bss x f → frame_of bss x ≡ Ok f
  poll_is_read r = read_as_poll bss x (control_at x) refl r.long r.version r.kind ∙ r.frame

pub is_read : (bss x : List ℕ) (f : Frame) → IsFrame bss x f → frame_of bss x ≡ Ok f
is_read bss x (Mgmt subtype from to_all body) w =
    management_is_read bss x (Mgmt subtype from to_all body)
    (management.read_where_frame bss x subtype from to_all body w)
is_read bss x (Msdu from doze to body) w =
    data_is_read bss x (Msdu from doze to body) (data_frames.read_where_msdu bss x from doze to body w)
is_read bss x (Null from doze) w =
    data_is_read bss x (Null from doze) (data_frames.read_where_null bss x from doze w)
is_read bss x (Poll from aid) w =
    poll_is_read bss x (Poll from aid) (polls.read_where_frame bss x from aid w)

-- ---- what the function gives is a frame

pub is_a_frame : (bss x : List ℕ) (f : Frame) → frame_of bss x ≡ Ok f → IsFrame bss x f
is_a_frame bss x f e =
    let short = not_taken (is_short x) Short _ f e in
    let version = not_taken (not ((control_at x).version == 0)) Version _ f short.1 in
    let zero_version = eqb-true (control_at x).version 0 (not-false _ version.0) in
    elim (taken (is_management_read (control_at x)) (management_of bss x) _ f version.1) [
      | inl m ↦
          let type = where_is_management (control_at x).kind (and_parts _ _ m.0).0 in
          let long = twenty_four x short.0 (ap is_control type) in
          management.frame_where_read bss x long zero_version m.0 f m.1
      | inr m ↦ elim (taken (is_data_read (control_at x)) (data_of bss x) _ f m.1) [
        | inl d ↦
            let type = where_is_data (control_at x).kind (and_parts _ _ d.0).0 in
            let long = twenty_four x short.0 (ap is_control type) in
            data_frames.frame_where_read bss x long zero_version d.0 f d.1
        | inr d ↦ elim (taken (is_ps_poll_read (control_at x)) (ps_poll_of bss x) (Err Kind) f d.1) [
          | inl p ↦ polls.frame_where_read bss x (sixteen x short.0) zero_version p.0 f p.1
          | inr p ↦ let none : Err Kind ≡ Ok f = p.1 in absurd (cc)
        ]
      ]
    ]

-- ---- what follows

pub is_one : (bss x : List ℕ) (f g : Frame) → IsFrame bss x f → IsFrame bss x g → f ≡ g
is_one bss x f g v w = cc (is_read bss x f v, is_read bss x g w)

-- whom a frame is sent to
abbrev IsAddressed : List ℕ → List ℕ → Type 0
IsAddressed bss x = (10 ≤ length x) × ((addressed_to x ≡ bss) ⊎ (addressed_to x ≡ broadcast))

pub is_addressed : (bss x : List ℕ) (f : Frame) → IsFrame bss x f → IsAddressed bss x
is_addressed bss x (Mgmt subtype from to_all body) w =
    let p = placed bss x w.fields w.management.headed in
    let long = p.long in
    let receiver : (w.fields.address_1 ≡ bss) ⊎ (w.fields.address_1 ≡ broadcast) =
    ⊎_elim (λ (r : IsProbeRequest bss w.fields). r.to_network)
    (λ (r : IsIndividual bss w.fields). inl r.to_network) w.addressed in
    (omega arith, subst (λ a. (a ≡ bss) ⊎ (a ≡ broadcast)) (sym p.address_1) receiver)
is_addressed bss x (Msdu from doze to body) w =
    let p = placed bss x w.fields w.data_frame.headed in
    let long = p.long in
    (omega arith, inl (p.address_1 ∙ w.data_frame.to_network))
is_addressed bss x (Null from doze) w =
    let p = placed bss x w.fields w.data_frame.headed in
    let long = p.long in
    (omega arith, inl (p.address_1 ∙ w.data_frame.to_network))
is_addressed bss x (Poll from aid) w =
    let p = polls.placed bss x w.fields w.polled in
    let long = p.long in
    (omega arith, inl (p.bssid ∙ w.polled.to_network))

-- the body of a frame has octets where the string has
octets_after : (x body : List ℕ) → drop 24 x ≡ body → ((place : ℕ) → slice_index x place < 256) → (place : ℕ)
    → slice_index body place < 256
octets_after x body body_is octets place =
    subst (λ (b : List ℕ). slice_index b place < 256) body_is
    (subst (λ octet. octet < 256) (sym (get_or-drop 24 x place 0)) (octets (24 + place)))

pub body_octets : (bss x : List ℕ) (subtype : ℕ) (from : List ℕ) (to_all : Bool) (body : List ℕ)
    → IsFrame bss x (Mgmt subtype from to_all body) → ((place : ℕ) → slice_index x place < 256) → (place : ℕ)
    → slice_index body place < 256
body_octets bss x subtype from to_all body w =
    octets_after x body ((placed bss x w.fields w.management.headed).body ∙ sym w.body_is)

pub unit_octets : (bss x from : List ℕ) (doze : Bool) (to body : List ℕ) → IsFrame bss x (Msdu from doze to body)
    → ((place : ℕ) → slice_index x place < 256) → (place : ℕ) → slice_index body place < 256
unit_octets bss x from doze to body w =
    octets_after x body ((placed bss x w.fields w.data_frame.headed).body ∙ sym w.body_is)

-- no frame where the function gives a fault
pub none_at_fault : (bss x : List ℕ) (f : Frame) (u : Unread) → frame_of bss x ≡ Err u → IsFrame bss x f → ⊥
none_at_fault bss x f u e w = cc (e, is_read bss x f w)

-- what is read, or the fault, is the function's
abbrev IsReading : List ℕ → List ℕ → Result Rx Unread → Type 0
IsReading bss x r = MatchResult r (λ rx. frame_of bss x ≡ Ok (shown rx)) (λ fault. frame_of bss x ≡ Err fault)

-- what is read is a frame
pub reads_a_frame : (bss x : List ℕ) (r : Result Rx Unread) → IsReading bss x r
    → IfOk r (λ rx. IsFrame bss x (shown rx))
reads_a_frame bss x (Ok rx) e = is_a_frame bss x (shown rx) e
reads_a_frame bss x (Err fault) e = tt

-- what is a frame is read
pub reads_each_frame : (bss x : List ℕ) (r : Result Rx Unread) → IsReading bss x r → (f : Frame) → IsFrame bss x f
    → IsOkAnd r (λ rx. shown rx ≡ f)
reads_each_frame bss x (Ok rx) e f w = cc (e, is_read bss x f w)
reads_each_frame bss x (Err fault) e f w = absurd (none_at_fault bss x f fault e w)

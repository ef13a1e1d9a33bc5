-- Management frames (IEEE Std 802.11-2016, 9.3.3): which of them are read, and the octets of one that is sent.
use Rattle.std.specs.Prelude.{ℕ, ◌≡◌, ◌⊎◌, Bool, true, false, not, ◌==◌, ◌&&◌, ◌||◌, List, drop, Result, if◌then◌else◌}
use Rattle.std.specs.Int.{w16, to_le_bytes}
use Rattle.std.specs.Str.{bytes_eq}
use Rattle.mac_frame.specs.Address.{broadcast, is_bss_or_broadcast}
use Rattle.mac_frame.specs.FrameControl.{is_management, control_of, has_direction, plain}
use Rattle.mac_frame.specs.Header.{Fields, IsHeaded, control_at, address_at, addressed_to, is_refused, is_from_station}
use Rattle.mac_frame.specs.Header.{is_to_network, is_too_long, unless_faulty, header}
use Rattle.mac_frame.specs.Rx.{Frame, Mgmt}
use Rattle.mac_frame.specs.declared.frame.Unread.{Unread}
use Rattle.mac_frame.specs.declared.frame_control.FrameControl.{FrameControl}
use Rattle.mac_frame.specs.declared.frame_control.FrameType.TheVariants as types

-- ---- subtypes (9.2.4.1.3)

abbrev pub association_request_subtype : ℕ
association_request_subtype = 0

abbrev pub association_response_subtype : ℕ
association_response_subtype = 1

abbrev pub reassociation_request_subtype : ℕ
reassociation_request_subtype = 2

abbrev pub reassociation_response_subtype : ℕ
reassociation_response_subtype = 3

abbrev pub probe_request_subtype : ℕ
probe_request_subtype = 4

abbrev pub probe_response_subtype : ℕ
probe_response_subtype = 5

abbrev pub beacon_subtype : ℕ
beacon_subtype = 8

abbrev pub disassociation_subtype : ℕ
disassociation_subtype = 10

abbrev pub authentication_subtype : ℕ
authentication_subtype = 11

abbrev pub deauthentication_subtype : ℕ
deauthentication_subtype = 12

-- a frame that is read, and that a station sends to its network alone
abbrev pub is_individual_subtype : ℕ → Bool
is_individual_subtype subtype =
    subtype == association_request_subtype || subtype == reassociation_request_subtype
    || subtype == disassociation_subtype
    || subtype == authentication_subtype
    || subtype == deauthentication_subtype

-- ---- heard, as a relation

-- The string is a management frame from a station, with these fields. Which one it is, and what it says of its receiver
-- and of its network, is left to each.
pub record IsManagement (bss x : List ℕ) (f : Fields) : Type 0 where
  pub headed : IsHeaded bss x f
  pub type : (control_of f.control).kind ≡ types.Management
  pub to_ds : (control_of f.control).to_ds ≡ false
  pub from_ds : (control_of f.control).from_ds ≡ false

-- it is a probe request: sent to the network or to all, and for it or for any (9.3.3.10, 11.1.4.3)
pub record IsProbeRequest (bss : List ℕ) (f : Fields) : Type 0 where
  pub subtype : (control_of f.control).subtype ≡ probe_request_subtype
  pub to_network : (f.address_1 ≡ bss) ⊎ (f.address_1 ≡ broadcast)
  pub of_network : (f.address_3 ≡ bss) ⊎ (f.address_3 ≡ broadcast)

-- it is one that is sent to the network alone, and for it (9.3.3.5 to 9.3.3.8, 9.3.3.12, 9.3.3.13)
pub record IsIndividual (bss : List ℕ) (f : Fields) : Type 0 where
  pub subtype : is_individual_subtype (control_of f.control).subtype ≡ true
  pub to_network : f.address_1 ≡ bss
  pub of_network : f.address_3 ≡ bss

-- what is told of a management frame, by its fields
pub record IsMgmt (bss x : List ℕ) (subtype : ℕ) (from : List ℕ) (to_all : Bool) (body : List ℕ) : Type 0 where
  pub fields : Fields
  pub management : IsManagement bss x fields
  pub addressed : IsProbeRequest bss fields ⊎ IsIndividual bss fields
  pub subtype_is : subtype ≡ (control_of fields.control).subtype
  pub from_is : from ≡ fields.address_2
  pub to_all_is : to_all ≡ bytes_eq fields.address_1 broadcast
  pub body_is : body ≡ fields.body

-- ---- heard, as a function

-- a management frame that is read
abbrev pub is_management_read : FrameControl → Bool
is_management_read c = is_management c.kind && (c.subtype == probe_request_subtype || is_individual_subtype c.subtype)

-- Address 1 and Address 3 of a probe request
abbrev pub is_probe_addressed : List ℕ → List ℕ → Bool
is_probe_addressed bss x = is_bss_or_broadcast bss (addressed_to x) && is_bss_or_broadcast bss (address_at x 16)

-- Address 1 and Address 3 of a frame to the network alone
abbrev pub is_individually_addressed : List ℕ → List ℕ → Bool
is_individually_addressed bss x = is_to_network bss x && bytes_eq (address_at x 16) bss

-- Address 1 and Address 3 of a management frame, by its subtype
abbrev pub is_management_addressed : List ℕ → List ℕ → Bool
is_management_addressed bss x =
    if (control_at x).subtype == probe_request_subtype then is_probe_addressed bss x
    else is_individually_addressed bss x

-- what the octets tell at their places
abbrev pub mgmt_at : List ℕ → Frame
mgmt_at x = Mgmt (control_at x).subtype (address_at x 10) (bytes_eq (addressed_to x) broadcast) (drop 24 x)

-- the management frame that a string is for the network, or its first fault after that of its kind
abbrev pub management_of : List ℕ → List ℕ → Result Frame Unread
management_of bss x =
    unless_faulty (is_refused x) (has_direction (control_at x))
    (not (is_from_station bss x && is_management_addressed bss x))
    (is_too_long x) (mgmt_at x)

-- ---- sent

-- the header of a management frame (9.3.3.2): Address 1 the receiver, Address 2 and Address 3 the BSSID
abbrev pub management_header : ℕ → List ℕ → List ℕ → ℕ → List ℕ
management_header subtype to bss sequence = header (plain types.Management subtype) to bss bss sequence

-- Capability Information (9.4.1.4): ESS alone
abbrev pub capability : List ℕ
capability = to_le_bytes w16 1

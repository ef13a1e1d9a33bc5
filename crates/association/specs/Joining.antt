-- Association and reassociation (IEEE Std 802.11-2016, 9.3.3.6 to 9.3.3.9, 11.3.5.3 and 11.3.5.5): what a request says,
-- its status, and its answer.
use Rattle.std.specs.Prelude.{ℕ, ◌≡◌, ◌+◌, Bool, false, not, ◌==◌, ◌||◌, List, ◌++◌, length, drop}
use Rattle.std.specs.Prelude.{Option, Some, None, Result, Ok, Err, if◌then◌else◌}
use Rattle.std.specs.Int.{w16, to_le_bytes, from_le_bytes}
use Rattle.std.specs.List.{list_all}
use Rattle.std.specs.Str.{bytes_eq}
use Rattle.elements.specs.Elements.{Pair, IsElements, first_of, elements_of, ssid_id}
use Rattle.elements.specs.Rates.{is_basic, has_rate, rates_of}
use Rattle.mac_frame.specs.Management.{association_response_subtype, reassociation_response_subtype, capability}
use Rattle.mac_frame.specs.declared.frame.Unread.{Unread}
use Rattle.mac_frame.specs.declared.frame.Unread.TheVariants.{Body}
use Rattle.association.specs.Management.{number_at, with_fixed, management_frame}
use Rattle.association.specs.Status.{success, refused, denied_no_more_stas, refused_basic_rates_mismatch}

-- ---- what a request says, as a relation

-- Capability Information, which is ignored, Listen Interval (9.4.1.4, 9.4.1.6), elements
pub record IsAssociationBody (body : List ℕ) (listen : ℕ) (elements : List Pair) : Type 0 where
  pub capability_field : List ℕ
  pub listen_field : List ℕ
  pub rest : List ℕ
  pub whole : body ≡ capability_field ++ listen_field ++ rest
  pub capability_length : length capability_field ≡ 2
  pub listen_length : length listen_field ≡ 2
  pub listen_is : listen ≡ from_le_bytes w16 listen_field
  pub are_elements : IsElements rest elements

-- the same with Current AP Address before the elements (9.4.1.5), which is ignored
pub record IsReassociationBody (body : List ℕ) (listen : ℕ) (elements : List Pair) : Type 0 where
  pub capability_field : List ℕ
  pub listen_field : List ℕ
  pub current_ap_field : List ℕ
  pub rest : List ℕ
  pub whole : body ≡ capability_field ++ listen_field ++ current_ap_field ++ rest
  pub capability_length : length capability_field ≡ 2
  pub listen_length : length listen_field ≡ 2
  pub current_ap_length : length current_ap_field ≡ 6
  pub listen_is : listen ≡ from_le_bytes w16 listen_field
  pub are_elements : IsElements rest elements

-- ---- as a function

-- the octets before the elements of a request to associate, or again: to reassociate
abbrev pub fixed_length : (again : Bool) → ℕ
fixed_length again = if again then 10 else 4

-- the listen interval and these elements, if a body has elements
abbrev pub listen_with : ℕ → Option (List Pair) → Result (ℕ × List Pair) Unread
listen_with listen (Some es) = Ok (listen, es)
listen_with listen None = Err Body

-- the listen interval and the elements of a body, or its fault
abbrev pub assoc_of : (again : Bool) → List ℕ → Result (ℕ × List Pair) Unread
assoc_of again body =
    with_fixed (fixed_length again) body (listen_with (number_at body 2) (elements_of (drop (fixed_length again) body)))

-- ---- its status

-- an SSID is there, and is the network's
abbrev pub is_ssid : List ℕ → Option (List ℕ) → Bool
is_ssid ssid None = false
is_ssid ssid (Some named) = bytes_eq named ssid

-- the elements name the network
abbrev pub names_network : List ℕ → List Pair → Bool
names_network ssid es = is_ssid ssid (first_of ssid_id es)

-- the elements have each basic rate of the network
abbrev pub has_basic_rates : List ℕ → List Pair → Bool
has_basic_rates rates es = list_all (λ rate. not (is_basic rate) || has_rate rate es) rates

-- the status of a request, where there is room for the station or not: the first that applies (profile)
abbrev pub assoc_status : (ssid rates : List ℕ) (room : Bool) (es : List Pair) → ℕ
assoc_status ssid rates room es =
    if not (names_network ssid es) then refused
    else if not (has_basic_rates rates es) then refused_basic_rates_mismatch
    else if not room then denied_no_more_stas
    else success

-- ---- its answer

-- the two high bits of an AID field (9.4.1.8)
abbrev pub aid_high_bits : ℕ
aid_high_bits = 0xc000

-- AID (9.4.1.8): the number with the two high bits set, or 0 where the request is refused (profile)
abbrev pub aid_field : (status aid : ℕ) → ℕ
aid_field status aid = if status == success then aid_high_bits + aid else 0

-- the fields before the elements (9.3.3.7): Capability Information, Status Code, AID
abbrev pub association_fields : (status aid : ℕ) → List ℕ
association_fields status aid = capability ++ to_le_bytes w16 status ++ to_le_bytes w16 (aid_field status aid)

-- a request to reassociate is answered by a reassociation response (9.3.3.9), any other by an association response
-- (9.3.3.7)
abbrev pub response_subtype : (again : Bool) → ℕ
response_subtype again = if again then reassociation_response_subtype else association_response_subtype

-- an answer to a station, with the rates of the network
abbrev pub association_response :
    (to bss : List ℕ) (sequence : ℕ) (again : Bool) (status aid : ℕ) (rates : List ℕ) → List ℕ
association_response to bss sequence again status aid rates =
    management_frame (response_subtype again) to bss sequence (association_fields status aid ++ rates_of rates)

-- Headers on which the definitions are computed.
use Rattle.std.proofs.Common.{◌≡◌, ℕ, List, [], ◌∷◌, take, refl}
use Rattle.mac_frame.specs.Header.{sequence_control}
use Rattle.std.specs.Int.{w16, to_le_bytes}
use Rattle.mac_frame.specs.Management.{association_request_subtype, association_response_subtype}
use Rattle.mac_frame.specs.Management.{reassociation_request_subtype, reassociation_response_subtype}
use Rattle.mac_frame.specs.Management.{probe_request_subtype, probe_response_subtype, beacon_subtype}
use Rattle.mac_frame.specs.Management.{disassociation_subtype, authentication_subtype, deauthentication_subtype}
use Rattle.mac_frame.specs.Management.{management_header, capability}
use Rattle.mac_frame.specs.declared.management.TheConstants.{ASSOCIATION_REQUEST, ASSOCIATION_RESPONSE, AUTHENTICATION}
use Rattle.mac_frame.specs.declared.management.TheConstants.{BEACON, CAPABILITY, DEAUTHENTICATION, DISASSOCIATION}
use Rattle.mac_frame.specs.declared.management.TheConstants.{PROBE_REQUEST, PROBE_RESPONSE, REASSOCIATION_REQUEST}
use Rattle.mac_frame.specs.declared.management.TheConstants.{REASSOCIATION_RESPONSE}
use Rattle.mac_frame.specs.Samples.{network, station}
use Rattle.mac_frame.proofs.Rows.{Computes}

abbrev probe_response : List ℕ
probe_response =
    0x50 ∷ 0x00 ∷ 0x00 ∷ 0x00
    ∷ 0x02 ∷ 0xaa ∷ 0x00 ∷ 0x00 ∷ 0x00 ∷ 0x01
    ∷ 0x02 ∷ 0x00 ∷ 0x00 ∷ 0x00 ∷ 0x00 ∷ 0x01
    ∷ 0x02 ∷ 0x00 ∷ 0x00 ∷ 0x00 ∷ 0x00 ∷ 0x01
    ∷ 0x10 ∷ 0x00 ∷ []

pub the_second_probe_response_has_this_header : management_header 5 station network 1 ≡ probe_response
the_second_probe_response_has_this_header = refl

pub the_first_number_is_0 : sequence_control 0 ≡ 0 ∷ 0 ∷ []
the_first_number_is_0 = refl

pub the_last_number_is_4095 : sequence_control 4095 ≡ 0xf0 ∷ 0xff ∷ []
the_last_number_is_4095 = refl

pub the_greatest_subtype_leaves_type_and_version_0 : take 2 (management_header 15 station network 4095) ≡ 0xf0 ∷ 0 ∷ []
the_greatest_subtype_leaves_type_and_version_0 = refl

pub ess_alone_is_the_lowest_bit : capability ≡ 0x01 ∷ 0x00 ∷ []
ess_alone_is_the_lowest_bit = refl

-- ---- the constants of the code

pub the_written_capability_is_ess_alone : to_le_bytes w16 CAPABILITY ≡ capability
the_written_capability_is_ess_alone = refl

pub the_subtypes_are_the_standards : Computes (λ (subtype : ℕ). subtype) (
    ("an association request", ASSOCIATION_REQUEST, association_request_subtype)
    ∷ ("an association response", ASSOCIATION_RESPONSE, association_response_subtype)
    ∷ ("a reassociation request", REASSOCIATION_REQUEST, reassociation_request_subtype)
    ∷ ("a reassociation response", REASSOCIATION_RESPONSE, reassociation_response_subtype)
    ∷ ("a probe request", PROBE_REQUEST, probe_request_subtype)
    ∷ ("a probe response", PROBE_RESPONSE, probe_response_subtype)
    ∷ ("a beacon", BEACON, beacon_subtype)
    ∷ ("a disassociation", DISASSOCIATION, disassociation_subtype)
    ∷ ("an authentication", AUTHENTICATION, authentication_subtype)
    ∷ ("a deauthentication", DEAUTHENTICATION, deauthentication_subtype)
    ∷ [])
the_subtypes_are_the_standards = refl

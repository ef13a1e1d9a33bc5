-- Frames of hostapd 2.10 and the mac80211 of Linux 6.1.0-50-amd64, of Debian 12, as another radio heard them;
-- recorded on 2026-11-28 by tools/guest/record-frames. Beside each stands the frame that the definitions give, and what
-- differs.
use Rattle.std.specs.Prelude.{ℕ, true, false, List, [], ◌∷◌, ◌+◌, ◌++◌}
use Rattle.mac_frame.specs.Address.{broadcast}
use Rattle.mac_frame.specs.Data.{data_header}
use Rattle.association.specs.Authentication.{authentication}
use Rattle.association.specs.Joining.{association_response}
use Rattle.beacon.specs.Advert.{Announced}
use Rattle.beacon.specs.Beacon.{beacon}
use Rattle.beacon.specs.ProbeResponse.{probe_response}
use Rattle.recorded_frames.specs.Names.{station, plain, plain_second, slow, fast, secret, plain_ssid, slow_ssid}
use Rattle.recorded_frames.specs.Names.{fast_ssid, secret_ssid, advertisement_protocol_id, erp_id}
use Rattle.recorded_frames.specs.Names.{supported_operating_classes_id, extended_capabilities_id, ht_capabilities_id}
use Rattle.recorded_frames.specs.Names.{ht_operation_id, rm_enabled_capabilities_id, rsn_id, vendor_specific_id}
use Rattle.recorded_frames.specs.Names.{interworking_id, bss_max_idle_period_id, duration_at, timestamp_at}
use Rattle.recorded_frames.specs.Names.{announced_capability_at, answered_capability_at}
use Rattle.recorded_frames.specs.Names.{first_element_of_announcement, first_element_of_answer, ess, privacy}
use Rattle.recorded_frames.specs.Names.{short_slot_time, radio_measurement}
use Rattle.recorded_frames.specs.Sent.{Sent, these}
use Rattle.std.specs.Int.{w16, to_le_bytes}
use Rattle.recorded_frames.specs.Octets.{hex}

-- the rates of its networks

abbrev pub plain_rates : List ℕ
plain_rates = hex "82840b160c1218243048606c"

abbrev pub slow_rates : List ℕ
slow_rates = hex "82840b16"

abbrev pub fast_rates : List ℕ
fast_rates = hex "82848b960c1218243048606c"

abbrev pub secret_rates : List ℕ
secret_rates = hex "82840b160c1218243048606c"

-- what its networks announce of themselves, at a clock that counts beacon intervals

abbrev pub plain_at : ℕ → Announced
plain_at clock =
    record { bss = plain; ssid = plain_ssid; rates = plain_rates; channel = 6; interval = 100; clock = clock }

abbrev pub plain_second_at : ℕ → Announced
plain_second_at clock =
    record { bss = plain_second; ssid = plain_ssid; rates = plain_rates; channel = 6; interval = 100; clock = clock }

abbrev pub slow_at : ℕ → Announced
slow_at clock =
    record { bss = slow; ssid = slow_ssid; rates = slow_rates; channel = 6; interval = 100; clock = clock }

abbrev pub fast_at : ℕ → Announced
fast_at clock =
    record { bss = fast; ssid = fast_ssid; rates = fast_rates; channel = 6; interval = 100; clock = clock }

abbrev pub secret_at : ℕ → Announced
secret_at clock =
    record { bss = secret; ssid = secret_ssid; rates = secret_rates; channel = 6; interval = 100; clock = clock }

-- Capability Information of these bits
abbrev pub capability_of : ℕ → List ℕ
capability_of bits = to_le_bytes w16 bits

-- the octets of an authentication: no element follows
abbrev pub length_of_authentication : ℕ
length_of_authentication = 30

-- a beacon
abbrev pub plain_beacon : Sent
plain_beacon = record {
  octets =
      hex "80000000 ffffffffffff 020000010200 020000010200 0000"
      ++ hex "ca40bed659610600 6400 0104 0005706c61696e 010882840b160c121824"
      ++ hex "030106 050400020000 2a0104 32043048606c"  -- DSSS Parameter Set, TIM, ERP, Extended Supported Rates
      ++ hex "3b025100 7f080400400200000040";  -- Supported Operating Classes, Extended Capabilities
  defined = beacon (plain_at 1) 0 2 false (these []);
  fields = (timestamp_at, hex "ca40bed659610600")
      ∷ (announced_capability_at, capability_of (ess + short_slot_time)) ∷ [];
  first = first_element_of_announcement;
  left_out = erp_id ∷ supported_operating_classes_id ∷ extended_capabilities_id ∷ [];
}

-- a probe response
abbrev pub plain_probe_response : Sent
plain_probe_response = record {
  octets =
      hex "50003a01 020000000200 020000010200 020000010200 1000"
      ++ hex "0b61ddd659610600 6400 0104 0005706c61696e 010882840b160c121824"
      ++ hex "030106 2a0106 32043048606c"  -- DSSS Parameter Set, ERP, Extended Supported Rates
      ++ hex "3b025100 7f080400400200000040";  -- Supported Operating Classes, Extended Capabilities
  defined = probe_response (plain_at 0) station 1;
  fields = (duration_at, hex "3a01") ∷ (timestamp_at, hex "0b61ddd659610600")
      ∷ (announced_capability_at, capability_of (ess + short_slot_time)) ∷ [];
  first = first_element_of_announcement;
  left_out = erp_id ∷ supported_operating_classes_id ∷ extended_capabilities_id ∷ [];
}

-- an answer to a request to authenticate
abbrev pub plain_authentication_response : Sent
plain_authentication_response = record {
  octets = hex "b0003a01 020000000200 020000010200 020000010200 3000 0000 0200 0000";
  defined = authentication station plain 3 0 0;
  fields = (duration_at, hex "3a01") ∷ [];
  first = length_of_authentication;
  left_out = [];
}

-- an association response
abbrev pub plain_association_response : Sent
plain_association_response = record {
  octets =
      hex "10003a01 020000000200 020000010200 020000010200 4000"
      ++ hex "0104 0000 01c0 010882840b160c121824 32043048606c"
      ++ hex "7f080400400200000040 5a03240100";  -- Extended Capabilities, BSS Max Idle Period
  defined = association_response station plain 4 false 0 1 plain_rates;
  fields = (duration_at, hex "3a01") ∷ (answered_capability_at, capability_of (ess + short_slot_time)) ∷ [];
  first = first_element_of_answer;
  left_out = extended_capabilities_id ∷ bss_max_idle_period_id ∷ [];
}

-- a beacon
abbrev pub slow_beacon : Sent
slow_beacon = record {
  octets =
      hex "80000000 ffffffffffff 020000010400 020000010400 0000"
      ++ hex "f7f0c2d659610600 6400 0100 0004736c6f77 010482840b16"
      ++ hex "030106 050400010000 3b025100"  -- DSSS Parameter Set, TIM, Supported Operating Classes
      ++ hex "7f080400400200000040";  -- Extended Capabilities
  defined = beacon (slow_at 1) 0 1 false (these []);
  fields = (timestamp_at, hex "f7f0c2d659610600") ∷ [];
  first = first_element_of_announcement;
  left_out = supported_operating_classes_id ∷ extended_capabilities_id ∷ [];
}

-- a probe response
abbrev pub slow_probe_response : Sent
slow_probe_response = record {
  octets =
      hex "50003a01 020000000200 020000010400 020000010400 1000"
      ++ hex "3f67ddd659610600 6400 0100 0004736c6f77 010482840b16"
      ++ hex "030106 3b025100"  -- DSSS Parameter Set, Supported Operating Classes
      ++ hex "7f080400400200000040";  -- Extended Capabilities
  defined = probe_response (slow_at 0) station 1;
  fields = (duration_at, hex "3a01") ∷ (timestamp_at, hex "3f67ddd659610600") ∷ [];
  first = first_element_of_announcement;
  left_out = supported_operating_classes_id ∷ extended_capabilities_id ∷ [];
}

-- an answer to a request to authenticate
abbrev pub slow_authentication_response : Sent
slow_authentication_response = record {
  octets = hex "b0003a01 020000000200 020000010400 020000010400 a000 0000 0200 0000";
  defined = authentication station slow 10 0 0;
  fields = (duration_at, hex "3a01") ∷ [];
  first = length_of_authentication;
  left_out = [];
}

-- an association response
abbrev pub slow_association_response : Sent
slow_association_response = record {
  octets =
      hex "10003a01 020000000200 020000010400 020000010400 b000"
      ++ hex "0100 0000 01c0 010482840b16"
      ++ hex "7f080400400200000040 5a03240100";  -- Extended Capabilities, BSS Max Idle Period
  defined = association_response station slow 11 false 0 1 slow_rates;
  fields = (duration_at, hex "3a01") ∷ [];
  first = first_element_of_answer;
  left_out = extended_capabilities_id ∷ bss_max_idle_period_id ∷ [];
}

-- a beacon
abbrev pub fast_beacon : Sent
fast_beacon = record {
  octets =
      hex "80000000 ffffffffffff 020000010500 020000010500 0000"
      ++ hex "42a1c7d659610600 6400 0114 000466617374 010882848b960c121824"
      ++ hex "030106 050400010000 2a0104 32043048606c"  -- DSSS Parameter Set, TIM, ERP, Extended Supported Rates
      ++ hex "46050200000000 3b025100"  -- RM Enabled Capabilities, Supported Operating Classes
      ++ hex "2d1a0c001bffff000000000000000000 000100000000000000000000"  -- HT Capabilities
      ++ hex "3d160600000000000000000000000000 0000000000000000"  -- HT Operation
      ++ hex "7f080400488200000040 6b0100 6c027f00"  -- Extended Capabilities, Interworking, Advertisement Protocol
      ++ hex "dd180050f2020101010003a4000027a4 000042435e0062322f00";  -- Vendor Specific
  defined = beacon (fast_at 1) 0 1 false (these []);
  fields = (timestamp_at, hex "42a1c7d659610600")
      ∷ (announced_capability_at, capability_of (ess + short_slot_time + radio_measurement)) ∷ [];
  first = first_element_of_announcement;
  left_out = erp_id ∷ rm_enabled_capabilities_id ∷ supported_operating_classes_id ∷ ht_capabilities_id ∷ ht_operation_id
      ∷ extended_capabilities_id ∷ interworking_id ∷ advertisement_protocol_id ∷ vendor_specific_id ∷ [];
}

-- a probe response
abbrev pub fast_probe_response : Sent
fast_probe_response = record {
  octets =
      hex "50003a01 020000000200 020000010500 020000010500 1000"
      ++ hex "0169ddd659610600 6400 0114 000466617374 010882848b960c121824"
      ++ hex "030106 2a0106 32043048606c"  -- DSSS Parameter Set, ERP, Extended Supported Rates
      ++ hex "46050200000000 3b025100"  -- RM Enabled Capabilities, Supported Operating Classes
      ++ hex "2d1a0c001bffff000000000000000000 000100000000000000000000"  -- HT Capabilities
      ++ hex "3d160600110000000000000000000000 0000000000000000"  -- HT Operation
      ++ hex "7f080400488200000040 6b0100 6c027f00"  -- Extended Capabilities, Interworking, Advertisement Protocol
      ++ hex "dd180050f2020101010003a4000027a4 000042435e0062322f00";  -- Vendor Specific
  defined = probe_response (fast_at 0) station 1;
  fields = (duration_at, hex "3a01") ∷ (timestamp_at, hex "0169ddd659610600")
      ∷ (announced_capability_at, capability_of (ess + short_slot_time + radio_measurement)) ∷ [];
  first = first_element_of_announcement;
  left_out = erp_id ∷ rm_enabled_capabilities_id ∷ supported_operating_classes_id ∷ ht_capabilities_id ∷ ht_operation_id
      ∷ extended_capabilities_id ∷ interworking_id ∷ advertisement_protocol_id ∷ vendor_specific_id ∷ [];
}

-- an answer to a request to authenticate
abbrev pub fast_authentication_response : Sent
fast_authentication_response = record {
  octets = hex "b0003a01 020000000200 020000010500 020000010500 b000 0000 0200 0000";
  defined = authentication station fast 11 0 0;
  fields = (duration_at, hex "3a01") ∷ [];
  first = length_of_authentication;
  left_out = [];
}

-- an association response
abbrev pub fast_association_response : Sent
fast_association_response = record {
  octets =
      hex "10003a01 020000000200 020000010500 020000010500 c000"
      ++ hex "0114 0000 01c0 010882848b960c121824 32043048606c"
      ++ hex "46050200000000"  -- RM Enabled Capabilities
      ++ hex "2d1a0c001bffff000000000000000000 000100000000000000000000"  -- HT Capabilities
      ++ hex "3d160600110000000000000000000000 0000000000000000"  -- HT Operation
      ++ hex "7f080400488200000040 5a03240100"  -- Extended Capabilities, BSS Max Idle Period
      ++ hex "dd180050f2020101010003a4000027a4 000042435e0062322f00";  -- Vendor Specific
  defined = association_response station fast 12 false 0 1 fast_rates;
  fields = (duration_at, hex "3a01")
      ∷ (answered_capability_at, capability_of (ess + short_slot_time + radio_measurement)) ∷ [];
  first = first_element_of_answer;
  left_out = rm_enabled_capabilities_id ∷ ht_capabilities_id ∷ ht_operation_id ∷ extended_capabilities_id
      ∷ bss_max_idle_period_id ∷ vendor_specific_id ∷ [];
}

-- a beacon
abbrev pub secret_beacon : Sent
secret_beacon = record {
  octets =
      hex "80000000 ffffffffffff 020000010600 020000010600 0000"
      ++ hex "5a01d1d659610600 6400 1104 0006736563726574 010882840b160c121824"
      ++ hex "030106 050400010000 2a0104 32043048606c"  -- DSSS Parameter Set, TIM, ERP, Extended Supported Rates
      ++ hex "30180100000fac040100000fac040200 000fac02000fac068000"  -- RSN
      ++ hex "3b025100 7f080400400200000040";  -- Supported Operating Classes, Extended Capabilities
  defined = beacon (secret_at 1) 0 1 false (these []);
  fields = (timestamp_at, hex "5a01d1d659610600")
      ∷ (announced_capability_at, capability_of (ess + privacy + short_slot_time)) ∷ [];
  first = first_element_of_announcement;
  left_out = erp_id ∷ rsn_id ∷ supported_operating_classes_id ∷ extended_capabilities_id ∷ [];
}

-- a probe response
abbrev pub secret_probe_response : Sent
secret_probe_response = record {
  octets =
      hex "50003a01 020000000200 020000010600 020000010600 1000"
      ++ hex "c86addd659610600 6400 1104 0006736563726574 010882840b160c121824"
      ++ hex "030106 2a0106 32043048606c"  -- DSSS Parameter Set, ERP, Extended Supported Rates
      ++ hex "30180100000fac040100000fac040200 000fac02000fac068000"  -- RSN
      ++ hex "3b025100 7f080400400200000040";  -- Supported Operating Classes, Extended Capabilities
  defined = probe_response (secret_at 0) station 1;
  fields = (duration_at, hex "3a01") ∷ (timestamp_at, hex "c86addd659610600")
      ∷ (announced_capability_at, capability_of (ess + privacy + short_slot_time)) ∷ [];
  first = first_element_of_announcement;
  left_out = erp_id ∷ rsn_id ∷ supported_operating_classes_id ∷ extended_capabilities_id ∷ [];
}

-- an answer to a request to authenticate
abbrev pub secret_authentication_response : Sent
secret_authentication_response = record {
  octets = hex "b0003a01 020000000200 020000010600 020000010600 c000 0000 0200 0000";
  defined = authentication station secret 12 0 0;
  fields = (duration_at, hex "3a01") ∷ [];
  first = length_of_authentication;
  left_out = [];
}

-- an association response
abbrev pub secret_association_response : Sent
secret_association_response = record {
  octets =
      hex "10003a01 020000000200 020000010600 020000010600 d000"
      ++ hex "1104 0000 01c0 010882840b160c121824 32043048606c"
      ++ hex "7f080400400200000040 5a03240100";  -- Extended Capabilities, BSS Max Idle Period
  defined = association_response station secret 13 false 0 1 secret_rates;
  fields = (duration_at, hex "3a01") ∷ (answered_capability_at, capability_of (ess + privacy + short_slot_time)) ∷ [];
  first = first_element_of_answer;
  left_out = extended_capabilities_id ∷ bss_max_idle_period_id ∷ [];
}

-- a reassociation response
abbrev pub plain_reassociation_response : Sent
plain_reassociation_response = record {
  octets =
      hex "30003a01 020000000200 020000010201 020000010201 d000"
      ++ hex "0104 0000 01c0 010882840b160c121824 32043048606c"
      ++ hex "7f080400400200000040 5a03240100";  -- Extended Capabilities, BSS Max Idle Period
  defined = association_response station plain_second 13 true 0 1 plain_rates;
  fields = (duration_at, hex "3a01") ∷ (answered_capability_at, capability_of (ess + short_slot_time)) ∷ [];
  first = first_element_of_answer;
  left_out = extended_capabilities_id ∷ bss_max_idle_period_id ∷ [];
}

-- a beacon that tells of one station
abbrev pub beacon_that_tells_of_one : Sent
beacon_that_tells_of_one = record {
  octets =
      hex "80000000 ffffffffffff 020000010200 020000010200 0000"
      ++ hex "d250dfd759610600 6400 0104 0005706c61696e 010882840b160c121824"
      ++ hex "030106 050401020002 2a0106 32043048606c"  -- DSSS Parameter Set, TIM, ERP, Extended Supported Rates
      ++ hex "3b025100 7f080400400200000040";  -- Supported Operating Classes, Extended Capabilities
  defined = beacon (plain_at 2) 0 2 false (these (1 ∷ []));
  fields = (timestamp_at, hex "d250dfd759610600")
      ∷ (announced_capability_at, capability_of (ess + short_slot_time)) ∷ [];
  first = first_element_of_announcement;
  left_out = erp_id ∷ supported_operating_classes_id ∷ extended_capabilities_id ∷ [];
}

-- a beacon at a DTIM that tells of the group
abbrev pub beacon_that_tells_of_the_group : Sent
beacon_that_tells_of_the_group = record {
  octets =
      hex "80000000 ffffffffffff 020000010200 020000010200 0000"
      ++ hex "cb40b8d759610600 6400 0104 0005706c61696e 010882840b160c121824"
      ++ hex "030106 050400020100 2a0106 32043048606c"  -- DSSS Parameter Set, TIM, ERP, Extended Supported Rates
      ++ hex "3b025100 7f080400400200000040";  -- Supported Operating Classes, Extended Capabilities
  defined = beacon (plain_at 1) 0 2 true (these []);
  fields = (timestamp_at, hex "cb40b8d759610600")
      ∷ (announced_capability_at, capability_of (ess + short_slot_time)) ∷ [];
  first = first_element_of_announcement;
  left_out = erp_id ∷ supported_operating_classes_id ∷ extended_capabilities_id ∷ [];
}

-- a beacon two before a DTIM, of three
abbrev pub beacon_of_three_that_tells_of_none : Sent
beacon_of_three_that_tells_of_none = record {
  octets =
      hex "80000000 ffffffffffff 020000010201 020000010201 0000"
      ++ hex "dbd0bfd659610600 6400 0104 0005706c61696e 010882840b160c121824"
      ++ hex "030106 050402030000 2a0104 32043048606c"  -- DSSS Parameter Set, TIM, ERP, Extended Supported Rates
      ++ hex "3b025100 7f080400400200000040";  -- Supported Operating Classes, Extended Capabilities
  defined = beacon (plain_second_at 2) 0 3 false (these []);
  fields = (timestamp_at, hex "dbd0bfd659610600")
      ∷ (announced_capability_at, capability_of (ess + short_slot_time)) ∷ [];
  first = first_element_of_announcement;
  left_out = erp_id ∷ supported_operating_classes_id ∷ extended_capabilities_id ∷ [];
}

-- a beacon that tells of two stations of the third octet
abbrev pub beacon_that_tells_of_more : Sent
beacon_that_tells_of_more = record {
  octets =
      hex "80000000 ffffffffffff 020000010200 020000010200 0000"
      ++ hex "d220a3da59610600 6400 0104 0005706c61696e 010882840b160c121824"
      ++ hex "030106 050400020203 2a0106 32043048606c"  -- DSSS Parameter Set, TIM, ERP, Extended Supported Rates
      ++ hex "3b025100 7f080400400200000040";  -- Supported Operating Classes, Extended Capabilities
  defined = beacon (plain_at 1) 0 2 false (these (16 ∷ 17 ∷ []));
  fields = (timestamp_at, hex "d220a3da59610600")
      ∷ (announced_capability_at, capability_of (ess + short_slot_time)) ∷ [];
  first = first_element_of_announcement;
  left_out = erp_id ∷ supported_operating_classes_id ∷ extended_capabilities_id ∷ [];
}

-- a unit for all after a DTIM beacon, which others follow
abbrev pub plain_data_with_more : Sent
plain_data_with_more = record {
  octets =
      hex "08220000 ffffffffffff 020000010200 7618569cc9f8 f001"
      ++ hex "aaaa030000000800 4500002400004000400121da0a000201 0a0002ff0800eadd0111000100010203 04050607";
  defined =
      data_header broadcast plain (hex "7618569cc9f8") 31 true
      ++ (hex "aaaa030000000800 4500002400004000400121da0a000201 0a0002ff0800eadd0111000100010203 04050607");
  fields = [];
  first = 68;
  left_out = [];
}

-- a unit of a station for all
abbrev pub plain_data_to_all_from_the_network : Sent
plain_data_to_all_from_the_network = record {
  octets =
      hex "08020000 ffffffffffff 020000010200 020000000200 6001"
      ++ hex "aaaa030000000806 00010800060400010200000002000a00 020b0000000000000a000201";
  defined =
      data_header broadcast plain station 22 false
      ++ (hex "aaaa030000000806 00010800060400010200000002000a00 020b0000000000000a000201");
  fields = [];
  first = 60;
  left_out = [];
}

abbrev pub of_hostapd : List Sent
of_hostapd =
    plain_beacon
    ∷ plain_probe_response
    ∷ plain_authentication_response
    ∷ plain_association_response
    ∷ slow_beacon
    ∷ slow_probe_response
    ∷ slow_authentication_response
    ∷ slow_association_response
    ∷ fast_beacon
    ∷ fast_probe_response
    ∷ fast_authentication_response
    ∷ fast_association_response
    ∷ secret_beacon
    ∷ secret_probe_response
    ∷ secret_authentication_response
    ∷ secret_association_response
    ∷ plain_reassociation_response
    ∷ beacon_that_tells_of_one
    ∷ beacon_that_tells_of_the_group
    ∷ beacon_of_three_that_tells_of_none
    ∷ beacon_that_tells_of_more
    ∷ plain_data_with_more
    ∷ plain_data_to_all_from_the_network ∷ []

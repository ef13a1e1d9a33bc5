-- Frames of unmodified Linux stations, as another radio heard them: Linux 6.1.0-50-amd64 of Debian 12, whose
-- mac80211 made them, and wpa_supplicant 2.10; recorded on 2026-11-28 by tools/guest/record-frames. The frames
-- that the other kernel sent alike stand in specs/Linux.antt.
use Rattle.std.specs.Prelude.{true, false, List, [], ◌∷◌, ◌++◌, Some, Ok, Err}
use Rattle.mac_frame.specs.declared.frame.Unread.TheVariants.{Kind, Flags, Address}
use Rattle.association.specs.Request.{Probe, Msdu, Null}
use Rattle.recorded_frames.specs.Names.{station, plain, fast, secret, ours}
use Rattle.recorded_frames.specs.Octets.{hex}
use Rattle.recorded_frames.specs.Heard.{Heard, heard}
use Rattle.recorded_frames.specs.Hostapd.{slow_beacon}
use Rattle.recorded_frames.specs.Linux.{plain_authentication, plain_association_request, plain_reassociation_request}
use Rattle.recorded_frames.specs.Linux.{plain_disassociation, plain_deauthentication, plain_data_to_all}
use Rattle.recorded_frames.specs.Linux.{plain_data_to_a_group, plain_null_that_wakes, plain_poll}
use Rattle.recorded_frames.specs.Linux.{fast_association_request, fast_qos_data, fast_qos_null, action_of_category_3}
use Rattle.recorded_frames.specs.Linux.{action_of_category_5, action_of_category_10, secret_association_request}
use Rattle.recorded_frames.specs.Linux61Ours.{ours_authentication, ours_association_request, ours_reassociation_request}
use Rattle.recorded_frames.specs.Linux61Ours.{ours_disassociation, ours_deauthentication, ours_data_to_all}
use Rattle.recorded_frames.specs.Linux61Ours.{ours_data_to_a_group, ours_data_to_a_host, ours_null_that_dozes}
use Rattle.recorded_frames.specs.Linux61Ours.{ours_null_that_wakes, ours_poll}

-- a probe request for any network
abbrev pub probe_request_for_any : Heard
probe_request_for_any =
    heard plain
    (hex "40000000 ffffffffffff 020000000200 ffffffffffff 1000"
    ++ hex "0000 010802040b160c121824 32043048606c"
    ++ hex "030106"  -- DSSS Parameter Set
    ++ hex "2d1a7e101bffff000000000000000000 000100000000000000000000"  -- HT Capabilities
    ++ hex "7f0b04004a8201404040000120 6b010f"  -- Extended Capabilities, Interworking
    ++ hex "ff16230178c81a400000bfce00000000 00000000fafffaff"  -- an element with an Element ID Extension
    ++ hex "ff126c07007c0000feffff7f01008888 88880000"  -- an element with an Element ID Extension
    ++ hex "dd690050f204104a000110103a000100 10080002314810470010a134bcd4edf6"  -- Vendor Specific
    ++ hex "548b87e549d3aedf9b60105400080000 000000000000103c0001031002000200 00100900020000101200020000102100"
    ++ hex "01201023000120102400012010110001 201049000600372a000120"
    ++ hex "dd11506f9a0902020025000605005858 045106"  -- Vendor Specific
    ++ hex "7200 dd05506f9a1020 dd07506f9a16030103")  -- Mesh ID, Vendor Specific, Vendor Specific
    (Ok (Probe station (Some [])))

-- a probe request that names a network
abbrev pub probe_request_for_plain : Heard
probe_request_for_plain =
    heard plain
    (hex "40000000 ffffffffffff 020000000200 ffffffffffff 0000"
    ++ hex "0005706c61696e 010802040b160c121824 32043048606c"
    ++ hex "030106"  -- DSSS Parameter Set
    ++ hex "2d1a7e101bffff000000000000000000 000100000000000000000000"  -- HT Capabilities
    ++ hex "7f0b04004a8201404040000120 6b010f"  -- Extended Capabilities, Interworking
    ++ hex "ff16230178c81a400000bfce00000000 00000000fafffaff"  -- an element with an Element ID Extension
    ++ hex "ff126c07007c0000feffff7f01008888 88880000"  -- an element with an Element ID Extension
    ++ hex "dd690050f204104a000110103a000100 10080002314810470010a134bcd4edf6"  -- Vendor Specific
    ++ hex "548b87e549d3aedf9b60105400080000 000000000000103c0001031002000200 00100900020000101200020000102100"
    ++ hex "01201023000120102400012010110001 201049000600372a000120"
    ++ hex "dd11506f9a0902020025000605005858 045106"  -- Vendor Specific
    ++ hex "7200 dd05506f9a1020 dd07506f9a16030103")  -- Mesh ID, Vendor Specific, Vendor Specific
    (Ok (Probe station (Some (hex "706c61696e"))))

-- one with vendor elements, of a scan for Wi-Fi Protected Setup: the same frame
abbrev pub probe_request_of_protected_setup : Heard
probe_request_of_protected_setup = probe_request_for_plain

-- a unit for a host: IPv4
abbrev pub plain_data_to_a_host : Heard
plain_data_to_a_host =
    heard plain
    (hex "08016800 020000010200 020000000200 7618569cc9f8 f001"
    ++ hex "aaaa030000000800 45000024116f40004001115f0a00020b 0a0002010800eadf010f000100010203 04050607")
    (Ok (Msdu station false (hex "7618569cc9f8")
    (hex "aaaa030000000800 45000024116f40004001115f0a00020b 0a0002010800eadf010f000100010203 04050607")))

-- a Null of a station that dozes from now on
abbrev pub plain_null_that_dozes : Heard
plain_null_that_dozes =
    heard plain (hex "48116800 020000010200 020000000200 020000010200 2002") (Ok (Null station true))

-- the first fragment of a unit
abbrev pub first_fragment : Heard
first_fragment =
    heard plain
    (hex "0805b001 020000010200 020000000200 7618569cc9f8 e004"
    ++ hex "aaaa030000000800 450001481b454000400106650a00020b 0a0002010800151701210001fe140b6b"
    ++ hex "00000000786108000000000010111213 1415161718191a1b1c1d1e1f20212223 2425262728292a2b2c2d2e2f30313233"
    ++ hex "3435363738393a3b3c3d3e3f40414243 4445464748494a4b4c4d4e4f50515253 5455565758595a5b5c5d5e5f60616263"
    ++ hex "6465666768696a6b6c6d6e6f70717273 7475767778797a7b7c7d7e7f80818283 8485868788898a8b8c8d8e8f90919293"
    ++ hex "9495969798999a9b9c9d9e9fa0a1a2a3 a4a5a6a7a8a9aaabacadaeafb0b1b2b3 b4b5b6b7b8b9babbbcbdbebf")
    (Err Flags)

-- the last one
abbrev pub last_fragment : Heard
last_fragment =
    heard plain
    (hex "08016800 020000010200 020000000200 7618569cc9f8 e104"
    ++ hex "c0c1c2c3c4c5c6c7c8c9cacbcccdcecf d0d1d2d3d4d5d6d7d8d9dadbdcdddedf e0e1e2e3e4e5e6e7e8e9eaebecedeeef"
    ++ hex "f0f1f2f3f4f5f6f7f8f9fafbfcfdfeff 000102030405060708090a0b0c0d0e0f 101112131415161718191a1b1c1d1e1f"
    ++ hex "202122232425262728292a2b")
    (Err Flags)

-- an action frame: Public
abbrev pub action_of_category_4 : Heard
action_of_category_4 =
    heard fast (hex "d0003a01 020000010500 020000000200 020000010500 b006 040aae6c0200000600000102000201") (Err Kind)

-- a unit in the clear, of the handshake for keys
abbrev pub secret_key_in_the_clear : Heard
secret_key_in_the_clear =
    heard secret
    (hex "08013a01 020000010600 020000000200 020000010600 3007"
    ++ hex "aaaa03000000888e 0103007b02010b000000000000000000 015568583cbf1e2dfb63f6cb4daba160"
    ++ hex "8b20c21468a065c8d14959927eed3e56 0a000000000000000000000000000000 00000000000000000000000000000000"
    ++ hex "00c86677c6be71b49c43bb8854df7691 29001c301a0100000fac040100000fac 040100000fac06c0000000000fac06")
    (Ok (Msdu station false secret
    (hex "aaaa03000000888e 0103007b02010b000000000000000000 015568583cbf1e2dfb63f6cb4daba160"
    ++ hex "8b20c21468a065c8d14959927eed3e56 0a000000000000000000000000000000 00000000000000000000000000000000"
    ++ hex "00c86677c6be71b49c43bb8854df7691 29001c301a0100000fac040100000fac 040100000fac06c0000000000fac06")))

-- a protected unit
abbrev pub secret_data : Heard
secret_data =
    heard secret
    (hex "08410201 020000010600 020000000200 333300000016 5007"
    ++ hex "01000020000000007c9302fc4bde0c21 7e6c4f70665988d7816038a363abab3d 412c9714c60cf83919cb13980db904e5"
    ++ hex "2c0275bacce62bef2efaf4b91ecf1aa2 8ad992271cc2d2e4a36c0f6926c94f14 a18e037596a133c6115014ccff4bc58e"
    ++ hex "3e3452f1")
    (Err Flags)

-- a protected deauthentication
abbrev pub secret_management : Heard
secret_management =
    heard secret (hex "c0403a01 020000010600 020000000200 020000010600 a007 060000200000000064ca5b4a1568b369 ea43")
    (Err Flags)

-- a beacon of hostapd, as a network beside it hears it
abbrev pub beacon_of_another : Heard
beacon_of_another = heard ours slow_beacon.octets (Err Kind)

-- a unit to another network
abbrev pub unit_to_another : Heard
unit_to_another = record plain_data_to_a_host { bss = ours; hears = false; reads = Err Address }

-- a probe request for any network, at a second one
abbrev pub probe_request_at_another : Heard
probe_request_at_another = record probe_request_for_any { bss = ours }

abbrev pub of_linux_6_1 : List Heard
of_linux_6_1 =
    probe_request_for_any
    ∷ probe_request_for_plain
    ∷ probe_request_of_protected_setup
    ∷ plain_authentication
    ∷ plain_association_request
    ∷ plain_reassociation_request
    ∷ plain_disassociation
    ∷ plain_deauthentication
    ∷ plain_data_to_all
    ∷ plain_data_to_a_group
    ∷ plain_data_to_a_host
    ∷ plain_null_that_dozes
    ∷ plain_null_that_wakes
    ∷ plain_poll
    ∷ ours_authentication
    ∷ ours_association_request
    ∷ ours_reassociation_request
    ∷ ours_disassociation
    ∷ ours_deauthentication
    ∷ ours_data_to_all
    ∷ ours_data_to_a_group
    ∷ ours_data_to_a_host
    ∷ ours_null_that_dozes
    ∷ ours_null_that_wakes
    ∷ ours_poll
    ∷ first_fragment
    ∷ last_fragment
    ∷ fast_association_request
    ∷ fast_qos_data
    ∷ fast_qos_null
    ∷ action_of_category_3
    ∷ action_of_category_4
    ∷ action_of_category_5
    ∷ action_of_category_10
    ∷ secret_association_request
    ∷ secret_key_in_the_clear
    ∷ secret_data
    ∷ secret_management
    ∷ beacon_of_another
    ∷ unit_to_another
    ∷ probe_request_at_another ∷ []

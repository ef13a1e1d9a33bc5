-- Frames of unmodified Linux stations that were the same by both kernels, as another radio heard them: Linux
-- 6.1.0-50-amd64 of Debian 12 and Linux 6.12.117+deb13-amd64 of Debian 13, whose mac80211 made them, and
-- wpa_supplicant 2.10; recorded on 2026-11-28 by tools/guest/record-frames.
use Rattle.std.specs.Prelude.{true, false, [], ◌∷◌, ◌++◌, Ok, Err}
use Rattle.mac_frame.specs.Address.{broadcast}
use Rattle.mac_frame.specs.declared.frame.Unread.TheVariants.{Kind}
use Rattle.association.specs.Request.{Auth, Assoc, Disassoc, Deauth, Msdu, Null, Poll}
use Rattle.recorded_frames.specs.Names.{station, plain, plain_second, fast, secret}
use Rattle.recorded_frames.specs.Octets.{hex}
use Rattle.recorded_frames.specs.Heard.{Heard, heard}

-- a request to authenticate
abbrev pub plain_authentication : Heard
plain_authentication =
    heard plain (hex "b0003a01 020000010200 020000000200 020000010200 2000 0000 0100 0000") (Ok (Auth station 0 1))

-- a request to associate
abbrev pub plain_association_request : Heard
plain_association_request =
    heard plain
    (hex "00003a01 020000010200 020000000200 020000010200 3000"
    ++ hex "2104 0500 0005706c61696e 010802040b160c121824 32043048606c"
    ++ hex "7f0b04004a8201404040000120"  -- Extended Capabilities
    ++ hex "3b155151525354737475767778797a7b 7c7d7e7f808182")  -- Supported Operating Classes
    (Ok (Assoc station false 5
    ((0, hex "706c61696e")
    ∷ (1, hex "02040b160c121824")
    ∷ (50, hex "3048606c")
    ∷ (127, hex "04004a8201404040000120")
    ∷ (59, hex "5151525354737475767778797a7b7c7d 7e7f808182") ∷ [])))

-- a request to reassociate, of a station that roams
abbrev pub plain_reassociation_request : Heard
plain_reassociation_request =
    heard plain_second
    (hex "20003a01 020000010201 020000000200 020000010201 f003"
    ++ hex "2104 0500 020000010200 0005706c61696e 010802040b160c121824 32043048606c"
    ++ hex "7f0b04004a8201404040000120"  -- Extended Capabilities
    ++ hex "3b155151525354737475767778797a7b 7c7d7e7f808182")  -- Supported Operating Classes
    (Ok (Assoc station true 5
    ((0, hex "706c61696e")
    ∷ (1, hex "02040b160c121824")
    ∷ (50, hex "3048606c")
    ∷ (127, hex "04004a8201404040000120")
    ∷ (59, hex "5151525354737475767778797a7b7c7d 7e7f808182") ∷ [])))

-- the end of an association
abbrev pub plain_disassociation : Heard
plain_disassociation =
    heard plain_second (hex "a0003a01 020000010201 020000000200 020000010201 6004 0800") (Ok (Disassoc station))

-- the end of an authentication
abbrev pub plain_deauthentication : Heard
plain_deauthentication =
    heard plain_second (hex "c0003a01 020000010201 020000000200 020000010201 1004 0300") (Ok (Deauth station))

-- a unit for all: ARP
abbrev pub plain_data_to_all : Heard
plain_data_to_all =
    heard plain
    (hex "08010201 020000010200 020000000200 ffffffffffff e001"
    ++ hex "aaaa030000000806 00010800060400010200000002000a00 020b0000000000000a000201")
    (Ok (Msdu station false broadcast
    (hex "aaaa030000000806 00010800060400010200000002000a00 020b0000000000000a000201")))

-- a unit for a group: IPv6
abbrev pub plain_data_to_a_group : Heard
plain_data_to_a_group =
    heard plain
    (hex "08010201 020000010200 020000000200 333300000016 4000"
    ++ hex "aaaa0300000086dd 60000000002400010000000000000000 0000000000000000ff02000000000000"
    ++ hex "00000000000000163a00050200000100 8f006d8a0000000104000000ff020000 0000000000000001ff000200")
    (Ok (Msdu station false (hex "333300000016")
    (hex "aaaa0300000086dd 60000000002400010000000000000000 0000000000000000ff02000000000000"
    ++ hex "00000000000000163a00050200000100 8f006d8a0000000104000000ff020000 0000000000000001ff000200")))

-- a Null of one that is awake
abbrev pub plain_null_that_wakes : Heard
plain_null_that_wakes =
    heard plain (hex "48010201 020000010200 020000000200 020000010200 7000") (Ok (Null station false))

-- a poll for what is kept
abbrev pub plain_poll : Heard
plain_poll = heard plain (hex "a41001c0 020000010200 020000000200") (Ok (Poll station 1))

-- a request to associate, with HT, with Radio Measurement and with QoS
abbrev pub fast_association_request : Heard
fast_association_request =
    heard fast
    (hex "00003a01 020000010500 020000000200 020000010500 5006"
    ++ hex "2114 0500 000466617374 010802040b160c121824 32043048606c"
    ++ hex "21020014"  -- Power Capability
    ++ hex "2d1a7e101bffff000000000000000000 000100000000000000000000"  -- HT Capabilities
    ++ hex "7f0b04004a8201404040000120 46057000000000"  -- Extended Capabilities, RM Enabled Capabilities
    ++ hex "3b155151525354737475767778797a7b 7c7d7e7f808182"  -- Supported Operating Classes
    ++ hex "dd070050f202000100")  -- Vendor Specific
    (Ok (Assoc station false 5
    ((0, hex "66617374")
    ∷ (1, hex "02040b160c121824")
    ∷ (50, hex "3048606c")
    ∷ (33, hex "0014")
    ∷ (45, hex "7e101bffff0000000000000000000001 00000000000000000000")
    ∷ (127, hex "04004a8201404040000120")
    ∷ (70, hex "7000000000")
    ∷ (59, hex "5151525354737475767778797a7b7c7d 7e7f808182")
    ∷ (221, hex "0050f202000100") ∷ [])))

-- a unit with QoS
abbrev pub fast_qos_data : Heard
fast_qos_data =
    heard fast
    (hex "88010000 020000010500 020000000200 333300000016 0000"
    ++ hex "0000 aaaa0300000086dd 6000000000240001fe80000000000000 000000fffe000200ff02000000000000"
    ++ hex "00000000000000163a00050200000100 8f006e090000000104000000ff020000 0000000000000001ff000200")
    (Err Kind)

-- a QoS Null of a station that dozes
abbrev pub fast_qos_null : Heard
fast_qos_null = heard fast (hex "c8110000 020000010500 020000000200 020000010500 0000 0700") (Err Kind)

-- an action frame: Block Ack (9.4.1.11)
abbrev pub action_of_category_3 : Heard
action_of_category_3 =
    heard fast (hex "d0003a01 020000010500 020000000200 020000010500 6006 030001031000001000") (Err Kind)

-- an action frame: Radio Measurement
abbrev pub action_of_category_5 : Heard
action_of_category_5 = heard fast (hex "d0003a01 020000010500 020000000200 020000010500 8006 050401") (Err Kind)

-- an action frame: WNM
abbrev pub action_of_category_10 : Heard
action_of_category_10 = heard fast (hex "d0003a01 020000010500 020000000200 020000010500 9006 0a060101") (Err Kind)

-- a request to associate, with WPA2
abbrev pub secret_association_request : Heard
secret_association_request =
    heard secret
    (hex "00003a01 020000010600 020000000200 020000010600 2007"
    ++ hex "3104 0500 0006736563726574 010802040b160c121824 32043048606c"
    ++ hex "301a0100000fac040100000fac040100 000fac06c0000000000fac06"  -- RSN
    ++ hex "7f0b04004a8201404040000120"  -- Extended Capabilities
    ++ hex "3b155151525354737475767778797a7b 7c7d7e7f808182")  -- Supported Operating Classes
    (Ok (Assoc station false 5
    ((0, hex "736563726574")
    ∷ (1, hex "02040b160c121824")
    ∷ (50, hex "3048606c")
    ∷ (48, hex "0100000fac040100000fac040100000f ac06c0000000000fac06")
    ∷ (127, hex "04004a8201404040000120")
    ∷ (59, hex "5151525354737475767778797a7b7c7d 7e7f808182") ∷ [])))

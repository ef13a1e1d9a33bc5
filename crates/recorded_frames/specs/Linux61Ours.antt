-- Frames of unmodified Linux stations to a network of this project, as another radio heard them: Linux 6.1.0-50-amd64 of
-- Debian 12, whose mac80211 made them, and wpa_supplicant 2.10; recorded on 2026-11-28 by tools/guest/record-frames.
use Rattle.std.specs.Prelude.{true, false, [], ◌∷◌, ◌++◌, Ok}
use Rattle.mac_frame.specs.Address.{broadcast}
use Rattle.association.specs.Request.{Auth, Assoc, Disassoc, Deauth, Msdu, Null, Poll}
use Rattle.recorded_frames.specs.Names.{other_station, ours, ours_second}
use Rattle.recorded_frames.specs.Octets.{hex}
use Rattle.recorded_frames.specs.Heard.{Heard, heard}

-- a request to authenticate (ours)
abbrev pub ours_authentication : Heard
ours_authentication =
    heard ours (hex "b0003a01 020000000101 020000000300 020000000101 2000 0000 0100 0000") (Ok (Auth other_station 0 1))

-- a request to associate (ours)
abbrev pub ours_association_request : Heard
ours_association_request =
    heard ours
    (hex "00003a01 020000000101 020000000300 020000000101 3000"
    ++ hex "2104 0500 00046f757273 010802040b160c121824 32043048606c"
    ++ hex "7f0b04004a8201404040000120"  -- Extended Capabilities
    ++ hex "3b155151525354737475767778797a7b 7c7d7e7f808182")  -- Supported Operating Classes
    (Ok (Assoc other_station false 5
    ((0, hex "6f757273")
    ∷ (1, hex "02040b160c121824")
    ∷ (50, hex "3048606c")
    ∷ (127, hex "04004a8201404040000120")
    ∷ (59, hex "5151525354737475767778797a7b7c7d 7e7f808182") ∷ [])))

-- a request to reassociate, of a station that roams (ours)
abbrev pub ours_reassociation_request : Heard
ours_reassociation_request =
    heard ours_second
    (hex "20003a01 020000000102 020000000300 020000000102 b002"
    ++ hex "2104 0500 020000000101 00046f757273 010802040b160c121824 32043048606c"
    ++ hex "7f0b04004a8201404040000120"  -- Extended Capabilities
    ++ hex "3b155151525354737475767778797a7b 7c7d7e7f808182")  -- Supported Operating Classes
    (Ok (Assoc other_station true 5
    ((0, hex "6f757273")
    ∷ (1, hex "02040b160c121824")
    ∷ (50, hex "3048606c")
    ∷ (127, hex "04004a8201404040000120")
    ∷ (59, hex "5151525354737475767778797a7b7c7d 7e7f808182") ∷ [])))

-- the end of an association (ours)
abbrev pub ours_disassociation : Heard
ours_disassociation =
    heard ours_second (hex "a0003a01 020000000102 020000000300 020000000102 2003 0800") (Ok (Disassoc other_station))

-- the end of an authentication (ours)
abbrev pub ours_deauthentication : Heard
ours_deauthentication =
    heard ours_second (hex "c0003a01 020000000102 020000000300 020000000102 d002 0300") (Ok (Deauth other_station))

-- a unit for all: ARP (ours)
abbrev pub ours_data_to_all : Heard
ours_data_to_all =
    heard ours
    (hex "08016800 020000000101 020000000300 ffffffffffff 6000"
    ++ hex "aaaa030000000806 00010800060400010200000003000a00 010b0000000000000a000101")
    (Ok (Msdu other_station false broadcast
    (hex "aaaa030000000806 00010800060400010200000003000a00 010b0000000000000a000101")))

-- a unit for a group: IPv6 (ours)
abbrev pub ours_data_to_a_group : Heard
ours_data_to_a_group =
    heard ours
    (hex "08010201 020000000101 020000000300 333300000016 4000"
    ++ hex "aaaa0300000086dd 60000000002400010000000000000000 0000000000000000ff02000000000000"
    ++ hex "00000000000000163a00050200000100 8f006c8a0000000104000000ff020000 0000000000000001ff000300")
    (Ok (Msdu other_station false (hex "333300000016")
    (hex "aaaa0300000086dd 60000000002400010000000000000000 0000000000000000ff02000000000000"
    ++ hex "00000000000000163a00050200000100 8f006c8a0000000104000000ff020000 0000000000000001ff000300")))

-- a unit for a host: IPv4 (ours)
abbrev pub ours_data_to_a_host : Heard
ours_data_to_a_host =
    heard ours
    (hex "08016800 020000000101 020000000300 f23c73bab936 7000"
    ++ hex "aaaa030000000800 45000024ac7c4000400178510a00010b 0a0001010800ea3c01b2000100010203 04050607")
    (Ok (Msdu other_station false (hex "f23c73bab936")
    (hex "aaaa030000000800 45000024ac7c4000400178510a00010b 0a0001010800ea3c01b2000100010203 04050607")))

-- a Null of a station that dozes from now on (ours)
abbrev pub ours_null_that_dozes : Heard
ours_null_that_dozes =
    heard ours (hex "48116800 020000000101 020000000300 020000000101 a000") (Ok (Null other_station true))

-- a Null of one that is awake (ours)
abbrev pub ours_null_that_wakes : Heard
ours_null_that_wakes =
    heard ours (hex "48016800 020000000101 020000000300 020000000101 1001") (Ok (Null other_station false))

-- a poll for what is kept (ours)
abbrev pub ours_poll : Heard
ours_poll = heard ours (hex "a41001c0 020000000101 020000000300") (Ok (Poll other_station 1))

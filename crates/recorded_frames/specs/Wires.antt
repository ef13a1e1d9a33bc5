-- Frames on the wire of a host and on the air beside it, where the kernel of hostapd's machine carried them from one
-- to the other: Linux 6.1.0-50-amd64 of Debian 12; recorded on 2026-11-28 by tools/guest/record-frames.
use Rattle.std.specs.Prelude.{false, List, [], ◌∷◌, ◌++◌, Ok}
use Rattle.mac_frame.specs.Address.{broadcast}
use Rattle.encapsulation.specs.declared.ethernet.Kind.TheVariants.{Typed, Sized}
use Rattle.recorded_frames.specs.Names.{station, plain, duration_at}
use Rattle.recorded_frames.specs.Crossed.{Wired, ToWire, ToAir}
use Rattle.recorded_frames.specs.Octets.{hex}

-- ARP, to all
abbrev pub wired_arp_to_all : Wired
wired_arp_to_all = record {
  octets = hex "ffffffffffff 020000000200 0806 00010800060400010200000002000a00 020b0000000000000a000201";
  reads = Ok (record {
    to = broadcast;
    source = station;
    kind = Typed 0x0806;
    payload = hex "00010800060400010200000002000a00 020b0000000000000a000201";
  });
}

-- ARP, to one
abbrev pub wired_arp : Wired
wired_arp = record {
  octets = hex "020000000200 7618569cc9f8 0806 00010800060400027618569cc9f80a00 02010200000002000a00020b";
  reads = Ok (record {
    to = station;
    source = hex "7618569cc9f8";
    kind = Typed 0x0806;
    payload = hex "00010800060400027618569cc9f80a00 02010200000002000a00020b";
  });
}

-- IPv4
abbrev pub wired_ip : Wired
wired_ip = record {
  octets =
      hex "7618569cc9f8 020000000200 0800 45000024116f40004001115f0a00020b 0a0002010800eadf010f000100010203 04050607";
  reads = Ok (record {
    to = hex "7618569cc9f8";
    source = station;
    kind = Typed 0x0800;
    payload = hex "45000024116f40004001115f0a00020b 0a0002010800eadf010f000100010203 04050607";
  });
}

-- IPv6, to a group
abbrev pub wired_ipv6_to_a_group : Wired
wired_ipv6_to_a_group = record {
  octets =
      hex "333300000016 7618569cc9f8 86dd"
      ++ hex "60000000002400010000000000000000 0000000000000000ff02000000000000 00000000000000163a00050200000100"
      ++ hex "8f00a4f50000000104000000ff020000 0000000000000001ff9cc9f8";
  reads = Ok (record {
    to = hex "333300000016";
    source = hex "7618569cc9f8";
    kind = Typed 0x86dd;
    payload =
        hex "60000000002400010000000000000000 0000000000000000ff02000000000000 00000000000000163a00050200000100"
        ++ hex "8f00a4f50000000104000000ff020000 0000000000000001ff9cc9f8";
  });
}

-- of the Spanning Tree Protocol, with a length in place of a type
abbrev pub wired_spanning_tree : Wired
wired_spanning_tree = record {
  octets =
      hex "0180c2000000 66b3fcace7da 0026"
      ++ hex "42420300000000008000020000010200 00000000800002000001020080010000 140002000200";
  reads = Ok (record {
    to = hex "0180c2000000";
    source = hex "66b3fcace7da";
    kind = Sized;
    payload = hex "42420300000000008000020000010200 00000000800002000001020080010000 140002000200";
  });
}

-- with a VLAN's tag
abbrev pub wired_with_a_tag : Wired
wired_with_a_tag = record {
  octets =
      hex "333300000016 7618569cc9f8 8100"
      ++ hex "000786dd600000000024000100000000 000000000000000000000000ff020000 0000000000000000000000163a000502"
      ++ hex "000001008f00a4f50000000104000000 ff0200000000000000000001ff9cc9f8";
  reads = Ok (record {
    to = hex "333300000016";
    source = hex "7618569cc9f8";
    kind = Typed 0x8100;
    payload =
        hex "000786dd600000000024000100000000 000000000000000000000000ff020000 0000000000000000000000163a000502"
        ++ hex "000001008f00a4f50000000104000000 ff0200000000000000000001ff9cc9f8";
  });
}

-- IPv4
abbrev pub ip_to_wire : ToWire
ip_to_wire = record {
  bss = plain;
  air =
      hex "08016800 020000010200 020000000200 7618569cc9f8 f001"
      ++ hex "aaaa030000000800 45000024116f40004001115f0a00020b 0a0002010800eadf010f000100010203 04050607";
  source = station;
  doze = false;
  to = hex "7618569cc9f8";
  body = hex "aaaa030000000800 45000024116f40004001115f0a00020b 0a0002010800eadf010f000100010203 04050607";
  wire =
      hex "7618569cc9f8 020000000200 0800 45000024116f40004001115f0a00020b 0a0002010800eadf010f000100010203 04050607";
}

-- IPv4
abbrev pub ip_to_air : ToAir
ip_to_air = record {
  bss = plain;
  wire =
      hex "020000000200 7618569cc9f8 0800 45000024e30d000040017fc00a000201 0a00020b0000f2df010f000100010203 04050607";
  frame = record {
    to = station;
    source = hex "7618569cc9f8";
    kind = Typed 0x0800;
    payload = hex "45000024e30d000040017fc00a000201 0a00020b0000f2df010f000100010203 04050607";
  };
  sequence = 24;
  more = false;
  air =
      hex "08020000 020000000200 020000010200 7618569cc9f8 8001"
      ++ hex "aaaa030000000800 45000024e30d000040017fc00a000201 0a00020b0000f2df010f000100010203 04050607";
  duration = (duration_at, hex "0000");
}

-- ARP
abbrev pub arp_to_wire : ToWire
arp_to_wire = record {
  bss = plain;
  air =
      hex "08016800 020000010200 020000000200 7618569cc9f8 6002"
      ++ hex "aaaa030000000806 00010800060400020200000002000a00 020b7618569cc9f80a000201";
  source = station;
  doze = false;
  to = hex "7618569cc9f8";
  body = hex "aaaa030000000806 00010800060400020200000002000a00 020b7618569cc9f80a000201";
  wire = hex "7618569cc9f8 020000000200 0806 00010800060400020200000002000a00 020b7618569cc9f80a000201";
}

-- ARP
abbrev pub arp_to_air : ToAir
arp_to_air = record {
  bss = plain;
  wire = hex "020000000200 7618569cc9f8 0806 00010800060400027618569cc9f80a00 02010200000002000a00020b";
  frame = record {
    to = station;
    source = hex "7618569cc9f8";
    kind = Typed 0x0806;
    payload = hex "00010800060400027618569cc9f80a00 02010200000002000a00020b";
  };
  sequence = 23;
  more = false;
  air =
      hex "08020000 020000000200 020000010200 7618569cc9f8 7001"
      ++ hex "aaaa030000000806 00010800060400027618569cc9f80a00 02010200000002000a00020b";
  duration = (duration_at, hex "0000");
}

-- AARP, which IEEE Std 802.1H has another header for
abbrev pub appletalk_to_air : ToAir
appletalk_to_air = record {
  bss = plain;
  wire = hex "020000000200 7618569cc9f8 80f3 000102030405060708090a0b0c0d0e0f 101112131415161718191a1b";
  frame = record {
    to = station;
    source = hex "7618569cc9f8";
    kind = Typed 0x80f3;
    payload = hex "000102030405060708090a0b0c0d0e0f 101112131415161718191a1b";
  };
  sequence = 86;
  more = false;
  air =
      hex "08020000 020000000200 020000010200 7618569cc9f8 6005"
      ++ hex "aaaa0300000080f3 000102030405060708090a0b0c0d0e0f 101112131415161718191a1b";
  duration = (duration_at, hex "0000");
}

-- with a length in place of a type
abbrev pub length_to_wire : ToWire
length_to_wire = record {
  bss = plain;
  air = hex "08016800 020000010200 020000000200 7618569cc9f8 5005 424203010203";
  source = station;
  doze = false;
  to = hex "7618569cc9f8";
  body = hex "424203010203";
  wire = hex "7618569cc9f8 020000000200 0006 424203010203";
}

-- with a length in place of a type
abbrev pub length_to_air : ToAir
length_to_air = record {
  bss = plain;
  wire = hex "020000000200 7618569cc9f8 0006 424203010203";
  frame = record {
    to = station;
    source = hex "7618569cc9f8";
    kind = Sized;
    payload = hex "424203010203";
  };
  sequence = 88;
  more = false;
  air = hex "08026800 020000000200 020000010200 7618569cc9f8 8005 424203010203";
  duration = (duration_at, hex "6800");
}

-- AARP by a station: its kernel takes the header of IEEE Std 802.1H, which hostapd's kernel takes off again, so that the
-- type stands on the wire
abbrev pub appletalk_to_wire : ToWire
appletalk_to_wire = record {
  bss = plain;
  air =
      hex "08016800 020000010200 020000000200 7618569cc9f8 4005"
      ++ hex "aaaa030000f880f3 000102030405060708090a0b0c0d0e0f 101112131415161718191a1b";
  source = station;
  doze = false;
  to = hex "7618569cc9f8";
  body = hex "aaaa030000f880f3 000102030405060708090a0b0c0d0e0f 101112131415161718191a1b";
  wire = hex "7618569cc9f8 020000000200 80f3 000102030405060708090a0b0c0d0e0f 101112131415161718191a1b";
}

abbrev pub wired : List Wired
wired = wired_arp_to_all ∷ wired_arp ∷ wired_ip ∷ wired_ipv6_to_a_group ∷ wired_spanning_tree ∷ wired_with_a_tag ∷ []

abbrev pub to_wire : List ToWire
to_wire = ip_to_wire ∷ arp_to_wire ∷ length_to_wire ∷ []

abbrev pub to_air : List ToAir
to_air = ip_to_air ∷ arp_to_air ∷ appletalk_to_air ∷ length_to_air ∷ []

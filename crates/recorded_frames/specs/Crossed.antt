-- Frames that were on a wire, and units that crossed between air and wire at hostapd's network.
use Rattle.std.specs.Prelude.{ℕ, ◌≡◌, Bool, false, List, ◌++◌, length, Result, Ok, Some}
use Rattle.std.specs.Int.{w16, to_be_bytes}
use Rattle.std.specs.Str.{bytes_eq}
use Rattle.mac_frame.specs.Data.{data_header}
use Rattle.mac_frame.specs.declared.frame.Unread.{Unread}
use Rattle.association.specs.Request.{Msdu, request_of}
use Rattle.encapsulation.specs.Ethernet.{Ethernet, ethernet_of}
use Rattle.encapsulation.specs.Encapsulation.{on_air, on_wire}
use Rattle.recorded_frames.specs.Octets.{AreOctets}
use Rattle.recorded_frames.specs.Sent.{put}

-- An Ethernet frame, with spaces between the fields: destination, source, Length/Type, and what follows by 16 octets.
pub record Wired : Type 0 where
  pub octets : List ℕ
  -- the frame that it is, or the first fault
  pub reads : Result Ethernet Unread

abbrev pub IsEthernetSo : Wired → Type 0
IsEthernetSo w = AreOctets w.octets × (ethernet_of w.octets ≡ w.reads)

-- a unit from a station: how it was heard, and how the kernel of hostapd's machine put it on the wire
pub record ToWire : Type 0 where
  pub bss : List ℕ
  pub air : List ℕ
  pub source : List ℕ
  pub doze : Bool
  pub to : List ℕ
  pub body : List ℕ
  pub wire : List ℕ

-- the frame is read as this unit, and its wired form is that of the kernel
abbrev pub CrossesToWire : ToWire → Type 0
CrossesToWire u =
    AreOctets u.air × AreOctets u.wire
    × (request_of u.bss u.air ≡ Ok (Msdu u.source u.doze u.to u.body))
    × (on_wire u.to u.source u.body ≡ Some u.wire)

-- the frame is read as this unit, and its wired form isn't that of the kernel: the whole body, after its length
abbrev pub StaysWhole : ToWire → Type 0
StaysWhole u =
    AreOctets u.air × AreOctets u.wire
    × (request_of u.bss u.air ≡ Ok (Msdu u.source u.doze u.to u.body))
    × (on_wire u.to u.source u.body ≡ Some (u.to ++ u.source ++ to_be_bytes w16 (length u.body) ++ u.body))
    × (bytes_eq (u.to ++ u.source ++ to_be_bytes w16 (length u.body) ++ u.body) u.wire ≡ false)

-- a unit from the wire: how it came, and how the kernel put it on the air
pub record ToAir : Type 0 where
  pub bss : List ℕ
  pub wire : List ℕ
  pub frame : Ethernet
  pub sequence : ℕ
  pub more : Bool
  pub air : List ℕ
  -- where Duration begins, and what the kernel writes there
  pub duration : ℕ × List ℕ

-- the wired frame is read so, and the frame that the definitions give is that of the kernel but for Duration
abbrev pub CrossesToAir : ToAir → Type 0
CrossesToAir u =
    AreOctets u.wire × AreOctets u.air
    × (ethernet_of u.wire ≡ Ok u.frame)
    × (put u.duration (data_header u.frame.to u.bss u.frame.source u.sequence u.more ++ on_air u.frame) ≡ u.air)

-- What the management frames of this crate share (IEEE Std 802.11-2016, 9.3.3): the fields of a body that is read, and
-- a frame that is sent, whole.
use Rattle.std.specs.Prelude.{ℕ, nat_lt, List, ◌++◌, length, take, drop, Result, Err, if◌then◌else◌}
use Rattle.std.specs.Int.{w16, from_le_bytes}
use Rattle.mac_frame.specs.Management.{management_header}
use Rattle.mac_frame.specs.declared.frame.Unread.{Unread}
use Rattle.mac_frame.specs.declared.frame.Unread.TheVariants.{Body}

-- ---- read

-- the number of the two octets at a place, the low octet first (9.2.2)
abbrev pub number_at : List ℕ → ℕ → ℕ
number_at body place = from_le_bytes w16 (take 2 (drop place body))

-- what is read of a body that begins with fixed fields of this length; any shorter one is a fault
abbrev pub with_fixed : {A : Type 0} → ℕ → List ℕ → Result A Unread → Result A Unread
with_fixed fixed body read = if nat_lt (length body) fixed then Err Body else read

-- ---- sent

-- a management frame of this subtype and body to a receiver, from a network
abbrev pub management_frame : (subtype : ℕ) (to bss : List ℕ) (sequence : ℕ) (body : List ℕ) → List ℕ
management_frame subtype to bss sequence body = management_header subtype to bss sequence ++ body

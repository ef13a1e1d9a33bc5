-- The frames that are read (IEEE Std 802.11-2016, 9.2.3, 9.2.4 and 9.3): which string of octets is which frame for a
-- network, and the first fault of a string that is none.
use Rattle.std.specs.Prelude.{ℕ, Bool, not, nat_lt, ◌==◌, ◌&&◌, ◌||◌, List, length, Result, Err, if◌then◌else◌}
use Rattle.mac_frame.specs.FrameControl.{is_control}
use Rattle.mac_frame.specs.Header.{control_at}
use Rattle.mac_frame.specs.Management.{IsMgmt, is_management_read, management_of}
use Rattle.mac_frame.specs.Data.{IsMsdu, IsNull, is_data_read, data_of}
use Rattle.mac_frame.specs.PsPoll.{IsPsPoll, is_ps_poll_read, ps_poll_of}
pub use Rattle.mac_frame.specs.Rx.{Frame, Mgmt, Msdu, Null, Poll, shown}
use Rattle.mac_frame.specs.declared.frame.Unread.{Unread}
use Rattle.mac_frame.specs.declared.frame.Unread.TheVariants.{Short, Version, Kind}

-- The string is this frame for the network. What nothing above tests is ignored.
abbrev pub IsFrame : List ℕ → List ℕ → Frame → Type 0
IsFrame bss x (Mgmt subtype from to_all body) = IsMgmt bss x subtype from to_all body
IsFrame bss x (Msdu from doze to body) = IsMsdu bss x from doze to body
IsFrame bss x (Null from doze) = IsNull bss x from doze
IsFrame bss x (Poll from aid) = IsPsPoll bss x from aid

-- too short for a header: 16 octets in a control frame, 24 in any other
abbrev pub is_short : List ℕ → Bool
is_short x = nat_lt (length x) 16 || (nat_lt (length x) 24 && not (is_control (control_at x).kind))

-- the frame that a string is for the network, or its first fault
abbrev pub frame_of : List ℕ → List ℕ → Result Frame Unread
frame_of bss x =
    if is_short x then Err Short
    else if not ((control_at x).version == 0) then Err Version
    else if is_management_read (control_at x) then management_of bss x
    else if is_data_read (control_at x) then data_of bss x
    else if is_ps_poll_read (control_at x) then ps_poll_of bss x
    else Err Kind

-- What the memory behind a handle holds.
use Rattle.std.specs.Prelude.{ℕ, Bool, true, false}
use base.Fml.{Fml}
use base.Fraction.{full_share}
use denote.Memory.{lone}
use denote.RawPtr.{Ptr, lies_at, room_at}
use prog.Memory.{size}
use Rattle.downlink.specs.Radios.{Radio}
use Rattle.downlink.specs.contracts.radio_queue.RadioQueue.{the_row}

-- a radio, or room for one
abbrev pub radio_owns : (is_made : Bool) → Ptr → Radio → Fml
radio_owns true at radio = lies_at the_row full_share at radio
radio_owns false at radio = room_at the_row at

-- how many octets a radio takes, but for what it allocates
abbrev pub radio_size : ℕ
radio_size = size (lone the_row.mir)

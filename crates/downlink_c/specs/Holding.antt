-- What a call leaves of a handle.
use Rattle.std.specs.Prelude.{◌≡◌}
use Rattle.std.specs.Borrow.{Fml, MutBor, Lends}
use Rattle.downlink.specs.Radios.{Radio}
use Rattle.downlink.specs.contracts.radio_queue.RadioQueue.{the_row as radio_row}
use Rattle.downlink_c.specs.contracts.handle.RadioHandle.{the_row as handle_row}
use Rattle.downlink_c.specs.declared.handle.RadioHandle.{RadioHandle}

-- a handle with this radio
abbrev pub with_radio : RadioHandle → Radio → RadioHandle
with_radio handle radio = record handle { radio = radio }

-- nothing of a handle changes but its radio
abbrev pub IsSameHandle : (old new : RadioHandle) → Type 0
IsSameHandle old new = new ≡ with_radio old new.radio

-- a handle ends with the radio that was last written
abbrev pub LendsRadio : MutBor RadioHandle → MutBor Radio → Fml
LendsRadio handle radio = Lends handle_row radio_row handle radio (with_radio handle.now)

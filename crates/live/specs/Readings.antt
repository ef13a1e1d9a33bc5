-- What was read of a line or a record.
use Rattle.std.specs.Prelude.{◌≡◌, None, Ok}
use Rattle.events.specs.LentEvents.{line_of}
use Rattle.live_rules.specs.Asked.{Asked, ForTables, Says, brings, has_fault}
use Rattle.live.specs.declared.reading.Reading.{Reading}
use Rattle.live.specs.declared.reading.Reading.TheVariants as reading

-- what was read is this
abbrev pub IsReading : Reading → Asked → Type 0
IsReading reading.Nothing asked = asked ≡ Says (Ok None)
IsReading (reading.Line lent) asked = asked ≡ brings (line_of lent)
IsReading reading.Tables asked = asked ≡ ForTables
IsReading (reading.Fault fault) asked = asked ≡ has_fault fault

-- Events and lines whose octets are lent.
use Rattle.events.specs.declared.event.Event.{Event}
use Rattle.events.specs.declared.event.Event.TheVariants as event
use Rattle.events.specs.declared.event.LentEvent.{LentEvent}
use Rattle.events.specs.declared.event.LentEvent.TheVariants as lent
use Rattle.events.specs.declared.line.Line.{Line}
use Rattle.events.specs.declared.line.Line.TheVariants as line
use Rattle.events.specs.declared.line.LentLine.{LentLine}
use Rattle.events.specs.declared.line.LentLine.TheVariants as lent_line

-- the event by itself
abbrev pub event_of : LentEvent → Event
event_of (lent.Air octets) = event.Air octets.now
event_of (lent.Wire octets) = event.Wire octets.now
event_of lent.Tick = event.Tick

-- the line by itself
abbrev pub line_of : LentLine → Line
line_of (lent_line.Air octets) = line.Air octets.now
line_of (lent_line.Wire place octets) = line.Wire place octets.now
line_of lent_line.Tick = line.Tick

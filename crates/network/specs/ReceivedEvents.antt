-- Events as they come to networks, with what of them was read before.
use Rattle.events.specs.declared.event.Event.{Event}
use Rattle.events.specs.declared.event.Event.TheVariants as event
use Rattle.network.specs.declared.received_event.ReceivedEvent.{ReceivedEvent}
use Rattle.network.specs.declared.received_event.ReceivedEvent.TheVariants as received

-- the event by itself
abbrev pub event_received : ReceivedEvent → Event
event_received (received.Air frame) = event.Air frame
event_received (received.Wire octets) = event.Wire octets.now
event_received received.Tick = event.Tick

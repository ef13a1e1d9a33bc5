use Rattle.std.proofs.Common.{◌≡◌, map, take}
use Rattle.play.specs.Kept.{event_given}
use Rattle.play.specs.Sources.{lists_of}
use Rattle.play.proofs.ending.events_of.Given as goal

abbrev pub invariant-loop-by : goal.invariant-loop-by
invariant-loop-by l = l.events.items ≡ map (event_given (lists_of l.sources)) (take l.by-index l.given)

-- Units, without where their octets lie in memory (profile).
use Rattle.std.specs.Prelude.{ℕ, List}
use Rattle.encapsulation.specs.Ethernet.{shown}
use Rattle.encapsulation.specs.Encapsulation.{on_air}
use Rattle.powersave.specs.declared.unit.Unit.{Unit as DataUnit}
use Rattle.network.specs.Units.{unit}
use Rattle.network.specs.declared.reply.unit.Arrival.{Arrival}
use Rattle.network.specs.declared.reply.unit.Body.{Body}
use Rattle.network.specs.declared.reply.unit.Body.TheVariants.{Plain, Wired}

abbrev pub body_octets : Body → List ℕ
body_octets (Plain octets) = octets.now
body_octets (Wired ether) = on_air (shown ether)

abbrev pub unit_shown : Arrival → DataUnit
unit_shown a = unit a.at a.to a.source (body_octets a.body)

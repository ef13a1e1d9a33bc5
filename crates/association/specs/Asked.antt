-- A request that was read (IEEE Std 802.11-2016, 9.3), without where its octets lie in memory, and its class (11.3.3).
use Rattle.std.specs.Prelude.{option_map}
use Rattle.station_state.specs.declared.class.Class.{Class}
use Rattle.station_state.specs.declared.class.Class.TheVariants.{One, Two, Three}
use Rattle.association.specs.Request.{Request, Probe, Auth, Assoc, Disassoc, Deauth, Msdu, Null, Poll}
use Rattle.association.specs.declared.request.Request.{Request as Asked}
use Rattle.association.specs.declared.request.Request.TheVariants as asked

abbrev pub shown : Asked → Request
shown (asked.Probe from ssid) = Probe from (option_map (λ s. s.now) ssid)
shown (asked.Auth from algorithm step) = Auth from algorithm step
shown (asked.Assoc from again listen elements) = Assoc from again listen elements
shown (asked.Disassoc from) = Disassoc from
shown (asked.Deauth from) = Deauth from
shown (asked.Msdu from doze to body) = Msdu from doze to body.now
shown (asked.Null from doze) = Null from doze
shown (asked.Poll from aid) = Poll from aid

-- the class of its frame (11.3.3)
abbrev pub class_of : Request → Class
class_of (Probe from ssid) = One
class_of (Auth from algorithm step) = One
class_of (Assoc from again listen elements) = Two
class_of (Disassoc from) = Two
class_of (Deauth from) = One
class_of (Msdu from doze to body) = Three
class_of (Null from doze) = Three
class_of (Poll from aid) = Three

-- Broadcast probe requests (IEEE Std 802.11-2016, 9.3.3.10, 11.1.4.3): to all stations and for any network, so that one
-- is the same request for each network but that of its own sender.
use Rattle.std.specs.Prelude.{List, ℕ, Option, Some, None, option_map}
use Rattle.mac_frame.specs.Address.{broadcast}
use Rattle.association.specs.Request.{Request, Probe, IsRequest}
use Rattle.association.specs.declared.received.BroadcastProbe.{BroadcastProbe}

-- the request that it is
abbrev pub probe_shown : BroadcastProbe → Request
probe_shown p = Probe p.from (option_map (λ s. s.now) p.ssid)

-- the string is this broadcast probe request, where one was read: the request of a network with the wildcard BSSID
abbrev pub IsReadOf : List ℕ → Option BroadcastProbe → Type 0
IsReadOf x None = Unit {0}
IsReadOf x (Some p) = IsRequest broadcast x (probe_shown p)

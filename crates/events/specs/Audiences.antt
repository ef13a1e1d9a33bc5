-- To which networks a line is an event, as it is read from the line once for all of them.
use Rattle.std.specs.Prelude.{◌≡◌, ◌==◌, ℕ, Bool, true, false, List, Some, None, if◌then◌else◌}
use Rattle.std.specs.Str.{bytes_eq}
use Rattle.events.specs.Lines.{event_for, event_of_line}
use Rattle.events.specs.declared.line.Line.{Line}
use Rattle.events.specs.declared.audience.Audience.{Audience}
use Rattle.events.specs.declared.audience.Audience.TheVariants as audience

-- whether the network with this place and this BSSID is one of them
abbrev pub is_in : Audience → ℕ → List ℕ → Bool
is_in audience.Nobody place bssid = false
is_in audience.All place bssid = true
is_in (audience.Addressed to) place bssid = bytes_eq to bssid
is_in (audience.At named) place bssid = named == place

-- a line is an event to the networks of this audience, and to no other
abbrev pub IsAudience : Audience → Line → Type 0
IsAudience a said = (place : ℕ) (bssid : List ℕ)
    → event_for place bssid said ≡ (if is_in a place bssid then Some (event_of_line said) else None)

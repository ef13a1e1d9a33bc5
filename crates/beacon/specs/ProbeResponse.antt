-- What a network announces of itself in a probe response (IEEE Std 802.11-2016, 9.3.3.11), octet by octet.
use Rattle.std.specs.Prelude.{ℕ, List, ◌++◌}
use Rattle.mac_frame.specs.Management.{probe_response_subtype, management_header}
use Rattle.elements.specs.Rates.{extended_rates}
pub use Rattle.beacon.specs.Advert.{Announced, announced}
unfoldable pub use Rattle.beacon.specs.Advert.{timestamp, fixed_fields, network_elements}

-- the elements of a probe response (9.3.3.11), in the order of their numbers there
abbrev pub response_elements : Announced → List ℕ
response_elements a = network_elements a ++ extended_rates a.rates

-- the body of a probe response (9.3.3.11), its elements in the order of their numbers there
abbrev pub probe_response_body : Announced → List ℕ
probe_response_body a = fixed_fields a ++ network_elements a ++ extended_rates a.rates

-- a probe response to a station
abbrev pub probe_response : Announced → List ℕ → ℕ → List ℕ
probe_response a to sequence =
    management_header probe_response_subtype to a.bss sequence ++ probe_response_body a

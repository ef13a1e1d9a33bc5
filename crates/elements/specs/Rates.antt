-- Rates, in two elements (IEEE Std 802.11-2016, 9.4.2.3 and 9.4.2.13): those of a network, and those that a body has. A
-- rate is an octet: units of 500 kb/s in bits 0 to 6, and in bit 7 whether it is a basic rate.
use Rattle.std.specs.Prelude.{ℕ, ◌%◌, Bool, false, nat_le, ◌==◌, ◌||◌, List, [], ◌∷◌, ◌++◌, take, drop, Option, Some}
use Rattle.std.specs.Prelude.{None}
use Rattle.std.specs.List.{list_any}
use Rattle.elements.specs.Elements.{Pair, first_of, element, supported_rates_id, extended_supported_rates_id}

-- ---- one rate

-- bit 7 is 1: each station of the network has to have the rate
abbrev pub is_basic : ℕ → Bool
is_basic rate = nat_le 128 rate

-- the rate in units of 500 kb/s, basic or not
abbrev pub units_of : ℕ → ℕ
units_of rate = rate % 128

-- ---- the rates of a network

-- Supported Rates: the first eight
abbrev pub supported_rates : List ℕ → List ℕ
supported_rates rates = element supported_rates_id (take 8 rates)

-- Extended Supported Rates, where there is a rate for it
abbrev pub element_if_any : List ℕ → List ℕ
element_if_any [] = []
element_if_any (rate ∷ rates) = element extended_supported_rates_id (rate ∷ rates)

-- Extended Supported Rates: the rest, if there is any
abbrev pub extended_rates : List ℕ → List ℕ
extended_rates rates = element_if_any (drop 8 rates)

-- all rates of a network
abbrev pub rates_of : List ℕ → List ℕ
rates_of rates = supported_rates rates ++ extended_rates rates

-- ---- the rates of a body

-- the rate is among these, basic or not
abbrev pub is_rate_among : ℕ → List ℕ → Bool
is_rate_among rate rates = list_any (λ other. units_of other == units_of rate) rates

-- the rate is among those of an element, where there is one
abbrev pub is_in_element : ℕ → Option (List ℕ) → Bool
is_in_element rate None = false
is_in_element rate (Some rates) = is_rate_among rate rates

-- a station has a rate: the first Supported Rates of its body has it, or the first Extended Supported Rates has (which
-- of several counts is profile)
abbrev pub has_rate : ℕ → List Pair → Bool
has_rate rate es =
    is_in_element rate (first_of supported_rates_id es) || is_in_element rate (first_of extended_supported_rates_id es)

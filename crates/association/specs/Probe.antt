-- Probe requests (IEEE Std 802.11-2016, 9.3.3.10): what the body of one says.
use Rattle.std.specs.Prelude.{ℕ, ◌≡◌, List, Option, Some, None, Result, Ok, Err}
use Rattle.mac_frame.specs.declared.frame.Unread.{Unread}
use Rattle.mac_frame.specs.declared.frame.Unread.TheVariants.{Body}
use Rattle.elements.specs.Elements.{Pair, IsElements, first_of, elements_of, ssid_id}

-- ---- as a relation

-- it is elements, of which the first SSID counts, if there is one
pub record IsProbeBody (body : List ℕ) (ssid : Option (List ℕ)) : Type 0 where
  pub elements : List Pair
  pub are_elements : IsElements body elements
  pub names : ssid ≡ first_of ssid_id elements

-- ---- as a function

-- the SSID that these elements name, if a body has elements
abbrev pub ssid_in : Option (List Pair) → Result (Option (List ℕ)) Unread
ssid_in (Some es) = Ok (first_of ssid_id es)
ssid_in None = Err Body

-- the SSID that a body names, or its fault
abbrev pub probe_of : List ℕ → Result (Option (List ℕ)) Unread
probe_of body = ssid_in (elements_of body)

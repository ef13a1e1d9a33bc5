-- Elements (IEEE Std 802.11-2016, 9.4.2.1): a body is a concatenation of them.
use Rattle.std.specs.Prelude.{ℕ, zero, suc, ◌≤◌, ◌≡◌, nat_le, ◌==◌, List, [], ◌∷◌, length, take, drop, Option, Some}
use Rattle.std.specs.Prelude.{None, option_map, unwrap_or, if◌then◌else◌}
use Rattle.std.specs.List.{flat_map, AllByRecursion}
use Rattle.elements.specs.declared.element.Element.{Element}

-- ---- element IDs (9.4.2.1)

-- the SSID (9.4.2.2)
abbrev pub ssid_id : ℕ
ssid_id = 0

-- Supported Rates (9.4.2.3)
abbrev pub supported_rates_id : ℕ
supported_rates_id = 1

-- DSSS Parameter Set (9.4.2.4)
abbrev pub dsss_parameter_set_id : ℕ
dsss_parameter_set_id = 3

-- Extended Supported Rates (9.4.2.13)
abbrev pub extended_supported_rates_id : ℕ
extended_supported_rates_id = 50

-- ---- as a relation

-- what an element says: its element ID and the octets of its Information field
abbrev pub Pair : Type 0
Pair = ℕ × List ℕ

-- an element without where it lies in memory
abbrev pub shown : Element → Pair
shown e = (e.id, e.body.now)

-- the octets of an element: Element ID, Length, Information
abbrev pub spelled : Pair → List ℕ
spelled e = e.0 ∷ length e.1 ∷ e.1

-- an element with this element ID and Information field
abbrev pub element : ℕ → List ℕ → List ℕ
element id body = spelled (id, body)

-- the body is these elements, one after another
pub record IsElements (body : List ℕ) (es : List Pair) : Type 0 where
  pub whole : body ≡ flat_map spelled es
  pub short : AllByRecursion (λ e. length e.1 ≤ 255) es

-- the Information field of the first element with an element ID
abbrev pub first_of : ℕ → List Pair → Option (List ℕ)
first_of id [] = None
first_of id (e ∷ es) = if e.0 == id then Some e.1 else first_of id es

-- ---- as a function

-- an element before others, if there are others
abbrev pub before : Pair → Option (List Pair) → Option (List Pair)
before e es = option_map (λ others. e ∷ others) es

-- at most n elements, which are the whole body
unfoldable pub elements_within : ℕ → List ℕ → Option (List Pair)
elements_within n [] = Some []
elements_within n (id ∷ []) = None
elements_within zero (id ∷ len ∷ rest) = None
elements_within (suc n) (id ∷ len ∷ rest) =
    if nat_le len (length rest) then before (id, take len rest) (elements_within n (drop len rest)) else None

-- the elements of a body, or none where it is no concatenation of elements
unfoldable pub elements_of : List ℕ → Option (List Pair)
elements_of body = elements_within (length body) body

-- the elements of a body that is a concatenation of elements
abbrev pub listed : List ℕ → List Pair
listed body = unwrap_or (elements_of body) []

-- What is sent for each class of frame from a station in each state: to classes 1, 2 and 3.
use Rattle.std.proofs.Common.{◌≡◌, [], ◌∷◌, map, Some, None, refl}
use Rattle.station_state.specs.declared.Standing.TheVariants.{Unknown, Authenticated, Associated}
use Rattle.station_state.specs.declared.class.Class.TheVariants.{One, Two, Three}
use Rattle.station_state.specs.declared.class.Notice.TheVariants.{Deauthenticate, Disassociate}
use Rattle.station_state.specs.ClassFault.{class_fault}

from_unknown : map (class_fault Unknown) (One ∷ Two ∷ Three ∷ [])
    ≡ None ∷ Some (Deauthenticate 6) ∷ Some (Deauthenticate 7) ∷ []
from_unknown = refl

from_authenticated : map (class_fault Authenticated) (One ∷ Two ∷ Three ∷ []) ≡ None ∷ None ∷ Some (Disassociate 7) ∷ []
from_authenticated = refl

from_associated : map (class_fault Associated) (One ∷ Two ∷ Three ∷ []) ≡ None ∷ None ∷ None ∷ []
from_associated = refl

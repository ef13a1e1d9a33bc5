-- One station of a table is changed: what becomes of the states, identifiers and modes.
use Rattle.std.proofs.Common.{◌≡◌, ℕ, Bool, true, false, not, ◌&&◌, List, [], ◌∷◌, Option, Some, None, refl, sym, ap, ◌∙◌, inl, inr, arith}
use Rattle.std.specs.Prelude.{option_map}
use Rattle.std.specs.Str.{bytes_eq}
use Rattle.std.proofs.lemmas.Bool.{cases_Bool}
use Rattle.std.proofs.lemmas.Cmp.{nat_list_eq_equiv}
use Rattle.std.proofs.lemmas.Slice.Eq.{bytes_eq-Decides}
use Rattle.stations.specs.Stations.{Table, state_of, aid_of, aid_with, identifiers, AreIdentifiers, dozes, dozes_with, is_dozing, with_mode, set_state, forget, set_mode}
use Rattle.stations.specs.Sound.{AreApart}
use Rattle.station_state.specs.declared.state.StationState.{StationState}
use Rattle.station_state.specs.declared.state.StationState.TheVariants.{Authenticated, Associated}
use Rattle.stations.proofs.StationTables.{forget-unknown, rest-apart, own-among}

-- ---- another station keeps its state

other-key : (a b k : List ℕ) → bytes_eq b a ≡ false → bytes_eq a k ≡ true → bytes_eq b k ≡ false
other-key a b k other same = let is : a ≡ k = (bytes_eq-Decides a k).0 same in ap (bytes_eq b) (sym is) ∙ other

pub turned : (a b : List ℕ) → bytes_eq a b ≡ false → bytes_eq b a ≡ false
turned a b h = nat_list_eq_equiv.symm b a ∙ h

pub state_of-set : (a b : List ℕ) (l : StationState) (t : Table) → bytes_eq b a ≡ false → state_of b (set_state a l t) ≡ state_of b t
state_of-set a b l [] other = rw other refl
state_of-set a b l (e ∷ t) other = grind (arith, other, state_of-set a b l t other, other-key a b e.0 other)

pub state_of-forgotten : (a b : List ℕ) (t : Table) → bytes_eq b a ≡ false → state_of b (forget a t) ≡ state_of b t
state_of-forgotten a b [] other = refl
state_of-forgotten a b (e ∷ t) other = grind (arith, other, state_of-forgotten a b t other, other-key a b e.0 other)

pub state_of-moded : (a b : List ℕ) (doze : Bool) (t : Table) → bytes_eq b a ≡ false → state_of b (set_mode a doze t) ≡ state_of b t
state_of-moded a b doze [] other = refl
state_of-moded a b doze (e ∷ t) other = grind (arith, other, state_of-moded a b doze t other, other-key a b e.0 other)

-- ---- the others together

pub forgotten : (addr : List ℕ) (t : Table) → AreApart t → state_of addr (forget addr t) ≡ None
forgotten addr [] h = refl
forgotten addr (e ∷ t) h = elim (cases_Bool (bytes_eq addr e.0)) [
  | inl same ↦ rw same (cc (h.0, (bytes_eq-Decides addr e.0).0 same))
  | inr other ↦ rw other (rw other (forgotten addr t h.1))
]

pub forgotten-set : (addr : List ℕ) (l : StationState) (t : Table) → forget addr (set_state addr l t) ≡ forget addr t
forgotten-set addr l [] = rw (nat_list_eq_equiv.refl addr) refl
forgotten-set addr l (e ∷ t) = grind (arith, forgotten-set addr l t)

pub forgotten-twice : (addr : List ℕ) (t : Table) → AreApart t → forget addr (forget addr t) ≡ forget addr t
forgotten-twice addr t apart = forget-unknown addr (forget addr t) (forgotten addr t apart)

-- ---- and the station itself its state in the mode

pub state_of-mode : (a : List ℕ) (doze : Bool) (t : Table) → state_of a (set_mode a doze t) ≡ option_map (with_mode doze) (state_of a t)
state_of-mode a doze [] = refl
state_of-mode a doze (e ∷ t) = grind (arith, state_of-mode a doze t)

-- a mode is nothing to its identifier

same-aid_with : (doze : Bool) (state : Option StationState) → aid_with (option_map (with_mode doze) state) ≡ aid_with state
same-aid_with doze None = refl
same-aid_with doze (Some Authenticated) = refl
same-aid_with doze (Some (Associated aid listen before)) = refl

pub aid_of-mode : (a b : List ℕ) (doze : Bool) (t : Table) → aid_of b (set_mode a doze t) ≡ aid_of b t
aid_of-mode a b doze t = elim (cases_Bool (bytes_eq b a)) [
  | inl same ↦ cc ((bytes_eq-Decides b a).0 same, state_of-mode a doze t, same-aid_with doze (state_of a t))
  | inr other ↦ ap aid_with (state_of-moded a b doze t other)
]

active-state : (state : Option StationState) → dozes_with (option_map (with_mode false) state) ≡ false
active-state None = refl
active-state (Some Authenticated) = refl
active-state (Some (Associated aid listen doze)) = refl

pub active-moded : (a : List ℕ) (t : Table) → is_dozing a (set_mode a false t) ≡ false
active-moded a t = ap dozes_with (state_of-mode a false t) ∙ active-state (state_of a t)

dozing-state : (state : Option StationState) → dozes_with state ≡ true → dozes_with (option_map (with_mode true) state) ≡ true
dozing-state None h = h
dozing-state (Some Authenticated) h = h
dozing-state (Some (Associated aid listen doze)) h = refl

-- whoever dozed dozes still, when one begins to
pub dozing-stays : (a b : List ℕ) (t : Table) → is_dozing b t ≡ true → is_dozing b (set_mode a true t) ≡ true
dozing-stays a b t h = elim (cases_Bool (bytes_eq b a)) [
  | inl same ↦
      let is : b ≡ a = (bytes_eq-Decides b a).0 same in
      cc (state_of-mode a true t, dozing-state (state_of a t) (rw is at h))
  | inr other ↦ ap dozes_with (state_of-moded a b true t other) ∙ h
]

same-mode : (doze : Bool) (l : StationState) → dozes l ≡ doze → with_mode doze l ≡ l
same-mode doze Authenticated h = refl
same-mode doze (Associated aid listen before) h = ap (λ (b : Bool). Associated aid listen b) (sym h)

-- a mode that stays changes nothing
pub set_mode-same : (a : List ℕ) (doze : Bool) (t : Table) → is_dozing a t ≡ doze → set_mode a doze t ≡ t
set_mode-same a doze [] h = refl
set_mode-same a doze (e ∷ t) h = grind (arith, h, set_mode-same a doze t, same-mode doze e.1)

-- and also where it is set without that anyone wakes
pub mode-stays : (a b : List ℕ) (doze : Bool) (t : Table) → (is_dozing a t && not doze) ≡ false → is_dozing b t ≡ true → is_dozing b (set_mode a doze t) ≡ true
mode-stays a b true t none h = dozing-stays a b t h
mode-stays a b false t none h = elim (cases_Bool (bytes_eq b a)) [
  | inl same ↦ absurd (cc ((bytes_eq-Decides b a).0 same))
  | inr other ↦ ap dozes_with (state_of-moded a b false t other) ∙ h
]

-- ---- no two stations have one identifier

pub one-station : (a b : List ℕ) (t : Table) (n : ℕ) → AreIdentifiers (identifiers t) → aid_of a t ≡ Some n → aid_of b t ≡ Some n → a ≡ b
one-station a b t n sound one other = elim (cases_Bool (bytes_eq b a)) [
  | inl same ↦ sym ((bytes_eq-Decides b a).0 same)
  | inr apart ↦ absurd (cc (state_of-forgotten a b t apart, rest-apart a t n one sound, own-among b (forget a t) n (ap aid_with (state_of-forgotten a b t apart) ∙ other)))
]

-- The stations of a network stay sound through each change of one of them.
use Rattle.std.proofs.Common.{◌≡◌, ℕ, ◌+◌, ◌<◌, ◌≤◌, Bool, true, false, List, [], ◌∷◌, ◌++◌, length, Option, Some, None, is_some, refl, sym, ap, subst, arith}
use Rattle.std.specs.Prelude.{if◌then◌else◌}
use Rattle.std.specs.Str.{bytes_eq}
use Rattle.std.proofs.lemmas.List.{length-append}
use Rattle.std.proofs.lemmas.Bool.{cond_both}
use borrow.Author.Tests.{ltb-true}
use Rattle.aid_pool.specs.LeastFree.{IsLeastFree, least_free, is_among}
use Rattle.stations.specs.Stations.{Table, state_of, aid_of, identifiers, AreIdentifiers, may_associate, next_aid, set_state, authenticate, associate, disassociate, forget, set_mode, with_mode, identifier_of, changed, IsAllowed}
use Rattle.address_map.specs.Entries.{StayApart}
use Rattle.stations.specs.Sound.{AreApart, AreSound}
use Rattle.station_state.specs.declared.state.StationState.{StationState}
use Rattle.station_state.specs.declared.state.StationState.TheVariants.{Authenticated, Associated}
use Rattle.stations.specs.declared.table.Change.{Change}
use Rattle.stations.specs.declared.table.Change.TheVariants as changes
use Rattle.stations.proofs.StationTables.{with_entry-is_set_state, parted, without, within, numbers-of_associated, numbers-kept, authenticated-where}

-- ---- no station stands twice

unknown-stays_moded : (k a : List ℕ) (doze : Bool) (t : Table) → state_of k t ≡ None → state_of k (set_mode a doze t) ≡ None
unknown-stays_moded k a doze [] h = refl
unknown-stays_moded k a doze (e ∷ t) h = grind (arith, h, unknown-stays_moded k a doze t)

apart-moded : (a : List ℕ) (doze : Bool) (t : Table) → AreApart t → AreApart (set_mode a doze t)
apart-moded a doze [] h = tt
apart-moded a doze (e ∷ t) h = cond_both (bytes_eq a e.0) _ _ AreApart (λ _. h) (λ _. (unknown-stays_moded e.0 a doze t h.0, apart-moded a doze t h.1))

-- ---- how many there are

pub length-moded : (a : List ℕ) (doze : Bool) (t : Table) → length (set_mode a doze t) ≡ length t
length-moded a doze [] = refl
length-moded a doze (e ∷ t) = grind (arith, length-moded a doze t)

pub length-set_state : (a : List ℕ) (l : StationState) (t : Table) → length (set_state a l t) ≡ length t + (if is_some (state_of a t) then 0 else 1)
length-set_state a l [] = refl
length-set_state a l (e ∷ t) = grind (arith, length-set_state a l t)

pub length-forgotten : (a : List ℕ) (t : Table) → length (forget a t) ≤ length t
length-forgotten a [] = omega arith
length-forgotten a (e ∷ t) = grind (arith, length-forgotten a t)

-- ---- the identifiers

-- a network with at most this number of associated stations, by their identifiers
abbrev AreFew : ℕ → List ℕ → Type 0
AreFew most ns = (length ns ≤ most) × AreIdentifiers ns

few-less : (most : ℕ) (p q : List ℕ) (i : ℕ) → AreFew most (p ++ i ∷ q) → AreFew most (p ++ q)
few-less most p q i h = let some = h.0 in (omega (arith, some, length-append p (i ∷ q), length-append p q), (without p q i h.1).0)

few-authenticated : (most : ℕ) (a : List ℕ) (t : Table) → AreFew most (identifiers t) → AreFew most (identifiers (set_state a Authenticated t)) × AreFew most (identifiers (forget a t))
few-authenticated most a t h = by (aid_of a t) refl
  where
    by : (o : Option ℕ) → aid_of a t ≡ o → AreFew most (identifiers (set_state a Authenticated t)) × AreFew most (identifiers (forget a t))
    by None none = let n = numbers-kept a t none in (rw n.0 h, rw n.1 h)
    by (Some aid) had =
        let n = numbers-of_associated a t aid had in
        let less = few-less most n.0 n.1 aid (rw n.2 at h) in
        (rw (n.3 Authenticated) less, rw n.4 less)

-- fewer numbers than there are leave a least one free
abbrev LeavesOneFree : Type 0
LeavesOneFree = (ns : List ℕ) → length ns < 2007 → IsLeastFree (is_among ns) (least_free (is_among ns))

few-associated : LeavesOneFree → (most : ℕ) (a : List ℕ) (listen : ℕ) (t : Table) → most ≤ 2007 → is_some (state_of a t) ≡ true → may_associate most a t ≡ true → AreFew most (identifiers t) → AreFew most (identifiers (associate a listen t))
few-associated leaves most a listen t limit known room h = by (aid_of a t) refl
  where
    by : (o : Option ℕ) → aid_of a t ≡ o → AreFew most (identifiers (associate a listen t))
    by (Some aid) had = let n = numbers-of_associated a t aid had in rw (had, n.3 (Associated aid listen false)) (rw n.2 at h)
    by None none =
        let fewer : length (identifiers t) < most = ltb-true (length (identifiers t)) most (rw none at room) in
        let least = leaves (identifiers t) (omega arith) in
        let parts = parted a Authenticated t (authenticated-where a t known none) in
        let free : ℕ = least_free (is_among (identifiers t)) in
        let whole : identifiers t ≡ parts.0 ++ parts.1 = parts.2.whole in
        rw (none, parts.2.changed (Associated free listen false)) (
          omega (arith, fewer, ap length whole, length-append parts.0 parts.1, length-append parts.0 (free ∷ parts.1)),
          within parts.0 parts.1 free least.first least.last (rw whole at h.1) (cc least.free),
        )

-- a mode is none of an identifier's business
same-identifier : (doze : Bool) (l : StationState) → identifier_of (with_mode doze l) ≡ identifier_of l
same-identifier doze Authenticated = refl
same-identifier doze (Associated aid listen before) = refl

pub identifiers-moded : (a : List ℕ) (doze : Bool) (t : Table) → identifiers (set_mode a doze t) ≡ identifiers t
identifiers-moded a doze [] = refl
identifiers-moded a doze (e ∷ t) = grind (arith, identifiers-moded a doze t, same-identifier doze e.1)

-- ---- each change

pub mode-sound : (most : ℕ) (a : List ℕ) (doze : Bool) (t : Table) → AreSound most t → AreSound most (set_mode a doze t)
mode-sound most a doze t h =
    let same = identifiers-moded a doze t in
    record { addresses = apart-moded a doze t h.addresses; aids = subst AreIdentifiers (sym same) h.aids; associated = subst (λ (ns : List ℕ). length ns ≤ most) (sym same) h.associated }

pub authenticate-sound : StayApart StationState → (most : ℕ) (a : List ℕ) (t : Table) → AreSound most t → AreSound most (authenticate a t)
authenticate-sound apart most a t h =
    let few = (few-authenticated most a t (h.associated, h.aids)).0 in
    record { addresses = subst AreApart (with_entry-is_set_state a Authenticated t) (apart.set a Authenticated t h.addresses); aids = few.1; associated = few.0 }

pub forget-sound : StayApart StationState → (most : ℕ) (a : List ℕ) (t : Table) → AreSound most t → AreSound most (forget a t)
forget-sound apart most a t h =
    let few = (few-authenticated most a t (h.associated, h.aids)).1 in
    record { addresses = apart.removed a t h.addresses; aids = few.1; associated = few.0 }

pub disassociate-sound : StayApart StationState → (most : ℕ) (a : List ℕ) (t : Table) → AreSound most t → AreSound most (disassociate a t)
disassociate-sound apart most a t h = cond_both (is_some (aid_of a t)) _ _ (AreSound most) (λ _. authenticate-sound apart most a t h) (λ _. h)

pub associate-sound : StayApart StationState → LeavesOneFree → (most : ℕ) (a : List ℕ) (listen : ℕ) (t : Table) → most ≤ 2007 → is_some (state_of a t) ≡ true → may_associate most a t ≡ true → AreSound most t → AreSound most (associate a listen t)
associate-sound apart leaves most a listen t limit known room h =
    let few = few-associated leaves most a listen t limit known room (h.associated, h.aids) in
    record { addresses = subst AreApart (with_entry-is_set_state a (Associated (next_aid a t) listen false) t) (apart.set a (Associated (next_aid a t) listen false) t h.addresses); aids = few.1; associated = few.0 }

pub changed-sound : StayApart StationState → LeavesOneFree → (most : ℕ) (change : Change) (t : Table) → most ≤ 2007 → IsAllowed most change t → AreSound most t → AreSound most (changed change t)
changed-sound apart leaves most changes.Nothing t limit allowed h = h
changed-sound apart leaves most (changes.Authenticate a) t limit allowed h = authenticate-sound apart most a t h
changed-sound apart leaves most (changes.Associate a listen) t limit allowed h = associate-sound apart leaves most a listen t limit allowed.0 allowed.1 h
changed-sound apart leaves most (changes.Disassociate a) t limit allowed h = disassociate-sound apart most a t h
changed-sound apart leaves most (changes.Forget a) t limit allowed h = forget-sound apart most a t h
changed-sound apart leaves most (changes.SetMode a doze) t limit allowed h = mode-sound most a doze t h

-- What holds of every network still does where units come back.
use Rattle.std.proofs.Common.{◌≡◌, ℕ, zero, suc, ◌+◌, ◌*◌, ◌≤◌, min, max, Bool, true, ◌&&◌, List, [], ◌∷◌, ◌++◌, length, map, take, drop, None, arith}
use Rattle.std.specs.Prelude.{nat_lt}
use Rattle.std.specs.List.{AllByRecursion}
use Rattle.std.proofs.lemmas.Bool.{cond_both, and_parts}
use borrow.Author.Tests.{ltb-true}
use Rattle.ap_config.specs.Configuration.{network_fault}
use Rattle.powersave.specs.Keep.{Entry, units_for, without_first, is_for, CameInOrder}
use Rattle.powersave.specs.Returns.{put_back, without_firsts}
use Rattle.powersave.specs.declared.unit.Whom.{Whom}
use Rattle.powersave.specs.declared.unit.Whom.TheVariants.{One, Group}
use Rattle.powersave.specs.declared.unit.Unit.{Unit as DataUnit}
use Rattle.stations.specs.Stations.{Table}
use Rattle.roster.specs.KeptUnits.{IsKeptFor, AreKeptFor}
use Rattle.network.specs.Network.{Network, Setting, empty_network, lose, step}
use Rattle.network.specs.Sizes.{FitsFrame, AreFitting}
use Rattle.network.specs.Sound.{IsSoundNetwork}
use Rattle.network.specs.Returns.{clock_between, returned, may_wait, takes_back, Told, Hears, TakesBack, after_told, events_in, returns_in, AreCarried}
use Rattle.roster.specs.Changes.{CameInTurn}
use Rattle.network.proofs.AloneLaws.{StaysSound, more-sound, empty-sound}

-- ---- the clock of a unit that comes back

between-within : (n at clock : ℕ) (us : List DataUnit) → at ≤ clock → AllByRecursion (λ u. u.at ≤ clock) us → clock_between n at us ≤ clock
between-within zero at clock [] le by = le
between-within zero at clock (u ∷ us) le by = omega (arith, le)
between-within (suc n) at clock [] le by = le
between-within (suc n) at clock (u ∷ us) le by = let here = by.0 in let rest = between-within n at clock us le by.1 in omega (arith, here, rest)

all-from : (k : ℕ) (m : ℕ) (us : List DataUnit) → k ≤ m → AllByRecursion (λ u. m ≤ u.at) us → AllByRecursion (λ u. k ≤ u.at) us
all-from k m [] le from = tt
all-from k m (u ∷ us) le from = let here = from.0 in (omega (arith, le, here), all-from k m us le from.1)

all-to : (k : ℕ) (m : ℕ) (us : List DataUnit) → k ≤ m → AllByRecursion (λ u. u.at ≤ k) us → AllByRecursion (λ u. u.at ≤ m) us
all-to k m [] le to = tt
all-to k m (u ∷ us) le to = let here = to.0 in (omega (arith, le, here), all-to k m us le to.1)

-- those before it came no later, and those behind it no sooner
before-it : (n at : ℕ) (us : List DataUnit) → CameInOrder us → AllByRecursion (λ u. u.at ≤ clock_between n at us) (take n us)
before-it zero at us order = tt
before-it (suc n) at [] order = tt
before-it (suc n) at (u ∷ us) order =
    let last = clock_between n at us in
    (omega arith, all-to last (max u.at last) (take n us) (omega arith) (before-it n at us order.1))

behind-it : (n at : ℕ) (us : List DataUnit) → CameInOrder us → AllByRecursion (λ u. clock_between n at us ≤ u.at) (drop n us)
behind-it zero at [] order = tt
behind-it zero at (u ∷ us) order = (omega arith, all-from (min at u.at) u.at us (omega arith) order.0)
behind-it (suc n) at [] order = tt
behind-it (suc n) at (u ∷ us) order = both (drop n us) (dropped n us order.0) (behind-it n at us order.1)
  where
    dropped : (k : ℕ) (vs : List DataUnit) → AllByRecursion (λ v. u.at ≤ v.at) vs → AllByRecursion (λ v. u.at ≤ v.at) (drop k vs)
    dropped zero vs from = from
    dropped (suc k) [] from = tt
    dropped (suc k) (v ∷ vs) from = dropped k vs from.1

    both : (vs : List DataUnit) → AllByRecursion (λ v. u.at ≤ v.at) vs → AllByRecursion (λ v. clock_between n at us ≤ v.at) vs → AllByRecursion (λ v. max u.at (clock_between n at us) ≤ v.at) vs
    both [] one other = tt
    both (v ∷ vs) one other = let a = one.0 in let b = other.0 in (omega (arith, a, b), both vs one.1 other.1)

-- ---- what holds of each unit

module _ (P : Entry → Type 0) where
  each-left : (p : Entry → Bool) (es : List Entry) → AllByRecursion P es → AllByRecursion P (without_first p es)
  each-left p [] all = tt
  each-left p (e ∷ es) all = cond_both (p e) _ _ (AllByRecursion P) (λ _. all.1) (λ _. (all.0, each-left p es all.1))

  each-left_of : (p : Entry → Bool) (n : ℕ) (es : List Entry) → AllByRecursion P es → AllByRecursion P (without_firsts p n es)
  each-left_of p zero es all = all
  each-left_of p (suc n) es all = each-left_of p n (without_first p es) (each-left p es all)

  module _ (whom : Whom) (same : (e : Entry) → is_for whom e ≡ true → P e → P (whom, e.1)) where
    abbrev Each : List DataUnit → Type 0
    Each us = AllByRecursion (λ u. P (whom, u)) us

    units-each : (es : List Entry) → AllByRecursion P es → Each (units_for whom es)
    units-each [] all = tt
    units-each (e ∷ es) all =
        let rest = units-each es all.1 in
        cond_both (is_for whom e) _ _ (λ fs. Each (map (λ (entry : Entry). entry.1) fs)) (λ here. (same e here all.0, rest)) (λ _. rest)

    in-front : (n : ℕ) (us : List DataUnit) (u : DataUnit) (es : List Entry) → Each us → P (whom, u) → AllByRecursion P es → AllByRecursion P (map (λ v. (whom, v)) (take n us ++ u ∷ []) ++ es)
    in-front zero us u es all own rest = (own, rest)
    in-front (suc n) [] u es all own rest = (own, rest)
    in-front (suc n) (v ∷ us) u es all own rest = (all.0, in-front n us u es all.1 own rest)

    each-back : (before : ℕ) (u : DataUnit) (es : List Entry) → AllByRecursion P es → P (whom, u) → AllByRecursion P (put_back whom before u es)
    each-back before u es all own =
        in-front before (units_for whom es) u (without_firsts (is_for whom) before es) (units-each es all) own (each-left_of (is_for whom) before es all)

back-fits : (whom : Whom) (before : ℕ) (u : DataUnit) (es : List Entry) → AreFitting es → FitsFrame u → AreFitting (put_back whom before u es)
back-fits whom before u es fit own = each-back (λ e. FitsFrame e.1) whom (λ e here fits. fits) before u es fit own

-- whoever units are kept for may have them
kept-each : (t : Table) (es : List Entry) → AreKeptFor t es → AllByRecursion (λ e. IsKeptFor t e.0) es
kept-each t [] all = tt
kept-each t (e ∷ es) all = (all.0, kept-each t es all.1)

each-kept : (t : Table) (es : List Entry) → AllByRecursion (λ e. IsKeptFor t e.0) es → AreKeptFor t es
each-kept t [] all = tt
each-kept t (e ∷ es) all = (all.0, each-kept t es all.1)

back-kept : (t : Table) (whom : Whom) (before : ℕ) (u : DataUnit) (es : List Entry) → IsKeptFor t whom → AreKeptFor t es → AreKeptFor t (put_back whom before u es)
back-kept t whom before u es own kept =
    each-kept t (put_back whom before u es) (each-back (λ e. IsKeptFor t e.0) whom (λ e here was. own) before u es (kept-each t es kept) own)

waits : (whom : Whom) (t : Table) → may_wait whom t ≡ true → IsKeptFor t whom
waits (One addr) t is = is
waits Group t is = tt

-- no unit of one came after a clock that none came after
part-by : (whom : Whom) (clock : ℕ) (es : List Entry) → AllByRecursion (λ e. e.1.at ≤ clock) es → AllByRecursion (λ u. u.at ≤ clock) (units_for whom es)
part-by whom clock es by = units-each (λ e. e.1.at ≤ clock) whom (λ e here le. le) es by

-- ---- a unit comes back

-- one more is kept
abbrev pub IsCounted : Type 0
IsCounted = (whom : Whom) (before : ℕ) (u : DataUnit) (es : List Entry) → length (put_back whom before u es) ≡ length es + 1

lost-sound : (s : Setting) (events units : ℕ) (n : Network) → IsSoundNetwork s events units n → IsSoundNetwork s events (units + 1) (lose n)
lost-sound s events units n h =
    let lost : n.lost + 1 + length n.kept ≤ units + 1 = omega (arith, h.lost) in
    assumption

back-sound : CameInTurn → IsCounted → (s : Setting) (whom : Whom) (before : ℕ) (u : DataUnit) (events units : ℕ) (n : Network) → FitsFrame u → IsSoundNetwork s events units n → IsSoundNetwork s events (units + 1) (takes_back s whom before u n)
back-sound turn counted s whom before u events units n size h =
    let us : List DataUnit = units_for whom n.kept in
    let v : DataUnit = returned n.clock before u us in
    let at : ℕ = min u.at n.clock in
    cond_both (may_wait whom n.stations && nat_lt (length n.kept) s.network.quota) (record n { kept = put_back whom before v n.kept }) (lose n) (IsSoundNetwork s events (units + 1))
    (λ is.
    let both = and_parts (may_wait whom n.stations) (nat_lt (length n.kept) s.network.quota) is in
    let len : length (put_back whom before v n.kept) ≡ length n.kept + 1 = counted whom before v n.kept in
    let kept = back-kept n.stations whom before v n.kept (waits whom n.stations both.0) h.kept in
    let order = h.came.in_order whom in
    let came = turn.one_back whom before v n.clock n.kept (between-within before at n.clock us (omega arith) (part-by whom n.clock n.kept h.came.by)) (before-it before at us order) (behind-it before at us order) h.came in
    let sizes = back-fits whom before v n.kept h.sizes (record { to = size.to; source = size.source; body = size.body }) in
    let quota : length (put_back whom before v n.kept) ≤ s.network.quota = omega (arith, ltb-true (length n.kept) s.network.quota both.1, len) in
    let lost : n.lost + length (put_back whom before v n.kept) ≤ units + 1 = omega (arith, len, h.lost) in
    assumption)
    (λ _. lost-sound s events units n h)

-- and so after whatever a network is told
told-sound : StaysSound → CameInTurn → IsCounted → (s : Setting) (events units : ℕ) (n : Network) (ts : List Told) → network_fault s.network ≡ None → AreCarried ts → IsSoundNetwork s events units n
    → IsSoundNetwork s (events + events_in ts) (units + (2 * events_in ts + returns_in ts)) (after_told s n ts)
told-sound stays turn counted s events units n [] accepted carried h = more-sound s events units _ _ n (omega arith) (omega arith) h
told-sound stays turn counted s events units n (Hears e ∷ ts) accepted carried h =
    more-sound s _ _ _ _ (after_told s (step s n e) ts) (omega arith) (omega arith)
    (told-sound stays turn counted s (events + 1) (units + 2) (step s n e) ts accepted carried (stays s events units n e accepted h))
told-sound stays turn counted s events units n (TakesBack whom before u ∷ ts) accepted carried h =
    more-sound s _ _ _ _ (after_told s (takes_back s whom before u n) ts) (omega arith) (omega arith)
    (told-sound stays turn counted s events (units + 1) (takes_back s whom before u n) ts accepted carried.1 (back-sound turn counted s whom before u events units n carried.0 h))

pub all-told-sound : StaysSound → CameInTurn → IsCounted → (s : Setting) (ts : List Told) → network_fault s.network ≡ None → AreCarried ts → IsSoundNetwork s (events_in ts) (2 * events_in ts + returns_in ts) (after_told s empty_network ts)
all-told-sound stays turn counted s ts accepted carried =
    more-sound s _ _ _ _ (after_told s empty_network ts) (omega arith) (omega arith) (told-sound stays turn counted s 0 0 empty_network ts accepted carried (empty-sound s))

-- The clocks of those that units are kept for: where one is set, where units come and leave, where a station changes.
use Rattle.std.proofs.Common.{◌≡◌, ◌≢◌, ◌∙◌, ℕ, zero, suc, ◌+◌, ◌<◌, ◌≤◌, Bool, true, false, ◌||◌, cond, nat_eq, List, [], ◌∷◌, ◌++◌, length, set, slice_get, filter, Option, Some, None, option_map, IfSome, is_some, refl, sym, ap, subst, arith, inl, inr}
use Rattle.std.specs.Prelude.{nat_lt}
use Rattle.std.specs.FinSet as bits
use Rattle.std.specs.List.{AllByRecursion, list_any}
use Rattle.std.specs.Option.{IsSomeAnd}
use Rattle.std.specs.Str.{bytes_eq}
use Rattle.std.proofs.lemmas.Bool.{both_ways, cases_Bool, cases_eq, cond_both, eq-eqb, lt-ltb, le-leb, ltb-true, or_left, or_right, or_parts}
use Rattle.std.proofs.lemmas.List.{get_or-set_same, length-set}
use Rattle.std.proofs.lemmas.Option.{slice_get-get_or, slice_get_within}
use Rattle.std.proofs.lemmas.Slice.Eq.{bytes_eq-Decides}
use borrow.Author.Tests.{eqb-true}
use Rattle.aid_pool.specs.LeastFree.{is_among}
use Rattle.tim.specs.Tim.{IsAid, is_shown}
use Rattle.powersave.specs.Keep.{Entry, is_for, is_same, units_for, oldest_at, first_clock, AreOldest, AreToldOnce}
use Rattle.powersave.specs.declared.unit.Oldest.{Oldest}
use Rattle.powersave.specs.declared.unit.Whom.{Whom}
use Rattle.powersave.specs.declared.unit.Whom.TheVariants.{One, Group}
use Rattle.roster.specs.AgingClocks.{IsClockOf, HasClock, HaveClocks, IsEntered, IsNoted, IsListed, StayAt, listing, is_due, due_with, due_at}
use Rattle.roster.specs.declared.aging_clocks.AgingClock.{AgingClock}
use Rattle.roster.specs.Roster.{AreWaitedFor, AreAmong, renumbered}
use Rattle.stations.specs.Changes.{OthersStay, ModesAlone, IdentifiersDiffer}
use Rattle.stations.specs.Sound.{AreSound}
use Rattle.roster.specs.KeptUnits.{CameBy, has_unit, is_waited_for, is_too_old_for}
use Rattle.stations.specs.Stations.{Table, state_of, aid_of, aid_with, listen_with, identifiers, AreIdentifiers, set_mode, with_mode, changed}
use Rattle.stations.specs.declared.table.Change.{Change}
use Rattle.stations.specs.declared.table.Change.TheVariants as changes
use Rattle.station_state.specs.declared.state.StationState.{StationState}
use Rattle.station_state.specs.declared.state.StationState.TheVariants.{Authenticated, Associated}
use Rattle.roster.proofs.Aging.{each, each-two}
use Rattle.roster.proofs.RosterAging.{FirstOf, firsts, same_whom}
use Rattle.roster.proofs.WaitedFor.{Numbers, waited-parted, rest-none}

-- ---- one of a list is set

pub get-set : {X : Type 0} (xs : List X) (i : ℕ) (x : X) → i < length xs → slice_get (set xs i x) i ≡ Some x
get-set xs i x within = cc (slice_get-get_or (set xs i x) i x (omega (arith, within, length-set xs i x)), get_or-set_same xs i x x within)

pub get-set_other : {X : Type 0} (xs : List X) (i j : ℕ) (x : X) → j ≢ i → slice_get (set xs i x) j ≡ slice_get xs j
get-set_other [] i j x other = refl
get-set_other (y ∷ xs) zero zero x other = absurd (other refl)
get-set_other (y ∷ xs) zero (suc j) x other = refl
get-set_other (y ∷ xs) (suc i) zero x other = refl
get-set_other (y ∷ xs) (suc i) (suc j) x other = get-set_other xs i j x (λ same. other (ap suc same))

-- each stands among all
stand : (es : List Entry) → AllByRecursion (λ e. (whom : Whom) → is_for whom e ≡ true → list_any (is_for whom) es ≡ true) es
stand [] = tt
stand (e ∷ es) = ((λ whom is. or_left (is_for whom e) _ is), each es (λ f later whom is. or_right (is_for whom e) _ (later whom is)) (stand es))

pub itself : (a : List ℕ) → bytes_eq a a ≡ true
itself a = (bytes_eq-Decides a a).1 refl

-- ---- the bits of those that units are kept for

-- a number is waited for where units are kept for its station
pub waited-own : IdentifiersDiffer → (addr : List ℕ) (t : Table) (es : List Entry) (n : ℕ) → AreIdentifiers (identifiers t) → aid_of addr t ≡ Some n → is_waited_for t es n ≡ has_unit addr es
waited-own differ addr t es n sound is = grind (arith, is, waited-parted addr t es n, rest-none differ addr t es n is sound, eq-eqb n n refl)

-- so the bit of each that a unit is kept for is set
pub bits-set : IdentifiersDiffer → (t : Table) (es : List Entry) (numbers : Numbers) → AreIdentifiers (identifiers t) → AreWaitedFor numbers t es
    → AllByRecursion (λ e. (addr : List ℕ) (n : ℕ) → e.0 ≡ One addr → aid_of addr t ≡ Some n → bits.contains numbers n ≡ true) es
bits-set differ t es numbers sound told = each es by (stand es)
  where
    by : (e : Entry) → ((whom : Whom) → is_for whom e ≡ true → list_any (is_for whom) es ≡ true) → (addr : List ℕ) (n : ℕ) → e.0 ≡ One addr → aid_of addr t ≡ Some n → bits.contains numbers n ≡ true
    by e among addr n is aid =
        told n (differ.range addr t n aid sound) ∙ waited-own differ addr t es n sound aid
        ∙ among (One addr) (ap (λ (w : Whom). is_same w (One addr)) is ∙ itself addr)

-- ---- the clock of one is set

module _ (t : Table) where
  pub has-set : (clocks : List AgingClock) (old_aids aids : List ℕ) (whom : Whom) (at n : ℕ) (c : AgingClock) → n < length clocks → ((m : ℕ) → is_among old_aids m ≡ true → is_among aids m ≡ true)
      → ((addr : List ℕ) → whom ≡ One addr → aid_of addr t ≡ Some n → (old : AgingClock) → slice_get clocks n ≡ Some old → IsClockOf t addr at old → IsClockOf t addr at c)
      → HasClock clocks old_aids t whom at → HasClock (set clocks n c) aids t whom at
  has-set clocks old_aids aids Group at n c within more now h = tt
  has-set clocks old_aids aids (One addr) at n c within more now h = by (aid_of addr t) refl h
    where
      found : (o : Option AgingClock) → slice_get clocks n ≡ o → aid_of addr t ≡ Some n → IsSomeAnd o (IsClockOf t addr at) → IsClockOf t addr at c
      found None is aid k = absurd k
      found (Some old) is aid k = now addr refl aid old is k

      by : (o : Option ℕ) → aid_of addr t ≡ o → IsSomeAnd o (λ m. (is_among old_aids m ≡ true) × IsSomeAnd (slice_get clocks m) (IsClockOf t addr at))
          → IsSomeAnd o (λ m. (is_among aids m ≡ true) × IsSomeAnd (slice_get (set clocks n c) m) (IsClockOf t addr at))
      by None is k = k
      by (Some m) is k = (
        more m k.0,
        elim (cases_eq m n) [
          | inl same ↦
              let here = found (slice_get clocks n) refl (is ∙ ap Some same) (subst (λ (i : ℕ). IsSomeAnd (slice_get clocks i) (IsClockOf t addr at)) same k.1) in
              subst (λ (o : Option AgingClock). IsSomeAnd o (IsClockOf t addr at)) (sym (ap (slice_get (set clocks n c)) same ∙ get-set clocks n c within)) here
          | inr other ↦ subst (λ (o : Option AgingClock). IsSomeAnd o (IsClockOf t addr at)) (sym (get-set_other clocks n m c other)) k.1
        ],
      )

  -- the one that is set is there
  pub has-own : (clocks : List AgingClock) (aids : List ℕ) (addr : List ℕ) (at n : ℕ) (c : AgingClock) → n < length clocks → aid_of addr t ≡ Some n → is_among aids n ≡ true → IsClockOf t addr at c → HasClock (set clocks n c) aids t (One addr) at
  has-own clocks aids addr at n c within is among own =
      subst (λ (o : Option ℕ). IsSomeAnd o (λ m. (is_among aids m ≡ true) × IsSomeAnd (slice_get (set clocks n c) m) (IsClockOf t addr at))) (sym is)
      (among, subst (λ (o : Option AgingClock). IsSomeAnd o (IsClockOf t addr at)) (sym (get-set clocks n c within)) own)

  -- what stands at the identifier of one that has a clock
  pub clock-at : (clocks : List AgingClock) (aids : List ℕ) (addr : List ℕ) (at n : ℕ) → aid_of addr t ≡ Some n → HasClock clocks aids t (One addr) at → (is_among aids n ≡ true) × IsSomeAnd (slice_get clocks n) (IsClockOf t addr at)
  clock-at clocks aids addr at n is h = subst (λ (o : Option ℕ). IsSomeAnd o (λ m. (is_among aids m ≡ true) × IsSomeAnd (slice_get clocks m) (IsClockOf t addr at))) is h

  -- whoever units are kept for has one
  pub some-clock : (clocks : List AgingClock) (aids : List ℕ) (whom : Whom) (es : List Entry) → list_any (is_for whom) es ≡ true → HaveClocks clocks aids t es → (at : ℕ) × HasClock clocks aids t whom at
  some-clock clocks aids whom [] some h = absurd (cc)
  some-clock clocks aids whom (e ∷ es) some h = elim (cases_Bool (is_for whom e)) [
    | inl is ↦ (e.1.at, subst (λ (w : Whom). HasClock clocks aids t w e.1.at) (same_whom e.0 whom is) h.0)
    | inr other ↦ some-clock clocks aids whom es (rw other at some) h.1
  ]

-- ---- a unit comes

pub noted : IdentifiersDiffer → (most : ℕ) (t : Table) (es : List Entry) (numbers : Numbers) (clocks new : List AgingClock) (aids : List ℕ) (addr : List ℕ) (at n : ℕ) → AreSound most t → aid_of addr t ≡ Some n → AreWaitedFor numbers t es → bits.contains numbers n ≡ true
    → IsNoted n at clocks new → HaveClocks clocks aids t es → HaveClocks new aids t es × HasClock new aids t (One addr) at
noted differ most t es numbers clocks new aids addr at n sound is told bit step h = by (slice_get clocks n) refl step
  where
    waits : list_any (is_for (One addr)) es ≡ true
    waits = sym (waited-own differ addr t es n sound.aids is) ∙ sym (told n (differ.range addr t n is sound.aids)) ∙ bit

    own : (is_among aids n ≡ true) × IsSomeAnd (slice_get clocks n) (λ c. (c.addr ≡ addr) × (c.listen ≤ listen_with (state_of addr t)))
    own =
        let some = some-clock t clocks aids (One addr) es waits h in
        let here = clock-at t clocks aids addr some.0 n is some.1 in
        (here.0, weak (slice_get clocks n) some.0 here.1)
      where
        weak : (o : Option AgingClock) (a : ℕ) → IsSomeAnd o (IsClockOf t addr a) → IsSomeAnd o (λ c. (c.addr ≡ addr) × (c.listen ≤ listen_with (state_of addr t)))
        weak None a k = k
        weak (Some c) a k = (k.0, k.2)

    within : (o : Option AgingClock) (c : AgingClock) → slice_get clocks n ≡ o → o ≡ Some c → n < length clocks
    within o c is_o some = slice_get_within clocks n c (is_o ∙ some)

    by : (o : Option AgingClock) → slice_get clocks n ≡ o → IsSomeAnd o (λ c. (early : ℕ) × (early ≤ at) × (early ≤ c.at) × (new ≡ set clocks n (record c { at = early }))) → HaveClocks new aids t es × HasClock new aids t (One addr) at
    by None is_o k = absurd k
    by (Some c) is_o k =
        let early : ℕ = k.0 in
        let early_at : early ≤ at = k.1 in
        let early_c : early ≤ c.at = k.2 in
        let d : AgingClock = record c { at = early } in
        let in_clocks : n < length clocks = within (Some c) c is_o refl in
        let mine = subst (λ (o : Option AgingClock). IsSomeAnd o (λ x. (x.addr ≡ addr) × (x.listen ≤ listen_with (state_of addr t)))) is_o own.1 in
        subst (λ (cs : List AgingClock). HaveClocks cs aids t es × HasClock cs aids t (One addr) at) (sym k.3) (
          each es (λ e had. has-set t clocks aids aids e.0 e.1.at n d in_clocks (λ m among. among) (λ a whom aid old was was_own. older a e.1.at c old early (sym is_o ∙ was) early_c was_own) had) h,
          has-own t clocks aids addr at n d in_clocks is own.0 (mine.0, early_at, mine.1),
        )
      where
        older : (a : List ℕ) (k_at : ℕ) (c old : AgingClock) (early : ℕ) → Some c ≡ Some old → early ≤ c.at → IsClockOf t a k_at old → IsClockOf t a k_at (record c { at = early })
        older a k_at c old early same le own =
            let is_c : c ≡ old = cc in
            let le_old = own.1 in
            (ap (λ (x : AgingClock). x.addr) is_c ∙ own.0, omega (arith, le, le_old, ap (λ (x : AgingClock). x.at) is_c), omega (arith, own.2, ap (λ (x : AgingClock). x.listen) is_c))

pub entered : IdentifiersDiffer → (most : ℕ) (t : Table) (es : List Entry) (numbers : Numbers) (clocks new : List AgingClock) (old_aids aids : List ℕ) (addr : List ℕ) (at n : ℕ) (c : AgingClock) → AreSound most t → aid_of addr t ≡ Some n → AreWaitedFor numbers t es → bits.contains numbers n ≡ false
    → IsClockOf t addr at c → IsEntered n c (listing clocks old_aids) (listing new aids) → HaveClocks clocks old_aids t es → HaveClocks new aids t es × HasClock new aids t (One addr) at
entered differ most t es numbers clocks new old_aids aids addr at n c sound is told no_bit own step h =
    subst (λ (cs : List AgingClock). HaveClocks cs aids t es × HasClock cs aids t (One addr) at) (sym step.1) (
      each-two es (λ e bit had. has-set t clocks old_aids aids e.0 e.1.at n c step.0 step.3 (λ a whom aid old was was_own. absurd (both_ways (bits.contains numbers n) no_bit (bit a n whom aid))) had) (bits-set differ t es numbers sound.aids told) h,
      has-own t clocks aids addr at n c step.0 is step.2 own,
    )

-- ---- those that no unit waits for leave the list

filtered-among : (p : ℕ → Bool) (ns : List ℕ) (n : ℕ) → p n ≡ true → is_among ns n ≡ true → is_among (filter p ns) n ≡ true
filtered-among p [] n is among = among
filtered-among p (m ∷ ns) n is among = grind (arith, is, among, filtered-among p ns n is, eqb-true m n)

pub gone-dropped : IdentifiersDiffer → (most : ℕ) (t : Table) (es : List Entry) (numbers : Numbers) (clocks : List AgingClock) (aids : List ℕ) → AreSound most t → AreWaitedFor numbers t es → HaveClocks clocks aids t es → HaveClocks clocks (filter (is_shown (bits.contains numbers)) aids) t es
gone-dropped differ most t es numbers clocks aids sound told h = each-two es by (bits-set differ t es numbers sound.aids told) h
  where
    shown : (n : ℕ) → IsAid n → bits.contains numbers n ≡ true → is_shown (bits.contains numbers) n ≡ true
    shown n aid bit = rw (le-leb 1 n aid.0) (rw (le-leb n 2007 aid.1) bit)

    one : (addr : List ℕ) (at : ℕ) → ((n : ℕ) → aid_of addr t ≡ Some n → bits.contains numbers n ≡ true) → (o : Option ℕ) → aid_of addr t ≡ o
        → IsSomeAnd o (λ m. (is_among aids m ≡ true) × IsSomeAnd (slice_get clocks m) (IsClockOf t addr at))
        → IsSomeAnd o (λ m. (is_among (filter (is_shown (bits.contains numbers)) aids) m ≡ true) × IsSomeAnd (slice_get clocks m) (IsClockOf t addr at))
    one addr at bit None is k = k
    one addr at bit (Some n) is k = (filtered-among (is_shown (bits.contains numbers)) aids n (shown n (differ.range addr t n is sound.aids) (bit n is)) k.0, k.1)

    whom_by : (w : Whom) (at : ℕ) → ((addr : List ℕ) (n : ℕ) → w ≡ One addr → aid_of addr t ≡ Some n → bits.contains numbers n ≡ true) → HasClock clocks aids t w at → HasClock clocks (filter (is_shown (bits.contains numbers)) aids) t w at
    whom_by Group at bit k = tt
    whom_by (One addr) at bit k = one addr at (λ n aid. bit addr n refl aid) (aid_of addr t) refl k

    by : (e : Entry) → ((addr : List ℕ) (n : ℕ) → e.0 ≡ One addr → aid_of addr t ≡ Some n → bits.contains numbers n ≡ true) → HasClock clocks aids t e.0 e.1.at → HasClock clocks (filter (is_shown (bits.contains numbers)) aids) t e.0 e.1.at
    by e bit k = whom_by e.0 e.1.at bit k

-- ---- a station is looked up

-- what is known of a clock then
abbrev pub IsLookedUp : Table → List Entry → (old new : AgingClock) → Type 0
IsLookedUp t es old new =
    (new.addr ≡ old.addr)
    × IfSome (first_clock (units_for (One old.addr) es)) (λ at. new.at ≡ at)
    × IfSome (first_clock (units_for (One old.addr) es)) (λ at. new.listen ≡ listen_with (state_of old.addr t))

looked-own : (t : Table) (es : List Entry) (whom : Whom) (addr : List ℕ) (at : ℕ) (old new : AgingClock) → whom ≡ One addr → IsSomeAnd (first_clock (units_for whom es)) (λ first. first ≤ at) → IsLookedUp t es old new → IsClockOf t addr at old → IsClockOf t addr at new
looked-own t es whom addr at old new is first step own =
    let same : whom ≡ One old.addr = is ∙ ap One (sym own.0) in
    by (first_clock (units_for (One old.addr) es)) (subst (λ (w : Whom). IsSomeAnd (first_clock (units_for w es)) (λ f. f ≤ at)) same first) step.1 step.2
  where
    by : (o : Option ℕ) → IsSomeAnd o (λ f. f ≤ at) → IfSome o (λ f. new.at ≡ f) → IfSome o (λ f. new.listen ≡ listen_with (state_of old.addr t)) → IsClockOf t addr at new
    by None f a l = absurd f
    by (Some k) f a l = (step.0 ∙ own.0, omega (arith, a, f), omega (arith, l ∙ ap (λ k. listen_with (state_of k t)) own.0))

pub looked-up : (last : ℕ) (t : Table) (es : List Entry) (clocks : List AgingClock) (aids : List ℕ) (n : ℕ) (old new : AgingClock) → CameBy last es → slice_get clocks n ≡ Some old
    → ((addr : List ℕ) (at : ℕ) → IsClockOf t addr at old → IsClockOf t addr at new) → HaveClocks clocks aids t es → HaveClocks (set clocks n new) aids t es
looked-up last t es clocks aids n old new came was same h =
    each es (λ e had. has-set t clocks aids aids e.0 e.1.at n new (slice_get_within clocks n old was) (λ m among. among) (λ addr whom aid other is own. same addr e.1.at (subst (IsClockOf t addr e.1.at) (let one : other ≡ old = cc in one) own)) had) h

pub looked-up_due : (last : ℕ) (t : Table) (es : List Entry) (clocks : List AgingClock) (aids : List ℕ) (n : ℕ) (old new : AgingClock) → CameBy last es → slice_get clocks n ≡ Some old → IsLookedUp t es old new → HaveClocks clocks aids t es → HaveClocks (set clocks n new) aids t es
looked-up_due last t es clocks aids n old new came was step h =
    each-two es (λ e first had. has-set t clocks aids aids e.0 e.1.at n new (slice_get_within clocks n old was) (λ m among. among) (λ addr whom aid other is own. looked-own t es e.0 addr e.1.at old new whom first step (subst (IsClockOf t addr e.1.at) (let one : other ≡ old = cc in one) own)) had) (firsts last t es came) h

-- ---- all are listed anew

-- what is told of those that are not listed yet, and the clocks of the others
pub record AreListing (t : Table) (rest : List Oldest) (clocks : List AgingClock) (aids : List ℕ) (es : List Entry) : Type 0 where
  pub told : AllByRecursion (λ e. IfSome (oldest_at e.0 rest) (λ at. at ≤ e.1.at)) es
  pub listed : AllByRecursion (λ e. oldest_at e.0 rest ≡ None → HasClock clocks aids t e.0 e.1.at) es
  pub once : AreToldOnce rest

pub listing-begins : (last : ℕ) (t : Table) (os : List Oldest) (clocks : List AgingClock) (aids : List ℕ) (es : List Entry) → AreOldest os es → AreToldOnce os → CameBy last es → AreListing t os clocks aids es
listing-begins last t os clocks aids es told once came = record {
  told = each es (λ e first. some (oldest_at e.0 os) e.1.at (here e first)) (firsts last t es came);
  listed = each es (λ e first none. absurd (subst (λ (o : Option ℕ). IsSomeAnd o (λ at. at ≤ e.1.at)) none (here e first))) (firsts last t es came);
  once = once;
}
  where
    here : (e : Entry) → FirstOf last t es e → IsSomeAnd (oldest_at e.0 os) (λ at. at ≤ e.1.at)
    here e first = subst (λ (o : Option ℕ). IsSomeAnd o (λ at. at ≤ e.1.at)) (sym (told e.0)) first

    some : (o : Option ℕ) (k : ℕ) → IsSomeAnd o (λ at. at ≤ k) → IfSome o (λ at. at ≤ k)
    some None k h = tt
    some (Some at) k h = h

pub listing-goes-on : (most : ℕ) (t : Table) (one : Oldest) (rest : List Oldest) (clocks new : List AgingClock) (old_aids aids : List ℕ) (es : List Entry) → AreSound most t → AreListing t (one ∷ rest) clocks old_aids es
    → IsListed t one (listing clocks old_aids) (listing new aids) → AreListing t rest new aids es
listing-goes-on most t one rest clocks new old_aids aids es sound h step = record {
  told = each es (λ e told. later e (is_same one.whom e.0) refl told) h.told;
  listed = each-two es (λ e told listed none. now e (is_same one.whom e.0) refl none told listed) h.told h.listed;
  once = h.once.1;
}
  where
    later : (e : Entry) (b : Bool) → is_same one.whom e.0 ≡ b → IfSome (cond b (Some one.at) (oldest_at e.0 rest)) (λ at. at ≤ e.1.at) → IfSome (oldest_at e.0 rest) (λ at. at ≤ e.1.at)
    later e true same told =
        let none : oldest_at e.0 rest ≡ None = ap (λ (w : Whom). oldest_at w rest) (sym (same_whom one.whom e.0 same)) ∙ h.once.0 in
        subst (λ (o : Option ℕ). IfSome o (λ at. at ≤ e.1.at)) (sym none) tt
    later e false other told = told

    now : (e : Entry) (b : Bool) → is_same one.whom e.0 ≡ b → oldest_at e.0 rest ≡ None → IfSome (cond b (Some one.at) (oldest_at e.0 rest)) (λ at. at ≤ e.1.at)
        → (cond b (Some one.at) (oldest_at e.0 rest) ≡ None → HasClock clocks old_aids t e.0 e.1.at) → HasClock new aids t e.0 e.1.at
    now e true same none told listed = subst (λ (w : Whom). HasClock new aids t w e.1.at) (same_whom one.whom e.0 same) ((step most sound).1 e.1.at told)
    now e false other none told listed = (step most sound).0 e.0 e.1.at other (listed none)

pub listing-ends : (t : Table) (clocks : List AgingClock) (aids : List ℕ) (es : List Entry) → AreListing t [] clocks aids es → HaveClocks clocks aids t es
listing-ends t clocks aids es h = each es (λ e listed. listed refl) h.listed

-- more clocks

has-more : (t : Table) (clocks new : List AgingClock) (aids : List ℕ) → StayAt clocks new → (whom : Whom) (at : ℕ) → HasClock clocks aids t whom at → HasClock new aids t whom at
has-more t clocks new aids stay Group at h = tt
has-more t clocks new aids stay (One addr) at h = by (aid_of addr t) h
  where
    there : (n : ℕ) (o : Option AgingClock) → slice_get clocks n ≡ o → IsSomeAnd o (IsClockOf t addr at) → IsSomeAnd (slice_get new n) (IsClockOf t addr at)
    there n None is had = absurd had
    there n (Some c) is had = subst (λ (o : Option AgingClock). IsSomeAnd o (IsClockOf t addr at)) (sym (stay n c is)) had

    by : (o : Option ℕ) → IsSomeAnd o (λ aid. (is_among aids aid ≡ true) × IsSomeAnd (slice_get clocks aid) (IsClockOf t addr at)) → IsSomeAnd o (λ aid. (is_among aids aid ≡ true) × IsSomeAnd (slice_get new aid) (IsClockOf t addr at))
    by None had = had
    by (Some n) had = (had.0, there n (slice_get clocks n) refl had.1)

pub listed-more : (t : Table) (one : Oldest) (clocks more new : List AgingClock) (old_aids aids : List ℕ) → StayAt clocks more → IsListed t one (listing more old_aids) (listing new aids) → IsListed t one (listing clocks old_aids) (listing new aids)
listed-more t one clocks more new old_aids aids stay step = λ most sound. ((λ whom at other had. (step most sound).0 whom at other (has-more t clocks more old_aids stay whom at had)), (step most sound).1)

pub station-listed : IdentifiersDiffer → (t : Table) (one : Oldest) (clocks new : List AgingClock) (old_aids aids : List ℕ) (addr : List ℕ) (n listen place : ℕ) (doze : Bool) → one.whom ≡ One addr → state_of addr t ≡ Some (Associated n listen doze)
    → IsEntered n (record { addr = addr; place = place; at = one.at; listen = listen }) (listing clocks old_aids) (listing new aids) → IsListed t one (listing clocks old_aids) (listing new aids)
station-listed differ t one clocks new old_aids aids addr n listen place doze is state step = λ most sound. (
  λ whom at other had. subst (λ (cs : List AgingClock). HasClock cs aids t whom at) (sym step.1)
      (has-set t clocks old_aids aids whom at n c step.0 step.3 (λ a whom_is aid old was own. absurd (apart most sound whom a other whom_is aid)) had),
  λ at le. subst (λ (w : Whom). HasClock new aids t w at) (sym is) (subst (λ (cs : List AgingClock). HasClock cs aids t (One addr) at) (sym step.1)
      (has-own t clocks aids addr at n c step.0 mine step.2 (refl, le, same_listen))),
)
  where
    c : AgingClock
    c = record { addr = addr; place = place; at = one.at; listen = listen }

    mine : aid_of addr t ≡ Some n
    mine = ap aid_with state

    same_listen : listen ≤ listen_with (state_of addr t)
    same_listen = let whole = ap listen_with state in omega (arith, whole)

    apart : (most : ℕ) → AreSound most t → (whom : Whom) (a : List ℕ) → is_same one.whom whom ≡ false → whom ≡ One a → aid_of a t ≡ Some n → ⊥
    apart most sound whom a other whom_is aid =
        let same : addr ≡ a = differ.one addr a t n sound.aids mine aid in
        both_ways (is_same one.whom whom) other (ap (λ (w : Whom). is_same w whom) is ∙ ap (is_same (One addr)) whom_is ∙ ap (bytes_eq addr) (sym same) ∙ itself addr)

-- ---- those of whom a unit may be too old

late : (a b l m clock : ℕ) → a ≤ b → l ≤ m → nat_lt (b + m) clock ≡ true → nat_lt (a + l) clock ≡ true
late a b l m clock earlier shorter is = lt-ltb (a + l) clock (omega (arith, ltb-true (b + m) clock is, earlier, shorter))

in-due : (clock k : ℕ) (clocks : List AgingClock) (aids : List ℕ) (addr : List ℕ) (n : ℕ) (c : AgingClock) → is_among aids n ≡ true → slice_get clocks n ≡ Some c → c.addr ≡ addr → is_due clock c ≡ true → IsSomeAnd (oldest_at (One addr) (due_at clock clocks aids)) (λ at. at ≤ k)
in-due clock k clocks [] addr n c among is own due = absurd (cc)
in-due clock k clocks (m ∷ aids) addr n c among is own due = by (nat_eq m n) refl among (λ later. in-due clock k clocks aids addr n c later is own due)
  where
    front : (d : AgingClock) (b : Bool) → bytes_eq d.addr addr ≡ b → IsSomeAnd (oldest_at (One addr) (due_at clock clocks aids)) (λ at. at ≤ k) → IsSomeAnd (cond b (Some 0) (oldest_at (One addr) (due_at clock clocks aids))) (λ at. at ≤ k)
    front d true same rest = omega arith
    front d false other rest = rest

    with_head : (o : Option AgingClock) → IsSomeAnd (oldest_at (One addr) (due_at clock clocks aids)) (λ at. at ≤ k) → IsSomeAnd (oldest_at (One addr) (due_with clock o ++ due_at clock clocks aids)) (λ at. at ≤ k)
    with_head None rest = rest
    with_head (Some d) rest = whether (is_due clock d)
      where
        whether : (b : Bool) → IsSomeAnd (oldest_at (One addr) (cond b (record { whom = One d.addr; at = 0 } ∷ []) [] ++ due_at clock clocks aids)) (λ at. at ≤ k)
        whether true = front d (bytes_eq d.addr addr) refl rest
        whether false = rest

    by : (b : Bool) → nat_eq m n ≡ b → (b || is_among aids n) ≡ true → (is_among aids n ≡ true → IsSomeAnd (oldest_at (One addr) (due_at clock clocks aids)) (λ at. at ≤ k))
        → IsSomeAnd (oldest_at (One addr) (due_with clock (slice_get clocks m) ++ due_at clock clocks aids)) (λ at. at ≤ k)
    by true same later rest =
        let found : slice_get clocks m ≡ Some c = ap (slice_get clocks) (eqb-true m n same) ∙ is in
        let named : bytes_eq c.addr addr ≡ true = ap (bytes_eq c.addr) (sym own) ∙ itself c.addr in
        rw found (rw due (rw named (omega arith)))
    by false other later rest = with_head (slice_get clocks m) (rest later)

pub among-due : (clock : ℕ) (t : Table) (clocks : List AgingClock) (aids : List ℕ) (es : List Entry) → HaveClocks clocks aids t es → AreAmong clock t (due_at clock clocks aids) es
among-due clock t clocks aids es h = each es (λ e had is. by e.0 e.1.at had is) h
  where
    one : (addr : List ℕ) (at : ℕ) → is_too_old_for clock t (One addr) at ≡ true → (o : Option ℕ) → aid_of addr t ≡ o → IsSomeAnd o (λ m. (is_among aids m ≡ true) × IsSomeAnd (slice_get clocks m) (IsClockOf t addr at)) → IsSomeAnd (oldest_at (One addr) (due_at clock clocks aids)) (λ a. a ≤ at)
    one addr at is None aid k = absurd k
    one addr at is (Some n) aid k = clock_by (slice_get clocks n) refl k.1
      where
        clock_by : (o : Option AgingClock) → slice_get clocks n ≡ o → IsSomeAnd o (IsClockOf t addr at) → IsSomeAnd (oldest_at (One addr) (due_at clock clocks aids)) (λ a. a ≤ at)
        clock_by None was own = absurd own
        clock_by (Some c) was own = in-due clock at clocks aids addr n c k.0 was own.0 (late c.at at c.listen (listen_with (state_of addr t)) clock own.1 own.2 is)

    by : (w : Whom) (at : ℕ) → HasClock clocks aids t w at → is_too_old_for clock t w at ≡ true → IsSomeAnd (oldest_at w (due_at clock clocks aids)) (λ a. a ≤ at)
    by (One addr) at had is = one addr at is (aid_of addr t) refl had
    by Group at had is = absurd (both_ways false refl is)

-- ---- a station changes

-- by what is read of the table
abbrev HasClockBy : List AgingClock → List ℕ → (addr : List ℕ) → (at : ℕ) → Option ℕ → (listen : ℕ) → Type 0
HasClockBy clocks aids addr at aid listen = IsSomeAnd aid (λ n. (is_among aids n ≡ true) × IsSomeAnd (slice_get clocks n) (λ c. (c.addr ≡ addr) × (c.at ≤ at) × (c.listen ≤ listen)))

has-same : (clocks : List AgingClock) (aids : List ℕ) (addr : List ℕ) (at : ℕ) (t u : Table) → aid_of addr u ≡ aid_of addr t → listen_with (state_of addr u) ≡ listen_with (state_of addr t) → HasClock clocks aids t (One addr) at → HasClock clocks aids u (One addr) at
has-same clocks aids addr at t u aid listen h =
    subst (λ (o : Option ℕ). HasClockBy clocks aids addr at o (listen_with (state_of addr u))) (sym aid)
    (subst (λ (l : ℕ). HasClockBy clocks aids addr at (aid_of addr t) l) (sym listen) h)

state-other : OthersStay → (change : Change) (addr b : List ℕ) (t : Table) → renumbered change ≡ Some addr → bytes_eq b addr ≡ false → state_of b (changed change t) ≡ state_of b t
state-other others changes.Nothing addr b t is other = absurd (cc)
state-other others (changes.Authenticate a) addr b t is other = let same : a ≡ addr = cc in rw same (others.set addr b Authenticated t other)
state-other others (changes.Associate a listen) addr b t is other = let same : a ≡ addr = cc in rw same (others.set addr b _ t other)
state-other others (changes.Disassociate a) addr b t is other =
    let same : a ≡ addr = cc in
    rw same (cond_both (is_some (aid_of addr t)) _ _ (λ u. state_of b u ≡ state_of b t) (λ _. others.set addr b Authenticated t other) (λ _. refl))
state-other others (changes.Forget a) addr b t is other = let same : a ≡ addr = cc in rw same (others.forgotten addr b t other)
state-other others (changes.SetMode a doze) addr b t is other = absurd (cc)

none-for : (whom : Whom) (es : List Entry) → list_any (is_for whom) es ≡ false → AllByRecursion (λ e. is_for whom e ≡ false) es
none-for whom [] none = tt
none-for whom (e ∷ es) none = let parts = or_parts (is_for whom e) (list_any (is_for whom) es) none in (parts.0, none-for whom es parts.1)

pub clocks-unkept : OthersStay → (clocks : List AgingClock) (aids : List ℕ) (change : Change) (addr : List ℕ) (t : Table) (es : List Entry) → renumbered change ≡ Some addr → has_unit addr es ≡ false → HaveClocks clocks aids t es → HaveClocks clocks aids (changed change t) es
clocks-unkept others clocks aids change addr t es is none h = each-two es (λ e other had. by e.0 e.1.at other had) (none-for (One addr) es none) h
  where
    by : (w : Whom) (at : ℕ) → is_same w (One addr) ≡ false → HasClock clocks aids t w at → HasClock clocks aids (changed change t) w at
    by Group at other had = tt
    by (One b) at other had = let same = state-other others change addr b t is other in has-same clocks aids b at t (changed change t) (ap aid_with same) (ap listen_with same) had

mode-aid : (doze : Bool) (state : Option StationState) → aid_with (option_map (with_mode doze) state) ≡ aid_with state
mode-aid doze None = refl
mode-aid doze (Some Authenticated) = refl
mode-aid doze (Some (Associated aid listen before)) = refl

mode-listen : (doze : Bool) (state : Option StationState) → listen_with (option_map (with_mode doze) state) ≡ listen_with state
mode-listen doze None = refl
mode-listen doze (Some Authenticated) = refl
mode-listen doze (Some (Associated aid listen before)) = refl

pub clocks-renumbered_not : OthersStay → ModesAlone → (clocks : List AgingClock) (aids : List ℕ) (change : Change) (t : Table) (es : List Entry) → renumbered change ≡ None → HaveClocks clocks aids t es → HaveClocks clocks aids (changed change t) es
clocks-renumbered_not others modes clocks aids changes.Nothing t es is h = h
clocks-renumbered_not others modes clocks aids (changes.Authenticate a) t es is h = absurd (cc)
clocks-renumbered_not others modes clocks aids (changes.Associate a listen) t es is h = absurd (cc)
clocks-renumbered_not others modes clocks aids (changes.Disassociate a) t es is h = absurd (cc)
clocks-renumbered_not others modes clocks aids (changes.Forget a) t es is h = absurd (cc)
clocks-renumbered_not others modes clocks aids (changes.SetMode a doze) t es is h = each es (λ e had. by e.0 e.1.at had) h
  where
    moded : (b : List ℕ) (at : ℕ) (r : Bool) → bytes_eq b a ≡ r → HasClock clocks aids t (One b) at → HasClock clocks aids (set_mode a doze t) (One b) at
    moded b at true same had =
        let one : b ≡ a = (bytes_eq-Decides b a).0 same in
        let state : state_of b (set_mode a doze t) ≡ option_map (with_mode doze) (state_of b t) = ap (λ k. state_of k (set_mode a doze t)) one ∙ modes.state a doze t ∙ ap (λ k. option_map (with_mode doze) (state_of k t)) (sym one) in
        has-same clocks aids b at t (set_mode a doze t) (ap aid_with state ∙ mode-aid doze (state_of b t)) (ap listen_with state ∙ mode-listen doze (state_of b t)) had
    moded b at false other had = let state = others.moded a b doze t other in has-same clocks aids b at t (set_mode a doze t) (ap aid_with state) (ap listen_with state) had

    by : (w : Whom) (at : ℕ) → HasClock clocks aids t w at → HasClock clocks aids (set_mode a doze t) w at
    by Group at had = tt
    by (One b) at had = moded b at (bytes_eq b a) refl had

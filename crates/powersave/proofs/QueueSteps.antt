-- What becomes of the queues where one is changed, removed or made.
use Rattle.std.proofs.Common.{◌≡◌, ℕ, ◌+◌, ◌-◌, ◌<◌, ◌≤◌, Bool, true, false, not, List, [], ◌∷◌, ◌++◌, length, map, filter, drop, Option, Some, None, refl, sym, ap, ◌∙◌, subst, arith, inl, inr}
use Rattle.std.specs.List.{AllByRecursion, IsDistinct, slice_get}
use Rattle.std.specs.Map.{keys_of, lookup, set_value, remove_entry}
use Rattle.std.specs.Option.{option_map, unwrap_or, IsSomeAnd}
use Rattle.std.proofs.lemmas.Bool.{cases_Bool, cond_both}
use Rattle.std.proofs.lemmas.List.{length-map, length_push, map-append}
use Rattle.std.proofs.lemmas.Map.{NonePasses, keys-set_value}
use Rattle.std.proofs.lemmas.Map.Keys.{IsDistinct-head, IsDistinct-tail}
use Rattle.std.proofs.lemmas.Option.{none-some, same_Some, slice_get-map}
use Rattle.indexmap.specs.IndexMap.{swap_remove_entry}
use Rattle.powersave.specs.declared.unit.Whom.{Whom}
use Rattle.powersave.specs.declared.unit.Unit.{Unit as Msdu}
use Rattle.powersave.specs.declared.queues.Arrived.{Arrived}
use Rattle.powersave.specs.Keep.{Entry, is_same, is_for, units_for, without_first, room_beside}
use Rattle.powersave.specs.Queues.{Queue, Queues, Arrival, is_whom, queue_for, unit_at, arrival_for, arrivals, entries_in, first_number, Numbers, with_last, IsNumbered, AreNumbered, IsRising, AreSound, AreKept, HasRoom, Pops, Removes, MakesRoom, Pushes, PutsBack}
use Rattle.powersave.proofs.Parts.{msdu, same_whom, without_oldest_none, length-without_oldest, length-without_all}
use Rattle.powersave.proofs.Returns.{length-put_back}
use Rattle.powersave.proofs.Arrivals.{AllBelow, IsRising-filter, IsRising-without_first, IsRising-last}
use Rattle.powersave.proofs.Swaps.{swap_removed}
use Rattle.powersave.proofs.Merges.{passes, others, unit_of, IsOnce, AllBelow-arrivals, units-arrivals, arrivals-pop, arrivals-swap_remove, arrivals-set_same, arrivals-push, arrivals-add_empty, arrivals-add_one}

-- ---- the units of one

abbrev pub entry_of : Arrival → Entry
entry_of a = a.1

module _ {X Y : Type 0} (f : X → Y) (p : Y → Bool) where
  pub filter-map : (xs : List X) → filter p (map f xs) ≡ map f (filter (λ x. p (f x)) xs)
  filter-map [] = refl
  filter-map (x ∷ xs) = grind (arith, filter-map xs)

  pub without_first-map : (xs : List X) → without_first p (map f xs) ≡ map f (without_first (λ x. p (f x)) xs)
  without_first-map [] = refl
  without_first-map (x ∷ xs) = grind (arith, without_first-map xs)

units-entries : (bs : List Arrival) → map msdu (map entry_of bs) ≡ map unit_of bs
units-entries [] = refl
units-entries (b ∷ bs) = ap (λ us. unit_of b ∷ us) (units-entries bs)

pub none_named : (whom k : Whom) (queues : Queues) → is_whom whom k ≡ true → AllByRecursion (λ y. is_whom k y ≡ false) (keys_of queues) → NonePasses (is_whom whom) queues
none_named whom k [] here apart = tt
none_named whom k (e ∷ es) here apart = (subst (λ w. is_whom w e.0 ≡ false) (same_whom k whom here) apart.0, none_named whom k es here apart.1)

pub once : (whom : Whom) (queues : Queues) → IsDistinct is_whom (keys_of queues) → IsOnce (is_whom whom) queues
once whom [] apart = tt
once whom (e ∷ es) apart = ((λ here. none_named whom e.0 es here (IsDistinct-head is_whom e.0 (keys_of es) apart)), once whom es (IsDistinct-tail is_whom e.0 (keys_of es) apart))

pub units_for-entries_in : (next : Numbers) (whom : Whom) (queues : Queues) → AreSound next queues → units_for whom (entries_in queues) ≡ map (λ a. a.unit) (queue_for whom queues)
units_for-entries_in next whom queues sound =
    ap (map msdu) (filter-map entry_of (is_for whom) (arrivals queues))
    ∙ units-entries (filter (passes (is_whom whom)) (arrivals queues))
    ∙ units-arrivals (is_whom whom) next queues sound.numbered (once whom queues sound.one_each)

-- ---- their numbers

pub IsNumbered-drop : (next : Numbers) (queue : List Arrived) → IsNumbered next queue → IsNumbered next (drop 1 queue)
IsNumbered-drop next [] numbered = tt
IsNumbered-drop next (a ∷ queue) numbered = numbered.2

-- where more numbers were given
pub IsNumbered-more : (next more : Numbers) (queue : List Arrived) → next.last ≤ more.last → next.in_front ≤ more.in_front → IsNumbered next queue → IsNumbered more queue
IsNumbered-more next more [] last front numbered = tt
IsNumbered-more next more (a ∷ queue) last front numbered =
    let here = numbered.0 in
    let low = numbered.3 in
    (omega (arith, here, last), numbered.1, IsNumbered-more next more queue last front numbered.2, omega (arith, low, front))

above_all : (n : ℕ) (queue : List Arrived) (last : Arrived) → AllByRecursion (λ b. n < b.number) queue → n < last.number → AllByRecursion (λ b. n < b.number) (queue ++ last ∷ [])
above_all n [] last above lt = (lt, tt)
above_all n (a ∷ queue) last above lt = (above.0, above_all n queue last above.1 lt)

IsNumbered-one : (next : Numbers) (last : Arrived) → last.number ≡ first_number + next.last → IsNumbered (with_last 1 next) (last ∷ [])
IsNumbered-one next last is = (omega (arith, is), tt, tt, omega (arith, is))

IsNumbered-push : (next : Numbers) (queue : List Arrived) (last : Arrived) → last.number ≡ first_number + next.last → IsNumbered next queue → IsNumbered (with_last 1 next) (queue ++ last ∷ [])
IsNumbered-push next [] last is numbered = IsNumbered-one next last is
IsNumbered-push next (a ∷ queue) last is numbered =
    let here = numbered.0 in
    (omega (arith, here), above_all a.number queue last numbered.1 (omega (arith, is, here)), IsNumbered-push next queue last is numbered.2, numbered.3)

pub AreNumbered-more : (next more : Numbers) (queues : Queues) → next.last ≤ more.last → next.in_front ≤ more.in_front → AreNumbered next queues → AreNumbered more queues
AreNumbered-more next more [] last front numbered = tt
AreNumbered-more next more (e ∷ es) last front numbered = (IsNumbered-more next more e.1.items last front numbered.0, AreNumbered-more next more es last front numbered.1)

pub AreNumbered-add : (next : Numbers) (whom : Whom) (w : Queue) (queues : Queues) → IsNumbered next w.items → AreNumbered next queues → AreNumbered next (queues ++ (whom, w) ∷ [])
AreNumbered-add next whom w [] here numbered = (here, tt)
AreNumbered-add next whom w (e ∷ es) here numbered = (numbered.0, AreNumbered-add next whom w es here numbered.1)

AreNumbered-last : (next : Numbers) (l : Whom × Queue) (queues : Queues) → AreNumbered next (queues ++ l ∷ []) → AreNumbered next (l ∷ queues)
AreNumbered-last next l [] numbered = numbered
AreNumbered-last next l (e ∷ es) numbered = let rest = AreNumbered-last next l es numbered.1 in (rest.0, (numbered.0, rest.1))

module _ (t : Whom → Bool) (next : Numbers) where
  AreNumbered-set_value : (queues : Queues) (w : Queue) → AreNumbered next queues → IsNumbered next w.items → AreNumbered next (set_value t queues w)
  AreNumbered-set_value [] w numbered here = tt
  AreNumbered-set_value (e ∷ es) w numbered here = cond_both (t e.0) _ _ (AreNumbered next) (λ _. (here, numbered.1)) (λ _. (numbered.0, AreNumbered-set_value es w numbered.1 here))

  AreNumbered-remove : (queues : Queues) → AreNumbered next queues → AreNumbered next (remove_entry t queues)
  AreNumbered-remove [] numbered = tt
  AreNumbered-remove (e ∷ es) numbered = cond_both (t e.0) _ _ (AreNumbered next) (λ _. numbered.1) (λ _. (numbered.0, AreNumbered-remove es numbered.1))

  AreNumbered-swap_remove : (queues : Queues) → AreNumbered next queues → AreNumbered next (swap_remove_entry t queues)
  AreNumbered-swap_remove queues numbered =
      swap_removed t (λ es fs. AreNumbered next fs → AreNumbered next es)
      (λ es all. all)
      (AreNumbered-last next)
      (λ e es fs later all. (all.0, later all.1))
      queues (AreNumbered-remove queues numbered)

  pub IsNumbered-found : (queues : Queues) (q : Queue) → AreNumbered next queues → lookup t queues ≡ Some q → IsNumbered next q.items
  IsNumbered-found [] q numbered found = absurd (none-some q found)
  IsNumbered-found (e ∷ es) q numbered found = elim (cases_Bool (t e.0)) [
    | inl here ↦ subst (λ (v : Queue). IsNumbered next v.items) (same_Some e.1 q (rw here at found)) numbered.0
    | inr other ↦ IsNumbered-found es q numbered.1 (rw other at found)
  ]

-- ---- room

-- a queue has room for one unit more
abbrev pub HasSpace : Queue → Type 0
HasSpace q = q.len < q.cap

module _ (u : Whom → Bool) where
  HasSpace-set_value : (t : Whom → Bool) (queues : Queues) (q w : Queue) → lookup t queues ≡ Some q → (HasSpace q → HasSpace w) → IsSomeAnd (lookup u queues) HasSpace → IsSomeAnd (lookup u (set_value t queues w)) HasSpace
  HasSpace-set_value t [] q w found keeps space = space
  HasSpace-set_value t (e ∷ es) q w found keeps space = grind (arith, found, keeps, space, HasSpace-set_value t es q w)

  HasSpace-add : (whom : Whom) (w : Queue) (queues : Queues) → IsSomeAnd (lookup u queues) HasSpace → IsSomeAnd (lookup u (queues ++ (whom, w) ∷ [])) HasSpace
  HasSpace-add whom w [] space = absurd space
  HasSpace-add whom w (e ∷ es) space = grind (arith, space, HasSpace-add whom w es)

-- a changed queue is found where it stood
lookup-set : (t : Whom → Bool) (queues : Queues) (q w : Queue) → lookup t queues ≡ Some q → lookup t (set_value t queues w) ≡ Some w
lookup-set t [] q w found = absurd (none-some q found)
lookup-set t (e ∷ es) q w found = grind (arith, found, lookup-set t es q w)

pub lookup-set_here : (whom : Whom) (queues : Queues) (q w : Queue) → lookup (is_whom whom) queues ≡ Some q → lookup (is_whom whom) (set_value (is_whom whom) queues w) ≡ Some w
lookup-set_here whom queues q w found = lookup-set (is_whom whom) queues q w found

-- what room there is stays where every queue's does
HasRoom-kept : (old new : Queues) → ((whom : Whom) → IsSomeAnd (lookup (is_whom whom) old) HasSpace → IsSomeAnd (lookup (is_whom whom) new) HasSpace) → (reserved : Option Whom) → HasRoom reserved old → HasRoom reserved new
HasRoom-kept old new keeps None room = tt
HasRoom-kept old new keeps (Some whom) room = keeps whom room

-- what room there is but for one stays where every other queue's does
HasRoom-beside : (whom : Whom) (old new : Queues) → ((other : Whom) → is_same other whom ≡ false → IsSomeAnd (lookup (is_whom other) old) HasSpace → IsSomeAnd (lookup (is_whom other) new) HasSpace) → (reserved : Option Whom) → HasRoom reserved old → HasRoom (room_beside whom reserved) new
HasRoom-beside whom old new keeps None room = tt
HasRoom-beside whom old new keeps (Some other) room = cond_both (is_same other whom) None (Some other) (λ r. HasRoom r new) (λ _. tt) (λ apart. keeps other apart room)

-- ---- what the calls do

pub queue_found : (whom : Whom) (queues : Queues) (q : Queue) → lookup (is_whom whom) queues ≡ Some q → queue_for whom queues ≡ q.items
queue_found whom queues q found = ap (λ o. unwrap_or (option_map (λ (v : Queue). v.items) o) []) found

pub queue_missing : (whom : Whom) (queues : Queues) → lookup (is_whom whom) queues ≡ None → queue_for whom queues ≡ []
queue_missing whom queues missing = ap (λ o. unwrap_or (option_map (λ (v : Queue). v.items) o) []) missing

pub count-units : (next : Numbers) (whom : Whom) (queues : Queues) → AreSound next queues → length (queue_for whom queues) ≡ length (units_for whom (entries_in queues))
count-units next whom queues sound =
    sym (length-map (queue_for whom queues) (λ (a : Arrived). a.unit)) ∙ ap length (sym (units_for-entries_in next whom queues sound))

pub unit_at-units : (next : Numbers) (whom : Whom) (queues : Queues) (n : ℕ) → AreSound next queues → unit_at (queue_for whom queues) n ≡ slice_get (units_for whom (entries_in queues)) n
unit_at-units next whom queues n sound =
    sym (slice_get-map (λ (a : Arrived). a.unit) (queue_for whom queues) n)
    ∙ ap (λ us. slice_get us n) (sym (units_for-entries_in next whom queues sound))

first_unit : (next : Numbers) (whom : Whom) (queues : Queues) (queue : List Arrived) → queue_for whom queues ≡ queue → AreSound next queues → unit_at queue 0 ≡ slice_get (units_for whom (entries_in queues)) 0
first_unit next whom queues queue is sound = ap (λ ns. unit_at ns 0) (sym is) ∙ unit_at-units next whom queues 0 sound

module _ (whom : Whom) (old new : Queues) where
  -- the keys stay, and the queue for one has other units
  pub sound_after_set : (next : Numbers) (w : Queue) → new ≡ set_value (is_whom whom) old w → AreSound next old → IsNumbered next w.items → IsRising (arrivals new) → AreSound next new
  sound_after_set next w is sound numbered apart = record {
    one_each = subst (λ es. IsDistinct is_whom (keys_of es)) (sym is) (subst (IsDistinct is_whom) (sym (keys-set_value (is_whom whom) old w)) sound.one_each);
    numbered = subst (AreNumbered next) (sym is) (AreNumbered-set_value (is_whom whom) next old w sound.numbered numbered);
    apart = apart;
  }

  pub pops : (q w : Queue) (taken : Option Msdu) → lookup (is_whom whom) old ≡ Some q → new ≡ set_value (is_whom whom) old w → w.items ≡ drop 1 q.items → (HasSpace q → HasSpace w) → taken ≡ unit_at q.items 0 → Pops whom old taken new
  pops q w taken found is left keeps first =
      let gone : (next : Numbers) → AreSound next old → arrivals new ≡ without_first (passes (is_whom whom)) (arrivals old) =
      λ next sound. ap arrivals is ∙ arrivals-pop (is_whom whom) next old q w sound.numbered (once whom old sound.one_each) found left in
      record {
        unit = λ next sound. first ∙ first_unit next whom old q.items (queue_found whom old q found) sound;
        rest = λ next sound. ap (map entry_of) (gone next sound) ∙ sym (without_first-map entry_of (is_for whom) (arrivals old));
        sound = λ next sound.
            sound_after_set next w is sound
            (subst (IsNumbered next) (sym left) (IsNumbered-drop next q.items (IsNumbered-found (is_whom whom) next old q sound.numbered found)))
            (subst IsRising (sym (gone next sound)) (IsRising-without_first (passes (is_whom whom)) (arrivals old) sound.apart));
        room = HasRoom-beside whom old new (λ other apart room. subst (λ (es : Queues). IsSomeAnd (lookup (is_whom other) es) HasSpace) (sym is) (HasSpace-set_value (is_whom other) (is_whom whom) old q w found keeps room));
      }

  pub pops_none : (taken : Option Msdu) → lookup (is_whom whom) old ≡ None → new ≡ old → taken ≡ None → Pops whom old taken new
  pops_none taken missing is none = record {
    unit = λ next sound. none ∙ first_unit next whom old [] (queue_missing whom old missing) sound;
    rest = λ next sound. ap entries_in is ∙ sym (without_oldest_none whom (entries_in old) (first_unit next whom old [] (queue_missing whom old missing) sound));
    sound = λ next sound. subst (AreSound next) (sym is) sound;
    room = HasRoom-beside whom old new (λ other apart room. subst (λ (es : Queues). IsSomeAnd (lookup (is_whom other) es) HasSpace) (sym is) room);
  }

  pub removes : (removed : ℕ) → new ≡ swap_remove_entry (is_whom whom) old → IsDistinct is_whom (keys_of new) → ((other : Whom) → is_whom whom other ≡ false → lookup (is_whom other) new ≡ lookup (is_whom other) old) → removed ≡ length (queue_for whom old) → Removes whom old removed new
  removes removed is one_each stays all =
      let gone : (next : Numbers) → AreSound next old → arrivals new ≡ filter (passes (others (is_whom whom))) (arrivals old) =
      λ next sound. ap arrivals is ∙ arrivals-swap_remove (is_whom whom) old (once whom old sound.one_each) sound.apart in
      record {
        count = λ next sound. all ∙ count-units next whom old sound;
        rest = λ next sound. ap (map entry_of) (gone next sound) ∙ sym (filter-map entry_of (λ entry. not (is_for whom entry)) (arrivals old));
        sound = λ next sound. record {
          one_each = one_each;
          numbered = subst (AreNumbered next) (sym is) (AreNumbered-swap_remove (is_whom whom) next old sound.numbered);
          apart = subst IsRising (sym (gone next sound)) (IsRising-filter (passes (others (is_whom whom))) (arrivals old) sound.apart);
        };
        room = HasRoom-beside whom old new (λ other apart room. subst (λ o. IsSomeAnd o HasSpace) (sym (stays other apart)) room);
      }

  -- a unit with the next number comes last
  rising_after : (next : Numbers) (arrived : Arrived) → arrived.number ≡ first_number + next.last → arrivals new ≡ arrivals old ++ arrival_for whom arrived ∷ [] → AreSound next old → IsRising (arrivals new)
  rising_after next arrived is more sound =
      subst IsRising (sym more) (IsRising-last (arrival_for whom arrived) (arrivals old) (subst (λ top. AllBelow top (arrivals old)) (sym is) (AllBelow-arrivals next old sound.numbered)) sound.apart)

  one_more : (arrived : Arrived) → arrivals new ≡ arrivals old ++ arrival_for whom arrived ∷ [] → entries_in new ≡ entries_in old ++ (whom, arrived.unit) ∷ []
  one_more arrived came = ap (map entry_of) came ∙ map-append entry_of (arrivals old) (arrival_for whom arrived ∷ [])

  pub pushes : (q w : Queue) (arrived : Arrived) → lookup (is_whom whom) old ≡ Some q → new ≡ set_value (is_whom whom) old w → w.items ≡ q.items ++ arrived ∷ [] → Pushes whom arrived old new
  pushes q w arrived found is more =
      let came : (next : Numbers) → arrived.number ≡ first_number + next.last → AreSound next old → arrivals new ≡ arrivals old ++ arrival_for whom arrived ∷ [] =
      λ next number sound. ap arrivals is ∙ arrivals-push (is_whom whom) next whom (λ k here. same_whom k whom here) arrived old q w number sound.numbered found more in
      record {
        units = λ next number sound. one_more arrived (came next number sound);
        sound = λ next number sound. sound_after_set (with_last 1 next) w is
            (record { one_each = sound.one_each; numbered = AreNumbered-more next (with_last 1 next) old (omega arith) (omega arith) sound.numbered; apart = sound.apart })
            (subst (IsNumbered (with_last 1 next)) (sym more) (IsNumbered-push next q.items arrived number (IsNumbered-found (is_whom whom) next old q sound.numbered found)))
            (rising_after next arrived number (came next number sound) sound);
      }

  pub pushes_new : (w : Queue) (arrived : Arrived) → new ≡ old ++ (whom, w) ∷ [] → IsDistinct is_whom (keys_of new) → w.items ≡ arrived ∷ [] → Pushes whom arrived old new
  pushes_new w arrived is one_each one =
      let came : (next : Numbers) → arrived.number ≡ first_number + next.last → AreSound next old → arrivals new ≡ arrivals old ++ arrival_for whom arrived ∷ [] =
      λ next number sound. ap arrivals is ∙ arrivals-add_one next whom arrived w old number one sound.numbered in
      record {
        units = λ next number sound. one_more arrived (came next number sound);
        sound = λ next number sound. record {
          one_each = one_each;
          numbered =
              subst (AreNumbered (with_last 1 next)) (sym is)
              (AreNumbered-add (with_last 1 next) whom w old (subst (IsNumbered (with_last 1 next)) (sym one) (IsNumbered-one next arrived number)) (AreNumbered-more next (with_last 1 next) old (omega arith) (omega arith) sound.numbered));
          apart = rising_after next arrived number (came next number sound) sound;
        };
      }

  pub makes_room_in : (q w : Queue) → lookup (is_whom whom) old ≡ Some q → new ≡ set_value (is_whom whom) old w → w.items ≡ q.items → (HasSpace q → HasSpace w) → MakesRoom old new
  makes_room_in q w found is same keeps =
      let stay : arrivals new ≡ arrivals old = ap arrivals is ∙ arrivals-set_same (is_whom whom) old q w found same in
      record {
        units = ap (map entry_of) stay;
        sound = λ next sound.
            sound_after_set next w is sound
            (subst (IsNumbered next) (sym same) (IsNumbered-found (is_whom whom) next old q sound.numbered found))
            (subst IsRising (sym stay) sound.apart);
        room = HasRoom-kept old new (λ other room. subst (λ (es : Queues). IsSomeAnd (lookup (is_whom other) es) HasSpace) (sym is) (HasSpace-set_value (is_whom other) (is_whom whom) old q w found keeps room));
      }

  pub makes_room_new : (w : Queue) → new ≡ old ++ (whom, w) ∷ [] → IsDistinct is_whom (keys_of new) → w.items ≡ [] → MakesRoom old new
  makes_room_new w is one_each empty =
      let stay : arrivals new ≡ arrivals old = ap arrivals is ∙ arrivals-add_empty whom w old empty in
      record {
        units = ap (map entry_of) stay;
        sound = λ next sound. record {
          one_each = one_each;
          numbered = subst (AreNumbered next) (sym is) (AreNumbered-add next whom w old (subst (IsNumbered next) (sym empty) tt) sound.numbered);
          apart = subst IsRising (sym stay) sound.apart;
        };
        room = HasRoom-kept old new (λ other room. subst (λ (es : Queues). IsSomeAnd (lookup (is_whom other) es) HasSpace) (sym is) (HasSpace-add (is_whom other) whom w old room));
      }

-- ---- what the list keeps

no_queues : IsDistinct is_whom []
unfolding IsDistinct
no_queues = tt

pub kept_new : (quota : ℕ) (queues : Queues) → queues ≡ [] → AreKept quota 0 0 0 None queues
kept_new quota queues none = subst (AreKept quota 0 0 0 None) (sym none) (record { sound = record { one_each = no_queues; numbered = tt; apart = tt }; counted = refl; within = omega arith; room = tt })

module _ (quota len puts in_front : ℕ) (reserved : Option Whom) (old new : Queues) (kept : AreKept quota len puts in_front reserved old) where
  abbrev next : Numbers
  next = record { last = puts; in_front = in_front }

  pub kept_same : MakesRoom old new → AreKept quota len puts in_front reserved new
  kept_same made = record { sound = made.sound next kept.sound; counted = kept.counted ∙ ap length (sym made.units); within = kept.within; room = made.room reserved kept.room }

  pub kept_reserved : (whom : Whom) → MakesRoom old new → HasRoom (Some whom) new → AreKept quota len puts in_front (Some whom) new
  kept_reserved whom made room = record { sound = made.sound next kept.sound; counted = kept.counted ∙ ap length (sym made.units); within = kept.within; room = room }

  -- room for one is given up
  pub kept_beside : (whom : Whom) (room : Option Whom) → new ≡ old → room ≡ room_beside whom reserved → AreKept quota len puts in_front room new
  kept_beside whom room same is = subst (AreKept quota len puts in_front room) (sym same) (record {
    sound = kept.sound;
    counted = kept.counted;
    within = kept.within;
    room = subst (λ r. HasRoom r old) (sym is) (HasRoom-beside whom old old (λ other apart space. space) reserved kept.room);
  })

  pub kept_empty : (whom : Whom) (room : Option Whom) → Pops whom old None new → room ≡ room_beside whom reserved → AreKept quota len puts in_front room new
  kept_empty whom room popped is = record {
    sound = popped.sound next kept.sound;
    counted = kept.counted ∙ ap length (sym (popped.rest next kept.sound ∙ without_oldest_none whom (entries_in old) (popped.unit next kept.sound)));
    within = kept.within;
    room = subst (λ r. HasRoom r new) (sym is) (popped.room reserved kept.room);
  }

  one_less : (whom : Whom) (unit : Msdu) → Pops whom old (Some unit) new → len ≡ length (entries_in new) + 1
  one_less whom unit popped =
      kept.counted
      ∙ length-without_oldest whom (entries_in old) unit (popped.unit next kept.sound)
      ∙ ap (λ es. length es + 1) (sym (popped.rest next kept.sound))

  pub some_left : (whom : Whom) (unit : Msdu) → Pops whom old (Some unit) new → 1 ≤ len
  some_left whom unit popped = let count = one_less whom unit popped in omega arith

  pub kept_popped : (whom : Whom) (unit : Msdu) (room : Option Whom) → Pops whom old (Some unit) new → room ≡ room_beside whom reserved → AreKept quota (len - 1) puts in_front room new
  kept_popped whom unit room popped is = record {
    sound = popped.sound next kept.sound;
    counted = let count = one_less whom unit popped in omega arith;
    within = omega (arith, kept.within);
    room = subst (λ r. HasRoom r new) (sym is) (popped.room reserved kept.room);
  }

  fewer : (whom : Whom) (removed : ℕ) → Removes whom old removed new → len ≡ length (entries_in new) + removed
  fewer whom removed gone =
      kept.counted
      ∙ sym (length-without_all whom (entries_in old))
      ∙ ap (λ es. length es + length (units_for whom (entries_in old))) (sym (gone.rest next kept.sound))
      ∙ ap (λ n. length (entries_in new) + n) (sym (gone.count next kept.sound))

  pub removed_within : (whom : Whom) (removed : ℕ) → Removes whom old removed new → removed ≤ len
  removed_within whom removed gone = let count = fewer whom removed gone in omega arith

  pub kept_removed : (whom : Whom) (removed : ℕ) (room : Option Whom) → Removes whom old removed new → room ≡ room_beside whom reserved → AreKept quota (len - removed) puts in_front room new
  kept_removed whom removed room gone is = record {
    sound = gone.sound next kept.sound;
    counted = let count = fewer whom removed gone in omega arith;
    within = omega (arith, kept.within);
    room = subst (λ r. HasRoom r new) (sym is) (gone.room reserved kept.room);
  }

  -- a unit came where there was room for it
  pub kept_pushed : (whom : Whom) (arrived : Arrived) → Pushes whom arrived old new → arrived.number ≡ first_number + puts → length (entries_in old) < quota → AreKept quota (len + 1) (puts + 1) in_front None new
  kept_pushed whom arrived pushed number room = record {
    sound = pushed.sound next number kept.sound;
    counted = ap (λ n. n + 1) kept.counted ∙ sym (ap length (pushed.units next number kept.sound) ∙ length_push (entries_in old) (whom, arrived.unit));
    within = omega (arith, kept.counted, room);
    room = tt;
  }

  -- a unit came back where there was room for it
  pub kept_put_back : (whom : Whom) (first before : ℕ) (unit : Msdu) → PutsBack whom first before unit old new → first + (before + 1) + in_front ≡ first_number → length (entries_in old) < quota → AreKept quota (len + 1) puts (in_front + (before + 1)) None new
  kept_put_back whom first before unit put number room = record {
    sound = put.sound next number kept.sound;
    counted = ap (λ n. n + 1) kept.counted ∙ sym (ap length (put.units next number kept.sound) ∙ length-put_back whom before unit (entries_in old));
    within = omega (arith, kept.counted, room);
    room = tt;
  }

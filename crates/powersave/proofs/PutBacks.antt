-- What becomes of the queues where a unit comes back to one, which may be new, and where one is handed over.
use Rattle.std.proofs.Common.{◌≡◌, ℕ, zero, suc, ◌+◌, ◌<◌, ◌≤◌, List, [], ◌∷◌, ◌++◌, map, take, drop, Some, None, refl, sym, ap, ◌∙◌, subst, arith}
use Rattle.std.specs.List.{AllByRecursion, IsDistinct, take-map}
use Rattle.std.specs.Map.{keys_of, lookup, set_value}
use Rattle.std.proofs.lemmas.List.{length-append, length-map, length-take, map-append}
use Rattle.powersave.specs.declared.unit.Whom.{Whom}
use Rattle.powersave.specs.declared.unit.Unit.{Unit as Msdu}
use Rattle.powersave.specs.declared.queues.Arrived.{Arrived}
use Rattle.powersave.specs.Keep.{is_for, units_for, without_first}
use Rattle.powersave.specs.Returns.{without_firsts, without_first_of, up_to_it, put_back}
use Rattle.powersave.specs.Queues.{Queue, Queues, Arrival, is_whom, queue_for, arrivals, entries_in, first_number, numbered_from, Numbers, with_front, units_of, queue_with, IsNumbered, AreNumbered, IsRising, AreSound, PutsBack}
use Rattle.powersave.proofs.Parts.{same_whom}
use Rattle.powersave.proofs.Merges.{passes}
use Rattle.powersave.proofs.Returns.{for_one, first_of_none, take_none}
use Rattle.powersave.proofs.Fronts.{front, Fits, AreHigher-arrivals, AreHigher-without_firsts, IsRising-without_firsts, IsRising-front, arrivals-front, arrivals-add_front}
use Rattle.powersave.proofs.QueueSteps.{entry_of, once, queue_found, queue_missing, units_for-entries_in, without_first-map, IsNumbered-found, IsNumbered-more, AreNumbered-more, AreNumbered-add, sound_after_set}

-- ---- entries

entries_front : (whom : Whom) (n : ℕ) (us : List Msdu) → map entry_of (front whom n us) ≡ map (for_one whom) us
entries_front whom n [] = refl
entries_front whom n (u ∷ us) = ap (λ es. (whom, u) ∷ es) (entries_front whom (n + 1) us)

entries_without : (whom : Whom) (n : ℕ) (bs : List Arrival) → without_first_of whom n (map entry_of bs) ≡ map entry_of (without_firsts (passes (is_whom whom)) n bs)
entries_without whom zero bs = refl
entries_without whom (suc n) bs =
    ap (without_first_of whom n) (without_first-map entry_of (is_for whom) bs)
    ∙ entries_without whom n (without_first (passes (is_whom whom)) bs)

-- ---- numbers

IsNumbered-drops : (given : Numbers) (n : ℕ) (queue : List Arrived) → IsNumbered given queue → IsNumbered given (drop n queue)
IsNumbered-drops given zero queue numbered = numbered
IsNumbered-drops given (suc n) [] numbered = tt
IsNumbered-drops given (suc n) (a ∷ queue) numbered = IsNumbered-drops given n queue numbered.2

module _ (given : Numbers) (more : ℕ) where
  above_queue : (m : ℕ) (queue : List Arrived) → m + given.in_front < first_number → IsNumbered given queue → AllByRecursion (λ b. m < b.number) queue
  above_queue m [] lower numbered = tt
  above_queue m (a ∷ queue) lower numbered = let here = numbered.3 in (omega (arith, lower, here), above_queue m queue lower numbered.2)

  above_numbered : (m n : ℕ) (us : List Msdu) (queue : List Arrived) → m < n → m + given.in_front < first_number → IsNumbered given queue → AllByRecursion (λ b. m < b.number) (numbered_from n us ++ queue)
  above_numbered m n [] queue lt lower numbered = above_queue m queue lower numbered
  above_numbered m n (u ∷ us) queue lt lower numbered = (lt, above_numbered m (n + 1) us queue (omega (arith, lt)) lower numbered)

  IsNumbered-front : (n : ℕ) (us : List Msdu) (queue : List Arrived) → Fits given n us → first_number ≤ n + (given.in_front + more) → IsNumbered given queue → IsNumbered (with_front more given) (numbered_from n us ++ queue)
  IsNumbered-front n [] queue fits from numbered = IsNumbered-more given (with_front more given) queue (omega arith) (omega arith) numbered
  IsNumbered-front n (u ∷ us) queue fits from numbered =
      (omega (arith, fits), above_numbered n (n + 1) us queue (omega arith) (omega (arith, fits)) numbered, IsNumbered-front (n + 1) us queue (omega (arith, fits)) (omega (arith, from)) numbered, from)

-- ---- a unit comes back

module _ (whom : Whom) (first before : ℕ) (unit : Msdu) (old new : Queues) where
  -- those that go in front, of a queue
  abbrev in_front : List Arrived → List Msdu
  in_front queue = units_of (take before queue) ++ unit ∷ []

  fits_front : (queue : List Arrived) (given : Numbers) → first + (before + 1) + given.in_front ≡ first_number → Fits given first (in_front queue)
  fits_front queue given is =
      let all = length-append (units_of (take before queue)) (unit ∷ []) in
      let some = length-map (take before queue) (λ (a : Arrived). a.unit) in
      let few = length-take before queue in
      omega (arith, is, all, some, few)

  -- they are those of the list
  in_front_of : (queue : List Arrived) (given : Numbers) → queue_for whom old ≡ queue → AreSound given old → in_front queue ≡ up_to_it whom before unit (entries_in old)
  in_front_of queue given is sound =
      ap (λ us. us ++ unit ∷ [])
      (sym (take-map (λ (a : Arrived). a.unit) before queue)
      ∙ ap (λ (q : List Arrived). take before (units_of q)) (sym is)
      ∙ ap (take before) (sym (units_for-entries_in given whom old sound)))

  came_back : (us : List Msdu) → us ≡ up_to_it whom before unit (entries_in old) → arrivals new ≡ front whom first us ++ without_firsts (passes (is_whom whom)) before (arrivals old) → entries_in new ≡ put_back whom before unit (entries_in old)
  came_back us is came =
      let rest = without_firsts (passes (is_whom whom)) before (arrivals old) in
      ap (map entry_of) came
      ∙ map-append entry_of (front whom first us) rest
      ∙ ap (λ es. es ++ map entry_of rest) (entries_front whom first us ∙ ap (map (for_one whom)) is)
      ∙ ap (λ es. map (for_one whom) (up_to_it whom before unit (entries_in old)) ++ es) (sym (entries_without whom before (arrivals old)))

  rising_in_front : (us : List Msdu) (given : Numbers) → Fits given first us → AreSound given old → arrivals new ≡ front whom first us ++ without_firsts (passes (is_whom whom)) before (arrivals old) → IsRising (arrivals new)
  rising_in_front us given fits sound came =
      subst IsRising (sym came)
      (IsRising-front given whom first us (without_firsts (passes (is_whom whom)) before (arrivals old)) fits
      (AreHigher-without_firsts (passes (is_whom whom)) given before (arrivals old) (AreHigher-arrivals given old sound.numbered))
      (IsRising-without_firsts (passes (is_whom whom)) before (arrivals old) sound.apart))

  pub puts_back : (q w : Queue) → lookup (is_whom whom) old ≡ Some q → new ≡ set_value (is_whom whom) old w → w.items ≡ queue_with first before unit q.items → PutsBack whom first before unit old new
  puts_back q w found is with_it =
      let us = in_front q.items in
      let came : (given : Numbers) → first + (before + 1) + given.in_front ≡ first_number → AreSound given old → arrivals new ≡ front whom first us ++ without_firsts (passes (is_whom whom)) before (arrivals old) =
      λ given number sound. ap arrivals is ∙ arrivals-front (is_whom whom) whom (λ k here. same_whom k whom here) given first before us old q w (fits_front q.items given number) sound.numbered (once whom old sound.one_each) found with_it in
      record {
        units = λ given number sound. came_back us (in_front_of q.items given (queue_found whom old q found) sound) (came given number sound);
        sound = λ given number sound.
            sound_after_set whom old new (with_front (before + 1) given) w is
            (record { one_each = sound.one_each; numbered = AreNumbered-more given (with_front (before + 1) given) old (omega arith) (omega arith) sound.numbered; apart = sound.apart })
            (subst (IsNumbered (with_front (before + 1) given)) (sym with_it)
            (IsNumbered-front given (before + 1) first us (drop before q.items) (fits_front q.items given number) (omega (arith, number))
            (IsNumbered-drops given before q.items (IsNumbered-found (is_whom whom) given old q sound.numbered found))))
            (rising_in_front us given (fits_front q.items given number) sound (came given number sound));
      }

  pub puts_back_new : (w : Queue) → lookup (is_whom whom) old ≡ None → new ≡ old ++ (whom, w) ∷ [] → IsDistinct is_whom (keys_of new) → w.items ≡ (record { number = first; unit = unit }) ∷ [] → PutsBack whom first before unit old new
  puts_back_new w missing is one_each one =
      let us = unit ∷ [] in
      let none : (given : Numbers) → AreSound given old → units_for whom (entries_in old) ≡ [] =
      λ given sound. units_for-entries_in given whom old sound ∙ ap units_of (queue_missing whom old missing) in
      let front_is : (given : Numbers) → AreSound given old → us ≡ up_to_it whom before unit (entries_in old) =
      λ given sound. ap (λ vs. vs ++ unit ∷ []) (sym (ap (take before) (none given sound) ∙ take_none before)) in
      let fits : (given : Numbers) → first + (before + 1) + given.in_front ≡ first_number → Fits given first us =
      λ given number. omega (arith, number) in
      let came : (given : Numbers) → first + (before + 1) + given.in_front ≡ first_number → AreSound given old → arrivals new ≡ front whom first us ++ arrivals old =
      λ given number sound. ap arrivals is ∙ arrivals-add_front given whom first us w old (fits given number) sound.numbered one in
      record {
        units = λ given number sound.
            ap (map entry_of) (came given number sound)
            ∙ ap (λ es. for_one whom unit ∷ es) (sym (first_of_none whom before (entries_in old) (none given sound)))
            ∙ ap (λ vs. map (for_one whom) vs ++ without_first_of whom before (entries_in old)) (front_is given sound);
        sound = λ given number sound. record {
          one_each = one_each;
          numbered =
              subst (AreNumbered (with_front (before + 1) given)) (sym is)
              (AreNumbered-add (with_front (before + 1) given) whom w old
              (subst (IsNumbered (with_front (before + 1) given)) (sym one) (IsNumbered-front given (before + 1) first us [] (fits given number) (omega (arith, number)) tt))
              (AreNumbered-more given (with_front (before + 1) given) old (omega arith) (omega arith) sound.numbered));
          apart = subst IsRising (sym (came given number sound)) (IsRising-front given whom first us (arrivals old) (fits given number) (AreHigher-arrivals given old sound.numbered) sound.apart);
        };
      }

-- Networks take a line, one place after the other.
use Rattle.std.proofs.Common.{◌≡◌, ℕ, zero, suc, ◌+◌, ◌<◌, ◌≤◌, List, [], ◌∷◌, ◌++◌, Option, None, length, map, take, drop, get_or, set, refl, sym, ap, subst, ◌∙◌, arith, append_assoc, append-nil, length-take}
use Rattle.std.specs.List.{AllByRecursion}
use Rattle.std.proofs.lemmas.List.{take_more, take_all, drop_more, drop_all, get_or_default, set-get_or}
use Rattle.std.proofs.Math.Seq.{get_or-append_seam, set-append_seam}
use Rattle.events.specs.Lines.{event_for}
use Rattle.events.specs.declared.event.Event.{Event}
use Rattle.events.specs.declared.line.Line.{Line}
use Rattle.networks.specs.Takes.{Change, Takes, TakesIf, change, dispatch}

module _ {N O : Type 0} (bssid : N → List ℕ) (delivers : Event → Change N → Change O → Type 0) (line : Line) where
  -- ---- one network more

  takes-more : (place next : ℕ) (ns ms : List N) (n m : N) (old mid new : O) → next ≡ place + length ns
      → Takes (dispatch bssid delivers line place) ns ms (change old mid)
      → TakesIf delivers (event_for next (bssid n) line) (change n m) (change mid new)
      → Takes (dispatch bssid delivers line place) (ns ++ n ∷ []) (ms ++ m ∷ []) (change old new)
  takes-more place next [] [] n m old mid new is h k =
      let here : next ≡ place = omega arith in (
        new,
        subst (λ (p : ℕ). TakesIf delivers (event_for p (bssid n) line) (change n m) (change old new)) here
            (subst (λ (o : O). TakesIf delivers (event_for next (bssid n) line) (change n m) (change o new)) h.1 k),
        (refl, refl),
      )
  takes-more place next [] (x ∷ ms) n m old mid new is h k = absurd (let none : x ∷ ms ≡ [] = h.0 in cc)
  takes-more place next (x ∷ ns) [] n m old mid new is h k = absurd h
  takes-more place next (x ∷ ns) (y ∷ ms) n m old mid new is h k =
      let there : next ≡ place + 1 + length ns = omega arith in
      (h.0, h.1, takes-more (place + 1) next ns ms n m h.0 mid new there h.2 k)

  length-takes : (place : ℕ) (ns ms : List N) (old new : O) → Takes (dispatch bssid delivers line place) ns ms (change old new)
      → length ms ≡ length ns
  length-takes place [] ms old new h = ap length h.0
  length-takes place (n ∷ ns) [] old new h = absurd h
  length-takes place (n ∷ ns) (m ∷ ms) old new h = ap suc (length-takes (place + 1) ns ms h.0 new h.2)

  -- ---- the networks up to a place

  -- those before the place took it, and the others are as they were
  pub record TakesSoFar (place : ℕ) (ns now : List N) (old new : O) : Type 0 where
    pub done : List N
    pub takes : Takes (dispatch bssid delivers line 0) (take place ns) done (change old new)
    pub rest : now ≡ done ++ drop place ns
    pub within : place ≤ length ns

  length-done : (place : ℕ) (ns now : List N) (old new : O) (s : TakesSoFar place ns now old new) → length s.done ≡ place
  length-done place ns now old new s =
      let all : length s.done ≡ length (take place ns) = length-takes 0 (take place ns) s.done old new s.takes in
      let within : place ≤ length ns = s.within in
      omega (arith, all, length-take place ns)

  -- the network there is as it was
  pub as-before : (place : ℕ) (ns now : List N) (old new : O) (d : N) → TakesSoFar place ns now old new → place < length ns
      → get_or now place d ≡ get_or ns place d
  as-before place ns now old new d s within =
      let count : length s.done ≡ place = length-done place ns now old new s in
      ap (λ (ms : List N). get_or ms place d) (s.rest ∙ ap (λ (ms : List N). s.done ++ ms) (drop_more ns place d within))
      ∙ ap (λ (k : ℕ). get_or (s.done ++ get_or ns place d ∷ drop (place + 1) ns) k d) (sym count)
      ∙ get_or-append_seam s.done (get_or ns place d) (drop (place + 1) ns) d

  pub takes-none : (ns : List N) (o : O) → TakesSoFar 0 ns ns o o
  takes-none ns o = record { done = []; takes = (refl, refl); rest = refl; within = omega arith }

  pub takes-next : (place : ℕ) (ns now : List N) (old mid new : O) (n m : N) → TakesSoFar place ns now old mid
      → place < length ns → n ≡ get_or now place n → TakesIf delivers (event_for place (bssid n) line) (change n m) (change mid new)
      → TakesSoFar (place + 1) ns (set now place m) old new
  takes-next place ns now old mid new n m s within there h = record {
    done = s.done ++ m ∷ [];
    takes =
        subst (λ (ms : List N). Takes (dispatch bssid delivers line 0) ms (s.done ++ m ∷ []) (change old new)) (sym upto)
        (takes-more 0 place (take place ns) s.done n m old mid new count s.takes h);
    rest =
        ap (λ (ms : List N). set ms place m)
        (s.rest ∙ ap (λ (ms : List N). s.done ++ ms) (drop_more ns place n within))
        ∙ ap (λ (k : ℕ). set (s.done ++ get_or ns place n ∷ drop (place + 1) ns) k m) (sym done)
        ∙ set-append_seam s.done (get_or ns place n) (drop (place + 1) ns) m
        ∙ sym (append_assoc s.done (m ∷ []) (drop (place + 1) ns));
    within = omega arith;
  }
    where
      done : length s.done ≡ place
      done = length-done place ns now old mid s

      count : place ≡ 0 + length (take place ns)
      count = omega (arith, length-take place ns)

      here : n ≡ get_or ns place n
      here = there ∙ as-before place ns now old mid n s within

      upto : take (place + 1) ns ≡ take place ns ++ n ∷ []
      upto = take_more ns place n within ∙ ap (λ (x : N). take place ns ++ x ∷ []) (sym here)

  pub takes-all : (place : ℕ) (ns now : List N) (old new : O) → TakesSoFar place ns now old new → length ns ≤ place
      → Takes (dispatch bssid delivers line 0) ns now (change old new)
  takes-all place ns now old new s all =
      let whole : take place ns ≡ ns = take_all place ns all in
      let same : now ≡ s.done =
      s.rest ∙ ap (λ (ms : List N). s.done ++ ms) (drop_all place ns all) ∙ append-nil s.done in
      subst (λ (ms : List N). Takes (dispatch bssid delivers line 0) ns ms (change old new)) (sym same)
      (subst (λ (ms : List N). Takes (dispatch bssid delivers line 0) ms s.done (change old new)) whole s.takes)

  -- ---- networks that don't hear it

  -- one more of them is left as it is
  takes-past : (place : ℕ) (ns now : List N) (old mid : O) (n : N) → TakesSoFar place ns now old mid → place < length ns
      → n ≡ get_or ns place n → event_for place (bssid n) line ≡ None → TakesSoFar (place + 1) ns now old mid
  takes-past place ns now old mid n s within is none =
      let there : n ≡ get_or now place n = is ∙ sym (as-before place ns now old mid n s within) in
      let same : set now place n ≡ now = ap (set now place) there ∙ set-get_or now place n in
      subst (λ (ms : List N). TakesSoFar (place + 1) ns ms old mid) same
      (takes-next place ns now old mid mid n n s within there
      (subst (λ (e : Option Event). TakesIf delivers e (change n n) (change mid mid)) (sym none) (refl, refl)))

  -- so many more of them are
  pub takes-skip : (place : ℕ) (ns now : List N) (old mid : O) (k : ℕ) → TakesSoFar place ns now old mid
      → place + k ≤ length ns
      → ((j : ℕ) (n : N) → place ≤ j → j < place + k → n ≡ get_or ns j n → event_for j (bssid n) line ≡ None)
      → TakesSoFar (place + k) ns now old mid
  takes-skip place ns now old mid zero s within none =
      let here : place ≡ place + 0 = omega arith in subst (λ (p : ℕ). TakesSoFar p ns now old mid) here s
  takes-skip place ns now old mid (suc k) s within none =
      by ns refl
      (λ n is. subst (λ (p : ℕ). TakesSoFar p ns now old mid) there
      (takes-skip (place + 1) ns now old mid k
      (takes-past place ns now old mid n s (omega (arith, within)) is (none place n (omega arith) (omega arith) is))
      (omega (arith, within))
      (λ j m low high at. none j m (omega (arith, low)) (omega (arith, high)) at)))
    where
      there : place + 1 + k ≡ place + suc k
      there = omega arith

      by : (ms : List N) → ns ≡ ms → ((n : N) → n ≡ get_or ns place n → TakesSoFar (place + suc k) ns now old mid)
          → TakesSoFar (place + suc k) ns now old mid
      by [] same go = absurd (omega (arith, within, ap length same))
      by (m ∷ ms) same go =
          go (get_or ns place m) (get_or_default ns place m (get_or ns place m) (omega (arith, within)))

-- ---- what holds of each network

pub all-at : {N : Type 0} (P : N → Type 0) (ns : List N) (place : ℕ) (d : N) → place < length ns → AllByRecursion P ns
    → P (get_or ns place d)
all-at P [] place d within all = absurd (omega (arith, within))
all-at P (n ∷ ns) zero d within all = all.0
all-at P (n ∷ ns) (suc place) d within all = all-at P ns place d (omega (arith, within)) all.1

-- one that keeps its address changes no address
pub addresses-kept : {N : Type 0} (bssid : N → List ℕ) (ns : List N) (place : ℕ) (n m : N) → n ≡ get_or ns place n
    → bssid m ≡ bssid n → map bssid (set ns place m) ≡ map bssid ns
addresses-kept bssid [] place n m there same = refl
addresses-kept bssid (x ∷ ns) zero n m there same = ap (λ (b : List ℕ). b ∷ map bssid ns) (same ∙ ap bssid there)
addresses-kept bssid (x ∷ ns) (suc place) n m there same =
    ap (λ (bs : List (List ℕ)). bssid x ∷ bs) (addresses-kept bssid ns place n m there same)

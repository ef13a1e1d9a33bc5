-- Each kind of step keeps the rule of the queue, and what the radio's pass learns follows from it.
use Rattle.std.proofs.Common.{◌≡◌, ◌⊎◌, ℕ, zero, suc, ◌+◌, ◌<◌, ◌==◌, List, [], ◌∷◌, ◌++◌, length, Option, Some, None, if◌then◌else◌, eqb, set, refl, sym, ap, subst, ◌∙◌, inl, inr, ⊎_elim, append_assoc, unwrap_or, arith}
use Rattle.std.specs.Prelude.{All}
use Rattle.std.specs.FinMap as finite
use mathlib.Core.Option.{some, some-injective, some-ne-none}
use lib.ListN.{get_elem?}
use Rattle.std.proofs.lemmas.Bool.{cases_eq, cond-true, cond-false, eq-eqb, ne_eqb}
use Rattle.std.proofs.lemmas.List.{length-set}
use Rattle.std.proofs.lemmas.List.Elements.{All-push, All-head, All-tail, All-nil}
use Rattle.crossbeam_queue.specs.Fifo.{Pushes, Pops, Forks, Merges, Learns}
use Rattle.crossbeam_queue.proofs.Lists.{at_set, set_here, set_else, at_longer, at_last}
use Rattle.events.specs.Items.{items_of}
use Rattle.events.specs.declared.air_item.AirItem.{AirItem}
use Rattle.air_queue.specs.Passes.{TakenIn}
use Rattle.air_queue.specs.Rule.{IsKept, IsNetworkAt, IsRadioWith, Accounts, left_of, pushed_by, networks_of, taken_in_of, fresh, giving, given, pushing, leaving, taking_in}
use Rattle.air_queue.specs.declared.known.Known.{Known}
use Rattle.air_queue.specs.declared.known.Known.TheVariants.{Network, Radio, Spent}
use Rattle.air_queue.proofs.Items.{items_of-here, items_of-other, items_of-none, below_more}
use Rattle.air_queue.proofs.Entries.{get-here, get-other}

-- ---- lists of passes

one_value : {A : Type 0} (l : List A) (i : ℕ) (a b : A) → get_elem? l i ≡ some a → get_elem? l i ≡ some b → a ≡ b
one_value l i a b e f = some-injective a b (sym e ∙ f)

within : {A : Type 0} (l : List A) (i : ℕ) (a : A) → get_elem? l i ≡ some a → i < length l
within [] i a e = absurd (some-ne-none a (sym e))
within (x ∷ xs) zero a e = omega arith
within (x ∷ xs) (suc i) a e = let h = within xs i a e in omega (arith, h)

-- what stands in a list with one more: in the list, or it is the one more
at_more : {A : Type 0} (l : List A) (a b : A) (i : ℕ) → get_elem? (l ++ a ∷ []) i ≡ some b → (get_elem? l i ≡ some b) ⊎ ((i ≡ length l) × (a ≡ b))
at_more [] a b zero e = inr (refl, some-injective a b e)
at_more [] a b (suc i) e = absurd (some-ne-none b (sym e))
at_more (x ∷ xs) a b zero e = inl e
at_more (x ∷ xs) a b (suc i) e = ⊎_elim (λ t. inl t) (λ t. inr (ap suc t.0, t.1)) (at_more xs a b i e)

-- ---- the place of a pass

abbrev place_of : Known → ℕ
place_of (Network place pushed) = place
place_of (Radio left networks taken_in) = 0
place_of Spent = 0

-- ---- lists of items

All_at : (P : AirItem → Type 0) (xs : List AirItem) (x : AirItem) (ys : List AirItem) → All P (xs ++ x ∷ ys) → P x
All_at P [] x ys all = All-head P x ys all
All_at P (y ∷ xs) x ys all = All_at P xs x ys (All-tail P y (xs ++ x ∷ ys) all)

-- ---- the radio's pass

-- there is one, so it knows what the rule says
radio_knows : {items : List AirItem} {passes : List Known} {left : List AirItem} {networks : ℕ} {taken_in : TakenIn} → (h : IsKept items passes) (port : ℕ) → get_elem? passes port ≡ some (Radio left networks taken_in) → Radio h.left h.networks h.taken_in ≡ Radio left networks taken_in
radio_knows {passes = passes} h port at = one_value passes port _ _ (ap (get_elem? passes) (h.one_radio port _ _ _ at) ∙ h.radio_pass) at

-- and it is no network's
no_seat : (passes : List Known) (port seat : ℕ) {left : List AirItem} {networks place : ℕ} {taken_in : TakenIn} {pushed : List (List ℕ)} → get_elem? passes port ≡ some (Radio left networks taken_in) → get_elem? passes seat ≡ some (Network place pushed) → seat ≡ port → ⊥
no_seat passes port seat at there e = cc (ap (get_elem? passes) e, at, there)

-- ---- a new queue

pub begins : IsKept [] (fresh ∷ [])
begins = record {
  left = [];
  networks = 0;
  taken_in = finite.empty;
  all = [];
  parts = refl;
  radio = 0;
  radio_pass = refl;
  one_radio = λ number out given taken at. first number (Radio out given taken) at;
  seat = λ place. 0;
  net_pass = λ place below none. absurd (omega (arith, below));
  one_net_pass = λ number place pushed at. absurd (alone number place pushed at);
  taken_in_pass = λ place pushed is. absurd (cc (is, finite.get-empty _ place));
  placed = All-nil _;
}
  where
    first : (number : ℕ) (v : Known) → get_elem? (fresh ∷ []) number ≡ some v → number ≡ 0
    first zero v at = refl
    first (suc number) v at = absurd (some-ne-none v (sym at))

    alone : (number place : ℕ) (pushed : List (List ℕ)) → get_elem? (fresh ∷ []) number ≡ some (Network place pushed) → ⊥
    alone zero place pushed at = cc
    alone (suc number) place pushed at = cc

-- ---- a push that adds

network_pushes : (n port place : ℕ) (pushed : List (List ℕ)) (item : AirItem) → item.place ≡ place → Pushes IsKept n port (Network place pushed) item (λ w. w ≡ pushing (Network place pushed) item)
network_pushes n port place pushed item here items passes room h at = (w, kept, refl)
  where
    w : Known
    w = Network place (pushed ++ item.octets ∷ [])

    all : List AirItem
    all = h.all ++ item ∷ []

    mine : (port ≡ h.seat place) × (place < h.networks) × (finite.get h.taken_in place ≡ None) × (pushed ≡ items_of place h.all)
    mine = h.one_net_pass port place pushed at

    now : pushed ++ item.octets ∷ [] ≡ items_of place all
    now = ap (λ (fs : List (List ℕ)). fs ++ item.octets ∷ []) mine.3 ∙ sym (items_of-here place h.all item here)

    other : (q : ℕ) → (q ≡ place → ⊥) → items_of q all ≡ items_of q h.all
    other q ne = items_of-other q h.all item (λ e. ne (sym e ∙ here))

    not_radio : h.radio ≡ port → ⊥
    not_radio e = cc (ap (get_elem? passes) e, h.radio_pass, at)

    not_seat : (q : ℕ) → (q ≡ place → ⊥) → (fs : List (List ℕ)) → get_elem? passes (h.seat q) ≡ some (Network q fs) → h.seat q ≡ port → ⊥
    not_seat q ne fs there e = ne (ap place_of (one_value passes port _ _ (subst (λ k. get_elem? passes k ≡ some (Network q fs)) e there) at))

    net_pass : (q : ℕ) → q < h.networks → finite.get h.taken_in q ≡ None → get_elem? (set passes port w) (h.seat q) ≡ some (Network q (items_of q all))
    net_pass q below none =
        elim (cases_eq q place) [
          | inl e ↦
              subst (λ k. get_elem? (set passes port w) (h.seat k) ≡ some (Network k (items_of k all))) (sym e)
              (subst (λ k. get_elem? (set passes port w) k ≡ some (Network place (items_of place all))) mine.0
              (set_here passes port w (within passes port _ at) ∙ ap (λ (fs : List (List ℕ)). some (Network place fs)) now))
          | inr ne ↦
              let there = h.net_pass q below none in
              set_else passes port (h.seat q) w (not_seat q ne _ there) ∙ there
              ∙ ap (λ (fs : List (List ℕ)). some (Network q fs)) (sym (other q ne))
        ]

    one_net_pass : (number q : ℕ) (fs : List (List ℕ)) → get_elem? (set passes port w) number ≡ some (Network q fs) → (number ≡ h.seat q) × (q < h.networks) × (finite.get h.taken_in q ≡ None) × (fs ≡ items_of q all)
    one_net_pass number q fs there =
        elim (at_set passes port number w (Network q fs) there) [
          | inl t ↦
              let e : place ≡ q = ap place_of t.1 in
              subst (λ k. (number ≡ h.seat k) × (k < h.networks) × (finite.get h.taken_in k ≡ None) × (fs ≡ items_of k all)) e
              (t.0 ∙ mine.0, mine.1, mine.2, sym (ap pushed_by t.1) ∙ now)
          | inr t ↦
              let old = h.one_net_pass number q fs t.1 in
              let ne : q ≡ place → ⊥ = λ e. t.0 (old.0 ∙ ap h.seat e ∙ sym mine.0) in
              (old.0, old.1, old.2, old.3 ∙ sym (other q ne))
        ]

    taken_in_pass : (q : ℕ) (fs : List (List ℕ)) → finite.get h.taken_in q ≡ Some fs → (q < h.networks) × (fs ≡ items_of q all)
    taken_in_pass q fs is =
        let ne : q ≡ place → ⊥ = λ e. cc (is, ap (finite.get h.taken_in) e, mine.2) in
        ((h.taken_in_pass q fs is).0, (h.taken_in_pass q fs is).1 ∙ sym (other q ne))

    kept : IsKept (items ++ item ∷ []) (set passes port w)
    kept = record {
      left = h.left;
      networks = h.networks;
      taken_in = h.taken_in;
      all = all;
      parts = ap (λ (xs : List AirItem). xs ++ item ∷ []) h.parts ∙ append_assoc h.left items (item ∷ []);
      radio = h.radio;
      radio_pass = set_else passes port h.radio w not_radio ∙ h.radio_pass;
      one_radio =
          λ number out given taken there. ⊎_elim
          (λ t. absurd (cc t.1))
          (λ t. h.one_radio number out given taken t.1)
          (at_set passes port number w (Radio out given taken) there);
      seat = h.seat;
      net_pass = net_pass;
      one_net_pass = one_net_pass;
      taken_in_pass = taken_in_pass;
      placed = All-push (λ (x : AirItem). x.place < h.networks) h.all item h.placed (subst (λ k. k < h.networks) (sym here) mine.1);
    }

pub pushes : (n port : ℕ) (v : Known) (item : AirItem) → IsNetworkAt item.place v → Pushes IsKept n port v item (λ w. w ≡ pushing v item)
pushes n port (Network place pushed) item here = network_pushes n port place pushed item (sym here)
pushes n port v item here = absurd here

-- ---- a pop that takes

radio_pops : (port : ℕ) (left : List AirItem) (networks : ℕ) (taken_in : TakenIn) → Pops IsKept port (Radio left networks taken_in) (λ item w. (w ≡ leaving (Radio left networks taken_in) item) × (item.place < networks))
radio_pops port left networks taken_in item items passes h at = (w, kept, (refl, below))
  where
    w : Known
    w = Radio (left ++ item ∷ []) networks taken_in

    mine : port ≡ h.radio
    mine = h.one_radio port left networks taken_in at

    same : Radio left networks taken_in ≡ Radio h.left h.networks h.taken_in
    same = sym (radio_knows h port at)

    parts : h.all ≡ (left ++ item ∷ []) ++ items
    parts = h.parts ∙ ap (λ (xs : List AirItem). xs ++ item ∷ items) (sym (ap left_of same)) ∙ sym (append_assoc left (item ∷ []) items)

    below : item.place < networks
    below =
        let lt = All_at (λ (x : AirItem). x.place < h.networks) h.left item items (subst (All (λ (x : AirItem). x.place < h.networks)) h.parts h.placed) in
        subst (λ k. item.place < k) (sym (ap networks_of same)) lt

    kept : IsKept items (set passes port w)
    kept = record {
      left = left ++ item ∷ [];
      networks = h.networks;
      taken_in = h.taken_in;
      all = h.all;
      parts = parts;
      radio = port;
      radio_pass =
          set_here passes port w (within passes port _ at)
          ∙ ap (λ (v : Known). some (Radio (left ++ item ∷ []) (networks_of v) (taken_in_of v))) same;
      one_radio =
          λ number out given taken there. ⊎_elim
          (λ t. t.0)
          (λ t. h.one_radio number out given taken t.1 ∙ sym mine)
          (at_set passes port number w (Radio out given taken) there);
      seat = h.seat;
      net_pass =
          λ q under none. let there = h.net_pass q under none in
          set_else passes port (h.seat q) w (no_seat passes port (h.seat q) at there) ∙ there;
      one_net_pass =
          λ number q fs there. ⊎_elim
          (λ t. absurd (cc t.1))
          (λ t. h.one_net_pass number q fs t.1)
          (at_set passes port number w (Network q fs) there);
      taken_in_pass = h.taken_in_pass;
      placed = h.placed;
    }

pub pops : (port : ℕ) (left : List AirItem) (v : Known) → IsRadioWith left v → Pops IsKept port v (λ item w. (w ≡ leaving v item) × (item.place < networks_of v))
pops port left (Radio out networks taken_in) is = radio_pops port out networks taken_in
pops port left v is = absurd is

-- ---- a network is given its pass

radio_gives : (port : ℕ) (left : List AirItem) (networks : ℕ) (taken_in : TakenIn) → Forks IsKept port (Radio left networks taken_in) (Radio left (networks + 1) taken_in) (Network networks [])
radio_gives port left networks taken_in items passes h at = kept
  where
    mine : port ≡ h.radio
    mine = h.one_radio port left networks taken_in at

    same : Radio h.left h.networks h.taken_in ≡ Radio left networks taken_in
    same = radio_knows h port at

    w : Known
    w = Radio left (networks + 1) taken_in

    new : Known
    new = Network networks []

    changed : List Known
    changed = set passes port w

    networks_same : h.networks ≡ networks
    networks_same = ap networks_of same

    long : length changed ≡ length passes
    long = length-set passes port w

    seat : ℕ → ℕ
    seat q = if q == networks then length passes else h.seat q

    seat_new : seat networks ≡ length passes
    seat_new = cond-true (eqb networks networks) _ _ (eq-eqb networks networks refl)

    seat_old : (q : ℕ) → (q ≡ networks → ⊥) → seat q ≡ h.seat q
    seat_old q ne = cond-false (eqb q networks) _ _ (ne_eqb q networks ne)

    none_yet : [] ≡ items_of networks h.all
    none_yet = sym (items_of-none networks h.all (subst (λ k. All (λ (x : AirItem). x.place < k) h.all) networks_same h.placed))

    not_taken : finite.get h.taken_in networks ≡ None
    not_taken = absent (finite.get h.taken_in networks) refl
      where
        absent : (o : Option (List (List ℕ))) → finite.get h.taken_in networks ≡ o → finite.get h.taken_in networks ≡ None
        absent None e = e
        absent (Some fs) e = let lt = (h.taken_in_pass networks fs e).0 in absurd (omega (arith, lt, networks_same))

    net_pass : (q : ℕ) → q < networks + 1 → finite.get h.taken_in q ≡ None → get_elem? (changed ++ new ∷ []) (seat q) ≡ some (Network q (items_of q h.all))
    net_pass q below none =
        elim (cases_eq q networks) [
          | inl e ↦
              subst (λ k. get_elem? (changed ++ new ∷ []) (seat k) ≡ some (Network k (items_of k h.all))) (sym e)
              (at_last changed new (seat networks) (long ∙ sym seat_new) ∙ ap (λ (fs : List (List ℕ)). some (Network networks fs)) none_yet)
          | inr ne ↦
              let there = h.net_pass q (omega (arith, below, ne, networks_same)) none in
              subst (λ k. get_elem? (changed ++ new ∷ []) k ≡ some (Network q (items_of q h.all))) (sym (seat_old q ne))
              (at_longer changed (new ∷ []) (h.seat q) _ (set_else passes port (h.seat q) w (no_seat passes port (h.seat q) at there) ∙ there))
        ]

    one_net_pass : (number q : ℕ) (fs : List (List ℕ)) → get_elem? (changed ++ new ∷ []) number ≡ some (Network q fs) → (number ≡ seat q) × (q < networks + 1) × (finite.get h.taken_in q ≡ None) × (fs ≡ items_of q h.all)
    one_net_pass number q fs there =
        elim (at_more changed new (Network q fs) number there) [
          | inl t ↦
              elim (at_set passes port number w (Network q fs) t) [
                | inl u ↦ absurd (cc u.1)
                | inr u ↦
                    let old = h.one_net_pass number q fs u.1 in
                    let lt = old.1 in
                    let ne : q ≡ networks → ⊥ = λ e. absurd (omega (arith, lt, e, networks_same)) in
                    (old.0 ∙ sym (seat_old q ne), omega (arith, lt, networks_same), old.2, old.3)
              ]
          | inr t ↦
              let e : networks ≡ q = ap place_of t.1 in
              subst (λ k. (number ≡ seat k) × (k < networks + 1) × (finite.get h.taken_in k ≡ None) × (fs ≡ items_of k h.all)) e
              (t.0 ∙ long ∙ sym seat_new, omega arith, not_taken, sym (ap pushed_by t.1) ∙ none_yet)
        ]

    kept : IsKept items (changed ++ new ∷ [])
    kept = record {
      left = h.left;
      networks = networks + 1;
      taken_in = h.taken_in;
      all = h.all;
      parts = h.parts;
      radio = port;
      radio_pass =
          at_longer changed (new ∷ []) port _ (set_here passes port w (within passes port _ at) ∙ ap (λ (v : Known). some (Radio (left_of v) (networks + 1) (taken_in_of v))) (sym same));
      one_radio =
          λ number out given taken there. ⊎_elim
          (λ t. ⊎_elim (λ u. u.0) (λ u. h.one_radio number out given taken u.1 ∙ sym mine) (at_set passes port number w (Radio out given taken) t))
          (λ t. absurd (cc t.1))
          (at_more changed new (Radio out given taken) number there);
      seat = seat;
      net_pass = net_pass;
      one_net_pass = one_net_pass;
      taken_in_pass = λ q fs is. let old = h.taken_in_pass q fs is in let lt = old.0 in (omega (arith, lt, networks_same), old.1);
      placed = below_more networks h.all (subst (λ k. All (λ (x : AirItem). x.place < k) h.all) networks_same h.placed);
    }

pub gives : (port : ℕ) (left : List AirItem) (v : Known) → IsRadioWith left v → Forks IsKept port v (giving v) (given v)
gives port left (Radio out networks taken_in) is = radio_gives port out networks taken_in
gives port left v is = absurd is

-- ---- a network's pass is taken in

radio_takes : (port : ℕ) (left : List AirItem) (networks : ℕ) (taken_in : TakenIn) (other place : ℕ) (pushed : List (List ℕ)) → Merges IsKept port (Radio left networks taken_in) other (Network place pushed) (Radio left networks (finite.insert taken_in place pushed)) Spent
radio_takes port left networks taken_in other place pushed items passes h at apart there = kept
  where
    mine : port ≡ h.radio
    mine = h.one_radio port left networks taken_in at

    same : Radio h.left h.networks h.taken_in ≡ Radio left networks taken_in
    same = radio_knows h port at

    w : Known
    w = Radio left networks (finite.insert taken_in place pushed)

    more : TakenIn
    more = finite.insert h.taken_in place pushed

    changed : List Known
    changed = set passes port w

    was : get_elem? passes other ≡ some (Network place pushed)
    was = ⊎_elim (λ t. absurd (apart t.0)) (λ t. t.1) (at_set passes port other w (Network place pushed) there)

    theirs : (other ≡ h.seat place) × (place < h.networks) × (finite.get h.taken_in place ≡ None) × (pushed ≡ items_of place h.all)
    theirs = h.one_net_pass other place pushed was

    not_other : (q : ℕ) → (q ≡ place → ⊥) → (fs : List (List ℕ)) → get_elem? passes (h.seat q) ≡ some (Network q fs) → h.seat q ≡ other → ⊥
    not_other q ne fs seen e = ne (ap place_of (one_value passes other _ _ (subst (λ k. get_elem? passes k ≡ some (Network q fs)) e seen) was))

    net_pass : (q : ℕ) → q < h.networks → finite.get more q ≡ None → get_elem? (set changed other Spent) (h.seat q) ≡ some (Network q (items_of q h.all))
    net_pass q below none =
        let ne : q ≡ place → ⊥ = λ e. cc (get-here h.taken_in place pushed, ap (finite.get more) e, none) in
        let seen = h.net_pass q below (sym (get-other h.taken_in place pushed q ne) ∙ none) in
        set_else changed other (h.seat q) Spent (not_other q ne _ seen)
        ∙ set_else passes port (h.seat q) w (no_seat passes port (h.seat q) at seen)
        ∙ seen

    one_net_pass : (number q : ℕ) (fs : List (List ℕ)) → get_elem? (set changed other Spent) number ≡ some (Network q fs) → (number ≡ h.seat q) × (q < h.networks) × (finite.get more q ≡ None) × (fs ≡ items_of q h.all)
    one_net_pass number q fs seen =
        elim (at_set changed other number Spent (Network q fs) seen) [
          | inl t ↦ absurd (cc t.1)
          | inr t ↦
              elim (at_set passes port number w (Network q fs) t.1) [
                | inl u ↦ absurd (cc u.1)
                | inr u ↦
                    let old = h.one_net_pass number q fs u.1 in
                    let ne : q ≡ place → ⊥ = λ e. t.0 (old.0 ∙ ap h.seat e ∙ sym theirs.0) in
                    (old.0, old.1, get-other h.taken_in place pushed q ne ∙ old.2, old.3)
              ]
        ]

    taken_in_pass : (q : ℕ) (fs : List (List ℕ)) → finite.get more q ≡ Some fs → (q < h.networks) × (fs ≡ items_of q h.all)
    taken_in_pass q fs is =
        elim (cases_eq q place) [
          | inl e ↦
              let eq : fs ≡ pushed = cc (is, ap (finite.get more) e, get-here h.taken_in place pushed) in
              subst (λ k. (k < h.networks) × (fs ≡ items_of k h.all)) (sym e) (theirs.1, eq ∙ theirs.3)
          | inr ne ↦ h.taken_in_pass q fs (sym (get-other h.taken_in place pushed q ne) ∙ is)
        ]

    kept : IsKept items (set changed other Spent)
    kept = record {
      left = h.left;
      networks = h.networks;
      taken_in = more;
      all = h.all;
      parts = h.parts;
      radio = port;
      radio_pass =
          set_else changed other port Spent (λ e. apart (sym e))
          ∙ set_here passes port w (within passes port _ at)
          ∙ ap (λ (v : Known). some (Radio (left_of v) (networks_of v) (finite.insert (taken_in_of v) place pushed))) (sym same);
      one_radio =
          λ number out given taken seen. ⊎_elim
          (λ t. absurd (cc t.1))
          (λ t. ⊎_elim (λ u. u.0) (λ u. h.one_radio number out given taken u.1 ∙ sym mine) (at_set passes port number w (Radio out given taken) t.1))
          (at_set changed other number Spent (Radio out given taken) seen);
      seat = h.seat;
      net_pass = net_pass;
      one_net_pass = one_net_pass;
      taken_in_pass = taken_in_pass;
      placed = h.placed;
    }

pub takes_in : (port : ℕ) (left : List AirItem) (v : Known) (other place : ℕ) (u : Known) → IsRadioWith left v → IsNetworkAt place u → Merges IsKept port v other u (taking_in v u) Spent
takes_in port left (Radio out networks taken_in) other place (Network place' pushed) is at = radio_takes port out networks taken_in other place' pushed
takes_in port left (Radio out networks taken_in) other place u is at = absurd at
takes_in port left v other place u is at = absurd is

-- ---- what the radio's pass learns

radio_learns : (port : ℕ) (left : List AirItem) (networks : ℕ) (taken_in : TakenIn) → Learns IsKept port (Radio left networks taken_in) (Accounts (Radio left networks taken_in))
radio_learns port left networks taken_in items passes h at = accounts
  where
    mine : port ≡ h.radio
    mine = h.one_radio port left networks taken_in at

    same : Radio h.left h.networks h.taken_in ≡ Radio left networks taken_in
    same = radio_knows h port at

    parts : h.all ≡ left ++ items
    parts = h.parts ∙ ap (λ (v : Known). left_of v ++ items) same

    accounts : Accounts (Radio left networks taken_in) items
    accounts = (
      subst (λ (x : ℕ × List AirItem). All (λ (item : AirItem). item.place < x.0) x.1) (λ i. (networks_of (same i), parts i)) h.placed,
      λ place pushed is. (h.taken_in_pass place pushed (ap (λ (v : Known). finite.get (taken_in_of v) place) same ∙ is)).1 ∙ ap (items_of place) parts,
    )

pub learns : (port : ℕ) (left : List AirItem) (v : Known) → IsRadioWith left v → Learns IsKept port v (Accounts v)
learns port left (Radio out networks taken_in) is = radio_learns port out networks taken_in
learns port left v is = absurd is

-- Callers' entries, held against the histories.
use Rattle.std.proofs.Common.{◌≡◌, ℕ, zero, suc, ◌+◌, ◌<◌, ◌≤◌, Bool, true, false, List, [], ◌∷◌, length, map, drop, get_or, None, inl, inr, refl, sym, ap, subst, ◌∙◌, arith}
use Rattle.std.specs.Prelude.{All, if◌then◌else◌, ◌==◌}
use Rattle.std.specs.List.{enumerate_from, cons_option}
use Rattle.std.proofs.Math.ListN.{get_or-map}
use Rattle.std.proofs.lemmas.Bool.{cases_lt, ne_eqb}
use Rattle.std.proofs.lemmas.List.{length-map, get_or_past, get_or_read, get_or-map as get_or-mapped, drop_more}
use Rattle.std.proofs.lemmas.List.Elements.{All-nil, All-get_or, All-head, All-tail}
use Rattle.events.specs.declared.event.Event.{Event}
use Rattle.network.specs.BssView.{BssView}
use Rattle.network.specs.declared.bss.Refusal.TheVariants as refusals
use Rattle.play.specs.Givers.{AreGivers, dealt}
use Rattle.workers.specs.Receipts.{histories, limits, numbered, receipts_of, receipt_for, AreReceipts, AreReceiptsOf, AreFullLast, IsFullLast, MarksFull}
use Rattle.workers.specs.declared.caller.Entry.{Entry}
use Rattle.workers.specs.declared.caller.Entry.TheVariants.{Refused}

-- what holds of each, and of what stands for one that is not there, holds at every place
pub at-any : {A : Type 0} (P : A → Type 0) (xs : List A) (d : A) → All P xs → P d → (i : ℕ) → P (get_or xs i d)
at-any P xs d all none i = elim (cases_lt i (length xs)) [
  | inl there ↦ All-get_or P xs i d there all
  | inr past ↦ subst P (sym (get_or_past xs i d past)) none
]

-- a list from an item on
pub from-item : {A : Type 0} (xs : List A) (k : ℕ) (x : A) → k < length xs → x ≡ get_or xs k x → drop k xs ≡ x ∷ drop (k + 1) xs
from-item xs k x within is = drop_more xs k x within ∙ ap (λ y. y ∷ drop (k + 1) xs) (sym is)

-- as many in each as in each
pub same-lengths : {A B : Type 0} (xs : List (List A)) (ys : List (List B)) → map length xs ≡ map length ys → (place : ℕ) → length (get_or xs place []) ≡ length (get_or ys place [])
same-lengths xs ys same place =
    sym (get_or-map length xs place []) ∙ ap (λ ns. get_or ns place 0) same ∙ get_or-map length ys place []

-- as many givers as events, of each network
pub counted : (networks : List BssView) (givers : List (List ℕ)) → map length givers ≡ map length (histories networks) → length givers ≡ length networks
counted networks givers same =
    sym (length-map givers length) ∙ ap length same ∙ length-map (histories networks) length
    ∙ length-map networks (λ (n : BssView). n.history)

pub lengths-here : (networks : List BssView) (givers : List (List ℕ)) (place : ℕ) (n : BssView) (g : List ℕ) → map length givers ≡ map length (histories networks) → place < length networks → n ≡ get_or networks place n → g ≡ get_or givers place g → length g ≡ length n.history
lengths-here networks givers place n g same within is gave =
    let inside : place < length givers = omega (arith, within, counted networks givers same) in
    ap length (get_or_read givers place g inside gave []) ∙ same-lengths givers (histories networks) same place
    ∙ ap length (get_or-mapped (λ (m : BssView). m.history) networks place n [] within ∙ sym (ap (λ (m : BssView). m.history) is))

-- ---- what is dealt

-- of the events from one on, where another gave that one
pub dealt-other : {A : Type 0} (givers : List ℕ) (items : List A) (n i : ℕ) → n < length givers → length givers ≡ length items → (get_or givers n 0 ≡ i → ⊥) → dealt (drop n givers) (enumerate_from n (drop n items)) i ≡ dealt (drop (n + 1) givers) (enumerate_from (n + 1) (drop (n + 1) items)) i
dealt-other [] items n i within long ne = absurd (omega (arith, within))
dealt-other (g ∷ gs) [] n i within long ne = absurd (omega (arith, long))
dealt-other (g ∷ gs) (x ∷ xs) n i within long ne =
    let took : n < length (x ∷ xs) = omega (arith, within, long) in
    rw (drop_more (g ∷ gs) n 0 within, drop_more (x ∷ xs) n x took, ne_eqb (get_or (g ∷ gs) n 0) i ne) refl

-- nothing to a caller who is not there
dealt-past : {A : Type 0} (givers : List ℕ) (items : List A) (callers i : ℕ) → All (λ g. g < callers) givers → callers ≤ i → dealt givers items i ≡ []
dealt-past [] items callers i known past = refl
dealt-past (g ∷ gs) [] callers i known past = refl
dealt-past (g ∷ gs) (x ∷ xs) callers i known past =
    let below : g < callers = All-head (λ n. n < callers) g gs known in
    rw (ne_eqb g i (λ e. absurd (omega (arith, e, below, past)))) (dealt-past gs xs callers i (All-tail (λ n. n < callers) g gs known) past)

-- ---- all callers

pub all-receipts : (callers : List (List Entry)) (took : List (List Event)) (givers : List (List ℕ)) → All (All (λ g. g < length callers)) givers → ((i : ℕ) → i < length callers → AreReceiptsOf i took givers (get_or callers i [])) → AreReceipts callers took givers
all-receipts callers took givers known all place i = elim (cases_lt i (length callers)) [
  | inl there ↦ all i there place
  | inr past ↦
      let mine : All (λ g. g < length callers) (get_or givers place []) = at-any (All (λ g. g < length callers)) givers [] known (All-nil (λ g. g < length callers)) place in
      ap (receipts_of place) (get_or_past callers i [] past)
      ∙ sym (dealt-past (get_or givers place []) (numbered (get_or took place [])) (length callers) i mine past)
]

pub all-givers : (callers : ℕ) (took : List (List Event)) (givers : List (List ℕ)) → All (All (λ g. g < callers)) givers → map length givers ≡ map length took → AreGivers callers took givers
all-givers callers took givers known same = record {
  networks = sym (length-map givers length) ∙ ap length same ∙ length-map took length;
  events = same-lengths givers took same;
  known = at-any (All (λ g. g < callers)) givers [] known (All-nil (λ g. g < callers));
}

-- ---- networks that are full

-- the rest of a caller's entries is as it should be after those by which networks were marked as full
pub record IsRest (networks : List BssView) (full : List Bool) (entries : List Entry) : Type 0 where
  pub last : IsFullLast (limits networks) (histories networks) entries
  pub none : (place : ℕ) → get_or full place false ≡ true → receipts_of place entries ≡ []

pub full-more : (networks : List BssView) (e : Entry) (es : List Entry) (old new : List Bool) → MarksFull networks e old new → IsRest networks new es → IsRest networks old (e ∷ es)
full-more networks e es old new marks rest = record {
  last = last;
  none = λ place told. ap (λ o. cons_option o (receipts_of place es)) (marks.last place told) ∙ rest.none place (marks.stay place told);
}
  where
    last : IsFullLast (limits networks) (histories networks) (e ∷ es)
    last zero place told =
        let same : e ≡ Refused place refusals.HistoryFull = cc in
        let mark = marks.marked place same in (
          ap (λ (x : Entry). receipts_of place (x ∷ es)) same ∙ rest.none place mark.0,
          mark.1,
        )
    last (suc k) place told = rest.last k place told

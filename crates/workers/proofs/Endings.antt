-- The end of an access point, network by network.
use Rattle.std.proofs.Common.{◌≡◌, ℕ, zero, suc, ◌+◌, ◌<◌, ◌≤◌, List, [], ◌∷◌, ◌++◌, length, map, drop, get_or, Some, refl, sym, ap, ◌∙◌, subst, arith}
use Rattle.std.specs.Prelude.{All, filter, slice_get, ◌==◌}
use Rattle.std.specs.List.{AllByRecursion, AllZip, enumerate_from, range_with_len}
use Rattle.std.proofs.lemmas.Bool.{eq-eqb, ne_eqb}
use Rattle.std.proofs.lemmas.List.{append-nil, length-map, map-append, map-id}
use Rattle.std.proofs.lemmas.List.Elements.{All-append, All-nil, All-cons, filter-append}
use Rattle.std.proofs.lemmas.List.FromFn.{length-range_with_len, map-range_with_len_more}
use Rattle.std.proofs.lemmas.Slice.Zip.{AllZip-long}
use Rattle.air_queue.specs.Passes.{QueueName, NetPassView}
use Rattle.ap_config.specs.Places.{setting_at}
use Rattle.events.specs.Items.{items_of}
use Rattle.network.specs.BssView.{section_with, BssView}
use Rattle.network.specs.Section.{section_of}
use Rattle.play.specs.Givers.{histories_of}
use Rattle.play.specs.Sections.{IsSectionAt}
use Rattle.ap_config.specs.declared.config.RadioConfig.{RadioConfig}
use Rattle.events.specs.declared.event.Event.{Event}
use Rattle.events.specs.declared.section.Section.{Section}
use Rattle.ap_config.specs.declared.setting.Setting.{Setting}
use Rattle.events.specs.declared.air_item.AirItem.{AirItem}
use Rattle.workers.specs.Receipts.{histories, limits, limits_of}
use Rattle.workers.specs.Ending.{AreSeated, IsSent, AreSent, items_at, sections_from, waiting_from}
use Rattle.workers.specs.Seats.{IsSeated}

-- ---- frames of one network among items

items_of-append : (place : ℕ) (xs ys : List AirItem) → items_of place (xs ++ ys) ≡ items_of place xs ++ items_of place ys
items_of-append place xs ys =
    ap (map (λ (item : AirItem). item.octets)) (filter-append (λ (item : AirItem). item.place == place) xs ys)
    ∙ map-append (λ (item : AirItem). item.octets) (filter (λ (item : AirItem). item.place == place) xs) (filter (λ (item : AirItem). item.place == place) ys)

-- all of a network's frames are its own
items_of-items_at : (place : ℕ) (frames : List (List ℕ)) → items_of place (items_at place frames) ≡ frames
items_of-items_at place [] = refl
items_of-items_at place (f ∷ fs) = rw (eq-eqb place place refl) (ap (λ xs. f ∷ xs) (items_of-items_at place fs))

-- and none another's
items_of-elsewhere : (other place : ℕ) (frames : List (List ℕ)) → (place ≡ other → ⊥) → items_of other (items_at place frames) ≡ []
items_of-elsewhere other place [] ne = refl
items_of-elsewhere other place (f ∷ fs) ne = rw (ne_eqb place other ne) (items_of-elsewhere other place fs ne)

-- the frames of a network that is there are of a network that is there
placed-at : (networks place : ℕ) (frames : List (List ℕ)) → place < networks → All (λ item. item.place < networks) (items_at place frames)
placed-at networks place [] within = All-nil (λ (item : AirItem). item.place < networks)
placed-at networks place (f ∷ fs) within =
    All-cons (λ (item : AirItem). item.place < networks) _ _ within (placed-at networks place fs within)

-- ---- seats, in order of place

pub named-seated : (config : RadioConfig) (queue : QueueName) (bs : List BssView) (ps : List NetPassView) → AllZip (IsSeated config queue) bs ps → AllByRecursion (λ pass. pass.name ≡ queue) ps
named-seated config queue [] [] all = tt
named-seated config queue [] (p ∷ ps) all = absurd all
named-seated config queue (b ∷ bs) [] all = absurd all
named-seated config queue (b ∷ bs) (p ∷ ps) all = (all.0.named, named-seated config queue bs ps all.1)

-- one pass more, of the next place
pub placed-push : (ps ps' : List NetPassView) (p : NetPassView) (count : ℕ) → ps' ≡ ps ++ p ∷ [] → p.place ≡ count → map (λ pass. pass.place) ps ≡ range_with_len 0 count → map (λ pass. pass.place) ps' ≡ range_with_len 0 (count + 1)
placed-push ps ps' p count is here placed =
    ap (map (λ (pass : NetPassView). pass.place)) is
    ∙ map-append (λ (pass : NetPassView). pass.place) ps (p ∷ [])
    ∙ (λ i. placed i ++ here i ∷ []) ∙ sym (range-more count)
  where
    range-more : (n : ℕ) → range_with_len 0 (n + 1) ≡ range_with_len 0 n ++ n ∷ []
    range-more n =
        let at : 0 + n ≡ n = omega arith in
        sym (map-id (range_with_len 0 (n + 1))) ∙ map-range_with_len_more (λ (k : ℕ). k) 0 n n at
        ∙ ap (λ ks. ks ++ n ∷ []) (map-id (range_with_len 0 n))

sent-from : (config : RadioConfig) (queue : QueueName) (left : List AirItem) (place : ℕ) (bs : List BssView) (ps : List NetPassView) → AllZip (IsSeated config queue) bs ps → map (λ pass. pass.place) ps ≡ range_with_len place (length ps) → AllByRecursion (λ pass. items_of pass.place left ≡ pass.pushed) ps → AllByRecursion (λ n. IsSent config left n.0 n.1) (enumerate_from place bs)
sent-from config queue left place [] ps all placed whole = tt
sent-from config queue left place (b ∷ bs) [] all placed whole = absurd all
sent-from config queue left place (b ∷ bs) (p ∷ ps) all placed whole =
    let here : p.place ≡ place = ap (λ l. get_or l 0 0) placed in (
      record {
        setting = all.0.setting ∙ ap (setting_at config) here;
        bounded = all.0.bounded;
        placed = subst (λ n. n < length config.networks) here all.0.placed;
        sent =
            ap (λ fs. fs ++ b.waiting) (ap (λ n. items_of n left) (sym here) ∙ whole.0)
            ∙ all.0.sent;
      },
      sent-from config queue left (place + 1) bs ps all.1 (ap (drop 1) placed) whole.1,
    )

pub seats-count : (config : RadioConfig) (queue : QueueName) (bs : List BssView) (ps : List NetPassView) → AreSeated config queue bs ps → length bs ≡ length config.networks
seats-count config queue bs ps seats =
    sym (AllZip-long (IsSeated config queue) bs ps seats.seated)
    ∙ sym (length-map ps (λ (p : NetPassView). p.place)) ∙ ap length seats.there.placed
    ∙ length-range_with_len 0 (length config.networks)

-- what the queue held left, so what left of each network and then what waits is all that it sent
pub all-sent : (config : RadioConfig) (queue : QueueName) (left : List AirItem) (bs : List BssView) (ps : List NetPassView) → AreSeated config queue bs ps → AllByRecursion (λ pass. items_of pass.place left ≡ pass.pushed) ps → AreSent config left bs
all-sent config queue left bs ps seats whole =
    let count : length ps ≡ length config.networks = sym (length-map ps (λ (p : NetPassView). p.place)) ∙ ap length seats.there.placed ∙ length-range_with_len 0 (length config.networks) in
    sent-from config queue left 0 bs ps seats.seated (seats.there.placed ∙ ap (range_with_len 0) (sym count)) whole

-- ---- all networks ended

-- of a network before these no frame waits
waits-before : (place from : ℕ) (bs : List BssView) → place < from → items_of place (waiting_from from bs) ≡ []
waits-before place from [] before = refl
waits-before place from (b ∷ bs) before =
    let later : place < from + 1 = omega (arith, before) in
    items_of-append place (items_at from b.waiting) (waiting_from (from + 1) bs)
    ∙ (λ k. items_of-elsewhere place from b.waiting (λ e. absurd (omega (arith, e, before))) k ++ waits-before place (from + 1) bs later k)

-- the section at a place, and its frames: those that left, and then those that wait
ended-from : (config : RadioConfig) (left : List AirItem) (from k : ℕ) (bs : List BssView) (section : Section) → AllByRecursion (λ n. IsSent config left n.0 n.1) (enumerate_from from bs) → slice_get (sections_from left from bs) k ≡ Some section → IsSectionAt config (from + k) section × (items_of (from + k) left ++ items_of (from + k) (waiting_from from bs) ≡ section.air)
ended-from config left from k [] section all at = absurd (cc)
ended-from config left from zero (b ∷ bs) section all at =
    let same : section_with (items_of from left ++ b.waiting) b ≡ section = cc in
    let next : from < from + 1 = omega arith in
    let air : items_of from (items_at from b.waiting ++ waiting_from (from + 1) bs) ≡ b.waiting =
    items_of-append from (items_at from b.waiting) (waiting_from (from + 1) bs)
    ∙ (λ k. items_of-items_at from b.waiting k ++ waits-before from (from + 1) bs next k) ∙ append-nil b.waiting in
    subst (λ (x : ℕ × Section). IsSectionAt config x.0 x.1 × (items_of x.0 left ++ items_of x.0 (waiting_from from (b ∷ bs)) ≡ x.1.air))
    (λ i. ((let here : from ≡ from + 0 = omega arith in here) i, same i)) (
      record {
        alone = ap (λ fs. section_with fs b) all.0.sent ∙ ap (λ s. section_of s b.history) all.0.setting;
        bounded = subst (λ (s : Setting). length b.history ≤ s.network.max_events) all.0.setting all.0.bounded;
      },
      ap (λ fs. items_of from left ++ fs) air,
    )
ended-from config left from (suc k) (b ∷ bs) section all at =
    let next : from + 1 + k ≡ from + suc k = omega arith in
    let rest = subst (λ (p : ℕ). IsSectionAt config p section × (items_of p left ++ items_of p (waiting_from (from + 1) bs) ≡ section.air)) next (ended-from config left (from + 1) k bs section all.1 at) in (
      rest.0,
      ap (λ fs. items_of (from + suc k) left ++ fs)
          (items_of-append (from + suc k) (items_at from b.waiting) (waiting_from (from + 1) bs)
          ∙ ap (λ fs. fs ++ items_of (from + suc k) (waiting_from (from + 1) bs)) (items_of-elsewhere (from + suc k) from b.waiting (λ e. absurd (omega (arith, e)))))
          ∙ rest.1,
    )

pub ended-at : (config : RadioConfig) (left : List AirItem) (bs : List BssView) (place : ℕ) (section : Section) → AreSent config left bs → slice_get (sections_from left 0 bs) place ≡ Some section → IsSectionAt config place section × (items_of place (left ++ waiting_from 0 bs) ≡ section.air)
ended-at config left bs place section all at =
    let here : 0 + place ≡ place = omega arith in
    let end = subst (λ (p : ℕ). IsSectionAt config p section × (items_of p left ++ items_of p (waiting_from 0 bs) ≡ section.air)) here (ended-from config left 0 place bs section all at) in
    (end.0, items_of-append place left (waiting_from 0 bs) ∙ end.1)

pub placed-from : (config : RadioConfig) (left : List AirItem) (from : ℕ) (bs : List BssView) → AllByRecursion (λ n. IsSent config left n.0 n.1) (enumerate_from from bs) → All (λ item. item.place < length config.networks) (waiting_from from bs)
placed-from config left from [] all = All-nil (λ (item : AirItem). item.place < length config.networks)
placed-from config left from (b ∷ bs) all =
    All-append (λ (item : AirItem). item.place < length config.networks) (items_at from b.waiting) (waiting_from (from + 1) bs) (placed-at (length config.networks) from b.waiting all.0.placed) (placed-from config left (from + 1) bs all.1)

-- what sections keep of their networks
pub histories-from : (left : List AirItem) (from : ℕ) (bs : List BssView) → histories_of (sections_from left from bs) ≡ histories bs
histories-from left from [] = refl
histories-from left from (b ∷ bs) = ap (λ (hs : List (List Event)). b.history ∷ hs) (histories-from left (from + 1) bs)

pub limits-from : (left : List AirItem) (from : ℕ) (bs : List BssView) → limits_of (sections_from left from bs) ≡ limits bs
limits-from left from [] = refl
limits-from left from (b ∷ bs) = ap (λ (ls : List ℕ). b.setting.network.max_events ∷ ls) (limits-from left (from + 1) bs)

pub count-from : (left : List AirItem) (from : ℕ) (bs : List BssView) → length (sections_from left from bs) ≡ length bs
count-from left from [] = refl
count-from left from (b ∷ bs) = ap suc (count-from left (from + 1) bs)

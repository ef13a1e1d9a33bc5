-- What an access point of threads ends with is what some steps of a radio give.
use Rattle.std.proofs.Common.{◌≡◌, ℕ, zero, suc, ◌+◌, ◌≤◌, ◌<◌, Bool, true, false, List, [], length, map, drop, get_or, take, Option, Some, None, refl, sym, ap, ◌∙◌, subst, arith}
use Rattle.std.specs.Prelude.{not, slice_get, if◌then◌else◌}
use Rattle.std.specs.List.{range_with_len}
use Rattle.std.proofs.lemmas.List.{take_all}
use Rattle.std.proofs.lemmas.Option.{slice_get-get_or}
use Rattle.ap_config.specs.Configuration.{fault_of, of_radio, channel_fits, interval_fits, queue_fits}
use Rattle.ap_config.specs.Places.{network_at, setting_at}
use Rattle.ap_config.specs.declared.config.RadioConfig.{RadioConfig}
use Rattle.bss_core.specs.Radio.{RadioState, first_state, part_of, place_at, waiting_at, steps_from, after_steps}
use Rattle.events.specs.Items.{items_of}
use Rattle.events.specs.declared.air_item.AirItem.{AirItem}
use Rattle.events.specs.declared.event.Event.{Event}
use Rattle.events.specs.declared.section.Section.{Section}
use Rattle.network.specs.Network.{alone}
use Rattle.network.specs.Section.{section_of}
use Rattle.play.specs.Sections.{ArePlaced, AreSections, HaveLeft}
use Rattle.thread_laws.specs.Steps.{AreGivenBy, steps_of, takes_from, leaves_of}
use Rattle.thread_laws.proofs.Lists.{steps-append, for-all, sections-by}
use Rattle.thread_laws.proofs.Taking.{AreAllTaken, first-unsent, no-events, takes-all}
use Rattle.thread_laws.proofs.Leaving.{IsLeaving, leaves}

-- ---- a queue has room for a frame

rest-is-none : {A : Type 0} (b : Bool) (fault : A) (rest : Option A)
    → (if b then Some fault else rest) ≡ None → (b ≡ false) × (rest ≡ None)
rest-is-none true fault rest h = absurd (cc)
rest-is-none false fault rest h = (refl, h)

fits-one : (queue : ℕ) → not (queue_fits queue) ≡ false → 1 ≤ queue
fits-one zero h = absurd (cc)
fits-one (suc n) h = omega arith

pub has-room : (c : RadioConfig) → fault_of c ≡ None → 1 ≤ c.queue
has-room c h =
    let channel = rest-is-none (not (channel_fits c.channel)) (of_radio 4) _ h in
    let interval = rest-is-none (not (interval_fits c.interval)) (of_radio 5) _ channel.1 in
    let queue = rest-is-none (not (queue_fits c.queue)) (of_radio 6) _ interval.1 in
    fits-one c.queue queue.0

-- ---- the end

pub given : (c : RadioConfig) (sections : List Section) (left : List AirItem) → fault_of c ≡ None
    → length sections ≡ length c.networks → AreSections c sections → HaveLeft sections left → ArePlaced c left
    → AreGivenBy c (steps_of sections left) sections left
unfolding after_steps
given c sections left fine count are sent placed =
    let first : RadioState = first_state c in
    let taken : RadioState = steps_from c first (takes_from 0 sections) in
    let all : AreAllTaken c 0 sections first taken =
    takes-all c 0 sections first (omega (arith, count))
    (λ k section there.
    let at : k ≡ 0 + k = omega arith in
    subst (λ (p : ℕ). length section.events ≤ (network_at c p).max_events) at (are k section there).bounded)
    (λ place past. no-events c place) (first-unsent c) in
    let start : IsLeaving c [] left taken = record {
      size = all.unsent.size;
      queue = all.unsent.queue;
      left = all.unsent.left;
      waits = λ place within. waits-first place within taken all;
    } in
    let end : IsLeaving c left [] (steps_from c taken (leaves_of left)) =
    leaves c [] left taken (has-room c fine) placed start in
    let joined = steps-append c first (takes_from 0 sections) (leaves_of left) in
    record {
      same_sections = sections-by c (λ place. part_of c place (steps_of sections left)) 0 sections own
          ∙ ap
          (λ (n : ℕ).
          map (λ place. section_of (setting_at c place) (part_of c place (steps_of sections left))) (range_with_len 0 n))
          count;
      same_left = sym end.left ∙ ap (λ (s : RadioState). s.left) (sym joined);
      none_queued = ap (λ (s : RadioState). s.queue) joined ∙ end.queue;
    }
  where
    part : (place : ℕ) (section : Section) → slice_get sections place ≡ Some section
        → part_of c place (steps_of sections left) ≡ section.events
    part place section there =
        ap (take (network_at c place).max_events) (for-all place sections left section there)
        ∙ take_all (network_at c place).max_events section.events (are place section there).bounded

    own : (k : ℕ) (section : Section) → slice_get sections k ≡ Some section
        → section ≡ section_of (setting_at c (0 + k)) (part_of c (0 + k) (steps_of sections left))
    own k section there =
        let at : k ≡ 0 + k = omega arith in
        (are k section there).alone
        ∙ ap (section_of (setting_at c k)) (sym (part k section there))
        ∙ ap (λ (p : ℕ). section_of (setting_at c p) (part_of c p (steps_of sections left))) at

    waits-first : (place : ℕ) → place < length c.networks → (t : RadioState)
        → AreAllTaken c 0 sections (first_state c) t → waiting_at c t place ≡ items_of place left
    waits-first place within t all =
        let none : Section = section_of (setting_at c place) [] in
        let section : Section = get_or sections place none in
        let there : slice_get sections place ≡ Some section =
        slice_get-get_or sections place none (omega (arith, within, count)) in
        let at : place ≡ 0 + place = omega arith in
        ap (λ (k : ℕ). drop k (alone (setting_at c place) (place_at t place).events).air) (all.unsent.handed place)
        ∙ ap (λ (k : ℕ). (alone (setting_at c place) (place_at t k).events).air) at
        ∙ ap (λ (es : List Event). (alone (setting_at c place) es).air) (all.here place section there)
        ∙ ap (λ (s : Section). s.air) (sym (are place section there).alone)
        ∙ sym (sent place section there)

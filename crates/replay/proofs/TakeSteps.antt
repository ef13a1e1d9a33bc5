-- A network takes an event, and its frames leave.
use Rattle.std.proofs.Common.{◌≡◌, ◌≢◌, ℕ, ◌<◌, ◌++◌, ◌∷◌, [], List, Result, Ok, Err, OnOk, length, set, refl, sym, ap, ◌∙◌, arith, inl, inr}
use Rattle.std.proofs.lemmas.Bool.{cases_eq, lt-ltb}
use Rattle.std.proofs.lemmas.List.{set-set, length-set, get_or-set_same, get_or-set_other}
use Rattle.network.specs.Network.{alone}
use Rattle.ap_config.specs.Places.{network_at, setting_at}
use Rattle.bss_core.specs.RadioView.{NetworkView, RadioView, unused, view_at, took}
use Rattle.network.specs.BssView.{sent_by}
use Rattle.events.specs.declared.event.Event.{Event}
use Rattle.ap_config.specs.declared.setting.Setting.{Setting}
use Rattle.replay.specs.Frames.{FrameLists, sent_at, sends_more}
use Rattle.replay.specs.Replay.{emptied, IsDrained, TakesAt}

-- the radio with this network at a place
abbrev pub with_network : RadioView → ℕ → NetworkView → RadioView
with_network r place n = record r { networks = set r.networks place n }

-- the network at a place after an event whose frames left
abbrev pub grown : RadioView → ℕ → Event → NetworkView
grown r place e = record { history = (view_at r place).history ++ e ∷ []; waiting = [] }

-- what holds of the changed place and of each other holds of each
pub at_each : (r : RadioView) (place : ℕ) (n : NetworkView) (Q : ℕ → NetworkView → Type 0) → place < length r.networks
    → Q place n → ((other : ℕ) → other ≢ place → Q other (view_at r other)) → (other : ℕ)
    → Q other (view_at (with_network r place n) other)
at_each r place n Q within here others other =
    elim (cases_eq other place) [
      | inl e ↦
          rw (e, get_or-set_same r.networks place n unused within) here
      | inr ne ↦ rw (get_or-set_other r.networks place other n unused ne) (others other ne)
    ]

took_emptied : (r : RadioView) (place : ℕ) (e : Event) → place < length r.networks
    → emptied place (took place e r) ≡ with_network r place (grown r place e)
took_emptied r place e within =
    let n : NetworkView = record {
      history = (view_at r place).history ++ e ∷ [];
      waiting = (view_at r place).waiting ++ sent_by (setting_at r.config place) (view_at r place).history e;
    } in
    rw (get_or-set_same r.networks place n unused within, set-set r.networks place n (grown r place e)) refl

-- the frames that left at a place, with those of the event
took_sent : (r : RadioView) (frames : FrameLists) (place : ℕ) (e : Event) → IsDrained r frames
    → place < length r.config.networks → (alone (setting_at r.config place) ((view_at r place).history ++ e ∷ [])).air
    ≡ (alone (setting_at r.config place) (view_at r place).history).air ++ sent_by (setting_at r.config place)
    (view_at r place).history e
    → sent_at frames place ++ (view_at (took place e r) place).waiting
    ≡ (alone (setting_at r.config place) ((view_at r place).history ++ e ∷ [])).air
took_sent r frames place e d there law =
    let s : Setting = setting_at r.config place in
    let h : List Event = (view_at r place).history in
    let sent : List (List ℕ) = sent_by s h e in
    let within : place < length r.networks = omega (arith, d.networks) in
    let waits : (view_at (took place e r) place).waiting ≡ sent =
    ap (λ (n : NetworkView). n.waiting) (get_or-set_same r.networks place _ unused within)
    ∙ ap (λ (w : List (List ℕ)). w ++ sent) (d.waiting place there) in
    ap (λ (w : List (List ℕ)). sent_at frames place ++ w) waits
    ∙ ap (λ (w : List (List ℕ)). w ++ sent) (d.air place there) ∙ sym law

pub took_drained : (r0 : RadioView) (l0 : FrameLists) (place : ℕ) (e : Event) (r1 r2 : RadioView) (l2 : FrameLists)
    → IsDrained r0 l0 → place < length r0.config.networks
    → length (view_at r0 place).history < (network_at r0.config place).max_events → r1 ≡ took place e r0
    → r2 ≡ emptied place r1 → l2 ≡ sends_more l0 place (view_at r1 place).waiting
    → (alone (setting_at r0.config place) ((view_at r0 place).history ++ e ∷ [])).air
    ≡ (alone (setting_at r0.config place) (view_at r0 place).history).air ++ sent_by (setting_at r0.config place)
    (view_at r0 place).history e
    → IsDrained r2 l2 × TakesAt place e r0 r2
took_drained r0 l0 place e r1 r2 l2 d there room took_is emptied_is sent_is law =
    let within : place < length r0.networks = omega (arith, d.networks) in
    let n : NetworkView = grown r0 place e in
    let view : r2 ≡ with_network r0 place n =
    emptied_is ∙ ap (emptied place) took_is ∙ took_emptied r0 place e within in
    let frames : List (List ℕ) = (alone (setting_at r0.config place) n.history).air in
    let left_by_now : l2 ≡ set l0 place frames =
    sent_is ∙ ap (λ (r : RadioView). sends_more l0 place (view_at r place).waiting) took_is
    ∙ ap (λ (w : List (List ℕ)). set l0 place w) (took_sent r0 l0 place e d there law) in
    let after : RadioView = with_network r0 place n in
    let all : FrameLists = set l0 place frames in
    let drained : IsDrained after all = record {
      sound = d.sound;
      networks = length-set r0.networks place n ∙ d.networks;
      whole = length-set l0 place frames ∙ d.whole;
      queue = d.queue;
      waiting =
          λ other lt. at_each r0 place n (λ p v. p < length r0.config.networks → v.waiting ≡ []) within (λ _. refl)
          (λ p ne lt. d.waiting p lt) other lt;
      air =
          λ other lt. at_each r0 place n
          (λ p v. p < length r0.config.networks → sent_at all p ≡ (alone (setting_at r0.config p) v.history).air) within
          (λ _. get_or-set_same l0 place frames [] (omega (arith, d.whole)))
          (λ p ne lt. get_or-set_other l0 place p frames [] ne ∙ d.air p lt) other lt;
    } in
    let takes : TakesAt place e r0 after = record {
      config = refl;
      there =
          rw
          (get_or-set_same r0.networks place n unused within, lt-ltb (length (view_at r0 place).history) (network_at r0.config place).max_events room)
          refl;
      others = λ other ne. ap (λ (v : NetworkView). v.history) (get_or-set_other r0.networks place other n unused ne);
    } in
    (rw (view, left_by_now) drained, rw view takes)

-- what follows of two facts that hold where a call went well
pub on_ok_both : {T E P Q R : Type 0} (r : Result T E) → (P → Q → R) → OnOk r P → OnOk r Q → OnOk r R
on_ok_both (Ok x) f p q = f p q
on_ok_both (Err e) f p q = tt

pub on_ok : {T E P Q : Type 0} (r : Result T E) → (P → Q) → OnOk r P → OnOk r Q
on_ok (Ok x) f p = f p
on_ok (Err e) f p = tt

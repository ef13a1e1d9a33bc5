-- How frames leave the networks of a play, by the air queue.
use Rattle.std.proofs.Common.{◌≡◌, ◌⊎◌, ℕ, zero, suc, ◌+◌, ◌<◌, List, [], ◌∷◌, ◌++◌, length, map, get_or, Some, inl, inr, refl, sym, ap, subst, ◌∙◌, arith, append_assoc}
use Rattle.std.specs.Prelude.{slice_get}
use Rattle.std.specs.FinMap as finite
use Rattle.std.specs.List.{AllByRecursion, AllZip, range_with_len}
use Rattle.std.proofs.Math.Seq.{get_or-append_seam}
use Rattle.std.proofs.lemmas.List.{map-append, map-id, get_or_append_left}
use Rattle.std.proofs.lemmas.List.FromFn.{map-range_with_len_more}
use Rattle.std.proofs.lemmas.Option.{slice_get_within}
use Rattle.networks.specs.WithFrames.{after_events, sent_after}
use Rattle.networks.specs.declared.network_with_frames.NetworkWithFrames.{NetworkWithFrames}
use Rattle.networks.specs.declared.sending_network.SendingNetwork.{SendingNetwork}
use Rattle.air_queue.specs.Passes.{QueueName, TakenIn, NetPassView, HasEach, fresh_pass, fresh_passes}
use Rattle.ap_config.specs.Places.{network_at, no_network, setting_at, setting_in}
use Rattle.ap_config.specs.declared.config.NetConfig.{NetConfig}
use Rattle.ap_config.specs.declared.config.RadioConfig.{RadioConfig}
use Rattle.ap_config.specs.declared.setting.Setting.{Setting}
use Rattle.network.specs.Network.{alone}
use Rattle.play.specs.Kept.{IsWholeAt}
use Rattle.play.specs.Plays.{PlayView}
use Rattle.play.specs.declared.kept.PlayedNetwork.{PlayedNetwork}

-- ---- one network

nothing-sent : (s : Setting) → [] ≡ (alone s []).air
unfolding alone
nothing-sent s = refl

-- a network that took no event, of which nothing was pushed and no frame waits
pub opened-log : (s : Setting) (log : NetworkWithFrames) (n : SendingNetwork) (pushed : List (List ℕ)) → log ≡ after_events s []
    → n.network ≡ log.network → n.wire ≡ log.wire → n.waiting.items ≡ [] → pushed ≡ []
    → sent_after pushed n ≡ after_events s []
opened-log s log n pushed is network wire waits none =
    let air : pushed ++ n.waiting.items ≡ (alone s []).air = (λ k. none k ++ waits k) ∙ nothing-sent s in
    let state = network ∙ ap (λ (l : NetworkWithFrames). l.network) is in
    let wired = wire ∙ ap (λ (l : NetworkWithFrames). l.wire) is in
    λ k. record { network = state k; air = air k; wire = wired k }

-- ---- all passes are back

-- of each network what was taken in is what was pushed with its pass
pub pushed-at : (from count k : ℕ) (taken_in : TakenIn) (passes : List NetPassView) (d : NetPassView)
    → map (λ pass. pass.place) passes ≡ range_with_len from count → HasEach taken_in passes → k < length passes
    → finite.get taken_in (from + k) ≡ Some (get_or passes k d).pushed
pushed-at from count k taken_in [] d placed each within = absurd (omega (arith, within))
pushed-at from zero k taken_in (p ∷ ps) d placed each within = absurd (cc)
pushed-at from (suc count) zero taken_in (p ∷ ps) d placed each within =
    let here : from + 0 ≡ p.place = (let first : p.place ≡ from = cc in omega (arith, first)) in
    ap (finite.get taken_in) here ∙ each.0
pushed-at from (suc count) (suc k) taken_in (p ∷ ps) d placed each within =
    let rest : map (λ (pass : NetPassView). pass.place) ps ≡ range_with_len (from + 1) count = cc in
    ap (finite.get taken_in) (let e : from + suc k ≡ from + 1 + k = omega arith in e)
    ∙ pushed-at (from + 1) count k taken_in ps d rest each.1 (omega (arith, within))

-- ---- networks with their passes

-- what stands at a place of a list that is longer by one
pub one-more : {A : Type 0} → (xs : List A) (x y : A) (k : ℕ) → slice_get (xs ++ x ∷ []) k ≡ Some y
    → (slice_get xs k ≡ Some y) ⊎ ((k ≡ length xs) × (x ≡ y))
one-more [] x y zero at = inr (refl, cc)
one-more [] x y (suc k) at = absurd (cc)
one-more (z ∷ zs) x y zero at = inl at
one-more (z ∷ zs) x y (suc k) at = elim (one-more zs x y k at) [
  | inl before ↦ inl before
  | inr last ↦ inr (ap suc last.0, last.1)
]

pub sent-push : (play : PlayView) (ns : List PlayedNetwork) (ps : List NetPassView) (n : PlayedNetwork)
    (p d : NetPassView) → length ps ≡ length ns
    → ((place : ℕ) (m : PlayedNetwork) → slice_get ns place ≡ Some m → IsWholeAt play place (get_or ps place d).pushed m)
    → IsWholeAt play (length ns) p.pushed n
    → (place : ℕ) (m : PlayedNetwork) → slice_get (ns ++ n ∷ []) place ≡ Some m
    → IsWholeAt play place (get_or (ps ++ p ∷ []) place d).pushed m
sent-push play ns ps n p d long all one = λ place m at. elim (one-more ns n m place at) [
  | inl before ↦
      let within : place < length ps = omega (arith, long, slice_get_within ns place m before) in
      subst (λ (q : NetPassView). IsWholeAt play place q.pushed m)
      (sym (get_or_append_left ps (p ∷ []) d place within)) (all place m before)
  | inr last ↦
      let seam : get_or (ps ++ p ∷ []) place d ≡ p =
      ap (λ (k : ℕ). get_or (ps ++ p ∷ []) k d) (last.0 ∙ sym long) ∙ get_or-append_seam ps p [] d in
      subst (λ (x : ℕ × PlayedNetwork × NetPassView). IsWholeAt play x.0 x.2.pushed x.1)
      (λ k. (sym last.0 k, last.1 k, sym seam k)) one
]

pub named-push : (queue : QueueName) (ps : List NetPassView) (p : NetPassView)
    → AllByRecursion (λ pass. pass.name ≡ queue) ps → p.name ≡ queue
    → AllByRecursion (λ pass. pass.name ≡ queue) (ps ++ p ∷ [])
named-push queue [] p all one = (one, tt)
named-push queue (q ∷ qs) p all one = (all.0, named-push queue qs p all.1 one)

pub placed-push : (ps : List NetPassView) (p : NetPassView) (count : ℕ) → p.place ≡ count
    → map (λ pass. pass.place) ps ≡ range_with_len 0 count
    → map (λ pass. pass.place) (ps ++ p ∷ []) ≡ range_with_len 0 (count + 1)
placed-push ps p count here placed =
    map-append (λ (pass : NetPassView). pass.place) ps (p ∷ [])
    ∙ (λ i. placed i ++ here i ∷ [])
    ∙ sym (range-more count)
  where
    range-more : (n : ℕ) → range_with_len 0 (n + 1) ≡ range_with_len 0 n ++ n ∷ []
    range-more n =
        let at : 0 + n ≡ n = omega arith in
        sym (map-id (range_with_len 0 (n + 1))) ∙ map-range_with_len_more (λ (k : ℕ). k) 0 n n at
        ∙ ap (λ ks. ks ++ n ∷ []) (map-id (range_with_len 0 n))

-- ---- networks that are seated

pub record IsReady (config : RadioConfig) (queue : QueueName) (log : NetworkWithFrames) (pass : NetPassView) : Type 0 where
  pub named : pass.name ≡ queue
  pub placed : pass.place < length config.networks
  pub pushed : pass.pushed ≡ []
  pub network : log ≡ after_events (setting_at config pass.place) []

ready-from : (config : RadioConfig) (queue : QueueName) (place : ℕ) (ns : List NetConfig)
    → place + length ns ≡ length config.networks
    → ((i : ℕ) → i < length ns → get_or ns i no_network ≡ network_at config (place + i))
    → AllZip (IsReady config queue) (map (λ n. after_events (setting_in config n) []) ns)
    (map (fresh_pass queue) (range_with_len place (length ns)))
ready-from config queue place [] count same = tt
ready-from config queue place (n ∷ ns) count same =
    let here : place + 0 ≡ place = omega arith in
    let within : place < length config.networks = omega (arith, count) in
    let is : n ≡ network_at config place = same 0 (omega arith) ∙ ap (network_at config) here in
    let next : place + 1 + length ns ≡ length config.networks = omega (arith, count) in (
      record {
        named = refl;
        placed = within;
        pushed = refl;
        network = ap (λ (m : NetConfig). after_events (setting_in config m) []) is;
      },
      ready-from config queue (place + 1) ns next
          (λ i lt.
          let at : place + suc i ≡ place + 1 + i = omega arith in
          same (suc i) (omega (arith, lt)) ∙ ap (network_at config) at),
    )

pub all-ready : (config : RadioConfig) (queue : QueueName)
    → AllZip (IsReady config queue) (map (λ n. after_events (setting_in config n) []) config.networks)
    (fresh_passes queue (length config.networks))
all-ready config queue =
    ready-from config queue 0 config.networks (omega arith)
    (λ i lt. let at : i ≡ 0 + i = omega arith in ap (network_at config) at)

-- The frames that wait at a place leave, one at a time.
use Rattle.std.proofs.Common.{◌≡◌, ℕ, ◌<◌, ◌++◌, ◌∷◌, [], List, length, set, sym, ap, ◌∙◌, arith, inl, inr, refl}
use Rattle.std.proofs.Common.{append_assoc}
use Rattle.std.proofs.lemmas.Bool.{cases_lt}
use Rattle.std.proofs.lemmas.List.{set-set, set-get_or, length-set, get_or-set_same, get_or_past}
use Rattle.bss_core.specs.RadioView.{NetworkView, RadioView, unused, view_at}
use Rattle.replay.specs.Frames.{FrameLists, sent_at}
use Rattle.replay.specs.Replay.{SendsOne, with_waiting}
use Rattle.replay.specs.declared.model.drained_radio.DrainedRadio.{DrainedRadio}

-- a place where a frame waits is one of the radio's
pub place_there : (r : RadioView) (place : ℕ) (frame : List ℕ) (rest : List (List ℕ))
    → (view_at r place).waiting ≡ frame ∷ rest → place < length r.networks
place_there r place frame rest e =
    elim (cases_lt place (length r.networks)) [
      | inl lt ↦ lt
      | inr past ↦
          let none : [] ≡ frame ∷ rest =
          sym (ap (λ (n : NetworkView). n.waiting) (get_or_past r.networks place unused past)) ∙ e in
          absurd (cc)
    ]

-- what waits there is seen there
pub view_at-with_waiting : (r : RadioView) (place : ℕ) (frames : List (List ℕ)) → place < length r.networks
    → view_at (with_waiting r place frames) place ≡ record (view_at r place) { waiting = frames }
view_at-with_waiting r place frames lt =
    get_or-set_same r.networks place (record (view_at r place) { waiting = frames }) unused lt

-- what waits there last counts
pub with_waiting-twice : (r : RadioView) (place : ℕ) (frames others : List (List ℕ)) → place < length r.networks
    → with_waiting (with_waiting r place frames) place others ≡ with_waiting r place others
with_waiting-twice r place frames others lt =
    let n : NetworkView = view_at r place in
    rw
    (view_at-with_waiting r place frames lt, set-set r.networks place (record n { waiting = frames }) (record n { waiting = others }))
    refl

pub with_waiting-same : (r : RadioView) (place : ℕ) → with_waiting r place (view_at r place).waiting ≡ r
with_waiting-same r place =
    ap (λ (ns : List NetworkView). record r { networks = ns }) (set-get_or r.networks place unused)

-- ---- one more frame left

-- of the frames at a place some left, and these wait still
pub record Drains (place : ℕ) (old new : DrainedRadio) : Type 0 where
  pub radio : new.radio ≡ with_waiting old.radio place (view_at new.radio place).waiting
  pub sent : new.sent ≡ set old.sent place (sent_at new.sent place)
  pub moved : sent_at new.sent place ++ (view_at new.radio place).waiting ≡ sent_at old.sent place
      ++ (view_at old.radio place).waiting

pub drains-one : (place : ℕ) (first old new : DrainedRadio) → place < length first.sent → Drains place first old
    → SendsOne place old new → Drains place first new
drains-one place first old new within d one =
    let r0 : RadioView = first.radio in
    let l0 : FrameLists = first.sent in
    let r : RadioView = old.radio in
    let l : FrameLists = old.sent in
    let w : List (List ℕ) = (view_at r place).waiting in
    let there : place < length r.networks = place_there r place one.frame one.rest one.waiting in
    let as_before : length r.networks ≡ length r0.networks =
    ap (λ (v : RadioView). length v.networks) d.radio ∙ length-set r0.networks place _ in
    let there0 : place < length r0.networks = omega arith in
    let radio : new.radio ≡ with_waiting r0 place one.rest =
    one.radio ∙ ap (λ (v : RadioView). with_waiting v place one.rest) d.radio
    ∙ with_waiting-twice r0 place w one.rest there0 in
    let waits : (view_at new.radio place).waiting ≡ one.rest =
    ap (λ (v : RadioView). (view_at v place).waiting) radio
    ∙ ap (λ (n : NetworkView). n.waiting) (view_at-with_waiting r0 place one.rest there0) in
    let more : List (List ℕ) = sent_at l place ++ one.frame ∷ [] in
    let sent : new.sent ≡ set l0 place more =
    one.sent ∙ ap (λ (x : FrameLists). set x place more) d.sent ∙ set-set l0 place (sent_at l place) more in
    let at : sent_at new.sent place ≡ more =
    ap (λ (x : FrameLists). sent_at x place) sent ∙ get_or-set_same l0 place more [] within in
    record {
      radio = radio ∙ ap (λ (frames : List (List ℕ)). with_waiting r0 place frames) (sym waits);
      sent = sent ∙ ap (λ (x : List (List ℕ)). set l0 place x) (sym at);
      moved =
          rw (at, waits)
          (append_assoc (sent_at l place) (one.frame ∷ []) one.rest ∙ ap (λ (x : List (List ℕ)). sent_at l place ++ x) (sym one.waiting) ∙ d.moved);
    }

-- one frame less waits
pub one_less : (place : ℕ) (old new : DrainedRadio) → SendsOne place old new
    → length (view_at new.radio place).waiting < length (view_at old.radio place).waiting
one_less place old new one =
    let r : RadioView = old.radio in
    let there : place < length r.networks = place_there r place one.frame one.rest one.waiting in
    let waits : (view_at new.radio place).waiting ≡ one.rest =
    ap (λ (v : RadioView). (view_at v place).waiting) one.radio
    ∙ ap (λ (n : NetworkView). n.waiting) (view_at-with_waiting r place one.rest there) in
    let before : length (view_at r place).waiting ≡ length (one.frame ∷ one.rest) = ap length one.waiting in
    let after : length (view_at new.radio place).waiting ≡ length one.rest = ap length waits in
    omega arith

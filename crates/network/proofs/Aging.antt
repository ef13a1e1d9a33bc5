-- Units one after the other, and those that are too old.
use Rattle.std.proofs.Common.{◌≡◌, ℕ, ◌+◌, Bool, true, false, not, ◌&&◌, List, [], ◌∷◌, length, inl, inr, refl, ap, ◌∙◌, arith}
use Rattle.std.specs.Prelude.{filter, nat_lt}
use Rattle.std.proofs.lemmas.Bool.{cases_Bool, cond_both}
use Rattle.powersave.specs.Keep.{Entry, is_for, units_for}
use Rattle.powersave.specs.declared.unit.Whom.TheVariants.{Group}
use Rattle.ap_config.specs.declared.setting.Setting.{Setting}
use Rattle.network.specs.Network.{Network, has_aged, drop_lost, age_units}
use Rattle.network.specs.Replies.{Replied, before_outcome}
use Rattle.roster.specs.KeptUnits.{group_is_kept, is_too_old}
use Rattle.network.specs.declared.reply.Reply.{Reply}
use Rattle.roster.specs.Changes.{GroupStays}

-- those that age are no units for the group
module _ (p : Entry → Bool) (group : (e : Entry) → is_for Group e ≡ true → p e ≡ false) where
  pub group-units : (es : List Entry) → units_for Group (filter (λ e. not (p e)) es) ≡ units_for Group es
  group-units [] = refl
  group-units (e ∷ es) = elim (cases_Bool (is_for Group e)) [
    | inl here ↦ rw (group e here) (rw here (ap (λ us. e.1 ∷ us) (group-units es)))
    | inr other ↦
        let stay : List Entry = filter (λ e. not (p e)) es in
        cond_both (not (p e)) (e ∷ stay) stay (λ fs. units_for Group fs ≡ units_for Group (e ∷ es)) (λ _. rw other (group-units es)) (λ _. rw other (group-units es))
  ]

  pub group-still_kept : (es : List Entry) → group_is_kept (filter (λ e. not (p e)) es) ≡ group_is_kept es
  group-still_kept [] = refl
  group-still_kept (e ∷ es) = elim (cases_Bool (is_for Group e)) [
    | inl here ↦ rw (group e here) (rw here refl)
    | inr other ↦
        let stay : List Entry = filter (λ e. not (p e)) es in
        cond_both (not (p e)) (e ∷ stay) stay (λ fs. group_is_kept fs ≡ group_is_kept (e ∷ es)) (λ _. rw other (group-still_kept es)) (λ _. rw other (group-still_kept es))
  ]

-- in a network of whatever setting
pub group-stays_young : GroupStays → (s : Setting) (n : Network) (e : Entry) → is_for Group e ≡ true → has_aged s n e ≡ false
group-stays_young group s n e h = by s.network.aging
  where
    by : (b : Bool) → (b && is_too_old n.clock n.stations e) ≡ false
    by true = group.young n.clock n.stations e h
    by false = refl

-- where none leaves, all stay
none-leaves : (p : Entry → Bool) (es : List Entry) → ((e : Entry) → p e ≡ false) → (filter (λ e. not (p e)) es ≡ es) × (filter p es ≡ [])
none-leaves p [] none = (refl, refl)
none-leaves p (e ∷ es) none = let rest = none-leaves p es none in (rw (none e) (ap (λ fs. e ∷ fs) rest.0), rw (none e) rest.1)

-- where units don't age
pub unaged : (s : Setting) (n : Network) → s.network.aging ≡ false → age_units s n ≡ n
unaged s n off =
    let stay = none-leaves (has_aged s n) n.kept (λ e. ap (λ b. b && is_too_old n.clock n.stations e) off) in
    λ i. record n { kept = stay.0 i; lost = lost i }
  where
    lost : n.lost + length (filter (has_aged s n) n.kept) ≡ n.lost
    lost =
        let none = (none-leaves (has_aged s n) n.kept (λ e. ap (λ b. b && is_too_old n.clock n.stations e) off)).1 in
        ap (λ (es : List Entry). n.lost + length es) none ∙ (omega arith)

-- where no beacon interval begins, no unit ages
all-stay : (s : Setting) (r : Reply) (n : Network) → r.clock ≡ 0 → drop_lost (λ e. (nat_lt 0 r.clock && s.network.aging) && is_too_old n.clock n.stations e) n ≡ n
all-stay s r n none =
    let stay = none-leaves leaves n.kept never in
    λ i. record n { kept = stay.0 i; lost = (ap (λ (es : List Entry). n.lost + length es) stay.1 ∙ kept-count) i }
  where
    leaves : Entry → Bool
    leaves e = (nat_lt 0 r.clock && s.network.aging) && is_too_old n.clock n.stations e

    never : (e : Entry) → leaves e ≡ false
    never e = ap (λ (c : ℕ). (nat_lt 0 c && s.network.aging) && is_too_old n.clock n.stations e) none

    kept-count : n.lost + 0 ≡ n.lost
    kept-count = omega arith

pub before-none : (s : Setting) (r : Reply) (n : Network) → r.clock ≡ 0 → before_outcome s (Replied r) n ≡ n
before-none s r n none = all-stay s r n none

-- where one begins
pub before-tick : (s : Setting) (r : Reply) (n : Network) → r.clock ≡ 1 → before_outcome s (Replied r) n ≡ age_units s n
before-tick s r n one = ap (λ (c : ℕ). drop_lost (λ e. (nat_lt 0 c && s.network.aging) && is_too_old n.clock n.stations e) n) one

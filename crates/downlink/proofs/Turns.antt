-- Whose turn it is among the receivers of a network, by the bits of those of which a frame may go.
use Rattle.std.proofs.Common.{◌≡◌, ◌≢◌, ◌<◌, ◌≤◌, ℕ, zero, suc, ◌+◌, ◌/◌, Bool, true, false, List, [], ◌∷◌, length, map, set, get_or, Option, Some, None}
use Rattle.std.proofs.Common.{refl, sym, ap, ◌∙◌, inl, inr, arith}
use Rattle.std.specs.Prelude.{is_some, IfSome, IfNone, nat_eq, if◌then◌else◌}
use Rattle.std.specs.Option.{option_map}
use Rattle.std.proofs.lemmas.Bool.{false≢true, cases_eq, eq-eqb, ne_eqb}
use Rattle.std.proofs.lemmas.List.{length-set, length-map}
use Rattle.downlink.specs.Receiver.{Queue, new_queue, may_go}
use Rattle.downlink.specs.Networks.{first_from, or_else}
use Rattle.downlink.specs.Ready.{has_bit, IsFirstFrom, may_go_at, IsReady}

-- ---- the first from a place on

first_is : (from : ℕ) (qs : List Queue) (place : ℕ) → IsFirstFrom from (may_go_at qs) place → first_from from qs ≡ Some place
first_is from [] place f = absurd (false≢true f.passes)
first_is zero (q ∷ qs) zero f =
    ap (λ b. if b then Some zero else option_map suc (first_from zero qs)) f.passes
first_is zero (q ∷ qs) (suc place) f =
    ap (λ b. if b then Some zero else option_map suc (first_from zero qs)) (f.others zero (omega arith) (omega arith))
    ∙ ap (option_map suc) (first_is zero qs place (record {
      not_before = omega arith;
      passes = f.passes;
      others = λ p after before. f.others (suc p) (omega arith) (omega arith);
    }))
first_is (suc from) (q ∷ qs) zero f = absurd (omega (arith, f.not_before))
first_is (suc from) (q ∷ qs) (suc place) f =
    ap (option_map suc) (first_is from qs place (record {
      not_before = omega (arith, f.not_before);
      passes = f.passes;
      others = λ p after before. f.others (suc p) (omega arith) (omega arith);
    }))

none_is : (from : ℕ) (qs : List Queue) → ((p : ℕ) → from ≤ p → may_go_at qs p ≡ false) → first_from from qs ≡ None
none_is from [] f = refl
none_is zero (q ∷ qs) f =
    ap (λ b. if b then Some zero else option_map suc (first_from zero qs)) (f zero (omega arith))
    ∙ ap (option_map suc) (none_is zero qs (λ p after. f (suc p) (omega arith)))
none_is (suc from) (q ∷ qs) f =
    ap (option_map suc) (none_is from qs (λ p after. f (suc p) (omega arith)))

within_is : (qs : List Queue) (place : ℕ) → may_go_at qs place ≡ true → place < length qs
within_is [] place e = absurd (false≢true e)
within_is (q ∷ qs) zero e = omega arith
within_is (q ∷ qs) (suc place) e = omega (arith, within_is qs place e)

-- ---- as the bits have it

pub first_by_bits : (words : List ℕ) (qs : List Queue) (from place : ℕ) → IsReady words qs → IsFirstFrom from (has_bit words) place
    → first_from from qs ≡ Some place
first_by_bits words qs from place r f =
    first_is from qs place (record {
      not_before = f.not_before;
      passes = sym (r.bits place) ∙ f.passes;
      others = λ p after before. sym (r.bits p) ∙ f.others p after before;
    })

pub none_by_bits : (words : List ℕ) (qs : List Queue) (from : ℕ) → IsReady words qs → ((p : ℕ) → from ≤ p → has_bit words p ≡ false)
    → first_from from qs ≡ None
none_by_bits words qs from r none = none_is from qs (λ p after. sym (r.bits p) ∙ none p after)

pub within_by_bits : (words : List ℕ) (qs : List Queue) (from place : ℕ) → IsReady words qs → IsFirstFrom from (has_bit words) place
    → place < length qs
within_by_bits words qs from place r f = within_is qs place (sym (r.bits place) ∙ f.passes)

first_or_none : (words : List ℕ) (qs : List Queue) (from : ℕ) (o : Option ℕ) → IsReady words qs → IfSome o (IsFirstFrom from (has_bit words))
    → IfNone o ((p : ℕ) → from ≤ p → has_bit words p ≡ false) → o ≡ first_from from qs
first_or_none words qs from None r found none = sym (none_by_bits words qs from r none)
first_or_none words qs from (Some place) r found none = sym (first_by_bits words qs from place r found)

-- where there is none from a place on, the turn goes to the first of all
pub turn_by_bits : (words : List ℕ) (qs : List Queue) (from : ℕ) (o : Option ℕ) → IsReady words qs
    → ((p : ℕ) → from ≤ p → has_bit words p ≡ false) → IfSome o (IsFirstFrom zero (has_bit words))
    → IfNone o ((p : ℕ) → zero ≤ p → has_bit words p ≡ false) → o ≡ or_else (first_from from qs) (first_from zero qs)
turn_by_bits words qs from o r behind found none =
    first_or_none words qs zero o r found none
    ∙ ap (λ x. or_else x (first_from zero qs)) (sym (none_by_bits words qs from r behind))

pub turn_within : (words : List ℕ) (qs : List Queue) (o : Option ℕ) → IsReady words qs → IfSome o (IsFirstFrom zero (has_bit words))
    → IfSome o (λ place. place < length qs)
turn_within words qs None r found = found
turn_within words qs (Some place) r found = within_by_bits words qs zero place r found

some_or : (o : Option ℕ) (place : ℕ) → true ≡ is_some (or_else o (Some place))
some_or None place = refl
some_or (Some other) place = refl

-- a frame may go of a network where one may of any receiver
pub has_next_by_bits : (words : List ℕ) (qs : List Queue) (from : ℕ) (o : Option ℕ) → IsReady words qs → IfSome o (IsFirstFrom zero (has_bit words))
    → IfNone o ((p : ℕ) → zero ≤ p → has_bit words p ≡ false) → is_some o ≡ is_some (or_else (first_from from qs) (first_from zero qs))
has_next_by_bits words qs from None r found none =
    ap is_some (turn_by_bits words qs from None r (λ p after. none p (omega arith)) found none)
has_next_by_bits words qs from (Some place) r found none =
    some_or (first_from from qs) place
    ∙ ap (λ o. is_some (or_else (first_from from qs) o)) (first_or_none words qs zero (Some place) r found none)

-- ---- the bits stay right

none_new : (mosts : List ℕ) (place : ℕ) → may_go_at (map new_queue mosts) place ≡ false
none_new [] place = refl
none_new (most ∷ mosts) zero = refl
none_new (most ∷ mosts) (suc place) = none_new mosts place

pub ready_new : (words mosts : List ℕ) → length words ≡ length mosts / 64 + 1 → ((p : ℕ) → has_bit words p ≡ false)
    → IsReady words (map new_queue mosts)
ready_new words mosts room none =
    record {
      room = room ∙ ap (λ n. n / 64 + 1) (sym (length-map mosts new_queue));
      bits = λ place. none place ∙ sym (none_new mosts place);
    }

set_here : (qs : List Queue) (r : ℕ) (q : Queue) → r < length qs → may_go_at (set qs r q) r ≡ may_go q
set_here [] r q within = absurd (omega arith)
set_here (x ∷ qs) zero q within = refl
set_here (x ∷ qs) (suc r) q within = set_here qs r q (omega arith)

set_beside : (qs : List Queue) (r p : ℕ) (q : Queue) → p ≢ r → may_go_at (set qs r q) p ≡ may_go_at qs p
set_beside [] r p q ne = refl
set_beside (x ∷ qs) zero zero q ne = absurd (ne refl)
set_beside (x ∷ qs) zero (suc p) q ne = refl
set_beside (x ∷ qs) (suc r) zero q ne = refl
set_beside (x ∷ qs) (suc r) (suc p) q ne = set_beside qs r p q (λ e. ne (ap suc e))

-- a receiver changes, and its bit with it
pub ready_set : (words words' : List ℕ) (qs : List Queue) (r : ℕ) (q : Queue) (b : Bool) → IsReady words qs → r < length qs
    → b ≡ may_go q → length words' ≡ length words
    → ((p : ℕ) → has_bit words' p ≡ (if (nat_eq p r) then b else has_bit words p)) → IsReady words' (set qs r q)
ready_set words words' qs r q b ready within is room bits =
    record {
      room = room ∙ ready.room ∙ ap (λ n. n / 64 + 1) (sym (length-set qs r q));
      bits = λ p. elim (cases_eq p r) [
        | inl here ↦ bits p ∙ ap (λ t. if t then b else has_bit words p) (eq-eqb p r here)
            ∙ is ∙ sym (set_here qs r q within) ∙ ap (may_go_at (set qs r q)) (sym here)
        | inr beside ↦ bits p ∙ ap (λ t. if t then b else has_bit words p) (ne_eqb p r beside)
            ∙ ready.bits p ∙ sym (set_beside qs r p q beside)
      ];
    }

-- a receiver is put where it stands
pub set_same : (qs : List Queue) (r : ℕ) (q : Queue) → r < length qs → q ≡ get_or qs r q → set qs r q ≡ qs
set_same [] r q within is = refl
set_same (x ∷ qs) zero q within is = ap (λ y. y ∷ qs) is
set_same (x ∷ qs) (suc r) q within is = ap (λ ys. x ∷ ys) (set_same qs r q (omega arith) is)

use Rattle.std.proofs.Common.{◌≡◌, ◌<◌, ◌+◌, ◌++◌, ◌∷◌, [], ℕ, List, Bool, true, false, length, is_some, filter, get_or, take, refl, sym, ap, ◌∙◌, arith}
use Rattle.std.proofs.lemmas.Grind.{drop_more_same}
use Rattle.std.proofs.lemmas.List.Elements.{filter_more}
use Rattle.std.proofs.lemmas.List.{append-nil, length-set, take_all, take_min, take_more_set, drop-set-lt}
use Rattle.address_map.specs.Slots.{Slots, slot_at}
use Rattle.address_map.proofs.SlotOrder.{same-from}
use Rattle.address_map.proofs.order.move_together.Goals as goal
use Rattle.address_map.proofs.order.move_together.Goals.{then-is_some, else-is_some}

-- one more that is kept, and one that isn't
kept-more : (p : ℕ → Bool) (row : List ℕ) (q x : ℕ) → q < length row → x ≡ get_or row q 0 → p x ≡ true → filter p (take q row) ++ x ∷ [] ≡ filter p (take (q + 1) row)
kept-more p row q x within is some = cc (filter_more p row q 0 within)

kept-same : (p : ℕ → Bool) (row : List ℕ) (q x : ℕ) → q < length row → x ≡ get_or row q 0 → p x ≡ false → filter p (take q row) ≡ filter p (take (q + 1) row)
kept-same p row q x within is none = cc (filter_more p row q 0 within, append-nil (filter p (take q row)))

pub loop-place-init : goal.loop-place-init
loop-place-init g c =
    let row : List ℕ = c.args.row.now in
    let p : ℕ → Bool = λ slot. is_some (slot_at c.args.slots.now slot) in
    let start : take c.min-kept.result row ≡ take c.args.first row = ap (λ n. take n row) c.min-kept.ensures ∙ take_min c.args.first row in
    record {
      len = refl;
      few = omega arith;
      done = λ same. start ∙ sym same ∙ ap (filter p) (sym start);
      rest = refl;
    }

pub loop-place-preserved : goal.loop-place-preserved
loop-place-preserved g c =
    let old : List ℕ = c.args.row.now in
    let row : List ℕ = c.loop-place.row in
    let k : ℕ = c.loop-place.kept in
    let q : ℕ = c.loop-place.place in
    let slots : Slots _ = c.args.slots.now in
    let p : ℕ → Bool = λ slot. is_some (slot_at slots slot) in
    let x : ℕ = get_or row q 0 in
    let within : q < length old = c.loop-place-test.true in
    let same : x ≡ get_or old q 0 = same-from q row old c.loop-place.invariant.rest in
    elim c.if-is_some.branch [
      | then-is_some w ↦
          let some : p x ≡ true = ap is_some (sym c.entry_in.ensures) ∙ sym c.is_some.ensures ∙ w.if-is_some.true in
          rw (w.row-is, w.kept-is) (record {
            len = length-set row k x ∙ c.loop-place.invariant.len;
            few = omega (arith, c.loop-place.invariant.few);
            done = λ first. take_more_set row k x (omega (arith, c.loop-place.invariant.len, c.loop-place.invariant.few, within))
                ∙ ap (λ (r : List ℕ). r ++ x ∷ []) (c.loop-place.invariant.done first) ∙ kept-more p old q x within same some;
            rest = drop-set-lt (q + 1) row k x (omega (arith, c.loop-place.invariant.few)) ∙ drop_more_same row old q c.loop-place.invariant.rest;
          })
      | else-is_some w ↦
          let none : p x ≡ false = ap is_some (sym c.entry_in.ensures) ∙ sym c.is_some.ensures ∙ w.if-is_some.false in
          rw (w.row-is, w.kept-is) (record {
            len = c.loop-place.invariant.len;
            few = omega (arith, c.loop-place.invariant.few);
            done = λ first. c.loop-place.invariant.done first ∙ kept-same p old q x within same none;
            rest = drop_more_same row old q c.loop-place.invariant.rest;
          })
    ]

pub returns-clause-kept : goal.returns-clause-kept
returns-clause-kept g c first =
    let old : List ℕ = c.args.row.now in
    let p : ℕ → Bool = λ slot. is_some (slot_at c.args.slots.now slot) in
    c.loop-place.invariant.done first ∙ ap (filter p) (take_all c.loop-place.place old (omega (arith, c.loop-place-test.false)))

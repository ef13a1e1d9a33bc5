use Rattle.std.proofs.Common.{◌≡◌, ◌<◌, ◌∷◌, ℕ, Bool, List, length, is_some, filter, get_or, take, drop, sym, ap, subst, ◌∙◌, arith, vec_len}
use Rattle.std.proofs.lemmas.List.{take_all, take-append-le}
use Rattle.address_map.specs.Slots.{Slots, slot_at, listed, holes_from}
use Rattle.address_map.proofs.SlotOrder.{before-first, first-of, order-kept}
use Rattle.address_map.proofs.order.Order.drop_gone.Goals as goal

pub returns : goal.returns
returns g c l =
    let slots : Slots _ = c.args.slots.now in
    let p : ℕ → Bool = λ slot. is_some (slot_at slots slot) in
    let row : List ℕ = c.args.self.now.row.items in
    let gone : List ℕ = c.args.self.now.gone.items in
    let shown : List ℕ = c.deref.result.now in
    let first : ℕ = c.in-Some.first.now in
    let moved : List ℕ = c.move_together-len.new.row in
    let some : 0 < length gone = subst (λ (g : List ℕ). 0 < length g) c.deref.ensures.value c.in-Some.ensures.item.3.0 in
    let at : first ≡ get_or gone 0 0 = c.in-Some.ensures.item.3.1 0 ∙ ap (λ (g : List ℕ). get_or g 0 0) c.deref.ensures.value in
    let places : first ∷ drop 1 gone ≡ holes_from 0 (listed row slots) = ap (λ n. n ∷ drop 1 gone) at ∙ sym (first-of gone some) ∙ l.places in
    let before : filter p (take first row) ≡ take first row = before-first 0 row slots first (drop 1 gone) first places (omega arith) in
    let value : c.as_mut_slice.result.now ≡ row = c.as_mut_slice.ensures.value in
    let len : length moved ≡ vec_len c.args.self.now.row = c.move_together-len.ensures.len ∙ c.as_mut_slice.ensures.len in
    let kept : take c.move_together-len.result moved ≡ filter p row =
    c.move_together-len.ensures.kept (subst (λ (r : List ℕ). filter p (take first r) ≡ take first r) (sym value) before) ∙ ap (filter p) value in
    let whole = take-append-le (vec_len c.args.self.now.row) moved _ (omega (arith, len)) ∙ take_all (vec_len c.args.self.now.row) moved (omega (arith, len)) in
    order-kept row gone c.truncate.new.self.items c.clear.new.self.items slots (c.truncate.ensures.items ∙ ap (take c.move_together-len.result) whole ∙ kept) c.clear.ensures.items l

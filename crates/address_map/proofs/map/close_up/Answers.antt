use Rattle.std.proofs.Common.{◌≡◌, ℕ, [], length, min, List, filter, is_some, refl, sym, subst, ap, ◌∙◌, arith}
use Rattle.std.specs.List.{range_with_len}
use Rattle.address_map.specs.Slots.{Slots, slot_at, Rises, AreIn, AreFound, IsListed, with_places}
use Rattle.address_map.proofs.SlotOrder.{order-kept, may-list-numbered}
use Rattle.address_map.proofs.IndexMended.{row-rises, slots-in, found-moved}
use Rattle.address_map.proofs.map.close_up.Goals as goal

pub mend-requires-clause-rising : goal.mend-requires-clause-rising
mend-requires-clause-rising g c =
    let slots : Slots _ = c.args.slots.now.items in
    let row : List ℕ = c.list_entries.new.self.row.items in
    let cut : row ≡ filter (λ k. is_some (slot_at slots k)) c.args.order.now.row.items = c.list_entries.ensures.row ∙ ap (λ (s : Slots _). filter (λ k. is_some (slot_at s k)) c.args.order.now.row.items) c.as_slice.ensures.value in
    let kept : IsListed row [] slots = order-kept c.args.order.now.row.items c.args.order.now.gone.items row [] slots cut refl c.requires.listed in
    subst (Rises 0) (sym c.as_slice-2.ensures.value) (row-rises row slots c.requires.apart kept)

pub mend-requires-clause-listed : goal.mend-requires-clause-listed
mend-requires-clause-listed g c =
    let slots : Slots _ = c.args.slots.now.items in
    let row : List ℕ = c.list_entries.new.self.row.items in
    let cut : row ≡ filter (λ k. is_some (slot_at slots k)) c.args.order.now.row.items = c.list_entries.ensures.row ∙ ap (λ (s : Slots _). filter (λ k. is_some (slot_at s k)) c.args.order.now.row.items) c.as_slice.ensures.value in
    let kept : IsListed row [] slots = order-kept c.args.order.now.row.items c.args.order.now.gone.items row [] slots cut refl c.requires.listed in
    let listed : AreIn row c.args.index.now.entries = slots-in c.args.index.now.entries row slots c.requires.apart c.requires.found kept in
    subst (λ (r : List ℕ). AreIn r c.args.index.now.entries) (sym c.as_slice-2.ensures.value) listed

pub returns-clause-found : goal.returns-clause-found
returns-clause-found g c =
    let slots : Slots _ = c.args.slots.now.items in
    let row : List ℕ = c.list_entries.new.self.row.items in
    let cut : row ≡ filter (λ k. is_some (slot_at slots k)) c.args.order.now.row.items = c.list_entries.ensures.row ∙ ap (λ (s : Slots _). filter (λ k. is_some (slot_at s k)) c.args.order.now.row.items) c.as_slice.ensures.value in
    let kept : IsListed row [] slots = order-kept c.args.order.now.row.items c.args.order.now.gone.items row [] slots cut refl c.requires.listed in
    let moved : AreFound (with_places row c.args.index.now.entries) c.drop_holes.new.slots.items = found-moved c.args.index.now.entries row slots c.drop_holes.new.slots.items c.requires.apart c.requires.found kept c.drop_holes.ensures.entries c.drop_holes.ensures.full in
    subst (λ (es : List (List ℕ × ℕ)). AreFound es c.drop_holes.new.slots.items) (sym (c.mend.ensures ∙ ap (λ (r : List ℕ). with_places r c.args.index.now.entries) c.as_slice-2.ensures.value)) moved

pub returns-clause-listed : goal.returns-clause-listed
returns-clause-listed g c =
    let slots : Slots _ = c.args.slots.now.items in
    let after : Slots _ = c.drop_holes.new.slots.items in
    let row : List ℕ = c.list_entries.new.self.row.items in
    let cut : row ≡ filter (λ k. is_some (slot_at slots k)) c.args.order.now.row.items = c.list_entries.ensures.row ∙ ap (λ (s : Slots _). filter (λ k. is_some (slot_at s k)) c.args.order.now.row.items) c.as_slice.ensures.value in
    let kept : IsListed row [] slots = order-kept c.args.order.now.row.items c.args.order.now.gone.items row [] slots cut refl c.requires.listed in
    let count : c.len.result ≡ length after = omega (arith, c.len.ensures) in
    may-list-numbered row [] c.number.new.self.row.items c.number.new.self.gone.items slots after (λ some. kept) c.drop_holes.ensures.entries c.drop_holes.ensures.full
    (c.number.ensures.row ∙ ap (λ n. range_with_len 0 (min n (length row))) count) c.number.ensures.gone

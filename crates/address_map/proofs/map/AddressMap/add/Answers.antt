use Rattle.std.proofs.Common.{◌≡◌, ◌<◌, ℕ, List, [], ◌∷◌, ◌++◌, cond, length, None, Some, ◌∙◌, sym, ap, subst, arith}
use Rattle.std.specs.Map.{lookup}
use Rattle.std.specs.Str.{bytes_eq}
use Rattle.address_map.specs.Entries.{Entries, value_of}
use Rattle.address_map.specs.Slots.{Slots, AreFound, IsAddressMap, MayList, entries_in}
use Rattle.address_map.proofs.FoundSlots.{entries-last}
use Rattle.address_map.proofs.SlotOrder.{list-last, may-list-last}
use Rattle.address_map.proofs.map.AddressMap.add.Goals as goal

pub returns-clause-ok : goal.returns-clause-ok
returns-clause-ok g c =
    let slots : Slots _ = c.self.inside.slots.items in
    ap entries_in (c.push_reserved-2.ensures.items ∙ ap (λ (s : Slots _). s ++ Some (c.args.addr, c.args.value) ∷ []) c.reserve.ensures.items)
    ∙ entries-last c.args.addr c.args.value slots ∙ ap (λ (t : Entries _). t ++ (c.args.addr, c.args.value) ∷ []) c.self.view_is

pub invariant_of-self-2 : goal.invariant_of-self-2
invariant_of-self-2 g c =
    let slots : Slots _ = c.self.inside.slots.items in
    let entry : List ℕ × _ = (c.args.addr, c.args.value) in
    let row : List ℕ = c.make_room.new.self.row.items in
    let gone : List ℕ = c.make_room.new.self.gone.items in
    let rows : List ℕ = c.push_reserved.new.self.row.items in
    let places : List ℕ = c.push_reserved.new.self.gone.items in
    let old : List (List ℕ × ℕ) = c.self.inside.index.entries in
    let new : List (List ℕ × ℕ) = c.insert.new.self.entries in
    let items : c.push_reserved-2.new.self.items ≡ slots ++ Some entry ∷ [] = c.push_reserved-2.ensures.items ∙ ap (λ (s : Slots _). s ++ Some entry ∷ []) c.reserve.ensures.items in
    let unknown : value_of c.args.addr (entries_in slots) ≡ None = ap (value_of c.args.addr) c.self.view_is ∙ c.requires in
    let last : c.len-slot.result ≡ length slots = omega (arith, c.len-slot.ensures, ap length c.reserve.ensures.items) in
    let listed : MayList row gone slots = subst (MayList row gone) c.as_slice.ensures.value (c.make_room.ensures.listed (subst (MayList c.self.inside.order.row.items c.self.inside.order.gone.items) (sym c.as_slice.ensures.value) c.self.invariant.listed)) in
    let more : 0 < length row → rows ≡ row ++ length slots ∷ [] = λ some. c.push_reserved.ensures.some some ∙ ap (λ n. row ++ (n ∷ [])) last in
    let order : MayList rows places (slots ++ Some entry ∷ []) = may-list-last row gone rows places slots entry listed more c.push_reserved.ensures.none (ap (λ g. g.items) c.push_reserved.ensures.gone) in
    subst (λ (s : Slots _). IsAddressMap new s c.self.inside.holes rows places) (sym items)
    (list-last old new slots c.self.inside.holes c.self.inside.order.row.items c.self.inside.order.gone.items rows places c.args.addr c.args.value c.self.invariant unknown
    (λ q. c.in_ok-insert.ensures.updates.0 q ∙ ap (λ n. cond (bytes_eq c.args.addr q) (Some n) (lookup (bytes_eq q) old)) last) order)

pub invariant_of-self-in_err-reserve : goal.invariant_of-self-in_err-reserve
invariant_of-self-in_err-reserve g c =
    let slots : Slots _ = c.self.inside.slots.items in
    let listed : MayList c.make_room.new.self.row.items c.make_room.new.self.gone.items slots = subst (MayList c.make_room.new.self.row.items c.make_room.new.self.gone.items) c.as_slice.ensures.value (c.make_room.ensures.listed (subst (MayList c.self.inside.order.row.items c.self.inside.order.gone.items) (sym c.as_slice.ensures.value) c.self.invariant.listed)) in
    subst (λ (s : Slots _). IsAddressMap c.self.inside.index.entries s c.self.inside.holes c.make_room.new.self.row.items c.make_room.new.self.gone.items) (sym c.reserve.ensures.items)
    (record { apart = c.self.invariant.apart; found = c.self.invariant.found; rest = c.self.invariant.rest; listed = listed })

pub invariant_of-self-in_err-insert : goal.invariant_of-self-in_err-insert
invariant_of-self-in_err-insert g c =
    let slots : Slots _ = c.self.inside.slots.items in
    let listed : MayList c.make_room.new.self.row.items c.make_room.new.self.gone.items slots = subst (MayList c.make_room.new.self.row.items c.make_room.new.self.gone.items) c.as_slice.ensures.value (c.make_room.ensures.listed (subst (MayList c.self.inside.order.row.items c.self.inside.order.gone.items) (sym c.as_slice.ensures.value) c.self.invariant.listed)) in
    let same : c.insert.new.self.entries ≡ c.self.inside.index.entries = c.in_err-insert.ensures.err in
    subst (λ (s : Slots _). IsAddressMap c.insert.new.self.entries s c.self.inside.holes c.make_room.new.self.row.items c.make_room.new.self.gone.items) (sym c.reserve.ensures.items)
    (record { apart = c.self.invariant.apart; found = subst (λ (es : List (List ℕ × ℕ)). AreFound es slots) (sym same) c.self.invariant.found; rest = c.self.invariant.rest; listed = listed })

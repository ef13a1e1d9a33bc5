use Rattle.std.proofs.Common.{◌≡◌, filter, is_some, length, sym, ap, ◌∙◌, rules}
use Rattle.std.proofs.lemmas.Fn.{filter_same}
use Rattle.address_map.specs.Slots.{entries_in}
use Rattle.address_map.proofs.FoundSlots.{entries-kept}
use Rattle.address_map.proofs.map.drop_holes.Goals as goal

pub returns-clause-entries : goal.returns-clause-entries
returns-clause-entries g c =
    let kept : c.retain.new.self.items ≡ filter is_some c.args.slots.now.items = filter_same _ is_some _ (λ x b f' k. search rules) _ _ c.retain.ensures.filtered in
    ap entries_in kept ∙ (entries-kept c.args.slots.now.items).0

pub returns-clause-full : goal.returns-clause-full
returns-clause-full g c =
    let kept : c.retain.new.self.items ≡ filter is_some c.args.slots.now.items = filter_same _ is_some _ (λ x b f' k. search rules) _ _ c.retain.ensures.filtered in
    let same = entries-kept c.args.slots.now.items in
    ap length (ap entries_in kept ∙ same.0) ∙ sym (ap length kept ∙ same.1)

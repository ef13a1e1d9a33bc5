use Rattle.std.proofs.Common.{◌∙◌}
use Rattle.address_map.proofs.SlotOrder.{list-cleared}
use Rattle.address_map.proofs.map.AddressMap.clear.Goals as goal

pub invariant_of-self : goal.invariant_of-self
invariant_of-self g c =
    list-cleared c.self.inside.index.entries c.self.inside.slots.items c.clear.new.self.items c.self.inside.holes c.self.inside.order.row.items c.self.inside.order.gone.items c.clear-2.new.self.row.items c.clear-2.new.self.gone.items
    c.self.invariant (c.self.view_is ∙ c.requires) c.clear.ensures.items c.clear-2.ensures.row

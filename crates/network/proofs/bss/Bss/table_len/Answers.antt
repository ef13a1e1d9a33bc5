use Rattle.std.proofs.Common.{◌∙◌, length, ap}
use Rattle.network.specs.BssView.{BssView, network_of}
use Rattle.network.specs.Network.{Network, table_of}
use Rattle.network.proofs.bss.Bss.table_len.Goals as goal

pub returns : goal.returns
returns c =
    c.table_len.ensures ∙ ap (λ (n : Network). length (table_of n)) c.self.invariant.0.network ∙ ap (λ (b : BssView). length (table_of (network_of b))) c.self.view_is

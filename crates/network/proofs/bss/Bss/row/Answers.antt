use Rattle.std.proofs.Common.{◌≡◌, ◌∙◌, ◌<◌, List, Some, length, slice_get, sym, ap, subst}
use Rattle.network.specs.BssView.{BssView, network_of}
use Rattle.network.specs.Network.{table_of}
use Rattle.events.specs.declared.section.StationRow.{StationRow}
use Rattle.network.proofs.bss.Bss.row.Goals as goal

pub row-requires : goal.row-requires
row-requires c =
    let same : table_of c.self.inside.network.network ≡ table_of (network_of c.args.self.now) = ap table_of c.self.invariant.0.network ∙ ap (λ (b : BssView). table_of (network_of b)) c.self.view_is in
    subst (λ (rows : List StationRow). c.args.place < length rows) (sym same) c.requires

pub returns : goal.returns
returns c =
    let same : table_of c.self.inside.network.network ≡ table_of (network_of c.args.self.now) = ap table_of c.self.invariant.0.network ∙ ap (λ (b : BssView). table_of (network_of b)) c.self.view_is in
    subst (λ (rows : List StationRow). slice_get rows c.args.place ≡ Some c.row.result) same c.row.ensures

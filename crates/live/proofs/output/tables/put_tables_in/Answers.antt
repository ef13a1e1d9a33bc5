use Rattle.text_io.specs.BufferLaws.{Puts-nothing, Puts-item, Puts-items}
use Rattle.network_report.specs.NetworkText.{table_in}
use Rattle.live.proofs.output.tables.put_tables_in.Goals as goal

pub loop-network-init : goal.loop-network-init
loop-network-init g c = Puts-nothing _ c.requires

pub loop-network-preserved : goal.loop-network-preserved
loop-network-preserved g c =
    Puts-item (table_in g.F.LineForm.written) c.args.networks.now c.loop-network.network-index c.network-item.result
    c.loop-network-test.true c.network-item.is
    c.loop-network.invariant
    c.put_table_in.ensures

pub returns : goal.returns
returns g c =
    Puts-items (table_in g.F.LineForm.written) c.args.networks.now c.loop-network.network-index
    c.loop-network-test.false
    c.loop-network.invariant

-- The tables of the networks so far were put.
use Rattle.std.proofs.Common.{take}
use Rattle.std.specs.Prelude.{flat_map}
use Rattle.text_io.specs.Buffers.{Puts, watch}
use Rattle.network_report.specs.NetworkText.{table_in}
use Rattle.live.proofs.output.tables.put_tables_in.Given as goal

abbrev pub invariant-loop-network : goal.invariant-loop-network
invariant-loop-network g l =
    Puts (watch g.W.Sink.taken g.W.Sink.failed) l.initial.out l.out
    (flat_map (table_in g.F.LineForm.written) (take l.network-index l.networks))

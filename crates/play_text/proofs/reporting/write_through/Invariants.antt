-- The texts of the networks so far were put.
use Rattle.std.proofs.Common.{take}
use Rattle.std.specs.Prelude.{flat_map}
use Rattle.network_report.specs.NetworkText.{network_text}
use Rattle.text_io.specs.Buffers.{Puts, watch}
use Rattle.play_text.proofs.reporting.write_through.Given as goal

abbrev pub invariant-loop-network : goal.invariant-loop-network
invariant-loop-network g l =
    Puts (watch g.W.Sink.taken g.W.Sink.failed) l.initial.buffered l.buffered
    (flat_map network_text (take l.network-index l.networks))

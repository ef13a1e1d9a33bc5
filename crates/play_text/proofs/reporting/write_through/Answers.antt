-- One more network is put, and in the end the piece is written. The sink after the piece is the one that was passed.
use Rattle.std.proofs.Common.{rules, ◌≡◌, ◌∙◌, ◌+◌, Ok}
use Rattle.text_io.specs.Endings.{Ends, failures_of, ending_of}
use Rattle.std.specs.Prelude.{flat_map}
use Rattle.network_report.specs.NetworkText.{network_text}
use Rattle.text_io.specs.Sinks.{write_ending}
use Rattle.text_io.specs.BufferLaws.{Puts-nothing, Puts-item, Puts-items, Puts-flushed}
use Rattle.play_text.proofs.reporting.write_through.Goals as goal

pub loop-network-init : goal.loop-network-init
loop-network-init g c = Puts-nothing _ (search rules)

pub loop-network-preserved : goal.loop-network-preserved
loop-network-preserved g c =
    Puts-item network_text c.args.networks.now c.loop-network.network-index c.network-item.result
    c.loop-network-test.true c.network-item.is
    c.loop-network.invariant
    c.put_section.ensures

pub returns : goal.returns
returns g c =
    let w = c.new-buffered.ensures in
    let put =
    Puts-items network_text c.args.networks.now c.loop-network.network-index c.loop-network-test.false
    c.loop-network.invariant in
    let same_sink = c.flush.ensures.puts.same_sink ∙ put.same_sink ∙ w.same_sink in
    let written =
    Puts-flushed c.flush.result c.args.out.now c.new-buffered.result _ c.flush.new.self _ w.sink w.fresh w.empty put
    c.flush.ensures in
    let ends : Ends (ending_of write_ending c.flush.result) (Ok (flat_map network_text c.args.networks.now)) (g.W.Sink.taken c.args.out.now)
    (g.W.Sink.taken c.flush.new.self.sink.now) =
    written.0 in
    let failures : g.W.Sink.failed c.flush.new.self.sink.now
    ≡ g.W.Sink.failed c.args.out.now + failures_of write_ending c.flush.result =
    written.1 in
    record { ends = search rules; failures = search rules }

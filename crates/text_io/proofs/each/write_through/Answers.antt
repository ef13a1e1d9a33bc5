-- One more item is put, and in the end the piece is written. The sink after the piece is the one that was passed.
use Rattle.std.proofs.Common.{rules, ◌≡◌, ◌∙◌, ◌+◌, Ok}
use Rattle.std.specs.Prelude.{flat_map}
use Rattle.text_io.specs.Endings.{Ends, failures_of, ending_of}
use Rattle.text_io.specs.Sinks.{write_ending}
use Rattle.text_io.specs.BufferLaws.{Puts-nothing, Puts-item, Puts-items, Puts-flushed}
use Rattle.text_io.proofs.each.write_through.Goals as goal

pub loop-item-init : goal.loop-item-init
loop-item-init g c = Puts-nothing _ (search rules)

pub loop-item-preserved : goal.loop-item-preserved
loop-item-preserved g c =
    Puts-item g.P.PutItem.written c.args.items.now c.loop-item.item-index c.item-item.result
    c.loop-item-test.true c.item-item.is
    c.loop-item.invariant
    c.put.ensures

pub returns : goal.returns
returns g c =
    let w = c.new-buffered.ensures in
    let put =
    Puts-items g.P.PutItem.written c.args.items.now c.loop-item.item-index c.loop-item-test.false
    c.loop-item.invariant in
    let same_sink = c.flush.ensures.puts.same_sink ∙ put.same_sink ∙ w.same_sink in
    let written =
    Puts-flushed c.flush.result c.args.out.now c.new-buffered.result _ c.flush.new.self _ w.sink w.fresh w.empty put
    c.flush.ensures in
    let ends : Ends (ending_of write_ending c.flush.result) (Ok (flat_map g.P.PutItem.written c.args.items.now))
    (g.W.Sink.taken c.args.out.now)
    (g.W.Sink.taken c.flush.new.self.sink.now) =
    written.0 in
    let failures : g.W.Sink.failed c.flush.new.self.sink.now
    ≡ g.W.Sink.failed c.args.out.now + failures_of write_ending c.flush.result =
    written.1 in
    record { ends = search rules; failures = search rules }

-- What the end says is answered, the tables are put, and in the end the piece of memory is written. The sink after it
-- is the one that was passed.
use Rattle.std.proofs.Common.{rules, ◌≡◌, ◌∙◌, ◌+◌, ap, sym}
use Rattle.text_io.specs.BufferLaws.{Puts-same}
use Rattle.text_io.specs.Endings.{failures_of}
use Rattle.text_io.specs.Sinks.{write_ending}
use Rattle.live.specs.LiveView.{Finishes, reached, running}
use Rattle.live.specs.Written.{written_tables}
use Rattle.live.specs.declared.face.Face.{Face}
use Rattle.live.proofs.Flushed.{finishes-flushed}
use Rattle.live.proofs.live_in.LiveIn.end.Goals as goal

pub returns : goal.returns
returns g c =
    let a = c.answer_last.ensures in
    let w = c.new-buffered.ensures in
    let tables =
    Puts-same
    (ap (λ (f : Face). written_tables f c.answer_last.new.networks.networks) (c.face.ensures ∙ sym c.self.invariant.same))
    c.put_tables.ensures in
    let same_sink = c.flush.ensures.puts.same_sink ∙ tables.same_sink ∙ a.puts.same_sink ∙ w.same_sink in
    let all =
    finishes-flushed g.W.Sink.taken g.W.Sink.failed c.flush.result c.args.out.now c.new-buffered.result c.answer_last.new.out
    c.put_tables.new.out c.flush.new.self
    (reached c.self.inside.networks c.self.inside.partial) c.answer_last.new.networks
    w.sink w.fresh w.empty a tables c.flush.ensures in
    let finishes : Finishes c.flush.result
    (running c.args.self (g.W.Sink.taken c.args.out.now))
    (g.W.Sink.taken c.flush.new.self.sink.now) =
    rw (← c.self.view_is) all.0 in
    let failures : g.W.Sink.failed c.flush.new.self.sink.now
    ≡ g.W.Sink.failed c.args.out.now + failures_of write_ending c.flush.result =
    all.1 in
    record { finishes = search rules; face = search rules; failures = search rules }

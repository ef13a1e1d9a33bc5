-- What ends in the piece is answered, and in the end the piece of memory is written. The sink after it is the one that
-- was passed.
use Rattle.std.proofs.Common.{rules, ◌≡◌, ◌∙◌, ◌+◌}
use Rattle.text_io.specs.Endings.{failures_of}
use Rattle.text_io.specs.Sinks.{write_ending}
use Rattle.live.specs.LiveView.{Takes, reached, running}
use Rattle.live.proofs.Flushed.{takes-flushed}
use Rattle.live.proofs.InputSteps.{more-in}
use Rattle.live.proofs.live_in.LiveIn.feed.Goals as goal

pub invariant_of-self : goal.invariant_of-self
invariant_of-self g c =
    more-in g.F.InFace.face _ c.self.inside.partial c.args.piece.now _ c.self.invariant
    c.answer_piece.ensures.answers.is_said

pub returns : goal.returns
returns g c =
    let a = c.answer_piece.ensures.answers in
    let w = c.new-buffered.ensures in
    let same_sink = c.flush.ensures.puts.same_sink ∙ a.answered.puts.same_sink ∙ w.same_sink in
    let all =
    takes-flushed g.W.Sink.taken g.W.Sink.failed c.flush.result c.args.out.now c.new-buffered.result c.answer_piece.new.out
    c.flush.new.self
    (reached c.self.inside.networks c.self.inside.partial) (reached c.answer_piece.new.networks c.answer_piece.new.self)
    c.args.piece.now w.sink w.fresh w.empty a c.flush.ensures in
    let takes : Takes c.flush.result c.args.piece.now
    (running c.args.self.now (g.W.Sink.taken c.args.out.now))
    (running (reached c.answer_piece.new.networks c.answer_piece.new.self) (g.W.Sink.taken c.flush.new.self.sink.now)) =
    rw (← c.self.view_is) all.0 in
    let failures : g.W.Sink.failed c.flush.new.self.sink.now
    ≡ g.W.Sink.failed c.args.out.now + failures_of write_ending c.flush.result =
    all.1 in
    record { takes = search rules; face = search rules; lines = search rules; failures = search rules }

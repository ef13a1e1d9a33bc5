use Rattle.events.specs.LentEvents.{line_of}
use Rattle.text_io.specs.Buffers.{watch}
use Rattle.live.proofs.ReplySteps.{have-replied}
use Rattle.live.proofs.reply.reply_all.Goals as goal

pub returns-in-Ok : goal.returns-in-Ok
returns-in-Ok g c =
    let all =
    have-replied (watch g.W.Sink.taken g.W.Sink.failed) c.args.face c.args.number 0 (line_of c.args.line) c.args.networks.now
    c.take.new.self c.args.out.now c.take.new.out c.requires.can_write c.in-Ok.ensures.taken in
    record { replies = all.replies; may = all.may; after = all.after; puts = all.puts }

pub returns-in-Err : goal.returns-in-Err
returns-in-Err g c = absurd (let same = c.in-Err.ensures.stops in cc)

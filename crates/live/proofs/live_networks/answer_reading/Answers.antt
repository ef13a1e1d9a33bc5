use Rattle.std.proofs.Common.{◌+◌, refl, ap, subst, None, Ok}
use Rattle.text_io.specs.BufferLaws.{Puts-nothing, Puts-same}
use Rattle.live_rules.specs.Answers.{Nothing, Tables}
use Rattle.live_rules.specs.Asked.{ForTables, Says}
use Rattle.events.specs.LentEvents.{line_of}
use Rattle.live.specs.Readings.{IsReading}
use Rattle.live.specs.Written.{written_tables}
use Rattle.live.specs.declared.reading.Reading.{Reading}
use Rattle.live.proofs.AnswerSteps.{answered-reading, answered-fault, answered-line}
use Rattle.live.proofs.live_networks.answer_reading.Goals as goal

pub returns-in-Nothing : goal.returns-in-Nothing
returns-in-Nothing g c said is =
    answered-reading _ _ c.args.face c.args.lines.now (c.args.lines.now + 1) c.args.networks.now _ said (Says (Ok None)) Nothing _ _ refl
    (subst (λ (r : Reading). IsReading r said) c.in-Nothing.is is)
    refl
    refl
    (Puts-nothing _ c.requires.can_write)

pub returns-in-Line : goal.returns-in-Line
returns-in-Line g c said is =
    let lent = c.in-Line.line in
    let r = c.reply_all.ensures in
    answered-line _ _ c.args.face c.args.lines.now (c.args.lines.now + 1) c.args.networks.now _ said (line_of lent) r.replies _ _ refl
    (subst (λ (o : Reading). IsReading o said) c.in-Line.is is)
    r.may r.after r.puts

pub returns-in-Tables : goal.returns-in-Tables
returns-in-Tables g c said is =
    answered-reading _ _ c.args.face c.args.lines.now (c.args.lines.now + 1) c.args.networks.now _ said ForTables
    (Tables c.args.networks.now) _ _ refl
    (subst (λ (r : Reading). IsReading r said) c.in-Tables.is is)
    refl
    refl
    (Puts-same (ap (written_tables c.args.face) c.networks.ensures) c.put_tables.ensures)

pub returns-in-Fault : goal.returns-in-Fault
returns-in-Fault g c said is =
    answered-fault _ _ c.args.face c.args.lines.now (c.args.lines.now + 1) c.args.networks.now said c.in-Fault.fault _ _ refl
    (subst (λ (r : Reading). IsReading r said) c.in-Fault.is is)
    c.put_fault.ensures

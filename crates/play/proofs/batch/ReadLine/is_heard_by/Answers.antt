use Rattle.std.proofs.Common.{◌∙◌, Bool, Some, None, sym, ap}
use Rattle.std.specs.Prelude.{if◌then◌else◌}
use Rattle.events.specs.LentEvents.{line_of}
use Rattle.events.specs.Lines.{event_of_line}
use Rattle.play.proofs.batch.ReadLine.is_heard_by.Goals as goal

pub returns : goal.returns
returns c =
    rw (← c.self.view_is)
    (c.self.invariant.1 c.args.place c.args.bssid
    ∙ ap (λ (b : Bool). if b then Some (event_of_line (line_of c.self.inside.line)) else None) (sym c.has.ensures))

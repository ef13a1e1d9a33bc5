use Rattle.std.proofs.Common.{◌++◌, List, ap, ◌∙◌}
use Rattle.events.specs.LentEvents.{line_of}
use Rattle.events.specs.Lines.{event_of_line}
use Rattle.workers.specs.Giving.{entries_of}
use Rattle.workers.specs.declared.caller.Entry.{Entry}
use Rattle.workers.proofs.ap.Ap.give.Goals as goal

pub offer_each-requires-clause-copies : goal.offer_each-requires-clause-copies
offer_each-requires-clause-copies g c = (line_of c.args.given, c.in_ok-copies.ensures)

pub returns-clause-heard : goal.returns-clause-heard
returns-clause-heard g c = c.offer_each.ensures.heard (line_of c.args.given) c.in_ok-copies.ensures

pub returns-clause-entries : goal.returns-clause-entries
returns-clause-entries g c =
    let line = line_of c.args.given in
    c.offer_each.ensures.entries line c.in_ok-copies.ensures
    ∙ ap (λ (es : List Entry). es ++ entries_of (event_of_line line) c.offer_each.result) (c.in_ok-reserve.ensures.items ∙ c.caller.view_is)

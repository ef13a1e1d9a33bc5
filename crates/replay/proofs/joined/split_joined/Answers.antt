-- Each exit, and the step, by what is known of the lines before `start`.
use Rattle.std.proofs.Common.{sym}
use Rattle.replay.proofs.JoinedSteps.{AreOthersTo-more, ArePartsOf-separator, ArePartsOf-last_separator}
use Rattle.replay.proofs.JoinedSteps.{ArePartsOf-last_other}
use Rattle.replay.proofs.joined.split_joined.Goals as goal

pub loop-len-preserved : goal.loop-len-preserved
loop-len-preserved c =
    AreOthersTo-more c.args.joined.now c.loop-len.start c.in-Some.len c.loop-len.invariant (sym c.in-Some.ensures)
    (sym c.if-is_separator.ensures)

pub returns-then-is_separator : goal.returns-then-is_separator
returns-then-is_separator c =
    let parts =
    ArePartsOf-separator c.args.joined.now c.loop-len.start c.in-Some.len c.loop-len.invariant (sym c.in-Some.ensures)
    (sym c.if-is_separator.ensures) in
    record { before = parts.before_is; after = parts.after_is; joined = parts.joined }

pub returns-then-is_separator-2 : goal.returns-then-is_separator-2
returns-then-is_separator-2 c =
    let parts =
    ArePartsOf-last_separator c.args.joined.now c.loop-len.start c.loop-len.invariant (sym c.in_default.ensures)
    (sym c.if-is_separator-2.ensures) in
    record { before = parts.before_is; after = parts.after_is; joined = parts.joined }

pub returns : goal.returns
returns c =
    let parts =
    ArePartsOf-last_other c.args.joined.now c.loop-len.start c.loop-len.invariant (sym c.in_default.ensures)
    (sym c.if-is_separator-2.ensures) in
    record { before = parts.before_is; after = parts.after_is; joined = parts.joined }

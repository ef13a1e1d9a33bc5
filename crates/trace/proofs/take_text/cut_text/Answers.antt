use Rattle.std.proofs.Common.{◌+◌, drop, sym}
use Rattle.text_io.specs.TextLaws.{lacks_from_none}
use Rattle.trace.specs.LineLaws.{first_line}
use Rattle.trace.proofs.take_text.cut_text.Goals as goal

pub end_line-requires-clause-lacks : goal.end_line-requires-clause-lacks
end_line-requires-clause-lacks g c = (first_line c.loop-end.rest.now c.in-Some.end (sym c.in-Some.ensures)).1

pub end_line-requires-clause-some : goal.end_line-requires-clause-some
end_line-requires-clause-some g c =
    let first = first_line c.loop-end.rest.now c.in-Some.end (sym c.in-Some.ensures) in
    let r = c.requires in
    (r.0, r.1, r.2, r.3, drop (c.in-Some.end + 1) c.loop-end.rest.now, rw first.0 at (c.loop-end.invariant r.0 r.1 r.2 r.3 r.4))

pub returns-in-Err : goal.returns-in-Err
returns-in-Err g c first lines out whole remains =
    let line = first_line c.loop-end.rest.now c.in-Some.end (sym c.in-Some.ensures) in
    c.in-Err.ensures first lines out whole (drop (c.in-Some.end + 1) c.loop-end.rest.now)
    (rw line.0 at (c.loop-end.invariant first lines out whole remains))

pub loop-end-preserved : goal.loop-end-preserved
loop-end-preserved g c first lines out whole remains =
    let line = first_line c.loop-end.rest.now c.in-Some.end (sym c.in-Some.ensures) in
    rw c.text_after-rest.ensures.rest
    (c.in_default-end_line.ensures first lines out whole (drop (c.in-Some.end + 1) c.loop-end.rest.now)
    (rw line.0 at (c.loop-end.invariant first lines out whole remains)))

pub hold_on-requires : goal.hold_on-requires
hold_on-requires g c = record { lacks = lacks_from_none c.loop-end.rest.now (sym c.in_default.ensures) }

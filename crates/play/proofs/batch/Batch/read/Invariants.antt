use Rattle.std.proofs.Common.{◌≡◌, ◌+◌, ◌≤◌, length, vec_len}
use Rattle.play.specs.Lines.{StandFrom, lines_of}
use Rattle.play.specs.Sources.{lists_of}
use Rattle.play.proofs.batch.Batch.read.Given as goal

-- the lines so far are those before this one
abbrev pub invariant-loop-number : goal.invariant-loop-number
invariant-loop-number g l =
    let lines = lines_of (lists_of l.source.all) l.source.number in
    record {
      within : l.end ≤ length lines;
      count : l.first + vec_len l.lines ≡ l.number;
      stand : StandFrom lines l.first l.lines.items;
    }

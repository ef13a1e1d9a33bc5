use Rattle.std.proofs.Common.{◌≡◌, ◌++◌, ℕ, List}
use Rattle.std.specs.Vec.Iter.{into_iter_items}
use Rattle.play_text.specs.Reading.{AreRead}
use Rattle.play_text.specs.Playing.{AreLines}
use Rattle.play_text.proofs.traces.read_traces.Given as goal

-- the traces so far have lines, and the others were read
abbrev pub invariant-loop-lines : goal.invariant-loop-lines
invariant-loop-lines g l =
    (before : List (List ℕ)) × (after : List (List ℕ)) × (l.traces ≡ before ++ after)
    × AreLines l.config before l.sources.items × AreRead l.config after (into_iter_items l.lines-iterator)

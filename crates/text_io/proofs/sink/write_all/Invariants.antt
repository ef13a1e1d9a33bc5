-- What went from the text was taken, and no write failed.
use Rattle.std.proofs.Common.{◌≡◌, [], length}
use Rattle.text_io.specs.Buffers.{Delivers, holding}
use Rattle.text_io.proofs.sink.write_all.Given as goal

abbrev pub invariant-loop-rest : goal.invariant-loop-rest
invariant-loop-rest g l =
    Delivers (holding (g.W.Sink.taken l.initial.out) []) (holding (g.W.Sink.taken l.out) l.rest) l.initial.rest
    × (g.W.Sink.failed l.out ≡ g.W.Sink.failed l.initial.out)

abbrev pub decreases-loop-rest : goal.decreases-loop-rest
decreases-loop-rest g l = length l.rest

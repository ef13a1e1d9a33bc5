-- The digits of what went from the octets were put.
use Rattle.std.proofs.Common.{◌≡◌, ℕ, List, ◌++◌, length}
use Rattle.hex.specs.Hex.{encode_lower}
use Rattle.text_io.specs.Buffers.{Puts, watch}
use Rattle.text_io.proofs.buffer.Buffered.put_digits_past.Given as goal

abbrev pub invariant-loop-rest : goal.invariant-loop-rest
invariant-loop-rest g l =
    (done : List ℕ) × (l.octets ≡ done ++ l.rest)
    × Puts (watch g.W.Sink.taken g.W.Sink.failed) l.initial.self l.self (encode_lower done)

abbrev pub decreases-loop-rest : goal.decreases-loop-rest
decreases-loop-rest g l = length l.rest

-- One more text is put.
use Rattle.std.proofs.Common.{ℕ, List, Bor, []}
use Rattle.text_io.specs.BufferLaws.{Puts-nothing, Puts-next, Puts-items}
use Rattle.text_io.proofs.buffer.Buffered.put_parts.Goals as goal

-- no text, which stands at no place
abbrev nothing : Bor (List ℕ)
nothing = record { ref_ptr = (0, 0); now = [] }

pub loop-part-init : goal.loop-part-init
loop-part-init g c = Puts-nothing _ c.requires

pub loop-part-preserved : goal.loop-part-preserved
loop-part-preserved g c =
    Puts-next (λ (part : Bor (List ℕ)). part.now) c.args.parts.now c.loop-part.part-index nothing c.loop-part-test.true
    c.loop-part.invariant
    c.put.ensures

pub returns : goal.returns
returns g c =
    Puts-items (λ (part : Bor (List ℕ)). part.now) c.args.parts.now c.loop-part.part-index c.loop-part-test.false
    c.loop-part.invariant

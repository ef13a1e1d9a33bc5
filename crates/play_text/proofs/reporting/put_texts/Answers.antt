-- One more text is put.
use Rattle.std.proofs.Common.{List, ℕ}
use Rattle.text_io.specs.BufferLaws.{Puts-nothing, Puts-same, Puts-item, Puts-items}
use Rattle.play_text.proofs.reporting.put_texts.Goals as goal

pub loop-text-init : goal.loop-text-init
loop-text-init g c = Puts-nothing _ c.requires

pub loop-text-preserved : goal.loop-text-preserved
loop-text-preserved g c =
    Puts-item (λ (text : List ℕ). text) c.args.texts.now c.loop-text.text-index c.text-item.result
    c.loop-text-test.true c.text-item.is c.loop-text.invariant
    (Puts-same c.as_slice.ensures c.put.ensures)

pub returns : goal.returns
returns g c =
    Puts-items (λ (text : List ℕ). text) c.args.texts.now c.loop-text.text-index c.loop-text-test.false
    c.loop-text.invariant

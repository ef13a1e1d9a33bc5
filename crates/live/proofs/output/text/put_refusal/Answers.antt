use Rattle.std.proofs.Common.{ℕ, List, ap}
use Rattle.live_rules.specs.AnswerText.{fault_words}
use Rattle.text_io.specs.BufferLaws.{Puts-then, Puts-same}
use Rattle.live.proofs.output.text.put_refusal.Goals as goal

pub returns : goal.returns
returns g c =
    Puts-then
    (Puts-then
    (Puts-then
    (Puts-same (ap (λ (f : List ℕ). fault_words f c.args.number) c.refusal_word.ensures) c.put_fault_words.ensures)
    c.put.ensures)
    c.put_address.ensures)
    c.put-2.ensures

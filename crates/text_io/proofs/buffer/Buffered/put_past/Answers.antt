-- What was held goes first, and then the text.
use Rattle.std.proofs.Common.{rules, ◌++◌, List, ℕ, ap, sym}
use Rattle.text_io.specs.BufferLaws.{Puts-dropped, Puts-then, Puts-written}
use Rattle.text_io.proofs.buffer.Buffered.put_past.Goals as goal

pub returns-in-Ok : goal.returns-in-Ok
returns-in-Ok g c =
    let f = c.in-Ok.ensures in
    Puts-then f.puts
    (Puts-written c.write_all.result _ _ c.args.text.now c.args.text.now f.puts.can_write f.answer
    c.is_err-self.ensures.value
    (search rules)
    (ap (λ (l : List ℕ). l ++ c.args.text.now) (sym f.empty))
    f.empty
    c.write_all.ensures.ends
    c.write_all.ensures.failures)

pub returns-in_default : goal.returns-in_default
returns-in_default g c =
    let f = c.in_default.ensures in
    Puts-then f.puts (Puts-dropped _ c.args.text.now f.puts.can_write f.answer)

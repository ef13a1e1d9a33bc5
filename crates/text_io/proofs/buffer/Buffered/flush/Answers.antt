-- What the piece holds goes to the sink, unless that failed before.
use Rattle.std.proofs.Common.{rules, refl, append-nil, sym}
use Rattle.text_io.specs.BufferLaws.{Puts-dropped, Puts-written}
use Rattle.text_io.proofs.buffer.Buffered.flush.Goals as goal

pub returns-then-self : goal.returns-then-self
returns-then-self g c = record {
  puts = Puts-dropped _ _ c.requires c.if-self.true;
  answer = c.if-self.true;
  empty = tt;
}

pub returns : goal.returns
returns g c = record {
  puts =
      Puts-written c.write_all-written.result _ _ _ _ c.requires c.if-self.false c.is_err-self.ensures.value refl
      (sym (append-nil _))
      refl
      c.write_all-written.ensures.ends
      c.write_all-written.ensures.failures;
  answer = c.is_err-self.ensures.value;
  empty = search rules;
}

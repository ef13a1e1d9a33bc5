use Rattle.std.proofs.Common.{◌≡◌, ◌∙◌, ◌+◌, ◌≤◌, ◌++◌, ℕ, List, [], take, length, ap, refl, inl, inr, arith}
use Rattle.std.proofs.Common.{append-nil, Option}
use Rattle.std.proofs.KnownBytes.{Consumes-trans, Consumes-kept}
use Rattle.std.proofs.lemmas.List.{length-replicate, length-take-le}
use Rattle.std.proofs.lemmas.Result.{err_from_is_err_and}
use Rattle.std.specs.Io.KnownBytes.{Consumes}
use Rattle.replay.proofs.StreamEnds.{is_fault, reads-then}
use Rattle.replay.proofs.StreamSteps.{counted-more, so_far-none, so_far-more, stops_in}
use Rattle.replay.proofs.run.stream.take_stream.Goals as goal

pub loop-init : goal.loop-init
loop-init g c = record {
  so_far = λ config h. so_far-none config _ _ _ h;
  none_failed = refl;
  whole = length-replicate {A = ℕ} 4096 0;
}

pub loop-preserved : goal.loop-preserved
loop-preserved g c =
    let piece : List ℕ = take c.in-Ok.count c.read_some.new.buffer in
    let kept : g.R.Source.failed c.read_some.new.self ≡ g.R.Source.failed c.loop.source =
    omega (arith, c.in-Ok.ensures.failures) in
    record {
      so_far = λ config h.
          let s = c.loop.invariant.so_far config h in
          so_far-more config _ _ _ c.loop.counter piece c.loop.lines
          (λ said. g.T.TakeLines.has_taken config said c.loop.networks) c.take_piece.new.self
          (λ said. g.T.TakeLines.has_taken config said c.take_piece.new.lines) s c.in-Ok.ensures.prefix.1
          c.in-Ok.ensures.reads kept
          (c.in_ok-take_piece.ensures.all config s.text s.replayed);
      none_failed = kept ∙ c.loop.invariant.none_failed;
      whole = c.read_some.auto.buffer ∙ c.loop.invariant.whole;
    }

pub returns-in_default : goal.returns-in_default
returns-in_default g c config h =
    let s = c.loop.invariant.so_far config h in
    let within : c.loop.counter + 1 ≤ 4294967295 = omega (arith, c.loop-test.true) in
    record {
      text = s.text;
      reads = record {
        taken =
            Consumes-kept (g.R.Source.left c.args.source.now) (g.R.Source.left c.loop.source)
            (g.R.Source.left c.read_some.new.self) s.text s.read c.in_default.ensures.err;
        made = c.loop.counter + 1;
        within = within;
        counted = counted-more _ _ _ c.loop.counter s.counted c.in_default.ensures.reads;
        failed = inl (c.in_default.ensures.failures ∙ ap (λ n. n + 1) s.failed);
      };
      end = (s.replayed.0, s.replayed.1.answered);
    }

pub returns-then-count-eq0 : goal.returns-then-count-eq0
returns-then-count-eq0 g c config h =
    let s = c.loop.invariant.so_far config h in
    let first : Option (List ℕ) = g.R.Source.left c.args.source.now in
    let before : Option (List ℕ) = g.R.Source.left c.loop.source in
    let after : Option (List ℕ) = g.R.Source.left c.read_some.new.self in
    let took : Consumes before after [] = rw c.if-count-eq0.true at c.in-Ok.ensures.prefix.1 in
    let kept : g.R.Source.failed c.read_some.new.self ≡ g.R.Source.failed c.loop.source =
    omega (arith, c.in-Ok.ensures.failures) in
    let within : c.loop.counter + 1 ≤ 4294967295 = omega (arith, c.loop-test.true) in
    record {
      text = s.text;
      reads = record {
        taken = rw append-nil at (Consumes-trans first before after s.text [] s.read took);
        made = c.loop.counter + 1;
        within = within;
        counted = counted-more _ _ _ c.loop.counter s.counted c.in-Ok.ensures.reads;
        failed = kept ∙ s.failed;
      };
      end = (c.in-Ok.ensures.end c.if-count-eq0.true, s.replayed);
    }

pub returns-in_err-take_piece : goal.returns-in_err-take_piece
returns-in_err-take_piece g c config h =
    let p = err_from_is_err_and c.from_residual.result c.from_residual.ensures.1 in
    let s = c.loop.invariant.so_far config h in
    let piece : List ℕ = take c.in-Ok.count c.read_some.new.buffer in
    let short : length piece ≤ 4096 =
    omega (
      arith,
      length-take-le c.in-Ok.count c.read_some.new.buffer c.in-Ok.ensures.prefix.0,
      c.in-Ok.ensures.prefix.0,
      c.read_some.auto.buffer,
      c.loop.invariant.whole,
    ) in
    let kept : g.R.Source.failed c.read_some.new.self ≡ g.R.Source.failed c.loop.source =
    omega (arith, c.in-Ok.ensures.failures) in
    let within : c.loop.counter + 1 ≤ 4294967295 = omega (arith, c.loop-test.true) in
    let e = c.in_err-take_piece.field-0.0 in
    rw (p.1, p.2)
    (record {
      text = s.text ++ piece;
      reads =
          reads-then {F = ⊥} e _ _ (s.text ++ piece)
          (record {
            taken =
                Consumes-trans (g.R.Source.left c.args.source.now) (g.R.Source.left c.loop.source)
                (g.R.Source.left c.read_some.new.self) s.text piece s.read c.in-Ok.ensures.prefix.1;
            made = c.loop.counter + 1;
            within = within;
            counted = counted-more _ _ _ c.loop.counter s.counted c.in-Ok.ensures.reads;
            failed = kept ∙ s.failed;
          });
      end =
          is_fault config (s.text ++ piece) e (stops_in config s.text piece _ _ s.replayed short)
          (c.in_err-take_piece.ensures.all config s.text s.replayed);
    })

pub returns : goal.returns
returns g c config h =
    let s = c.loop.invariant.so_far config h in
    let all : c.loop.counter ≡ 4294967295 = omega (arith, c.loop-test.false) in
    let within : c.loop.counter ≤ 4294967295 = omega arith in
    record {
      text = s.text;
      reads = record {
        taken = s.read;
        made = c.loop.counter;
        within = within;
        counted = s.counted;
        failed = inr (s.failed, all);
      };
      end = (s.replayed.0, s.replayed.1.answered);
    }

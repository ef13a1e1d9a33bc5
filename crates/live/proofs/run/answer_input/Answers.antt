use Rattle.std.proofs.Common.{◌≡◌, ◌∙◌, ◌+◌, ◌≤◌, ℕ, List, [], take, length, ap, refl, inl, inr, arith}
use Rattle.std.proofs.Common.{append-nil, Option, Ok, Err}
use Rattle.std.proofs.KnownBytes.{Consumes-trans, Consumes-kept}
use Rattle.std.proofs.lemmas.List.{length-take-le}
use Rattle.std.proofs.lemmas.Result.{err_from_is_err_and}
use Rattle.std.specs.Io.KnownBytes.{Consumes}
use Rattle.live.specs.Inputs.{face_of}
use Rattle.live.specs.declared.fault.LiveFault.TheVariants.{Read}
use Rattle.live.proofs.RunSteps.{answered-so-far, counted-more, input-none, input-more, input-cut, input-ends}
use Rattle.live.proofs.run.answer_input.Goals as goal

pub loop-init : goal.loop-init
loop-init g c = record {
  so_far = input-none (face_of c.args.live.now.partial) _ c.requires.empty c.requires.first;
  none_failed = refl;
  all_written = refl;
}

pub feed-requires-clause-countable : goal.feed-requires-clause-countable
feed-requires-clause-countable g c =
    let long = length-take-le c.in-Ok.count c.read_more.new.buffer c.in-Ok.ensures.prefix.0 in
    omega (arith, long, c.in-Ok.ensures.prefix.0, c.loop.invariant.so_far.lines)

pub read_more-requires-clause-answered : goal.read_more-requires-clause-answered
read_more-requires-clause-answered g c =
    answered-so-far c.loop.counter _ _ _ c.requires.beginning c.loop.invariant.so_far

pub loop-preserved : goal.loop-preserved
loop-preserved g c =
    let piece : List ℕ = take c.in-Ok.count c.read_more.new.buffer in
    let long : length piece ≡ c.in-Ok.count = length-take-le c.in-Ok.count c.read_more.new.buffer c.in-Ok.ensures.prefix.0 in
    let few : length piece ≤ 4096 = omega (arith, long, c.in-Ok.ensures.prefix.0) in
    record {
      so_far =
          input-more c.answers_to_more.ensures
          (record { ended = c.lines_come_in_pieces.ensures.ended; partial = c.lines_come_in_pieces.ensures.partial; records = c.records_come_in_pieces.ensures.pieces })
          (face_of c.args.live.now.partial) c.loop.counter _ _ _ piece _ c.loop.invariant.so_far c.in-Ok.ensures.prefix.1
          c.in-Ok.ensures.reads few
          c.in_ok-feed.ensures.takes
          c.in_ok-feed.ensures.lines;
      none_failed = omega (arith, c.in-Ok.ensures.failures, c.loop.invariant.none_failed);
      all_written = omega (arith, c.in_ok-feed.ensures.failures, c.loop.invariant.all_written);
    }

pub returns-in_default-clause-answers : goal.returns-in_default-clause-answers
returns-in_default-clause-answers g c =
    let s = c.loop.invariant.so_far in
    input-ends (face_of c.args.live.now.partial) (Err Read) c.loop.counter (c.loop.counter + 1) _ c.loop.live _ _ s
    (omega (arith, c.loop-test.true))
    (Consumes-kept (g.R.Source.left c.args.input.now) (g.R.Source.left c.loop.input)
    (g.R.Source.left c.read_more.new.input) s.input s.took c.in_default.ensures.err)
    (counted-more _ _ _ c.loop.counter s.counted c.in_default.ensures.reads)
    (inl (c.in_default.ensures.failures ∙ ap (λ n. n + 1) c.loop.invariant.none_failed))
    s.written
    (λ e. cc)

pub returns-then-count-eq0-clause-answers : goal.returns-then-count-eq0-clause-answers
returns-then-count-eq0-clause-answers g c =
    let s = c.loop.invariant.so_far in
    let first : Option (List ℕ) = g.R.Source.left c.args.input.now in
    let after : Option (List ℕ) = g.R.Source.left c.read_more.new.input in
    let took : Consumes (g.R.Source.left c.loop.input) after [] = rw c.if-count-eq0.true at c.in-Ok.ensures.prefix.1 in
    input-ends (face_of c.args.live.now.partial) (Ok tt) c.loop.counter (c.loop.counter + 1) _ c.loop.live _ _ s
    (omega (arith, c.loop-test.true))
    (rw append-nil at (Consumes-trans first (g.R.Source.left c.loop.input) after s.input [] s.took took))
    (counted-more _ _ _ c.loop.counter s.counted c.in-Ok.ensures.reads)
    (omega (arith, c.in-Ok.ensures.failures, c.loop.invariant.none_failed))
    (c.in-Ok.ensures.end c.if-count-eq0.true, s.written)
    (λ e. cc)

pub returns-in_err-feed-clause-answers : goal.returns-in_err-feed-clause-answers
returns-in_err-feed-clause-answers g c =
    let p = err_from_is_err_and c.from_residual.result c.from_residual.ensures.1 in
    let s = c.loop.invariant.so_far in
    let same : g.R.Source.failed c.read_more.new.input ≡ g.R.Source.failed c.args.input.now =
    omega (arith, c.in-Ok.ensures.failures, c.loop.invariant.none_failed) in
    let piece : List ℕ = take c.in-Ok.count c.read_more.new.buffer in
    let long : length piece ≡ c.in-Ok.count = length-take-le c.in-Ok.count c.read_more.new.buffer c.in-Ok.ensures.prefix.0 in
    let few : length piece ≤ 4096 = omega (arith, long, c.in-Ok.ensures.prefix.0) in
    let within : c.loop.counter + 1 ≤ 70368744177664 = omega (arith, c.loop-test.true) in
    rw (p.1, p.2)
    (input-cut c.answers_to_more.ensures
    (record { ended = c.lines_come_in_pieces.ensures.ended; partial = c.lines_come_in_pieces.ensures.partial; records = c.records_come_in_pieces.ensures.pieces })
    (face_of c.args.live.now.partial) c.loop.counter _ _ _ piece _ s within c.in-Ok.ensures.prefix.1 c.in-Ok.ensures.reads same few
    c.in_err-feed.ensures.takes)

pub returns-clause-answers : goal.returns-clause-answers
returns-clause-answers g c =
    let s = c.loop.invariant.so_far in
    let all : c.loop.counter ≡ 70368744177664 = omega (arith, c.loop-test.false) in
    input-ends (face_of c.args.live.now.partial) (Err Read) c.loop.counter c.loop.counter _ c.loop.live _ _ s (omega arith) s.took
    s.counted
    (inr (c.loop.invariant.none_failed, all))
    s.written
    (λ e. cc)

pub returns-then-count-eq0-clause-countable : goal.returns-then-count-eq0-clause-countable
returns-then-count-eq0-clause-countable g c = omega (arith, c.loop.invariant.so_far.lines)

-- What was read of an input, and the answers to what was said in it.
use Rattle.std.proofs.Common.{◌≡◌, ℕ, ◌+◌, ◌*◌, ◌≤◌, List, [], ◌++◌, length, Option, Result, Ok, Err}
use Rattle.std.proofs.Common.{refl, sym, ap, ◌∙◌, arith, append_assoc}
use Rattle.std.proofs.KnownBytes.{Appends-nil, Appends-trans, Consumes-nil, Consumes-trans}
use Rattle.std.specs.Io.KnownBytes.{Appends, Consumes}
use Rattle.text_io.specs.Endings.{AppendsPrefix, Ends, ending_of}
use Rattle.text_io.specs.Sinks.{write_ending}
use Rattle.text_io.specs.Streams.{FailsAt, Streams, changed, reads_after}
use Rattle.text_io.specs.declared.sink.Failed.{Failed}
use Rattle.live_rules.specs.Answers.{Answer, Answers}
use Rattle.live_rules.specs.Asked.{Asked}
use Rattle.live.specs.Inputs.{IsSaidIn, face_of, empty_partial, saying}
use Rattle.live.specs.LiveView.{Reached, Takes, reached, running}
use Rattle.live_rules.specs.Moments.{Moment, bssids_at}
use Rattle.live_rules.specs.MoreAnswers.{MoreAnswers}
use Rattle.live.specs.Run.{AllAnswered, AnswersInput, Progress, WrittenSoFar, live_ending, max_reads, progress}
use Rattle.live.specs.Written.{written_after}
use Rattle.live.specs.declared.partial_input.PartialInput.{PartialInput}
use Rattle.live.specs.declared.face.Face.{Face}
use Rattle.live.specs.declared.fault.LiveFault.{LiveFault}
use Rattle.live.specs.declared.fault.LiveFault.TheVariants.{Write}
use Rattle.live.proofs.InputSteps.{said-none, said-more, said-ended, said-face}
use Rattle.live.proofs.MoreWritten.{answers-join, texts-join}
use Rattle.live.proofs.Pieces.{InPieces}

-- ---- a prefix

-- after what was written
pub prefix-after : {old mid new : Option (List ℕ)} (t u : List ℕ) → Appends old mid t → AppendsPrefix mid new u
    → AppendsPrefix old new (t ++ u)
prefix-after {old} {mid} {new} t u a p = record {
  written = t ++ p.written;
  rest = p.rest;
  in_order = ap (λ (l : List ℕ). t ++ l) p.in_order ∙ sym (append_assoc t p.written p.rest);
  taken = Appends-trans old mid new t p.written a p.taken;
}

-- of a longer text
pub prefix-longer : {old new : Option (List ℕ)} (t u : List ℕ) → AppendsPrefix old new t
    → AppendsPrefix old new (t ++ u)
prefix-longer {old} {new} t u p = record {
  written = p.written;
  rest = p.rest ++ u;
  in_order = ap (λ (l : List ℕ). l ++ u) p.in_order ∙ append_assoc p.written p.rest u;
  taken = p.taken;
}

-- all that was written next, or a prefix of it
pub ends-after : (old mid new : Option (List ℕ)) (r : Result Unit Failed) (t u : List ℕ) → Appends old mid t
    → Ends (ending_of write_ending r) (Ok u) mid new → Ends (ending_of write_ending r) (Ok (t ++ u)) old new
ends-after old mid new (Ok x) t u a e = Appends-trans old mid new t u a e
ends-after old mid new (Err x) t u a e = prefix-after t u a e

-- ---- the reads that were made

pub counted-none : (reads : ℕ) → reads ≡ reads_after reads 0
counted-none reads = omega arith

pub counted-more : (old mid new count : ℕ) → mid ≡ reads_after old count → new ≡ reads_after mid 1
    → new ≡ reads_after old (count + 1)
counted-more old mid new count before here = omega (arith, before, here)

-- ---- so far

-- what was said in what this many reads gave was answered, and no write failed
pub record InputSoFar (face : Face) (count : ℕ) (old new : Progress) : Type 0 where
  pub input : List ℕ
  pub said : List Asked
  pub answers : List Answer
  pub took : Consumes old.streams.source.left new.streams.source.left input
  pub counted : new.streams.source.reads ≡ reads_after old.streams.source.reads count
  pub is_said : IsSaidIn (bssids_at old.moment) (empty_partial face) input (saying said new.partial)
  pub answered : Answers old.moment said answers new.moment
  pub written : Appends old.streams.sink.taken new.streams.sink.taken (written_after face old.moment answers)
  pub lines : new.moment.lines ≤ 4096 * count

pub input-none : (face : Face) (old : Progress) → old.partial ≡ empty_partial face → old.moment.lines ≡ 0
    → InputSoFar face 0 old old
input-none face old partial first = record {
  input = [];
  said = [];
  answers = [];
  took = Consumes-nil old.streams.source.left;
  counted = counted-none old.streams.source.reads;
  is_said = rw partial (said-none face (bssids_at old.moment));
  answered = refl;
  written = Appends-nil old.streams.sink.taken;
  lines = omega arith;
}

-- the answers to all that ended are written
pub answered-so-far : (count : ℕ) (first old now : Progress) → first ≡ old → InputSoFar (face_of old.partial) count old now
    → AllAnswered first now.streams.source.left now.streams.sink.taken
answered-so-far count first old now is s =
    rw is
    (record {
      read = s.input;
      said = s.said;
      answers = s.answers;
      moment = now.moment;
      took = s.took;
      is_said = said-ended (face_of old.partial) (bssids_at old.moment) s.input s.said now.partial s.is_said;
      answered = s.answered;
      written = s.written;
    })

-- it is said to the same networks
piece-said : MoreAnswers → InPieces → (face : Face) (m between : Moment) (input piece : List ℕ) (said more : List Asked) (some : List Answer)
    (mid next : PartialInput) → Answers m said some between → IsSaidIn (bssids_at m) (empty_partial face) input (saying said mid)
    → IsSaidIn (bssids_at between) mid piece (saying more next)
    → IsSaidIn (bssids_at m) (empty_partial face) (input ++ piece) (saying (said ++ more) next)
piece-said laws pieces face m between input piece said more some mid next h is k =
    said-more pieces face (bssids_at m) input piece said more mid next is
    (rw (laws.bssids m said some between h) at k)

pub input-more : MoreAnswers → InPieces → (face : Face) (count : ℕ) (old mid new : Progress) (piece : List ℕ) (u : Unit {0})
    → InputSoFar face count old mid → Consumes mid.streams.source.left new.streams.source.left piece
    → new.streams.source.reads ≡ reads_after mid.streams.source.reads 1 → length piece ≤ 4096
    → Takes (Ok u) piece (running (reached mid.moment mid.partial) mid.streams.sink.taken)
    (running (reached new.moment new.partial) new.streams.sink.taken)
    → new.moment.lines ≤ mid.moment.lines + length piece → InputSoFar face (count + 1) old new
input-more laws pieces face count old mid new piece u s took one few t lines =
    let same : face_of mid.partial ≡ face = said-face face (bssids_at old.moment) s.input s.said mid.partial s.is_said in
    record {
      input = s.input ++ piece;
      said = s.said ++ t.said;
      answers = s.answers ++ t.answers;
      took =
          Consumes-trans old.streams.source.left mid.streams.source.left new.streams.source.left s.input piece s.took took;
      counted =
          counted-more old.streams.source.reads mid.streams.source.reads new.streams.source.reads count s.counted one;
      is_said =
          piece-said laws pieces face old.moment mid.moment s.input piece s.said t.said s.answers mid.partial new.partial s.answered s.is_said
          t.is_said;
      answered = answers-join laws old.moment mid.moment new.moment s.said t.said s.answers t.answers s.answered t.answered;
      written =
          rw (texts-join laws face old.moment mid.moment s.said s.answers t.answers s.answered)
          (Appends-trans old.streams.sink.taken mid.streams.sink.taken new.streams.sink.taken
          (written_after face old.moment s.answers) (written_after face mid.moment t.answers) s.written (rw same at t.written));
      lines = omega (arith, s.lines, lines, few);
    }

-- a write failed on the way
pub input-cut : MoreAnswers → InPieces → (face : Face) (count : ℕ) (old mid new : Progress) (piece : List ℕ) (e : Failed)
    → InputSoFar face count old mid → count + 1 ≤ max_reads
    → Consumes mid.streams.source.left new.streams.source.left piece
    → new.streams.source.reads ≡ reads_after mid.streams.source.reads 1
    → new.streams.source.failed ≡ old.streams.source.failed → length piece ≤ 4096
    → Takes (Err e) piece (running (reached mid.moment mid.partial) mid.streams.sink.taken)
    (running (reached new.moment new.partial) new.streams.sink.taken)
    → AnswersInput face (Err Write) old new
input-cut laws pieces face count old mid new piece e s within took one failed short t =
    let same : face_of mid.partial ≡ face = said-face face (bssids_at old.moment) s.input s.said mid.partial s.is_said in
    record {
      input = s.input ++ piece;
      said = s.said ++ t.said;
      answers = s.answers ++ t.answers;
      reads = record {
        taken =
            Consumes-trans old.streams.source.left mid.streams.source.left new.streams.source.left s.input piece s.took took;
        made = count + 1;
        within = within;
        counted =
            counted-more old.streams.source.reads mid.streams.source.reads new.streams.source.reads count s.counted one;
        failed = failed;
      };
      is_said =
          piece-said laws pieces face old.moment mid.moment s.input piece s.said t.said s.answers mid.partial new.partial s.answered s.is_said
          t.is_said;
      answered = answers-join laws old.moment mid.moment new.moment s.said t.said s.answers t.answers s.answered t.answered;
      written =
          rw (texts-join laws face old.moment mid.moment s.said s.answers t.answers s.answered)
          (prefix-after (written_after face old.moment s.answers) (written_after face mid.moment t.answers) s.written
          (rw same at t.written));
      stops = λ _. record {
        before = s.input;
        piece = piece;
        read = refl;
        short = short;
        said = s.said;
        answers = s.answers;
        between = mid.moment;
        is_said = said-ended face (bssids_at old.moment) s.input s.said mid.partial s.is_said;
        answered = s.answered;
        rest = t.written.written;
        written =
            Appends-trans old.streams.sink.taken mid.streams.sink.taken new.streams.sink.taken
            (written_after face old.moment s.answers) t.written.written s.written t.written.taken;
      };
    }

-- no more was said, and no write failed
pub input-ends : (face : Face) (r : Result Unit LiveFault) (count made : ℕ) (first : Progress) (live : Reached)
    (mid new : Streams) (s : InputSoFar face count first (progress live mid)) → made ≤ max_reads
    → Consumes first.streams.source.left new.source.left s.input
    → new.source.reads ≡ reads_after first.streams.source.reads made
    → FailsAt (ending_of live_ending r) max_reads made (changed first.streams.source new.source)
    → WrittenSoFar r (written_after face first.moment s.answers) first.streams new → (r ≡ Err Write → ⊥)
    → AnswersInput face r first (progress live new)
input-ends face r count made first live mid new s within took counted failed written other = record {
  input = s.input;
  said = s.said;
  answers = s.answers;
  reads = record { taken = took; made = made; within = within; counted = counted; failed = failed };
  is_said = s.is_said;
  answered = s.answered;
  written = written;
  stops = λ e. absurd (other e);
}

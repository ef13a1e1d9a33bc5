-- What a run leaves, by how it ended.
use Rattle.std.proofs.Common.{◌≡◌, ℕ, ◌+◌, List, [], ◌++◌, length, Result, Ok, Err, refl, sym, ap, subst, ◌∙◌, append_assoc, append-nil, arith, inl, inr}
use Rattle.std.proofs.KnownBytes.{Appends-trans, Consumes-nil, Keeps-refl}
use Rattle.std.specs.Io.KnownBytes.{Appends, Keeps}
use Rattle.ap_config.specs.declared.config.ConfigFault.{ConfigFault}
use Rattle.ap_config.specs.declared.config.RadioConfig.{RadioConfig}
use Rattle.config_text.specs.ConfigurationText.{configuration_of}
use Rattle.text_io.specs.Endings.{AppendsPrefix, Ending, Ends, IsFaultOf, Refused, WriteFailed, OutOfMemory, failures_of, ending_of}
use Rattle.text_io.specs.Faults.{read_as, read_ending, report_as}
use Rattle.text_io.specs.Sinks.{report_ending, write_ending}
use Rattle.text_io.specs.Streams.{FailsAt, Reads, SinkView, SourceView, Streams, changed}
use Rattle.text_io.specs.declared.read_fault.ReadFault.{ReadFault}
use Rattle.text_io.specs.declared.read_fault.ReadFault.TheVariants as reads
use Rattle.text_io.specs.declared.report_fault.ReportFault.{ReportFault}
use Rattle.text_io.specs.declared.report_fault.ReportFault.TheVariants as reports
use Rattle.text_io.specs.declared.sink.Failed.{Failed}
use Rattle.live_rules.specs.Answers.{Answer, Answers, answers_of}
use Rattle.live_rules.specs.Asked.{Asked}
use Rattle.live.specs.Inputs.{IsAllSaid, IsSaidIn, face_of, last_said, empty_partial, saying}
use Rattle.live.specs.LiveView.{Finishes, Reached, reached, running}
use Rattle.live_rules.specs.Moments.{Moment, first_moment, bssids_at}
use Rattle.live_rules.specs.MoreAnswers.{MoreAnswers}
use Rattle.live.specs.Run.{AnswersAll, AnswersInput, Runs, StopsInPiece, StopsReading, Texts, Progress, progress, live_ending, setup}
use Rattle.live.specs.Run.{max_reads, setup}
use Rattle.live.specs.Written.{written_after, written_count, written_tables}
use Rattle.live.specs.declared.partial_input.PartialInput.{PartialInput}
use Rattle.live.specs.declared.face.Face.{Face}
use Rattle.live.specs.declared.fault.LiveFault.{LiveFault}
use Rattle.live.specs.declared.fault.LiveFault.TheVariants.{Config, NoMemory, Read, Write}
use Rattle.live.proofs.InputSteps.{empty-in, said-all, said-ended, said-face, said-none}
use Rattle.live.proofs.MoreWritten.{answers-join, texts-join}
use Rattle.live.proofs.Pieces.{LastLine}
use Rattle.live.proofs.RunSteps.{counted-none, ends-after, prefix-after, prefix-longer}

-- ---- what the lower laws say

-- how answers go on, the last line of a text, and that there are answers to whatever is said
pub record EndLaws : Type 0 where
  pub more : MoreAnswers
  pub last : LastLine
  pub some : (m : Moment) (said : List Asked) → (next : Moment) × Answers m said (answers_of m said) next

-- ---- before the first read

abbrev texts : Face → List ℕ → List ℕ → Texts
texts face config input = record { setup = setup face config; input = input }

abbrev both : SourceView → SinkView → Streams
both source sink = record { source = source; sink = sink }

none-read : (source : SourceView) (ending : Ending LiveFault)
    → FailsAt ending max_reads 0 (changed source source) → Reads ending max_reads (changed source source) []
none-read source ending failed = record {
  taken = Consumes-nil source.left;
  made = 0;
  within = omega arith;
  counted = counted-none source.reads;
  failed = failed;
}

pub memory-runs : (face : Face) (ct : List ℕ) (source : SourceView) (old new : SinkView) → Keeps old.taken new.taken
    → Runs (setup face ct) (Err NoMemory) (both source old) (both source new)
memory-runs face ct source old new kept = record {
  input = [];
  reads = none-read source OutOfMemory refl;
  end = record { unread = refl; source = refl; unwritten = kept };
}

pub config-runs : (face : Face) (e : ReadFault ConfigFault) (ct : List ℕ) (source : SourceView) (sink : SinkView)
    → IsFaultOf (configuration_of ct) (read_ending e)
    → Runs (setup face ct) (Err (read_as Config NoMemory e)) (both source sink) (both source sink)
config-runs face (reads.At fault) ct source sink h = record {
  input = [];
  reads = none-read source (Refused (Config fault)) refl;
  end = (h, record { unread = refl; source = refl; unwritten = Keeps-refl sink.taken });
}
config-runs face reads.NoMemory ct source sink h = memory-runs face ct source sink sink (Keeps-refl sink.taken)

-- ---- all that is said

-- before anything is said
abbrev pub first : Face → RadioConfig → Streams → Progress
first face c streams = progress (reached (first_moment c) (empty_partial face)) streams

-- what is to be written, where these are the answers
abbrev pub whole : Face → RadioConfig → List Answer → Moment → List ℕ
whole face c answers last =
    written_count face (length c.networks) ++ written_after face (first_moment c) answers ++ written_tables face last.networks

said-whole : (face : Face) (c : RadioConfig) (ct input : List ℕ) (said : List Asked) (answers : List Answer) (last : Moment)
    → configuration_of ct ≡ Ok c → IsAllSaid face (bssids_at (first_moment c)) input said
    → Answers (first_moment c) said answers last → AnswersAll (texts face ct input) (whole face c answers last)
said-whole face c ct input said answers last is all answered = record {
  config = c;
  said = said;
  answers = answers;
  last = last;
  read = is;
  is_said = all;
  answered = answered;
  written_is = refl;
}

-- what was said as far as it had ended, and then what the end says
all-answered : EndLaws → (face : Face) (c : RadioConfig) (ct input : List ℕ) (between last : Moment) (partial : PartialInput)
    (said : List Asked) (some more : List Answer) → configuration_of ct ≡ Ok c
    → IsSaidIn (bssids_at (first_moment c)) (empty_partial face) input (saying said partial)
    → Answers (first_moment c) said some between → Answers between (last_said (bssids_at between) partial) more last
    → AnswersAll (texts face ct input) (whole face c (some ++ more) last)
all-answered laws face c ct input between last partial said some more is are first later =
    let m : Moment = first_moment c in
    let end : List Asked = last_said (bssids_at m) partial in
    said-whole face c ct input (said ++ end) (some ++ more) last is
    (said-all laws.last face (bssids_at m) input said partial are)
    (answers-join laws.more m between last said end some more first (rw (laws.more.bssids m said some between first) at later))

-- it begins with what was to be written of what had ended
whole-is : MoreAnswers → (face : Face) (c : RadioConfig) (between last : Moment) (said : List Asked) (some more : List Answer)
    → Answers (first_moment c) said some between
    → (written_count face (length c.networks) ++ written_after face (first_moment c) some)
    ++ (written_after face between more ++ written_tables face last.networks)
    ≡ whole face c (some ++ more) last
whole-is laws face c between last said some more h =
    rw (texts-join laws face (first_moment c) between said some more h) (simp append_assoc)

-- ---- a write failed

abbrev bad : {E : Type 0} → E → Result Unit E
bad e = Err e

pub count-runs : EndLaws → (face : Face) (e : ReportFault) (c : RadioConfig) (ct : List ℕ) (source : SourceView)
    (old new : SinkView) → configuration_of ct ≡ Ok c
    → Ends (ending_of {A = Unit} report_ending (Err e)) (Ok (written_count face (length c.networks))) old.taken new.taken
    → (bad e ≡ bad reports.NoMemory → Keeps old.taken new.taken)
    → Runs (setup face ct) (Err (report_as Write NoMemory e)) (both source old) (both source new)
count-runs laws face reports.NoMemory c ct source old new is part kept = memory-runs face ct source old new (kept refl)
count-runs laws face reports.Write c ct source old new is part kept =
    let m : Moment = first_moment c in
    let end : List Asked = last_said (bssids_at m) (empty_partial face) in
    let some = laws.some m end in
    let answers : List Answer = answers_of m end in
    record {
      input = [];
      reads = none-read source WriteFailed refl;
      end = record {
        written = whole face c answers some.0;
        all = said-whole face c ct [] end answers some.0 is
            (said-all laws.last face (bssids_at m) [] [] (empty_partial face) (said-none face (bssids_at m))) some.1;
        grown =
            prefix-longer (written_count face (length c.networks) ++ written_after face m answers)
            (written_tables face some.0.networks)
            (prefix-longer (written_count face (length c.networks)) (written_after face m answers) part);
        stops = inl refl;
      };
    }

pub count-failures : (e : ReportFault) (failed : ℕ)
    → failed + failures_of report_ending (bad e) ≡ failed + failures_of live_ending (bad (report_as Write NoMemory e))
count-failures reports.NoMemory failed = refl
count-failures reports.Write failed = refl

-- all was written before that is to be written of what had ended before
stops-reading : (face : Face) (c : RadioConfig) (ct input : List ℕ) (old : SinkView) (mid : Streams) (new : Progress)
    → configuration_of ct ≡ Ok c → Appends old.taken mid.sink.taken (written_count face (length c.networks))
    → StopsInPiece face input (first face c mid) new → StopsReading (texts face ct input) old new.streams.sink
stops-reading face c ct input old mid new is count s =
    let said : List ℕ = written_count face (length c.networks) ++ written_after face (first_moment c) s.answers in
    record {
      before = s.before;
      piece = s.piece;
      read = s.read;
      short = s.short;
      written = said;
      ended = record {
        config = c;
        said = s.said;
        answers = s.answers;
        last = s.between;
        read = is;
        is_said = s.is_said;
        answered = s.answered;
        written_is = refl;
      };
      rest = s.rest;
      grown =
          rw (append_assoc (written_count face (length c.networks)) (written_after face (first_moment c) s.answers) s.rest)
          (Appends-trans old.taken mid.sink.taken new.streams.sink.taken (written_count face (length c.networks))
          (written_after face (first_moment c) s.answers ++ s.rest) count s.written);
    }

-- ---- reading ended before the source did, or a write failed

pub input-runs : EndLaws → (face : Face) (e : LiveFault) (c : RadioConfig) (ct : List ℕ) (old : SinkView) (mid new : Streams)
    (moment : Moment) (partial : PartialInput) → configuration_of ct ≡ Ok c
    → Appends old.taken mid.sink.taken (written_count face (length c.networks))
    → AnswersInput face (Err e) (first face c mid) (progress (reached moment partial) new)
    → Runs (setup face ct) (Err e) (both mid.source old) new
input-runs laws face Read c ct old mid new moment partial is count s = record {
  input = s.input;
  reads = s.reads;
  end = record {
    written = written_count face (length c.networks) ++ written_after face (first_moment c) s.answers;
    ended = record {
      config = c;
      said = s.said;
      answers = s.answers;
      last = moment;
      read = is;
      is_said = said-ended face (bssids_at (first_moment c)) s.input s.said partial s.is_said;
      answered = s.answered;
      written_is = refl;
    };
    grown =
        Appends-trans old.taken mid.sink.taken new.sink.taken (written_count face (length c.networks))
        (written_after face (first_moment c) s.answers) count s.written;
  };
}
input-runs laws face Write c ct old mid new moment partial is count s =
    let end : List Asked = last_said (bssids_at moment) partial in
    let rest = laws.some moment end in
    let more : List Answer = answers_of moment end in
    record {
      input = s.input;
      reads = s.reads;
      end = record {
        written = whole face c (s.answers ++ more) rest.0;
        all =
            all-answered laws face c ct s.input moment rest.0 partial s.said s.answers more is s.is_said s.answered rest.1;
        grown =
            subst (AppendsPrefix old.taken new.sink.taken)
            (whole-is laws.more face c moment rest.0 s.said s.answers more s.answered)
            (prefix-longer (written_count face (length c.networks) ++ written_after face (first_moment c) s.answers)
            (written_after face moment more ++ written_tables face rest.0.networks)
            (prefix-after (written_count face (length c.networks)) (written_after face (first_moment c) s.answers) count
            s.written));
        stops = inr (stops-reading face c ct s.input old mid (progress (reached moment partial) new) is count (s.stops refl));
      };
    }
input-runs laws face NoMemory c ct old mid new moment partial is count s = absurd s.written
input-runs laws face (Config fault) c ct old mid new moment partial is count s = absurd s.written

-- ---- the source came to its end

-- all that is said is answered, and what was to be written of that is, or a prefix of it where a write failed
all-ends : EndLaws → (face : Face) (r : Result Unit Failed) (u : Unit {0}) (c : RadioConfig) (ct : List ℕ) (old : SinkView)
    (mid read : Streams) (new : SinkView) (moment : Moment) (partial : PartialInput) → configuration_of ct ≡ Ok c
    → Appends old.taken mid.sink.taken (written_count face (length c.networks))
    → (s : AnswersInput face (Ok u) (first face c mid) (progress (reached moment partial) read))
    → Finishes r (running (reached moment partial) read.sink.taken) new.taken
    → (written : List ℕ) × AnswersAll (texts face ct s.input) written
    × Ends (ending_of write_ending r) (Ok written) old.taken new.taken
all-ends laws face r u c ct old mid read new moment partial is count s t =
    let same : face_of partial ≡ face = said-face face (bssids_at (first_moment c)) s.input s.said partial s.is_said in (
      whole face c (s.answers ++ t.answers) t.last,
      all-answered laws face c ct s.input moment t.last partial s.said s.answers t.answers is s.is_said s.answered t.answered,
      rw (← whole-is laws.more face c moment t.last s.said s.answers t.answers s.answered)
          (ends-after _ _ _ r (written_count face (length c.networks) ++ written_after face (first_moment c) s.answers)
          (written_after face moment t.answers ++ written_tables face t.last.networks)
          (Appends-trans old.taken mid.sink.taken read.sink.taken (written_count face (length c.networks))
          (written_after face (first_moment c) s.answers) count s.written.1)
          (rw same at t.written)),
    )

pub end-runs : EndLaws → (face : Face) (e : Failed) (u : Unit {0}) (c : RadioConfig) (ct : List ℕ) (old : SinkView)
    (mid read : Streams) (new : SinkView) (moment : Moment) (partial : PartialInput) → configuration_of ct ≡ Ok c
    → Appends old.taken mid.sink.taken (written_count face (length c.networks))
    → AnswersInput face (Ok u) (first face c mid) (progress (reached moment partial) read)
    → Finishes (Err e) (running (reached moment partial) read.sink.taken) new.taken
    → Runs (setup face ct) (Err Write) (both mid.source old) (both read.source new)
end-runs laws face e u c ct old mid read new moment partial is count s t =
    let all = all-ends laws face (Err e) u c ct old mid read new moment partial is count s t in
    record {
      input = s.input;
      reads = record {
        taken = s.reads.taken;
        made = s.reads.made;
        within = s.reads.within;
        counted = s.reads.counted;
        failed = s.reads.failed;
      };
      end = record {
        written = all.0;
        all = all.1;
        grown = all.2;
        stops =
            inr
            (stops-reading face c ct s.input old mid (progress (reached moment partial) (both read.source new)) is count
            (record {
              before = s.input;
              piece = [];
              read = sym (append-nil s.input);
              short = omega arith;
              said = s.said;
              answers = s.answers;
              between = moment;
              is_said = said-ended face (bssids_at (first_moment c)) s.input s.said partial s.is_said;
              answered = s.answered;
              rest = t.written.written;
              written =
                  Appends-trans mid.sink.taken read.sink.taken new.taken (written_after face (first_moment c) s.answers)
                  t.written.written s.written.1 t.written.taken;
            }));
      };
    }

pub whole-runs : EndLaws → (face : Face) (u v w : Unit {0}) (c : RadioConfig) (ct : List ℕ) (old : SinkView)
    (mid read : Streams) (new : SinkView) (moment : Moment) (partial : PartialInput) → configuration_of ct ≡ Ok c
    → Appends old.taken mid.sink.taken (written_count face (length c.networks))
    → AnswersInput face (Ok u) (first face c mid) (progress (reached moment partial) read)
    → Finishes (Ok v) (running (reached moment partial) read.sink.taken) new.taken
    → Runs (setup face ct) (Ok w) (both mid.source old) (both read.source new)
whole-runs laws face u v w c ct old mid read new moment partial is count s t =
    let all = all-ends laws face (Ok v) u c ct old mid read new moment partial is count s t in
    record {
      input = s.input;
      reads = s.reads;
      end = record { written = all.0; all = all.1; at_end = s.written.0; grown = all.2 };
    }

-- ---- as the call has it

pub from-first : (face : Face) (r : Result Unit LiveFault) (c : RadioConfig) (live : Reached) (mid : Streams) (end : Progress)
    → live ≡ reached (first_moment c) (empty_partial face) → AnswersInput (face_of live.partial) r (progress live mid) end
    → AnswersInput face r (first face c mid) end
from-first face r c live mid end is s =
    rw (is, (empty-in face).same) at s

-- it begins with nothing
pub begins-so : (face : Face) (m : Moment) (live : Reached) → live ≡ reached m (empty_partial face)
    → live.partial ≡ empty_partial (face_of live.partial)
begins-so face m live is =
    let none : live.partial ≡ empty_partial face = ap (λ (l : Reached). l.partial) is in
    none ∙ ap empty_partial (sym (empty-in face).same) ∙ ap (λ (b : PartialInput). empty_partial (face_of b)) (sym none)

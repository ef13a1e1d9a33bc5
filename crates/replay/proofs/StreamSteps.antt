-- What the steps of reading a stream rest on.
use Rattle.std.proofs.Common.{◌≡◌, ℕ, ◌+◌, ◌≤◌, List, [], ◌++◌, length, refl, sym, ◌∙◌, arith, append-nil}
use Rattle.std.proofs.KnownBytes.{Consumes-nil, Consumes-trans}
use Rattle.std.specs.Io.KnownBytes.{Consumes}
use Rattle.ap_config.specs.declared.config.RadioConfig.{RadioConfig}
use Rattle.events.specs.declared.line.Line.{Line}
use Rattle.trace.specs.Pieces.{ReaderView, AreTakenSoFar}
use Rattle.text_io.specs.Streams.{SourceView, reads_after}
use Rattle.replay.specs.Stream.{StopsIn}

-- ---- what was read so far

-- the lines of a text were taken that a source gave in this many reads, none of which failed
pub record SoFar (c : RadioConfig) (old new : SourceView) (count : ℕ) (lines : ReaderView)
    (taken : List Line → Type 0) : Type 0 where
  pub text : List ℕ
  pub read : Consumes old.left new.left text
  pub counted : new.reads ≡ reads_after old.reads count
  pub failed : new.failed ≡ old.failed
  pub replayed : AreTakenSoFar c text lines taken

-- no read is counted, and then one more
pub counted-none : (reads : ℕ) → reads ≡ reads_after reads 0
counted-none reads = omega arith

pub counted-more : (old mid new count : ℕ) → mid ≡ reads_after old count → new ≡ reads_after mid 1
    → new ≡ reads_after old (count + 1)
counted-more old mid new count before here = omega (arith, before, here)

pub so_far-none : (c : RadioConfig) (source : SourceView) (lines : ReaderView) (taken : List Line → Type 0)
    → AreTakenSoFar c [] lines taken → SoFar c source source 0 lines taken
so_far-none c source lines taken h = record {
  text = [];
  read = Consumes-nil source.left;
  counted = counted-none source.reads;
  failed = refl;
  replayed = h;
}

-- a read more, and its piece
pub so_far-more : (c : RadioConfig) (old mid new : SourceView) (count : ℕ) (piece : List ℕ) (lines : ReaderView)
    (taken : List Line → Type 0) (lines' : ReaderView) (taken' : List Line → Type 0)
    (s : SoFar c old mid count lines taken)
    → Consumes mid.left new.left piece → new.reads ≡ reads_after mid.reads 1 → new.failed ≡ mid.failed
    → AreTakenSoFar c (s.text ++ piece) lines' taken' → SoFar c old new (count + 1) lines' taken'
so_far-more c old mid new count piece lines taken lines' taken' s took counted same h = record {
  text = s.text ++ piece;
  read = Consumes-trans old.left mid.left new.left s.text piece s.read took;
  counted = counted-more old.reads mid.reads new.reads count s.counted counted;
  failed = same ∙ s.failed;
  replayed = h;
}

-- ---- where reading stops

-- a fault was met in this piece
pub stops_in : (c : RadioConfig) (text piece : List ℕ) (lines : ReaderView) (taken : List Line → Type 0)
    → AreTakenSoFar c text lines taken → length piece ≤ 4096 → StopsIn c (text ++ piece)
stops_in c text piece lines taken h short =
    record { before = text; piece = piece; said = h.0; in_order = refl; short = short; sound = h.1.answered }

-- or at the end
pub stops_at_end : (c : RadioConfig) (text : List ℕ) (lines : ReaderView) (taken : List Line → Type 0)
    → AreTakenSoFar c text lines taken → StopsIn c text
stops_at_end c text lines taken h = record {
  before = text;
  piece = [];
  said = h.0;
  in_order = sym (append-nil text);
  short = omega arith;
  sound = h.1.answered;
}

-- What is known of a source and of a sink, and of the reads that a call makes.
use Rattle.std.specs.Prelude.{ℕ, ◌≡◌, ◌+◌, ◌-◌, ◌^◌, ◌≤◌, ◌⊎◌, max, min, List, Option}
use Rattle.std.specs.Io.KnownBytes.{Consumes}
use Rattle.text_io.specs.Endings.{Ending, ReadFailed}

-- the octets that it has left, where they are known; how often a read of it failed; how many reads were made of it
pub record SourceView : Type 0 where
  pub left : Option (List ℕ)
  pub failed : ℕ
  pub reads : ℕ

-- the octets that it has taken, where they are known, and how often a write to it failed
pub record SinkView : Type 0 where
  pub taken : Option (List ℕ)
  pub failed : ℕ

-- what a call reads and what it writes
pub record Streams : Type 0 where
  pub source : SourceView
  pub sink : SinkView

-- how many reads were made after more of them: as many more, as far as 64 bits count
abbrev pub reads_after : ℕ → ℕ → ℕ
reads_after reads more = max reads (min (reads + more) (2 ^ 64 - 1))

-- a source as a call found it, and as the call left it
pub record SourceChange : Type 0 where
  pub old : SourceView
  pub new : SourceView

abbrev pub changed : SourceView → SourceView → SourceChange
changed old new = record { old = old; new = new }

-- How often reading failed in a call that ended so: it stops at the first failure, and after the most reads.
abbrev pub FailsAt : {F : Type 0} → Ending F → (most made : ℕ) → SourceChange → Type 0
FailsAt ReadFailed most made source =
    (source.new.failed ≡ source.old.failed + 1) ⊎ ((source.new.failed ≡ source.old.failed) × (made ≡ most))
FailsAt _ most made source = source.new.failed ≡ source.old.failed

-- A call that ended so, and may make this many reads at most, read this text.
pub record Reads {F : Type 0} (ending : Ending F) (most : ℕ) (source : SourceChange) (text : List ℕ) : Type 0 where
  pub taken : Consumes source.old.left source.new.left text
  pub made : ℕ
  pub within : made ≤ most
  pub counted : source.new.reads ≡ reads_after source.old.reads made
  pub failed : FailsAt ending most made source

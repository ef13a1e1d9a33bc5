-- What calls put into a sink that stands after a piece of memory, and which is asked for nothing more once it failed.
use Rattle.std.specs.Prelude.{◌≡◌, ℕ, ◌+◌, true, false, List, [], ◌++◌, take, Option, Result, OnOk, is_err}
use Rattle.std.specs.Io.KnownBytes.{Appends}
use Rattle.text_io.specs.Sinks.{MayFail}
use Rattle.text_io.specs.declared.sink.Failed.{Failed}
use Rattle.text_io.specs.declared.buffer.Buffered.{Buffered}

-- ---- a sink and the piece before it

-- how a sink is seen: what it has taken, where that is known, and how often it failed
pub record Watch (W : Type 0) : Type 0 where
  pub taken : W → Option (List ℕ)
  pub failed : W → ℕ

abbrev pub watch : {W : Type 0} → (W → Option (List ℕ)) → (W → ℕ) → Watch W
watch taken failed = record { taken = taken; failed = failed }

-- the sink
abbrev pub sink_of : {W : Type 0} → Buffered W → W
sink_of buffered = buffered.sink.now

-- what the piece before it holds
abbrev pub held : {W : Type 0} → Buffered W → List ℕ
held buffered = take buffered.len buffered.piece.now

-- The sink may still be asked for more, unless it failed.
abbrev pub CanWrite : {W : Type 0} → (W → ℕ) → Buffered W → Type 0
CanWrite failed buffered = buffered.has_failed ≡ false → MayFail (failed (sink_of buffered))

-- what a sink has taken, where that is known, and what the piece before it holds
pub record BufferView : Type 0 where
  pub taken : Option (List ℕ)
  pub held : List ℕ

abbrev pub holding : Option (List ℕ) → List ℕ → BufferView
holding taken held = record { taken = taken; held = held }

abbrev pub view : {W : Type 0} → Watch W → Buffered W → BufferView
view sink buffered = holding (sink.taken (sink_of buffered)) (held buffered)

-- ---- a text that is put

-- A text goes through a buffer: what was held, and then the text, is written, but for what is held now.
pub record Delivers (old new : BufferView) (text : List ℕ) : Type 0 where
  pub written : List ℕ
  pub in_order : old.held ++ text ≡ written ++ new.held
  pub taken : Appends old.taken new.taken written

-- It stops on the way: a prefix of what was held, and then the text, is written.
pub record Stops (old : BufferView) (taken : Option (List ℕ)) (text : List ℕ) : Type 0 where
  pub rest : List ℕ
  pub prefix : Delivers old (holding taken rest) text

-- What becomes of a text: it is delivered; or the sink fails on the way, which counts once; or it failed in a call
-- before, and takes nothing.
pub data PutsBy {W : Type 0} (sink : Watch W) (old new : Buffered W) (text : List ℕ) : Type 0 where
  Delivered : old.has_failed ≡ false → new.has_failed ≡ false → Delivers (view sink old) (view sink new) text
      → sink.failed (sink_of new) ≡ sink.failed (sink_of old) → PutsBy sink old new text
  Fails : old.has_failed ≡ false → new.has_failed ≡ true → Stops (view sink old) (sink.taken (sink_of new)) text
      → sink.failed (sink_of new) ≡ sink.failed (sink_of old) + 1 → PutsBy sink old new text
  Dropped : old.has_failed ≡ true → new.has_failed ≡ true → sink.taken (sink_of new) ≡ sink.taken (sink_of old)
      → sink.failed (sink_of new) ≡ sink.failed (sink_of old) → PutsBy sink old new text

-- The call puts a text after what the piece holds, into the same sink.
pub record Puts {W : Type 0} (sink : Watch W) (old new : Buffered W) (text : List ℕ) : Type 0 where
  pub same_sink : new.sink.ghost_name ≡ old.sink.ghost_name
  pub effect : PutsBy sink old new text
  pub can_write : CanWrite sink.failed new

-- The call writes what the piece holds, and answers whether the sink failed, now or before.
pub record Flushes {W : Type 0} (sink : Watch W) (result : Result Unit Failed) (old new : Buffered W) : Type 0 where
  pub puts : Puts sink old new []
  pub answer : new.has_failed ≡ is_err result
  pub empty : OnOk result (held new ≡ [])

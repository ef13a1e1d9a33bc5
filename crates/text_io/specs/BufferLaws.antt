-- Texts that are put one after the other.
use Rattle.std.proofs.Common.{◌≡◌, ℕ, ◌+◌, ◌<◌, ◌≤◌, Bool, true, false, List, [], ◌∷◌, ◌++◌, Option, Some, Result, Ok, Err}
use Rattle.std.proofs.Common.{length, take, get_or, refl, sym, ap, subst, ◌∙◌, append-nil, arith}
use Rattle.std.specs.Prelude.{slice_get, flat_map, is_err}
use Rattle.std.specs.Result.{OnOk}
use Rattle.std.proofs.lemmas.List.{take_more, take_all}
use Rattle.std.proofs.lemmas.List.Concat.{flat_map-append}
use Rattle.std.proofs.lemmas.Option.{slice_get_within, get_or_from_slice_get}
use Rattle.text_io.specs.Buffers.{Watch, Delivers, Stops, PutsBy, Puts, Flushes, CanWrite, held, holding, sink_of, view}
use Rattle.text_io.specs.Buffers.{Delivered, Fails, Dropped}
use Rattle.text_io.specs.Endings.{Ends, ending_of, failures_of}
use Rattle.text_io.specs.Sinks.{MayFail, write_ending}
use Rattle.text_io.specs.declared.sink.Failed.{Failed}
use Rattle.text_io.specs.declared.buffer.Buffered.{Buffered}
use Rattle.text_io.specs.DeliveryLaws.{Delivers-nothing, Delivers-grown, Delivers-then, Stops-second, Stops-first}
use Rattle.text_io.specs.DeliveryLaws.{Appends-delivered, AppendsPrefix-stopped}

-- ---- what becomes of a text

nothing-by : {W : Type 0} (sink : Watch W) (p : Bool) (a : Buffered W) → a.has_failed ≡ p → PutsBy sink a a []
nothing-by sink false a is = Delivered is is (Delivers-nothing (view sink a)) refl
nothing-by sink true a is = Dropped is is refl refl

-- the piece took the text
held-by : {W : Type 0} (sink : Watch W) (p : Bool) (a b : Buffered W) (t : List ℕ) → a.has_failed ≡ p
    → b.has_failed ≡ p → sink_of b ≡ sink_of a → held b ≡ held a ++ t → PutsBy sink a b t
held-by sink false a b t was is same grown =
    Delivered was is
    (subst
    (λ (o : Option (List ℕ)). Delivers (view sink a) (holding o (held b)) t)
    (sym (ap sink.taken same))
    (Delivers-grown (view sink a) t grown))
    (ap sink.failed same)
held-by sink true a b t was is same grown = Dropped was is (ap sink.taken same) (ap sink.failed same)

-- what was held and the text went to the sink, and nothing is held now
written-by : {W : Type 0} (sink : Watch W) (r : Result Unit Failed) (a b : Buffered W) (t all : List ℕ)
    → a.has_failed ≡ false → b.has_failed ≡ is_err r → all ≡ held a ++ t → held b ≡ []
    → Ends (ending_of write_ending r) (Ok all) (sink.taken (sink_of a)) (sink.taken (sink_of b))
    → sink.failed (sink_of b) ≡ sink.failed (sink_of a) + failures_of write_ending r → PutsBy sink a b t
written-by sink (Ok x) a b t all going is same empty ends failures =
    Delivered going is
    (record {
      written = all;
      in_order = sym same ∙ sym (append-nil all) ∙ ap (λ (l : List ℕ). all ++ l) (sym empty);
      taken = ends;
    })
    (omega (arith, failures))
written-by sink (Err x) a b t all going is same empty ends failures =
    Fails going is
    (record {
      rest = ends.rest;
      prefix = record { written = ends.written; in_order = sym same ∙ ends.in_order; taken = ends.taken };
    })
    failures

-- one text, and then the next
both-by : {W : Type 0} (sink : Watch W) (a b c : Buffered W) (t u : List ℕ) → PutsBy sink a b t → PutsBy sink b c u
    → PutsBy sink a c (t ++ u)
both-by sink a b c t u (Delivered p q d f) (Delivered p' q' e g) =
    Delivered p q' (Delivers-then d e) (omega (arith, f, g))
both-by sink a b c t u (Delivered p q d f) (Fails p' q' e g) = Fails p q' (Stops-second d e) (omega (arith, f, g))
both-by sink a b c t u (Delivered p q d f) (Dropped p' q' e g) = absurd cc
both-by sink a b c t u (Fails p q d f) (Delivered p' q' e g) = absurd cc
both-by sink a b c t u (Fails p q d f) (Fails p' q' e g) = absurd cc
both-by sink a b c t u (Fails p q d f) (Dropped p' q' e g) =
    Fails p q'
    (subst (λ (o : Option (List ℕ)). Stops (view sink a) o (t ++ u)) (sym e) (Stops-first u d))
    (omega (arith, f, g))
both-by sink a b c t u (Dropped p q d f) (Delivered p' q' e g) = absurd cc
both-by sink a b c t u (Dropped p q d f) (Fails p' q' e g) = absurd cc
both-by sink a b c t u (Dropped p q d f) (Dropped p' q' e g) = Dropped p q' (e ∙ d) (g ∙ f)

-- it may be asked for more where it didn't fail now
may-fail-on : {W : Type 0} (failed : W → ℕ) (q : Bool) (r : Result Unit Failed) (a b : Buffered W)
    → MayFail (failed (sink_of a)) → q ≡ is_err r
    → failed (sink_of b) ≡ failed (sink_of a) + failures_of write_ending r → q ≡ false → MayFail (failed (sink_of b))
may-fail-on failed q (Ok x) a b may is failures going = omega (arith, may, failures)
may-fail-on failed q (Err x) a b may is failures going = absurd cc

-- the items up to a place, and the one there
items_more : {X : Type 0} (f : X → List ℕ) (xs : List X) (i : ℕ) (x : X) → i < length xs → x ≡ get_or xs i x
    → flat_map f (take i xs) ++ f x ≡ flat_map f (take (i + 1) xs)
items_more f xs i x within here =
    ap (λ l. flat_map f (take i xs) ++ l) (ap f here ∙ sym (append-nil (f (get_or xs i x))))
    ∙ sym (flat_map-append f (take i xs) (get_or xs i x ∷ []))
    ∙ ap (flat_map f) (sym (take_more xs i x within))

-- one more item, which is named by its place
items_next : {X : Type 0} (f : X → List ℕ) (xs : List X) (i : ℕ) (d : X) → i < length xs
    → flat_map f (take i xs) ++ f (get_or xs i d) ≡ flat_map f (take (i + 1) xs)
items_next f xs i d within =
    ap (λ l. flat_map f (take i xs) ++ l) (sym (append-nil (f (get_or xs i d))))
    ∙ sym (flat_map-append f (take i xs) (get_or xs i d ∷ []))
    ∙ ap (flat_map f) (sym (take_more xs i d within))

-- ---- one call after another

module _ {W : Type 0} {sink : Watch W} where
  pub Puts-nothing : (a : Buffered W) → CanWrite sink.failed a → Puts sink a a []
  Puts-nothing a can = record { same_sink = refl; effect = nothing-by sink a.has_failed a refl; can_write = can }

  -- the sink failed before
  pub Puts-dropped : (a : Buffered W) (t : List ℕ) → CanWrite sink.failed a → a.has_failed ≡ true → Puts sink a a t
  Puts-dropped a t can is =
      record { same_sink = refl; effect = Dropped is is refl refl; can_write = can }

  -- the piece has room for the text
  pub Puts-held : (a b : Buffered W) (t : List ℕ) → CanWrite sink.failed a → b.sink.ghost_name ≡ a.sink.ghost_name
      → sink_of b ≡ sink_of a → held b ≡ held a ++ t → b.has_failed ≡ a.has_failed → Puts sink a b t
  Puts-held a b t can name same grown flag = record {
    same_sink = name;
    effect = held-by sink a.has_failed a b t refl flag same grown;
    can_write = λ going. subst (λ (s : W). MayFail (sink.failed s)) (sym same) (can (sym flag ∙ going));
  }

  -- what was held and the text went to the sink directly
  pub Puts-written : (r : Result Unit Failed) (a b : Buffered W) (t all : List ℕ) → CanWrite sink.failed a
      → a.has_failed ≡ false → b.has_failed ≡ is_err r → b.sink.ghost_name ≡ a.sink.ghost_name → all ≡ held a ++ t
      → held b ≡ [] → Ends (ending_of write_ending r) (Ok all) (sink.taken (sink_of a)) (sink.taken (sink_of b))
      → sink.failed (sink_of b) ≡ sink.failed (sink_of a) + failures_of write_ending r → Puts sink a b t
  Puts-written r a b t all can going is name same empty ends failures = record {
    same_sink = name;
    effect = written-by sink r a b t all going is same empty ends failures;
    can_write = may-fail-on sink.failed b.has_failed r a b (can going) is failures;
  }

  -- one text, and then the next
  pub Puts-then : {a b c : Buffered W} {t u : List ℕ} → Puts sink a b t → Puts sink b c u
      → Puts sink a c (t ++ u)
  Puts-then {a} {b} {c} {t} {u} d e = record {
    same_sink = e.same_sink ∙ d.same_sink;
    effect = both-by sink a b c t u d.effect e.effect;
    can_write = e.can_write;
  }

  -- as another text
  pub Puts-same : {a b : Buffered W} {t u : List ℕ} → t ≡ u → Puts sink a b t → Puts sink a b u
  Puts-same {a} {b} same d = subst (Puts sink a b) same d

  -- ---- one item after another

  module _ {X : Type 0} (f : X → List ℕ) (xs : List X) (i : ℕ) where
    pub Puts-item : (x : X) → i < length xs → x ≡ get_or xs i x → {a b c : Buffered W}
        → Puts sink a b (flat_map f (take i xs)) → Puts sink b c (f x)
        → Puts sink a c (flat_map f (take (i + 1) xs))
    Puts-item x within here d e = Puts-same (items_more f xs i x within here) (Puts-then d e)

    -- an item that is named by its place
    pub Puts-next : (d : X) → i < length xs → {a b c : Buffered W}
        → Puts sink a b (flat_map f (take i xs)) → Puts sink b c (f (get_or xs i d))
        → Puts sink a c (flat_map f (take (i + 1) xs))
    Puts-next d within h e = Puts-same (items_next f xs i d within) (Puts-then h e)

    -- an item that is found at its place
    pub Puts-found : (x : X) → slice_get xs i ≡ Some x → {a b c : Buffered W}
        → Puts sink a b (flat_map f (take i xs)) → Puts sink b c (f x)
        → Puts sink a c (flat_map f (take (i + 1) xs))
    Puts-found x e = Puts-item x (slice_get_within xs i x e) (sym (get_or_from_slice_get xs i x x e))

    -- all items were put
    pub Puts-items : {a b : Buffered W} → length xs ≤ i → Puts sink a b (flat_map f (take i xs))
        → Puts sink a b (flat_map f xs)
    Puts-items le d = Puts-same (ap (flat_map f) (take_all i xs le)) d

-- ---- the whole way, from an empty piece

ends-by : {W : Type 0} (sink : Watch W) (r : Result Unit Failed) (a b : Buffered W) (t : List ℕ)
    → a.has_failed ≡ false → b.has_failed ≡ is_err r → held a ≡ [] → OnOk r (held b ≡ []) → PutsBy sink a b t
    → Ends (ending_of write_ending r) (Ok t) (sink.taken (sink_of a)) (sink.taken (sink_of b))
    × (sink.failed (sink_of b) ≡ sink.failed (sink_of a) + failures_of write_ending r)
ends-by sink (Ok x) a b t going is none empty (Delivered p q d f) = (Appends-delivered d none empty, omega (arith, f))
ends-by sink (Ok x) a b t going is none empty (Fails p q d f) = absurd cc
ends-by sink (Err x) a b t going is none empty (Delivered p q d f) = absurd cc
ends-by sink (Err x) a b t going is none empty (Fails p q d f) = (AppendsPrefix-stopped d none, omega (arith, f))
ends-by sink r a b t going is none empty (Dropped p q d f) = absurd cc

module _ {W : Type 0} {sink : Watch W} where
  -- what the sink took of a text that was put and then written, and how often it failed
  pub Puts-flushed : (r : Result Unit Failed) (first : W) (a b c : Buffered W) (t : List ℕ) → sink_of a ≡ first
      → a.has_failed ≡ false → held a ≡ [] → Puts sink a b t → Flushes sink r b c
      → Ends (ending_of write_ending r) (Ok t) (sink.taken first) (sink.taken (sink_of c))
      × (sink.failed (sink_of c) ≡ sink.failed first + failures_of write_ending r)
  Puts-flushed r first a b c t same fresh none put flushed =
      let d : Puts sink a c t = Puts-same (append-nil t) (Puts-then put flushed.puts) in
      subst
      (λ (s : W).
      Ends (ending_of write_ending r) (Ok t) (sink.taken s) (sink.taken (sink_of c))
      × (sink.failed (sink_of c) ≡ sink.failed s + failures_of write_ending r))
      same
      (ends-by sink r a c t fresh flushed.answer none flushed.empty d.effect)

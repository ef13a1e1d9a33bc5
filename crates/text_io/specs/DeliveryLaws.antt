-- Texts that go to a writer piece by piece.
use Rattle.std.proofs.Common.{◌≡◌, ℕ, ◌-◌, List, [], ◌++◌, Option, length, take, drop, sym, ap, ◌∙◌, subst}
use Rattle.std.proofs.Common.{append_assoc, append-nil, take-append-drop}
use Rattle.std.proofs.lemmas.List.{take_rest}
use Rattle.std.specs.Io.KnownBytes.{Appends}
use Rattle.std.proofs.KnownBytes.{Appends-nil, Appends-trans}
use Rattle.text_io.specs.Endings.{AppendsPrefix}
use Rattle.text_io.specs.Buffers.{BufferView, Delivers, Stops, holding}

-- ---- a text that is written part by part

-- a prefix of what was left was taken
pub Delivers-prefix : {a b : BufferView} {known : Option (List ℕ)} {text : List ℕ} (prefix suffix : List ℕ)
    → Delivers a b text → b.held ≡ prefix ++ suffix → Appends b.taken known prefix
    → Delivers a (holding known suffix) text
Delivers-prefix prefix suffix d split more = record {
  written = d.written ++ prefix;
  in_order = d.in_order ∙ ap (λ l. d.written ++ l) split ∙ sym (append_assoc d.written prefix suffix);
  taken = Appends-trans _ _ _ _ _ d.taken more;
}

-- a list is its prefix and its rest, as the code cuts it
pub prefix_and_rest : (xs : List ℕ) (n : ℕ) → xs ≡ take n xs ++ take (length xs - n) (drop n xs)
prefix_and_rest xs n = sym (take-append-drop n xs) ∙ ap (λ l. take n xs ++ l) (sym (take_rest xs n))

-- ---- a text that is put after what a buffer holds

-- nothing was put
pub Delivers-nothing : (a : BufferView) → Delivers a a []
Delivers-nothing a = record { written = []; in_order = append-nil a.held; taken = Appends-nil a.taken }

-- the buffer took the text
pub Delivers-grown : (a : BufferView) {q : List ℕ} (text : List ℕ) → q ≡ a.held ++ text
    → Delivers a (holding a.taken q) text
Delivers-grown a text grown = record { written = []; in_order = sym grown; taken = Appends-nil a.taken }

-- one text, and then the next
pub Delivers-then : {a b c : BufferView} {t u : List ℕ} → Delivers a b t → Delivers b c u → Delivers a c (t ++ u)
Delivers-then {a} {b} {c} {t} {u} d e = record {
  written = d.written ++ e.written;
  in_order =
      sym (append_assoc a.held t u) ∙ ap (λ l. l ++ u) d.in_order ∙ append_assoc d.written _ u
      ∙ ap (λ l. d.written ++ l) e.in_order
      ∙ sym (append_assoc d.written e.written c.held);
  taken = Appends-trans _ _ _ _ _ d.taken e.taken;
}

-- it stopped in the second of two texts
pub Stops-second : {a b : BufferView} {known : Option (List ℕ)} {t u : List ℕ} → Delivers a b t → Stops b known u
    → Stops a known (t ++ u)
Stops-second d e = record { rest = e.rest; prefix = Delivers-then d e.prefix }

-- it stopped in the first of two texts
pub Stops-first : {a : BufferView} {known : Option (List ℕ)} {t : List ℕ} (u : List ℕ) → Stops a known t
    → Stops a known (t ++ u)
Stops-first {a} {t = t} u e = record {
  rest = e.rest ++ u;
  prefix = record {
    written = e.prefix.written;
    in_order =
        sym (append_assoc a.held t u) ∙ ap (λ l. l ++ u) e.prefix.in_order ∙ append_assoc e.prefix.written e.rest u;
    taken = e.prefix.taken;
  };
}

-- ---- the whole way, from an empty buffer to an empty one

pub Appends-delivered : {a b : BufferView} {t : List ℕ} → Delivers a b t → a.held ≡ [] → b.held ≡ []
    → Appends a.taken b.taken t
Appends-delivered {a} {b} {t} d e f =
    let whole : d.written ≡ t =
    sym (append-nil d.written) ∙ ap (λ l. d.written ++ l) (sym f) ∙ sym d.in_order ∙ ap (λ l. l ++ t) e in
    subst (Appends a.taken b.taken) whole d.taken

pub AppendsPrefix-stopped : {a : BufferView} {known : Option (List ℕ)} {t : List ℕ} → Stops a known t → a.held ≡ []
    → AppendsPrefix a.taken known t
AppendsPrefix-stopped {t = t} s e = record {
  written = s.prefix.written;
  rest = s.rest;
  in_order = ap (λ l. l ++ t) (sym e) ∙ s.prefix.in_order;
  taken = s.prefix.taken;
}

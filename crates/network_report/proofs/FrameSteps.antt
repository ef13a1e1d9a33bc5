-- Frames whose octets stand one after another.
use Rattle.std.proofs.Common.{◌≡◌, ℕ, ◌+◌, ◌<◌, ◌≤◌, List, [], ◌∷◌, ◌++◌, length, take, drop, get_or, Option}
use Rattle.std.proofs.Common.{refl, sym, ap, ◌∙◌, arith, append-nil, append_assoc}
use Rattle.std.specs.Prelude.{sum, flat_map}
use Rattle.std.proofs.lemmas.List.{length-drop, drop_more, drop_all}
use Rattle.std.proofs.lemmas.List.{flat_map_more}
use Rattle.std.proofs.lemmas.List.Sums.{sum_by-drop_more}
use Rattle.text_io.specs.Buffers.{CanWrite, Puts, watch}
use Rattle.text_io.specs.declared.buffer.Buffered.{Buffered}
use Rattle.text_io.specs.BufferLaws.{Puts-nothing, Puts-then, Puts-same}
use Rattle.networks.specs.SentFrames.{cut_by}

-- ---- frames that are put one after another

-- the lines of the frames before a place were put, and the octets of the others are left
pub record PutSoFar {W : Type 0} (taken : W → Option (List ℕ)) (failed : W → ℕ) (line : List ℕ → List ℕ)
    (lengths octets : List ℕ) (place : ℕ) (rest : List ℕ) (old new : Buffered W) : Type 0 where
  pub done : List (List ℕ)
  pub parts : done ++ cut_by (drop place lengths) rest ≡ cut_by lengths octets
  pub whole : sum (drop place lengths) ≡ length rest
  pub put : Puts (watch taken failed) old new (flat_map line done)

module _ {W : Type 0} {taken : W → Option (List ℕ)} {failed : W → ℕ} (line : List ℕ → List ℕ) (lengths octets : List ℕ)
  where
    pub put-none : (w : Buffered W) → sum lengths ≡ length octets → CanWrite failed w
        → PutSoFar taken failed line lengths octets 0 octets w w
    put-none w whole can = record { done = []; parts = refl; whole = whole; put = Puts-nothing w can }

    pub put-more : (place : ℕ) (rest : List ℕ) {old mid new : Buffered W}
        → PutSoFar taken failed line lengths octets place rest old mid → place < length lengths
        → Puts (watch taken failed) mid new (line (take (get_or lengths place 0) rest))
        → PutSoFar taken failed line lengths octets (place + 1) (drop (get_or lengths place 0) rest) old new
    put-more place rest s within put =
        let len : ℕ = get_or lengths place 0 in
        let later : List ℕ = drop (place + 1) lengths in
        let total : len + sum later ≡ length rest =
        sym (sum_by-drop_more (λ (n : ℕ). n) lengths place 0 within) ∙ s.whole in
        record {
          done = s.done ++ take len rest ∷ [];
          parts =
              append_assoc s.done (take len rest ∷ []) (cut_by later (drop len rest))
              ∙ ap (λ (ns : List ℕ). s.done ++ cut_by ns rest) (sym (drop_more lengths place 0 within))
              ∙ s.parts;
          whole = omega (arith, total, length-drop len rest);
          put = Puts-same (flat_map_more line [] s.done (take len rest)) (Puts-then s.put put);
        }

    pub put-all : (place : ℕ) (rest : List ℕ) {old new : Buffered W}
        → PutSoFar taken failed line lengths octets place rest old new → length lengths ≤ place
        → Puts (watch taken failed) old new (flat_map line (cut_by lengths octets))
    put-all place rest s past =
        let none : cut_by (drop place lengths) rest ≡ [] =
        ap (λ (ns : List ℕ). cut_by ns rest) (drop_all place lengths past) in
        let all : s.done ≡ cut_by lengths octets =
        sym (append-nil s.done) ∙ ap (λ (fs : List (List ℕ)). s.done ++ fs) (sym none) ∙ s.parts in
        Puts-same (ap (flat_map line) all) s.put

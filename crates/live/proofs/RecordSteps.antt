-- Records that end in a piece, one after the other.
use Rattle.std.proofs.Common.{◌≡◌, ℕ, ◌+◌, ◌≤◌, List, [], ◌∷◌, ◌++◌, length, take, drop, take-append-drop, Option}
use Rattle.std.proofs.Common.{refl, sym, ap, subst, ◌∙◌, arith, append_assoc, append-nil, length-append}
use Rattle.std.proofs.ByRecursion.{All-append}
use Rattle.std.proofs.lemmas.List.{map-append, nil_from_length}
use Rattle.std.proofs.lemmas.List.Concat.{flat_map-append}
use Rattle.text_io.specs.Buffers.{CanWrite, watch}
use Rattle.text_io.specs.declared.buffer.Buffered.{Buffered}
use Rattle.live_rules.specs.Moments.{Moment, bssids_at}
use Rattle.live_rules.specs.MoreAnswers.{MoreAnswers}
use Rattle.live.specs.Output.{AnswersRecords, AreAnswered, through, waiting}
use Rattle.live_rules.specs.Records.{IsPartialRecord, IsRecord, all_octets, record_asks, records_ask}
use Rattle.live.specs.declared.face.Face.TheVariants.{Records}
use Rattle.live.proofs.AnswerSteps.{answered-none, answered-then}

-- a list in two parts
pub parts-are : (n : ℕ) (xs front back : List ℕ) → front ≡ take n xs → back ≡ drop n xs → xs ≡ front ++ back
parts-are n xs front back f b = rw (f, b) (sym (take-append-drop n xs))

-- ---- one record

pub records-none : {W : Type 0} (taken : W → Option (List ℕ)) (failed : W → ℕ) (m : Moment) (w : Buffered W)
    (partial piece : List ℕ) → CanWrite failed w → IsPartialRecord partial
    → AnswersRecords (through Records (watch taken failed) w w) (waiting m partial piece) (waiting m partial piece)
records-none taken failed m w partial piece can is = record {
  records = [];
  each = tt;
  all = refl;
  is_partial = is;
  answered = answered-none taken failed Records m w can;
  few = omega arith;
}

-- it stands whole at the front of the piece
pub records-front : MoreAnswers → {W : Type 0} (taken : W → Option (List ℕ)) (failed : W → ℕ) (m next : Moment) (old new : Buffered W)
    (partial piece r rest : List ℕ) → partial ≡ [] → IsPartialRecord partial → IsRecord r → 9 ≤ length r → piece ≡ r ++ rest
    → AreAnswered (through Records (watch taken failed) old new) m next (records_ask (bssids_at m) (r ∷ []))
    → AnswersRecords (through Records (watch taken failed) old new) (waiting m partial piece) (waiting next partial rest)
records-front laws taken failed m next old new partial piece r rest none is whole long front a =
    let one : next.lines ≡ m.lines + 1 = laws.lines m (records_ask (bssids_at m) (r ∷ [])) a.answers next a.answered in
    let lens : length piece ≡ length r + length rest = ap length front ∙ length-append r rest in
    record {
      records = r ∷ [];
      each = (whole, tt);
      all =
          ap (λ (b : List ℕ). b ++ piece) none ∙ front
          ∙ ap (λ (l : List ℕ). l ++ rest) (sym (append-nil r))
          ∙ ap (λ (b : List ℕ). (r ++ []) ++ (b ++ rest)) (sym none);
      is_partial = is;
      answered = a;
      few = omega (arith, one, lens, long);
    }

-- more came of it
pub records-added : {W : Type 0} (taken : W → Option (List ℕ)) (failed : W → ℕ) (m : Moment) (w : Buffered W)
    (partial more now piece rest : List ℕ) → CanWrite failed w → now ≡ partial ++ more → piece ≡ more ++ rest → IsPartialRecord now
    → AnswersRecords (through Records (watch taken failed) w w) (waiting m partial piece) (waiting m now rest)
records-added taken failed m w partial more now piece rest can grown front is =
    let lens : length piece ≡ length more + length rest = ap length front ∙ length-append more rest in
    record {
      records = [];
      each = tt;
      all =
          ap (λ (l : List ℕ). partial ++ l) front ∙ sym (append_assoc partial more rest)
          ∙ ap (λ (l : List ℕ). l ++ rest) (sym grown);
      is_partial = is;
      answered = answered-none taken failed Records m w can;
      few = omega (arith, lens);
    }

-- it is whole with what came
pub records-whole : MoreAnswers → {W : Type 0} (taken : W → Option (List ℕ)) (failed : W → ℕ) (m next : Moment) (old new : Buffered W)
    (partial more now none piece rest : List ℕ) → now ≡ partial ++ more → none ≡ [] → piece ≡ more ++ rest
    → 1 ≤ length more → IsRecord now
    → AreAnswered (through Records (watch taken failed) old new) m next (records_ask (bssids_at m) (now ∷ []))
    → AnswersRecords (through Records (watch taken failed) old new) (waiting m partial piece) (waiting next none rest)
records-whole laws taken failed m next old new partial more now none piece rest grown empty front some whole a =
    let one : next.lines ≡ m.lines + 1 = laws.lines m (records_ask (bssids_at m) (now ∷ [])) a.answers next a.answered in
    let lens : length piece ≡ length more + length rest = ap length front ∙ length-append more rest in
    record {
      records = now ∷ [];
      each = (whole, tt);
      all =
          ap (λ (l : List ℕ). partial ++ l) front ∙ sym (append_assoc partial more rest)
          ∙ ap (λ (l : List ℕ). l ++ rest) (sym grown)
          ∙ ap (λ (l : List ℕ). l ++ rest) (sym (append-nil now))
          ∙ ap (λ (b : List ℕ). (now ++ []) ++ (b ++ rest)) (sym empty);
      is_partial = subst IsPartialRecord (sym empty) tt;
      answered = a;
      few = omega (arith, one, lens, some);
    }

-- ---- one after the other

pub records-then : MoreAnswers → {W : Type 0} (taken : W → Option (List ℕ)) (failed : W → ℕ) (m between next : Moment)
    (old mid new : Buffered W) (partial now then piece rest last : List ℕ)
    → AnswersRecords (through Records (watch taken failed) old mid) (waiting m partial piece) (waiting between now rest)
    → AnswersRecords (through Records (watch taken failed) mid new) (waiting between now rest) (waiting next then last)
    → AnswersRecords (through Records (watch taken failed) old new) (waiting m partial piece) (waiting next then last)
records-then laws taken failed m between next old mid new partial now then piece rest last a b =
    let first : List ℕ = all_octets a.records in
    let second : List ℕ = all_octets b.records in
    let same : bssids_at between ≡ bssids_at m =
    laws.bssids m (records_ask (bssids_at m) a.records) a.answered.answers between a.answered.answered in
    record {
      records = a.records ++ b.records;
      each = All-append IsRecord a.records b.records a.each b.each;
      all =
          a.all ∙ ap (λ (l : List ℕ). first ++ l) b.all ∙ sym (append_assoc first second (then ++ last))
          ∙ ap (λ (l : List ℕ). l ++ (then ++ last)) (sym (flat_map-append (λ octets. octets) a.records b.records));
      is_partial = b.is_partial;
      answered =
          rw (map-append (record_asks (bssids_at m)) a.records b.records)
          (answered-then laws taken failed Records m between next (records_ask (bssids_at m) a.records)
          (records_ask (bssids_at m) b.records) old mid new a.answered (rw same at b.answered));
      few = omega (arith, a.few, b.few);
    }

-- nothing of the piece is left
pub records-all : {W : Type 0} (taken : W → Option (List ℕ)) (failed : W → ℕ) (m next : Moment) (old new : Buffered W)
    (partial now piece rest : List ℕ) → length rest ≡ 0 → AnswersRecords (through Records (watch taken failed) old new) (waiting m partial piece) (waiting next now rest)
    → AnswersRecords (through Records (watch taken failed) old new) (waiting m partial piece) (waiting next now [])
records-all taken failed m next old new partial now piece rest none a =
    rw (nil_from_length rest none) at a

-- What is said in an input that comes in pieces, in either face.
use Rattle.std.proofs.Common.{◌≡◌, ℕ, List, [], ◌++◌, refl, sym, ap, subst, ◌∙◌}
use Rattle.std.proofs.lemmas.List.{map-append}
use Rattle.live_rules.specs.Asked.{Asked, asked_by, asked_by_all}
use Rattle.live.specs.Inputs.{IsAllSaid, IsPartialIn, IsSaid, IsSaidIn, IsUnfinished, Saying, empty_partial, face_of, last_said, saying}
use Rattle.live_rules.specs.Records.{record_asks, records_ask, cut_record}
use Rattle.live_rules.specs.TextLines.{ended_lines, partial_in, lines_in, last_line}
use Rattle.live.specs.declared.partial_input.PartialInput.{PartialInput}
use Rattle.live.specs.declared.partial_input.PartialInput.TheVariants.{Line, Record}
use Rattle.live.specs.declared.face.Face.{Face}
use Rattle.live.specs.declared.face.Face.TheVariants.{Lines, Records}
use Rattle.live.proofs.Pieces.{InPieces, LastLine}

-- ---- the face in which it comes

pub empty-in : (face : Face) → IsPartialIn face (empty_partial face)
empty-in Lines = record { same = refl; unfinished = tt }
empty-in Records = record { same = refl; unfinished = tt }

-- more of it comes in the same face
pub more-in : (face : Face) (bssids : List (List ℕ)) (partial : PartialInput) (piece : List ℕ) (s : Saying)
    → IsPartialIn face partial → IsSaidIn bssids partial piece s → IsPartialIn face s.next
more-in face bssids (Line partial) piece s was h =
    record { same = ap face_of h.1 ∙ was.same; unfinished = subst IsUnfinished (sym h.1) tt }
more-in face bssids (Record partial) piece s was h =
    record { same = ap face_of h.next_is ∙ was.same; unfinished = subst IsUnfinished (sym h.next_is) h.are.rest }

-- ---- what is said

pub said-none : (face : Face) (bssids : List (List ℕ)) → IsSaidIn bssids (empty_partial face) [] (saying [] (empty_partial face))
said-none Lines bssids = (refl, refl)
said-none Records bssids = record {
  records = [];
  rest = [];
  are = record { all = refl; each = tt; rest = tt };
  ask = refl;
  next_is = refl;
}

pub said-more : InPieces → (face : Face) (bssids : List (List ℕ)) (input piece : List ℕ) (some more : List Asked) (mid next : PartialInput)
    → IsSaidIn bssids (empty_partial face) input (saying some mid) → IsSaidIn bssids mid piece (saying more next)
    → IsSaidIn bssids (empty_partial face) (input ++ piece) (saying (some ++ more) next)
said-more laws Lines bssids input piece some more mid next h k =
    let on = subst (λ (b : PartialInput). IsSaidIn bssids b piece (saying more next)) h.1 k in (
      ap (λ (s : List Asked). s ++ more) h.0
          ∙ ap (λ (s : List Asked). asked_by_all bssids (ended_lines input) ++ s) on.0
          ∙ sym (map-append (asked_by bssids) (ended_lines input) (lines_in (partial_in input) piece))
          ∙ sym (ap (asked_by_all bssids) (laws.ended input piece)),
      on.1 ∙ ap (λ p. Line p) (sym (laws.partial input piece)),
    )
said-more laws Records bssids input piece some more mid next h k =
    let on = subst (λ (b : PartialInput). IsSaidIn bssids b piece (saying more next)) h.next_is k in
    record {
      records = h.records ++ on.records;
      rest = on.rest;
      are = laws.records input piece h.records on.records h.rest on.rest h.are on.are;
      ask =
          ap (λ (s : List Asked). s ++ more) h.ask
          ∙ ap (λ (s : List Asked). records_ask bssids h.records ++ s) on.ask
          ∙ sym (map-append (record_asks bssids) h.records on.records);
      next_is = on.next_is;
    }

pub said-ended : (face : Face) (bssids : List (List ℕ)) (input : List ℕ) (said : List Asked) (partial : PartialInput)
    → IsSaidIn bssids (empty_partial face) input (saying said partial) → IsSaid face bssids input said
said-ended Lines bssids input said partial h = h.0
said-ended Records bssids input said partial h =
    record { records = h.records; rest = h.rest; are = h.are; ask = h.ask }

pub said-all : LastLine → (face : Face) (bssids : List (List ℕ)) (input : List ℕ) (said : List Asked) (partial : PartialInput)
    → IsSaidIn bssids (empty_partial face) input (saying said partial)
    → IsAllSaid face bssids input (said ++ last_said bssids partial)
said-all last Lines bssids input said partial h =
    ap (λ (b : PartialInput). said ++ last_said bssids b) h.1
    ∙ ap (λ (s : List Asked). s ++ asked_by_all bssids (last_line (partial_in input))) h.0
    ∙ sym (map-append (asked_by bssids) (ended_lines input) (last_line (partial_in input)))
    ∙ sym (ap (asked_by_all bssids) (last input))
said-all last Records bssids input said partial h = record {
  records = h.records;
  rest = h.rest;
  are = h.are;
  ask =
      ap (λ (b : PartialInput). said ++ last_said bssids b) h.next_is
      ∙ ap (λ (s : List Asked). s ++ cut_record h.rest) h.ask;
}

pub said-face : (face : Face) (bssids : List (List ℕ)) (input : List ℕ) (said : List Asked) (partial : PartialInput)
    → IsSaidIn bssids (empty_partial face) input (saying said partial) → face_of partial ≡ face
said-face Lines bssids input said partial h = ap face_of h.1
said-face Records bssids input said partial h = ap face_of h.next_is

-- The answers to what is said, and then to more.
use Rattle.std.proofs.Common.{◌≡◌, suc, ◌+◌, List, [], ◌∷◌, ◌++◌, length, Some, Ok}
use Rattle.std.proofs.Common.{refl, sym, ap, subst, ◌∙◌, arith}
use Rattle.live_rules.specs.Moments.{Moment, bssids_at}
use Rattle.live_rules.specs.Asked.{Asked, Says}
use Rattle.live_rules.specs.Answers.{Answer, Replies}
use Rattle.live_rules.specs.Answers.{after_answer, Answers, Begins, in_two}
use Rattle.live_rules.proofs.OwnLines.{bssids-answer}

pub begins : (m : Moment) (said more : List Asked) (answers : List Answer) (next : Moment)
    → Answers m (said ++ more) answers next → Begins m (in_two said more) answers next
begins m [] more answers next h = record {
  some = [];
  others = answers;
  between = m;
  all = refl;
  first = refl;
  later = h;
}
begins m (asked ∷ said) more [] next h = absurd h
begins m (asked ∷ said) more (answer ∷ answers) next h =
    let on = begins (after_answer m asked answer) said more answers next h.1 in
    record {
      some = answer ∷ on.some;
      others = on.others;
      between = on.between;
      all = ap (λ (rest : List Answer). answer ∷ rest) on.all;
      first = (h.0, on.first);
      later = on.later;
    }

join-both : (m between next : Moment) (said more : List Asked) (some others : List Answer)
    → Answers m said some between → Answers between more others next → Answers m (said ++ more) (some ++ others) next
join-both m between next [] more [] others h k = subst (λ (o : Moment). Answers o more others next) h k
join-both m between next [] more (answer ∷ some) others h k = absurd h
join-both m between next (asked ∷ said) more [] others h k = absurd h
join-both m between next (asked ∷ said) more (answer ∷ some) others h k =
    (h.0, join-both (after_answer m asked answer) between next said more some others h.1 k)

pub joins : (m : Moment) (said more : List Asked) (answers : List Answer) (next : Moment)
    → Begins m (in_two said more) answers next → Answers m (said ++ more) answers next
joins m said more answers next b =
    subst
    (λ (all : List Answer). Answers m (said ++ more) all next)
    (sym b.all)
    (join-both m b.between next said more b.some b.others b.first b.later)

-- ---- how many

lines-answer : (m : Moment) (asked : Asked) (answer : Answer) → (after_answer m asked answer).lines ≡ m.lines + 1
lines-answer m (Says (Ok (Some line))) (Replies rs) = refl
lines-answer m asked answer = refl

-- as many answers as there is said
pub length-answers : (m : Moment) (said : List Asked) (answers : List Answer) (next : Moment)
    → Answers m said answers next → length answers ≡ length said
length-answers m [] [] next h = refl
length-answers m [] (answer ∷ answers) next h = absurd h
length-answers m (asked ∷ said) [] next h = absurd h
length-answers m (asked ∷ said) (answer ∷ answers) next h =
    ap suc (length-answers (after_answer m asked answer) said answers next h.1)

pub lines-said : (m : Moment) (said : List Asked) (answers : List Answer) (next : Moment)
    → Answers m said answers next → next.lines ≡ m.lines + length said
lines-said m [] [] next h = let same : next.lines ≡ m.lines = ap (λ (o : Moment). o.lines) h in omega arith
lines-said m [] (answer ∷ answers) next h = absurd h
lines-said m (asked ∷ said) [] next h = absurd h
lines-said m (asked ∷ said) (answer ∷ answers) next h =
    omega (arith, lines-said (after_answer m asked answer) said answers next h.1, lines-answer m asked answer)

pub bssids-answers : (m : Moment) (said : List Asked) (answers : List Answer) (next : Moment)
    → Answers m said answers next → bssids_at next ≡ bssids_at m
bssids-answers m [] [] next h = ap bssids_at h
bssids-answers m [] (answer ∷ answers) next h = absurd h
bssids-answers m (asked ∷ said) [] next h = absurd h
bssids-answers m (asked ∷ said) (answer ∷ answers) next h =
    bssids-answers (after_answer m asked answer) said answers next h.1 ∙ bssids-answer m asked answer

-- What is written of answers, and then of others.
use Rattle.std.proofs.Common.{◌≡◌, ℕ, ◌+◌, List, [], ◌∷◌, ◌++◌, length, refl, sym, ap, arith, append_assoc}
use Rattle.live_rules.specs.Asked.{Asked}
use Rattle.live_rules.specs.Moments.{Moment, bssids_at}
use Rattle.live_rules.specs.Answers.{Answer, Answers}
use Rattle.live_rules.specs.MoreAnswers.{MoreAnswers}
use Rattle.live.specs.Written.{written_answer, written_answers, written_after}
use Rattle.live.specs.declared.face.Face.{Face}

texts-append : (face : Face) (bssids : List (List ℕ)) (number : ℕ) (some others : List Answer)
    → written_answers face bssids number (some ++ others)
    ≡ written_answers face bssids number some ++ written_answers face bssids (number + length some) others
texts-append face bssids number [] others =
    let same : number ≡ number + 0 = omega arith in ap (λ n. written_answers face bssids n others) same
texts-append face bssids number (answer ∷ some) others =
    let count : number + 1 + length some ≡ number + length (answer ∷ some) = omega arith in
    rw (texts-append face bssids (number + 1) some others, count)
    (sym
    (append_assoc (written_answer face bssids number answer) (written_answers face bssids (number + 1) some)
    (written_answers face bssids (number + length (answer ∷ some)) others)))

pub texts-join : MoreAnswers → (face : Face) (m between : Moment) (said : List Asked) (some others : List Answer)
    → Answers m said some between
    → written_after face m (some ++ others) ≡ written_after face m some ++ written_after face between others
texts-join laws face m between said some others h =
    let count : m.lines + 1 + length some ≡ between.lines + 1 =
    omega (arith, laws.lines m said some between h, laws.each m said some between h) in
    rw (texts-append face (bssids_at m) (m.lines + 1) some others, count, laws.bssids m said some between h) refl

-- the answers to what is said, and then to more
pub answers-join : MoreAnswers → (m between next : Moment) (said more : List Asked) (some others : List Answer)
    → Answers m said some between → Answers between more others next → Answers m (said ++ more) (some ++ others) next
answers-join laws m between next said more some others first later =
    laws.join m said more (some ++ others) next
    (record { some = some; others = others; between = between; all = refl; first = first; later = later })

-- The answers to what is said and then to more: what follows from their definition, as a law of this crate says it.
use Rattle.std.specs.Prelude.{◌≡◌, ◌+◌, List, ◌++◌, length}
use Rattle.live_rules.specs.Asked.{Asked}
use Rattle.live_rules.specs.Answers.{Answer, Answers, Begins, in_two}
use Rattle.live_rules.specs.Moments.{Moment, bssids_at}

-- The answers to all of it are those to the first, and then, from the moment that these lead to, those to the rest.
pub record MoreAnswers : Type 0 where
  pub begin :
      (m : Moment)
      (said more : List Asked)
      (answers : List Answer)
      (next : Moment)
      → Answers m (said ++ more) answers next
      → Begins m (in_two said more) answers next
  pub join :
      (m : Moment)
      (said more : List Asked)
      (answers : List Answer)
      (next : Moment)
      → Begins m (in_two said more) answers next
      → Answers m (said ++ more) answers next
  -- whatever is said has one answer, and counts as one line
  pub each :
      (m : Moment)
      (said : List Asked)
      (answers : List Answer)
      (next : Moment)
      → Answers m said answers next
      → length answers ≡ length said
  pub lines :
      (m : Moment)
      (said : List Asked)
      (answers : List Answer)
      (next : Moment)
      → Answers m said answers next
      → next.lines ≡ m.lines + length said
  -- no network gets another address
  pub bssids :
      (m : Moment)
      (said : List Asked)
      (answers : List Answer)
      (next : Moment)
      → Answers m said answers next
      → bssids_at next ≡ bssids_at m

-- From an empty queue on, a ticket goes for the first time at most as often as it came.
use Rattle.std.proofs.Common.{◌≡◌, ◌≤◌, ℕ, Bool, true, false, ◌&&◌, List, [], ◌∷◌, refl, inl, inr, arith}
use Rattle.downlink.specs.declared.answer.Answer.{Answer}
use Rattle.downlink.specs.Receiver.{new_queue}
use Rattle.downlink.specs.Calls.{Call, Comes, Turn, Told, Returns, GivesUp, Joins, Leaves, Dozes, Settles, Wakes, Polls}
use Rattle.downlink.specs.Calls.{answers}
use Rattle.downlink.specs.Laws.{one_if, count, brings, goes_first, tells, IsWithin, ticket_if, came_by, came, went}
use Rattle.downlink.specs.Laws.{IsNotMadeUp}
use Rattle.downlink.proofs.Counts.{count-append}
use Rattle.downlink.proofs.InOrder.{is_in_order}

within_counted : (p : ℕ → Bool) (xs ys : List ℕ) → IsWithin xs ys → count p xs ≤ count p ys
within_counted p xs [] e = rw e (omega arith)
within_counted p xs (y ∷ ys) (inl h) = omega (arith, within_counted p xs ys h)
within_counted p xs (y ∷ ys) (inr h) = rw h.1 (omega (arith, within_counted p h.0 ys h.2))

ticket_counted : (p : ℕ → Bool) (b : Bool) (ticket : ℕ) → count p (ticket_if b ticket) ≡ one_if (b && p ticket)
ticket_counted p true ticket = omega arith
ticket_counted p false ticket = refl

went_counted : (p : ℕ → Bool) (more : List Answer) → count p (went more) ≡ count (tells goes_first p) more
went_counted p [] = refl
went_counted p (a ∷ more) =
    omega (
      arith,
      count-append p (ticket_if (goes_first a.fate) a.frame.ticket) (went more),
      ticket_counted p (goes_first a.fate) a.frame.ticket,
      went_counted p more,
    )

one_counted : (p : ℕ → Bool) (call : Call) → count p (came_by call) ≡ one_if (brings p call)
one_counted p (Comes ticket is_unit until now) = omega arith
one_counted p (Turn now) = refl
one_counted p (Told ticket is_acknowledged) = refl
one_counted p Returns = refl
one_counted p GivesUp = refl
one_counted p Joins = refl
one_counted p Leaves = refl
one_counted p Dozes = refl
one_counted p Settles = refl
one_counted p Wakes = refl
one_counted p (Polls until) = refl

came_counted : (p : ℕ → Bool) (calls : List Call) → count p (came calls) ≡ count (brings p) calls
came_counted p [] = refl
came_counted p (call ∷ calls) =
    omega (arith, count-append p (came_by call) (came calls), one_counted p call, came_counted p calls)

pub is_not_made_up : IsNotMadeUp
is_not_made_up p most calls =
    omega (
      arith,
      within_counted p (went (answers (new_queue most) calls)) (came calls) (is_in_order most calls),
      went_counted p (answers (new_queue most) calls),
      came_counted p calls,
    )

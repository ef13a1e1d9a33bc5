-- What one network does about lines, among the others.
use Rattle.std.proofs.Common.{◌≡◌, ℕ, suc, zero, ◌+◌, List, [], ◌∷◌, ◌++◌, map, Option, Some, None, Ok, refl, sym, ap, ◌∙◌, arith, append_assoc, append-nil}
use Rattle.std.specs.Prelude.{slice_get, option_to_list}
use Rattle.std.specs.List.{slice_index_or}
use Rattle.network.specs.Network.{alone}
use Rattle.network.specs.NetworkView.{NetworkState}
use Rattle.events.specs.declared.event.Event.{Event}
use Rattle.events.specs.declared.line.Line.{Line}
use Rattle.ap_config.specs.declared.setting.Setting.{Setting}
use Rattle.live_rules.specs.Asked.{Asked, Says}
use Rattle.live_rules.specs.Answers.{Answer, Replies, MayReplyFrom, after_line_from, MayAnswer, after_answer, Answers}
use Rattle.live_rules.specs.Dispatch.{event_at}
use Rattle.live_rules.specs.Moments.{Moment, bssid_of, bssids_at, Reply, MayReplyIf, taken_if, after_if}
use Rattle.live_rules.specs.Own.{event_in, reply_in, events_taken, air_in, wire_in, air_at, wire_at, alone_after}
use Rattle.live_rules.proofs.OwnSteps.{AloneLaws, MayHaveReplied, RepliesAlone, replies-alone, setting-if, taken-none}

-- ---- one line, from a place on

-- the network replies to the event, if there is one, and that is what becomes of it
abbrev pub RepliesThere : NetworkState → Option Event → Option Reply → Option NetworkState → Type 0
RepliesThere n event reply next = MayReplyIf n event reply × (next ≡ Some (after_if n (taken_if event reply)))

pub at-place : (first k place : ℕ) (ns : List NetworkState) (line : Line) (rs : List (Option Reply)) (n : NetworkState)
    → place ≡ first + k → MayReplyFrom first ns line rs → slice_get ns k ≡ Some n
    → RepliesThere n (event_at place n line) (slice_index_or rs k None) (slice_get (after_line_from first ns line rs) k)
at-place first k place [] line rs n same h e = absurd (cc)
at-place first k place (m ∷ ns) line [] n same h e = absurd h
at-place first zero place (m ∷ ns) line (r ∷ rs) n same h e =
    let is : n ≡ m = cc in
    let here : place ≡ first = omega arith in
    rw (is, here) (h.0, refl)
at-place first (suc k) place (m ∷ ns) line (r ∷ rs) n same h e =
    at-place (first + 1) k place ns line rs n (omega arith) h.1 e

-- the addresses stay
bssids-line : (first : ℕ) (ns : List NetworkState) (line : Line) (rs : List (Option Reply))
    → map bssid_of (after_line_from first ns line rs) ≡ map bssid_of ns
bssids-line first [] line rs = refl
bssids-line first (n ∷ ns) line [] = refl
bssids-line first (n ∷ ns) line (r ∷ rs) =
    λ i. (setting-if n (taken_if (event_at first n line) r) i).network.bssid ∷ bssids-line (first + 1) ns line rs i

pub bssids-answer : (m : Moment) (asked : Asked) (answer : Answer) → bssids_at (after_answer m asked answer) ≡ bssids_at m
bssids-answer m (Says (Ok (Some line))) (Replies rs) = bssids-line 0 m.networks line rs
bssids-answer m asked answer = refl

-- ---- one answer

may-have : (n : NetworkState) (event : Option Event) (reply : Option Reply) → MayReplyIf n event reply
    → MayHaveReplied n event reply
may-have n event None h = tt
may-have n event (Some r) h = h

-- where the line was not read there is no reply
one-line : (place : ℕ) (m : Moment) (n : NetworkState) (asked : Asked) (answer : Answer) → MayAnswer m asked answer
    → slice_get m.networks place ≡ Some n
    → MayHaveReplied n (event_in place (bssid_of n) asked) (reply_in place answer)
    × (slice_get (after_answer m asked answer).networks place
    ≡ Some (after_if n (taken_if (event_in place (bssid_of n) asked) (reply_in place answer))))
one-line place m n (Says (Ok (Some line))) (Replies rs) h e =
    let one = at-place 0 place place m.networks line rs n (omega arith) h e in
    (may-have n (event_at place n line) (slice_index_or rs place None) one.0, one.1)
one-line place m n asked (Replies rs) h e = absurd (cc)
one-line place m n asked answer h e = (
  tt,
  e ∙ ap (λ (o : Option Event). Some (after_if n o)) (sym (taken-none (event_in place (bssid_of n) asked))),
)

-- ---- all that is said

-- a network that took these events goes on, alone with those that it takes of what is said
pub record OwnAlone (s : Setting) (place : ℕ) (es : List Event) (said : List Asked) (answers : List Answer)
    (next : Moment) : Type 0 where
  pub there : slice_get next.networks place ≡ Some (alone_after s (es ++ events_taken place s.network.bssid said answers))
  pub air : (alone s (es ++ events_taken place s.network.bssid said answers)).air
      ≡ (alone s es).air ++ air_at place answers
  pub wire : (alone s (es ++ events_taken place s.network.bssid said answers)).wire
      ≡ (alone s es).wire ++ wire_at place answers

-- what one of them leads to
pub record OneTaken (s : Setting) (place : ℕ) (m : Moment) (es : List Event) (asked : Asked) (answer : Answer) : Type 0
  where
    pub alone_there : RepliesAlone s es (event_in place s.network.bssid asked) (reply_in place answer)
    pub there : slice_get (after_answer m asked answer).networks place
        ≡ Some
        (alone_after s
        (es ++ option_to_list (taken_if (event_in place s.network.bssid asked) (reply_in place answer))))

pub one-taken : AloneLaws → (s : Setting) (place : ℕ) (m : Moment) (es : List Event) (asked : Asked) (answer : Answer)
    → MayAnswer m asked answer → slice_get m.networks place ≡ Some (alone_after s es) → OneTaken s place m es asked answer
one-taken laws s place m es asked answer h e =
    let one = one-line place m (alone_after s es) asked answer h e in
    let on = replies-alone laws s es (event_in place s.network.bssid asked) (reply_in place answer) one.0 in
    record { alone_there = on; there = one.1 ∙ ap (λ (n : NetworkState). Some n) on.after }

pub own : AloneLaws → (s : Setting) (place : ℕ) (m : Moment) (es : List Event) (said : List Asked)
    (answers : List Answer) (next : Moment) → Answers m said answers next
    → slice_get m.networks place ≡ Some (alone_after s es) → OwnAlone s place es said answers next
own laws s place m es [] [] next h e = record {
  there = rw (h, append-nil es) e;
  air = rw (append-nil es) (sym (append-nil (alone s es).air));
  wire = rw (append-nil es) (sym (append-nil (alone s es).wire));
}
own laws s place m es [] (answer ∷ answers) next h e = absurd h
own laws s place m es (asked ∷ said) [] next h e = absurd h
own laws s place m es (asked ∷ said) (answer ∷ answers) next h e =
    let one = one-taken laws s place m es asked answer h.0 e in
    let reply : Option Reply = reply_in place answer in
    let some : List Event = option_to_list (taken_if (event_in place s.network.bssid asked) reply) in
    let on = own laws s place (after_answer m asked answer) (es ++ some) said answers next h.1 one.there in
    let all : (es ++ some) ++ events_taken place s.network.bssid said answers
    ≡ es ++ (some ++ events_taken place s.network.bssid said answers) =
    append_assoc es some (events_taken place s.network.bssid said answers) in
    record {
      there = on.there ∙ ap (λ (xs : List Event). Some (alone_after s xs)) all;
      air =
          rw (← all, on.air, one.alone_there.air) (append_assoc (alone s es).air (air_in reply) (air_at place answers));
      wire =
          rw (← all, on.wire, one.alone_there.wire) (append_assoc (alone s es).wire (wire_in reply) (wire_at place answers));
    }

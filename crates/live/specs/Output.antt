-- What is put into the output about what is said, and what becomes of the networks meanwhile.
use Rattle.std.specs.Prelude.{◌≡◌, ℕ, ◌+◌, ◌^◌, ◌<◌, ◌≤◌, List, ◌++◌, Option, Some, length, map}
use Rattle.std.specs.List.{AllByRecursion}
use Rattle.network.specs.NetworkView.{NetworkState}
use Rattle.events.specs.declared.event.Event.{Event}
use Rattle.events.specs.declared.line.Line.{Line}
use Rattle.text_io.specs.Buffers.{CanWrite, Puts, Watch, watch}
use Rattle.text_io.specs.declared.buffer.Buffered.{Buffered}
use Rattle.networks.specs.Takes.{Change}
use Rattle.live_rules.specs.Answers.{Answer, Answers, MayReplyFrom, after_line_from}
use Rattle.live_rules.specs.Moments.{Moment, Reply, MayReply, taken_if, after_if, bssid_of, bssids_at}
use Rattle.live_rules.specs.Asked.{Asked, asked_in}
use Rattle.live.specs.Inputs.{IsSaidIn, saying}
use Rattle.live.specs.LiveView.{Reached}
use Rattle.live_rules.specs.TextLines.{TextLine, lines_in, partial_after}
use Rattle.live_rules.specs.Records.{IsPartialRecord, IsRecord, all_octets, records_ask}
use Rattle.live.specs.Written.{written_reply, written_replies, written_after}
use Rattle.live.specs.declared.face.Face.{Face}
use Rattle.live.specs.declared.face.Face.TheVariants.{Lines}

-- ---- a call that puts what it answers

-- the face in which a call answers, and the buffer, before it and after it, through which its answers go to a sink
pub record Through (W : Type 0) : Type 0 where
  pub face : Face
  pub sink : Watch W
  pub old : Buffered W
  pub new : Buffered W

-- in this face, through a buffer that was the first and is the second
abbrev pub through : {W : Type 0} → Face → Watch W → Buffered W → Buffered W → Through W
through face sink old new = record { face = face; sink = sink; old = old; new = new }

-- the call puts this
abbrev pub PutsThrough : {W : Type 0} → Through W → List ℕ → Type 0
PutsThrough o text = Puts o.sink o.old o.new text

-- ---- one line or record

-- A network took the event of the line or record of a number or refused it, and its reply was put.
pub record HasReplied {W : Type 0} (o : Through W) (number : ℕ) (e : Event) (network : Change NetworkState) : Type 0 where
  pub reply : Reply
  pub may : MayReply network.old e reply
  pub after : network.new ≡ after_if network.old (taken_if (Some e) (Some reply))
  pub puts : PutsThrough o (written_reply o.face number (bssid_of network.old) reply)

-- Each network to which it is an event did so, and the replies were put in order of place.
pub record HaveReplied {W : Type 0} (o : Through W) (number : ℕ) (said : Line) (networks : Change (List NetworkState)) : Type 0 where
  pub replies : List (Option Reply)
  pub may : MayReplyFrom 0 networks.old said replies
  pub after : networks.new ≡ after_line_from 0 networks.old said replies
  pub puts : PutsThrough o (written_replies o.face number (map bssid_of networks.old) replies)

-- ---- all that is said

-- This was answered, from one moment to another, and the answers were put.
pub record AreAnswered {W : Type 0} (o : Through W) (m next : Moment) (said : List Asked) : Type 0 where
  pub answers : List Answer
  pub answered : Answers m said answers next
  pub puts : PutsThrough o (written_after o.face m answers)

-- What is said by a partial line or record and a piece was answered.
pub record AnswersPiece {W : Type 0} (o : Through W) (old new : Reached) (piece : List ℕ) : Type 0 where
  pub said : List Asked
  pub is_said : IsSaidIn (bssids_at old.moment) old.partial piece (saying said new.partial)
  pub answered : AreAnswered o old.moment new.moment said

-- the moment after the records that have ended, the partial record after them, and the rest of a piece
pub record Waiting : Type 0 where
  pub moment : Moment
  pub partial : List ℕ
  pub rest : List ℕ

-- at this moment, with this partial record, where so much of a piece is left
abbrev pub waiting : Moment → List ℕ → List ℕ → Waiting
waiting moment partial rest = record { moment = moment; partial = partial; rest = rest }

-- A partial record and the rest of a piece were answered as far as they are records, and the others are left.
pub record AnswersRecords {W : Type 0} (o : Through W) (old new : Waiting) : Type 0 where
  pub records : List (List ℕ)
  pub each : AllByRecursion IsRecord records
  pub all : old.partial ++ old.rest ≡ all_octets records ++ (new.partial ++ new.rest)
  pub is_partial : IsPartialRecord new.partial
  pub answered : AreAnswered o old.moment new.moment (records_ask (bssids_at old.moment) records)
  pub few : new.moment.lines + length new.rest ≤ old.moment.lines + length old.rest

-- Of the lines that end in a piece some were answered, and the others end in this rest of it, which this partial line
-- begins. Fewer than 2^62 lines can have ended.
pub record LinesRemain {W : Type 0} (taken : W → Option (List ℕ)) (failed : W → ℕ) (m now : Moment) (old new : Buffered W)
    (partial partial' : TextLine) (piece rest : List ℕ) : Type 0 where
  pub lines : List TextLine
  pub answered : AreAnswered (through Lines (watch taken failed) old new) m now (asked_in m lines)
  pub all : lines_in partial piece ≡ lines ++ lines_in partial' rest
  pub next : partial_after partial piece ≡ partial_after partial' rest
  pub few : now.lines + length rest ≤ m.lines + length piece
  pub countable : m.lines + length piece < 2 ^ 62
  pub can_write : CanWrite failed new

-- The lines that end in a piece were answered, and this partial line comes after them.
pub record AnswersLines {W : Type 0} (taken : W → Option (List ℕ)) (failed : W → ℕ) (m now : Moment) (old new : Buffered W)
    (partial partial' : TextLine) (piece : List ℕ) : Type 0 where
  pub answered : AreAnswered (through Lines (watch taken failed) old new) m now (asked_in m (lines_in partial piece))
  pub next : partial' ≡ partial_after partial piece
  pub few : now.lines ≤ m.lines + length piece

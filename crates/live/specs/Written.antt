-- What is written of answers, in either face.
use Rattle.std.specs.Prelude.{ℕ, ◌+◌, List, [], ◌∷◌, ◌++◌, codes, decimal, Option, Some, None}
use Rattle.network.specs.NetworkView.{NetworkState}
use Rattle.report.specs.Report.{count_line}
use Rattle.text_io.specs.Texts.{ended}
use Rattle.trace.specs.TraceText.{code_of}
use Rattle.live.specs.AnswerOctets.{count_record, record_fault, reply_octets, tables_octets, told}
use Rattle.live_rules.specs.AnswerText.{fault_words, reply_text, tables_text}
use Rattle.live_rules.specs.Answers.{Answer, Nothing, Replies, Tables, Faulty, answers_of}
use Rattle.live_rules.specs.Asked.{asked_in}
use Rattle.live_rules.specs.Moments.{Moment, bssids_at, Reply}
use Rattle.live_rules.specs.TextLines.{TextLine}
use Rattle.live.specs.declared.face.Face.{Face}
use Rattle.live.specs.declared.face.Face.TheVariants.{Lines, Records}

-- ---- by face

-- how many networks are open
abbrev pub written_count : Face → ℕ → List ℕ
written_count Lines count = count_line count
written_count Records count = count_record count

-- a fault of the line or the record of this number
abbrev pub written_fault : Face → List ℕ → ℕ → List ℕ
written_fault Lines fault number = ended (fault_words fault number)
written_fault Records fault number = told (ended (record_fault fault number))

-- what one network replies to it
abbrev pub written_reply : Face → ℕ → List ℕ → Reply → List ℕ
written_reply Lines number bssid reply = reply_text number bssid reply
written_reply Records number bssid reply = reply_octets number bssid reply

-- what the report says of each network, but for its frames
abbrev pub written_tables : Face → List NetworkState → List ℕ
written_tables Lines networks = tables_text networks
written_tables Records networks = tables_octets networks

-- ---- replies

-- nothing, where it was no event to the network
abbrev pub written_reply_if : Face → ℕ → List ℕ → Option Reply → List ℕ
written_reply_if face number bssid None = []
written_reply_if face number bssid (Some reply) = written_reply face number bssid reply

-- of all networks with these addresses, in order of place
abbrev pub written_replies : Face → ℕ → List (List ℕ) → List (Option Reply) → List ℕ
written_replies face number (bssid ∷ bssids) (reply ∷ replies) =
    written_reply_if face number bssid reply ++ written_replies face number bssids replies
written_replies face number bssids replies = []

-- ---- answers

-- the answer to the line or the record of this number
abbrev pub written_answer : Face → List (List ℕ) → ℕ → Answer → List ℕ
written_answer face bssids number Nothing = []
written_answer face bssids number (Replies replies) = written_replies face number bssids replies
written_answer face bssids number (Tables networks) = written_tables face networks
written_answer face bssids number (Faulty fault) = written_fault face (codes "L" ++ decimal (code_of fault)) number

-- the answers to those from this number on
abbrev pub written_answers : Face → List (List ℕ) → ℕ → List Answer → List ℕ
written_answers face bssids number [] = []
written_answers face bssids number (answer ∷ answers) =
    written_answer face bssids number answer ++ written_answers face bssids (number + 1) answers

-- at a moment
abbrev pub written_after : Face → Moment → List Answer → List ℕ
written_after face m answers = written_answers face (bssids_at m) (m.lines + 1) answers

-- ---- in the face of lines

-- the text of the answers after a moment
abbrev pub text_after : Moment → List Answer → List ℕ
text_after m answers = written_after Lines m answers

-- the text of the answers to lines where memory suffices for all of them
abbrev pub live_text : Moment → List TextLine → List ℕ
live_text m lines = text_after m (answers_of m (asked_in m lines))

-- ---- in the face of records

-- the octets of the answers after a moment
abbrev pub octets_after : Moment → List Answer → List ℕ
octets_after m answers = written_after Records m answers

-- What is said is answered, one after the other.
use Rattle.std.proofs.Common.{◌≡◌, ℕ, ◌+◌, ◌≤◌, ◌<◌, ◌^◌, List, [], ◌∷◌, ◌++◌, Option, Some, None, Ok, map, refl, sym, ap, subst, ◌∙◌, arith, append-nil}
use Rattle.std.specs.List.{AllByRecursion}
use Rattle.network.specs.NetworkView.{NetworkState, new_network}
use Rattle.ap_config.specs.declared.config.NetConfig.{NetConfig}
use Rattle.ap_config.specs.declared.config.RadioConfig.{RadioConfig}
use Rattle.events.specs.LentEvents.{line_of}
use Rattle.events.specs.declared.event.Event.{Event}
use Rattle.events.specs.declared.line.Line.{Line}
use Rattle.text_io.specs.Buffers.{CanWrite, Puts, watch}
use Rattle.trace.specs.declared.fault.LineFault.{LineFault}
use Rattle.text_io.specs.declared.buffer.Buffered.{Buffered}
use Rattle.text_io.specs.BufferLaws.{Puts-then, Puts-nothing, Puts-same}
use Rattle.live_rules.specs.Asked.{Asked, ForTables, Says, brings, has_fault}
use Rattle.live_rules.specs.Answers.{Answer, MayAnswer, after_line_from, after_answer, Answers, Faulty, MayReplyFrom, Replies}
use Rattle.live_rules.specs.Dispatch.{event_at}
use Rattle.live_rules.specs.MoreAnswers.{MoreAnswers}
use Rattle.live_rules.specs.Moments.{Moment, bssid_of, bssids_at, Reply, taken_if, after_if}
use Rattle.live.specs.LiveNetworks.{IsMoment}
use Rattle.live.specs.Output.{AreAnswered, through}
use Rattle.live.specs.Readings.{IsReading}
use Rattle.live.specs.Written.{written_answer}
use Rattle.live.specs.declared.reading.Reading.{Reading}
use Rattle.live.specs.declared.reading.Reading.TheVariants as reading
use Rattle.live.specs.declared.face.Face.{Face}
use Rattle.live.proofs.MoreWritten.{answers-join, texts-join}

-- ---- one after the other

pub answered-one : {W : Type 0} (taken : W → Option (List ℕ)) (failed : W → ℕ) (face : Face) (m next : Moment) (said asked : Asked)
    (answer : Answer) (old new : Buffered W) → said ≡ asked → MayAnswer m asked answer
    → next ≡ after_answer m asked answer
    → Puts (watch taken failed) old new (written_answer face (bssids_at m) (m.lines + 1) answer)
    → AreAnswered (through face (watch taken failed) old new) m next (said ∷ [])
answered-one taken failed face m next said asked answer old new is may after puts = record {
  answers = answer ∷ [];
  answered =
      rw is (may, after);
  puts = Puts-same (sym (append-nil (written_answer face (bssids_at m) (m.lines + 1) answer))) puts;
}

-- ---- several

pub answered-none : {W : Type 0} (taken : W → Option (List ℕ)) (failed : W → ℕ) (face : Face) (m : Moment) (w : Buffered W)
    → CanWrite failed w → AreAnswered (through face (watch taken failed) w w) m m []
answered-none taken failed face m w can = record { answers = []; answered = refl; puts = Puts-nothing w can }

pub answered-then : MoreAnswers → {W : Type 0} (taken : W → Option (List ℕ)) (failed : W → ℕ) (face : Face) (m between next : Moment)
    (said more : List Asked) (old mid new : Buffered W)
    → AreAnswered (through face (watch taken failed) old mid) m between said → AreAnswered (through face (watch taken failed) mid new) between next more
    → AreAnswered (through face (watch taken failed) old new) m next (said ++ more)
answered-then laws taken failed face m between next said more old mid new a b = record {
  answers = a.answers ++ b.answers;
  answered =
      answers-join laws m between next said more a.answers b.answers a.answered b.answered;
  puts = Puts-same (sym (texts-join laws face m between said a.answers b.answers a.answered)) (Puts-then a.puts b.puts);
}

-- ---- what holds between two lines

-- an event more at most
events-few : (n : NetworkState) (event : Option Event) (most : ℕ) → n.events ≤ most
    → (after_if n event).events ≤ most + 1
events-few n None most few = omega arith
events-few n (Some e) most few = omega arith

abbrev AreFew : ℕ → List NetworkState → Type 0
AreFew most ns = AllByRecursion (λ n. n.events ≤ most) ns

few-more : (ns : List NetworkState) (some most : ℕ) → some ≤ most → AreFew some ns → AreFew most ns
few-more [] some most le few = tt
few-more (n ∷ ns) some most le few = (omega (arith, few.0), few-more ns some most le few.1)

few-line : (place most : ℕ) (ns : List NetworkState) (said : Line) (rs : List (Option Reply)) → AreFew most ns
    → AreFew (most + 1) (after_line_from place ns said rs)
few-line place most [] said rs few = tt
few-line place most (n ∷ ns) said [] few = few-more (n ∷ ns) most (most + 1) (omega arith) few
few-line place most (n ∷ ns) said (r ∷ rs) few =
    (events-few n (taken_if (event_at place n said) r) most few.0, few-line (place + 1) most ns said rs few.1)

few-answer : (m : Moment) (asked : Asked) (answer : Answer) → AreFew m.lines m.networks
    → AreFew (after_answer m asked answer).lines (after_answer m asked answer).networks
few-answer m (Says (Ok (Some said))) (Replies rs) few = few-line 0 m.lines m.networks said rs few
few-answer m asked answer few = few-more m.networks m.lines (m.lines + 1) (omega arith) few

few-answers : (m : Moment) (said : List Asked) (answers : List Answer) (next : Moment)
    → Answers m said answers next → AreFew m.lines m.networks → AreFew next.lines next.networks
few-answers m [] [] next h few = rw h few
few-answers m [] (answer ∷ answers) next h few = absurd h
few-answers m (asked ∷ said) [] next h few = absurd h
few-answers m (asked ∷ said) (answer ∷ answers) next h few =
    few-answers (after_answer m asked answer) said answers next h.1 (few-answer m asked answer few)

pub moment-answered : {W : Type 0} (taken : W → Option (List ℕ)) (failed : W → ℕ) (face : Face) (m next : Moment)
    (said : List Asked) (old new : Buffered W) → IsMoment m
    → AreAnswered (through face (watch taken failed) old new) m next said → IsMoment next
moment-answered taken failed face m next said old new h a = few-answers m said a.answers next a.answered h

-- each network may take an event more
pub countable : (ns : List NetworkState) (most : ℕ) → most < 2 ^ 62 → AllByRecursion (λ n. n.events ≤ most) ns
    → AllByRecursion (λ n. n.events < 2 ^ 62) ns
countable [] most le few = tt
countable (n ∷ ns) most le few = (omega (arith, few.0), countable ns most le few.1)

-- a network that took no event
abbrev opened : (channel interval : ℕ) → NetConfig → NetworkState
opened channel interval n = new_network (record { channel = channel; interval = interval; network = n })

few-first : (channel interval : ℕ) (ns : List NetConfig) → AreFew 0 (map (opened channel interval) ns)
few-first channel interval [] = tt
few-first channel interval (n ∷ ns) = (omega arith, few-first channel interval ns)

pub moment-first : (c : RadioConfig) (ns : List NetworkState) → ns ≡ map (opened c.channel c.interval) c.networks
    → IsMoment (record { lines = 0; networks = ns })
moment-first c ns made = subst (AreFew 0) (sym made) (few-first c.channel c.interval c.networks)

-- ---- what was read, by what was said

abbrev pub at : ℕ → List NetworkState → Moment
at lines ns = record { lines = lines; networks = ns }

pub answered-reading : {W : Type 0} (taken : W → Option (List ℕ)) (failed : W → ℕ) (face : Face) (lines number : ℕ)
    (ns next : List NetworkState) (said asked : Asked) (answer : Answer) (old new : Buffered W)
    → number ≡ lines + 1 → said ≡ asked → MayAnswer (at lines ns) asked answer
    → at (lines + 1) next ≡ after_answer (at lines ns) asked answer
    → Puts (watch taken failed) old new (written_answer face (map bssid_of ns) number answer)
    → AreAnswered (through face (watch taken failed) old new) (at lines ns) (at number next) (said ∷ [])
answered-reading taken failed face lines number ns next said asked answer old new count is may after puts =
    answered-one taken failed face (at lines ns) (at number next) said asked answer old new is may
    (ap (λ (k : ℕ). at k next) count ∙ after)
    (Puts-same (ap (λ (k : ℕ). written_answer face (map bssid_of ns) k answer) count) puts)

pub answered-fault : {W : Type 0} (taken : W → Option (List ℕ)) (failed : W → ℕ) (face : Face) (lines number : ℕ)
    (ns : List NetworkState) (said : Asked) (fault : LineFault) (old new : Buffered W) → number ≡ lines + 1
    → said ≡ has_fault fault
    → Puts (watch taken failed) old new (written_answer face (map bssid_of ns) number (Faulty fault))
    → AreAnswered (through face (watch taken failed) old new) (at lines ns) (at number ns) (said ∷ [])
answered-fault taken failed face lines number ns said fault old new count is puts =
    answered-reading taken failed face lines number ns ns said (has_fault fault) (Faulty fault) old new count is refl refl puts

-- a line or a record that the networks replied to
pub answered-line : {W : Type 0} (taken : W → Option (List ℕ)) (failed : W → ℕ) (face : Face) (lines number : ℕ)
    (ns next : List NetworkState) (said : Asked) (line : Line) (replies : List (Option Reply)) (old new : Buffered W)
    → number ≡ lines + 1 → said ≡ brings line
    → MayReplyFrom 0 ns line replies → next ≡ after_line_from 0 ns line replies
    → Puts (watch taken failed) old new (written_answer face (map bssid_of ns) number (Replies replies))
    → AreAnswered (through face (watch taken failed) old new) (at lines ns) (at number next) (said ∷ [])
answered-line taken failed face lines number ns next said line replies old new count is may after puts =
    answered-reading taken failed face lines number ns next said (brings line) (Replies replies) old new count is may
    (ap (λ (ms : List NetworkState). at (lines + 1) ms) after) puts

-- something is said that was read so
said-for : (reading : Reading) → (said : Asked) × IsReading reading said
said-for reading.Nothing = (Says (Ok None), refl)
said-for (reading.Line lent) = (brings (line_of lent), refl)
said-for reading.Tables = (ForTables, refl)
said-for (reading.Fault fault) = (has_fault fault, refl)

pub moment-reading : {W : Type 0} (taken : W → Option (List ℕ)) (failed : W → ℕ) (face : Face) (reading : Reading)
    (m next : Moment) (old new : Buffered W) → IsMoment m
    → ((said : Asked) → IsReading reading said → AreAnswered (through face (watch taken failed) old new) m next (said ∷ []))
    → IsMoment next
moment-reading taken failed face reading m next old new h all =
    let some = said-for reading in
    moment-answered taken failed face m next (some.0 ∷ []) old new h (all some.0 some.1)

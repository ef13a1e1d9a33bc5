-- The lines of a trace, answered as its report tells them.
use Rattle.std.proofs.Common.{◌≡◌, ℕ, zero, suc, ◌+◌, ◌*◌, ◌<◌, ◌≤◌, Bool, true, false, List, [], ◌∷◌, ◌++◌, length, map, Option, Some, None, Result, Ok, Err, refl, sym, ap, ◌∙◌, arith, append-nil, length-append}
use Rattle.std.specs.Prelude.{slice_get, nat_lt, codes, flat_map, IfSome, if◌then◌else◌}
use Rattle.std.specs.List.{slice_index_or, AllByRecursion}
use Rattle.std.specs.Option.{option_to_list}
use Rattle.std.specs.Str.Lines.{lines}
use Rattle.std.proofs.lemmas.Bool.{ltb-true, eqb-true}
use Rattle.std.proofs.lemmas.List.{take_all}
use Rattle.std.proofs.lemmas.List.Concat.{flat_map-append}
use Rattle.std.proofs.lemmas.List.FromFn.{get_or-map-range_with_len, length-map-range_with_len}
use Rattle.std.proofs.lemmas.Option.{slice_get-get_or}
use Rattle.std.proofs.lemmas.Slice.Eq.{bytes_eq-Decides}
use Rattle.ap_config.specs.Configuration.{fault_of, network_fault}
use Rattle.events.specs.Lines.{heard_of, heard, own_events}
use Rattle.network.specs.Section.{sections_of_lines, section_of}
use Rattle.network.specs.Network.{alone}
use Rattle.network.specs.NetworkView.{NetworkState}
use Rattle.ap_config.specs.Places.{network_at, setting_at, no_network}
use Rattle.network.specs.Sound.{IsSoundNetwork}
use Rattle.ap_config.specs.declared.config.NetConfig.{NetConfig}
use Rattle.ap_config.specs.declared.config.RadioConfig.{RadioConfig}
use Rattle.events.specs.declared.event.Event.{Event}
use Rattle.events.specs.declared.event.Event.TheVariants as event
use Rattle.events.specs.declared.line.Line.{Line}
use Rattle.network.specs.declared.network.NetworkRefusal.TheVariants.{NoMemory, Clock}
use Rattle.events.specs.declared.section.Section.{Section}
use Rattle.ap_config.specs.declared.setting.Setting.{Setting}
use Rattle.text_io.specs.Faults.{◌>>=◌}
use Rattle.trace.specs.TraceText.{max_lines, without_spaces_at_end, content_of, said_by, line_of, lines_from, at_line, bssids_of}
use Rattle.trace.specs.declared.fault.LineFault.{LineFault}
use Rattle.trace.specs.declared.fault.LineFault.TheVariants.{UnknownKind, TooMany}
use Rattle.trace.specs.declared.fault.TraceFault.{TraceFault}
use Rattle.live_rules.specs.Asked.{Asked, ForTables, Says, asks_for_tables, asked_by, asked_by_all, asked_in}
use Rattle.live_rules.specs.Answers.{Answer, Replies, MayAnswer, after_answer, Answers, HasMemory, IsUnrefused, AreUnrefused}
use Rattle.live_rules.specs.Moments.{Moment, first_moment, bssid_of, Reply, Sends, Refuses, is_past_clock, sending, MayReplyIf, taken_if}
use Rattle.live_rules.specs.Own.{event_in, reply_in, events_taken, events_at, alone_after, course, line_said, AreLines, IsTrace, IsLikeTrace, IsShown, IsAlone}
use Rattle.live_rules.specs.TextLines.{max_line, line_with, lines_of_text}
use Rattle.live_rules.proofs.OwnSteps.{AloneLaws, alone_after-none}
use Rattle.live_rules.proofs.OwnLines.{at-place, one-taken}
use Rattle.live_rules.proofs.IsolationLaws.{bssids-first, network-first, is-alone}

-- ---- which lines were read

-- `I` is no line of a trace
tables-fault : (bssids : List (List ℕ)) (octets : List ℕ) → asks_for_tables octets ≡ true
    → said_by bssids octets ≡ Err UnknownKind
tables-fault bssids octets is =
    ap (content_of bssids) ((bytes_eq-Decides (without_spaces_at_end octets) (codes "I")).0 is)

not-over : (number : ℕ) (r : Result (Option Line) LineFault) (said : Option Line) (over : Bool)
    → at_line number (if over then Err TooMany else r) ≡ Ok said → r ≡ Ok said
not-over number r said true e = absurd (cc)
not-over number (Ok x) said false e = cc
not-over number (Err f) said false e = absurd (cc)

-- what a line of a trace asks
asked-line : (bssids : List (List ℕ)) (octets : List ℕ) (said : Option Line) → length octets ≤ max_line
    → said_by bssids octets ≡ Ok said → asked_by bssids (line_with octets) ≡ Says (Ok said)
asked-line bssids octets said short e = by (nat_lt max_line (length octets)) refl (asks_for_tables octets) refl
  where
    by : (over : Bool) → nat_lt max_line (length octets) ≡ over → (tables : Bool) → asks_for_tables octets ≡ tables
        → asked_by bssids (line_with octets) ≡ Says (Ok said)
    by true is tables are =
        let many : max_line < length octets = ltb-true max_line (length octets) is in absurd (omega arith)
    by false is true are = absurd (let fault = tables-fault bssids octets are in cc)
    by false is false are = rw (is, are, e) refl

-- what one line says, and what the others say
record SaysBoth (one : Result (Option Line) TraceFault) (others : Result (List Line) TraceFault) (all : List Line) : Type 0
  where
    said : Option Line
    later : List Line
    one_is : one ≡ Ok said
    rest : others ≡ Ok later
    both : option_to_list said ++ later ≡ all

says-both : (one : Result (Option Line) TraceFault) (others : Result (List Line) TraceFault) (all : List Line)
    → (one >>= λ o. others >>= λ later. Ok (option_to_list o ++ later)) ≡ Ok all → SaysBoth one others all
says-both (Err f) others all e = absurd (cc)
says-both (Ok said) (Err f) all e = absurd (cc)
says-both (Ok said) (Ok later) all e = record { said = said; later = later; one_is = refl; rest = refl; both = cc }

-- ---- no event was refused

memory-at : (place : ℕ) (rs : List (Option Reply)) → AllByRecursion (λ reply. IfSome reply HasMemory) rs
    → IfSome (slice_index_or rs place None) HasMemory
memory-at place [] h = tt
memory-at zero (r ∷ rs) h = h.0
memory-at (suc place) (r ∷ rs) h = memory-at place rs h.1

memory-in : (place : ℕ) (answer : Answer) → IsUnrefused answer → IfSome (reply_in place answer) HasMemory
memory-in place (Replies rs) h = memory-at place rs h
memory-in place answer h = tt

abbrev pub Reachable : Type 0
Reachable =
    (s : Setting) (es : List Event) → network_fault s.network ≡ None
    → IsSoundNetwork s (length es) (2 * length es) (alone s es)

clock-only : (past : Bool) (air wire : List (List ℕ)) → Refuses Clock ≡ (if past then Refuses Clock else Sends air wire)
    → past ≡ true
clock-only true air wire e = refl
clock-only false air wire e = cc

-- a clock that has counted fewer events than it can is never full
no-clock : Reachable → (s : Setting) (es : List Event) (e : Event) → network_fault s.network ≡ None
    → length es < 4294967295 → is_past_clock (alone_after s es) e ≡ true → ⊥
no-clock reach s es (event.Air x) sound few h = cc
no-clock reach s es (event.Wire y) sound few h = cc
no-clock reach s es event.Tick sound few h =
    let full : (alone s es).clock ≡ 4294967295 = eqb-true (alone s es).clock 4294967295 h in
    omega (arith, full, (reach s es sound).clock)

-- the network takes the event
taken-one : Reachable → (s : Setting) (es : List Event) (event : Option Event) (reply : Option Reply)
    → network_fault s.network ≡ None → length es < 4294967295 → MayReplyIf (alone_after s es) event reply
    → IfSome reply HasMemory → taken_if event reply ≡ event
taken-one reach s es None reply sound few h k = refl
taken-one reach s es (Some e) None sound few h k = absurd h
taken-one reach s es (Some e) (Some (Refuses NoMemory)) sound few h k = absurd k
taken-one reach s es (Some e) (Some (Refuses Clock)) sound few h k =
    absurd
    (no-clock reach s es e sound few
    (clock-only (is_past_clock (alone_after s es) e) (sending (alone_after s es) e).air (sending (alone_after s es) e).wire h))
taken-one reach s es (Some e) (Some (Sends air wire)) sound few h k = refl

-- a line that was said has a reply
reply-read : (place : ℕ) (m : Moment) (n : NetworkState) (asked : Asked) (said : Option Line) (answer : Answer)
    → line_said asked ≡ Some said → MayAnswer m asked answer → IsUnrefused answer → slice_get m.networks place ≡ Some n
    → MayReplyIf n (event_in place (bssid_of n) asked) (reply_in place answer)
reply-read place m n ForTables said answer is h k e = absurd (cc)
reply-read place m n (Says (Err f)) said answer is h k e = absurd (cc)
reply-read place m n (Says (Ok None)) said (Replies rs) is h k e = absurd (cc)
reply-read place m n (Says (Ok None)) said answer is h k e = refl
reply-read place m n (Says (Ok (Some line))) said (Replies rs) is h k e =
    (at-place 0 place place m.networks line rs n (omega arith) h e).0
reply-read place m n (Says (Ok (Some line))) said answer is h k e = absurd (cc)

event-said : (place : ℕ) (bssid : List ℕ) (asked : Asked) (said : Option Line) → line_said asked ≡ Some said
    → option_to_list (event_in place bssid asked) ≡ heard place bssid (option_to_list said)
event-said place bssid ForTables said is = absurd (cc)
event-said place bssid (Says (Err f)) said is = absurd (cc)
event-said place bssid (Says (Ok None)) said is =
    let same : None ≡ said = cc in ap (λ (o : Option Line). heard place bssid (option_to_list o)) same
event-said place bssid (Says (Ok (Some line))) said is =
    let same : Some line ≡ said = cc in
    sym (append-nil (heard_of place bssid line)) ∙ ap (λ (o : Option Line). heard place bssid (option_to_list o)) same

-- the events that the network takes of the lines are those that it hears of them
taken-all : AloneLaws → Reachable → (s : Setting) (place : ℕ) (m : Moment) (es : List Event) (said : List Asked)
    (each : List (Option Line)) (answers : List Answer) (next : Moment) → network_fault s.network ≡ None
    → length es + length (heard place s.network.bssid (flat_map option_to_list each)) < 4294967295
    → slice_get m.networks place ≡ Some (alone_after s es) → map line_said said ≡ map Some each
    → Answers m said answers next → AreUnrefused answers
    → events_taken place s.network.bssid said answers ≡ heard place s.network.bssid (flat_map option_to_list each)
taken-all laws reach s place m es [] [] [] next sound few there e h k = refl
taken-all laws reach s place m es [] (x ∷ each) answers next sound few there e h k = absurd (cc)
taken-all laws reach s place m es (asked ∷ said) [] answers next sound few there e h k = absurd (cc)
taken-all laws reach s place m es [] [] (answer ∷ answers) next sound few there e h k = absurd h
taken-all laws reach s place m es (asked ∷ said) (x ∷ each) [] next sound few there e h k = absurd h
taken-all laws reach s place m es (asked ∷ said) (x ∷ each) (answer ∷ answers) next sound few there e h k =
    let bssid : List ℕ = s.network.bssid in
    let is : line_said asked ≡ Some x = cc in
    let rest : map line_said said ≡ map Some each = cc in
    let reply : Option Reply = reply_in place answer in
    let event : Option Event = event_in place bssid asked in
    let may : MayReplyIf (alone_after s es) event reply =
    reply-read place m (alone_after s es) asked x answer is h.0 k.0 there in
    let first : List Event = heard place bssid (option_to_list x) in
    let later : List Event = heard place bssid (flat_map option_to_list each) in
    let both : heard place bssid (flat_map option_to_list (x ∷ each)) ≡ first ++ later =
    flat_map-append (heard_of place bssid) (option_to_list x) (flat_map option_to_list each) in
    let count : length (heard place bssid (flat_map option_to_list (x ∷ each))) ≡ length first + length later =
    ap length both ∙ length-append first later in
    let one : taken_if event reply ≡ event =
    taken-one reach s es event reply sound (omega (arith, few)) may (memory-in place answer k.0) in
    let some : option_to_list (taken_if event reply) ≡ first =
    ap (λ (o : Option Event). option_to_list o) one ∙ event-said place bssid asked x is in
    let after = one-taken laws s place m es asked answer h.0 there in
    let on = taken-all laws reach s place (after_answer m asked answer) (es ++ first) said each answers next sound
    (omega (arith, few, count, length-append es first))
    (after.there ∙ ap (λ (xs : List Event). Some (alone_after s (es ++ xs))) some)
    rest h.1 k.1 in
    rw (some, on) (sym both)

-- ---- a text that is a trace

record TextLinesOf (bssids : List (List ℕ)) (parts : List (List ℕ)) (lines : List Line) : Type 0 where
  each : List (Option Line)
  say : map line_said (asked_by_all bssids (map line_with parts)) ≡ map Some each
  all : lines ≡ flat_map option_to_list each

text-lines : (bssids : List (List ℕ)) (number : ℕ) (parts : List (List ℕ)) (all : List Line)
    → AllByRecursion (λ line. length line ≤ max_line) parts → lines_from bssids number parts ≡ Ok all
    → TextLinesOf bssids parts all
text-lines bssids number [] all short e = record { each = []; say = refl; all = let none : all ≡ [] = cc in none }
text-lines bssids number (line ∷ parts) all short e =
    let says = says-both (line_of bssids number line) (lines_from bssids (number + 1) parts) all e in
    let one : said_by bssids line ≡ Ok says.said = not-over number (said_by bssids line) says.said (nat_lt max_lines number) says.one_is in
    let asked : asked_by bssids (line_with line) ≡ Says (Ok says.said) = asked-line bssids line says.said short.0 one in
    let on = text-lines bssids (number + 1) parts says.later short.1 says.rest in
    record {
      each = says.said ∷ on.each;
      say = λ i. line_said (asked i) ∷ on.say i;
      all = sym says.both ∙ ap (λ (ls : List Line). option_to_list says.said ++ ls) on.all;
    }

pub trace-lines : (c : RadioConfig) (text : List ℕ) (lines : List Line) → IsTrace c text lines
    → AreLines (asked_in (first_moment c) (lines_of_text text)) lines
trace-lines c text ls h =
    let on = text-lines (bssids_of c) 1 (lines text) ls h.short h.read in
    record {
      each = on.each;
      say = rw (bssids-first c c.networks) on.say;
      all = on.all;
    }

-- ---- the section

section-at : (c : RadioConfig) (said : List Line) (place : ℕ) → place < length c.networks
    → slice_get (sections_of_lines c said) place
    ≡ Some (section_of (setting_at c place) (own_events place (network_at c place) said))
section-at c said place within =
    let f : ℕ → Section = λ n. section_of (setting_at c n) (own_events n (network_at c n) said) in
    let count : ℕ = length c.networks in
    slice_get-get_or (sections_of_lines c said) place (f place) (omega (arith, length-map-range_with_len f 0 count))
    ∙ ap (λ (t : Section). Some t) (get_or-map-range_with_len f 0 count place place (f place) within (omega arith))

network-sound : (ns : List NetConfig) (place : ℕ) → place < length ns → AllByRecursion (λ n. network_fault n ≡ None) ns
    → network_fault (slice_index_or ns place no_network) ≡ None
network-sound [] place within h = absurd (omega arith)
network-sound (n ∷ ns) zero within h = h.0
network-sound (n ∷ ns) (suc place) within h = network-sound ns place (omega arith) h.1

abbrev pub CheckedNetworks : Type 0
CheckedNetworks = (c : RadioConfig) → fault_of c ≡ None → AllByRecursion (λ n. network_fault n ≡ None) c.networks

shown : (c : RadioConfig) (place : ℕ) (said : List Asked) (answers : List Answer) (next : Moment) (section : Section)
    → IsAlone (course c said answers) place next
    → section ≡ section_of (setting_at c place) (events_at c place said answers) → IsShown section place answers next
shown c place said answers next section alone_there is = record {
  air = alone_there.air ∙ sym (ap (λ (t : Section). t.air) is);
  wire = alone_there.wire ∙ sym (ap (λ (t : Section). t.wire) is);
  network = alone_after (setting_at c place) (events_at c place said answers);
  there = alone_there.last;
  events = sym (ap (λ (t : Section). length t.events) is);
  table = sym (ap (λ (t : Section). t.table) is);
  counts = sym (ap (λ (t : Section). t.counts) is);
}

abbrev pub CheckedEvents : Type 0
CheckedEvents = (n : NetConfig) → network_fault n ≡ None → n.max_events ≤ 1000000

pub is-shown : AloneLaws → Reachable → CheckedNetworks → CheckedEvents → (c : RadioConfig) (said : List Asked)
    (lines : List Line) (place : ℕ) (answers : List Answer) (next : Moment) (section : Section)
    → IsLikeTrace (course c said answers) lines place next
    → slice_get (sections_of_lines c lines) place ≡ Some section → IsShown section place answers next
is-shown laws reach checked events-checked c said lines place answers next section h e =
    let s : Setting = setting_at c place in
    let bssid : List ℕ = (network_at c place).bssid in
    let hs : List Event = heard place bssid lines in
    let sound : network_fault s.network ≡ None = network-sound c.networks place h.there (checked c h.sound) in
    let most : length hs ≤ (network_at c place).max_events = h.events in
    let bounded : (network_at c place).max_events ≤ 1000000 = events-checked s.network sound in
    let same : heard place bssid (flat_map option_to_list h.said.each) ≡ hs = ap (heard place bssid) (sym h.said.all) in
    let few : length {A = Event} [] + length (heard place bssid (flat_map option_to_list h.said.each)) < 4294967295 =
    omega (arith, ap length same) in
    let begins : slice_get (first_moment c).networks place ≡ Some (alone_after s []) =
    network-first c place h.there ∙ ap (λ (n : NetworkState). Some n) (sym (alone_after-none laws s)) in
    let events : events_at c place said answers ≡ hs =
    taken-all laws reach s place (first_moment c) [] said h.said.each answers next sound few begins h.said.say h.answered
    h.unrefused
    ∙ same in
    let own : own_events place (network_at c place) lines ≡ hs = take_all (network_at c place).max_events hs most in
    let is : section ≡ section_of s (own_events place (network_at c place) lines) =
    let one : Some section ≡ Some (section_of s (own_events place (network_at c place) lines)) =
    sym e ∙ section-at c lines place h.there in cc in
    shown c place said answers next section (is-alone laws c said answers next place h.there h.answered)
    (is ∙ ap (section_of s) (own ∙ sym events))

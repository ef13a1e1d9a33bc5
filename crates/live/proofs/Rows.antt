-- Single lines and their answers, computed.
use Rattle.std.proofs.Common.{◌≡◌, ℕ, ◌+◌, false, List, [], ◌∷◌, ◌++◌, Some, None, Ok, Err, codes, refl}
use Rattle.std.specs.Prelude.{replicate}
use Rattle.std.specs.Fmt.{digits}
use Rattle.hex.specs.Hex.{encode_with}
use Rattle.hex.proofs.OnLiterals.{hex_on_literals}
use Rattle.beacon.specs.ProbeResponse.{timestamp, fixed_fields, network_elements}
use Rattle.elements.specs.Elements.{elements_of, elements_within}
use Rattle.network.specs.NetworkView.{NetworkState}
use Rattle.ap_config.specs.declared.config.RadioConfig.{RadioConfig}
use Rattle.events.specs.declared.event.Event.TheVariants.{Tick}
use Rattle.events.specs.declared.line.Line.TheVariants as line
use Rattle.network.specs.declared.network.NetworkRefusal.TheVariants.{NoMemory, Clock}
use Rattle.ap_config.specs.Samples.{network, radio, setting}
use Rattle.report.specs.Report.{network_line, counts_line, station_line, frame_line}
use Rattle.trace.specs.declared.fault.LineFault.TheVariants.{UnknownKind, UnknownNetwork}
use Rattle.live_rules.specs.TextLines.{Octets, TooLong, line_with, lines_of_text, partial_in, lines_in, partial_after, last_line}
use Rattle.live_rules.specs.Moments.{Moment, first_moment, Sends, Refuses, is_past_clock, reply_of, taken_if, after_if}
use Rattle.live_rules.specs.Asked.{has_fault, ForTables, brings, Says, asked_by}
use Rattle.live_rules.specs.Answers.{Answer, Faulty, Replies, Tables, after_answer}
use Rattle.live_rules.specs.AnswerText.{table_text}
use Rattle.live.specs.AnswerOctets.{record_of, told}
use Rattle.live_rules.specs.Records.{record_asks, record_len}
use Rattle.live.specs.Written.{written_answer, written_count, live_text}
use Rattle.live.specs.declared.face.Face.TheVariants.{Lines, Records}
use Rattle.mac_frame.proofs.Rows.{Computes}

abbrev cr : List ℕ
cr = 13 ∷ []

abbrev lf : List ℕ
lf = 10 ∷ []

-- 02:00:00:00:00:01 and 02:00:00:00:00:02
abbrev two : RadioConfig
two = record radio { networks = network ∷ record network { bssid = 2 ∷ 0 ∷ 0 ∷ 0 ∷ 0 ∷ 2 ∷ [] } ∷ [] }

abbrev bssids : List (List ℕ)
bssids = (2 ∷ 0 ∷ 0 ∷ 0 ∷ 0 ∷ 1 ∷ []) ∷ (2 ∷ 0 ∷ 0 ∷ 0 ∷ 0 ∷ 2 ∷ []) ∷ []

abbrev start : Moment
start = first_moment two

-- ---- lines of a text

pub lines_end_with_lf : lines_of_text (codes "T" ++ lf ++ lf ++ codes "I") ≡ Octets (codes "T") ∷ Octets [] ∷ Octets (codes "I") ∷ []
lines_end_with_lf = refl

pub one_cr_before_lf_is_dropped : lines_of_text (codes "T" ++ cr ++ cr ++ lf ++ codes "T" ++ cr)
    ≡ Octets (codes "T" ++ cr) ∷ Octets (codes "T" ++ cr) ∷ []
one_cr_before_lf_is_dropped = refl

pub a_piece_ends_the_line_before_it : lines_in (partial_in (codes "T" ++ lf ++ codes "A 0")) (codes "0" ++ lf ++ codes "T")
    ≡ Octets (codes "A 00") ∷ []
a_piece_ends_the_line_before_it = refl

pub lines_in_order : Computes (λ x. x) (
    ("rest of a long line is no line", lines_in TooLong (codes "T" ++ lf ++ codes "T" ++ lf), TooLong ∷ Octets (codes "T") ∷ [])
    ∷ ("a long line without LF counts", last_line TooLong, TooLong ∷ [])
    ∷ ("a text that ends with LF has no last line", last_line (partial_in (codes "T" ++ lf)), [])
    ∷ [])
lines_in_order = refl

pub single_lines : Computes (λ x. x) (
    ("a long line goes on", partial_after TooLong (codes "T"), TooLong)
    -- spaces count, whatever the line is
    ∷ ("the longest line", line_with (35 ∷ replicate 65535 32), Octets (35 ∷ replicate 65535 32))
    ∷ ("one octet too many", line_with (35 ∷ replicate 65536 32), TooLong)
    ∷ ("a CR may still be dropped", partial_in (replicate 65536 32 ++ cr), Octets (replicate 65536 32 ++ cr))
    ∷ ("two octets too many", partial_in (replicate 65536 32 ++ cr ++ cr), TooLong)
    ∷ [])
single_lines = refl

-- ---- what lines ask

pub what_lines_ask : Computes (asked_by bssids) (
    ("capital I asks for tables", Octets (codes "I"), ForTables)
    ∷ ("spaces after it are dropped", Octets (codes "I  "), ForTables)
    ∷ ("a space before it is a fault", Octets (codes " I"), Says (Err UnknownKind))
    ∷ ("a word after it is a fault", Octets (codes "I 0"), Says (Err UnknownKind))
    ∷ ("small i is a fault", Octets (codes "i"), Says (Err UnknownKind))
    ∷ ("a tick", Octets (codes "T "), Says (Ok (Some line.Tick)))
    ∷ [])
what_lines_ask = refl

-- ---- answers

pub a_fault_has_the_number_of_its_line : live_text start (Octets [] ∷ Octets (codes "#") ∷ Octets (codes "A 4") ∷ [])
    ≡ codes "fault L2 line 3" ++ lf
unfolding digits hex_on_literals
a_fault_has_the_number_of_its_line = refl

pub answers : Computes (live_text start) (
    ("skipped lines have none", Octets [] ∷ Octets (codes "# T") ∷ Octets (codes "  ") ∷ [], [])
    ∷ ("too long is L5", TooLong ∷ [], codes "fault L5 line 1" ++ lf)
    ∷ ("an unknown network is L4", Octets (codes "W 02:00:00:00:00:09 00") ∷ [], codes "fault L4 line 1" ++ lf)
    ∷ [])
unfolding digits hex_on_literals
answers = refl

pub a_probe_to_all_is_answered_in_order_of_place : live_text start
    (Octets (codes "A 40000000ffffffffffff02aa00000001ffffffffffff00000000010402040b16") ∷ [])
    ≡ codes "air 02:00:00:00:00:01 5000000002aa00000001020000000001020000000001000000000000000000006400"
    ++ codes "010000036c6162010482840b16030106"
    ++ lf
    ++ codes "air 02:00:00:00:00:02 5000000002aa00000001020000000002020000000002000000000000000000006400"
    ++ codes "010000036c6162010482840b16030106"
    ++ lf
unfolding digits hex_on_literals encode_with frame_line timestamp fixed_fields network_elements elements_of elements_within
a_probe_to_all_is_answered_in_order_of_place = refl

pub a_probe_is_answered : live_text (first_moment radio)
    (Octets (codes "A 40000000ffffffffffff02aa00000001ffffffffffff00000000010402040b16") ∷ [])
    ≡ codes "air 02:00:00:00:00:01 5000000002aa00000001020000000001020000000001000000000000000000006400"
    ++ codes "010000036c6162010482840b16030106"
    ++ lf
unfolding digits hex_on_literals encode_with frame_line timestamp fixed_fields network_elements elements_of elements_within
a_probe_is_answered = refl

pub tables_are_those_of_a_report_without_frames : live_text (first_moment radio) (Octets (codes "I") ∷ [])
    ≡ codes "network 02:00:00:00:00:01 ssid 6c6162" ++ lf ++ codes "events 0 clock 0 unread 0 lost 0 kept 0" ++ lf
    ++ codes "end"
    ++ lf
unfolding digits encode_with table_text network_line counts_line station_line
tables_are_those_of_a_report_without_frames = refl

-- `I` is no event
pub tables_change_nothing : (m : Moment) → after_answer m ForTables (Tables m.networks) ≡ record m { lines = m.lines + 1 }
tables_change_nothing m = refl

-- a fault changes nothing but the number of the next line
pub the_line_after_a_fault_is_read : live_text start (Octets (codes "X") ∷ Octets (codes "T 0") ∷ Octets (codes "#") ∷ [])
    ≡ codes "fault L1 line 1" ++ lf ++ codes "fault L1 line 2" ++ lf
unfolding digits
the_line_after_a_fault_is_read = refl

-- ---- refusals

-- one network refuses, and the next takes the line
abbrev refused : Answer
refused = Replies (Some (Refuses NoMemory) ∷ Some (Sends ((1 ∷ 2 ∷ []) ∷ []) ((3 ∷ []) ∷ [])) ∷ [])

pub a_refusal_is_told_at_its_place : written_answer Lines bssids 7 refused
    ≡ codes "fault memory line 7 network 02:00:00:00:00:01" ++ lf
    ++ codes "air 02:00:00:00:00:02 0102"
    ++ lf
    ++ codes "wire 02:00:00:00:00:02 03"
    ++ lf
unfolding digits encode_with frame_line
a_refusal_is_told_at_its_place = refl

-- the beacon intervals that began
abbrev at_clock : ℕ → NetworkState
at_clock clock = record {
  setting = setting;
  events = clock;
  network = record {
    stations = [];
    kept = [];
    clock = clock;
    sequence = 0;
    lost = 0;
    unread = 0;
    air = [];
    wire = [];
  };
}

pub a_full_clock_refuses : reply_of (at_clock 4294967295) Tick ≡ Refuses Clock
a_full_clock_refuses = refl

pub nothing_has_changed_then : after_if (at_clock 4294967295) (taken_if (Some Tick) (Some (Refuses Clock)))
    ≡ at_clock 4294967295
nothing_has_changed_then = refl

pub one_before_it_is_not_full : is_past_clock (at_clock 4294967294) Tick ≡ false
one_before_it_is_not_full = refl

pub a_full_clock_is_told : written_answer Lines bssids 7 (Replies (Some (Refuses Clock) ∷ None ∷ []))
    ≡ codes "fault clock line 7 network 02:00:00:00:00:01" ++ lf
unfolding digits
a_full_clock_is_told = refl

-- ---- records

abbrev nobody : List ℕ
nobody = 0 ∷ 0 ∷ 0 ∷ 0 ∷ 0 ∷ 0 ∷ []

pub the_low_octet_of_a_length_comes_first : record_len (65 ∷ 0 ∷ 0 ∷ 0 ∷ 0 ∷ 0 ∷ 0 ∷ 1 ∷ 2 ∷ []) ≡ Some 522
the_low_octet_of_a_length_comes_first = refl

pub eight_octets_say_no_length : record_len (65 ∷ 0 ∷ 0 ∷ 0 ∷ 0 ∷ 0 ∷ 0 ∷ 1 ∷ []) ≡ None
eight_octets_say_no_length = refl

pub one_of_the_wire_names_its_network : record_asks bssids (87 ∷ 2 ∷ 0 ∷ 0 ∷ 0 ∷ 0 ∷ 2 ∷ 1 ∷ 0 ∷ 7 ∷ [])
    ≡ brings (line.Wire 1 (7 ∷ []))
one_of_the_wire_names_its_network = refl

pub records : Computes (record_asks bssids) (
    ("a record of the air", 65 ∷ 0 ∷ 0 ∷ 0 ∷ 0 ∷ 0 ∷ 0 ∷ 2 ∷ 0 ∷ 7 ∷ 8 ∷ [], brings (line.Air (7 ∷ 8 ∷ [])))
    ∷ ("a record of no network is L4", 87 ∷ 2 ∷ 0 ∷ 0 ∷ 0 ∷ 0 ∷ 9 ∷ 0 ∷ 0 ∷ [], has_fault UnknownNetwork)
    ∷ ("the air has no BSSID", 65 ∷ 2 ∷ 0 ∷ 0 ∷ 0 ∷ 0 ∷ 1 ∷ 0 ∷ 0 ∷ [], has_fault UnknownKind)
    ∷ ("a tick has no octets", 84 ∷ 0 ∷ 0 ∷ 0 ∷ 0 ∷ 0 ∷ 0 ∷ 1 ∷ 0 ∷ 7 ∷ [], has_fault UnknownKind)
    ∷ ("a record that is a tick", 84 ∷ 0 ∷ 0 ∷ 0 ∷ 0 ∷ 0 ∷ 0 ∷ 0 ∷ 0 ∷ [], brings line.Tick)
    ∷ ("one that asks for tables", 73 ∷ 0 ∷ 0 ∷ 0 ∷ 0 ∷ 0 ∷ 0 ∷ 0 ∷ 0 ∷ [], ForTables)
    ∷ ("small letters are no kinds", 97 ∷ 0 ∷ 0 ∷ 0 ∷ 0 ∷ 0 ∷ 0 ∷ 0 ∷ 0 ∷ [], has_fault UnknownKind)
    ∷ [])
records = refl

pub two_networks_are_open : written_count Records 2 ≡ 79 ∷ 0 ∷ 0 ∷ 0 ∷ 0 ∷ 0 ∷ 2 ∷ 0 ∷ 0 ∷ []
two_networks_are_open = refl

pub a_fault_of_a_record_is_a_line_for_people : written_answer Records bssids 7 (Faulty UnknownKind)
    ≡ 78 ∷ nobody ++ (18 ∷ 0 ∷ codes "fault L1 record 7" ++ lf)
unfolding digits told record_of
a_fault_of_a_record_is_a_line_for_people = refl

pub frames_are_records_of_their_network : written_answer Records bssids 7 (Replies (None ∷ Some (Sends ((1 ∷ 2 ∷ []) ∷ []) ((3 ∷ []) ∷ [])) ∷ []))
    ≡ 65 ∷ 2 ∷ 0 ∷ 0 ∷ 0 ∷ 0 ∷ 2 ∷ 2 ∷ 0 ∷ 1 ∷ 2 ∷ 87 ∷ 2 ∷ 0 ∷ 0 ∷ 0 ∷ 0 ∷ 2 ∷ 1 ∷ 0 ∷ 3 ∷ []
unfolding record_of
frames_are_records_of_their_network = refl

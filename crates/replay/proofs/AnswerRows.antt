-- What the program answers to whole texts.
use Rattle.std.proofs.Common.{◌≡◌, ℕ, codes, List, [], ◌∷◌, ◌++◌, Result, Ok, Err, refl, ap}
use Rattle.std.specs.Fmt.{digits}
use Rattle.hex.specs.Hex.{encode_with}
use Rattle.beacon.specs.ProbeResponse.{timestamp, fixed_fields, network_elements}
use Rattle.elements.specs.Elements.{elements_of, elements_within}
use Rattle.ap_config.specs.Configuration.{of_radio}
use Rattle.ap_config.specs.Samples.{setting}
use Rattle.events.specs.declared.event.Event.TheVariants.{Air}
use Rattle.events.specs.declared.section.Section.{Section}
use Rattle.network.specs.Network.{alone}
use Rattle.network.specs.Samples.{network_of_one_event, probe, probe_for_another}
use Rattle.network.specs.Samples.{section_of_a_probe_for_another, section_of_a_short_history, section_of_one_probe}
use Rattle.network.specs.Section.{section_of}
use Rattle.report.specs.Report.{report_text, section_text, network_line, counts_line, frame_line}
use Rattle.replay.specs.Answer.{answer_of}
use Rattle.replay.specs.declared.fault.TextFault.{TextFault}
use Rattle.replay.specs.declared.fault.TextFault.TheVariants.{Config, Trace}
use Rattle.config_text.specs.OnLiterals.{configuration_on_literals}

-- the sample, with this channel and this most events
abbrev config_text : List ℕ → List ℕ → List ℕ
config_text channel max_events =
    codes "version = 1\nchannel = " ++ channel
    ++ codes
    "\ninterval = 100\nqueue = 64\n[[network]]\nbssid = \"02:00:00:00:00:01\"\nssid = \"lab\"\nrates = \"82840b16\"\ndtim = 1\nmax_stations = 8\nmax_known = 16\nquota = 8\nmax_events = "
    ++ max_events
    ++ codes "\n"

abbrev sample : List ℕ
sample = config_text (codes "6") (codes "100")

abbrev probe_line : List ℕ
probe_line = codes "A 40000000 ffffffffffff 02aa00000001 ffffffffffff 0000 0000 010402040b16\n"

abbrev report_of_one_answer : List ℕ
report_of_one_answer =
    codes
    "network 02:00:00:00:00:01 ssid 6c6162\nevents 1 clock 0 unread 0 lost 0 kept 0\nair 5000000002aa00000001020000000001020000000001000000000000000000006400010000036c6162010482840b16030106\nend\n"

-- ---- the sections

of_one_probe : section_of setting (Air probe ∷ []) ≡ section_of_one_probe
unfolding alone timestamp fixed_fields network_elements elements_of elements_within
of_one_probe = refl

of_a_probe_for_another : section_of setting (Air probe_for_another ∷ []) ≡ section_of_a_probe_for_another
unfolding alone elements_of elements_within
of_a_probe_for_another = refl

of_a_short_history : section_of (record setting { network = network_of_one_event }) (Air probe ∷ []) ≡ section_of_a_short_history
unfolding alone timestamp fixed_fields network_elements elements_of elements_within
of_a_short_history = refl

-- the answer of one section
abbrev reported : Section → Result (List ℕ) TextFault
reported s = Ok (report_text (s ∷ []))

-- ---- the answers

one_probe_is_answered : answer_of sample probe_line ≡ Ok report_of_one_answer
unfolding answer_of configuration_on_literals section_text network_line counts_line frame_line digits encode_with
one_probe_is_answered = ap (λ (s : Section). reported s) of_one_probe

probe_for_another_name_is_not :
    answer_of sample (codes "A 40000000 ffffffffffff 02aa00000001 ffffffffffff 0000 00056f74686572 010402040b16\n")
    ≡ Ok (codes "network 02:00:00:00:00:01 ssid 6c6162\nevents 1 clock 0 unread 0 lost 0 kept 0\nend\n")
unfolding answer_of configuration_on_literals section_text network_line counts_line frame_line digits encode_with
probe_for_another_name_is_not = ap (λ (s : Section). reported s) of_a_probe_for_another

empty_trace_has_two_lines_and_end : answer_of sample []
    ≡ Ok (codes "network 02:00:00:00:00:01 ssid 6c6162\nevents 0 clock 0 unread 0 lost 0 kept 0\nend\n")
unfolding answer_of configuration_on_literals alone section_text network_line counts_line frame_line digits encode_with
empty_trace_has_two_lines_and_end = refl

full_history_takes_no_second_probe : answer_of (config_text (codes "6") (codes "1")) (probe_line ++ probe_line) ≡ Ok
    report_of_one_answer
unfolding answer_of configuration_on_literals section_text network_line counts_line frame_line digits encode_with
full_history_takes_no_second_probe = ap (λ (s : Section). reported s) of_a_short_history

fault_of_the_trace_is_answered : answer_of sample (probe_line ++ codes "A 4") ≡ Err
    (Trace (record { code = 2; line = 2 }))
unfolding answer_of configuration_on_literals
fault_of_the_trace_is_answered = refl

configuration_comes_before_trace : answer_of (config_text (codes "15") (codes "100")) (codes "X") ≡ Err
    (Config (of_radio 4))
unfolding answer_of configuration_on_literals
configuration_comes_before_trace = refl

-- ---- the address of a wired frame

word_that_is_no_address : answer_of sample (codes "W 02:00:00:00:00 00") ≡ Err (Trace (record { code = 3; line = 1 }))
unfolding answer_of configuration_on_literals
word_that_is_no_address = refl

address_of_no_network : answer_of sample (codes "W 02:00:00:00:00:09 00") ≡ Err (Trace (record { code = 4; line = 1 }))
unfolding answer_of configuration_on_literals
address_of_no_network = refl

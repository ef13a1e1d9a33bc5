-- Networks with options, by what they hear octet by octet, and two of them on one radio: rows worked out by hand.
use Rattle.std.proofs.Common.{◌≡◌, ℕ, true, false, List, [], ◌∷◌, ◌++◌, refl}
use Rattle.std.specs.Prelude.{map, flat_map}
use Rattle.aid_pool.specs.LeastFree.{least_free}
use Rattle.association.specs.Samples.{frame, other_station, four_rates}
use Rattle.beacon.specs.Advert.{timestamp, fixed_fields, network_elements}
use Rattle.beacon.specs.Beacon.{dtim_count}
use Rattle.elements.specs.Elements.{elements_of, elements_within}
use Rattle.powersave.specs.declared.unit.Whom.TheVariants.{One}
use Rattle.tim.specs.Tim.{tim_octets, partial_of, from_first_pair, up_to_last, virtual_bitmap, octet_at, bits_from}
use Rattle.network.specs.Section.{sections_of_lines}
use Rattle.ap_config.specs.declared.setting.Setting.{Setting}
use Rattle.network.specs.Network.{empty_network, alone, counts_of}
use Rattle.network.specs.Units.{unit}
use Rattle.ap_config.specs.declared.config.NetConfig.{NetConfig}
use Rattle.ap_config.specs.declared.config.RadioConfig.{RadioConfig}
use Rattle.events.specs.declared.event.Event.{Event}
use Rattle.events.specs.declared.event.Event.TheVariants.{Air, Wire, Tick}
use Rattle.events.specs.declared.line.Line.{Line}
use Rattle.events.specs.declared.line.Line.TheVariants as line
use Rattle.events.specs.declared.section.Counts.{Counts}
use Rattle.events.specs.declared.section.Section.{Section}
use Rattle.station_state.specs.declared.state.StationState.TheVariants.{Associated}
use Rattle.ap_config.specs.Samples.{bssid, station, network, radio, setting}
use Rattle.network.proofs.UnitSamples.{host, ipv4, wired, numbered_beacon, at_1, at_2, at_3}

-- ---- what a station sends to the network with a BSSID

abbrev header : (control flags : ℕ) (bss from third : List ℕ) → List ℕ
header control flags bss from third =
    (control ∷ flags ∷ 0x00 ∷ 0x00 ∷ []) ++ bss ++ from ++ third ++ (0x00 ∷ 0x00 ∷ [])

abbrev authenticates : (bss from : List ℕ) → List ℕ
authenticates bss from = header 0xb0 0x00 bss from bss ++ 0x00 ∷ 0x00 ∷ 0x01 ∷ 0x00 ∷ 0x00 ∷ 0x00 ∷ []

-- with a listen interval below 256
abbrev associates : (listen : ℕ) (bss from : List ℕ) → List ℕ
associates listen bss from =
    header 0x00 0x00 bss from bss ++ 0x01 ∷ 0x00 ∷ listen ∷ 0x00
    ∷ 0x00 ∷ 0x03 ∷ 0x6c ∷ 0x61 ∷ 0x62 ∷ 0x01 ∷ 0x04 ∷ 0x02 ∷ 0x04 ∷ 0x0b ∷ 0x16 ∷ []

abbrev dozes : (bss from : List ℕ) → List ℕ
dozes bss from = header 0x48 0x11 bss from bss

-- a unit for another, with one octet
abbrev sends : (to : List ℕ) (octet : ℕ) (bss from : List ℕ) → List ℕ
sends to octet bss from = header 0x08 0x01 bss from to ++ ipv4 octet

-- with association identifier 1
abbrev polls : (bss from : List ℕ) → List ℕ
polls bss from = (0xa4 ∷ 0x00 ∷ 0x01 ∷ 0xc0 ∷ []) ++ bss ++ from

-- ---- what the network answers, by the first octet of Sequence Control

abbrev authenticated : ℕ → List ℕ
authenticated low = frame 0xb0 station low 0x00 (0x00 ∷ 0x00 ∷ 0x02 ∷ 0x00 ∷ 0x00 ∷ 0x00 ∷ [])

abbrev associated : ℕ → List ℕ
associated low = frame 0x10 station low 0x00 (0x01 ∷ 0x00 ∷ 0x00 ∷ 0x00 ∷ 0x01 ∷ 0xc0 ∷ 0x01 ∷ 0x04 ∷ four_rates)

-- a TIM that shows the first station, and one that shows nobody
abbrev its_bit : List ℕ
its_bit = 0x05 ∷ 0x04 ∷ 0x00 ∷ 0x01 ∷ 0x00 ∷ 0x02 ∷ []

abbrev no_bit : List ℕ
no_bit = 0x05 ∷ 0x04 ∷ 0x00 ∷ 0x01 ∷ 0x00 ∷ 0x00 ∷ []

-- ---- a network in which units age

abbrev aging : Setting
aging = record setting { network = record network { aging = true } }

-- a station joins and dozes, a unit comes for it, three beacon intervals begin, and the station polls
abbrev dozes_for_three : (listen : ℕ) → List Event
dozes_for_three listen =
    Air (authenticates bssid station) ∷ Air (associates listen bssid station) ∷ Air (dozes bssid station)
    ∷ Wire (wired station host 1) ∷ Tick ∷ Tick ∷ Tick ∷ Air (polls bssid station) ∷ []

two_beacons_tell_of_a_unit_and_the_third_does_not : alone aging (dozes_for_three 1) ≡ record empty_network {
  stations = (station, Associated 1 1 true) ∷ [];
  clock = 3;
  sequence = 5;
  lost = 1;
  air =
      authenticated 0x00 ∷ associated 0x10
      ∷ numbered_beacon 0x20 at_1 its_bit ∷ numbered_beacon 0x30 at_2 its_bit ∷ numbered_beacon 0x40 at_3 no_bit ∷ [];
}
unfolding alone timestamp fixed_fields network_elements elements_of elements_within least_free dtim_count tim_octets partial_of from_first_pair up_to_last virtual_bitmap octet_at bits_from
two_beacons_tell_of_a_unit_and_the_third_does_not = refl

with_listen_interval_0_the_second_does_not : alone aging (dozes_for_three 0) ≡ record empty_network {
  stations = (station, Associated 1 0 true) ∷ [];
  clock = 3;
  sequence = 5;
  lost = 1;
  air =
      authenticated 0x00 ∷ associated 0x10
      ∷ numbered_beacon 0x20 at_1 its_bit ∷ numbered_beacon 0x30 at_2 no_bit ∷ numbered_beacon 0x40 at_3 no_bit ∷ [];
}
unfolding alone timestamp fixed_fields network_elements elements_of elements_within least_free dtim_count tim_octets partial_of from_first_pair up_to_last virtual_bitmap octet_at bits_from
with_listen_interval_0_the_second_does_not = refl

-- ---- a station that associates anew, with another listen interval

-- before it dozes again and a unit comes for it
abbrev associates_anew : (first then : ℕ) → List Event
associates_anew first then =
    Air (authenticates bssid station) ∷ Air (associates first bssid station) ∷ Air (dozes bssid station)
    ∷ Air (associates then bssid station) ∷ Air (dozes bssid station)
    ∷ Wire (wired station host 1) ∷ Tick ∷ Tick ∷ Tick ∷ []

a_shorter_listen_interval_is_the_one_that_counts : counts_of 9 (alone aging (associates_anew 10 1)) ≡ record { events = 9; clock = 3; unread = 0; lost = 1; kept = 0 }
unfolding alone timestamp fixed_fields network_elements elements_of elements_within least_free dtim_count tim_octets partial_of from_first_pair up_to_last virtual_bitmap octet_at bits_from
a_shorter_listen_interval_is_the_one_that_counts = refl

and_so_is_a_longer_one : counts_of 9 (alone aging (associates_anew 1 10)) ≡ record { events = 9; clock = 3; unread = 0; lost = 0; kept = 1 }
unfolding alone timestamp fixed_fields network_elements elements_of elements_within least_free dtim_count tim_octets partial_of from_first_pair up_to_last virtual_bitmap octet_at bits_from
and_so_is_a_longer_one = refl

-- the same where the unit comes before it associates anew: the unit leaves then, and isn't lost
abbrev associates_after_a_unit : (first then : ℕ) → List Event
associates_after_a_unit first then =
    Air (authenticates bssid station) ∷ Air (associates first bssid station) ∷ Air (dozes bssid station)
    ∷ Wire (wired station host 1) ∷ Air (associates then bssid station) ∷ Air (dozes bssid station)
    ∷ Tick ∷ Tick ∷ Tick ∷ []

units_of_the_association_before_dont_age : counts_of 9 (alone aging (associates_after_a_unit 1 10)) ≡ record { events = 9; clock = 3; unread = 0; lost = 0; kept = 0 }
unfolding alone timestamp fixed_fields network_elements elements_of elements_within least_free dtim_count tim_octets partial_of from_first_pair up_to_last virtual_bitmap octet_at bits_from
units_of_the_association_before_dont_age = refl

-- ---- a quota of one unit

abbrev narrow : Setting
narrow = record setting { network = record network { aging = true; quota = 1 } }

-- two units come, and a third once two beacon intervals began
abbrev three_units : List Event
three_units =
    Air (authenticates bssid station) ∷ Air (associates 0 bssid station) ∷ Air (dozes bssid station)
    ∷ Wire (wired station host 1) ∷ Wire (wired station host 2) ∷ Tick ∷ Tick ∷ Wire (wired station host 3) ∷ []

-- the second finds no room, and the third that of the first, which is too old by then
a_unit_that_is_lost_makes_room : (alone narrow three_units).kept ≡ (One station, unit 2 station host (ipv4 3)) ∷ []
unfolding alone timestamp fixed_fields network_elements elements_of elements_within least_free dtim_count tim_octets partial_of from_first_pair up_to_last virtual_bitmap octet_at bits_from
a_unit_that_is_lost_makes_room = refl

both_others_are_lost : counts_of 8 (alone narrow three_units) ≡ record { events = 8; clock = 2; unread = 0; lost = 2; kept = 1 }
unfolding alone timestamp fixed_fields network_elements elements_of elements_within least_free dtim_count tim_octets partial_of from_first_pair up_to_last virtual_bitmap octet_at bits_from
both_others_are_lost = refl

-- ---- two networks of one radio

-- one that doesn't relay, and in which units age
abbrev guests : NetConfig
guests = record network { bssid = 0x02 ∷ 0 ∷ 0 ∷ 0 ∷ 0 ∷ 0x02 ∷ []; relay = false; aging = true }

abbrev with_guests_last : RadioConfig
with_guests_last = record radio { networks = network ∷ guests ∷ [] }

abbrev with_guests_first : RadioConfig
with_guests_first = record radio { networks = guests ∷ network ∷ [] }

-- two stations join both, the second dozes, and the first has a unit for it
abbrev frames : List (List ℕ → List ℕ)
frames =
    (λ bss. authenticates bss station) ∷ (λ bss. authenticates bss other_station)
    ∷ (λ bss. associates 1 bss station) ∷ (λ bss. associates 1 bss other_station)
    ∷ (λ bss. dozes bss other_station) ∷ (λ bss. sends other_station 7 bss station) ∷ []

-- then one comes from the wire, and three beacon intervals begin
abbrev lines : List Line
lines =
    flat_map (λ sent. line.Air (sent network.bssid) ∷ line.Air (sent guests.bssid) ∷ []) frames
    ++ line.Wire 0 (wired other_station host 8) ∷ line.Wire 1 (wired other_station host 8)
    ∷ line.Tick ∷ line.Tick ∷ line.Tick ∷ []

-- what comes of it in each network: the counts, and the frames on the wire
abbrev outcome : Section → Counts × List (List ℕ)
outcome s = (s.counts, s.wire)

-- both units are kept, and stay
abbrev outcome_of_network : Counts × List (List ℕ)
outcome_of_network = (record { events = 10; clock = 3; unread = 0; lost = 0; kept = 2 }, [])

-- the station's goes to the wire, and that of the wire ages
abbrev outcome_of_guests : Counts × List (List ℕ)
outcome_of_guests =
    (record { events = 10; clock = 3; unread = 0; lost = 1; kept = 0 }, wired other_station station 7 ∷ [])

each_network_has_its_own_options : map outcome (sections_of_lines with_guests_last lines) ≡ outcome_of_network ∷ outcome_of_guests ∷ []
unfolding alone timestamp fixed_fields network_elements elements_of elements_within least_free dtim_count tim_octets partial_of from_first_pair up_to_last virtual_bitmap octet_at bits_from
each_network_has_its_own_options = refl

in_whatever_order_they_stand : map outcome (sections_of_lines with_guests_first lines) ≡ outcome_of_guests ∷ outcome_of_network ∷ []
unfolding alone timestamp fixed_fields network_elements elements_of elements_within least_free dtim_count tim_octets partial_of from_first_pair up_to_last virtual_bitmap octet_at bits_from
in_whatever_order_they_stand = refl

-- What stands in the recorded frames: addresses, element IDs, places of fields (IEEE Std 802.11-2016, 9.3.3 and 9.4).
use Rattle.std.specs.Prelude.{ℕ, ◌^◌, List, codes}
use Rattle.recorded_frames.specs.Octets.{hex}

-- ---- addresses, which the guest made up

-- the stations
abbrev pub station : List ℕ
station = hex "020000000200"

abbrev pub other_station : List ℕ
other_station = hex "020000000300"

-- two networks of hostapd of twelve rates in the open
abbrev pub plain : List ℕ
plain = hex "020000010200"

abbrev pub plain_second : List ℕ
plain_second = hex "020000010201"

-- one of four rates
abbrev pub slow : List ℕ
slow = hex "020000010400"

-- one with QoS and HT
abbrev pub fast : List ℕ
fast = hex "020000010500"

-- one with WPA2 and protected management frames
abbrev pub secret : List ℕ
secret = hex "020000010600"

-- two networks of this access point
abbrev pub ours : List ℕ
ours = hex "020000000101"

abbrev pub ours_second : List ℕ
ours_second = hex "020000000102"

-- ---- SSIDs, in ASCII

abbrev pub plain_ssid : List ℕ
plain_ssid = codes "plain"

abbrev pub slow_ssid : List ℕ
slow_ssid = codes "slow"

abbrev pub fast_ssid : List ℕ
fast_ssid = codes "fast"

abbrev pub secret_ssid : List ℕ
secret_ssid = codes "secret"

-- ---- places in a frame

-- Duration (9.2.4.2)
abbrev pub duration_at : ℕ
duration_at = 2

-- Timestamp and Capability Information of a beacon or a probe response, and the first element (9.3.3.3, 9.3.3.11)
abbrev pub timestamp_at : ℕ
timestamp_at = 24

abbrev pub announced_capability_at : ℕ
announced_capability_at = 34

abbrev pub first_element_of_announcement : ℕ
first_element_of_announcement = 36

-- Capability Information of an association response, and the first element (9.3.3.7)
abbrev pub answered_capability_at : ℕ
answered_capability_at = 24

abbrev pub first_element_of_answer : ℕ
first_element_of_answer = 30

-- ---- bits of Capability Information (9.4.1.4)

abbrev pub ess : ℕ
ess = 2 ^ 0

abbrev pub privacy : ℕ
privacy = 2 ^ 4

abbrev pub short_slot_time : ℕ
short_slot_time = 2 ^ 10

abbrev pub radio_measurement : ℕ
radio_measurement = 2 ^ 12

-- ---- elements that the profile leaves out (9.4.2.1)

-- ERP (9.4.2.12)
abbrev pub erp_id : ℕ
erp_id = 42

-- HT Capabilities (9.4.2.56)
abbrev pub ht_capabilities_id : ℕ
ht_capabilities_id = 45

-- RSN (9.4.2.25)
abbrev pub rsn_id : ℕ
rsn_id = 48

-- Supported Operating Classes (9.4.2.54)
abbrev pub supported_operating_classes_id : ℕ
supported_operating_classes_id = 59

-- HT Operation (9.4.2.57)
abbrev pub ht_operation_id : ℕ
ht_operation_id = 61

-- RM Enabled Capabilities (9.4.2.45)
abbrev pub rm_enabled_capabilities_id : ℕ
rm_enabled_capabilities_id = 70

-- BSS Max Idle Period (9.4.2.79)
abbrev pub bss_max_idle_period_id : ℕ
bss_max_idle_period_id = 90

-- Interworking (9.4.2.92)
abbrev pub interworking_id : ℕ
interworking_id = 107

-- Advertisement Protocol (9.4.2.93)
abbrev pub advertisement_protocol_id : ℕ
advertisement_protocol_id = 108

-- Extended Capabilities (9.4.2.27)
abbrev pub extended_capabilities_id : ℕ
extended_capabilities_id = 127

-- Vendor Specific (9.4.2.26)
abbrev pub vendor_specific_id : ℕ
vendor_specific_id = 221

-- A configuration that was read has no fault.
use Rattle.std.proofs.Common.{◌≡◌, ℕ, Bool, true, false, not, ◌&&◌, ◌||◌, if◌then◌else◌, nat_le, length, List, [], ◌∷◌, ◌++◌, Option, Some, None, IfSome, option_and_then, Result, Ok, Err, IfOk, codes, refl, arith, ◌≤◌}
use Rattle.std.specs.Option.{ok_or}
use Rattle.std.proofs.lemmas.Bool.{and_parts, or_parts, not-true, le-leb, le-ltb, leb-true}
use Rattle.std.proofs.lemmas.Result.{IfOk-at_ok}
use Rattle.toml.specs.Data.{Members, get_member, as_integer}
use Rattle.mac_frame.specs.Address.{is_group, address_of}
use Rattle.ap_config.specs.Configuration.{is_between, most_networks, channel_fits, interval_fits, queue_fits, count_fits, ssid_fits, rates_fit, dtim_fits, max_stations_fits, max_known_fits, quota_fits, max_events_fits, numbers_fit, is_taken, of_radio, fault_among, networks_fault, fault_of}
use Rattle.ap_config.specs.declared.config.NetConfig.{NetConfig}
use Rattle.ap_config.specs.declared.config.RadioConfig.{RadioConfig}
use Rattle.ap_config.specs.declared.config.ConfigFault.{ConfigFault}
use Rattle.text_io.specs.Endings.{Gives}
use Rattle.text_io.specs.Faults.{◌>>=◌, read_ending}
use Rattle.text_io.specs.declared.read_fault.ReadFault.{ReadFault}
use Rattle.config_text.specs.ConfigurationText.{demand, passing, natural, octets_of_digits, text_at, array_at, number_at, bssid_at, ssid_at, rates_at, network_of_table, networks_of, are_tables, tables_in, networks_at, is_listed, document_of, radio_of, configuration_of, version_at, most_networks_in, truth_at, fault_after, with_options, network_of}
use Rattle.config_text.specs.declared.version.Version.{Version}
use Rattle.config_text.specs.declared.version.Version.TheVariants.{One, Two}

-- ---- what holds of what was read

-- P of the value, where there is no fault, and where there is a value
record Reads {A : Type 0} (r : Result A ConfigFault) (P : A → Type 0) : Type 0 where
  reads : IfOk r P

record Finds {A : Type 0} (o : Option A) (P : A → Type 0) : Type 0 where
  finds : IfSome o P

then_reads : {A B : Type 0} {r : Result A ConfigFault} {P : A → Type 0} (next : A → Result B ConfigFault)
    (Q : B → Type 0)
    → Reads r P → ((x : A) → P x → Reads (next x) Q) → Reads (r >>= next) Q
then_reads {A} {r} {P} next Q first more = at r first.reads
  where
    at : (s : Result A ConfigFault) → IfOk s P → Reads (s >>= next) Q
    at (Ok x) holds = more x holds
    at (Err fault) holds = record { reads = tt }

found_reads : {A : Type 0} {o : Option A} {P : A → Type 0} (fault : ConfigFault) → Finds o P → Reads (ok_or o fault) P
found_reads {A} {o} {P} fault found = record { reads = at o found.finds }
  where
    at : (p : Option A) → IfSome p P → IfOk (ok_or p fault) P
    at (Some x) holds = holds
    at None holds = tt

anything : {A : Type 0} (r : Result A ConfigFault) → Reads r (λ _. Unit {0})
anything (Ok x) = record { reads = tt }
anything (Err fault) = record { reads = tt }

demand_reads : (b : Bool) (fault : ConfigFault) → Reads (demand b fault) (λ _. b ≡ true)
demand_reads true fault = record { reads = refl }
demand_reads false fault = record { reads = tt }

-- what passed a test
passing_cases : {A : Type 0} (test : A → Bool) (x : A) (b : Bool) → test x ≡ b
    → IfSome (if b then Some x else None) (λ y. test y ≡ true)
passing_cases test x true passes = passes
passing_cases test x false fails = tt

passing_finds : {A : Type 0} (test : A → Bool) (o : Option A)
    → Finds (option_and_then (passing test) o) (λ y. test y ≡ true)
passing_finds test (Some x) = record { finds = passing_cases test x (test x) refl }
passing_finds test None = record { finds = tt }

number_reads : (fits : ℕ → Bool) (key : List ℕ) (ms : Members) (fault : ConfigFault)
    → Reads (ok_or (number_at fits key ms) fault) (λ n. fits n ≡ true)
unfolding number_at
number_reads fits key ms fault =
    found_reads fault (passing_finds fits (option_and_then natural (option_and_then as_integer (get_member key ms))))

bssid_finds : (earlier : List NetConfig) (ms : Members)
    → Finds (bssid_at earlier ms) (λ bssid. not (is_group bssid || is_taken earlier bssid) ≡ true)
unfolding bssid_at
bssid_finds earlier ms =
    passing_finds (λ bssid. not (is_group bssid || is_taken earlier bssid))
    (option_and_then address_of (text_at (codes "bssid") ms))

ssid_finds : (ms : Members) → Finds (ssid_at ms) (λ ssid. ssid_fits ssid ≡ true)
unfolding ssid_at
ssid_finds ms = passing_finds ssid_fits (text_at (codes "ssid") ms)

rates_finds : (ms : Members) → Finds (rates_at ms) (λ rates. rates_fit rates ≡ true)
unfolding rates_at
rates_finds ms = passing_finds rates_fit (option_and_then octets_of_digits (text_at (codes "rates") ms))

networks_finds : (version : Version) (top : Members)
    → Finds (networks_at version top)
    (λ ds. (are_tables ds && is_between 1 (most_networks_in version) (length (tables_in ds))) ≡ true)
unfolding networks_at
networks_finds version top =
    passing_finds (λ ds. are_tables ds && is_between 1 (most_networks_in version) (length (tables_in ds)))
    (array_at (codes "network") top)

-- as many networks as a version may have are as many as a radio may have
fitting_count : (version : Version) (n : ℕ) → is_between 1 (most_networks_in version) n ≡ true → count_fits n ≡ true
fitting_count One n fits =
    let (least, most) = and_parts (nat_le 1 n) (nat_le n 8) fits in
    let below : n ≤ 8 = leb-true _ _ most in
    rw (least, le-leb n most_networks (omega (arith, below))) refl
fitting_count Two n fits = fits

-- ---- the networks, one after the other

sound_network : (earlier : List NetConfig) (network : NetConfig)
    → not (is_group network.bssid || is_taken earlier network.bssid) ≡ true → ssid_fits network.ssid ≡ true → rates_fit
    network.rates ≡ true
    → numbers_fit network ≡ true → nat_le network.max_stations network.max_known ≡ true
    → fault_among earlier network ≡ None
sound_network earlier network b s r numbers enough =
    let (single, free) = or_parts (is_group network.bssid) (is_taken earlier network.bssid) (not-true _ b) in
    rw (free, single, s, r, numbers, le-ltb network.max_known network.max_stations (leb-true _ _ enough)) refl

network_reads : (earlier : List NetConfig) (ms : Members)
    → Reads (network_of_table earlier ms) (λ network. fault_among earlier network ≡ None)
unfolding network_of_table
network_reads earlier ms =
    then_reads _ _ (found_reads _ (bssid_finds earlier ms)) λ bssid b.
    then_reads _ _ (found_reads _ (ssid_finds ms)) λ ssid s.
    then_reads _ _ (found_reads _ (rates_finds ms)) λ rates r.
    then_reads _ _ (number_reads dtim_fits (codes "dtim") ms _) λ dtim d.
    then_reads _ _ (number_reads max_stations_fits (codes "max_stations") ms _) λ max_stations stations.
    then_reads _ _ (number_reads max_known_fits (codes "max_known") ms _) λ max_known known.
    then_reads _ _ (number_reads quota_fits (codes "quota") ms _) λ quota q.
    then_reads _ _ (number_reads max_events_fits (codes "max_events") ms _) λ max_events events.
    then_reads _ _ (demand_reads (nat_le max_stations max_known) _) λ _ enough.
    let network : NetConfig =
    record
    { bssid = bssid; ssid = ssid; rates = rates; dtim = dtim; max_stations = max_stations; max_known = max_known; quota = quota; max_events = max_events; relay = true; aging = false }
    in
    record { reads = sound_network earlier network b s r (rw (d, stations, known, q, events) refl) enough }

-- the options bring no fault
options_reads : (earlier : List NetConfig) (ms : Members) (network : NetConfig) → fault_among earlier network ≡ None
    → Reads (with_options earlier ms network) (λ n. fault_among earlier n ≡ None)
unfolding with_options
options_reads earlier ms network sound =
    then_reads _ _ (anything (ok_or (truth_at (codes "relay") ms) (fault_after earlier 13))) λ relay _.
    then_reads _ _ (anything (ok_or (truth_at (codes "aging") ms) (fault_after earlier 13))) λ aging _.
    record { reads = sound }

version_reads : (version : Version) (earlier : List NetConfig) (ms : Members)
    → Reads (network_of version earlier ms) (λ network. fault_among earlier network ≡ None)
version_reads One earlier ms = network_reads earlier ms
version_reads Two earlier ms = then_reads _ _ (network_reads earlier ms) (options_reads earlier ms)

networks_reads : (version : Version) (earlier : List NetConfig) (tables : List Members)
    → Reads (networks_of version earlier tables)
    (λ networks. (networks_fault earlier networks ≡ None) × (length networks ≡ length tables))
networks_reads version earlier [] = record { reads = (refl, refl) }
networks_reads version earlier (ms ∷ rest) =
    then_reads _ _ (version_reads version earlier ms) λ network here.
    then_reads _ _ (networks_reads version (earlier ++ network ∷ []) rest) λ networks more.
    record { reads = (rw (here, more.0) refl, omega (arith, more.1)) }

-- ---- the configuration

radio_reads : (top : Members) → Reads (radio_of top) (λ c. fault_of c ≡ None)
unfolding radio_of
radio_reads top =
    then_reads _ _ (anything (ok_or (version_at top) (of_radio 2))) λ version _.
    then_reads _ _ (demand_reads (is_listed version top) _) λ _ _.
    then_reads _ _ (number_reads channel_fits (codes "channel") top _) λ channel c.
    then_reads _ _ (number_reads interval_fits (codes "interval") top _) λ interval i.
    then_reads _ _ (number_reads queue_fits (codes "queue") top _) λ queue q.
    then_reads _ _ (found_reads _ (networks_finds version top)) λ values v.
    then_reads _ _ (networks_reads version [] (tables_in values)) λ networks n.
    let count : count_fits (length networks) ≡ true =
    rw n.1
    (fitting_count version (length (tables_in values))
    (and_parts (are_tables values) (is_between 1 (most_networks_in version) (length (tables_in values))) v).1) in
    let sound : fault_of (record { channel = channel; interval = interval; queue = queue; networks = networks }) ≡ None
    =
    rw (c, i, q, count) n.0 in
    record { reads = sound }

-- what was answered for a document has no fault
pub sound_from_exact : (top : Members) (answer : Result RadioConfig (ReadFault ConfigFault))
    → Gives (λ c. c) read_ending answer (radio_of top) → IfOk answer (λ c. fault_of c ≡ None)
sound_from_exact top (Ok c) exact = IfOk-at_ok (λ found. fault_of found ≡ None) exact (radio_reads top).reads
sound_from_exact top (Err fault) exact = tt

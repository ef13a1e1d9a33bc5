-- Lists, tables and texts, as the readers of a configuration go over them.
use Rattle.std.proofs.Common.{◌≡◌, ℕ, length, nat_le, codes, Ok, Err, if◌then◌else◌, Bool, true, false, List, [], ◌∷◌, map, Bor, Some, None, String, Global, string_bytes, refl, inl, inr, ◌∙◌, arith}
use Rattle.std.specs.List.{list_any, list_all}
use Rattle.std.specs.Map.{keys_of}
use Rattle.std.specs.Str.{bytes_eq, IsUtf8, is_utf8}
use Rattle.std.proofs.lemmas.Str.{IsUtf8-from_is_utf8, is_utf8-from_IsUtf8}
use Rattle.std.proofs.lemmas.Bool.{cases_Bool, false≢true}
use Rattle.std.proofs.lemmas.List.{length-map}
use Rattle.toml.specs.Parse.{parse_document}
use Rattle.toml.specs.Data.{Data, table, Members}
use Rattle.toml.specs.View.{view, items_of, items_view, members_view}
use Rattle.toml.specs.declared.value.Value.{Value}
use Rattle.toml.proofs.Views.{Entry, items_view-drop}
use Rattle.ap_config.specs.declared.config.NetConfig.{NetConfig}
use Rattle.ap_config.specs.Configuration.{dtim_fits, max_stations_fits, max_known_fits, quota_fits, max_events_fits}
use Rattle.config_text.specs.ConfigurationText.{number_at, bssid_at, ssid_at, rates_at, has_only, are_tables, tables_in, fault_after, network_of_table, document_of}

-- a test of what references point to
pub among_texts : (p : List ℕ → Bool) (texts : List (Bor (List ℕ)))
    → list_any p (map (λ text. text.now) texts) ≡ list_any (λ text. p text.now) texts
among_texts p [] = refl
among_texts p (text ∷ texts) = rw (among_texts p texts)

-- the key is one of these
abbrev pub is_among : List (List ℕ) → String Global → Bool
is_among keys key = list_any (bytes_eq (string_bytes key)) keys

-- the keys of a table's map
pub has_only-keys : (keys : List (List ℕ)) (es : List Entry)
    → has_only keys (members_view es) ≡ list_all (is_among keys) (keys_of es)
has_only-keys keys [] = refl
has_only-keys keys (e ∷ es) = rw (has_only-keys keys es)

-- what a text in UTF-8 is
pub document_of-utf8 : (text : List ℕ) → IsUtf8 text → document_of text ≡ parse_document text
unfolding document_of
document_of-utf8 text good = rw (is_utf8-from_IsUtf8 text good)

-- a text that is no document in UTF-8 is none at all
pub document_of-none : (text : List ℕ) → (IsUtf8 text → parse_document text ≡ None) → document_of text ≡ None
unfolding document_of
document_of-none text refused =
    elim (cases_Bool (is_utf8 text)) [
      | inl good ↦ rw (good, refused (IsUtf8-from_is_utf8 text good)) refl
      | inr bad ↦ rw bad refl
    ]

-- an array that has tables alone has as many as values
length_of_tables : (ds : List Data) → are_tables (items_of ds) ≡ true → length (tables_in (items_of ds)) ≡ length ds
length_of_tables [] only = refl
length_of_tables (table ms ∷ ds) only = omega (arith, length_of_tables ds only)
length_of_tables (d ∷ ds) only = absurd (false≢true only)

pub length_of_networks : (vs : List Value) → are_tables (items_view vs) ≡ true
    → length (tables_in (items_view vs)) ≡ length vs
length_of_networks vs only = length_of_tables (map view vs) only ∙ length-map vs view

-- where each value is read, the network is theirs, unless fewer may be known than associated
pub network_of_table-read : (earlier : List NetConfig) (ms : Members) (bssid ssid rates : List ℕ)
    (dtim max_stations max_known quota max_events : ℕ) (enough : Bool)
    → bssid_at earlier ms ≡ Some bssid → ssid_at ms ≡ Some ssid → rates_at ms ≡ Some rates
    → number_at dtim_fits (codes "dtim") ms ≡ Some dtim
    → number_at max_stations_fits (codes "max_stations") ms ≡ Some max_stations
    → number_at max_known_fits (codes "max_known") ms ≡ Some max_known
    → number_at quota_fits (codes "quota") ms ≡ Some quota
    → number_at max_events_fits (codes "max_events") ms ≡ Some max_events
    → nat_le max_stations max_known ≡ enough
    → network_of_table earlier ms
    ≡ (if enough then Ok (record { bssid = bssid; ssid = ssid; rates = rates; dtim = dtim; max_stations = max_stations; max_known = max_known; quota = quota; max_events = max_events; relay = true; aging = false }) else Err (fault_after earlier 12))
unfolding network_of_table
network_of_table-read earlier ms bssid ssid rates dtim max_stations max_known quota max_events true b s r d stations
    known q events fits =
    rw (b, s, r, d, stations, known, q, events, fits)
network_of_table-read earlier ms bssid ssid rates dtim max_stations max_known quota max_events false b s r d stations
    known q events fits =
    rw (b, s, r, d, stations, known, q, events, fits)

pub ruleset counts = (length_of_networks)

pub ruleset key_lists = (has_only-keys, among_texts)

pub ruleset value_lists = (items_view-drop)

pub ruleset documents = (document_of-utf8, document_of-none)

-- What single texts say, computed.
use Rattle.std.proofs.Common.{◌≡◌, ℕ, List, [], ◌∷◌, ◌++◌, Ok, Err, codes, refl}
use Rattle.std.specs.Prelude.{map, replicate}
use Rattle.hex.proofs.OnLiterals.{hex_on_literals}
use Rattle.ap_config.specs.declared.config.RadioConfig.{RadioConfig}
use Rattle.ap_config.specs.Samples.{network, radio}
use Rattle.trace.specs.TraceText.{lines_of, lines_from}
use Rattle.events.specs.declared.line.Line.TheVariants.{Air, Wire, Tick}
use Rattle.trace.specs.declared.fault.TraceFault.{TraceFault}
use Rattle.mac_frame.proofs.Rows.{Computes}

abbrev tab : List ℕ
tab = 9 ∷ []

abbrev lf : List ℕ
lf = 10 ∷ []

abbrev cr : List ℕ
cr = 13 ∷ []

-- the fault of a code at a line
abbrev fault : ℕ → ℕ → TraceFault
fault code line = record { code = code; line = line }

-- ---- strings that were heard

-- a probe request
pub probe_is_read : (config : RadioConfig)
    → lines_of config (codes "A 40000000 ffffffffffff 02aa00000001 ffffffffffff 0000 0000 010402040b16" ++ lf)
    ≡ Ok
    (Air (64 ∷ 0 ∷ 0 ∷ 0 ∷ 255 ∷ 255 ∷ 255 ∷ 255 ∷ 255 ∷ 255 ∷ 2 ∷ 170 ∷ 0 ∷ 0 ∷ 0 ∷ 1 ∷ 255 ∷ 255 ∷ 255 ∷ 255 ∷ 255 ∷ 255 ∷ 0 ∷ 0 ∷ 0 ∷ 0 ∷ 1 ∷ 4 ∷ 2 ∷ 4 ∷ 11 ∷ 22 ∷ []) ∷ [])
unfolding hex_on_literals
probe_is_read config = refl

pub strings : (config : RadioConfig) → Computes (lines_of config) (
    ("either case", codes "A aAbB" ++ lf ++ codes "A CcDd", Ok (Air (170 ∷ 187 ∷ []) ∷ Air (204 ∷ 221 ∷ []) ∷ []))
    -- also within an octet, and more than one
    ∷ ("spaces among digits", codes "A   1  2 34 5 6 7 8", Ok (Air (18 ∷ 52 ∷ 86 ∷ 120 ∷ []) ∷ []))
    ∷ ("most octets are read", codes "A " ++ replicate 8192 48, Ok (Air (replicate 4096 0) ∷ []))
    ∷ ("one octet too many", codes "A " ++ replicate 8194 48, Err (fault 5 1))
    ∷ [])
unfolding hex_on_literals
strings config = refl

-- no digits, with spaces after the word or none
abbrev empty : List (List ℕ)
empty = codes "A" ∷ (codes "A   " ++ lf) ∷ []

pub no_octets : (config : RadioConfig) → map (lines_of config) empty ≡ replicate 2 (Ok (Air [] ∷ []))
unfolding hex_on_literals
no_octets config = refl

-- an odd number of digits, or another character, also where they are too many; a tab at the end; a carriage return
-- before a space, before another, or where the text ends
abbrev of_no_digits : List (List ℕ)
of_no_digits =
    codes "A 4" ∷ (codes "A " ++ replicate 8195 48) ∷ codes "A 4g" ∷ (codes "A g" ++ replicate 8193 48)
    ∷ (codes "A 00" ++ tab) ∷ (codes "A 00" ++ cr ++ codes " " ++ lf) ∷ (codes "A 00" ++ cr ++ cr ++ lf)
    ∷ (codes "A 00" ++ cr) ∷ []

pub not_hexadecimal : (config : RadioConfig) → map (lines_of config) of_no_digits ≡ replicate 8 (Err (fault 2 1))
unfolding hex_on_literals
not_hexadecimal config = refl

-- ---- words

-- a word of no kind, also before odd digits; no space after the word; lower case; a space or a tab beside the word
-- where none may be; a carriage return that ends no line; something after a tick
abbrev of_no_kind : List (List ℕ)
of_no_kind =
    codes "X" ∷ codes "X 4" ∷ codes "A00" ∷ codes "a 00" ∷ codes "w 02:00:00:00:00:01 00" ∷ codes "t" ∷ codes " A 00"
    ∷ codes " #" ∷ (codes "A" ++ tab ++ codes "00") ∷ (codes "W" ++ tab ++ codes "02:00:00:00:00:01 00") ∷ cr
    ∷ (codes "T" ++ cr) ∷ (codes "T" ++ cr ++ cr ++ lf) ∷ (codes "T" ++ cr ++ codes "  " ++ lf) ∷ codes "T 00" ∷ []

pub unknown_kinds : (config : RadioConfig) → map (lines_of config) of_no_kind ≡ replicate 15 (Err (fault 1 1))
unknown_kinds config = refl

-- ---- frames on the wire

-- 02:00:00:00:00:01 and 02:aa:00:00:00:02
abbrev two : RadioConfig
two = record radio { networks = network ∷ record network { bssid = 2 ∷ 0xaa ∷ 0 ∷ 0 ∷ 0 ∷ 2 ∷ [] } ∷ [] }

pub wired_frame_is_read :
    lines_of two (codes "W 02:00:00:00:00:01 02aa00000001 02bb00000001 0800 01" ++ lf)
    ≡ Ok (Wire 0 (2 ∷ 170 ∷ 0 ∷ 0 ∷ 0 ∷ 1 ∷ 2 ∷ 187 ∷ 0 ∷ 0 ∷ 0 ∷ 1 ∷ 8 ∷ 0 ∷ 1 ∷ []) ∷ [])
unfolding hex_on_literals
wired_frame_is_read = refl

pub each_network_by_its_place : lines_of two (codes "W 02:aa:00:00:00:02 00" ++ lf ++ codes "W 02:00:00:00:00:01 00")
    ≡ Ok (Wire 1 (0 ∷ []) ∷ Wire 0 (0 ∷ []) ∷ [])
unfolding hex_on_literals
each_network_by_its_place = refl

pub any_run_of_spaces_parts_words : lines_of two (codes "W   02:00:00:00:00:01   0 80 0  " ++ cr ++ lf) ≡ Ok
    (Wire 0 (8 ∷ 0 ∷ []) ∷ [])
unfolding hex_on_literals
any_run_of_spaces_parts_words = refl

-- nothing and spaces; five pairs, also before odd digits; no space after six, or another character
abbrev of_no_address : List (List ℕ)
of_no_address =
    codes "W" ∷ (codes "W   " ++ cr ++ lf) ∷ codes "W 02:00:00:00:00 00" ∷ codes "W 02:00:00:00:00 4"
    ∷ codes "W 02:00:00:00:00:0100" ∷ (codes "W 02:00:00:00:00:01" ++ tab ++ codes "00")
    ∷ (codes "W 02:00:00:00:00:01" ++ cr) ∷ []

pub no_addresses : (config : RadioConfig) → map (lines_of config) of_no_address ≡ replicate 7 (Err (fault 3 1))
no_addresses config = refl

-- another address, the broadcast address, and another before odd digits and before too many
abbrev of_no_network : List (List ℕ)
of_no_network =
    codes "W 02:00:00:00:00:09 00" ∷ codes "W ff:ff:ff:ff:ff:ff 00" ∷ codes "W 02:00:00:00:00:09 4"
    ∷ (codes "W 02:00:00:00:00:09 " ++ replicate 8194 48) ∷ []

pub unknown_networks : map (lines_of two) of_no_network ≡ replicate 4 (Err (fault 4 1))
unknown_networks = refl

pub wired_frames : Computes (lines_of two) (
    ("address in either case", codes "W 02:aA:00:00:00:02 aB", Ok (Wire 1 (171 ∷ []) ∷ []))
    ∷ ("wired frame of no octets", codes "W 02:00:00:00:00:01", Ok (Wire 0 [] ∷ []))
    ∷ ("odd digits of a wired frame", codes "W 02:00:00:00:00:01 4", Err (fault 2 1))
    ∷ ("too many octets of a wired frame", codes "W 02:00:00:00:00:01 " ++ replicate 8194 48, Err (fault 5 1))
    ∷ [])
unfolding hex_on_literals
wired_frames = refl

-- ---- ticks

pub ticks : (config : RadioConfig) → Computes (lines_of config) (
    ("tick is read", codes "T", Ok (Tick ∷ []))
    ∷ ("tick with spaces before a carriage return", codes "T  " ++ cr ++ lf, Ok (Tick ∷ []))
    ∷ [])
ticks config = refl

pub lines_of_each_kind : lines_of two
    (codes "T" ++ lf ++ codes "A 01" ++ lf ++ codes "W 02:aa:00:00:00:02 02" ++ lf ++ codes "T" ++ lf)
    ≡ Ok (Tick ∷ Air (1 ∷ []) ∷ Wire 1 (2 ∷ []) ∷ Tick ∷ [])
unfolding hex_on_literals
lines_of_each_kind = refl

-- ---- lines

pub last_line_lacks_its_end : (config : RadioConfig)
    → lines_of config (codes "A 01" ++ lf ++ codes "A 02") ≡ lines_of config (codes "A 01" ++ lf ++ codes "A 02" ++ lf)
unfolding hex_on_literals
last_line_lacks_its_end config = refl

pub lines : (config : RadioConfig) → Computes (lines_of config) (
    ("no lines", [], Ok [])
    ∷ ("skipped lines count", codes "# A 4" ++ lf ++ lf ++ codes "A 4" ++ lf, Err (fault 2 3))
    ∷ ("lines of spaces are skipped", codes "  " ++ lf ++ codes " " ++ cr ++ lf ++ codes "   ", Ok [])
    ∷ ("first fault of two", codes "A 00" ++ lf ++ codes "A 4" ++ lf ++ codes "X", Err (fault 2 2))
    ∷ [])
unfolding hex_on_literals
lines config = refl

-- ---- the ends of lines

-- a carriage return before the line feed, with spaces before it or none; spaces where the text ends
abbrev of_one_octet : List (List ℕ)
of_one_octet = (codes "A 00" ++ cr ++ lf) ∷ (codes "A 00  " ++ cr ++ lf) ∷ codes "A 00  " ∷ []

pub ends_are_dropped : (config : RadioConfig) → map (lines_of config) of_one_octet ≡ replicate 3 (Ok (Air (0 ∷ []) ∷ []))
unfolding hex_on_literals
ends_are_dropped config = refl

-- ---- the number of lines

pub numbers_of_lines : (bssids : List (List ℕ)) → Computes (lines_from bssids 1000000) (
    ("most lines are read", codes "A" ∷ [], Ok (Air [] ∷ []))
    ∷ ("one line too many", codes "A" ∷ codes "X" ∷ [], Err (fault 5 1000001))
    ∷ ("skipped line too many", codes "#" ∷ codes "#" ∷ [], Err (fault 5 1000001))
    ∷ ("fault before the limit", codes "X" ∷ codes "X" ∷ [], Err (fault 1 1000000))
    ∷ [])
unfolding hex_on_literals
numbers_of_lines bssids = refl

-- a character of no text
pub comment_of_any_octets : (config : RadioConfig)
    → lines_of config (codes "# " ++ 255 ∷ 0 ∷ 9 ∷ [] ++ lf ++ codes "A 01") ≡ Ok (Air (1 ∷ []) ∷ [])
unfolding hex_on_literals
comment_of_any_octets config = refl

pub lines_stay_in_order : (config : RadioConfig)
    → lines_of config (codes "A 01" ++ lf ++ codes "#" ++ lf ++ codes "A 02" ++ lf ++ codes "A 01" ++ lf)
    ≡ Ok (Air (1 ∷ []) ∷ Air (2 ∷ []) ∷ Air (1 ∷ []) ∷ [])
unfolding hex_on_literals
lines_stay_in_order config = refl

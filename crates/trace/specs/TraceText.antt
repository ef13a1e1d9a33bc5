-- What a trace text says: its lines, or the first fault with the number of its line.
use Rattle.std.specs.Prelude.{ℕ, ◌+◌, ◌-◌, Bool, true, not, nat_lt, ◌==◌, List, [], ◌∷◌, ◌++◌, length, take}
use Rattle.std.specs.Prelude.{drop, filter, map, position, codes, Option, Some, None, Result, Ok, Err, if◌then◌else◌}
use Rattle.std.specs.List.{prefix_len, suffix_len, before_first, after_first}
use Rattle.std.specs.Option.{ok_or, option_to_list}
use Rattle.std.specs.Str.{bytes_eq}
use Rattle.std.specs.Str.Lines.{lines}
use Rattle.hex.specs.Hex.{decode_of}
use Rattle.hex.specs.declared.error.FromHexError.{FromHexError}
use Rattle.mac_frame.specs.Address.{address_of}
use Rattle.ap_config.specs.declared.config.RadioConfig.{RadioConfig}
use Rattle.events.specs.declared.line.Line.{Line}
use Rattle.events.specs.declared.line.Line.TheVariants.{Air, Wire, Tick}
use Rattle.text_io.specs.Faults.{◌>>=◌}
use Rattle.trace.specs.declared.fault.TraceFault.{TraceFault}
use Rattle.trace.specs.declared.fault.LineFault.{LineFault}
use Rattle.trace.specs.declared.fault.LineFault.TheVariants.{UnknownKind, NotHexadecimal, NoAddress, UnknownNetwork}
use Rattle.trace.specs.declared.fault.LineFault.TheVariants.{TooMany}

-- ---- the limits

abbrev pub max_lines : ℕ
max_lines = 1000000

abbrev pub max_octets : ℕ
max_octets = 4096

-- ---- the faults

-- their codes, as a user meets them: `L1` to `L5`
abbrev pub code_of : LineFault → ℕ
code_of UnknownKind = 1
code_of NotHexadecimal = 2
code_of NoAddress = 3
code_of UnknownNetwork = 4
code_of TooMany = 5

-- the fault of a line, with the line's number
abbrev pub fault_in : ℕ → LineFault → TraceFault
fault_in number fault = record { code = code_of fault; line = number }

-- ---- the parts of a line

abbrev pub is_space : ℕ → Bool
is_space character = character == 32

-- a line less the spaces at its end
abbrev pub without_spaces_at_end : List ℕ → List ℕ
without_spaces_at_end line = take (length line - suffix_len is_space line) line

-- a text less the spaces at its start
abbrev pub without_spaces_at_start : List ℕ → List ℕ
without_spaces_at_start text = drop (prefix_len is_space text) text

-- Only spaces part words.
abbrev pub first_word : List ℕ → List ℕ
first_word line = before_first is_space line

abbrev pub after_first_word : List ℕ → List ℕ
after_first_word line = after_first is_space line

-- an empty line, or one that begins with `#`
abbrev pub is_skipped : List ℕ → Bool
is_skipped [] = true
is_skipped (character ∷ characters) = character == 35

-- the digits of a text of digits with spaces among them
abbrev pub digits_of : List ℕ → List ℕ
digits_of text = filter (λ character. not (is_space character)) text

-- what the digits spell, where they spell octets, and not too many
abbrev pub within_limit : Result (List ℕ) FromHexError → Result (List ℕ) LineFault
within_limit (Ok octets) = if nat_lt max_octets (length octets) then Err TooMany else Ok octets
within_limit (Err e) = Err NotHexadecimal

-- the octets that a text spells in hexadecimal digits of either case, with spaces among them; or its first fault
abbrev pub octets_of : List ℕ → Result (List ℕ) LineFault
octets_of text = within_limit (decode_of (digits_of text))

-- the addresses of a configuration's networks, in order of place: all that reading asks of it
abbrev pub bssids_of : RadioConfig → List (List ℕ)
bssids_of config = map (λ network. network.bssid) config.networks

-- the place of the network that has the address; no two have the same in a configuration without a fault
abbrev pub place_with : List ℕ → List (List ℕ) → Option ℕ
place_with address bssids = position (λ bssid. bytes_eq bssid address) bssids

-- the place of the network whose address a word spells
abbrev pub place_named : List (List ℕ) → List ℕ → Result ℕ LineFault
place_named bssids word = do
  address ← ok_or (address_of word) NoAddress
  ok_or (place_with address bssids) UnknownNetwork

-- ---- what a line says after its first word

-- `A`: a string that was heard
abbrev pub air_line : List ℕ → Result Line LineFault
air_line text = do
  octets ← octets_of text
  Ok (Air octets)

-- `W`: the address of a network, and a frame that came over the wire to it
abbrev pub wired_line : List (List ℕ) → List ℕ → Result Line LineFault
wired_line bssids text = do
  place ← place_named bssids (first_word text)
  octets ← octets_of (after_first_word text)
  Ok (Wire place octets)

-- `T`: nothing
abbrev pub tick_line : List ℕ → Result Line LineFault
tick_line [] = Ok Tick
tick_line (character ∷ characters) = Err UnknownKind

-- ---- what a line says

-- the line of a first word and the text after it
abbrev pub line_with : List (List ℕ) → List ℕ → List ℕ → Result Line LineFault
line_with bssids word text =
    if bytes_eq word (codes "A") then air_line text
    else if bytes_eq word (codes "W") then wired_line bssids (without_spaces_at_start text)
    else if bytes_eq word (codes "T") then tick_line text
    else Err UnknownKind

-- what a line less the spaces at its end says, nothing where it is skipped; or its first fault
abbrev pub content_of : List (List ℕ) → List ℕ → Result (Option Line) LineFault
content_of bssids line =
    if is_skipped line then Ok None
    else (line_with bssids (first_word line) (after_first_word line) >>= λ said. Ok (Some said))

-- what a line without its LF and a CR before that says, whatever its number
abbrev pub said_by : List (List ℕ) → List ℕ → Result (Option Line) LineFault
said_by bssids line = content_of bssids (without_spaces_at_end line)

-- ---- what a text says

-- the fault of a line, at the line's number
abbrev pub at_line : ℕ → Result (Option Line) LineFault → Result (Option Line) TraceFault
at_line number (Ok said) = Ok said
at_line number (Err fault) = Err (fault_in number fault)

-- what the line with a number says, or its first fault
abbrev pub line_of : List (List ℕ) → ℕ → List ℕ → Result (Option Line) TraceFault
line_of bssids number line =
    at_line number (if nat_lt max_lines number then Err TooMany else said_by bssids line)

-- what lines say, the first of which has this number; or the first fault
abbrev pub lines_from : List (List ℕ) → ℕ → List (List ℕ) → Result (List Line) TraceFault
lines_from bssids number [] = Ok []
lines_from bssids number (line ∷ rest) = do
  said ← line_of bssids number line
  later ← lines_from bssids (number + 1) rest
  Ok (option_to_list said ++ later)

-- What a trace text says to the networks of a configuration. Its lines are the parts that end with LF, less a CR
-- directly before it, and what follows the last LF, if anything does.
abbrev pub lines_of : RadioConfig → List ℕ → Result (List Line) TraceFault
lines_of config text = lines_from (bssids_of config) 1 (lines text)

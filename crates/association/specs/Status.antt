-- Status codes (IEEE Std 802.11-2016, 9.4.1.9, Table 9-46).
use Rattle.std.specs.Prelude.{ℕ}

-- served
abbrev pub success : ℕ
success = 0

-- refused for a reason that no other code names
abbrev pub refused : ℕ
refused = 1

-- an authentication algorithm that is not taken
abbrev pub unsupported_auth_algorithm : ℕ
unsupported_auth_algorithm = 13

-- an authentication transaction sequence number out of order
abbrev pub transaction_sequence_error : ℕ
transaction_sequence_error = 14

-- no room for another station
abbrev pub denied_no_more_stas : ℕ
denied_no_more_stas = 17

-- a basic rate is missing
abbrev pub refused_basic_rates_mismatch : ℕ
refused_basic_rates_mismatch = 18

-- Open System authentication (IEEE Std 802.11-2016, 9.3.3.12, 11.3.4.3 and 12.3.3.2): what a request says, its status,
-- and its answer.
use Rattle.std.specs.Prelude.{ℕ, ◌≡◌, Bool, not, ◌==◌, List, ◌++◌, length, Result, Ok, if◌then◌else◌}
use Rattle.std.specs.Int.{w16, to_le_bytes, from_le_bytes}
use Rattle.mac_frame.specs.Management.{authentication_subtype}
use Rattle.mac_frame.specs.declared.frame.Unread.{Unread}
use Rattle.association.specs.Management.{number_at, with_fixed, management_frame}
use Rattle.association.specs.Status.{success, refused, unsupported_auth_algorithm, transaction_sequence_error}

-- ---- what a request says, as a relation

-- Algorithm, Transaction Sequence Number, Status Code (9.4.1.1, 9.4.1.2, 9.4.1.9); what follows is ignored
pub record IsAuthenticationBody (body : List ℕ) (algorithm step : ℕ) : Type 0 where
  pub algorithm_field : List ℕ
  pub step_field : List ℕ
  pub status_field : List ℕ
  pub rest : List ℕ
  pub whole : body ≡ algorithm_field ++ step_field ++ status_field ++ rest
  pub algorithm_length : length algorithm_field ≡ 2
  pub step_length : length step_field ≡ 2
  pub status_length : length status_field ≡ 2
  pub algorithm_is : algorithm ≡ from_le_bytes w16 algorithm_field
  pub step_is : step ≡ from_le_bytes w16 step_field

-- ---- as a function

-- the octets of these three fields
abbrev pub authentication_length : ℕ
authentication_length = 6

-- the algorithm and the transaction sequence number of a body, or its fault
abbrev pub auth_of : List ℕ → Result (ℕ × ℕ) Unread
auth_of body = with_fixed authentication_length body (Ok (number_at body 0, number_at body 2))

-- ---- its status

-- Authentication Algorithm Number of Open System (9.4.1.1)
abbrev pub open_system : ℕ
open_system = 0

-- Authentication Transaction Sequence Number (9.4.1.2) of a request, and of its answer
abbrev pub request_step : ℕ
request_step = 1

abbrev pub answer_step : ℕ
answer_step = 2

-- the status of a request, where there is room for the station or not: the first that applies (profile)
abbrev pub auth_status : (algorithm step : ℕ) (room : Bool) → ℕ
auth_status algorithm step room =
    if not (algorithm == open_system) then unsupported_auth_algorithm
    else if not (step == request_step) then transaction_sequence_error
    else if not room then refused
    else success

-- ---- its answer

-- the body of an answer (9.3.3.12): algorithm, sequence number, status
abbrev pub authentication_body : (algorithm status : ℕ) → List ℕ
authentication_body algorithm status =
    to_le_bytes w16 algorithm ++ to_le_bytes w16 answer_step ++ to_le_bytes w16 status

-- an answer to a station
abbrev pub authentication : (to bss : List ℕ) (sequence algorithm status : ℕ) → List ℕ
authentication to bss sequence algorithm status =
    management_frame authentication_subtype to bss sequence (authentication_body algorithm status)

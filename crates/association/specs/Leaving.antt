-- Disassociation and deauthentication (IEEE Std 802.11-2016, 9.3.3.5 and 9.3.3.13): what the body of one says, and the
-- notice by which a network ends what a station had with it, of which a reason code (9.4.1.7) is the whole body.
use Rattle.std.specs.Prelude.{ℕ, ◌≡◌, List, ◌++◌, length, Result, Ok}
use Rattle.std.specs.Int.{w16, to_le_bytes}
use Rattle.station_state.specs.declared.class.Notice.{Notice}
use Rattle.station_state.specs.declared.class.Notice.TheVariants.{Deauthenticate, Disassociate}
use Rattle.mac_frame.specs.Management.{disassociation_subtype, deauthentication_subtype}
use Rattle.mac_frame.specs.declared.frame.Unread.{Unread}
use Rattle.association.specs.Management.{number_at, with_fixed, management_frame}

-- ---- what a body says, as a relation

-- a Reason Code (9.4.1.7), which is ignored, as is what follows
pub record IsReasonBody (body : List ℕ) : Type 0 where
  pub reason_field : List ℕ
  pub rest : List ℕ
  pub whole : body ≡ reason_field ++ rest
  pub reason_length : length reason_field ≡ 2

-- ---- as a function

-- the octets of that field
abbrev pub reason_field_length : ℕ
reason_field_length = 2

-- the reason of a body, or its fault
abbrev pub reason_of : List ℕ → Result ℕ Unread
reason_of body = with_fixed reason_field_length body (Ok (number_at body 0))

-- ---- the notice that is sent

-- the frame of a notice to a station
abbrev pub notice_frame : (to bss : List ℕ) (sequence : ℕ) → Notice → List ℕ
notice_frame to bss sequence (Deauthenticate reason) =
    management_frame deauthentication_subtype to bss sequence (to_le_bytes w16 reason)
notice_frame to bss sequence (Disassociate reason) =
    management_frame disassociation_subtype to bss sequence (to_le_bytes w16 reason)

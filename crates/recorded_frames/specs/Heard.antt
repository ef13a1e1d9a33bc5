-- Frames that were on the air, and what one is for a network.
use Rattle.std.specs.Prelude.{ℕ, ◌≡◌, Bool, true, List, Result}
use Rattle.mac_frame.specs.Hearing.{is_heard}
use Rattle.mac_frame.specs.declared.frame.Unread.{Unread}
use Rattle.association.specs.Request.{Request, request_of}
use Rattle.recorded_frames.specs.Octets.{AreOctets}

-- The octets from Frame Control to the end of the body. Spaces part the fields: Frame Control with Duration (in a PS-Poll
-- with AID), Address 1, Address 2, Address 3, Sequence Control; then each fixed field, and each element. One of more than
-- 16 octets has a space after each 16. The elements behind the rates are named at the end of their line.
pub record Heard : Type 0 where
  pub octets : List ℕ
  -- a network
  pub bss : List ℕ
  -- whether it hears the frame
  pub hears : Bool
  -- the request that the frame is for it, or the first fault
  pub reads : Result Request Unread

-- a frame that the network hears
abbrev pub heard : List ℕ → List ℕ → Result Request Unread → Heard
heard bss octets reads = record { octets = octets; bss = bss; hears = true; reads = reads }

-- the definitions say so of octets
abbrev pub IsReadSo : Heard → Type 0
IsReadSo h =
    AreOctets h.octets × (is_heard h.bss h.octets ≡ h.hears) × (request_of h.bss h.octets ≡ h.reads)

-- What is told of a frame that was heard.
use Rattle.std.specs.Prelude.{ℕ, Bool, List}
use Rattle.mac_frame.specs.declared.frame.Rx.{Rx}
use Rattle.mac_frame.specs.declared.frame.Rx.TheVariants as rx

-- a frame without where its body lies in memory
pub data Frame : Type 0 where
  -- a management frame (IEEE Std 802.11-2016, 9.3.3), by its subtype, and whether it is sent to all
  Mgmt : (subtype : ℕ) (from : List ℕ) (to_all : Bool) (body : List ℕ) → Frame
  -- a Data frame (9.3.2.1): whether its station dozes from now on, for whom the body is, and the body
  Msdu : (from : List ℕ) (doze : Bool) (to body : List ℕ) → Frame
  -- a Null frame (9.3.2.1): whether its station dozes from now on
  Null : (from : List ℕ) (doze : Bool) → Frame
  -- a PS-Poll frame (9.3.1.5), by the identifier that it names
  Poll : (from : List ℕ) (aid : ℕ) → Frame

abbrev pub shown : Rx → Frame
shown (rx.Mgmt subtype from to_all body) = Mgmt subtype from to_all body.now
shown (rx.Msdu from doze to body) = Msdu from doze to body.now
shown (rx.Null from doze) = Null from doze
shown (rx.Poll from aid) = Poll from aid

-- Which classes of frames are taken from a station (IEEE Std 802.11-2016, 11.3.3), and what is sent for any other.
use Rattle.std.specs.Prelude.{ℕ, Option, Some, None}
use Rattle.station_state.specs.declared.Standing.{Standing}
use Rattle.station_state.specs.declared.Standing.TheVariants.{Unknown, Authenticated, Associated}
use Rattle.station_state.specs.declared.class.Class.{Class}
use Rattle.station_state.specs.declared.class.Class.TheVariants.{One, Two, Three}
use Rattle.station_state.specs.declared.class.Notice.{Notice}
use Rattle.station_state.specs.declared.class.Notice.TheVariants.{Deauthenticate, Disassociate}

-- ---- reasons (9.4.1.7, Table 9-45)

-- a Class 2 frame from a station that is not authenticated
abbrev pub invalid_class_2_frame : ℕ
invalid_class_2_frame = 6

-- a Class 3 frame from a station that is not associated
abbrev pub invalid_class_3_frame : ℕ
invalid_class_3_frame = 7

-- ---- what is sent

-- For a frame that is not taken: a station is told that it is not authenticated, or that it is not associated. The
-- reason goes by the frame's class (profile).
abbrev pub class_fault : Standing → Class → Option Notice
class_fault Unknown One = None
class_fault Unknown Two = Some (Deauthenticate invalid_class_2_frame)
class_fault Unknown Three = Some (Deauthenticate invalid_class_3_frame)
class_fault Authenticated Three = Some (Disassociate invalid_class_3_frame)
class_fault Authenticated _ = None
class_fault Associated _ = None

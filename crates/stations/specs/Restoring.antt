-- A station that is restored as it was known before, as by a program that starts again (profile): which rows are taken,
-- and what becomes of the table (IEEE Std 802.11-2016, 11.3.1).
use Rattle.std.specs.Prelude.{ℕ, ◌≡◌, nat_le, Bool, not, ◌&&◌, List, length, Option, Some, None, is_some, if◌then◌else◌}
use Rattle.aid_pool.specs.LeastFree.{is_among}
use Rattle.station_state.specs.declared.state.StationState.{StationState}
use Rattle.station_state.specs.declared.state.StationState.TheVariants.{Authenticated, Associated}
use Rattle.stations.specs.Stations.{Table, state_of, identifiers, set_state}
use Rattle.stations.specs.declared.restoring.RestoreFault.{RestoreFault}
use Rattle.stations.specs.declared.restoring.RestoreFault.TheVariants.{Known, Full, NoAid, NoMemory}

-- an identifier that no station of a table has (9.4.1.8)
abbrev pub is_free : ℕ → Table → Bool
is_free aid table = nat_le 1 aid && nat_le aid 2007 && not (is_among (identifiers table) aid)

-- where at most `most` may be associated, why this state can't be restored, if it can't
abbrev pub state_fault : (most : ℕ) → StationState → Table → Option RestoreFault
state_fault most Authenticated table = None
state_fault most (Associated aid listen doze) table =
    if nat_le most (length (identifiers table)) then Some Full else if is_free aid table then None else Some NoAid

-- where at most `known` may be known beside, the first reason why this station can't be restored, if it can't
abbrev pub restore_fault : (most known : ℕ) → List ℕ → StationState → Table → Option RestoreFault
restore_fault most known addr state table =
    if is_some (state_of addr table) then Some Known
    else if nat_le known (length table) then Some Full else state_fault most state table

-- that, or memory ran out where there is no such reason
abbrev pub MayRefuse : Option RestoreFault → RestoreFault → Type 0
MayRefuse None fault = fault ≡ NoMemory
MayRefuse (Some first) fault = fault ≡ first

-- it stands last, as after its authentication, with the state that it had
abbrev pub restored : List ℕ → StationState → Table → Table
restored addr state table = set_state addr state table

use Rattle.std.proofs.Common.{◌-◌, ◌<◌, ◌≤◌, ◌+◌, length, slice_index}
use Rattle.address_map.proofs.order.past.Given as goal

-- what is past the places before the low one is past their number more, and what is past one from the high one on isn't
abbrev pub invariant-loop-low : goal.invariant-loop-low
invariant-loop-low l = record {
  order : l.low ≤ l.high;
  within : l.high ≤ length l.gone;
  below : 0 < l.low → slice_index l.gone (l.low - 1) < l.place + l.low;
  above : l.high < length l.gone → l.place + l.high < slice_index l.gone l.high;
}

abbrev pub decreases-loop-low : goal.decreases-loop-low
decreases-loop-low l = l.high - l.low

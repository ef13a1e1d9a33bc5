-- The networks of a configuration, as the code has them.
use Rattle.std.specs.Prelude.{◌≤◌}
use Rattle.std.specs.List.{AllByRecursion}
use Rattle.live_rules.specs.Moments.{Moment}

-- What holds between two lines: no network took more events than lines ended.
abbrev pub IsMoment : Moment → Type 0
IsMoment m = AllByRecursion (λ n. n.events ≤ m.lines) m.networks

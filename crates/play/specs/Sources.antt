-- The lines of sources, as whoever plays them keeps them (profile).
use Rattle.std.specs.Prelude.{List, map}
use Rattle.events.specs.declared.line.Line.{Line}
use Rattle.play.specs.declared.sources.Sources.{Sources}
use Rattle.play.specs.declared.sources.Sources.TheVariants.{Logs, Lists}

-- the lines of each source
abbrev pub lists_of : Sources → List (List Line)
lists_of (Logs logs) = logs.now
lists_of (Lists lists) = map (λ lines. lines.items) lists.now

-- What is told of a network, however it is kept and in whichever form its lines are written: a report is that of sections,
-- each line as it stands.
use Rattle.std.specs.Prelude.{ℕ, List, ◌++◌, length, codes, flat_map}
use Rattle.ap_config.specs.declared.config.NetConfig.{NetConfig}
use Rattle.events.specs.declared.section.Counts.{Counts}
use Rattle.events.specs.declared.section.Section.{Section}
use Rattle.events.specs.declared.section.StationRow.{StationRow}
use Rattle.text_io.specs.Texts.{ended}
use Rattle.report.specs.Report.{network_line, counts_line, station_line, frame_line}
use Rattle.report.specs.declared.lines.Totals.{Totals}

-- what is told of a network
pub record Told : Type 0 where
  pub config : NetConfig
  pub events : ℕ
  pub counts : Counts
  pub table : List StationRow
  pub air : List (List ℕ)
  pub wire : List (List ℕ)

-- of the network of a section, whose history says how many events it took
abbrev pub told_of : Section → Told
told_of section = record {
  config = section.config;
  events = length section.events;
  counts = section.counts;
  table = section.table;
  air = section.air;
  wire = section.wire;
}

-- the counts that a line tells, as a section has them
abbrev pub counts_in : Totals → Counts
counts_in totals = record {
  events = totals.events;
  clock = totals.clock;
  unread = totals.unread;
  lost = totals.lost;
  kept = totals.kept;
}

-- ---- lines in a form

-- before its frames: its name, its counts and its stations, each line written in a form
abbrev pub heading_in : (List ℕ → List ℕ) → Told → List ℕ
heading_in form told =
    form (network_line told.config) ++ form (counts_line told.events told.counts)
    ++ flat_map (λ row. form (station_line row)) told.table

-- what it did: its heading, then the frames that it sent on the air, then those on the wire
abbrev pub section_in : (List ℕ → List ℕ) → Told → List ℕ
section_in form told =
    heading_in form told ++ flat_map (frame_line (codes "air ")) told.air
    ++ flat_map (frame_line (codes "wire ")) told.wire
    ++ form (ended (codes "end"))

-- each line as it stands, in which a section is its text
abbrev pub as_text : List ℕ → List ℕ
as_text line = line

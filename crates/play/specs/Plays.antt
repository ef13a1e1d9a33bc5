-- What the lines of several sources make of the networks of a configuration (profile).
use Rattle.std.specs.Prelude.{◌≡◌, Bool, false, List, [], map}
use Rattle.std.specs.List.{enumerate_from}
use Rattle.networks.specs.WithFrames.{after_events}
use Rattle.networks.specs.declared.network_with_frames.NetworkWithFrames.{NetworkWithFrames}
use Rattle.air_queue.specs.Passes.{QueueName}
use Rattle.ap_config.specs.Places.{setting_at}
use Rattle.ap_config.specs.declared.config.RadioConfig.{RadioConfig}
use Rattle.events.specs.declared.line.Line.{Line}
use Rattle.events.specs.declared.section.Section.{Section}
use Rattle.play.specs.Played.{IsPlayOf}
use Rattle.play.specs.declared.finished.Finished.{Finished}

-- the networks of sections with their frames, in order of place
abbrev pub networks_after : RadioConfig → List Section → List NetworkWithFrames
networks_after config sections =
    map (λ s. after_events (setting_at config s.0) s.1.events) (enumerate_from 0 sections)

-- Networks with their frames are those of what an access point ends with that was fed by sources of these lines.
abbrev pub IsPlayWithFrames : RadioConfig → List (List Line) → List NetworkWithFrames → Type 0
IsPlayWithFrames config sources logs =
    (end : Finished) × IsPlayOf config sources end × (logs ≡ networks_after config end.sections)

-- which play it is: the configuration, the lines of each source, the name of the air queue, and whether it is kept who
-- gave each event, and what left in its order
pub record PlayView : Type 0 where
  pub config : RadioConfig
  pub sources : List (List Line)
  pub queue : QueueName
  pub keeps : Bool

-- what names no configuration
abbrev pub no_config : RadioConfig
no_config = record { channel = 0; interval = 0; queue = 0; networks = [] }

-- what names no air queue
abbrev pub no_queue : QueueName
no_queue = record { words = 0; slots = 0; views_name = 0; atom = 0; block = 0; offset = 0; slot_names = [] }

-- what names no play
abbrev pub no_play : PlayView
no_play = record { config = no_config; sources = []; queue = no_queue; keeps = false }

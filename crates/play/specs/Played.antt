-- What of the events of networks is dealt to each of several sources (profile).
use Rattle.std.specs.Prelude.{ℕ, ◌≡◌, ◌<◌, List, [], length, Some, slice_get, slice_index_or}
use Rattle.ap_config.specs.Places.{network_at}
use Rattle.ap_config.specs.declared.config.RadioConfig.{RadioConfig}
use Rattle.events.specs.Lines.{heard}
use Rattle.events.specs.Lists.{IsPrefix}
use Rattle.events.specs.declared.event.Event.{Event}
use Rattle.events.specs.declared.line.Line.{Line}
use Rattle.events.specs.declared.section.Section.{Section}
use Rattle.play.specs.Givers.{dealt, AreGivers, histories_of}
use Rattle.play.specs.Sections.{AreSections, HaveLeft, ArePlaced}
use Rattle.play.specs.declared.finished.Finished.{Finished}

-- what is dealt to source i of the events of the network at a place
abbrev pub dealt_at : ℕ → List Event → List (List ℕ) → ℕ → List Event
dealt_at place events givers i = dealt (slice_index_or givers place []) events i

-- what the network at a place hears of the lines of source i: nothing where there is no such source
abbrev pub heard_from : RadioConfig → ℕ → List (List Line) → ℕ → List Event
heard_from config place sources i = heard place (network_at config place).bssid (slice_index_or sources i [])

-- The events of a network that a source gave are the first of those that the network hears of the source's lines, in
-- their order, and all of them where the network has taken fewer events than it may.
pub record IsPlayed (config : RadioConfig) (sources : List (List Line)) (givers : List (List ℕ)) (place : ℕ)
    (section : Section) (i : ℕ) : Type 0 where
  pub first : IsPrefix (dealt_at place section.events givers i) (heard_from config place sources i)
  pub whole : length section.events < section.config.max_events
      → dealt_at place section.events givers i ≡ heard_from config place sources i

-- for each network and each source
abbrev pub ArePlayed : RadioConfig → List (List Line) → List Section → List (List ℕ) → Type 0
ArePlayed config sources sections givers =
    (place : ℕ) (section : Section) → slice_get sections place ≡ Some section
    → (i : ℕ) → IsPlayed config sources givers place section i

-- ---- all that is promised

-- What an access point of this configuration ended with that was fed by sources of these lines: each section is that of
-- the network alone, with as many events at most as it may take; what left of a network is all that it sent, and
-- nothing else left; each event was given by one source; and what a source gave a network are the first of those events
-- that the network hears of the source's lines, all of them where the network is not full.
pub record IsPlayOf (c : RadioConfig) (sources : List (List Line)) (end : Finished) : Type 0 where
  pub networks : length end.sections ≡ length c.networks
  pub sections : AreSections c end.sections
  pub air : HaveLeft end.sections end.left
  pub nothing_else : ArePlaced c end.left
  pub givers : AreGivers (length sources) (histories_of end.sections) end.givers
  pub played : ArePlayed c sources end.sections end.givers

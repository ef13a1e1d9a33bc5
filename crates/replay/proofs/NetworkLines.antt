-- The networks without their histories take a line.
use Rattle.std.proofs.Common.{◌≡◌, ℕ, zero, suc, ◌+◌, List, [], ◌∷◌, ◌++◌, length, map, get_or}
use Rattle.std.proofs.Common.{Option, Some, None, refl, sym, ap, ◌∙◌}
use Rattle.std.specs.Prelude.{flat_map}
use Rattle.std.specs.List.{AllByRecursion, range_with_len}
use Rattle.std.proofs.lemmas.List.{get_or-map, length-map}
use Rattle.std.proofs.lemmas.List.FromFn.{fill_by_all}
use Rattle.ap_config.specs.Places.{network_at, no_network, setting_at, setting_in}
use Rattle.ap_config.specs.declared.config.NetConfig.{NetConfig}
use Rattle.ap_config.specs.declared.config.RadioConfig.{RadioConfig}
use Rattle.ap_config.specs.declared.setting.Setting.{Setting}
use Rattle.events.specs.Lines.{event_for, own_events, taken_of}
use Rattle.events.specs.declared.event.Event.{Event}
use Rattle.events.specs.declared.line.Line.{Line}
use Rattle.network.specs.Section.{sections_of, sections_of_lines}
use Rattle.report.specs.Report.{report_text}
use Rattle.networks.specs.WithFrames.{TakesUnlessFull, after_events}
use Rattle.networks.specs.Takes.{Takes, TakesIf, change, dispatch}
use Rattle.network_report.specs.NetworkText.{networks_after, networks_after_lines, network_text}
use Rattle.networks.specs.declared.network_with_frames.NetworkWithFrames.{NetworkWithFrames}
use Rattle.replay.proofs.LineSteps.{taken-none, taken-some}
use Rattle.replay.proofs.ReplayLemmas.{own_events-none, own_events-push}

-- ---- the networks of a configuration

-- before any line
pub networks-fresh : (c : RadioConfig) (networks : List NetworkWithFrames)
    → networks ≡ map (λ n. after_events (setting_in c n) []) c.networks → networks ≡ networks_after_lines c []
networks-fresh c networks fresh =
    let f : ℕ → NetworkWithFrames = λ place. after_events (setting_at c place) (own_events place (network_at c place) []) in
    let g : NetConfig → NetworkWithFrames = λ n. after_events (setting_in c n) [] in
    fill_by_all f networks (length c.networks) (f 0) (ap length fresh ∙ length-map c.networks g)
    (λ k lt.
    ap (λ (l : List NetworkWithFrames). get_or l k (f 0)) fresh
    ∙ get_or-map g c.networks k no_network (f 0) lt
    ∙ ap (after_events (setting_at c k)) (sym (own_events-none k (network_at c k))))

-- after one more: each network, by its place, took what it hears of the line
taken-map : {O : Type 0} (f g : ℕ → NetworkWithFrames) (line : Line)
    → ((place : ℕ) (m : NetworkWithFrames) (old new : O)
    → TakesIf (λ e n _. TakesUnlessFull e n.old n.new) (event_for place (f place).network.setting.network.bssid line) (change (f place) m)
    (change old new)
    → m ≡ g place)
    → (count first : ℕ) (next : List NetworkWithFrames) (old new : O)
    → Takes (dispatch (λ n. n.network.setting.network.bssid) (λ e n _. TakesUnlessFull e n.old n.new) line first)
    (map f (range_with_len first count)) next (change old new)
    → next ≡ map g (range_with_len first count)
taken-map f g line each zero first next old new h = h.0
taken-map f g line each (suc count) first [] old new h = absurd h
taken-map f g line each (suc count) first (m ∷ ms) old new h =
    λ k. each first m old h.0 h.1 k ∷ taken-map f g line each count (first + 1) ms h.0 new h.2 k

taken-if : {O : Type 0} (place : ℕ) (s : Setting) (es : List Event) (line : Line) (m : NetworkWithFrames) (old new : O)
    → (event : Option Event) → event_for place s.network.bssid line ≡ event
    → TakesIf (λ e n _. TakesUnlessFull e n.old n.new) event (change (after_events s es) m) (change old new)
    → m ≡ after_events s (es ++ taken_of place s.network es line)
taken-if place s es line m old new None is h =
    h.0 ∙ ap (after_events s) (taken-none place s.network es line is)
taken-if place s es line m old new (Some e) is h =
    h s es refl
    ∙ ap (λ (added : List Event). after_events s (es ++ added)) (taken-some place s.network es line e is)

pub networks-line : {O : Type 0} (c : RadioConfig) (said : List Line) (line : Line) (old new : List NetworkWithFrames) (a b : O)
    → old ≡ networks_after_lines c said
    → Takes (dispatch (λ n. n.network.setting.network.bssid) (λ e n _. TakesUnlessFull e n.old n.new) line 0) old new (change a b)
    → new ≡ networks_after_lines c (said ++ line ∷ [])
networks-line c said line old new a b was takes =
    taken-map
    (λ k. after_events (setting_at c k) (own_events k (network_at c k) said))
    (λ k. after_events (setting_at c k) (own_events k (network_at c k) (said ++ line ∷ [])))
    line
    (λ k m x y h.
    taken-if k (setting_at c k) (own_events k (network_at c k) said) line m x y
    (event_for k (network_at c k).bssid line) refl h
    ∙ ap (after_events (setting_at c k)) (sym (own_events-push k (network_at c k) said line)))
    (length c.networks) 0 new a b
    (rw was at takes)

-- every network may take a line
pub all-may : (ns : List NetworkWithFrames) → AllByRecursion (λ _. Unit {0}) ns
all-may [] = tt
all-may (n ∷ ns) = (tt, all-may ns)

-- the report of them is that of the sections, since it is where each is alone with events
pub report-networks : (c : RadioConfig) (said : List Line) (networks : List NetworkWithFrames) → networks ≡ networks_after_lines c said
    → ((d : RadioConfig) (events_at : ℕ → List Event)
    → flat_map network_text (networks_after d events_at) ≡ report_text (sections_of d events_at))
    → flat_map network_text networks ≡ report_text (sections_of_lines c said)
report-networks c said networks are law =
    ap (flat_map network_text) are ∙ law c (λ k. own_events k (network_at c k) said)

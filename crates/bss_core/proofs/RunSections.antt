-- The sections that a run ends with.
use Rattle.std.proofs.Common.{◌≡◌, ℕ, ◌+◌, ◌<◌, List, [], ◌∷◌, ◌++◌, length, map, get_or, false, sym, ap, ◌∙◌, arith, zero-add}
use Rattle.std.specs.List.{enumerate_from}
use Rattle.std.proofs.lemmas.List.{append_assoc, length_push, length-map, get_or-map}
use Rattle.std.proofs.lemmas.List.FromFn.{fill_by_all, length-enumerate_from, get_or-enumerate_from}
use Rattle.ap_config.specs.declared.setting.Setting.{Setting}
use Rattle.network.specs.Network.{alone, table_of, counts_of}
use Rattle.ap_config.specs.Places.{setting_in, setting_at, no_network}
use Rattle.events.specs.Items.{items_of}
use Rattle.bss_core.specs.Radio.{after_steps, waiting_at, part_of, sections_after}
use Rattle.bss_core.specs.RadioView.{RadioView, NetworkView, unused, view_at, settings_of, shown}
use Rattle.bss_core.specs.Running.{IsAt, frames_of, sections_with}
use Rattle.network.specs.BssView.{section_with, BssView}
use Rattle.network.specs.Section.{section_of}
use Rattle.events.specs.declared.event.Event.{Event}
use Rattle.events.specs.declared.section.Section.{Section}
use Rattle.events.specs.declared.air_item.AirItem.{AirItem}
use Rattle.bss_core.specs.declared.radio.step.Step.{Step}
use Rattle.bss_core.proofs.FrameLaws.{FrameLaws}
use Rattle.bss_core.proofs.RadioFrames.{frames-alone}
use Rattle.bss_core.proofs.RadioSteps.{events-part}

-- one section more
pub ended-next : (left queued : List AirItem) (done : List Section) (s : BssView) (rest : List BssView) → done ++ map (λ n. section_with (frames_of left queued n.0 n.1) n.1) (enumerate_from (length done) (s ∷ rest)) ≡ (done ++ section_with (frames_of left queued (length done) s) s ∷ []) ++ map (λ n. section_with (frames_of left queued n.0 n.1) n.1) (enumerate_from (length (done ++ section_with (frames_of left queued (length done) s) s ∷ [])) rest)
ended-next left queued done s rest =
    let one : Section = section_with (frames_of left queued (length done) s) s in
    let more : ℕ → List Section = λ place. map (λ (n : ℕ × BssView). section_with (frames_of left queued n.0 n.1) n.1) (enumerate_from place rest) in
    sym (append_assoc done (one ∷ []) (more (length done + 1)))
    ∙ ap (λ place. (done ++ one ∷ []) ++ more place) (sym (length_push done one))

-- a section by its parts
section-by : (s : BssView) (t : Setting) (es : List Event) (air : List (List ℕ)) → s.setting ≡ t → s.history ≡ es → air ≡ (alone t es).air → section_with air s ≡ section_of t es
section-by s t es air setting history frames =
    let by : Setting → List Event → List (List ℕ) → Section = λ (u : Setting) (h : List Event) (fs : List (List ℕ)). record { config = u.network; events = h; table = table_of (alone u h); counts = counts_of (length h) (alone u h); air = fs; wire = (alone u h).wire } in
    ap (λ (u : Setting). by u s.history air) setting ∙ ap (λ (h : List Event). by t h air) history
    ∙ ap (by t es) frames

-- the network at a place ends with its section
section-at : FrameLaws → (r : RadioView) (steps : List Step) (gone : List AirItem) (place : ℕ) (s : BssView) → place < length r.config.networks → IsAt (after_steps r.config steps) r gone → s.setting ≡ setting_at r.config place → shown s ≡ view_at r place → section_with (frames_of gone r.queue place s) s ≡ section_of (setting_at r.config place) (part_of r.config place steps)
section-at laws r steps gone place s within h setting shows =
    let t = after_steps r.config steps in
    let history : s.history ≡ part_of r.config place steps = ap (λ (v : NetworkView). v.history) shows ∙ h.history place within ∙ events-part r.config steps place within in
    let waiting : s.waiting ≡ waiting_at r.config t place = ap (λ (v : NetworkView). v.waiting) shows ∙ h.waiting place within in
    let frames : frames_of gone r.queue place s ≡ (alone (setting_at r.config place) (part_of r.config place steps)).air = ap (λ (items : List AirItem). items_of place items ++ items_of place r.queue ++ s.waiting) h.left ∙ ap (λ (items : List AirItem). items_of place t.left ++ items_of place items ++ s.waiting) h.queue ∙ ap (λ (fs : List (List ℕ)). items_of place t.left ++ items_of place t.queue ++ fs) waiting ∙ frames-alone laws r.config steps place within in
    section-by s (setting_at r.config place) (part_of r.config place steps) (frames_of gone r.queue place s) setting history frames

-- every network ends with its section, in order of place
pub ended-sections : FrameLaws → (r : RadioView) (steps : List Step) (gone : List AirItem) (states : List BssView) → IsAt (after_steps r.config steps) r gone → map (λ (s : BssView). s.setting) states ≡ settings_of r.config → map shown states ≡ r.networks → sections_with gone r.queue states ≡ sections_after r.config steps
ended-sections laws r steps gone states h settings views = fill_by_all (λ place. section_of (setting_at r.config place) (part_of r.config place steps)) _ count (section_of (setting_at r.config 0) []) (all_sections ∙ all_states) each
  where
    count : ℕ
    count = length r.config.networks

    all_states : length states ≡ count
    all_states =
        sym (length-map states (λ (s : BssView). s.setting)) ∙ ap length settings
        ∙ length-map r.config.networks (setting_in r.config)

    all_sections : length (sections_with gone r.queue states) ≡ length states
    all_sections = length-map (enumerate_from 0 states) _ ∙ length-enumerate_from 0 states

    each : (place : ℕ) → place < count → get_or (sections_with gone r.queue states) place (section_of (setting_at r.config 0) []) ≡ section_of (setting_at r.config place) (part_of r.config place steps)
    each place within =
        let t : Setting = setting_at r.config place in
        let d : BssView = record { setting = t; history = []; waiting = []; has_slot = false } in
        let s : BssView = get_or states place d in
        let inside : place < length states = omega (arith, all_states) in
        let setting : s.setting ≡ t = sym (get_or-map (λ (u : BssView). u.setting) states place d t inside) ∙ ap (λ (ts : List Setting). get_or ts place t) settings ∙ get_or-map (setting_in r.config) r.config.networks place no_network t within in
        let shows : shown s ≡ view_at r place = sym (get_or-map shown states place d unused inside) ∙ ap (λ (vs : List NetworkView). get_or vs place unused) views in
        get_or-map (λ (n : ℕ × BssView). section_with (frames_of gone r.queue n.0 n.1) n.1) (enumerate_from 0 states) place (0, d) _ (omega (arith, length-enumerate_from 0 states))
        ∙ ap (λ (n : ℕ × BssView). section_with (frames_of gone r.queue n.0 n.1) n.1) (get_or-enumerate_from 0 states place (0, d) inside)
        ∙ ap (λ p. section_with (frames_of gone r.queue p s) s) (zero-add place)
        ∙ section-at laws r steps gone place s within h setting shows

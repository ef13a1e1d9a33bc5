-- A report of networks that keep no history is that of their sections.
use Rattle.std.proofs.Common.{◌≡◌, ℕ, List, [], ◌∷◌, ◌++◌, length, refl, sym, ap, ◌∙◌}
use Rattle.std.specs.Prelude.{flat_map}
use Rattle.std.specs.List.{range_with_len}
use Rattle.std.proofs.lemmas.List.Folds.{flat_map-map}
use Rattle.ap_config.specs.Places.{setting_at}
use Rattle.ap_config.specs.declared.config.RadioConfig.{RadioConfig}
use Rattle.ap_config.specs.declared.setting.Setting.{Setting}
use Rattle.events.specs.declared.event.Event.{Event}
use Rattle.network.specs.Section.{section_of, sections_of}
use Rattle.report.specs.Report.{report_text, section_text}
use Rattle.networks.specs.WithFrames.{after_events}
use Rattle.network_report.specs.NetworkText.{network_text, networks_after}

pub text_of_one : (s : Setting) (es : List Event) → network_text (after_events s es) ≡ section_text (section_of s es)
unfolding section_text
text_of_one s es = refl

flat-same : (f g : ℕ → List ℕ) (ks : List ℕ) → ((k : ℕ) → f k ≡ g k) → flat_map f ks ≡ flat_map g ks
flat-same f g [] same = refl
flat-same f g (k ∷ ks) same =
    ap (λ (t : List ℕ). t ++ flat_map f ks) (same k) ∙ ap (λ (t : List ℕ). g k ++ t) (flat-same f g ks same)

pub text_of_all : (c : RadioConfig) (events_at : ℕ → List Event)
    → flat_map network_text (networks_after c events_at) ≡ report_text (sections_of c events_at)
text_of_all c events_at =
    let s : ℕ → Setting = setting_at c in
    let places : List ℕ = range_with_len 0 (length c.networks) in
    flat_map-map network_text (λ k. after_events (s k) (events_at k)) places
    ∙ flat-same (λ k. network_text (after_events (s k) (events_at k))) (λ k. section_text (section_of (s k) (events_at k))) places
    (λ k. text_of_one (s k) (events_at k))
    ∙ sym (flat_map-map section_text (λ k. section_of (s k) (events_at k)) places)

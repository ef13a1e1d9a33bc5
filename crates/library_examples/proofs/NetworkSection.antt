-- The section of a network that sent all that it had to send.
use Rattle.std.proofs.Common.{◌≡◌, ℕ, List, [], ◌∷◌, length, refl, ap, ◌∙◌, arith}
use Rattle.network.specs.BssView.{BssView, network_of, section_with}
use Rattle.ap_config.specs.declared.setting.Setting.{Setting}
use Rattle.network.specs.Section.{section_of}
use Rattle.events.specs.declared.event.Event.{Event}

pub section_by : (b : BssView) (s : Setting) (es : List Event) (sent : List (List ℕ)) → b.setting ≡ s
    → b.history ≡ es → sent ≡ (network_of b).air → section_with sent b ≡ section_of s es
section_by b s es sent setting history air =
    ap (λ (frames : List (List ℕ)). section_with frames b) air
    ∙ ap (λ (t : Setting). section_of t b.history) setting
    ∙ ap (section_of s) history

pub no_items : (es : List Event) → length es ≡ 0 → es ≡ []
no_items [] none = refl
no_items (e ∷ es) none = absurd (omega (arith, none))

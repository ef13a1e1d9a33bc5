-- What contracts see of a radio: as it opens.
use Rattle.std.proofs.Common.{◌≡◌, ℕ, List, [], ◌∷◌, map, None, refl, sym, ap, subst, ◌∙◌, arith}
use Rattle.std.proofs.lemmas.List.{length-map, get_or-map}
use Rattle.events.specs.Lists.{IsSuffix}
use Rattle.ap_config.specs.Configuration.{fault_of}
use Rattle.ap_config.specs.declared.setting.Setting.{Setting}
use Rattle.network.specs.Network.{alone}
use Rattle.ap_config.specs.Places.{network_at, setting_at}
use Rattle.bss_core.specs.RadioView.{NetworkView, unused, view_at, settings_of, shown, config_of, radio_of, IsSoundRadio, fresh_radio}
use Rattle.network.specs.BssView.{opened, BssView}
use Rattle.ap_config.specs.declared.config.NetConfig.{NetConfig}
use Rattle.ap_config.specs.declared.config.RadioConfig.{RadioConfig}
use Rattle.events.specs.declared.air_item.AirItem.{AirItem}

-- ---- networks that open

networks-opened : (channel interval : ℕ) (ns : List NetConfig) → map (λ (s : BssView). s.setting.network) (map (opened channel interval) ns) ≡ ns
networks-opened channel interval [] = refl
networks-opened channel interval (n ∷ ns) = ap (λ (ms : List NetConfig). n ∷ ms) (networks-opened channel interval ns)

views-opened : (channel interval : ℕ) (ns : List NetConfig) → map shown (map (opened channel interval) ns) ≡ map (λ _. unused) ns
views-opened channel interval [] = refl
views-opened channel interval (n ∷ ns) = ap (λ (vs : List NetworkView). unused ∷ vs) (views-opened channel interval ns)

settings-opened : (channel interval : ℕ) (ns : List NetConfig) → map (λ (s : BssView). s.setting) (map (opened channel interval) ns) ≡ map (λ n. record { channel = channel; interval = interval; network = n }) ns
settings-opened channel interval [] = refl
settings-opened channel interval (n ∷ ns) = ap (λ (ss : List Setting). (record { channel = channel; interval = interval; network = n }) ∷ ss) (settings-opened channel interval ns)

-- a radio that opens is fresh
pub radio-opened : (c : RadioConfig) (states : List BssView) (items : List AirItem) → states ≡ map (opened c.channel c.interval) c.networks → items ≡ [] → radio_of c.channel c.interval c.queue states items ≡ fresh_radio c
radio-opened c states items opens empty =
    ap (λ (ss : List BssView). radio_of c.channel c.interval c.queue ss items) opens
    ∙ ap (λ (q : List AirItem). radio_of c.channel c.interval c.queue (map (opened c.channel c.interval) c.networks) q) empty
    ∙ ap (λ (ns : List NetConfig). record (fresh_radio c) { config = record c { networks = ns }; networks = map shown (map (opened c.channel c.interval) c.networks) }) (networks-opened c.channel c.interval c.networks)
    ∙ ap (λ (vs : List NetworkView). record (fresh_radio c) { networks = vs }) (views-opened c.channel c.interval c.networks)

-- its networks have its settings
pub settings-fresh : (c : RadioConfig) (states : List BssView) → states ≡ map (opened c.channel c.interval) c.networks → map (λ (s : BssView). s.setting) states ≡ settings_of (config_of c.channel c.interval c.queue states)
settings-fresh c states opens =
    ap (map (λ (s : BssView). s.setting)) opens ∙ settings-opened c.channel c.interval c.networks
    ∙ ap (λ (ns : List NetConfig). settings_of (record c { networks = ns })) (sym (ap (map (λ (s : BssView). s.setting.network)) opens ∙ networks-opened c.channel c.interval c.networks))

empty_suffix : (s : Setting) → IsSuffix unused.waiting (alone s unused.history).air
unfolding alone
empty_suffix s = ([], refl)

pub sound-fresh : (c : RadioConfig) → fault_of c ≡ None → IsSoundRadio (fresh_radio c)
sound-fresh c accepted = record {
  accepted = accepted;
  whole = length-map c.networks (λ _. unused);
  bounded = omega arith;
  placed = λ k d h. absurd (omega arith);
  last = λ place within.
      let view : view_at (fresh_radio c) place ≡ unused = get_or-map (λ _. unused) c.networks place (network_at c place) unused within in
      subst (λ (v : NetworkView). IsSuffix v.waiting (alone (setting_at c place) v.history).air) (sym view) (empty_suffix (setting_at c place));
}

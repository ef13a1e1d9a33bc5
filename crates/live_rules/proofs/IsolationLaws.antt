-- What is written of a network is what it does alone.
use Rattle.std.proofs.Common.{◌≡◌, ℕ, suc, zero, ◌<◌, List, [], ◌∷◌, ◌++◌, length, map, take, Some, None, Ok, Err, refl, sym, ap, subst, ◌∙◌}
use Rattle.std.specs.Prelude.{slice_get}
use Rattle.std.proofs.lemmas.Option.{slice_get-get_or, slice_get-map}
use Rattle.network.specs.Network.{Network}
use Rattle.ap_config.specs.declared.setting.Setting.{Setting}
use Rattle.network.specs.NetworkView.{NetworkState, new_network}
use Rattle.ap_config.specs.Places.{network_at, setting_in, setting_at, no_network}
use Rattle.ap_config.specs.declared.config.NetConfig.{NetConfig}
use Rattle.ap_config.specs.declared.config.RadioConfig.{RadioConfig}
use Rattle.live_rules.specs.Moments.{Moment, first_moment, bssid_of}
use Rattle.live_rules.specs.Asked.{Asked, ForTables, Says}
use Rattle.live_rules.specs.Answers.{Answer, Tables, MayAnswer, after_answer, Answers}
use Rattle.live_rules.specs.Own.{air_at, wire_at, course, IsAlone, AreAlike}
use Rattle.live_rules.proofs.OwnSteps.{AloneLaws, alone_after-none}
use Rattle.live_rules.proofs.OwnLines.{OwnAlone, own}

-- ---- before the first line

pub bssids-first : (c : RadioConfig) (ns : List NetConfig)
    → map bssid_of (map (λ n. new_network (setting_in c n)) ns) ≡ map (λ n. n.bssid) ns
bssids-first c [] = refl
bssids-first c (n ∷ ns) = ap (λ (bs : List (List ℕ)). n.bssid ∷ bs) (bssids-first c ns)

pub network-first : (c : RadioConfig) (place : ℕ) → place < length c.networks
    → slice_get (first_moment c).networks place ≡ Some (new_network (setting_at c place))
network-first c place within =
    rw
    (slice_get-map (λ n. new_network (setting_in c n)) c.networks place, slice_get-get_or c.networks place no_network within)
    refl

-- ---- after some lines

own-alone : AloneLaws → (c : RadioConfig) (said : List Asked) (answers : List Answer) (next : Moment) (place : ℕ)
    → place < length c.networks → Answers (first_moment c) said answers next
    → OwnAlone (setting_at c place) place [] said answers next
own-alone laws c said answers next place within h =
    let s : Setting = setting_at c place in
    own laws s place (first_moment c) [] said answers next h
    (network-first c place within ∙ ap (λ (n : NetworkState). Some n) (sym (alone_after-none laws s)))

-- ---- the tables that were asked for

tables-are : (m : Moment) (asked : Asked) (networks : List NetworkState) → MayAnswer m asked (Tables networks)
    → networks ≡ m.networks
tables-are m ForTables networks h = cc
tables-are m (Says (Ok None)) networks h = cc
tables-are m (Says (Ok (Some line))) networks h = cc
tables-are m (Says (Err fault)) networks h = cc

-- they are those of the moment to which what was said before led
tables-at : (m next : Moment) (said : List Asked) (answers : List Answer) (k : ℕ) (networks : List NetworkState)
    → Answers m said answers next → slice_get answers k ≡ Some (Tables networks)
    → (between : Moment) × Answers m (take k said) (take k answers) between × (networks ≡ between.networks)
tables-at m next [] [] k networks h e = absurd (cc)
tables-at m next [] (answer ∷ answers) k networks h e = absurd h
tables-at m next (asked ∷ said) [] k networks h e = absurd h
tables-at m next (asked ∷ said) (answer ∷ answers) zero networks h e =
    let is : answer ≡ Tables networks = cc in (
      m,
      refl,
      tables-are m asked networks
          (subst (λ (a : Answer). MayAnswer m asked a) is h.0),
    )
tables-at m next (asked ∷ said) (answer ∷ answers) (suc k) networks h e =
    let on = tables-at (after_answer m asked answer) next said answers k networks h.1 e in
    (on.0, (h.0, on.1), on.2)

-- ---- the law

pub is-alone : AloneLaws → (c : RadioConfig) (said : List Asked) (answers : List Answer) (next : Moment) (place : ℕ)
    → place < length c.networks → Answers (first_moment c) said answers next → IsAlone (course c said answers) place next
is-alone laws c said answers next place within h =
    let s : Setting = setting_at c place in
    let all = own-alone laws c said answers next place within h in
    record {
      air = sym (all.air ∙ ap (λ (n : Network). n.air ++ air_at place answers) (laws.first s));
      wire = sym (all.wire ∙ ap (λ (n : Network). n.wire ++ wire_at place answers) (laws.first s));
      last = all.there;
      asked = λ k networks e.
          let at = tables-at (first_moment c) next said answers k networks h e in
          ap (λ (ns : List NetworkState). slice_get ns place) at.2
          ∙ (own-alone laws c (take k said) (take k answers) at.0 place within at.1).there;
    }

-- ---- two inputs

setting-alike : (c d : RadioConfig) (p q : ℕ) → c.channel ≡ d.channel → c.interval ≡ d.interval
    → network_at c p ≡ network_at d q → setting_at c p ≡ setting_at d q
setting-alike c d p q channel interval network = rw (channel, interval, network) refl

abbrev pub Isolated : Type 0
Isolated =
    (c : RadioConfig) (said : List Asked) (answers : List Answer) (next : Moment) (place : ℕ)
    → place < length c.networks → Answers (first_moment c) said answers next → IsAlone (course c said answers) place next

pub alike : Isolated → (c d : RadioConfig) (said others : List Asked) (answers replies : List Answer)
    (next after : Moment) (p q : ℕ) → AreAlike (course c said answers) p (course d others replies) q
    → Answers (first_moment c) said answers next → Answers (first_moment d) others replies after
    → (air_at p answers ≡ air_at q replies) × (wire_at p answers ≡ wire_at q replies)
    × (slice_get next.networks p ≡ slice_get after.networks q)
alike isolated c d said others answers replies next after p q h first second =
    let one = isolated c said answers next p h.here first in
    let two = isolated d others replies after q h.there second in
    let s = setting-alike c d p q h.channel h.interval h.network in (
      rw (s, h.events) at one.air ∙ sym two.air,
      rw (s, h.events) at one.wire ∙ sym two.wire,
      rw (s, h.events) at one.last ∙ sym two.last,
    )

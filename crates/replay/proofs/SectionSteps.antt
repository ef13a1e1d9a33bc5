-- What the networks took, line after line, and their sections in the end.
use Rattle.std.proofs.Common.{◌≡◌, ℕ, zero, suc, ◌+◌, ◌<◌, ◌≤◌, ◌++◌, ◌∷◌, [], List, Option, Some, None, IsSomeAnd, Result, Ok, Err, IfOk, length, map, get_or, refl, sym, ap, ◌∙◌, arith, inl, inr}
use Rattle.std.specs.List.{range_with_len, zip}
use Rattle.std.proofs.lemmas.List.FromFn.{fill_by_all}
use Rattle.std.proofs.lemmas.Slice.Zip.{get_or-zip, length-zip}
use Rattle.std.specs.declared.vec.Vec.{Vec}
use Rattle.std.specs.declared.alloc.Global.{Global}
use Rattle.std.proofs.lemmas.List.{length-map, length-replicate, get_or-replicate, get_or-map, get_or_past}
use Rattle.std.proofs.lemmas.Bool.{cases_lt}
use Rattle.ap_config.specs.Configuration.{fault_of}
use Rattle.network.specs.Network.{alone}
use Rattle.network.specs.BssView.{BssView, opened, section_with}
use Rattle.ap_config.specs.Places.{network_at, no_network, setting_in, setting_at}
use Rattle.bss_core.specs.RadioView.{NetworkView, RadioView, unused, view_at, fresh_radio, shown, settings_of}
use Rattle.network.specs.Section.{section_of, sections_of_lines}
use Rattle.ap_config.specs.declared.config.NetConfig.{NetConfig}
use Rattle.ap_config.specs.declared.config.RadioConfig.{RadioConfig}
use Rattle.events.specs.declared.event.Event.{Event}
use Rattle.events.specs.declared.section.Section.{Section}
use Rattle.ap_config.specs.declared.setting.Setting.{Setting}
use Rattle.events.specs.Lines.{own_events}
use Rattle.events.specs.declared.line.Line.{Line}
use Rattle.replay.specs.Frames.{FrameLists, sent_at, none_sent}
use Rattle.replay.specs.Replay.{HasTaken, IsDrained, TakesLine, sections_at}
use Rattle.replay.proofs.ReplayLemmas.{own_events-none, own_events-push}

-- before any line no network took an event
fresh_view : (c : RadioConfig) (place : ℕ) → view_at (fresh_radio c) place ≡ unused
fresh_view c place = elim (cases_lt place (length c.networks)) [
  | inl lt ↦ get_or-map (λ (n : NetConfig). unused) c.networks place (network_at c place) unused lt
  | inr past ↦ get_or_past (fresh_radio c).networks place unused
      (omega (arith, length-map c.networks (λ (n : NetConfig). unused)))
]

pub history-fresh : (c : RadioConfig) (place : ℕ) → (view_at (fresh_radio c) place).history ≡ []
history-fresh c place = ap (λ (n : NetworkView). n.history) (fresh_view c place)

sent-none : (count place : ℕ) → sent_at (none_sent count) place ≡ []
sent-none count place = elim (cases_lt place count) [
  | inl lt ↦ get_or-replicate count place [] [] lt
  | inr past ↦ get_or_past (none_sent count) place [] (omega (arith, length-replicate {A = List (List ℕ)} count []))
]

-- a network that took no event sent nothing
air-fresh : (c : RadioConfig) (place : ℕ)
    → (alone (setting_at c place) (view_at (fresh_radio c) place).history).air ≡ []
unfolding alone
air-fresh c place = ap (λ (es : List Event). (alone (setting_at c place) es).air) (history-fresh c place)

pub fresh_drained : (c : RadioConfig) (r : RadioView) (sent : FrameLists) → fault_of c ≡ None → r ≡ fresh_radio c
    → sent ≡ none_sent (length c.networks) → IsDrained r sent
fresh_drained c r sent sound radio_is sent_is =
    let fresh : IsDrained (fresh_radio c) (none_sent (length c.networks)) = record {
      sound = sound;
      networks = length-map c.networks (λ (n : NetConfig). unused);
      whole = length-replicate {A = List (List ℕ)} (length c.networks) [];
      queue = refl;
      waiting = λ place lt. ap (λ (n : NetworkView). n.waiting) (fresh_view c place);
      air = λ place lt. sent-none (length c.networks) place ∙ sym (air-fresh c place);
    } in
    rw (radio_is, sent_is) fresh

-- a line more
pub history-more : (c : RadioConfig) (old new : RadioView) (lines : List Line) (line : Line) (place : ℕ)
    → old.config ≡ c → TakesLine line old new
    → (view_at old place).history ≡ own_events place (network_at c place) lines → place < length c.networks
    → (view_at new place).history ≡ own_events place (network_at c place) (lines ++ line ∷ [])
history-more c old new lines line place config taken history lt =
    let there : place < length old.config.networks = rw config lt in
    taken.each place there ∙ rw (config, history) (sym (own_events-push place (network_at c place) lines line))

-- two functions that agree on a range
map-same : (f g : ℕ → Section) (a n : ℕ) → ((k : ℕ) → a ≤ k → k < a + n → f k ≡ g k)
    → map f (range_with_len a n) ≡ map g (range_with_len a n)
map-same f g a zero h = refl
map-same f g a (suc n) h =
    let first : f a ≡ g a = h a (omega arith) (omega arith) in
    let rest = map-same f g (a + 1) n (λ k low lt. h k (omega arith) (omega arith)) in
    λ i. first i ∷ rest i

-- the sections of networks that took their own events of the lines
pub sections_of-taken : (c : RadioConfig) (r : RadioView) (lines : List Line) → r.config ≡ c
    → ((place : ℕ) → place < length c.networks → (view_at r place).history ≡ own_events place (network_at c place) lines)
    → sections_at r ≡ sections_of_lines c lines
sections_of-taken c r lines config history =
    let f : ℕ → Section = λ place. section_of (setting_at c place) (view_at r place).history in
    let g : ℕ → Section = λ place. section_of (setting_at c place) (own_events place (network_at c place) lines) in
    rw config
    (map-same f g 0 (length c.networks)
    (λ k low lt. ap (λ (es : List Event). section_of (setting_at c k) es) (history k (omega arith))))

-- ---- a replay, line by line

-- before any line
pub replay-none : (c : RadioConfig) (replay : Option RadioView) → replay ≡ Some (fresh_radio c)
    → IsSomeAnd replay (HasTaken c [])
replay-none c replay is =
    let fresh : HasTaken c [] (fresh_radio c) = record {
      config = refl;
      history = λ place lt. history-fresh c place ∙ sym (own_events-none place (network_at c place));
    } in
    rw is fresh

-- after one more line
pub replay-more : (c : RadioConfig) (old new : Option RadioView) (lines : List Line) (line : Line)
    → IsSomeAnd old (HasTaken c lines) → IsSomeAnd old (λ r. IsSomeAnd new (TakesLine line r)) → IsSomeAnd new
    (HasTaken c (lines ++ line ∷ []))
replay-more c None new lines line before takes = absurd before
replay-more c (Some r) None lines line before takes = absurd takes
replay-more c (Some r) (Some s) lines line before takes = record {
  config = takes.config ∙ before.config;
  history = λ place lt. history-more c r s lines line place before.config takes (before.history place lt) lt;
}

-- in the end
pub replay-sections : {E : Type 0} (c : RadioConfig) (replay : Option RadioView) (lines all : List Line)
    (made : Result (Vec Section Global) E)
    → IsSomeAnd replay (HasTaken c lines) → lines ≡ all → IfOk made
    (λ v. IsSomeAnd replay (λ r. v.items ≡ sections_at r)) → IfOk made (λ v. v.items ≡ sections_of_lines c all)
replay-sections c None lines all made taken whole sections = absurd taken
replay-sections c (Some r) lines all (Ok v) taken whole sections =
    sections ∙ sections_of-taken c r lines taken.config taken.history ∙ ap (sections_of_lines c) whole
replay-sections c (Some r) lines all (Err e) taken whole sections = tt

-- what stands at a place without a network; of it nothing is said
abbrev nobody : BssView
nobody = opened 0 0 no_network

-- the frames stand in vectors
zipped : (nets : List BssView) (airs : List (Vec (List ℕ) Global)) → map (λ p. section_with p.1.items p.0) (zip nets airs)
    ≡ map (λ p. section_with p.1 p.0) (zip nets (map (λ v. v.items) airs))
zipped [] airs = refl
zipped (s ∷ nets) [] = refl
zipped (s ∷ nets) (v ∷ airs) = ap (λ (rest : List Section). section_with v.items s ∷ rest) (zipped nets airs)

-- the section of the network at a place, with the frames that left there
section_at : (r : RadioView) (sent : FrameLists) (nets : List BssView) (place : ℕ) → IsDrained r sent
    → map (λ s. s.setting) nets ≡ settings_of r.config → map shown nets ≡ r.networks → place < length r.config.networks
    → place < length nets → section_with (sent_at sent place) (get_or nets place nobody)
    ≡ section_of (setting_at r.config place) (view_at r place).history
section_at r sent nets place d settings views there within =
    let s : BssView = get_or nets place nobody in
    let setting : s.setting ≡ setting_at r.config place =
    sym (get_or-map (λ (t : BssView). t.setting) nets place nobody s.setting within)
    ∙ ap (λ (l : List Setting). get_or l place s.setting) settings
    ∙ get_or-map (setting_in r.config) r.config.networks place no_network s.setting there in
    let view : shown s ≡ view_at r place =
    sym (get_or-map shown nets place nobody unused within)
    ∙ ap (λ (l : List NetworkView). get_or l place unused) views in
    let history : s.history ≡ (view_at r place).history = ap (λ (v : NetworkView). v.history) view in
    rw (d.air place there, setting, history) refl

pub sections_made : (r : RadioView) (sent : FrameLists) (nets : List BssView) (airs : List (Vec (List ℕ) Global))
    → IsDrained r sent → map (λ s. s.setting) nets ≡ settings_of r.config → map shown nets ≡ r.networks
    → map (λ v. v.items) airs ≡ sent → map (λ p. section_with p.1.items p.0) (zip nets airs) ≡ sections_at r
sections_made r sent nets airs d settings views frames =
    let n : ℕ = length r.config.networks in
    let count : length nets ≡ n =
    sym (length-map nets (λ (s : BssView). s.setting)) ∙ ap length settings
    ∙ length-map r.config.networks (setting_in r.config) in
    let whole : length sent ≡ n = d.whole in
    let f : ℕ → Section = λ place. section_of (setting_at r.config place) (view_at r place).history in
    let g : BssView × List (List ℕ) → Section = λ p. section_with p.1 p.0 in
    let pairs : List (BssView × List (List ℕ)) = zip nets sent in
    let long : length pairs ≡ n = length-zip nets sent ∙ (omega (arith, count, whole)) in
    let each : (k : ℕ) → k < n → get_or (map g pairs) k (f 0) ≡ f k = λ k lt.
    get_or-map g pairs k (nobody, []) (f 0) (omega (arith, long))
    ∙ ap g (get_or-zip nets sent k (nobody, []) (omega (arith, count)) (omega (arith, whole)))
    ∙ section_at r sent nets k d settings views lt (omega (arith, count)) in
    zipped nets airs
    ∙ ap (λ (l : FrameLists). map g (zip nets l)) frames
    ∙ fill_by_all f (map g pairs) n (f 0) (length-map pairs g ∙ long) each

-- nothing is paired with nothing
pub no_first : (nets : List BssView) (airs : List (Vec (List ℕ) Global)) → length nets ≡ 0 → zip nets airs ≡ []
no_first [] airs h = refl
no_first (s ∷ nets) airs h = absurd (omega arith)

pub no_second : (nets : List BssView) (airs : List (Vec (List ℕ) Global)) → length airs ≡ 0 → zip nets airs ≡ []
no_second [] airs h = refl
no_second (s ∷ nets) [] h = refl
no_second (s ∷ nets) (v ∷ airs) h = absurd (omega arith)

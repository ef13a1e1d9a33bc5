-- A network takes one line more of a source.
use Rattle.std.proofs.Common.{◌≡◌, ◌≢◌, ◌⊎◌, ℕ, ◌+◌, ◌<◌, ◌≤◌, Bool, true, false, List, [], ◌∷◌, ◌++◌, length, map, Some, None, inl, inr, refl, sym, ap, ◌∙◌, arith, append_assoc}
use Rattle.std.specs.Prelude.{if◌then◌else◌, ◌==◌, option_to_list}
use Rattle.std.proofs.lemmas.Bool.{cases_eq, cases_lt, eq-eqb, ne_eqb, lt-ltb, le-ltb}
use Rattle.std.proofs.lemmas.List.{append-nil, length-map, length_push, map-append}
use Rattle.std.proofs.lemmas.List.Elements.{All-append, All-nil, All-cons, filter-append}
use Rattle.mac_frame.specs.Hearing.{is_heard}
use Rattle.networks.specs.WithFrames.{after_events}
use Rattle.networks.specs.declared.network_with_frames.NetworkWithFrames.{NetworkWithFrames}
use Rattle.ap_config.specs.Places.{network_at, setting_at}
use Rattle.ap_config.specs.declared.config.NetConfig.{NetConfig}
use Rattle.ap_config.specs.declared.config.RadioConfig.{RadioConfig}
use Rattle.events.specs.Lines.{event_of_line, heard_of, taken_of}
use Rattle.events.specs.declared.event.Event.{Event}
use Rattle.events.specs.declared.event.Event.TheVariants as event
use Rattle.events.specs.declared.line.Line.{Line}
use Rattle.events.specs.declared.line.Line.TheVariants.{Air, Wire, Tick}
use Rattle.play.specs.Kept.{IsKeptAt, IsTaken, event_given, given_by}
use Rattle.play.specs.Lines.{line_at, lines_of}
use Rattle.play.specs.Plays.{PlayView}
use Rattle.play.specs.declared.kept.Given.{Given}

-- ---- what is heard and taken of it

heard-if : (b : Bool) (e : Event)
    → (option_to_list (if b then Some e else None) ≡ []) ⊎ (option_to_list (if b then Some e else None) ≡ e ∷ [])
heard-if true e = inr refl
heard-if false e = inl refl

-- a network hears a line as its one event, or not at all
heard-one : (place : ℕ) (bss : List ℕ) (line : Line)
    → (heard_of place bss line ≡ []) ⊎ (heard_of place bss line ≡ event_of_line line ∷ [])
heard-one place bss (Air x) = heard-if (is_heard bss x) (event.Air x)
heard-one place bss (Wire named x) = heard-if (named == place) (event.Wire x)
heard-one place bss Tick = inr refl

-- what is heard more is nothing, or the network is full
taken-more : (limit count : ℕ) (given old new more : List Event) → new ≡ old ++ more
    → (more ≡ []) ⊎ (limit ≤ count) → IsTaken limit count given old → IsTaken limit count given new
taken-more limit count given old new more is either h = record {
  first = (
    h.first.0 ++ more,
    sym (append_assoc given h.first.0 more)
        ∙ ap (λ (es : List Event). es ++ more) h.first.1
        ∙ sym is,
  );
  whole = λ less. elim either [
    | inl none ↦ h.whole less ∙ sym (append-nil old) ∙ ap (λ (es : List Event). old ++ es) (sym none) ∙ sym is
    | inr full ↦ absurd (omega (arith, less, full))
  ];
}

taken-all : (limit count : ℕ) (given heard : List Event) → given ≡ heard → IsTaken limit count given heard
taken-all limit count given heard is = record {
  first = ([], append-nil given ∙ is);
  whole = λ less. is;
}

-- of a line its event is taken, or nothing: it isn't heard, or the network is full
pub taken-cases : (place : ℕ) (network : NetConfig) (es : List Event) (line : Line)
    → ((taken_of place network es line ≡ [])
    × ((heard_of place network.bssid line ≡ []) ⊎ (network.max_events ≤ length es)))
    ⊎ ((taken_of place network es line ≡ event_of_line line ∷ [])
    × (heard_of place network.bssid line ≡ event_of_line line ∷ []) × (length es < network.max_events))
taken-cases place network es line =
    let hears : List Event = heard_of place network.bssid line in
    elim (cases_lt (length es) network.max_events) [
      | inl room ↦
          let took : taken_of place network es line ≡ hears =
          ap (λ (b : Bool). if b then hears else []) (lt-ltb (length es) network.max_events room) in
          elim (heard-one place network.bssid line) [
            | inl none ↦ inl (took ∙ none, inl none)
            | inr some ↦ inr (took ∙ some, some, room)
          ]
      | inr full ↦
          inl (ap (λ (b : Bool). if b then hears else []) (le-ltb (length es) network.max_events full), inr full)
    ]

-- ---- a network that took no event

pub kept-none : (play : PlayView) (place : ℕ) (hears : ℕ → List Event) (n : NetworkWithFrames) (given : List Given)
    → ((i : ℕ) → hears i ≡ []) → n ≡ after_events (setting_at play.config place) [] → given ≡ []
    → IsKeptAt play place hears n given
kept-none play place hears n given none is nobody = record {
  by = [];
  alone = is;
  given_at = record {
    bounded = omega arith;
    known = All-nil (λ (g : Given). g.source < length play.sources);
    each = λ i. taken-all (network_at play.config place).max_events 0 [] (hears i) (sym (none i));
  };
  told = λ _. nobody;
}

-- ---- one line more

-- of one source a line more is given, of which this is heard
pub record HearsMore (i : ℕ) (more : List Event) (old new : ℕ → List Event) : Type 0 where
  pub here : (j : ℕ) → j ≡ i → new j ≡ old j ++ more
  pub others : (j : ℕ) → j ≢ i → new j ≡ old j

pub kept-more : (play : PlayView) (place i k : ℕ) (line : Line) (old new : ℕ → List Event) (n m : NetworkWithFrames)
    (given after : List Given)
    → HearsMore i (heard_of place (network_at play.config place).bssid line) old new → i < length play.sources
    → line ≡ line_at (lines_of play.sources i) k → (kept : IsKeptAt play place old n given)
    → m
    ≡ after_events (setting_at play.config place)
    (map (event_given play.sources) kept.by
    ++ taken_of place (network_at play.config place) (map (event_given play.sources) kept.by) line)
    → (play.keeps ≡ true → after
    ≡ given
    ++ map (λ _. record { source = i; line = k })
    (taken_of place (network_at play.config place) (map (event_given play.sources) kept.by) line))
    → IsKeptAt play place new m after
kept-more play place i k line old new n m given after adds there is kept takes tells =
    let config = play.config in
    let sources = play.sources in
    let network : NetConfig = network_at config place in
    let limit : ℕ = network.max_events in
    let count : ℕ = length kept.by in
    let b : Given = record { source = i; line = k } in
    let event : Given → Event = event_given sources in
    let history : List Event = map event kept.by in
    let hears : List Event = heard_of place network.bssid line in
    let long : length history ≡ count = length-map kept.by event in
    elim (taken-cases place network history line) [
      | inl none ↦
          let quiet : (hears ≡ []) ⊎ (limit ≤ count) = elim none.1 [
            | inl unheard ↦ inl unheard
            | inr full ↦ inr (omega (arith, full, long))
          ] in
          record {
            by = kept.by;
            alone = takes
                ∙ ap (λ (es : List Event). after_events (setting_at config place) (history ++ es)) none.0
                ∙ ap (after_events (setting_at config place)) (append-nil history);
            given_at = record {
              bounded = kept.given_at.bounded;
              known = kept.given_at.known;
              each = λ j. elim (cases_eq j i) [
                | inl same ↦
                    taken-more limit count (map event (given_by j kept.by)) (old j) (new j) hears (adds.here j same) quiet
                    (kept.given_at.each j)
                | inr other ↦
                    taken-more limit count (map event (given_by j kept.by)) (old j) (new j) []
                    (adds.others j other ∙ sym (append-nil (old j))) (inl refl) (kept.given_at.each j)
              ];
            };
            told = λ keep. tells keep
                ∙ ap (λ (es : List Event). given ++ map (λ _. b) es) none.0
                ∙ append-nil given
                ∙ kept.told keep;
          }
      | inr some ↦
          let one : event_of_line line ∷ [] ≡ event b ∷ [] = ap (λ (l : Line). event_of_line l ∷ []) is in
          let room : count < limit = omega (arith, some.2, long) in
          let more : length (kept.by ++ b ∷ []) ≡ count + 1 = length_push kept.by b in
          let whole = λ (j : ℕ). (kept.given_at.each j).whole room in
          record {
            by = kept.by ++ b ∷ [];
            alone = takes
                ∙ ap (λ (es : List Event). after_events (setting_at config place) (history ++ es)) (some.0 ∙ one)
                ∙ ap (after_events (setting_at config place)) (sym (map-append event kept.by (b ∷ [])));
            given_at = record {
              bounded = omega (arith, more, room);
              known = All-append (λ g. g.source < length sources) kept.by (b ∷ []) kept.given_at.known
                  (All-cons (λ g. g.source < length sources) b [] there (All-nil (λ (g : Given). g.source < length sources)));
              each = λ j.
                  taken-all limit (length (kept.by ++ b ∷ [])) (map event (given_by j (kept.by ++ b ∷ []))) (new j)
                  (elim (cases_eq j i) [
                    | inl same ↦
                        ap (map event) (filter-append (λ (g : Given). g.source == j) kept.by (b ∷ [])
                        ∙ ap (λ (t : Bool). given_by j kept.by ++ (if t then b ∷ [] else [])) (eq-eqb i j (sym same)))
                        ∙ map-append event (given_by j kept.by) (b ∷ [])
                        ∙ (λ x. whole j x ++ sym (some.1 ∙ one) x)
                        ∙ sym (adds.here j same)
                    | inr other ↦
                        ap (map event) (filter-append (λ (g : Given). g.source == j) kept.by (b ∷ [])
                        ∙ ap (λ (t : Bool). given_by j kept.by ++ (if t then b ∷ [] else []))
                        (ne_eqb i j (λ same. other (sym same)))
                        ∙ append-nil (given_by j kept.by))
                        ∙ whole j
                        ∙ sym (adds.others j other)
                  ]);
            };
            told = λ keep. tells keep
                ∙ ap (λ (es : List Event). given ++ map (λ _. b) es) some.0
                ∙ ap (λ (gs : List Given). gs ++ b ∷ []) (kept.told keep);
          }
    ]

-- who gave an event is told of just where the network took an event more
pub given-when : (place : ℕ) (network : NetConfig) (es : List Event) (line : Line) (by : Given) (before after : ℕ)
    (given now : List Given) → before ≡ length es → after ≡ length (es ++ taken_of place network es line)
    → (((before < after) × (now ≡ given ++ by ∷ [])) ⊎ ((after ≤ before) × (now ≡ given)))
    → now ≡ given ++ map (λ _. by) (taken_of place network es line)
given-when place network es line by before after given now was is told =
    elim (taken-cases place network es line) [
      | inl none ↦
          let same : after ≡ length es =
          is ∙ ap (λ (ts : List Event). length (es ++ ts)) none.0 ∙ ap length (append-nil es) in
          elim told [
            | inl took ↦ let less = took.0 in absurd (omega (arith, was, same, less))
            | inr not ↦ not.1 ∙ sym (append-nil given) ∙ ap (λ (ts : List Event). given ++ map (λ _. by) ts) (sym none.0)
          ]
      | inr some ↦
          let more : after ≡ length es + 1 =
          is ∙ ap (λ (ts : List Event). length (es ++ ts)) some.0 ∙ length_push es (event_of_line line) in
          elim told [
            | inl took ↦ took.1 ∙ ap (λ (ts : List Event). given ++ map (λ _. by) ts) (sym some.0)
            | inr not ↦ let few = not.0 in absurd (omega (arith, was, more, few))
          ]
    ]

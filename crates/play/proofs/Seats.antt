-- What stands under the locks, and in what order.
use Rattle.std.proofs.Common.{◌≡◌, Bool, true, ℕ, ◌+◌, ◌<◌, ◌≤◌, List, [], ◌∷◌, ◌++◌, length, map, take, get_or, inl, inr, sym, ap, ◌∙◌, subst, arith}
use Rattle.std.specs.Prelude.{slice_set}
use Rattle.std.proofs.Math.Seq.{take-length, take-nil}
use Rattle.std.proofs.lemmas.Bool.{cases_lt}
use Rattle.std.proofs.lemmas.Grind.{flat_map-append}
use Rattle.std.proofs.lemmas.List.{append-nil, take_more, get_or-set_same, get_or-set_other, get_or_past}
use Rattle.networks.specs.WithFrames.{after_events}
use Rattle.networks.specs.declared.network_with_frames.NetworkWithFrames.{NetworkWithFrames}
use Rattle.ap_config.specs.Places.{network_at, setting_at}
use Rattle.ap_config.specs.declared.setting.Setting.{Setting}
use Rattle.events.specs.Lines.{heard, heard_of, taken_of}
use Rattle.events.specs.declared.event.Event.{Event}
use Rattle.events.specs.declared.line.Line.{Line}
use Rattle.events.specs.declared.line.Line.TheVariants.{Tick}
use Rattle.network.specs.NetworkView.{NetworkState}
use Rattle.play.specs.Played.{heard_from}
use Rattle.play.specs.Kept.{IsKeptAt, event_given, heard_up_to}
use Rattle.play.specs.Lines.{line_at, lines_of, StandFrom}
use Rattle.play.specs.Plays.{PlayView}
use Rattle.play.specs.declared.kept.Given.{Given}
use Rattle.play.proofs.Steps.{HearsMore, kept-more}

-- ---- one seat

-- what is heard, of one line more of a source
hears-more : (play : PlayView) (place : ℕ) (next : List ℕ) (i n : ℕ) → i < length next → get_or next i 0 ≡ n
    → n < length (lines_of play.sources i)
    → HearsMore i (heard_of place (network_at play.config place).bssid (line_at (lines_of play.sources i) n))
    (heard_up_to play place next) (heard_up_to play place (slice_set next i (n + 1)))
hears-more play place next i n inside is within =
    let bssid = (network_at play.config place).bssid in
    let lines : List Line = lines_of play.sources i in
    record {
      here = λ j same.
          subst
          (λ (k : ℕ).
          heard_up_to play place (slice_set next i (n + 1)) k
          ≡ heard_up_to play place next k ++ heard_of place bssid (line_at lines n))
          (sym same)
          (ap (λ (k : ℕ). heard place bssid (take k lines)) (get_or-set_same next i (n + 1) 0 inside)
          ∙ ap (heard place bssid) (take_more lines n Tick within)
          ∙ flat_map-append (heard_of place bssid) (take n lines) (line_at lines n ∷ [])
          ∙ (λ k. heard place bssid (take (sym is k) lines) ++ append-nil (heard_of place bssid (line_at lines n)) k));
      others = λ j ne.
          ap (λ (k : ℕ). heard place bssid (take k (lines_of play.sources j))) (get_or-set_other next i j (n + 1) 0 ne);
    }

-- it takes the next line of a source, which stands among others at this place
pub takes-next : (play : PlayView) (next : List ℕ) (place i first k : ℕ) (line : Line) (some : List Line)
    (n m : NetworkWithFrames) (given after : List Given) → i < length next → i < length play.sources
    → StandFrom (lines_of play.sources i) first some → k < length some → get_or next i 0 ≡ first + k
    → line ≡ line_at some k → IsKeptAt play place (heard_up_to play place next) n given
    → ((s : Setting) (es : List Event) → n ≡ after_events s es → m ≡ after_events s (es ++ taken_of place s.network es line))
    → ((s : Setting) (es : List Event) → n ≡ after_events s es → play.keeps ≡ true
    → after ≡ given ++ map (λ _. record { source = i; line = first + k }) (taken_of place s.network es line))
    → IsKeptAt play place (heard_up_to play place (slice_set next i (first + k + 1))) m after
takes-next play next place i first k line some n m given after inside there stand within is same kept takes tells =
    let said : line ≡ line_at (lines_of play.sources i) (first + k) = same ∙ stand.same k within in
    let before : first + k < length (lines_of play.sources i) = omega (arith, stand.within, within) in
    let history : List Event = map (event_given play.sources) kept.by in
    kept-more play place i (first + k) line (heard_up_to play place next)
    (heard_up_to play place (slice_set next i (first + k + 1))) n m given after
    (subst
    (λ (l : Line).
    HearsMore i (heard_of place (network_at play.config place).bssid l) (heard_up_to play place next)
    (heard_up_to play place (slice_set next i (first + k + 1))))
    (sym said) (hears-more play place next i (first + k) inside is before))
    there said kept (takes (setting_at play.config place) history kept.alone)
    (tells (setting_at play.config place) history kept.alone)

-- it is kept so still where what was pushed, and then what waits, is the same
pub kept-still : (play : PlayView) (place at : ℕ) (next : List ℕ) (network : NetworkState) (old new wire : List (List ℕ))
    (given : List Given) → at ≡ place → new ≡ old
    → IsKeptAt play place (heard_up_to play place next) (record { network = network; air = old; wire = wire }) given
    → IsKeptAt play at (heard_up_to play at next) (record { network = network; air = new; wire = wire }) given
kept-still play place at next network old new wire given here same =
    subst
    (λ (x : ℕ × List (List ℕ)).
    IsKeptAt play x.0 (heard_up_to play x.0 next) (record { network = network; air = x.1; wire = wire }) given)
    (λ k. (sym here k, sym same k))

-- it was given all lines of each source
pub ended : (play : PlayView) (lines : List (List Line)) (next came : List ℕ) (place at : ℕ) (n : NetworkWithFrames)
    (given : List Given) → lines ≡ play.sources → came ≡ next → at ≡ place
    → ((i : ℕ) → i < length lines → get_or came i 0 ≡ length (lines_of lines i))
    → IsKeptAt play at (heard_up_to play at next) n given
    → IsKeptAt play place (heard_from play.config place play.sources) n given
ended play lines next came place at n given own same here ends kept =
    subst (λ (p : ℕ). IsKeptAt play p (heard_from play.config p play.sources) n given) here
    (subst (λ (hears : ℕ → List Event). IsKeptAt play at hears n given)
    (λ k i. heard at (network_at play.config at).bssid (whole i k)) kept)
  where
    whole : (i : ℕ) → take (get_or next i 0) (lines_of play.sources i) ≡ lines_of play.sources i
    whole i = elim (cases_lt i (length lines)) [
      | inl within ↦
          ap (λ (k : ℕ). take k (lines_of play.sources i))
          (ap (λ (g : List ℕ). get_or g i 0) (sym same)
          ∙ ends i within
          ∙ ap (λ (ls : List (List Line)). length (get_or ls i [])) own)
          ∙ take-length (lines_of play.sources i)
      | inr past ↦
          let none : lines_of play.sources i ≡ [] =
          get_or_past play.sources i [] (subst (λ (ls : List (List Line)). length ls ≤ i) own past) in
          ap (take (get_or next i 0)) none ∙ take-nil (get_or next i 0) ∙ sym none
    ]

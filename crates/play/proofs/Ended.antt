-- What an access point ends with, of the networks of a play and of who gave their events.
use Rattle.std.proofs.Common.{◌≡◌, Bool, true, false, ℕ, zero, suc, ◌+◌, ◌<◌, List, [], ◌∷◌, ◌++◌, length, map, drop, get_or, Some, inl, inr, refl, sym, ap, ◌∙◌, subst, arith}
use Rattle.std.specs.Prelude.{All, slice_get, ◌==◌, if◌then◌else◌}
use Rattle.std.specs.List.{enumerate_from}
use Rattle.std.proofs.Math.ListN.{get_or-map}
use Rattle.std.proofs.Math.Seq.{get_or-append_seam}
use Rattle.std.proofs.lemmas.Bool.{cases_lt}
use Rattle.std.proofs.lemmas.List.{length-map, length_push, get_or_append_left, get_or_past}
use Rattle.std.proofs.lemmas.List.Elements.{All-map, All-nil}
use Rattle.std.proofs.lemmas.Option.{slice_get_within, slice_get-get_or}
use Rattle.networks.specs.WithFrames.{after_events}
use Rattle.networks.specs.declared.network_with_frames.NetworkWithFrames.{NetworkWithFrames}
use Rattle.ap_config.specs.Places.{setting_at}
use Rattle.ap_config.specs.declared.config.RadioConfig.{RadioConfig}
use Rattle.events.specs.Lists.{IsPrefix}
use Rattle.events.specs.declared.air_item.AirItem.{AirItem}
use Rattle.events.specs.declared.event.Event.{Event}
use Rattle.events.specs.declared.line.Line.{Line}
use Rattle.events.specs.declared.section.Section.{Section}
use Rattle.network.specs.Section.{section_of}
use Rattle.play.specs.Sections.{IsSectionAt}
use Rattle.play.specs.Played.{IsPlayed, IsPlayOf, heard_from}
use Rattle.play.specs.Givers.{histories_of, dealt}
use Rattle.play.specs.Kept.{IsEnd, IsGivenAt, IsWholeAt, event_given, given_by, log_with, section_told}
use Rattle.play.specs.Plays.{PlayView, networks_after}
use Rattle.play.specs.declared.kept.Given.{Given}
use Rattle.play.specs.declared.kept.PlayedNetwork.{PlayedNetwork}
use Rattle.play.proofs.Leaves.{one-more}

-- ---- by who gave the events

abbrev pub source_of : Given → ℕ
source_of g = g.source

-- A section is that of the network at a place, alone with events that were given so. It has these frames, and who gave
-- the events is told.
pub record IsEndedAt (play : PlayView) (place : ℕ) (air : List (List ℕ)) (section : Section) (givers : List ℕ)
    : Type 0 where
  pub by : List Given
  pub alone : section ≡ section_of (setting_at play.config place) (map (event_given play.sources) by)
  pub frames : section.air ≡ air
  pub told : givers ≡ map source_of by
  pub given_at : IsGivenAt play place (heard_from play.config place play.sources) by

-- so are the sections of the first networks
pub record AreEnded (play : PlayView) (airs : List (List (List ℕ))) (sections : List Section) (givers : List (List ℕ))
    : Type 0 where
  pub count : length givers ≡ length sections
  pub each : (place : ℕ) (section : Section) → slice_get sections place ≡ Some section
      → IsEndedAt play place (get_or airs place []) section (get_or givers place [])

pub ended-push : (play : PlayView) (airs : List (List (List ℕ))) (sections : List Section) (givers : List (List ℕ))
    (section : Section) (told : List ℕ) → AreEnded play airs sections givers
    → IsEndedAt play (length sections) (get_or airs (length sections) []) section told
    → AreEnded play airs (sections ++ section ∷ []) (givers ++ told ∷ [])
ended-push play airs sections givers section told all one =
    let count = all.count in
    record {
      count = omega (arith, count, length_push sections section, length_push givers told);
      each = λ place s at. elim (one-more sections section s place at) [
        | inl before ↦
            let within : place < length givers = omega (arith, count, slice_get_within sections place s before) in
            subst (IsEndedAt play place (get_or airs place []) s)
            (sym (get_or_append_left givers (told ∷ []) [] place within)) (all.each place s before)
        | inr last ↦
            let seam : get_or (givers ++ told ∷ []) place [] ≡ told =
            ap (λ (k : ℕ). get_or (givers ++ told ∷ []) k []) (last.0 ∙ sym count) ∙ get_or-append_seam givers told [] [] in
            subst (λ (x : ℕ × Section × List ℕ). IsEndedAt play x.0 (get_or airs x.0 []) x.1 x.2)
            (λ k. (sym last.0 k, last.1 k, sym seam k)) one
      ];
    }

-- a network's, of which it was kept who gave its events
pub ended-told : (play : PlayView) (place : ℕ) (air : List (List ℕ)) (n : PlayedNetwork) (section : Section)
    (told : List ℕ) → play.keeps ≡ true → IsWholeAt play place air n
    → section ≡ section_told (log_with air n) (map (event_given play.sources) n.given.items)
    → told ≡ map source_of n.given.items → IsEndedAt play place air section told
ended-told play place air n section told keep whole is by = record {
  by = whole.by;
  alone = is ∙ (λ k. section_told (whole.alone k) (map (event_given play.sources) (whole.told keep k)));
  frames = ap (λ (s : Section). s.air) is;
  told = by ∙ ap (map source_of) (whole.told keep);
  given_at = whole.given_at;
}

-- ---- as networks with their frames alone

pub record AreLogged (play : PlayView) (airs : List (List (List ℕ))) (logs : List NetworkWithFrames) : Type 0 where
  pub sections : List Section
  pub givers : List (List ℕ)
  pub ended : AreEnded play airs sections givers
  pub long : length sections ≡ length logs
  pub are : logs ≡ networks_after play.config sections

enumerate-push : {A B : Type 0} → (f : ℕ × A → B) (n : ℕ) (xs : List A) (x : A)
    → map f (enumerate_from n (xs ++ x ∷ [])) ≡ map f (enumerate_from n xs) ++ f (n + length xs, x) ∷ []
enumerate-push f n [] x = ap (λ (k : ℕ). f (k, x) ∷ []) (let e : n ≡ n + 0 = omega arith in e)
enumerate-push f n (y ∷ ys) x =
    ap (λ zs. f (n, y) ∷ zs)
    (enumerate-push f (n + 1) ys x
    ∙ ap (λ (k : ℕ). map f (enumerate_from (n + 1) ys) ++ f (k, x) ∷ [])
    (let e : n + 1 + length ys ≡ n + suc (length ys) = omega arith in e))

pub logged-push : (play : PlayView) (airs : List (List (List ℕ))) (logs : List NetworkWithFrames) (n : PlayedNetwork)
    → AreLogged play airs logs → IsWholeAt play (length logs) (get_or airs (length logs) []) n
    → AreLogged play airs (logs ++ log_with (get_or airs (length logs) []) n ∷ [])
logged-push play airs logs n all whole =
    let config = play.config in
    let history : List Event = map (event_given play.sources) whole.by in
    let section : Section = section_of (setting_at config (length logs)) history in
    let told : List ℕ = map source_of whole.by in
    let long = all.long in
    let one : IsEndedAt play (length logs) (get_or airs (length logs) []) section told = record {
      by = whole.by;
      alone = refl;
      frames = λ k. (sym whole.alone k).air;
      told = refl;
      given_at = whole.given_at;
    } in
    record {
      sections = all.sections ++ section ∷ [];
      givers = all.givers ++ told ∷ [];
      ended = ended-push play airs all.sections all.givers section told all.ended
          (subst (λ (k : ℕ). IsEndedAt play k (get_or airs k []) section told) (sym long) one);
      long = omega (arith, long, length_push all.sections section, length_push logs (log_with (get_or airs (length logs) []) n));
      are = (λ k. all.are k ++ whole.alone k ∷ [])
          ∙ ap (λ (k : ℕ). networks_after config all.sections ++ after_events (setting_at config k) history ∷ [])
          (let e : length logs ≡ 0 + length all.sections = omega (arith, long) in e)
          ∙ sym (enumerate-push (λ (s : ℕ × Section). after_events (setting_at config s.0) s.1.events) 0 all.sections section);
    }

-- ---- the end

-- what comes next of a list
pub next-at : {A : Type 0} → (xs : List A) (n : ℕ) (x : A) (rest : List A) → drop n xs ≡ x ∷ rest
    → (slice_get xs n ≡ Some x) × (rest ≡ drop (suc n) xs)
next-at [] zero x rest is = absurd (cc)
next-at [] (suc n) x rest is = absurd (cc)
next-at (y ∷ ys) zero x rest is =
    let first : y ≡ x = cc in
    let others : ys ≡ rest = cc in
    (ap Some first, sym others)
next-at (y ∷ ys) (suc n) x rest is = next-at ys n x rest is

-- what is dealt to a source is what it gave
dealt-by : (sources : List (List Line)) (i : ℕ) (by : List Given)
    → dealt (map source_of by) (map (event_given sources) by) i ≡ map (event_given sources) (given_by i by)
dealt-by sources i [] = refl
dealt-by sources i (g ∷ gs) =
    ap (λ (es : List Event). if g.source == i then event_given sources g ∷ es else es) (dealt-by sources i gs)
    ∙ pick (g.source == i)
  where
    pick : (b : Bool)
        → (if b then event_given sources g ∷ map (event_given sources) (given_by i gs)
        else map (event_given sources) (given_by i gs))
        ≡ map (event_given sources) (if b then g ∷ given_by i gs else given_by i gs)
    pick true = refl
    pick false = refl

-- what a source gave the network at a place
played-at : (play : PlayView) (airs : List (List (List ℕ))) (sections : List Section) (givers : List (List ℕ)) (place : ℕ)
    (section : Section) (i : ℕ) → IsEndedAt play place (get_or airs place []) section (get_or givers place [])
    → IsPlayed play.config play.sources givers place section i
played-at play airs sections givers place section i e =
    let gave : dealt (get_or givers place []) section.events i ≡ map (event_given play.sources) (given_by i e.by) =
    (λ k. dealt (e.told k) (e.alone k).events i) ∙ dealt-by play.sources i e.by in
    let long = length-map e.by (event_given play.sources) in
    let events = ap (λ (s : Section). length s.events) e.alone in
    let limit = ap (λ (s : Section). s.config.max_events) e.alone in
    record {
      first = subst (λ (es : List Event). IsPrefix es (heard_from play.config place play.sources i)) (sym gave)
          (e.given_at.each i).first;
      whole = λ less. gave ∙ (e.given_at.each i).whole (omega (arith, less, long, events, limit));
    }

-- who gave each event of the network at a place, who is one of the sources
known-at : (play : PlayView) (airs : List (List (List ℕ))) (sections : List Section) (givers : List (List ℕ)) (place : ℕ)
    → AreEnded play airs sections givers
    → (length (get_or givers place []) ≡ length (get_or (histories_of sections) place []))
    × All (λ giver. giver < length play.sources) (get_or givers place [])
known-at play airs sections givers place all = elim (cases_lt place (length sections)) [
  | inl within ↦
      let none : Section = section_of (setting_at play.config place) [] in
      let e = all.each place (get_or sections place none) (slice_get-get_or sections place none within) in (
        ap length e.told ∙ length-map e.by source_of ∙ sym (length-map e.by (event_given play.sources))
            ∙ (λ k. length (sym e.alone k).events)
            ∙ ap length (sym (get_or-map (λ (s : Section). s.events) sections place none)),
        subst (All (λ giver. giver < length play.sources)) (sym e.told)
            (All-map (λ (giver : ℕ). giver < length play.sources) source_of e.by e.given_at.known),
      )
  | inr past ↦
      let count = all.count in
      let nobody : get_or givers place [] ≡ [] = get_or_past givers place [] (omega (arith, past, count)) in (
        ap length nobody
            ∙ sym (ap length (get_or_past (histories_of sections) place []
            (omega (arith, past, length-map sections (λ (s : Section). s.events))))),
        subst (All (λ giver. giver < length play.sources)) (sym nobody) (All-nil (λ (giver : ℕ). giver < length play.sources)),
      )
]

pub play-of : (play : PlayView) (networks : List PlayedNetwork) (airs : List (List (List ℕ))) (kept : List AirItem)
    (sections : List Section) (givers : List (List ℕ)) → (end : IsEnd play networks airs kept)
    → AreEnded play airs sections givers → length sections ≡ length networks
    → IsPlayOf play.config play.sources (record { sections = sections; left = end.left.0; givers = givers })
play-of play networks airs kept sections givers end all count =
    let all_of = end.count in
    let logs = end.logs in
    record {
      networks = count ∙ end.count;
      sections = λ place section there.
          let e = all.each place section there in
          let few = e.given_at.bounded in
          let long = length-map e.by (event_given play.sources) in
          subst (IsSectionAt play.config place) (sym e.alone) (record { alone = refl; bounded = omega (arith, few, long) });
      air = λ place section there.
          let within = slice_get_within sections place section there in
          sym (end.left.1.each place (omega (arith, within, count, all_of, logs))) ∙ sym (all.each place section there).frames;
      nothing_else = end.left.1.placed;
      givers = record {
        networks = all.count ∙ sym (length-map sections (λ (s : Section). s.events));
        events = λ place. (known-at play airs sections givers place all).0;
        known = λ place. (known-at play airs sections givers place all).1;
      };
      played = λ place section there i. played-at play airs sections givers place section i (all.each place section there);
    }

-- Which networks are offered an event, and the entries that it leaves.
use Rattle.std.proofs.Common.{◌≡◌, ◌≢◌, ℕ, suc, ◌+◌, ◌<◌, ◌≤◌, List, [], ◌∷◌, ◌++◌, length, get_or, set, take, inl, inr, Bool, true, false, Option, Some, None, refl, sym, ap, ◌∙◌, subst, arith, append_assoc}
use Rattle.std.specs.Prelude.{◌==◌, ◌↔◌, if◌then◌else◌, IfSome, nat_lt, option_to_list}
use Rattle.std.specs.List.{flat_map, enumerate_from}
use Rattle.std.proofs.lemmas.Bool.{ltb-true, cases_eq}
use Rattle.std.proofs.lemmas.Grind.{flat_map-append}
use Rattle.std.proofs.lemmas.List.FromFn.{get_or-map-range_with_len}
use Rattle.std.proofs.lemmas.List.{append-nil, get_or-set_other, get_or-set_same, get_or_read, take_more_set, length-take-le}
use Rattle.mac_frame.specs.Hearing.{is_heard}
use Rattle.ap_config.specs.Configuration.{most_networks}
use Rattle.events.specs.Lines.{event_for, event_of_line}
use Rattle.ap_config.specs.Places.{network_at}
use Rattle.ap_config.specs.declared.config.RadioConfig.{RadioConfig}
use Rattle.events.specs.declared.event.Event.{Event}
use Rattle.events.specs.declared.event.Event.TheVariants as event
use Rattle.events.specs.declared.line.Line.{Line}
use Rattle.events.specs.declared.line.Line.TheVariants.{Air, Wire, Tick}
use Rattle.workers.specs.Copies.{copies_of, copies_at, AreCopies, IsOffered}
use Rattle.workers.specs.Giving.{heard_at, entry_of, entries_of}
use Rattle.workers.specs.declared.caller.Entry.{Entry}
use Rattle.workers.specs.declared.copies.Copies.{Copies}
use Rattle.workers.specs.declared.outcome.Outcome.{Outcome}
use Rattle.workers.specs.declared.outcome.Outcome.TheVariants.{NotHeard}

-- ---- what is heard

none-heard : (es : List Event) → copies_of es ≡ None → es ≡ []
none-heard [] e = refl
none-heard (x ∷ es) e = absurd (cc)

-- one that is heard is the line's event
event-is : (b : Bool) (e d : Event) → (if b then Some e else None) ≡ Some d → d ≡ e
event-is true e d some = cc
event-is false e d some = absurd (cc)

heard-is : (place : ℕ) (bss : List ℕ) (line : Line) (e : Event) → event_for place bss line ≡ Some e → e ≡ event_of_line line
heard-is place bss (Air x) e some = event-is (is_heard bss x) (event.Air x) e some
heard-is place bss (Wire named x) e some = event-is (named == place) (event.Wire x) e some
heard-is place bss Tick e some = cc

-- copies are for a place that has a network, and of the line's event
pub kept-at : (config : RadioConfig) (line : Line) (place : ℕ) → IfSome (copies_at config line place) (λ pair. (place < length config.networks) × (pair.kept ≡ event_of_line line))
kept-at config line place = kept (nat_lt place (length config.networks)) refl (event_for place (network_at config place).bssid line) refl
  where
    kept : (b : Bool) → nat_lt place (length config.networks) ≡ b → (o : Option Event) → event_for place (network_at config place).bssid line ≡ o → IfSome (copies_of (if b then option_to_list o else [])) (λ pair. (place < length config.networks) × (pair.kept ≡ event_of_line line))
    kept true within (Some e) hears = (ltb-true _ _ within, heard-is place (network_at config place).bssid line e hears)
    kept true within None hears = tt
    kept false within o hears = tt

pub place-of : (config : RadioConfig) (line : Line) (place : ℕ) (mine : Option Copies) → copies_at config line place ≡ mine → IfSome mine (λ _. place < length config.networks)
place-of config line place mine is = elim-some mine (subst (λ (c : Option Copies). IfSome c (λ pair. (place < length config.networks) × (pair.kept ≡ event_of_line line))) is (kept-at config line place))
  where
    elim-some : (c : Option Copies) → IfSome c (λ pair. (place < length config.networks) × (pair.kept ≡ event_of_line line)) → IfSome c (λ _. place < length config.networks)
    elim-some (Some pair) h = h.0
    elim-some None h = tt

-- ---- entries

-- one outcome more
enumerate-push : {A : Type 0} (place : ℕ) (xs : List A) (x : A) → enumerate_from place (xs ++ x ∷ []) ≡ enumerate_from place xs ++ (place + length xs, x) ∷ []
enumerate-push place [] x = let here : place ≡ place + 0 = omega arith in ap (λ (p : ℕ). (p, x) ∷ []) here
enumerate-push place (y ∷ ys) x =
    let next : place + 1 + length ys ≡ place + suc (length ys) = omega arith in
    ap (λ l. (place, y) ∷ l) (enumerate-push (place + 1) ys x ∙ ap (λ (p : ℕ). enumerate_from (place + 1) ys ++ (p, x) ∷ []) next)

entries_of-push : (e : Event) (outcomes : List Outcome) (o : Outcome) (place : ℕ) → length outcomes ≡ place → entries_of e (outcomes ++ o ∷ []) ≡ entries_of e outcomes ++ entry_of e place o
entries_of-push e outcomes o place count =
    let entry = λ (n : ℕ × Outcome). entry_of e n.0 n.1 in
    let here : 0 + length outcomes ≡ place = omega (arith, count) in
    ap (flat_map entry) (enumerate-push 0 outcomes o ∙ ap (λ (p : ℕ). enumerate_from 0 outcomes ++ (p, o) ∷ []) here)
    ∙ flat_map-append entry (enumerate_from 0 outcomes) ((place, o) ∷ [])
    ∙ ap (λ es. entries_of e outcomes ++ es) (append-nil (entry_of e place o))

-- ---- the offers, place by place

-- the copies at this place, as they were given
pub own-copies : (copies : List (Option Copies)) (place : ℕ) (here mine : Option Copies) → place < length copies → here ≡ get_or copies place here → mine ≡ here → get_or copies place None ≡ mine
own-copies copies place here mine inside is same = sym (get_or_read copies place here inside is None) ∙ sym same

-- The places below this one were offered the event of a line, and the others not yet.
pub record Offered (config : RadioConfig) (line : Line) (copies : List (Option Copies)) (outcomes : List Outcome) (before entries : List Entry) (place : ℕ) : Type 0 where
  pub rest : (k : ℕ) → place ≤ k → k < most_networks → get_or copies k None ≡ copies_at config line k
  pub heard : (k : ℕ) → k < place → (get_or outcomes k NotHeard ≡ NotHeard) ↔ (heard_at config line k ≡ [])
  pub kept : entries ≡ before ++ entries_of (event_of_line line) (take place outcomes)

pub none-offered : (config : RadioConfig) (line : Line) (copies : List (Option Copies)) (outcomes : List Outcome) (before : List Entry) → AreCopies config line copies → Offered config line copies outcomes before before 0
none-offered config line copies outcomes before are = record {
  rest = λ k le within. ap (λ xs. get_or xs k None) are
      ∙ get_or-map-range_with_len (copies_at config line) 0 most_networks k k None within (let at : 0 + k ≡ k = omega arith in at);
  heard = λ k lt. absurd (omega (arith, lt));
  kept = sym (append-nil before);
}

-- this place was offered its copies, if there are any
pub offered-more : (config : RadioConfig) (line : Line) (copies copies' : List (Option Copies)) (outcomes : List Outcome) (before entries entries' : List Entry) (place : ℕ) (mine : Option Copies) (o : Outcome) → place < most_networks → place < length outcomes → get_or copies place None ≡ mine → copies' ≡ set copies place None → IsOffered mine o → ((e : Event) → IfSome mine (λ pair. pair.kept ≡ e) → entries' ≡ entries ++ entry_of e place o) → Offered config line copies outcomes before entries place → Offered config line copies' (set outcomes place o) before entries' (place + 1)
offered-more config line copies copies' outcomes before entries entries' place mine o test within own taken hears new h =
    let here : copies_at config line place ≡ mine = sym (h.rest place (omega arith) test) ∙ own in
    let at : get_or (set outcomes place o) place NotHeard ≡ o = get_or-set_same outcomes place o NotHeard within in
    record {
      rest = λ k le below. (
          let ne : k ≢ place = omega (arith, le) in
          let later : place ≤ k = omega (arith, le) in
          ap (λ cs. get_or cs k None) taken ∙ get_or-set_other copies place k None None ne ∙ h.rest k later below
          );
      heard = λ k lt. elim (cases_eq k place) [
        | inl e ↦
            subst (λ n. (get_or (set outcomes place o) n NotHeard ≡ NotHeard) ↔ (heard_at config line n ≡ [])) (sym e) (
              λ none. none-heard (heard_at config line place) (here ∙ hears.0 (sym at ∙ none)),
              λ unheard. at ∙ hears.1 (sym here ∙ ap copies_of unheard),
            )
        | inr ne ↦
            let lower : k < place = omega (arith, lt, ne) in
            subst (λ (x : Outcome). (x ≡ NotHeard) ↔ (heard_at config line k ≡ [])) (sym (get_or-set_other outcomes place k o NotHeard ne)) (h.heard k lower)
      ];
      kept = (
          let e : Event = event_of_line line in
          let count : length (take place outcomes) ≡ place = length-take-le place outcomes (omega (arith, within)) in
          new e (of-line mine (subst (λ (c : Option Copies). IfSome c (λ pair. (place < length config.networks) × (pair.kept ≡ e))) here (kept-at config line place)))
          ∙ ap (λ es. es ++ entry_of e place o) h.kept
          ∙ append_assoc before (entries_of e (take place outcomes)) (entry_of e place o)
          ∙ ap (λ es. before ++ es) (sym (entries_of-push e (take place outcomes) o place count))
          ∙ ap (λ os. before ++ entries_of e os) (sym (take_more_set outcomes place o within))
          );
    }
  where
    of-line : (c : Option Copies) → IfSome c (λ pair. (place < length config.networks) × (pair.kept ≡ event_of_line line)) → IfSome c (λ pair. pair.kept ≡ event_of_line line)
    of-line (Some pair) h = h.1
    of-line None h = tt

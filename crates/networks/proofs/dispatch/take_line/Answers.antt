use Rattle.std.proofs.Common.{◌≡◌, ℕ, ◌+◌, ◌-◌, ◌<◌, ◌≤◌, List, Some, None, [], false, length, map, get_or, slice_index_or, arith, ap, refl, sym, subst, ◌∙◌}
use Rattle.std.specs.Prelude.{if◌then◌else◌}
use Rattle.std.proofs.lemmas.List.{get_or-map, length-map}
use Rattle.events.specs.LentEvents.{line_of}
use Rattle.events.specs.Lines.{event_for, event_of_line}
use Rattle.events.specs.declared.line.Line.{Line}
use Rattle.events.specs.Audiences.{IsAudience, is_in}
use Rattle.networks.specs.Takes.{TakesIf, change}
use Rattle.events.specs.declared.audience.Audience.{Audience}
use Rattle.networks.proofs.TakeSteps.{TakesSoFar, addresses-kept, as-before, takes-all, takes-next, takes-none, takes-skip}
use Rattle.networks.proofs.dispatch.take_line.Goals as goal

-- a network outside of the places is none that hears the line
not-heard : {N : Type 0} (bssid : N → List ℕ) (a : Audience) (said : Line) (bssids : List (List ℕ)) (ns : List N) (j : ℕ) (n : N)
    → IsAudience a said → bssids ≡ map bssid ns → j < length ns → n ≡ get_or ns j n
    → is_in a j (slice_index_or bssids j []) ≡ false → event_for j (bssid n) said ≡ None
not-heard bssid a said bssids ns j n audience addresses within is outside =
    let read : slice_index_or bssids j [] ≡ bssid n =
    ap (λ (bs : List (List ℕ)). slice_index_or bs j []) addresses ∙ get_or-map bssid ns j n [] within ∙ ap bssid (sym is) in
    audience j (bssid n) ∙ ap (λ b. if b then Some (event_of_line said) else None) (ap (is_in a j) (sym read) ∙ outside)

pub loop-place-init : goal.loop-place-init
loop-place-init g c =
    let ns : List g.row.N.Denot = c.args.networks.now in
    let count : length c.args.bssids.now ≡ length ns = ap length c.requires.addresses ∙ length-map ns g.N.Addressed.bssid in
    let places = c.places-first.ensures in
    let first : 0 + c.places-first.result.0 ≡ c.places-first.result.0 = omega arith in
    record {
      taken =
          subst
          (λ (p : ℕ). TakesSoFar g.N.Addressed.bssid (g.D.Deliver.delivers c.args.how.now) (line_of c.args.line) p ns ns c.args.out.now c.args.out.now)
          first
          (takes-skip _ _ _ 0 ns ns _ _ c.places-first.result.0 (takes-none _ _ _ ns _)
          (omega (arith, places.order, places.few, count))
          (λ j n low high is.
          not-heard g.N.Addressed.bssid c.of-audience.result (line_of c.args.line) c.args.bssids.now ns j n c.of-audience.ensures
          c.requires.addresses (omega (arith, high, places.order, places.few, count)) is (places.before j (omega (arith, high)))));
      ready = c.requires.ready;
      addresses = refl;
    }

pub returns-in_err-take_at-clause-addresses : goal.returns-in_err-take_at-clause-addresses
returns-in_err-take_at-clause-addresses g c =
    addresses-kept g.N.Addressed.bssid c.loop-place.networks c.loop-place.place c.index-networks-place.result c.take_at.new.network
    c.index-networks-place.is (c.take_at.ensures.address ∙ ap g.N.Addressed.bssid (sym c.index-networks-place.is))
    ∙ c.loop-place.invariant.addresses

pub loop-place-preserved : goal.loop-place-preserved
loop-place-preserved g c =
    let ns : List g.row.N.Denot = c.args.networks.now in
    let place : ℕ = c.loop-place.place in
    let count : length c.args.bssids.now ≡ length ns = ap length c.requires.addresses ∙ length-map ns g.N.Addressed.bssid in
    let within : place < length ns = omega (arith, c.loop-place-test.true, c.places-first.ensures.few, count) in
    let n : g.row.N.Denot = c.index-networks-place.result in
    let there : n ≡ get_or ns place n =
    c.index-networks-place.is ∙ as-before _ _ _ place ns c.loop-place.networks _ _ n c.loop-place.invariant.taken within in
    let read : c.index-bssids-place.result ≡ g.N.Addressed.bssid n =
    c.index-bssids-place.is
    ∙ ap (λ (bs : List (List ℕ)). get_or bs place c.index-bssids-place.result) c.requires.addresses
    ∙ get_or-map g.N.Addressed.bssid ns place n c.index-bssids-place.result within
    ∙ ap g.N.Addressed.bssid (sym there) in
    record {
      taken =
          takes-next _ _ _ place ns c.loop-place.networks _ _ _ n c.take_at.new.network c.loop-place.invariant.taken within
          c.index-networks-place.is
          (subst
          (λ (x : List ℕ × g.row.N.Denot).
          TakesIf (g.D.Deliver.delivers c.args.how.now) (event_for place x.0 (line_of c.args.line)) (change x.1 c.take_at.new.network) (change c.loop-place.out c.take_at.new.out))
          (λ k. (read k, sym c.index-networks-place.is k))
          (c.in_ok-take_at.ensures.taken (line_of c.args.line) c.of-audience.ensures (c.read_for-event.ensures ∙ c.event-lent.ensures)));
      ready = c.in_ok-take_at.ensures.ready;
      addresses =
          addresses-kept g.N.Addressed.bssid c.loop-place.networks place n c.take_at.new.network c.index-networks-place.is
          (c.take_at.ensures.address ∙ ap g.N.Addressed.bssid (sym c.index-networks-place.is))
          ∙ c.loop-place.invariant.addresses;
    }

pub returns-clause-taken : goal.returns-clause-taken
returns-clause-taken g c =
    let ns : List g.row.N.Denot = c.args.networks.now in
    let place : ℕ = c.loop-place.place in
    let count : length c.args.bssids.now ≡ length ns = ap length c.requires.addresses ∙ length-map ns g.N.Addressed.bssid in
    let within : place ≤ length ns = c.loop-place.invariant.taken.within in
    let all : length ns ≤ place + (length ns - place) = omega (arith, within) in
    takes-all _ _ _ (place + (length ns - place)) ns c.loop-place.networks _ _
    (takes-skip _ _ _ place ns c.loop-place.networks _ _ (length ns - place) c.loop-place.invariant.taken
    (omega (arith, within))
    (λ j n low high is.
    not-heard g.N.Addressed.bssid c.of-audience.result (line_of c.args.line) c.args.bssids.now ns j n c.of-audience.ensures
    c.requires.addresses (omega (arith, high, within)) is
    (c.places-first.ensures.after j (omega (arith, low, c.loop-place-test.false)) (omega (arith, high, within, count)))))
    all

use Rattle.std.proofs.Common.{◌≡◌, ◌<◌, ◌++◌, ◌∷◌, ℕ, List, Some, length, map, get_or, refl, sym, ap, subst, ◌∙◌, arith, []}
use Rattle.std.specs.Prelude.{slice_get}
use Rattle.std.proofs.lemmas.List.{get_or_default, length-map, length_push}
use Rattle.std.proofs.lemmas.Option.{slice_get_read}
use Rattle.networks.specs.declared.network_with_frames.NetworkWithFrames.{NetworkWithFrames}
use Rattle.ap_config.specs.Places.{setting_at}
use Rattle.events.specs.declared.air_item.AirItem.{AirItem}
use Rattle.events.specs.declared.section.Section.{Section}
use Rattle.play.specs.Played.{IsPlayOf}
use Rattle.play.specs.Kept.{IsWholeAt, event_given, log_with, section_told}
use Rattle.play.specs.declared.kept.PlayedNetwork.{PlayedNetwork}
use Rattle.play.proofs.Ended.{AreEnded, IsEndedAt, ended-push, ended-told, play-of, source_of}
use Rattle.play.proofs.ending.finish.Goals as goal

pub section_of-requires : goal.section_of-requires
section_of-requires g c =
    let play = g.N.PlayName.play in
    let n : PlayedNetwork = c.index-played.result.now in
    let within : c.loop-place.place < length c.args.networks.items = omega (arith, c.args.networks.ok.0) in
    let whole = c.requires.end.each c.loop-place.place n
    (slice_get_read c.args.networks.items _ c.loop-place.place n refl within c.index-played.ensures) in
    let few = whole.given_at.bounded in
    let long = length-map whole.by (event_given play.sources) in
    c.counted.ensures (setting_at play.config c.loop-place.place) (map (event_given play.sources) whole.by)
    (ap (λ (l : NetworkWithFrames). l.network) whole.alone) (omega (arith, few, long))

pub loop-place-preserved : goal.loop-place-preserved
loop-place-preserved g c =
    let i = c.loop-place.invariant in
    let play = g.N.PlayName.play in
    let place : ℕ = c.loop-place.place in
    let networks : List PlayedNetwork = c.args.networks.items in
    let airs : List (List (List ℕ)) = c.args.left.logs.items in
    let sections : List Section = c.loop-place.sections.items in
    let n : PlayedNetwork = c.index-played.result.now in
    let air : List (List ℕ) = c.index-air.result.now in
    let section : Section = c.in_ok-section.section in
    let several = c.requires.end.count in
    let many = c.requires.end.logs in
    let within : place < length networks = omega (arith, c.args.networks.ok.0) in
    let here : air ≡ get_or airs place [] =
    c.index-air.ensures ∙ get_or_default airs place air [] (omega (arith, within, several, many)) in
    let whole : IsWholeAt play place air n =
    subst (λ (fs : List (List ℕ)). IsWholeAt play place fs n) (sym here)
    (c.requires.end.each place n (slice_get_read networks _ place n refl within c.index-played.ensures)) in
    let told = c.from_vec.ensures ∙ c.in_ok-by.ensures ∙ ap (map source_of) c.as_slice-told.ensures.value in
    let is : section ≡ section_told (log_with air n) (map (event_given play.sources) n.given.items) =
    c.in_ok-section.ensures
    ∙ ap (section_told (log_with air n)) (c.in_ok-events.ensures
    ∙ (λ k. map (event_given (c.requires.sources k)) (c.as_slice-told.ensures.value k))) in
    let one : IsEndedAt play place air section c.from_vec.result =
    ended-told play place air n section c.from_vec.result c.requires.keeps whole is told in
    let count = i.count in
    record {
      ended = subst (λ (x : List Section × List (List ℕ)). AreEnded play airs x.0 x.1)
          (λ k. (sym c.in_ok-push-2.ensures.items k, sym c.in_ok-push.ensures.items k))
          (ended-push play airs sections c.loop-place.givers.items section c.from_vec.result i.ended
          (subst (λ (k : ℕ). IsEndedAt play k (get_or airs k []) section c.from_vec.result) (sym count)
          (subst (λ (fs : List (List ℕ)). IsEndedAt play place fs section c.from_vec.result) here one)));
      count = omega (arith, count, ap length c.in_ok-push-2.ensures.items, length_push sections section);
    }

pub returns : goal.returns
returns g c =
    let i = c.loop-place.invariant in
    let play = g.N.PlayName.play in
    let end = c.requires.end in
    let count = i.count in
    let left = c.from_vec-3.ensures ∙ end.left.1.told c.requires.keeps in
    subst
    (λ (x : List Section × List AirItem × List (List ℕ)).
    IsPlayOf play.config play.sources (record { sections = x.0; left = x.1; givers = x.2 }))
    (λ k. (sym c.from_vec-2.ensures k, sym left k, sym c.from_vec-4.ensures k))
    (play-of play c.args.networks.items c.args.left.logs.items c.args.left.items.items c.loop-place.sections.items
    c.loop-place.givers.items end i.ended (omega (arith, count, c.args.networks.ok.0)))

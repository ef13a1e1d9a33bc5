use Rattle.std.proofs.Common.{◌≡◌, ◌<◌, ◌+◌, ℕ, true, List, ◌++◌, length, map, sym, subst, ◌∙◌, arith}
use Rattle.std.proofs.lemmas.List.{get_or_default}
use Rattle.networks.specs.WithFrames.{after_events, sent_after}
use Rattle.ap_config.specs.declared.setting.Setting.{Setting}
use Rattle.events.specs.Lines.{taken_of}
use Rattle.events.specs.declared.event.Event.{Event}
use Rattle.events.specs.declared.line.Line.TheVariants.{Tick}
use Rattle.play.proofs.Seats.{takes-next}
use Rattle.play.proofs.seat.Seat.take_line.Goals as goal

pub invariant_of-self : goal.invariant_of-self
invariant_of-self g c =
    let play = g.N.PlayName.play in
    let batch = c.args.batch.now in
    let seat = c.self.inside in
    let pushed = seat.pass.pushed in
    let old = sent_after pushed seat.network in
    let new = sent_after pushed c.take_by.new.network in
    let line = c.index-line.result.now in
    let count = c.self.invariant.2 in
    let known = batch.known in
    let long : length seat.next.items ≡ length play.sources = omega (arith, count, seat.next.ok.0) in
    let inside : batch.source < length seat.next.items = omega (arith, long, known) in
    let within : c.args.place < length batch.lines.items = omega (arith, c.requires, batch.lines.ok.0) in (
      c.self.invariant.0,
      c.self.invariant.1,
      c.self.invariant.2,
      c.self.invariant.3,
      λ fine.
          takes-next play seat.next.items seat.pass.place batch.source batch.first c.args.place line
          batch.lines.items old new seat.given.items c.take_by.new.given.items inside batch.known batch.stand within
          (get_or_default seat.next.items batch.source 0 c.index.result.now inside ∙ sym c.index.ensures ∙ c.if-index-number.false)
          (c.index-line.ensures ∙ get_or_default batch.lines.items c.args.place line Tick within)
          (c.self.invariant.4 fine)
          (subst
          (λ (p : ℕ).
          (s : Setting) (es : List Event) → old ≡ after_events s es
          → new ≡ after_events s (es ++ taken_of p s.network es line))
          c.place-at.ensures (λ s es was. c.in-Ok.ensures.taken s es pushed was))
          (subst
          (λ (p : ℕ).
          (s : Setting) (es : List Event) → old ≡ after_events s es → play.keeps ≡ true
          → c.take_by.new.given.items
          ≡ seat.given.items ++ map (λ _. record { source = batch.source; line = batch.first + c.args.place }) (taken_of p s.network es line))
          c.place-at.ensures
          (λ s es was keep. c.in-Ok.ensures.given s es pushed was (c.self.invariant.3 ∙ keep))),
    )

use Rattle.std.proofs.Common.{◌≡◌, ◌+◌, ◌++◌, ◌∷◌, [], List, length, sym, ap, subst, ◌∙◌, arith, vec_len}
use Rattle.std.specs.List.{AllZip, range_with_len}
use Rattle.std.proofs.lemmas.Slice.Zip.{all_zipped_more}
use Rattle.air_queue.specs.Passes.{NetPassView}
use Rattle.network.specs.BssView.{BssView}
use Rattle.workers.specs.Seats.{IsSeated}
use Rattle.workers.proofs.Endings.{named-seated, placed-push}
use Rattle.workers.proofs.finish.unseat.Goals as goal

pub loop-seat-preserved : goal.loop-seat-preserved
loop-seat-preserved g c =
    let i = c.loop-seat.invariant in
    let config = g.N.ApName.config in
    let queue = g.N.ApName.queue in
    let b : BssView = c.into_parts-bss.result.0 in
    let p : NetPassView = c.into_parts-bss.result.1 in
    let networks : c.push.new.self.items ≡ c.loop-seat.networks.items ++ b ∷ [] = c.in_ok-push.ensures.items in
    let nets : c.push-in-loop-seat.new.self.items ≡ c.loop-seat.nets.items ++ p ∷ [] = c.in_ok-push-2.ensures.items in
    let len : vec_len c.push-in-loop-seat.new.self ≡ vec_len c.loop-seat.nets + 1 = c.in_ok-push-2.ensures.len in
    let here : p.place ≡ vec_len c.loop-seat.nets = sym c.place.ensures ∙ c.if-place-len.false ∙ c.len-in-loop-seat.ensures in
    let count = i.count in
    let next = c.in-Some.ensures.steps.1 in
    record {
      seated = subst (λ (x : List BssView × List NetPassView). AllZip (IsSeated config queue) x.0 x.1) (λ k. (sym networks k, sym nets k)) (all_zipped_more (IsSeated config queue) c.loop-seat.networks.items c.loop-seat.nets.items b p i.seated c.into_parts-bss.ensures.seated);
      placed = placed-push c.loop-seat.nets.items c.push-in-loop-seat.new.self.items p (vec_len c.loop-seat.nets) nets here i.placed ∙ ap (range_with_len 0) (sym len);
      count = omega (arith, count, next, len);
    }

pub returns : goal.returns
returns g c =
    let i = c.loop-seat.invariant in
    let count = i.count in
    let ended = c.in-None.ensures.steps.0 in
    let all : vec_len c.loop-seat.nets ≡ length g.N.ApName.config.networks = omega (arith, count, ended) in
    record {
      there = record {
        named = named-seated g.N.ApName.config g.N.ApName.queue c.loop-seat.networks.items c.loop-seat.nets.items i.seated;
        placed = i.placed ∙ ap (range_with_len 0) all;
      };
      seated = i.seated;
    }

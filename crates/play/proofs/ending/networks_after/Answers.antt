use Rattle.std.proofs.Common.{◌≡◌, ◌≤◌, ◌++◌, ◌∷◌, [], ℕ, suc, List, length, drop, get_or, inl, inr, refl, sym, ap, subst, ◌∙◌, arith, length-drop, rules}
use Rattle.std.specs.Vec.Iter.{into_iter_items}
use Rattle.std.proofs.lemmas.Grind.{common_steps}
use Rattle.std.proofs.lemmas.List.{length_push, nil_from_length}
use Rattle.std.proofs.lemmas.Option.{slice_get_within, get_or_from_slice_get}
use Rattle.networks.specs.declared.network_with_frames.NetworkWithFrames.{NetworkWithFrames}
use Rattle.play.specs.Kept.{log_with}
use Rattle.play.specs.declared.kept.PlayedNetwork.{PlayedNetwork}
use Rattle.play.proofs.Ended.{AreLogged, logged-push, next-at, play-of}
use Rattle.play.proofs.ending.networks_after.Goals as goal

pub loop-played-init : goal.loop-played-init
loop-played-init g c =
    let none : c.in_ok-logs.logs.items ≡ [] =
    nil_from_length c.in_ok-logs.logs.items (omega (arith, c.in_ok-logs.ensures.len, c.in_ok-logs.logs.ok.0)) in
    record {
      logged = subst (AreLogged g.N.PlayName.play c.args.left.logs.items) (sym none) (record {
        sections = [];
        givers = [];
        ended = record { count = refl; each = λ place section at. absurd (cc) };
        long = refl;
        are = refl;
      });
      networks = search rules;
      airs = search rules;
      count = omega (arith, c.in_ok-logs.ensures.len, c.in_ok-logs.logs.ok.0);
    }

pub loop-played-preserved : goal.loop-played-preserved
loop-played-preserved g c =
    let i = c.loop-played.invariant in
    let play = g.N.PlayName.play in
    let logs : List NetworkWithFrames = c.loop-played.logs.items in
    let networks : List PlayedNetwork = c.args.networks.items in
    let airs : List (List (List ℕ)) = c.args.left.logs.items in
    let played : PlayedNetwork = c.in-Some.played in
    let air : List (List ℕ) = c.in-Some.air in
    let a : into_iter_items c.loop-played.played-iterator.a ≡ played ∷ into_iter_items c.next.new.self.a =
    grind (arith, common_steps) in
    let b : into_iter_items c.loop-played.played-iterator.b ≡ air ∷ into_iter_items c.next.new.self.b =
    grind (arith, common_steps) in
    let n = next-at networks (length logs) played (into_iter_items c.next.new.self.a) (sym i.networks ∙ a) in
    let m = next-at airs (length logs) air (into_iter_items c.next.new.self.b) (sym i.airs ∙ b) in
    let here : air ≡ get_or airs (length logs) [] = sym (get_or_from_slice_get airs (length logs) air [] m.0) in
    let items = c.in_ok-push.ensures.items in
    let long : length c.push.new.self.items ≡ suc (length logs) =
    omega (arith, ap length items, length_push logs (log_with air played)) in
    let within = slice_get_within networks (length logs) played n.0 in
    record {
      logged = subst (AreLogged play airs)
          (sym (items ∙ ap (λ (fs : List (List ℕ)). logs ++ log_with fs played ∷ []) here))
          (logged-push play airs logs played i.logged (c.requires.each (length logs) played n.0));
      networks = n.1 ∙ ap (λ (k : ℕ). drop k networks) (sym long);
      airs = m.1 ∙ ap (λ (k : ℕ). drop k airs) (sym long);
      count = omega (arith, long, within);
    }

pub returns : goal.returns
returns g c =
    let i = c.loop-played.invariant in
    let end = c.requires in
    let logs : List NetworkWithFrames = c.loop-played.logs.items in
    let networks : List PlayedNetwork = c.args.networks.items in
    let airs : List (List (List ℕ)) = c.args.left.logs.items in
    let left = c.loop-played.played-iterator.a in
    let right = c.loop-played.played-iterator.b in
    let several = end.count in
    let many = end.logs in
    let all : length networks ≤ length logs = elim c.in-None.ensures.steps [
      | inl h ↦ omega (arith, left.rest.ok, h.1.0, ap length i.networks, length-drop (length logs) networks)
      | inr h ↦ omega (arith, right.rest.ok, h.1.0, ap length i.airs, length-drop (length logs) airs, several, many)
    ] in
    let count = i.count in
    let long = i.logged.long in (
      _,
      play-of g.N.PlayName.play networks airs c.args.left.items.items i.logged.sections i.logged.givers end i.logged.ended
          (omega (arith, all, count, long)),
      i.logged.are,
    )

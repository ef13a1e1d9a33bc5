use Rattle.std.proofs.Common.{◌≡◌, ℕ, List, sym, subst, arith}
use Rattle.std.proofs.lemmas.Option.{slice_get_within}
use Rattle.play.specs.Kept.{IsWholeAt}
use Rattle.play.proofs.locked_networks.LockedNetworks.into_end.Goals as goal

pub returns-clause-end : goal.returns-clause-end
returns-clause-end g c =
    let all = c.in_ok-networks.ensures in
    let logs = c.in_ok-left.left.logs in
    let count = c.in_ok-left.ensures.count in
    let many = all.count.0 in
    record {
      count = all.count.0;
      logs = omega (arith, count, logs.ok.0);
      each = λ place n at.
          let within = slice_get_within c.in_ok-networks.networks.items place n at in
          subst (λ (air : List (List ℕ)). IsWholeAt g.N.PlayName.play place air n)
          (sym (c.in_ok-left.ensures.pushed place (omega (arith, within, many)))) (all.sent place n at);
      left = c.in_ok-left.ensures.left;
    }

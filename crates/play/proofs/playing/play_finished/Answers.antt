use Rattle.std.proofs.Common.{◌≡◌, Err, sym, ap, ◌∙◌}
use Rattle.std.proofs.lemmas.Result.{err_from_is_err_and}
use Rattle.play.specs.declared.play_fault.PlayFault.{PlayFault}
use Rattle.play.specs.declared.play_fault.PlayFault.TheVariants.{Config}
use Rattle.play.proofs.playing.play_finished.Goals as goal

pub returns-in_err-parts-clause-config : goal.returns-in_err-parts-clause-config
returns-in_err-parts-clause-config g c fault =
    let told : PlayFault = c.in_err-parts.field-0.0 in
    let p = err_from_is_err_and c.from_residual.result c.from_residual.ensures.1 in
    let same : c.from_residual.result ≡ Err told = p.1 ∙ ap Err p.2 in
    let is = c.in_err-parts.ensures.config fault in (
      λ e. let both : Err told ≡ Err (Config fault) = sym same ∙ e in
          let one : told ≡ Config fault = cc in
          is.0 (ap Err one),
      λ e. let both = is.1 e in let one : told ≡ Config fault = cc in same ∙ ap Err one,
    )

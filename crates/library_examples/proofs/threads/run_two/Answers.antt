use Rattle.std.proofs.Common.{◌≡◌, IfOk, length, subst}
use Rattle.ap_config.specs.declared.config.RadioConfig.{RadioConfig}
use Rattle.play.specs.Sections.{AreSections}
use Rattle.library_examples.proofs.threads.run_two.Goals as goal

-- the access point has the configuration of its parts, which is the one given
pub returns-clause-networks : goal.returns-clause-networks
returns-clause-networks g c =
    subst (λ (config : RadioConfig). IfOk c.run_parts.result (λ end. length end.sections ≡ length config.networks))
    c.in_ok-parts.ensures.opened.0 c.run_parts.ensures.networks

pub returns-clause-sections : goal.returns-clause-sections
returns-clause-sections g c =
    subst (λ (config : RadioConfig). IfOk c.run_parts.result (λ end. AreSections config end.sections))
    c.in_ok-parts.ensures.opened.0 c.run_parts.ensures.sections

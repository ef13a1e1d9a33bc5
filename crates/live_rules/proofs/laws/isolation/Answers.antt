use Rattle.std.proofs.Common.{refl}
use Rattle.live_rules.specs.AnswerText.{table_text}
use Rattle.live_rules.proofs.IsolationLaws.{is-alone}
use Rattle.live_rules.proofs.laws.isolation.Goals as goal

pub returns-clause-alone : goal.returns-clause-alone
returns-clause-alone c =
    is-alone
    (record { first = c.one_step.ensures.first; next = c.one_step.ensures.next; append = c.steps_append.ensures })

pub returns-clause-shown : goal.returns-clause-shown
unfolding table_text
returns-clause-shown c = λ s es. refl

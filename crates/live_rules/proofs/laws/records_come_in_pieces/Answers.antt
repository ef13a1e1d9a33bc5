use Rattle.live_rules.proofs.RecordLaws.{records-one, records-more, partial-grown}
use Rattle.live_rules.proofs.laws.records_come_in_pieces.Goals as goal

pub returns-clause-one : goal.returns-clause-one
returns-clause-one c = records-one

pub returns-clause-pieces : goal.returns-clause-pieces
returns-clause-pieces c = records-more

pub returns-clause-partial : goal.returns-clause-partial
returns-clause-partial c = partial-grown

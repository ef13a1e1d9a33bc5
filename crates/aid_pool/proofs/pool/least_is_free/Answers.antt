use Rattle.aid_pool.proofs.Least.{least_free_is, least_of_list}
use Rattle.aid_pool.proofs.pool.least_is_free.Goals as goal

pub returns-clause-only : goal.returns-clause-only
returns-clause-only c = least_free_is

pub returns-clause-some : goal.returns-clause-some
returns-clause-some c numbers few = (least_of_list numbers few).0

pub returns-clause-bound : goal.returns-clause-bound
returns-clause-bound c numbers few = (least_of_list numbers few).1

use Rattle.aid_pool.proofs.Numbers.{numbers_of-none}
use Rattle.aid_pool.proofs.marks.Marks.new.Goals as goal

pub returns : goal.returns
returns c = numbers_of-none c.no_marks.result c.no_marks.ensures.others

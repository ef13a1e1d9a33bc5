use Rattle.encapsulation.proofs.Bodies.{carries_body}
use Rattle.encapsulation.proofs.encapsulation.body_comes_back.Goals as goal

pub returns : goal.returns
returns c = carries_body

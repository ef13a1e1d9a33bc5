use Rattle.encapsulation.proofs.Bodies.{typed_comes_back, sized_comes_back}
use Rattle.encapsulation.proofs.encapsulation.frame_comes_back.Goals as goal

pub returns-clause-typed : goal.returns-clause-typed
returns-clause-typed c = typed_comes_back

pub returns-clause-sized : goal.returns-clause-sized
returns-clause-sized c = sized_comes_back

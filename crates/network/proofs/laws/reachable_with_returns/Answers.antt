use Rattle.network.proofs.ReturnLaws.{all-told-sound}
use Rattle.network.proofs.laws.reachable_with_returns.Goals as goal

pub returns : goal.returns
returns c = all-told-sound c.stays_sound.ensures c.came_in_turn.ensures c.returns_in_its_place.ensures.count

use Rattle.air_share.proofs.Choices.{chosen_gives, chosen_from}
use Rattle.air_share.proofs.lane_laws.one_choice.Goals as goal

pub returns : goal.returns
returns c lanes place = (chosen_gives lanes place, chosen_from lanes place)

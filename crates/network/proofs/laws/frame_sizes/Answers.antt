use Rattle.network.proofs.FrameSizes.{alone-within, step-within}
use Rattle.network.proofs.laws.frame_sizes.Goals as goal

pub returns-clause-alone : goal.returns-clause-alone
returns-clause-alone c = alone-within c.one_frame.ensures.reading c.one_ethernet_frame.ensures.reading c.one_tim.ensures.shows

pub returns-clause-step : goal.returns-clause-step
returns-clause-step c = step-within c.one_frame.ensures.reading c.one_ethernet_frame.ensures.reading c.one_tim.ensures.shows

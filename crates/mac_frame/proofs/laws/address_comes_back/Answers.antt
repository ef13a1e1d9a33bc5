use Rattle.mac_frame.proofs.AddressTexts.{comes_back}
use Rattle.mac_frame.proofs.laws.address_comes_back.Goals as goal

pub returns : goal.returns
returns c = comes_back

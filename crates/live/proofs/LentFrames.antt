-- Frames that are lent.
use Rattle.std.proofs.Common.{◌≡◌, Option, Some, None, Bor, refl}
use Rattle.std.specs.Prelude.{option_map}
use Rattle.std.specs.Option.{option_copied}

pub copied : {X : Type 0} (o : Option (Bor X)) → option_copied o ≡ option_map (λ x. x.now) o
copied None = refl
copied (Some x) = refl

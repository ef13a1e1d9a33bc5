-- A pool of association identifiers (IEEE Std 802.11-2016, 9.4.1.8): how many it hands out at most (profile), and the
-- finite set of those that are out.
use Rattle.std.specs.Prelude.{ℕ, refl}
use Rattle.std.specs.Ordering.{nat_cmp}
use Rattle.std.specs.FinSet as set
use Rattle.std.specs.Coded.{Coded, code_by, coded×, coded_ℕ}

pub record Pool : Type 0 where
  pub most : ℕ
  pub out : set.FinSet nat_cmp

abbrev pub pool_code : Coded Pool
pool_code =
    code_by (ℕ × set.FinSet nat_cmp) (coded× coded_ℕ (set.code coded_ℕ)) (λ p. (p.most, p.out))
    (λ p. record { most = p.0; out = p.1 }) (λ _. refl)

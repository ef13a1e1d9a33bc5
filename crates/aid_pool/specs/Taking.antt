-- The association identifiers that a pool may hand out by name (IEEE Std 802.11-2016, 9.4.1.8).
use Rattle.std.specs.Prelude.{ℕ, ◌≡◌, ◌<◌, ◌≤◌, false}
use Rattle.std.specs.FinSet as set
use Rattle.aid_pool.specs.Pool.{Pool}

-- a number from 1 to 2007 that is free, where fewer are out than may be (profile)
pub record MayBeTaken (aid : ℕ) (pool : Pool) : Type 0 where
  pub first : 1 ≤ aid
  pub last : aid ≤ 2007
  pub free : set.contains pool.out aid ≡ false
  pub room : set.len pool.out < pool.most

-- Which access point it is (profile).
use Rattle.std.specs.Prelude.{ℕ, ◌≡◌}
use Rattle.air_queue.specs.Passes.{QueueName}
use Rattle.ap_config.specs.declared.config.RadioConfig.{RadioConfig}

-- the parts of an access point: its configuration, the name of its air queue, and how many callers it is to have
pub record PartsView : Type 0 where
  pub config : RadioConfig
  pub queue : QueueName
  pub callers : ℕ

-- the parts are those of the access point with this name
pub record AreNamed (config : RadioConfig) (queue : QueueName) (parts : PartsView) : Type 0 where
  pub configured : parts.config ≡ config
  pub queued : parts.queue ≡ queue

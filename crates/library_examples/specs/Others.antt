-- What one network's turn does to the others.
use Rattle.std.specs.Prelude.{ℕ, ◌≡◌, ◌≢◌}
use Rattle.bss_core.specs.RadioView.{RadioView, view_at}

-- the networks but the one at a place are as they were: their events, and their frames that wait
abbrev pub OthersStay : ℕ → RadioView → RadioView → Type 0
OthersStay place old new = (other : ℕ) → other ≢ place → view_at new other ≡ view_at old other

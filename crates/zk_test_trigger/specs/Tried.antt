-- Inner: no contract of a top call is made of this file.
-- Triggers that are tried by tests.
use Rattle.std.specs.Prelude.{ℕ, ◌<◌, ◌≤◌, List, length, All}
use Rattle.zk_base.specs.declared.ids.Entry.{Entry}

-- all steps of the history are below this one, and it has no more entries than that
pub record IsBelow {O R : Type 0} (step : ℕ) (h : List (Entry O R)) : Type 0 where
  pub below : All (λ e. e.step < step) h
  pub few : length h ≤ step

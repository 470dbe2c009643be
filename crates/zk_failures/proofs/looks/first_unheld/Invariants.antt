use Rattle.std.proofs.Common.{◌≡◌, ℕ, ◌<◌, Some, slice_get}
use Rattle.zk_trace.specs.declared.stood.Stood.{Stood}
use Rattle.zk_failures.specs.LooksHeld.{IsHeld}
use Rattle.zk_failures.proofs.looks.first_unheld.Given as goal

-- the lines so far are held
abbrev pub invariant-loop-place : goal.invariant-loop-place
invariant-loop-place l = (earlier : ℕ) (other : Stood) → earlier < l.place → slice_get l.rows earlier ≡ Some other → IsHeld l.signals l.orders l.missed earlier other

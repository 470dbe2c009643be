use Rattle.std.proofs.Common.{◌≡◌, ℕ, ◌<◌, take, length}
use Rattle.zk_failures.specs.Own.{AreOwn}
use Rattle.zk_failures.specs.Parts.{AreBelow, AreTogether}
use Rattle.zk_failures.specs.PlaceFailure.{IsMisplaced}
use Rattle.zk_failures.proofs.place.misplaced.Given as goal

-- all lines before the place are put to their players', and none of them is misplaced
abbrev pub invariant-loop-place : goal.invariant-loop-place
invariant-loop-place l = record {
  own : AreOwn (take l.place l.rows) l.owns.items;
  long : length l.owns.items ≡ length l.fn.owns.items;
  none : AreTogether l.rows → AreBelow (length l.fn.owns.items) l.rows → (k : ℕ) → k < l.place → IsMisplaced l.rows k → ⊥;
}

-- Inner: no contract of a top call is made of this file.
use Rattle.std.specs.Prelude.{ℕ, ◌≤◌, length, All}
use Rattle.zk_worker.specs.Shown.{Shown}

-- no history has more entries than so many
pub record AreWithin (shown : Shown) (most : ℕ) : Type 0 where
  pub work : length shown.work ≤ most
  pub clock : length shown.clock ≤ most
  pub table : length shown.table ≤ most
  pub sems : All (λ h. length h ≤ most) shown.sems
  pub msgqs : All (λ h. length h ≤ most) shown.msgqs
  pub signals : All (λ h. length h ≤ most) shown.signals
  pub chans : All (λ h. length h ≤ most) shown.chans
  pub observers : All (λ h. length h ≤ most) shown.observers

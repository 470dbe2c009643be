use Rattle.std.specs.Prelude.{◌≡◌, ◌+◌, ◌<◌, [], length}
use Rattle.zk_base.specs.Waits.{Waits}

-- one more is notified of those who were registered and not notified, and none where there was nobody
pub record NotesOne {M R : Type 0} (before after : Waits M R) : Type 0 where
  pub some : 0 < length before.waiting → length after.decided ≡ length before.decided + 1
  pub none : before.waiting ≡ [] → after.decided ≡ before.decided

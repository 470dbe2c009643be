use Rattle.zk_msgsub.proofs.FanTells.{add_is_told, remove_is_told, may_always}
use Rattle.zk_msgsub.proofs.fan_laws.changes_are_told.Goals as goal

pub returns : goal.returns
returns c = record { add = add_is_told; remove = remove_is_told; always = may_always }

use Rattle.zk_msgsub.proofs.FanTells.{open_tells_the_listed, open_tells_the_order, open_tells_each_once}
use Rattle.zk_msgsub.proofs.fan_laws.opens_are_told.Goals as goal

pub returns : goal.returns
returns c = record { listed = open_tells_the_listed; order = open_tells_the_order; once = open_tells_each_once }

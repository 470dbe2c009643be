use Rattle.zk_msgsub.proofs.Moving.{begins}
use Rattle.zk_msgsub.proofs.msg_sub.MsgSub.new.Goals as goal

pub ruled-requires-clause-rule : goal.ruled-requires-clause-rule
ruled-requires-clause-rule c = begins

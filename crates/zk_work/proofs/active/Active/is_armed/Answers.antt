use Rattle.std.proofs.Common.{ap, ◌∙◌, arith}
use Rattle.zk_queue.specs.Open.{marks_of, is_running, is_queued}
use Rattle.zk_queue.specs.Words.{has_flag}
use Rattle.zk_queue.proofs.Bits.{flag-delayed}
use Rattle.zk_time.specs.Timeouts.{is_armed}
use Rattle.zk_work.specs.Active.{ActiveView}
use Rattle.zk_work.proofs.active.Active.is_armed.Goals as goal

pub returns : goal.returns
returns c =
    let o = c.self.inside.admissions in
    let m = marks_of o c.args.item in
    let items = ap (λ (v : ActiveView). v.admissions.items) c.self.view_is in
    c.contains.ensures tt ∙ ap (λ n. has_flag n 8) c.flags-word.ensures
    ∙ flag-delayed (is_running o c.args.item) m.cancelling (is_queued o c.args.item) m.delayed m.flushing
    ∙ c.self.invariant.delayed c.args.item (omega arith)
    ∙ ap (λ (v : ActiveView). is_armed v.timeouts c.args.item) c.self.view_is

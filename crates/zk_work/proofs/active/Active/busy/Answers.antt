use Rattle.std.proofs.Common.{ap, sym, ◌∙◌}
use Rattle.zk_queue.specs.Open.{ItemMarks, marks_of, is_running, is_queued}
use Rattle.zk_queue.specs.Words.{has_flag}
use Rattle.zk_queue.proofs.Bits.{flag-running, flag-cancelling, flag-queued}
use Rattle.zk_work.specs.Active.{ActiveView}
use Rattle.zk_work.proofs.Marked.{marks-plain}
use Rattle.zk_work.proofs.active.Active.busy.Goals as goal

pub returns-clause-runs : goal.returns-clause-runs
returns-clause-runs c =
    let o = c.self.inside.admissions in
    let m = marks_of o c.args.item in
    c.contains.ensures tt ∙ ap (λ n. has_flag n 1) c.flags-word.ensures
    ∙ flag-running (is_running o c.args.item) m.cancelling (is_queued o c.args.item) m.delayed m.flushing
    ∙ ap (λ (v : ActiveView). is_running v.admissions c.args.item) c.self.view_is

pub returns-clause-cancelling : goal.returns-clause-cancelling
returns-clause-cancelling c =
    let o = c.self.inside.admissions in
    let m = marks_of o c.args.item in
    c.contains-2.ensures tt ∙ ap (λ n. has_flag n 2) c.flags-word.ensures
    ∙ flag-cancelling (is_running o c.args.item) m.cancelling (is_queued o c.args.item) m.delayed m.flushing
    ∙ sym (ap (λ (m : ItemMarks). m.cancelling) (marks-plain o c.args.item))
    ∙ ap (λ (v : ActiveView). (marks_of v.admissions c.args.item).cancelling) c.self.view_is

pub returns-clause-waits : goal.returns-clause-waits
returns-clause-waits c =
    let o = c.self.inside.admissions in
    let m = marks_of o c.args.item in
    c.contains-3.ensures tt ∙ ap (λ n. has_flag n 4) c.flags-word.ensures
    ∙ flag-queued (is_running o c.args.item) m.cancelling (is_queued o c.args.item) m.delayed m.flushing
    ∙ ap (λ (v : ActiveView). is_queued v.admissions c.args.item) c.self.view_is

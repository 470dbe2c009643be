use Rattle.std.proofs.Common.{Bool, get_or, sym, ap, ◌∙◌, false, arith}
use Rattle.zk_model_work.specs.Questions.{busy_flags}
use Rattle.zk_queue.specs.Open.{ItemMarks, marks_of, is_running, is_queued}
use Rattle.zk_time.specs.Timeouts.{is_armed}
use Rattle.zk_work.specs.Active.{ActiveView, plain}
use Rattle.zk_work.proofs.Marked.{marks-plain, marks-flushing}
use Rattle.zk_work.proofs.active.Active.flags.Goals as goal

pub returns : goal.returns
returns c =
    let o = c.self.inside.admissions in
    let i = c.args.item in
    let m = marks_of o i in
    let items = ap (λ (v : ActiveView). v.admissions.items) c.self.view_is in
    let delayed = c.self.invariant.delayed i (omega arith) in
    c.flags.ensures
    ∙ ap (λ (b : Bool). busy_flags (is_running o i) m.cancelling (is_queued o i) b m.flushing) delayed
    ∙ ap (λ (b : Bool). busy_flags (is_running o i) b (is_queued o i) (is_armed c.self.inside.timeouts i) m.flushing)
    (sym (ap (λ (m : ItemMarks). m.cancelling) (marks-plain o i)))
    ∙ ap (λ (b : Bool). busy_flags (is_running o i) (marks_of (plain o) i).cancelling (is_queued o i)
    (is_armed c.self.inside.timeouts i) b) (sym (marks-flushing o i))
    ∙ ap (λ (v : ActiveView). busy_flags (is_running v.admissions i) (marks_of v.admissions i).cancelling (is_queued v.admissions i)
    (is_armed v.timeouts i) (get_or v.flushing i false)) c.self.view_is

use Rattle.std.proofs.Common.{◌≡◌, ltb, ap, sym, ◌∙◌}
use Rattle.std.specs.List.{insert, position_or_len}
use Rattle.zk_base.proofs.Order.{put_by-insert}
use Rattle.zk_model_work.specs.declared.parts.Arm.{Arm}
use Rattle.zk_model_work.proofs.Lines.{position-or}
use Rattle.zk_model_work.proofs.questions.put_in_order.Goals as goal

pub returns : goal.returns
returns c =
    let due = c.args.due.now.items in
    let arm = c.args.arm in
    let later = λ (a : Arm). ltb arm.deadline a.deadline in
    let place : c.unwrap_or-place.result ≡ position_or_len later due =
    cc (c.unwrap_or-place.ensures, c.later.ensures, c.deref.ensures.value, c.len.ensures, position-or later due) in
    c.in_ok-insert.ensures.items ∙ ap (λ i. insert due i arm) place ∙ sym (put_by-insert (λ (a : Arm). a.deadline) arm due)

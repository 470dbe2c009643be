use Rattle.std.proofs.Common.{vec_len, ◌∙◌}
use Rattle.zk_show_text.proofs.MarkSets.{blank_marks}
use Rattle.zk_show_text.proofs.marks.put_marks.Goals as goal

pub loop-bar-init : goal.loop-bar-init
loop-bar-init c =
    let cleared = c.clear.new.self in
    c.in_ok-resize.ensures.items ∙ blank_marks c.args.lanes (vec_len cleared) cleared.items c.clear.ensures.items c.clear.ensures.len

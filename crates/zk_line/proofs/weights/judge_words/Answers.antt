use Rattle.std.proofs.Common.{rules}
use Rattle.zk_line.proofs.ReadTo.{read_next}
use Rattle.zk_line.proofs.weights.judge_words.Goals as goal

pub loop-part-preserved : goal.loop-part-preserved
loop-part-preserved c =
    read_next c.args.free c.args.objects.now c.args.parts.now c.loop-part.args c.push.new.self c.loop-part.left c.next.new.self c.in-Some.part.slot c.in-Some.part.text.now c.in-Ok.arg
    c.loop-part.invariant (search rules) (search rules) (search rules)

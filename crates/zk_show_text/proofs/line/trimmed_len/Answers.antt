use Rattle.zk_show_text.proofs.Lines.{trimmed_at}
use Rattle.zk_show_text.proofs.line.trimmed_len.Goals as goal

pub returns-else-text-end-eq32-clause-front : goal.returns-else-text-end-eq32-clause-front
returns-else-text-end-eq32-clause-front c =
    trimmed_at c.args.text.now c.loop-end.end c.loop-end-test.true c.loop-end.invariant.within c.if-text-end-eq32.false c.loop-end.invariant.spaces

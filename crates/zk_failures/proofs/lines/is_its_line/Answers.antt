use Rattle.zk_failures.proofs.LineOf.{line-of}
use Rattle.zk_failures.proofs.lines.is_its_line.Goals as goal

pub returns : goal.returns
returns c = λ f. line-of f c.args.scenario.now c.decls-readable.ensures.valid.named c.args.trace.now c.requires (c.trace_counts.ensures f) c.args.site

use Rattle.std.proofs.Common.{option_map, sym, ap, ◌∙◌}
use Rattle.zk_time.specs.declared.timeout.Timeout.{Timeout}
use Rattle.zk_work.proofs.Marked.{find_absent}
use Rattle.zk_work.proofs.active.Active.queue.Goals as goal

pub returns-then-not-is_armed : goal.returns-then-not-is_armed
returns-then-not-is_armed c =
    sym (ap (option_map (λ (t : Timeout). t.queue)) (find_absent c.args.item c.args.self.now.timeouts.live
    (sym c.is_armed.ensures ∙ c.if-not-is_armed.true)))

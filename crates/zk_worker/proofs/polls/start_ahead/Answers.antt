use Rattle.std.proofs.Common.{List, sym, ap, ◌∙◌}
use Rattle.std.specs.List.{slice_get}
use Rattle.zk_worker.specs.declared.steps.Step.{Step}
use Rattle.zk_worker.proofs.PollMoves.{start-polls}
use Rattle.zk_worker.proofs.polls.start_ahead.Goals as goal

pub returns : goal.returns
returns c =
    c.polling_ahead.ensures ∙ ap (λ (steps : List Step). slice_get steps c.args.index) (sym (start-polls c.args.timeout c.args.events.now c.in_default.not-Ticks))

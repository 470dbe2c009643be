use Rattle.std.proofs.Common.{◌≡◌, map, sym, ap, ◌∙◌}
use Rattle.std.specs.List.{range_with_len}
use Rattle.std.proofs.lemmas.Result.{IfOk-weaker}
use Rattle.zk_trace.specs.Stood.{stood, steps_of}
use Rattle.zk_trace.specs.WholeRead.{logs_of, logs_by}
use Rattle.zk_trace.proofs.StoodLists.{logs-by}
use Rattle.zk_trace.proofs.logs_read.read_logs.Goals as goal

pub returns : goal.returns
returns c =
    let lines = stood c.args.trace.now in
    let steps = rw (c.deref.ensures.value, c.in_ok-lines.ensures) at c.in_ok-steps.ensures in
    IfOk-weaker c.logs_by.result (λ logs. logs ≡ logs_by c.in_ok-steps.steps.items c.args.players) (λ logs. logs ≡ logs_of lines 0 c.args.players)
    (λ logs is. is ∙ ap (λ l. logs_by l c.args.players) steps
    ∙ ap (λ n. logs_by (map (steps_of lines) (range_with_len 0 n)) c.args.players) (c.players-2.ensures ∙ sym c.requires.all) ∙ logs-by lines 0 c.args.players)
    c.logs_by.ensures

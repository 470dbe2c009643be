use Rattle.std.proofs.Common.{◌≡◌, ℕ, List, [], map, ◌∙◌}
use Rattle.std.specs.List.{range_with_len}
use Rattle.std.proofs.lemmas.Result.{IfOk-weaker}
use Rattle.zk_trace.specs.declared.stood.Stood.{Stood}
use Rattle.zk_trace.specs.Stood.{sorted_spots, steps_of, put_lines}
use Rattle.zk_trace.proofs.StoodLists.{steps-put}
use Rattle.zk_trace.proofs.steps_read.read_steps.Goals as goal

pub returns : goal.returns
returns c =
    let lines = c.args.lines.now in
    let none = λ (player : ℕ). let empty : List Stood = [] in empty in
    IfOk-weaker c.sorted_steps.result (λ steps. steps.items ≡ map sorted_spots (put_lines lines (map none (range_with_len 0 c.args.players))))
    (λ steps. steps.items ≡ map (steps_of lines) (range_with_len 0 c.args.players))
    (λ steps is. is ∙ steps-put lines c.args.players)
    c.sorted_steps.ensures

use Rattle.std.proofs.Common.{ℕ, List, [], ◌∷◌, ◌++◌, map, arith, sym, ap, ◌∙◌}
use Rattle.std.specs.List.{range_with_len}
use Rattle.std.proofs.lemmas.List.FromFn.{map-range_with_len_more}
use Rattle.zk_trace.specs.declared.stood.Stood.{Stood}
use Rattle.zk_trace.proofs.steps_read.no_lines.Goals as goal

pub loop-player-preserved : goal.loop-player-preserved
loop-player-preserved c =
    let none = λ (player : ℕ). let lines : List Stood = [] in lines in
    let player = c.loop-player.player in
    c.in_ok-push.ensures.items
    ∙ ap (λ (l : List (List Stood)). l ++ c.new.result ∷ []) c.loop-player.invariant
    ∙ ap (λ (lines : List Stood). map none (range_with_len 0 player) ++ lines ∷ []) c.new.ensures
    ∙ sym (map-range_with_len_more none 0 player player (omega arith))

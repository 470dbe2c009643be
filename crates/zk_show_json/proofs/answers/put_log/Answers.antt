use Rattle.std.proofs.Common.{ℕ, List, ◌+◌, map, drop, sym, ap, ◌∙◌}
use Rattle.zk_worker.specs.declared.answers.Answered.{Answered}
use Rattle.zk_show_json.specs.Values.{answer_value, by_player}
use Rattle.zk_show_json.proofs.Arrays.{drop-next, part-on}
use Rattle.zk_show_json.proofs.answers.put_log.Goals as goal

pub loop-place-preserved : goal.loop-place-preserved
loop-place-preserved c =
    let answers = c.args.answers.now in
    let place = c.loop-place.place in
    let one = by_player c.args.player in
    let left = ap (λ (l : List Answered). map one l) (drop-next answers place c.in-Some.answered (sym c.get.ensures ∙ c.in-Some.is)) in
    record {
      text = part-on (answer_value c.args.scenario.now.decls) c.loop-place.begun (one c.in-Some.answered) (map one (drop place answers))
          (map one (drop (place + 1) answers)) _ _ _ _ left c.in_ok-put_comma.ensures.text c.in_ok-put_answered.ensures.text c.loop-place.invariant.text;
      front = c.in_ok-put_answered.ensures.front ∙ c.in_ok-put_comma.ensures.front ∙ c.loop-place.invariant.front;
    }

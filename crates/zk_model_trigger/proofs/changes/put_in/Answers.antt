use Rattle.std.proofs.Common.{◌≡◌, ℕ, ltb, Option, unwrap_or, List, length, ap, ◌∙◌}
use Rattle.std.specs.List.{position, position_or_len}
use Rattle.zk_model_trigger.specs.declared.parts.Arm.{Arm}
use Rattle.zk_model_trigger.specs.Arms.{deadline_of}
use Rattle.zk_model_trigger.proofs.Putting.{position-or, put-posted, put-reached}
use Rattle.zk_model_trigger.proofs.changes.put_in.Goals as goal
use Rattle.zk_model_trigger.proofs.changes.put_in.Goals.{in-Posted, in-Reached}

pub returns : goal.returns
returns c =
    let arms = c.args.arms.now.items in
    let arm = c.args.arm.now in
    let above = λ (a : Arm). ltb (deadline_of arm) (deadline_of a) in
    elim c.match-occasion.branch [
      | in-Posted w ↦
          let at : c.match-occasion.place ≡ length arms = cc (w.place-is, w.len-place.ensures) in
          c.in_ok-insert.ensures.items ∙ put-posted c.args.occasion _ c.match-occasion.place arm arms w.in-Posted.is at
      | in-Reached w ↦
          let long : w.len.result ≡ length arms = cc (w.len.ensures) in
          let at : c.match-occasion.place ≡ position_or_len above arms =
          w.place-is ∙ w.unwrap_or-place.ensures
          ∙ ap (λ (o : Option ℕ). unwrap_or o w.len.result) w.later.ensures
          ∙ ap (λ (n : ℕ). unwrap_or (position (λ (a : Arm). ltb n (deadline_of a)) w.deref.result.now) w.len.result)
          w.deadline_of.ensures
          ∙ ap (λ (l : List Arm). unwrap_or (position above l) w.len.result) w.deref.ensures.value
          ∙ ap (unwrap_or (position above arms)) long ∙ position-or above arms in
          c.in_ok-insert.ensures.items ∙ put-reached c.args.occasion _ c.match-occasion.place arm arms w.in-Reached.is at
    ]

use Rattle.std.proofs.Common.{◌≡◌, ltb, length, ap, ◌∙◌, ℕ, Option, unwrap_or, List}
use Rattle.std.specs.List.{position, position_or_len}
use Rattle.zk_trigger.specs.declared.live.LiveArm.{LiveArm}
use Rattle.zk_trigger.specs.Live.{deadline_time}
use Rattle.zk_model_trigger.proofs.Putting.{position-or}
use Rattle.zk_trigger.proofs.Finding.{put-events, put-until}
use Rattle.zk_trigger.proofs.live_arms.put_found.Goals as goal
use Rattle.zk_trigger.proofs.live_arms.put_found.Goals.{in-Events, in-Until}

pub returns-clause-items : goal.returns-clause-items
returns-clause-items c =
    let arms = c.args.found.now.items in
    let arm = c.args.arm in
    let above = λ (a : LiveArm). ltb (deadline_time arm) (deadline_time a) in
    elim c.match-sought.branch [
      | in-Events w ↦
          let at : c.match-sought.place ≡ length arms = cc (w.place-is, w.len-place.ensures) in
          c.in-Ok.ensures.items ∙ put-events c.args.sought _ c.match-sought.place arm arms w.in-Events.is at
      | in-Until w ↦
          let long : w.len.result ≡ length arms = cc (w.len.ensures) in
          let at : c.match-sought.place ≡ position_or_len above arms =
          w.place-is ∙ w.unwrap_or-place.ensures
          ∙ ap (λ (o : Option ℕ). unwrap_or o w.len.result) w.later.ensures
          ∙ ap (λ (n : ℕ). unwrap_or (position (λ (a : LiveArm). ltb n (deadline_time a)) w.deref.result.now) w.len.result)
          w.deadline_time.ensures
          ∙ ap (λ (l : List LiveArm). unwrap_or (position above l) w.len.result) w.deref.ensures.value
          ∙ ap (unwrap_or (position above arms)) long ∙ position-or above arms in
          c.in-Ok.ensures.items ∙ put-until c.args.sought _ c.match-sought.place arm arms w.in-Until.is at
    ]

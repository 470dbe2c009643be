use Rattle.std.proofs.Common.{is_some, ap, ◌∙◌}
use Rattle.std.specs.List.{position}
use Rattle.zk_time.specs.Timeouts.{Timeouts, is_armed}
use Rattle.zk_time.specs.Deltas.{is_arm_of}
use Rattle.zk_time.proofs.Disarming.{is_some-place}
use Rattle.zk_time.proofs.timeout_list.TimeoutList.is_armed.Goals as goal

pub returns : goal.returns
returns c =
    c.is_some.ensures ∙ ap is_some c.place_of.ensures
    ∙ ap (λ l. is_some (position (is_arm_of c.args.item) l)) c.deref.ensures.value
    ∙ is_some-place c.args.item c.self.inside.arms.items ∙ ap (λ (t : Timeouts). is_armed t c.args.item) c.self.view_is

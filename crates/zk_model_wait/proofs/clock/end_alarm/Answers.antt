use Rattle.std.proofs.Common.{sym, ap, ◌∙◌}
use Rattle.std.specs.List.{position}
use Rattle.zk_model_wait.specs.Clock.{is_alarm}
use Rattle.zk_base.proofs.Firsts.{remove-place, without-none}
use Rattle.zk_model_wait.proofs.clock.end_alarm.Goals as goal

pub returns-in-Some-clause-next : goal.returns-in-Some-clause-next
returns-in-Some-clause-next c =
    let mine = is_alarm c.args.player c.args.moment in
    let found = ap (position mine) (sym c.deref.ensures.value) ∙ sym c.place.ensures ∙ c.in-Some.is in
    c.remove.ensures.items ∙ remove-place mine c.args.alarms.now.items c.in-Some.place found

pub returns-in_default-clause-next : goal.returns-in_default-clause-next
returns-in_default-clause-next c =
    let mine = is_alarm c.args.player c.args.moment in
    let none = ap (position mine) (sym c.deref.ensures.value) ∙ sym c.place.ensures ∙ c.in_default.is in
    sym (without-none mine c.args.alarms.now.items none)

use Rattle.std.proofs.Common.{◌≡◌, ◌∙◌, List, ltb, sym, ap, arith}
use Rattle.std.proofs.lemmas.Bool.{lt-ltb}
use Rattle.zk_base.proofs.Firsts.{count-none, counted-any}
use Rattle.zk_model_wait.specs.declared.clock.Alarm.{Alarm}
use Rattle.zk_model_wait.specs.Clock.{is_alarm, has_alarm}
use Rattle.std.specs.Prelude.{nat_eq}
use Rattle.std.specs.HashMap.{get}
use Rattle.std.specs.Option.{unwrap_or}
use Rattle.zk_time.specs.Alarms.{how_often}
use Rattle.zk_time.proofs.alarms.Alarms.has.Goals as goal

pub returns-then-has_alarm : goal.returns-then-has_alarm
returns-then-has_alarm c =
    let some = counted-any (is_alarm c.args.player c.args.moment) c.args.self.now.few.items
    (ap (λ (few : List Alarm). has_alarm few c.args.player c.args.moment) (sym c.deref.ensures.value)
    ∙ sym c.has_alarm.ensures ∙ c.if-has_alarm.true) in
    c.if-has_alarm.true ∙ sym (lt-ltb 0 (how_often c.args.self.now c.args.player c.args.moment) (omega arith))

pub returns-else-has_alarm : goal.returns-else-has_alarm
returns-else-has_alarm c =
    let none = count-none (is_alarm c.args.player c.args.moment) c.args.self.now.few.items
    (ap (λ (few : List Alarm). has_alarm few c.args.player c.args.moment) (sym c.deref.ensures.value)
    ∙ sym c.has_alarm.ensures ∙ c.if-has_alarm.false) in
    let kept = c.kept.ensures ∙ ap (λ q. unwrap_or (get nat_eq c.args.self.now.more q) 0) c.key_of.ensures in
    let same : c.kept.result ≡ how_often c.args.self.now c.args.player c.args.moment = omega arith in
    ap (ltb 0) same

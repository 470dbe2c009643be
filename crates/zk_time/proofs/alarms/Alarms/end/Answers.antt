use Rattle.std.proofs.Common.{◌≡◌, ◌-◌, ℕ, Option, Some, cond, eqb, count_by, sym, ap, ◌∙◌, arith}
use Rattle.std.specs.Prelude.{nat_eq}
use Rattle.std.specs.HashMap.{get}
use Rattle.std.specs.List.{position}
use Rattle.std.specs.Option.{unwrap_or}
use Rattle.std.proofs.lemmas.List.Quantifiers.{position-Some}
use Rattle.std.proofs.lemmas.List.Sums.{sum_by-remove}
use Rattle.zk_model_wait.specs.declared.clock.Alarm.{Alarm}
use Rattle.zk_model_wait.specs.Clock.{is_alarm}
use Rattle.zk_time.specs.Alarms.{key_of}
use Rattle.zk_time.proofs.AlarmCounts.{none-few, one-of, one-less}
use Rattle.zk_time.proofs.alarms.Alarms.end.Goals as goal

pub returns-in-Some-clause-one : goal.returns-in-Some-clause-one
returns-in-Some-clause-one c = λ p m small.
    let few = c.args.self.now.few.items in
    let mine = is_alarm c.args.player c.args.moment in
    let at = position-Some mine few c.in-Some.place c.remove.result
    (ap (position mine) (sym c.deref.ensures.value) ∙ sym c.place.ensures ∙ c.in-Some.is) in
    let less = sum_by-remove (λ (a : Alarm). cond (is_alarm p m a) 1 0) few c.in-Some.place c.remove.result at.0 in
    let one = one-of c.args.player c.args.moment p m _ at.1 in
    let items = ap (count_by (is_alarm p m)) c.remove.ensures.items in
    omega arith

pub overflow_sub-often : goal.overflow_sub-often
overflow_sub-often c =
    let none = none-few c.args.player c.args.moment c.args.self.now.few.items
    (ap (position (is_alarm c.args.player c.args.moment)) (sym c.deref.ensures.value) ∙ sym c.place.ensures ∙ c.in_default.is) in
    let there = c.requires.there in
    let kept : c.kept-often.result ≡ unwrap_or (get nat_eq c.args.self.now.more (key_of c.args.player c.args.moment)) 0 =
    c.kept-often.ensures ∙ ap (λ q. unwrap_or (get nat_eq c.args.self.now.more q) 0) c.key_of-key.ensures in
    omega arith

pub unreachable-requires : goal.unreachable-requires
unreachable-requires c =
    let none = none-few c.args.player c.args.moment c.args.self.now.few.items
    (ap (position (is_alarm c.args.player c.args.moment)) (sym c.deref.ensures.value) ∙ sym c.place.ensures ∙ c.in_default.is) in
    let there = c.requires.there in
    let kept : c.kept-often.result ≡ unwrap_or (get nat_eq c.args.self.now.more (key_of c.args.player c.args.moment)) 0 =
    c.kept-often.ensures ∙ ap (λ q. unwrap_or (get nat_eq c.args.self.now.more q) 0) c.key_of-key.ensures in
    let absent = c.kept-often.ensures ∙ ap (λ (o : Option ℕ). unwrap_or o 0) c.in-Err.ensures.absent in
    omega arith

pub returns-clause-one : goal.returns-clause-one
returns-clause-one c = λ p m small.
    let none = none-few c.args.player c.args.moment c.args.self.now.few.items
    (ap (position (is_alarm c.args.player c.args.moment)) (sym c.deref.ensures.value) ∙ sym c.place.ensures ∙ c.in_default.is) in
    let there = c.requires.there in
    let kept : c.kept-often.result ≡ unwrap_or (get nat_eq c.args.self.now.more (key_of c.args.player c.args.moment)) 0 =
    c.kept-often.ensures ∙ ap (λ q. unwrap_or (get nat_eq c.args.self.now.more q) 0) c.key_of-key.ensures in
    let less = one-less (get nat_eq c.args.self.now.more) (get nat_eq c.insert.new.self) c.args.player c.args.moment
    c.kept-often.result (omega arith) kept (omega arith)
    (λ q. c.in-Ok.ensures.updates.0 q
    ∙ ap (λ k. cond (eqb k q) (Some (c.kept-often.result - 1)) (get nat_eq c.args.self.now.more q)) c.key_of-key.ensures) p m small in
    omega arith

use Rattle.zk_gathering.proofs.Gathered.{look-written, by_number-beyond}
use Rattle.std.proofs.Common.{◌≤◌, List, length, ap, ◌∙◌, arith}
use Rattle.std.proofs.lemmas.List.FromFn.{length-map-range_with_len}
use Rattle.zk_trace.specs.declared.looks.SignalLook.{SignalLook}
use Rattle.zk_gathering.proofs.looks.add_look.Goals as goal

pub returns-in_ok-push : goal.returns-in_ok-push
returns-in_ok-push c = λ before n same.
    look-written before n c.args.object c.args.look c.args.all.now _ _ c.if-at-all.true c.in_ok-push.ensures.ok same

pub returns-else-at-all : goal.returns-else-at-all
returns-else-at-all c = λ before n same.
    let long : n ≤ c.args.object =
    let all = c.if-at-all.false in
    let counted = length-map-range_with_len before 0 n in
    let equal = ap (λ (l : List (List SignalLook)). length l) same in
    omega arith in
    same ∙ by_number-beyond before n c.args.object c.args.look long

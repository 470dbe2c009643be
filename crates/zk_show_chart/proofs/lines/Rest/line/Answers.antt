use Rattle.std.proofs.Common.{ℕ, ◌+◌, subst}
use Rattle.zk_show_chart.specs.Lines.{Place, next_place}
use Rattle.zk_show_chart.specs.Passing.{IsBehind}
use Rattle.zk_show_chart.proofs.TextLines.{passed}
use Rattle.zk_show_chart.proofs.lines.Rest.line.Goals as goal

pub returns-clause-behind : goal.returns-clause-behind
returns-clause-behind c = λ text first p is.
    subst (λ (service : ℕ). let q = next_place p service in IsBehind text first (q.line + 1) q c.next.new.self) c.service_number.ensures.service
    (let q : Place = next_place p c.service_number.result in
    passed text first q.line q c.enter.new.self c.next.new.self (c.enter.ensures text first p is) c.next.ensures.passes)

use Rattle.std.proofs.Common.{◌+◌, Some, refl, arith}
use Rattle.zk_failures.proofs.Owns.{own-more}
use Rattle.zk_failures.proofs.own.Own.put.Goals as goal

pub returns : goal.returns
returns c = λ lines own.
    own-more lines c.args.line c.args.self.now
    (record { steps = c.insert.new.self; last = Some c.args.line; rows = c.args.self.now.rows + 1; above = c.max-self.result }) own
    c.in_ok-insert.ensures.updates.0 refl refl (omega (arith, c.max-self.ensures))

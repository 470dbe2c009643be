use Rattle.std.proofs.Common.{ℕ, List, Some, subst}
use Rattle.std.specs.HashMap.{UpdatesBy}
use Rattle.std.specs.Str.{bytes_eq}
use Rattle.zk_line.proofs.ByName.{by_name-insert}
use Rattle.zk_line.proofs.names.Names.insert.Goals as goal

pub returns-clause-ok : goal.returns-clause-ok
returns-clause-ok c = λ other.
    let key = c.in_ok-name.name in
    by_name-insert (λ k. k.items) c.args.name.now c.args.self.now.numbers c.insert.new.self c.args.number
    (subst (λ (bs : List ℕ). UpdatesBy (λ x y. bytes_eq x.items y.items) (λ k. bytes_eq bs k.items) c.args.self.now.numbers c.insert.new.self (Some c.args.number)) c.in_ok-name.ensures.items c.in_ok-insert.ensures.updates) other

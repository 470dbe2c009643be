use Rattle.std.proofs.lemmas.List.Elements.{same_from_all_zip}
use Rattle.zk_line.proofs.ByName.{by_name-clone}
use Rattle.zk_line.proofs.names.Names.copy.Goals as goal

pub returns : goal.returns
returns c = λ name.
    by_name-clone (λ k. k.items) _ _ (λ x y same. same_from_all_zip _ x.items y.items same.0 (λ a b e. e)) (λ v w e. e) c.args.self.now.numbers c.in_ok-clone.field-0 c.in_ok-clone.ensures.cases name

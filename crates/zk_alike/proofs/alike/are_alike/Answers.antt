use Rattle.std.proofs.Common.{rules}
use Rattle.std.proofs.lemmas.Slice.Eq.{slice_eq-Decides}
use Rattle.zk_alike.proofs.alike.are_alike.Goals as goal

pub returns : goal.returns
returns c = slice_eq-Decides (λ a b. (search rules, search rules)) _ _ _ c.eq.ensures

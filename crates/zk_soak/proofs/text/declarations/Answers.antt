use Rattle.std.proofs.Common.{refl}
use Rattle.std.specs.Fmt.{digits}
use Rattle.zk_soak.proofs.text.declarations.Goals as goal

pub returns : goal.returns
unfolding digits
returns c = refl

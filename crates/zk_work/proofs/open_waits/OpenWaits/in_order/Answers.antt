use Rattle.std.proofs.Common.{◌<◌, not, ap, subst}
use Rattle.std.proofs.lemmas.List.Kept.{AllPairs-filter}
use Rattle.zk_model_work.specs.declared.parts.Wait.{Wait}
use Rattle.zk_work.specs.OpenWaits.{OpenWaitsView, Rises}
use Rattle.zk_work.proofs.open_waits.OpenWaits.in_order.Goals as goal

pub returns : goal.returns
returns c = subst Rises (ap (λ (v : OpenWaitsView). v.waits) c.self.view_is)
    (AllPairs-filter (λ (v w : Wait). v.place < w.place) (λ (w : Wait). not w.answered) c.self.inside.waits.items
    c.self.invariant.rises)

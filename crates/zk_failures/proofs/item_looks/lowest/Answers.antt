use Rattle.std.proofs.Common.{◌≤◌, ℕ, List, take, get_or, All, sym, subst}
use Rattle.std.specs.List.{Contains}
use Rattle.std.proofs.lemmas.List.{take_more}
use Rattle.zk_failures.proofs.ItemsFound.{lowest-more}
use Rattle.zk_failures.proofs.item_looks.lowest.Goals as goal

pub loop-place-preserved : goal.loop-place-preserved
loop-place-preserved c =
    let places = c.args.places.now in
    let i = c.loop-place.place-index in
    let low = c.lower_of.result in
    subst (λ (l : List ℕ). Contains l low × All (λ place. low ≤ place) l) (sym (take_more places i 0 c.loop-place-test.true))
    (lowest-more (take i places) (get_or places i 0) low c.loop-place.lowest c.loop-place.invariant c.lower_of.ensures)

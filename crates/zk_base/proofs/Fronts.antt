-- What stays in front of a text that grows.
use Rattle.std.proofs.Common.{◌≡◌, ℕ, List, ◌++◌, ap, ◌∙◌}
use Rattle.std.proofs.lemmas.List.{append_assoc}
use Rattle.zk_base.specs.Fronts.{StaysInFront}

pub front_put : (xs ys zs : List ℕ) → zs ≡ xs ++ ys → StaysInFront xs zs
front_put xs ys zs put = record { more = ys; behind = put }

pub front_then : (xs ys zs : List ℕ) → StaysInFront xs ys → StaysInFront ys zs → StaysInFront xs zs
front_then xs ys zs first further = record {
  more = first.more ++ further.more;
  behind = further.behind ∙ ap (λ (l : List ℕ). l ++ further.more) first.behind ∙ append_assoc xs first.more further.more;
}

-- where a text was put, what stood before it stays in front
pub front_before : (xs ys put zs : List ℕ) → ys ≡ xs ++ put → StaysInFront ys zs → StaysInFront xs zs
front_before xs ys put zs is further = front_then xs ys zs (front_put xs put ys is) further

-- On the longest of some texts.
use Rattle.std.proofs.Common.{◌≡◌, ℕ, ◌+◌, ◌<◌, max, suc, List, [], ◌∷◌, ◌++◌, length, drop, get_or, refl, sym, ◌∙◌, ap, arith}
use Rattle.std.proofs.Math.Seq.{drop-cons}
use Rattle.zk_show_text.specs.Layout.{longest}

pub longest-append : {X : Type 0} (text : X → List ℕ) (xs ys : List X) → longest text (xs ++ ys) ≡ max (longest text xs) (longest text ys)
longest-append text [] ys = omega arith
longest-append text (x ∷ xs) ys = let more = longest-append text xs ys in omega arith

-- one more is looked at
pub longest_next : {X : Type 0} (text : X → List ℕ) (xs : List X) (i most : ℕ) (d : X) → i < length xs
    → max (max most (length (text (get_or xs i d)))) (longest text (drop (i + 1) xs)) ≡ max most (longest text (drop i xs))
longest_next text xs i most d within =
    let next : suc i ≡ i + 1 = omega arith in
    let whole : longest text (drop i xs) ≡ max (length (text (get_or xs i d))) (longest text (drop (i + 1) xs)) =
    ap (longest text) (drop-cons xs i d within ∙ ap (λ n. get_or xs i d ∷ drop n xs) next) in
    omega arith

-- A life that is set at a place, and the queues that are settled one after another.
use Rattle.std.proofs.Common.{◌≡◌, ℕ, zero, suc, ◌+◌, ◌<◌, ◌≤◌, Bool, List, [], ◌∷◌, ◌++◌, length, map, get_or, set, take, drop, All, refl, sym, ap, subst, ◌∙◌, add-zero, arith}
use Rattle.std.proofs.lemmas.List.{get_or_default}
use Rattle.std.proofs.lemmas.List.Edits.{map_over_more}
use Rattle.zk_model_work.specs.declared.parts.Life.{Life}
use Rattle.zk_model_work.specs.declared.parts.Admission.{Admission}
use Rattle.zk_model_work.specs.declared.parts.Queue.{Queue}
use Rattle.zk_model_work.specs.declared.parts.Change.{Change}
use Rattle.zk_model_work.specs.Machine.{with_life, set_life, changed_queue, change, settle_one, settle_from}

-- a life that is written at a place
pub set-life : (xs : List Admission) (n : ℕ) (d : Admission) (life : Life) → n < length xs →
    set xs n (with_life life (get_or xs n d)) ≡ set_life xs n life
set-life [] n d life within = absurd (omega arith)
set-life (a ∷ rest) zero d life within = refl
set-life (a ∷ rest) (suc n) d life within = ap (λ (xs : List Admission). a ∷ xs) (set-life rest n d life (omega arith))

-- past the end there is nothing to set
pub set_life-past : (xs : List Admission) (n : ℕ) (life : Life) → length xs ≤ n → xs ≡ set_life xs n life
set_life-past [] n life past = refl
set_life-past (a ∷ rest) zero life past = absurd (omega arith)
set_life-past (a ∷ rest) (suc n) life past = ap (λ (xs : List Admission). a ∷ xs) (set_life-past rest n life (omega arith))

-- a queue that is changed at a place
pub set-change : (c : Change) (qs : List Queue) (n : ℕ) (d : Queue) → n < length qs →
    set qs n (changed_queue c (get_or qs n d)) ≡ change c qs n
set-change c [] n d within = absurd (omega arith)
set-change c (q ∷ rest) zero d within = refl
set-change c (q ∷ rest) (suc n) d within = ap (λ (qs : List Queue). q ∷ qs) (set-change c rest n d (omega arith))

-- past the end there is nothing to change
pub change-past : (c : Change) (qs : List Queue) (n : ℕ) → length qs ≤ n → qs ≡ change c qs n
change-past c [] n past = refl
change-past c (q ∷ rest) zero past = absurd (omega arith)
change-past c (q ∷ rest) (suc n) past = ap (λ (qs : List Queue). q ∷ qs) (change-past c rest n (omega arith))

-- one more element of a list is mapped in its place
pub mapped-more : {X : Type 0} (f : X → X) (xs ys : List X) (i : ℕ) (d y : X) → i < length xs → length ys ≡ length xs →
    ys ≡ map f (take i xs) ++ drop i xs → y ≡ f (get_or ys i d) →
    set ys i y ≡ map f (take (i + 1) xs) ++ drop (i + 1) xs
mapped-more {X} f xs ys i d y within long so_far said =
    let x = get_or ys i d in
    let here : x ≡ get_or ys i x = get_or_default ys i d x (omega arith) in
    ap (λ (v : X). set ys i v) said ∙ map_over_more f xs ys i x within so_far here

-- the queue at the place that the settling has come to is the first one's still
pub get_or-settled : (idle : ℕ → Bool) (from : ℕ) (xs : List Queue) (n : ℕ) (d : Queue) → n < length xs →
    get_or (take n (settle_from idle from xs) ++ drop n xs) n d ≡ get_or xs n d
get_or-settled idle from [] n d within = absurd (omega arith)
get_or-settled idle from (x ∷ xs) zero d within = refl
get_or-settled idle from (x ∷ xs) (suc n) d within = get_or-settled idle (from + 1) xs n d (omega arith)

settled-suc : (idle : ℕ → Bool) (from : ℕ) (xs : List Queue) (n : ℕ) (d : Queue) → n < length xs →
    set (take n (settle_from idle from xs) ++ drop n xs) n (settle_one idle (from + n) (get_or xs n d))
    ≡ take (suc n) (settle_from idle from xs) ++ drop (suc n) xs
settled-suc idle from [] n d within = absurd (omega arith)
settled-suc idle from (x ∷ xs) zero d within = ap (λ m. settle_one idle m x ∷ xs) (add-zero from)
settled-suc idle from (x ∷ xs) (suc n) d within =
    let number : from + suc n ≡ (from + 1) + n = omega arith in
    let rest = settled-suc idle (from + 1) xs n d (omega arith) in
    let here = settle_one idle from x in
    ap (λ m. here ∷ set (take n (settle_from idle (from + 1) xs) ++ drop n xs) n (settle_one idle m (get_or xs n d)))
    number ∙ ap (λ (qs : List Queue). here ∷ qs) rest

-- one more queue is settled in its place
pub settled-more : (idle : ℕ → Bool) (xs ys : List Queue) (n : ℕ) (d y : Queue) → n < length xs →
    ys ≡ take n (settle_from idle 0 xs) ++ drop n xs → y ≡ settle_one idle n (get_or ys n d) →
    set ys n y ≡ take (n + 1) (settle_from idle 0 xs) ++ drop (n + 1) xs
settled-more idle xs ys n d y within so_far said =
    let same : get_or ys n d ≡ get_or xs n d =
    ap (λ (qs : List Queue). get_or qs n d) so_far ∙ get_or-settled idle 0 xs n d within in
    let number : n ≡ 0 + n = omega arith in
    let value : y ≡ settle_one idle (0 + n) (get_or xs n d) =
    said ∙ ap (λ q. settle_one idle n q) same ∙ ap (λ m. settle_one idle m (get_or xs n d)) number in
    let next : n + 1 ≡ suc n = omega arith in
    ap (λ (qs : List Queue). set qs n y) so_far ∙ ap (λ q. set (take n (settle_from idle 0 xs) ++ drop n xs) n q) value
    ∙ settled-suc idle 0 xs n d within
    ∙ ap (λ m. take m (settle_from idle 0 xs) ++ drop m xs) (sym next)

-- at the end all are settled
pub settled-all : (idle : ℕ → Bool) (from : ℕ) (xs : List Queue) (n : ℕ) → n ≡ length xs →
    take n (settle_from idle from xs) ++ drop n xs ≡ settle_from idle from xs
settled-all idle from [] zero all = refl
settled-all idle from [] (suc n) all = absurd (omega arith)
settled-all idle from (x ∷ xs) zero all = absurd (omega arith)
settled-all idle from (x ∷ xs) (suc n) all =
    ap (λ (qs : List Queue). settle_one idle from x ∷ qs) (settled-all idle (from + 1) xs n (omega arith))

-- what holds of each queue holds of the one that is settled next
pub settled-next : (P : Queue → Type 0) (idle : ℕ → Bool) (xs ys : List Queue) (n : ℕ) (d : Queue) → n < length xs →
    ys ≡ take n (settle_from idle 0 xs) ++ drop n xs → All P xs → P (get_or ys n d)
settled-next P idle xs ys n d within so_far all =
    let same : get_or ys n d ≡ get_or xs n d =
    ap (λ (qs : List Queue). get_or qs n d) so_far ∙ get_or-settled idle 0 xs n d within in
    subst P (sym same) (all n d within)

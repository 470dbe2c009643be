-- What words say, and the stamps of those that a seat has.
use Rattle.std.proofs.Common.{◌≡◌, ℕ, ◌+◌, ◌*◌, ◌/◌, ◌%◌, ◌<◌, ◌≤◌, max, Bool, true, false, [], ◌∷◌, ◌++◌, map, sym, ap, subst, ◌∙◌, arith, eq-eqb, ne_eqb, le_trans, le_antisymm}
use Rattle.std.proofs.Math.Nat.{le-max_left, le-max_right, max-le, max-eq_left, max-eq_right}
use Rattle.std.proofs.lemmas.Nat.{le-div, div-add-mod'}
use Rattle.std.proofs.lemmas.List.{map-append}
use Rattle.zk_signal.specs.declared.views.View.{View}
use Rattle.zk_signal.specs.Counts.{greatest}
use Rattle.zk_signal.specs.Views.{settled, looked, joined, top_of}
use Rattle.zk_signal.specs.Words.{word_of, stamp_in, seen_in, IsTidy, written}
use Rattle.zk_signal.proofs.Counts.{greatest-append, greatest-push}

-- the greater of two words has no lower stamp
pub stamp_in-le : (n m : ℕ) → n ≤ m → stamp_in n ≤ stamp_in m
stamp_in-le n m le = let p = div-add-mod' n 131072 in le-div (n / 131072) m 131072 (omega arith) (omega arith)

-- the word of a write says what the write left
pub seen_in-word : (raised : Bool) (value stamp : ℕ) → value < 65536 → seen_in (word_of (written raised value stamp)) ≡ written raised value stamp
seen_in-word true value stamp small =
    let mark : (131072 * stamp + 65536 + value) / 65536 % 2 ≡ 1 = omega arith in
    let low : (131072 * stamp + 65536 + value) % 65536 ≡ value = omega arith in
    let high : (131072 * stamp + 65536 + value) / 131072 ≡ stamp = omega arith in
    let set = eq-eqb ((131072 * stamp + 65536 + value) / 65536 % 2) 1 mark in
    λ k. record { raised = set k; result = low k; stamp = high k }
seen_in-word false value stamp small =
    let mark : (131072 * stamp + 0 + value) / 65536 % 2 ≡ 0 = omega arith in
    let low : (131072 * stamp + 0 + value) % 65536 ≡ value = omega arith in
    let high : (131072 * stamp + 0 + value) / 131072 ≡ stamp = omega arith in
    let unset = ne_eqb ((131072 * stamp + 0 + value) / 65536 % 2) 1 (λ same. omega arith) in
    λ k. record { raised = unset k; result = low k; stamp = high k }

pub tidy-word : (raised : Bool) (value stamp : ℕ) → value < 65536 → (raised ≡ false → value ≡ 0) → IsTidy (seen_in (word_of (written raised value stamp)))
tidy-word raised value stamp small tidy = subst IsTidy (sym (seen_in-word raised value stamp small)) tidy

-- the greatest of numbers, in two ways
max-middle : (a b c d : ℕ) → max (max a b) (max c d) ≡ max (max a c) (max b d)
max-middle a b c d = le_antisymm (one a b c d) (one a c b d) where
  one : (k l m n : ℕ) → max (max k l) (max m n) ≤ max (max k m) (max l n)
  one k l m n = max-le
      (max-le (le_trans (le-max_left k m) (le-max_left (max k m) (max l n))) (le_trans (le-max_left l n) (le-max_right (max k m) (max l n))))
      (max-le (le_trans (le-max_right k m) (le-max_left (max k m) (max l n))) (le_trans (le-max_right l n) (le-max_right (max k m) (max l n))))

-- a write above all that the seat has written or found
pub top-settled : (v : View) (word : ℕ) → top_of v ≤ stamp_in word → top_of (settled v word) ≡ stamp_in word
top-settled v word above =
    let a = le-max_left (greatest (map stamp_in v.writes)) (greatest (map stamp_in v.looks)) in
    let b = le-max_right (greatest (map stamp_in v.writes)) (greatest (map stamp_in v.looks)) in
    let mine = ap greatest (map-append stamp_in v.writes (word ∷ []))
    ∙ greatest-push (map stamp_in v.writes) (stamp_in word) (le_trans a above) in
    ap (λ n. max n (greatest (map stamp_in v.looks))) mine ∙ max-eq_left (le_trans b above)

-- a look that isn't older than all that the seat has written or found
pub top-looked : (v : View) (word : ℕ) → top_of v ≤ stamp_in word → top_of (looked v word) ≡ stamp_in word
top-looked v word above =
    let a = le-max_left (greatest (map stamp_in v.writes)) (greatest (map stamp_in v.looks)) in
    let b = le-max_right (greatest (map stamp_in v.writes)) (greatest (map stamp_in v.looks)) in
    let mine = ap greatest (map-append stamp_in v.looks (word ∷ []))
    ∙ greatest-push (map stamp_in v.looks) (stamp_in word) (le_trans b above) in
    ap (λ n. max (greatest (map stamp_in v.writes)) n) mine ∙ max-eq_right (le_trans a above)

pub top-joined : (v w : View) → top_of (joined v w) ≡ max (top_of v) (top_of w)
top-joined v w =
    let a = ap greatest (map-append stamp_in v.writes w.writes) ∙ greatest-append (map stamp_in v.writes) (map stamp_in w.writes) in
    let b = ap greatest (map-append stamp_in v.looks w.looks) ∙ greatest-append (map stamp_in v.looks) (map stamp_in w.looks) in
    ap (λ n. max n (greatest (map stamp_in (v.looks ++ w.looks)))) a
    ∙ ap (λ n. max (max (greatest (map stamp_in v.writes)) (greatest (map stamp_in w.writes))) n) b
    ∙ max-middle (greatest (map stamp_in v.writes)) (greatest (map stamp_in w.writes)) (greatest (map stamp_in v.looks)) (greatest (map stamp_in w.looks))

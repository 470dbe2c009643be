-- How often numbers stand in lists, and the greatest of them.
use Rattle.std.proofs.Common.{◌≡◌, ◌≢◌, ⊎_elim, ℕ, zero, suc, ◌+◌, ◌<◌, ◌≤◌, max, Bool, true, false, cond, List, [], ◌∷◌, ◌++◌, length, map, All, Contains, refl, sym, ap, subst, ◌∙◌, arith, eqb, eq-eqb, ne_eqb, le_trans, le_antisymm}
use Rattle.std.proofs.Math.Nat.{le-max_left, le-max_right, max-le, zero-max, max-eq_right}
use Rattle.std.proofs.lemmas.Bool.{cases_lt, lt-ltb, le-ltb}
use Rattle.std.proofs.lemmas.List.Elements.{All-nil, All-cons, All-append, All-head, All-tail, All-weaker}
use native.Mathlib.Decide.{ℕ_discrete}
use Rattle.zk_signal.specs.Counts.{equal, tally, once, Rises, greatest}

pub equal-self : (n : ℕ) → equal n n ≡ 1
equal-self n = ap (λ b. cond b 1 0) (eq-eqb n n refl)

pub equal-else : (n m : ℕ) → n ≢ m → equal n m ≡ 0
equal-else n m differ = ap (λ b. cond b 1 0) (ne_eqb n m differ)

pub tally-append : (n : ℕ) (a b : List ℕ) → tally n (a ++ b) ≡ tally n a + tally n b
tally-append n [] b = omega arith
tally-append n (x ∷ a) b = let rest = tally-append n a b in omega arith

pub tally-le-length : (n : ℕ) (a : List ℕ) → tally n a ≤ length a
tally-le-length n [] = omega arith
tally-le-length n (x ∷ a) =
    let rest = tally-le-length n a in
    let one : equal n x ≤ 1 = at_most (eqb n x) in
    omega arith where
      at_most : (b : Bool) → cond b 1 0 ≤ 1
      at_most true = omega arith
      at_most false = omega arith

-- what f makes of a number stands there at least as often as the number
pub tally-map : (f : ℕ → ℕ) (n : ℕ) (a : List ℕ) → tally n a ≤ tally (f n) (map f a)
tally-map f n [] = omega arith
tally-map f n (x ∷ a) = let rest = tally-map f n a in let here = one (ℕ_discrete n x) in omega arith where
  one : Dec (n ≡ x) → equal n x ≤ equal (f n) (f x)
  one (yes same) =
      let l = subst (λ (k : ℕ). equal n k ≡ 1) same (equal-self n) in
      let r = subst (λ (k : ℕ). equal (f n) (f k) ≡ 1) same (equal-self (f n)) in
      omega arith
  one (no differ) = let l = equal-else n x differ in omega arith

-- what stands there is an element
pub tally-contains : {B : Type 0} (f : ℕ → B) (n : ℕ) (a : List ℕ) → 0 < tally n a → Contains (map f a) (f n)
tally-contains f n [] some_one = absurd (omega arith)
tally-contains {B} f n (x ∷ a) some_one = one (ℕ_discrete n x) (λ more. tally-contains f n a more) where
  one : Dec (n ≡ x) → (0 < tally n a → Contains (map f a) (f n)) → Contains (map f (x ∷ a)) (f n)
  one (yes same) later = (0, omega arith, ap f (sym same))
  one (no differ) later =
      let none_here = equal-else n x differ in
      let rest = later (omega arith) in
      (suc rest.0, (let lt = rest.1 in omega arith), rest.2)

pub once-below : (c n : ℕ) → n < c → once c (suc n) ≡ 1
once-below c n lt = ap (λ b. cond b 1 0) (lt-ltb n c lt)

pub once-past : (c n : ℕ) → c ≤ n → once c (suc n) ≡ 0
once-past c n le = ap (λ b. cond b 1 0) (le-ltb n c le)

-- one number more
pub once-more : (c n : ℕ) → once (c + 1) n ≡ once c n + equal n (c + 1)
once-more c zero = let e = equal-else zero (c + 1) (λ e. omega arith) in omega arith
once-more c (suc n) = ⊎_elim
    (λ lt.
    let a = once-below (c + 1) n (omega arith) in
    let b = once-below c n lt in
    let e = equal-else (suc n) (c + 1) (λ e. omega arith) in
    omega arith)
    (λ le. at_or_above le (ℕ_discrete n c))
    (cases_lt n c)
  where
    at_or_above : c ≤ n → Dec (n ≡ c) → once (c + 1) (suc n) ≡ once c (suc n) + equal (suc n) (c + 1)
    at_or_above le (yes same) =
        let a = once-below (c + 1) n (omega arith) in
        let b = once-past c n le in
        let e = subst (λ (k : ℕ). equal (suc n) k ≡ 1) (let t : suc n ≡ c + 1 = omega arith in t) (equal-self (suc n)) in
        omega arith
    at_or_above le (no differ) =
        let a = once-past (c + 1) n (omega arith) in
        let b = once-past c n le in
        let e = equal-else (suc n) (c + 1) (λ e. differ (omega arith)) in
        omega arith

-- a number that is among those from 1 to c isn't above c
pub once-within : (c n : ℕ) → 0 < once c n → n ≤ c
once-within c zero some_one = omega arith
once-within c (suc n) some_one =
    ⊎_elim (λ lt. omega arith) (λ le. let a = once-past c n le in absurd (omega arith)) (cases_lt n c)

pub greatest-append : (a b : List ℕ) → greatest (a ++ b) ≡ max (greatest a) (greatest b)
greatest-append [] b = sym (zero-max (greatest b))
greatest-append (x ∷ a) b = ap (λ n. max x n) (greatest-append a b) ∙ three x (greatest a) (greatest b) where
  three : (k n m : ℕ) → max k (max n m) ≡ max (max k n) m
  three k n m = le_antisymm
      (max-le (le_trans (le-max_left k n) (le-max_left (max k n) m))
      (max-le (le_trans (le-max_right k n) (le-max_left (max k n) m)) (le-max_right (max k n) m)))
      (max-le (max-le (le-max_left k (max n m)) (le_trans (le-max_left n m) (le-max_right k (max n m))))
      (le_trans (le-max_right n m) (le-max_right k (max n m))))

-- a number behind the others that is no less than they
pub greatest-push : (a : List ℕ) (n : ℕ) → greatest a ≤ n → greatest (a ++ n ∷ []) ≡ n
greatest-push a n le = greatest-append a (n ∷ [])
    ∙ max-eq_right (let up = le-max_left n 0 in let t : greatest a ≤ max n 0 = le_trans le up in t)
    ∙ le_antisymm (max-le (let r : n ≤ n = omega arith in r) (omega arith)) (le-max_left n 0)

-- none of the numbers is above the greatest
pub none-above : (a : List ℕ) → All (λ m. m ≤ greatest a) a
none-above [] = let P : ℕ → Type 0 = λ m. m ≤ 0 in All-nil P
none-above (x ∷ a) =
    let P : ℕ → Type 0 = λ m. m ≤ max x (greatest a) in
    let Q : ℕ → Type 0 = λ m. m ≤ greatest a in
    All-cons P x a (le-max_left x (greatest a))
    (All-weaker Q P (λ m le. le_trans le (le-max_right x (greatest a))) a (none-above a))

Rises-snoc : (a : List ℕ) (n : ℕ) → Rises a → All (λ m. m < n) a → Rises (a ++ n ∷ [])
Rises-snoc [] n up below = let P : ℕ → Type 0 = λ m. n < m in (All-nil P, tt)
Rises-snoc (x ∷ a) n up below =
    let P : ℕ → Type 0 = λ m. x < m in
    let Q : ℕ → Type 0 = λ m. m < n in
    (All-append P a (n ∷ []) up.0 (All-cons P n [] (All-head Q x a below) (All-nil P)), Rises-snoc a n up.1 (All-tail Q x a below))

-- a number above all others behind them
pub Rises-push : (a : List ℕ) (n : ℕ) → Rises a → greatest a < n → Rises (a ++ n ∷ [])
Rises-push a n up above =
    let P : ℕ → Type 0 = λ m. m ≤ greatest a in
    let Q : ℕ → Type 0 = λ m. m < n in
    Rises-snoc a n up (All-weaker P Q (λ m le. omega arith) a (none-above a))

-- How often numbers stand in lists.
use Rattle.std.proofs.Common.{◌≡◌, ℕ, ◌+◌, ◌<◌, ◌==◌, true≢false, Option, Some, None, is_some, List, [], ◌∷◌, ◌++◌, length, map, find, refl, sym, ap, ◌∙◌, eqb-true, arith}
use Rattle.std.specs.List.{sum_by, sum}
use Rattle.std.proofs.lemmas.List.Sums.{sum_by-append, sum_by_push, sum-map}
use Rattle.std.proofs.lemmas.Simd.{map-map}
use Rattle.zk_base.proofs.Firsts as firsts
use Rattle.zk_pool.specs.Counts.{tally, without}

-- one where two numbers are equal
abbrev pub equal : ℕ → ℕ → ℕ
equal n m = firsts.one_if (n == m)

pub tally-append : (n : ℕ) (ns ms : List ℕ) → tally n (ns ++ ms) ≡ tally n ns + tally n ms
tally-append n ns ms = sum_by-append (equal n) ns ms

pub tally-push : (n m : ℕ) (ns : List ℕ) → tally n (ns ++ m ∷ []) ≡ tally n ns + equal n m
tally-push n m ns = sum_by_push (equal n) ns m

-- the numbers of some things, counted by the things
pub tally-map : {T : Type 0} (number : T → ℕ) (n : ℕ) (xs : List T) → tally n (map number xs) ≡ sum_by (λ x. equal n (number x)) xs
tally-map number n xs =
    sym (sum-map (equal n) (map number xs)) ∙ ap sum (map-map (equal n) number xs) ∙ sum-map (λ x. equal n (number x)) xs

module _ (m : ℕ) (ns : List ℕ) (some_one : 0 < tally m ns) where
  found-as : (o : Option ℕ) → find (λ k. m == k) ns ≡ o → find (λ k. m == k) ns ≡ Some m
  found-as None none =
      let is = sym (firsts.any-counted (λ k. m == k) ns some_one) ∙ firsts.any-find (λ k. m == k) ns
      ∙ ap (λ (o : Option ℕ). is_some o) none in
      absurd (true≢false is)
  found-as (Some k) found =
      let is = firsts.found-passes (λ k. m == k) ns k found in
      found ∙ ap (λ (j : ℕ). Some j) (sym (eqb-true m k is))

  -- one number less
  pub tally-without : (n : ℕ) → tally n (without m ns) + equal n m ≡ tally n ns
  tally-without n =
      let found = found-as (find (λ k. m == k) ns) refl in
      let all = firsts.count-found (λ k. m == k) (λ k. n == k) ns m found in
      omega arith

  pub length-without : length (without m ns) + 1 ≡ length ns
  length-without = let less = firsts.length-without (λ k. m == k) ns (firsts.any-counted (λ k. m == k) ns some_one) in omega arith

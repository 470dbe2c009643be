-- Callers in seats, and out of them again.
use Rattle.std.proofs.Common.{◌≡◌, ℕ, ◌<◌, Some, List, [], ◌∷◌, ◌++◌, length, map, All, refl, sym, ap, subst, ◌∙◌, arith}
use Rattle.std.proofs.lemmas.List.{length-map, map-append}
use Rattle.std.proofs.lemmas.List.Elements.{All-head, All-weaker, All-map}
use Rattle.zk_scenario.specs.Players.{players}
use Rattle.zk_kernel.specs.declared.caller.Caller.{Caller}
use Rattle.zk_kernel.specs.Callers.{IsCaller, number_of}
use Rattle.zk_cells.specs.Kernels.{Shared}
use Rattle.zk_kernel.specs.Rests.{AreAllCallers, numbers_from}
use Rattle.zk_pool.specs.Counts.{tally}
use Rattle.zk_pool.specs.declared.pool.Pool.{Pool}
use Rattle.zk_pool.specs.Hands.{home_in, pool_home, pool_items, HaveOneHome}
use Rattle.zk_pool.specs.Rule.{Suits}
use Rattle.zk_cores.specs.declared.seat.Seat.{Seat}
use Rattle.zk_cores.specs.Seats.{seat_caller, seat_number, seat_kernel, IsSeated}

-- it is a seat of this kernel
abbrev pub IsOf : Shared → Seat → Type 0
IsOf k seat = Suits seat_number seat_kernel IsSeated (Some k) seat

pub of-kernel : (k : Shared) (seat : Seat) → IsCaller k (seat_caller seat) → IsOf k seat
of-kernel k seat own = (ap (λ (j : Shared). Some j) own.0, subst (λ (j : Shared). IsCaller j (seat_caller seat)) (sym own.0) own)

pub kernel-of : (k : Shared) (seat : Seat) → IsOf k seat → seat_kernel seat ≡ k
kernel-of k seat suits = let same = suits.0 in cc

pub caller-of : (k : Shared) (seat : Seat) → IsOf k seat → IsCaller k (seat_caller seat)
caller-of k seat suits = subst (λ (j : Shared). IsCaller j (seat_caller seat)) (kernel-of k seat suits) suits.1

-- seats of one kernel have one home
pub home-of : (k : Shared) (seats : List Seat) → 0 < length seats → All (IsOf k) seats → home_in seat_kernel seats ≡ Some k
home-of k [] some of = absurd (omega arith)
home-of k (seat ∷ seats) some of = ap (λ (j : Shared). Some j) (kernel-of k seat (All-head (IsOf k) seat seats of))

pub one-home : (k : Shared) (seats : List Seat) → 0 < length seats → All (IsOf k) seats → HaveOneHome seat_kernel seats
one-home k seats some of =
    All-weaker (IsOf k) (λ (x : Seat). Some (seat_kernel x) ≡ home_in seat_kernel seats)
    (λ x is. is.0 ∙ sym (home-of k seats some of)) seats of

-- and so has their pool
pub pool-home : (k : Shared) (p : Pool Seat Shared) (seats : List Seat) → pool_items p ≡ seats → 0 < length seats → All (IsOf k) seats → pool_home seat_kernel p ≡ Some k
pool-home k p seats is some of = ap (home_in seat_kernel) is ∙ home-of k seats some of

pub all-seated : (k : Shared) (seats : List Seat) → All (IsOf k) seats → All IsSeated seats
all-seated k seats of = All-weaker (IsOf k) IsSeated (λ x is. is.1) seats of

-- each caller has a seat
pub as-many : (seats : List Seat) (callers : List Caller) → map seat_caller seats ≡ callers → length seats ≡ length callers
as-many seats callers are = sym (length-map seats seat_caller) ∙ ap (λ (l : List Caller). length l) are

-- one caller more is out of its seat
pub one-more : (before : List Seat) (x : Seat) (callers more : List Caller) (c : Caller) → callers ≡ map seat_caller before → c ≡ seat_caller x →
    more ≡ callers ++ c ∷ [] → more ≡ map seat_caller (before ++ x ∷ [])
one-more before x callers more c are is put =
    put ∙ ap (λ (l : List Caller). l ++ c ∷ []) are ∙ ap (λ (d : Caller). map seat_caller before ++ d ∷ []) is ∙ sym (map-append seat_caller before (x ∷ []))

-- the numbers in seats are those of their callers
pub numbers-of : (seats : List Seat) (callers : List Caller) → map seat_caller seats ≡ callers → map seat_number seats ≡ map number_of callers
numbers-of seats callers are = through seats ∙ ap (map number_of) are where
  through : (seats : List Seat) → map seat_number seats ≡ map number_of (map seat_caller seats)
  through [] = refl
  through (x ∷ xs) = ap (λ (l : List ℕ). seat_number x ∷ l) (through xs)

-- what came back of a pool is each number once
pub once-back : (k : Shared) (callers : List Caller) (given back : List Seat) → AreAllCallers k callers → map seat_caller given ≡ callers → length back ≡ length given →
    ((n : ℕ) → tally n (map seat_number back) ≡ tally n (map seat_number given)) → (n : ℕ) → tally n (map seat_number back) ≡ tally n (numbers_from 0 (length back))
once-back k callers given back all are long same n =
    let many : length callers ≡ length back = sym (ap (λ (l : List Caller). length l) are) ∙ length-map given seat_caller ∙ sym long in
    same n ∙ ap (tally n) (numbers-of given callers are) ∙ all.once n ∙ ap (λ (m : ℕ). tally n (numbers_from 0 m)) many

-- so the callers in the seats are all of their kernel
pub all-unseated : (k : Shared) (seats : List Seat) (callers : List Caller) → All (IsOf k) seats → ((n : ℕ) → tally n (map seat_number seats) ≡ tally n (numbers_from 0 (length seats))) →
    length seats ≡ length (players k.scenario.decls) → callers ≡ map seat_caller seats → AreAllCallers k callers
all-unseated k seats callers of once many are =
    let long : length (map seat_caller seats) ≡ length seats = length-map seats seat_caller in
    subst (AreAllCallers k) (sym are) (record {
      own = All-map (IsCaller k) seat_caller seats (All-weaker (IsOf k) (λ x. IsCaller k (seat_caller x)) (λ x is. caller-of k x is) seats of);
      all = long ∙ many;
      once = λ n. ap (tally n) (sym (numbers-of seats (map seat_caller seats) refl)) ∙ once n ∙ ap (λ (m : ℕ). tally n (numbers_from 0 m)) (sym long);
    })

-- The places of lines, in the order in which they are drawn, are places of them.
use Rattle.std.proofs.Common.{◌≡◌, ℕ, ◌<◌, Bool, true, false, List, length, All, get_or, sym, subst}
use Rattle.std.specs.List.{range_with_len}
use Rattle.std.proofs.lemmas.List.Elements.{Contains-get_or}
use Rattle.std.proofs.lemmas.List.Sorted.{All-permutation}
use Rattle.zk_trace.specs.declared.stood.Stood.{Stood}
use Rattle.zk_show_order.proofs.Drawn.{within-range}
use Rattle.zk_show_chart.specs.Rows.{AreDrawn}

range-below : (count : ℕ) → All (λ place. place < count) (range_with_len 0 count)
range-below count k d within =
    within-range count (get_or (range_with_len 0 count) k d) (Contains-get_or (range_with_len 0 count) k d within)

pub drawn-within : (lines : List Stood) (agrees : Bool) (order : List ℕ) → AreDrawn lines agrees order →
    All (λ place. place < length lines) order
drawn-within lines true order is =
    All-permutation (λ (place : ℕ). place < length lines) (range_with_len 0 (length lines)) order is.each (range-below (length lines))
drawn-within lines false order is =
    subst (λ (places : List ℕ). All (λ (place : ℕ). place < length lines) places) (sym is.1) (range-below (length lines))

-- the same of equal lists
pub within-as : (lines same : List Stood) (order again : List ℕ) → lines ≡ same → again ≡ order →
    All (λ place. place < length lines) order → All (λ place. place < length same) again
within-as lines same order again is at within =
    subst (λ (places : List ℕ). All (λ (place : ℕ). place < length same) places) (sym at)
    (subst (λ (l : List Stood). All (λ (place : ℕ). place < length l) order) is within)

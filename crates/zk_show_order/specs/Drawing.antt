-- Inner: no contract of a top call is made of this file.
use Rattle.std.specs.Prelude.{◌≡◌, ℕ, ◌<◌, Bool, false, List, [], ◌∷◌, ◌++◌, length, count_by, All, slice_index}
use Rattle.std.specs.Bool.{MatchBool}
use Rattle.std.specs.List.{slice_index_or, range_with_len, concat, Contains}
use Rattle.std.specs.List.Sorted.{IsPermutation}
use Rattle.zk_trace.specs.declared.stood.Stood.{Stood}
use Rattle.zk_show_order.specs.declared.drawing.Drawing.{Drawing}
use Rattle.zk_show_order.specs.Lanes.{IsLane}
use Rattle.zk_show_order.specs.Order.{line_at, lines_at, AllFollow}
use Rattle.zk_show_order.specs.Services.{service_of, fits_below, is_entry_of}

-- each line stands at one of so many services
abbrev pub AreAmong : List Stood → ℕ → Type 0
AreAmong lines services = All (λ line. service_of line.spot < services) lines

-- each step that is drawn is below those of its player that are left
abbrev pub DrawnBelow : List Stood → List ℕ → List (List ℕ) → Type 0
DrawnBelow lines order lanes =
    (drawn left : ℕ) → Contains order drawn → Contains (concat lanes) left →
    (line_at lines drawn).player ≡ (line_at lines left).player → (line_at lines drawn).step < (line_at lines left).step

-- lines are drawn in this order, and those of the lanes are left
pub record AreDrawn (lines : List Stood) (lanes : List (List ℕ)) (entries order : List ℕ) : Type 0 where
  -- each line stands once in the order or in a lane
  pub each : IsPermutation (range_with_len 0 (length lines)) (order ++ concat lanes)
  -- each lane has lines of its player, by step
  pub own : (player : ℕ) (d : List ℕ) → player < length lanes → IsLane lines player (slice_index_or lanes player d)
  pub below : DrawnBelow lines order lanes
  pub follow : AllFollow lines order
  -- the counts are those of the entries that are drawn
  pub counts : (service : ℕ) → service < length entries →
      slice_index entries service ≡ count_by (is_entry_of service) (lines_at lines order)
  pub counted : AreAmong lines (length entries)

abbrev pub IsDrawing : Drawing → Type 0
IsDrawing d = AreDrawn d.lines.now d.lanes.items d.entries.items d.order.items

-- the next line of a lane can't stand below the entries that are drawn, if there is one
abbrev pub IsHeld : List Stood → List (List ℕ) → List ℕ → ℕ → Type 0
IsHeld lines lanes entries player =
    (place : ℕ) (more : List ℕ) → slice_index_or lanes player [] ≡ place ∷ more →
    let spot = (line_at lines place).spot in
    fits_below spot (slice_index entries (service_of spot)) ≡ false

abbrev pub IsHeldIn : Drawing → ℕ → Type 0
IsHeldIn d player = IsHeld d.lines.now d.lanes.items d.entries.items player

-- no lane can go on
abbrev pub IsStuck : Drawing → Type 0
IsStuck d = (player : ℕ) → player < length d.lanes.items → IsHeldIn d player

-- lines more are drawn, or all is as it was
pub record GoesOn (start now : Drawing) (drawn : Bool) : Type 0 where
  pub standing : IsDrawing now
  pub lines : now.lines.now ≡ start.lines.now
  pub lanes : length now.lanes.items ≡ length start.lanes.items
  pub more : MatchBool drawn (length start.order.items < length now.order.items) (now ≡ start)

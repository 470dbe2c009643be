-- Inner: no contract of a top call is made of this file.
-- The rule of a shared signal: what holds of its words and its seats at every moment.
use Rattle.std.specs.Prelude.{◌≡◌, ℕ, ◌+◌, ◌*◌, ◌<◌, ◌≤◌, ◌⊎◌, List, length, map, All, slice_index}
use Rattle.std.specs.List.{sum_by}
use mathlib.Core.Option.{some}
use lib.ListN.{get_elem?}
use Rattle.atomic_table.specs.Table.{State}
use Rattle.zk_signal.specs.declared.views.View.{View}
use Rattle.zk_signal.specs.Counts.{tally, once}
use Rattle.zk_signal.specs.Limits.{most_writes, most_players}
use Rattle.zk_signal.specs.Views.{top_of}
use Rattle.zk_signal.specs.Words.{IsTidy, seen_in, stamp_in}

-- how many players a seat stands for
abbrev pub player_count : View → ℕ
player_count v = length v.players

-- how many stamps a seat has drawn: each is of a write, or of one that hasn't settled yet
abbrev pub drawn_count : View → ℕ
drawn_count v = length v.drawn + length v.writes

-- how often a stamp is among those that a seat has drawn
abbrev pub stamp_count : ℕ → View → ℕ
stamp_count stamp v = tally stamp v.drawn + tally stamp (map stamp_in v.writes)

-- how often a word is among the writes of a seat
abbrev pub write_count : ℕ → View → ℕ
write_count word v = tally word v.writes

-- a word is the value of its stamp: what some seat has written, or what stands before any write
abbrev pub IsValue : List View → ℕ → Type 0
IsValue views word = (word ≡ 0) ⊎ (0 < sum_by (write_count word) views)

-- what holds of one seat
pub record SeatStands (views : List View) (word : ℕ) (v : View) : Type 0 where
  pub room : drawn_count v ≤ most_writes * length v.players
  -- it has written and found nothing newer than the shared word
  pub newest : top_of v ≤ stamp_in word
  pub looks : All (IsValue views) v.looks

-- the rule, for a signal of so many players
pub record SignalStands (count : ℕ) (s : State ℕ View) : Type 0 where
  -- the words are that of the newest write which has settled, and the number of stamps drawn
  pub words : 2 ≤ length s.words
  pub few : count ≤ most_players
  -- the seats stand for all players, and have all stamps that were drawn: 1 to their number, each once
  pub players : sum_by player_count s.views ≡ count
  pub drawn : sum_by drawn_count s.views ≡ slice_index s.words 1
  pub stamps : (n : ℕ) → sum_by (stamp_count n) s.views ≡ once (slice_index s.words 1) n
  pub value : IsValue s.views (slice_index s.words 0)
  pub tidy : IsTidy (seen_in (slice_index s.words 0))
  pub each : (place : ℕ) (v : View) → get_elem? s.views place ≡ some v → SeatStands s.views (slice_index s.words 0) v

-- Inner: no contract of a top call is made of this file.
use Rattle.std.specs.Prelude.{◌≡◌, ℕ, ◌+◌, ◌<◌, ◌==◌, nat_le, Bool, true, false, not, ◌&&◌, Option, Some, List, [], ◌∷◌, length, map, take, slice_get, option_and_then, All, MatchOption}
use Rattle.std.specs.List.{filter}
use Rattle.std.specs.Option.{option_map_or}
use Rattle.zk_base.specs.declared.ids.Entry.{Entry}
use Rattle.zk_base.specs.Legal.{state_after}
use Rattle.zk_base.specs.Order.{by_key}
use Rattle.zk_model_work.specs.declared.ops.WorkOp.{WorkOp}
use Rattle.zk_model_work.specs.declared.ops.WorkReply.{WorkReply}
use Rattle.zk_model_work.specs.Machine.{work_machine}
use Rattle.zk_model_work.specs.State.{State}
use Rattle.zk_scenario.specs.Content.{Content}
use Rattle.zk_trace.specs.declared.looks.ItemLook.{ItemLook}
use Rattle.zk_trace.specs.declared.trace.Trace.{Trace}
use Rattle.zk_work.specs.Words.{work_word}
use Rattle.zk_worker.specs.Machines.{work_start_of, items_of}
use Rattle.zk_failures.specs.declared.item_looks.Fronted.{Fronted}

-- looks with their places, from a place on
abbrev pub fronts_from : ℕ → List ItemLook → List Fronted
fronts_from place [] = []
fronts_from place (look ∷ looks) = record { place = place; look = look } ∷ fronts_from (place + 1) looks

-- looks with their places, by the number of entries that there were
abbrev pub by_front : List ItemLook → List Fronted
by_front looks = by_key (λ one. one.look.at) (fronts_from 0 looks)

-- after a history an item has the flags that a look found
abbrev pub finds_now : State → List (Option ℕ) → List (Entry WorkOp WorkReply) → ItemLook → Bool
finds_now start items h look =
    option_map_or (λ item. work_word (state_after work_machine start h) item == look.flags)
    (option_and_then (λ item. item) (slice_get items look.item)) false

-- a look found what was there after as many entries of a history as it says
abbrev pub finds : State → List (Option ℕ) → List (Entry WorkOp WorkReply) → ItemLook → Bool
finds start items h look = nat_le look.at (length h) && finds_now start items (take look.at h) look

-- a history is a front of entries
abbrev pub IsReached : List (Entry WorkOp WorkReply) → List (Entry WorkOp WorkReply) → Type 0
IsReached h entries = h ≡ take (length h) entries

-- the places of the looks that didn't find what was there
abbrev pub missed_places : State → List (Option ℕ) → List (Entry WorkOp WorkReply) → List Fronted → List ℕ
missed_places start items h fronts =
    map (λ one. one.place) (filter (λ one. not (finds start items h one.look)) fronts)

-- the first look that a test doesn't pass
pub record IsFirstMissed (finds : ItemLook → Bool) (looks : List ItemLook) (place : ℕ) : Type 0 where
  pub look : ItemLook
  pub there : slice_get looks place ≡ Some look
  pub missed : finds look ≡ false
  pub none_before : (earlier : ℕ) (other : ItemLook) → earlier < place → slice_get looks earlier ≡ Some other → finds other ≡ true

-- a look found what was there in a trace
abbrev pub is_found : Content → Trace → ItemLook → Bool
is_found s t look = finds (work_start_of s) (items_of s.decls) t.work look

-- this is the place of the first look of a trace that didn't, if there is one
abbrev pub FirstMissed : Content → Trace → Option ℕ → Type 0
FirstMissed s t first =
    MatchOption first (All (λ look. is_found s t look ≡ true) t.looks.items) (λ place. IsFirstMissed (is_found s t) t.looks.items place)

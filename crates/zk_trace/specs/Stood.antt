use Rattle.std.specs.Prelude.{ℕ, ◌+◌, ◌^◌, ◌<◌, length, ◌==◌, zero, suc, Bool, List, [], ◌∷◌, ◌++◌, map}
use Rattle.std.specs.List.{filter}
use Rattle.zk_base.specs.declared.ids.Entry.{Entry}
use Rattle.zk_base.specs.Order.{by_key}
use Rattle.zk_worker.specs.declared.steps.Spot.{Spot}
use Rattle.zk_worker.specs.declared.steps.Spot.TheVariants as spots
use Rattle.zk_trace.specs.declared.looks.ItemLook.{ItemLook}
use Rattle.zk_trace.specs.declared.looks.SignalLook.{SignalLook}
use Rattle.zk_trace.specs.declared.stood.Family.{Family}
use Rattle.zk_trace.specs.declared.stood.Family.TheVariants as families
use Rattle.zk_trace.specs.declared.stood.Home.{Home}
use Rattle.zk_trace.specs.declared.stood.Home.TheVariants as homes
use Rattle.zk_trace.specs.declared.stood.Stood.{Stood}
use Rattle.zk_trace.specs.declared.trace.Trace.{Trace}
use Rattle.zk_trace.specs.Text.{looks_at}

-- where the entry at a place of the history of an object of a kind stands
abbrev pub spot_in : Family → ℕ → ℕ → Spot
spot_in families.Sem object place = spots.Sem object place
spot_in families.Msgq object place = spots.Msgq object place
spot_in families.Signal object place = spots.Signal object place
spot_in families.Chan object place = spots.Chan object place
spot_in families.Obs object place = spots.Obs object place

-- where the entry at a place of a service's history stands
abbrev pub spot_at : Home → ℕ → Spot
spot_at homes.Work place = spots.Work place
spot_at homes.Clock place = spots.Clock place
spot_at homes.Table place = spots.Table place
spot_at (homes.Object family object) place = spot_in family object place

-- the lines of a history from a place on
abbrev pub entries_stood : {O R : Type 0} → Home → ℕ → List (Entry O R) → List Stood
entries_stood home place [] = []
entries_stood home place (e ∷ es) =
    record { player = e.who.number; step = e.step; spot = spot_at home place } ∷ entries_stood home (place + 1) es

-- the lines of the histories of a kind, from the object of a number on
abbrev pub histories_stood : {O R : Type 0} → Family → ℕ → List (List (Entry O R)) → List Stood
histories_stood family object [] = []
histories_stood family object (h ∷ hs) =
    entries_stood (homes.Object family object) 0 h ++ histories_stood family (object + 1) hs

-- the line of a look at an item
abbrev pub item_look_stood : ItemLook → Stood
item_look_stood look = record { player = look.player; step = look.step; spot = spots.LookItem look.item look.flags look.at }

-- the line of a look at the signal of an object number
abbrev pub signal_look_stood : ℕ → SignalLook → Stood
signal_look_stood object look = record { player = look.player; step = look.step; spot = spots.LookSignal object look.seen }

-- the lines of the signals, from the object of a number on: of each the writes, and then the looks
abbrev pub signals_stood : {O R : Type 0} → List (List SignalLook) → ℕ → List (List (Entry O R)) → List Stood
signals_stood looks object [] = []
signals_stood looks object (h ∷ hs) =
    entries_stood (homes.Object families.Signal object) 0 h ++ map (signal_look_stood object) (looks_at looks object)
    ++ signals_stood looks (object + 1) hs

-- all lines of entries and looks, in the order of the text
abbrev pub stood : Trace → List Stood
stood t =
    entries_stood homes.Work 0 t.work ++ map item_look_stood t.looks.items
    ++ entries_stood homes.Clock 0 t.clock ++ entries_stood homes.Table 0 t.table
    ++ histories_stood families.Sem 0 t.sems ++ histories_stood families.Msgq 0 t.msgqs
    ++ signals_stood t.looks.signals 0 t.signals
    ++ histories_stood families.Chan 0 t.chans ++ histories_stood families.Obs 0 t.observers

-- objects have numbers of 32 bits
pub record AreFew (t : Trace) : Type 0 where
  pub sems : length t.sems < 2 ^ 32
  pub msgqs : length t.msgqs < 2 ^ 32
  pub signals : length t.signals < 2 ^ 32
  pub chans : length t.chans < 2 ^ 32
  pub observers : length t.observers < 2 ^ 32

-- whether a line is of a player
abbrev pub is_of : ℕ → Stood → Bool
is_of player line = line.player == player

-- where lines stand, by step, and at equal steps in their order
abbrev pub sorted_spots : List Stood → List Spot
sorted_spots lines = map (λ line. line.spot) (by_key (λ line. line.step) lines)

-- where the steps of a player stand
abbrev pub steps_of : List Stood → ℕ → List Spot
steps_of lines player = sorted_spots (filter (is_of player) lines)

-- lists of lines, one for each player, with a line more at the end of its player's, where there is one
abbrev pub put_line : ℕ → Stood → List (List Stood) → List (List Stood)
put_line player line [] = []
put_line zero line (l ∷ ls) = (l ++ line ∷ []) ∷ ls
put_line (suc player) line (l ∷ ls) = l ∷ put_line player line ls

-- with some lines more, one after another
abbrev pub put_lines : List Stood → List (List Stood) → List (List Stood)
put_lines [] lists = lists
put_lines (line ∷ lines) lists = put_lines lines (put_line line.player line lists)

-- Inner: no contract of a top call is made of this file.
-- What a pass at the queue of a pool knows, and how that changes.
use Rattle.std.specs.Prelude.{ℕ, ◌+◌, ◌-◌, Option, List, [], ◌∷◌, ◌++◌}
use Rattle.std.specs.declared.option.Option.TheVariants.{None}
use Rattle.zk_pool.specs.declared.views.View.{View}

module _ {H : Type 0} where
  -- so many of the hands that there are, which hold nothing and have never found the queue empty
  abbrev pub resting : ℕ → ℕ → List ℕ → Option H → View H
  resting hands made numbers home = record { hands = hands; made = made; numbers = numbers; home = home; held = []; empties = 0 }

  -- the one pass of a new queue
  abbrev pub opened : View H
  opened = resting 1 1 [] None

  -- what is left of a pass that was joined into another, and of one that was made for a note alone
  abbrev pub spent : View H
  spent = resting 0 0 [] None

  -- a further number stands in the queue, of an item of this home
  abbrev pub filled : View H → ℕ → Option H → View H
  filled v n house = record v { numbers = v.numbers ++ n ∷ []; home = house }

  -- other numbers are in its hands
  abbrev pub holding : View H → List ℕ → View H
  holding v held = record v { held = held }

  -- one hand more is there, which is its own
  abbrev pub grown : View H → View H
  grown v = record v { hands = v.hands + 1; made = v.made + 1 }

  -- what is left of a pass when one of its hands gets a pass of its own
  abbrev pub dealt_from : View H → View H
  dealt_from v = record v { hands = v.hands - 1 }

  -- the pass of that hand
  abbrev pub dealt : View H → View H
  dealt v = resting 1 v.made v.numbers v.home

  -- it found the queue empty once more
  abbrev pub found_nothing : View H → View H
  found_nothing v = record v { empties = v.empties + 1 }

  -- two passes in one
  abbrev pub joined : View H → View H → View H
  joined v w = record v { hands = v.hands + w.hands; held = v.held ++ w.held; empties = v.empties + w.empties }

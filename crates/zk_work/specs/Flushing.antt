-- Inner: no contract of a top call is made of this file.
use Rattle.std.specs.Prelude.{◌≡◌, ℕ, ◌<◌, Bool, true, false, nat_lt, List, length, slice_index_or, All}
use Rattle.zk_model_work.specs.declared.parts.Awaited.{Awaited}
use Rattle.zk_model_work.specs.declared.parts.Awaited.TheVariants.{Flush}
use Rattle.zk_model_work.specs.declared.parts.Wait.{Wait}
use Rattle.zk_queue.specs.Open.{Open}
use Rattle.zk_work.specs.Engine.{is_flushing}

-- a flush waits for an admission that was made
abbrev pub is_made : ℕ → Awaited → Bool
is_made next (Flush number) = nat_lt number next
is_made next _ = true

-- each item is marked as flushing where a flush waits for an admission of it
pub record AreFlushing (next : ℕ) (o : Open) (flushing : List Bool) (waits : List Wait) : Type 0 where
  pub long : length flushing ≡ o.items
  pub made : All (λ w. is_made next w.awaited ≡ true) waits
  pub marked : (item : ℕ) → item < o.items → slice_index_or flushing item false ≡ is_flushing o waits item

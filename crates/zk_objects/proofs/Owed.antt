-- The laws of the engine, over all states and operations.
use Rattle.std.proofs.Common.{◌≡◌, ◌+◌, ◌≤◌, true, false, is_some, [], ◌∷◌, length, refl, arith}
use Rattle.std.proofs.lemmas.List.{length-append}
use Rattle.zk_base.specs.declared.ids.Who.{Who}
use Rattle.zk_model_bus.specs.declared.table.TableOp.{TableOp}
use Rattle.zk_model_bus.specs.Table.{Table, entry_of, table_reply, table_next, table_in_range}

-- each entry is counted
pub counts : (t : Table) (who : Who) (op : TableOp) → length (table_next t who op).entries ≡ length t.entries + 1
counts t who op = length-append t.entries (entry_of t who op ∷ [])

-- what is in range stays so
pub ranges : (t : Table) (who : Who) (op : TableOp) → table_in_range (table_next t who op) ≡ table_in_range t
ranges t who op = refl

-- nothing is ever owed
pub adds : (t : Table) (who : Who) (op : TableOp) → 0 ≤ 0 + 2
adds t who op = omega arith

pub gives : (t : Table) (who : Who) (op : TableOp) → false ≡ true → is_some (table_reply t who op) ≡ true → 1 + 0 ≤ 0
gives t who op closes some = absurd (cc)

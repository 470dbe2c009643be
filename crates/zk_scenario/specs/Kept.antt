-- Inner: no contract of a top call is made of this file.
use Rattle.std.specs.Prelude.{◌≡◌, ℕ, Bool}
use Rattle.zk_scenario.specs.declared.pairs.Pairs.{Pairs}
use Rattle.zk_scenario.specs.Free.{next_is_free}
use Rattle.zk_scenario.specs.Reading.{Reading, all_scripts, parts_of}
use Rattle.zk_scenario.specs.Valid.{IsValid, call_count}
use Rattle.zk_scenario.specs.Written.{ArePermissions}

-- what was read is valid, its calls are counted, it is known whether the next line is free, and its permissions are kept
pub record IsKept (r : Reading) (calls : ℕ) (free : Bool) (permissions : Pairs) : Type 0 where
  pub valid : IsValid (parts_of r)
  pub counted : calls ≡ call_count (all_scripts r)
  pub loose : free ≡ next_is_free r
  pub permitted : ArePermissions r.written permissions

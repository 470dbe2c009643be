-- What is left of calls and scripts that are made one behind the other.
use Rattle.std.proofs.Common.{◌≡◌, ℕ, ◌+◌, ◌-◌, ◌<◌, suc, List, ◌∷◌, ◌++◌, map, append_assoc, arith, sym, ap, ◌∙◌}
use Rattle.std.specs.List.{flat_map, range_with_len}
use Rattle.zk_line.specs.declared.types.Call.{Call}
use Rattle.zk_scenario.specs.declared.types.Script.{Script}
use Rattle.zk_soak.specs.Drawn.{call_drawn, calls_drawn, x_behind}
use Rattle.zk_soak.specs.Soak.{thread_script, thread_scripts, item_script}

module _ (n k : ℕ) (more : k < n) where
  one_more : n - k ≡ suc (n - (k + 1))
  one_more = omega arith

  calls_left : (x : ℕ) → calls_drawn (n - k) x ≡ (call_drawn x).call ∷ calls_drawn (n - (k + 1)) (call_drawn x).x
  calls_left x = ap (λ m. calls_drawn m x) one_more

  pub x_left : (x : ℕ) → x_behind (n - k) x ≡ x_behind (n - (k + 1)) (call_drawn x).x
  x_left x = ap (λ m. x_behind m x) one_more

  scripts_left : (calls x : ℕ) → thread_scripts (n - k) calls k x ≡ thread_script k calls x ∷ thread_scripts (n - (k + 1)) calls (k + 1) (x_behind calls x)
  scripts_left calls x = ap (λ m. thread_scripts m calls k x) one_more

  items_left : map item_script (range_with_len k (n - k)) ≡ item_script k ∷ map item_script (range_with_len (k + 1) (n - (k + 1)))
  items_left = ap (λ m. map item_script (range_with_len k m)) one_more

  -- the next one is written
  pub calls_step : (text : Call → List ℕ) (x : ℕ) (out next : List ℕ) → next ≡ out ++ text (call_drawn x).call
      → next ++ flat_map text (calls_drawn (n - (k + 1)) (call_drawn x).x) ≡ out ++ flat_map text (calls_drawn (n - k) x)
  calls_step text x out next same =
      ap (λ l. l ++ flat_map text (calls_drawn (n - (k + 1)) (call_drawn x).x)) same
      ∙ append_assoc out (text (call_drawn x).call) _ ∙ sym (ap (λ cs. out ++ flat_map text cs) (calls_left x))

  pub scripts_step : (text : Script → List ℕ) (calls x : ℕ) (out next : List ℕ) → next ≡ out ++ text (thread_script k calls x)
      → next ++ flat_map text (thread_scripts (n - (k + 1)) calls (k + 1) (x_behind calls x)) ≡ out ++ flat_map text (thread_scripts (n - k) calls k x)
  scripts_step text calls x out next same =
      ap (λ l. l ++ flat_map text (thread_scripts (n - (k + 1)) calls (k + 1) (x_behind calls x))) same
      ∙ append_assoc out (text (thread_script k calls x)) _ ∙ sym (ap (λ ss. out ++ flat_map text ss) (scripts_left calls x))

  pub items_step : (text : Script → List ℕ) (out next : List ℕ) → next ≡ out ++ text (item_script k)
      → next ++ flat_map text (map item_script (range_with_len (k + 1) (n - (k + 1)))) ≡ out ++ flat_map text (map item_script (range_with_len k (n - k)))
  items_step text out next same =
      ap (λ l. l ++ flat_map text (map item_script (range_with_len (k + 1) (n - (k + 1))))) same
      ∙ append_assoc out (text (item_script k)) _ ∙ sym (ap (λ ss. out ++ flat_map text ss) items_left)

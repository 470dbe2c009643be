-- An arm that is read is in its range.
use Rattle.std.proofs.Common.{◌≡◌, ℕ, ◌+◌, ◌&&◌, true, leb, ltb, List, [], ◌∷◌, length, Option, Some, None, refl, sym, ap, inl, inr, ◌∙◌, arith}
use Rattle.std.specs.Prelude.{option_map, IfSome}
use Rattle.std.specs.List.{list_all}
use Rattle.std.proofs.lemmas.Bool.{cases_Bool, cond-true, cond-false, and_parts, and_from, leb-true, ltb-true, lt-ltb}
use Rattle.std.proofs.lemmas.Option.{none-some, same_Some, option_and_then_some}
use Rattle.zk_base.specs.Limits.{most_few}
use Rattle.zk_words.specs.Numbers.{number_in}
use Rattle.zk_words.proofs.Numerals.{number_in_spelled}
use Rattle.zk_side.specs.Slots.{only, number_or_none, numbers_in, few_in}
use Rattle.zk_model_trigger.specs.declared.ops.TriggerOp.{TriggerOp}
use Rattle.zk_model_trigger.specs.declared.ops.TriggerOp.TheVariants.{Arm}
use Rattle.zk_model_trigger.specs.Machine.{Triggers, in_range}
use Rattle.zk_trigger_script.specs.declared.limits.TheConstants.{GREATEST_EVENT, GREATEST_ITEM, GREATEST_QUEUE, MOST_TICKS}
use Rattle.zk_trigger_script.specs.Operations.{arm_of}

map_some : {A B P : Type 0} (f : A → B) (o : Option A) (y : B) → option_map f o ≡ Some y → ((x : A) → o ≡ Some x → f x ≡ y → P) → P
map_some f None y said next = absurd (none-some y said)
map_some f (Some x) y said next = next x refl (same_Some (f x) y said)

-- a number that was read is below the one behind the greatest
below : (least most : ℕ) (word : List ℕ) (n : ℕ) → number_in least most word ≡ Some n → ltb n (most + 1) ≡ true
below least most word n said =
    let parts = and_parts (leb least n) (leb n most) (number_in_spelled least most word n said).1 in
    let small = leb-true n most parts.1 in
    lt-ltb n (most + 1) (omega arith)

only_below : (least most : ℕ) (words : List (List ℕ)) (n : ℕ) → only (number_in least most) words ≡ Some n → ltb n (most + 1) ≡ true
only_below least most [] n said = absurd (none-some n said)
only_below least most (word ∷ []) n said = below least most word n said
only_below least most (word ∷ next ∷ more) n said = absurd (none-some n said)

numbers_below : (least most : ℕ) (words : List (List ℕ)) (ns : List ℕ) → numbers_in least most words ≡ Some ns →
    (list_all (λ n. ltb n (most + 1)) ns ≡ true) × (length ns ≡ length words)
numbers_below least most [] ns said =
    let same = sym (same_Some [] ns said) in
    (ap (list_all (λ n. ltb n (most + 1))) same, ap length same)
numbers_below least most (word ∷ words) ns said =
    option_and_then_some (λ n. option_map (λ ms. n ∷ ms) (numbers_in least most words)) (number_in least most word) ns said (λ n is_n behind.
    map_some (λ (ms : List ℕ). n ∷ ms) (numbers_in least most words) ns behind (λ ms is_ms made.
    let rest = numbers_below least most words ms is_ms in
    let all = and_from (ltb n (most + 1)) (list_all (λ m. ltb m (most + 1)) ms) (below least most word n is_n) rest.0 in
    (ap (list_all (λ m. ltb m (most + 1))) (sym made) ∙ all, omega (arith, ap length made, rest.1))))

-- one to eight numbers that were read
few_below : (least most : ℕ) (words : List (List ℕ)) (ns : List ℕ) → few_in least most words ≡ Some ns →
    (ltb 0 (length ns) ≡ true) × (list_all (λ n. ltb n (most + 1)) ns ≡ true)
few_below least most words ns said = elim (cases_Bool (ltb 0 (length words) && leb (length words) most_few)) [
  | inl few ↦
      let read = numbers_below least most words ns (sym (cond-true _ (numbers_in least most words) None few) ∙ said) in
      let some = ltb-true 0 (length words) (and_parts (ltb 0 (length words)) (leb (length words) most_few) few).0 in
      (lt-ltb 0 (length ns) (omega (arith, read.1)), read.0)
  | inr many ↦ absurd (none-some ns (sym (cond-false _ (numbers_in least most words) None many) ∙ said))
]

module _ (s : Triggers) where
  made_in_range : (words : List (List ℕ)) (op : TriggerOp) → arm_of words ≡ Some op → in_range s op ≡ true
  made_in_range [] op said = absurd (none-some op said)
  made_in_range (item ∷ []) op said = absurd (none-some op said)
  made_in_range (item ∷ queue ∷ []) op said = absurd (none-some op said)
  made_in_range (item ∷ queue ∷ ticks ∷ events) op said =
      option_and_then_some _ (number_in 0 GREATEST_ITEM item) op said (λ i is_i behind_i.
      option_and_then_some _ (number_in 0 GREATEST_QUEUE queue) op behind_i (λ q is_q behind_q.
      option_and_then_some _ (number_or_none 1 MOST_TICKS ticks) op behind_q (λ t is_t behind_t.
      map_some (λ (e : List ℕ). Arm i q e t) (few_in 0 GREATEST_EVENT events) op behind_t (λ e is_e made.
      let few = few_below 0 GREATEST_EVENT events e is_e in
      ap (in_range s) (sym made)
      ∙ and_from (ltb i 256) _ (below 0 GREATEST_ITEM item i is_i)
      (and_from (ltb q 8) _ (below 0 GREATEST_QUEUE queue q is_q)
      (and_from (ltb 0 (length e)) (list_all (λ n. ltb n 64) e) few.0 few.1))))))

  each_in_range : (said : Option TriggerOp) → ((op : TriggerOp) → said ≡ Some op → in_range s op ≡ true) →
      IfSome said (λ op. in_range s op ≡ true)
  each_in_range None fits = tt
  each_in_range (Some op) fits = fits op refl

  -- an arm that is read is in its range
  pub arm_in_range : (words : List (List ℕ)) → IfSome (arm_of words) (λ op. in_range s op ≡ true)
  arm_in_range words = each_in_range (arm_of words) (made_in_range words)

-- Passes after a step, and what the pass knows that takes in the others.
use Rattle.std.proofs.Common.{◌≡◌, ℕ, ◌+◌, List, [], ◌∷◌, ◌++◌, Option, Some, All, sym, ap, subst, ◌∙◌, arith}
use Rattle.std.proofs.lemmas.List.Elements.{All-pop}
use Rattle.crossbeam_queue.specs.declared.array_queue.Doing.{Doing}
use Rattle.crossbeam_queue.specs.declared.array_queue.Slotted.{Slotted}
use Rattle.crossbeam_queue.specs.Passes.{Pass, IsSamePass, IsPassOf}
use Rattle.zk_pool.specs.declared.pool.Pool.{Pool}
use Rattle.zk_pool.specs.declared.views.View.{View}
use Rattle.zk_pool.specs.Hands.{StandsFor}
use Rattle.zk_pool.specs.Views.{joined}

-- a pass of a queue stays one of it
pub stays-pass : {T V Q A : Type 0} (q : Slotted (Option T) (Doing T V) Q A) (old new : Pass T V) → IsPassOf q old →
    IsSamePass old new → IsPassOf q new
stays-pass q old new own same = (same.0 ∙ own.0, same.2 ∙ own.1)

-- the last of a list, and the others
pub All-last : {A : Type 0} (P : A → Type 0) (xs ys : List A) (x : A) → xs ≡ ys ++ x ∷ [] → All P xs → All P ys × P x
All-last P xs ys x is all = All-pop P xs ys (Some x) is all

module _ {T H : Type 0} (number : T → ℕ) (home : T → H) (p : Pool T H) where
  -- it stands for one hand more
  pub stands-joined : (count more : ℕ) (v u w : View H) → w ≡ joined v u → more ≡ count + 1 →
      StandsFor number home p count v → StandsFor number home p 1 u → StandsFor number home p more w
  stands-joined count more v u w is one_more first second =
      let a = first.hands in
      let b = second.hands in
      subst (StandsFor number home p more) (sym is) (record {
        hands = omega arith;
        made = first.made;
        numbers = first.numbers;
        house = first.house;
      })

module _ {H : Type 0} where
  -- two that hold nothing
  pub held-joined : (v u w : View H) → w ≡ joined v u → v.held ≡ [] → u.held ≡ [] → w.held ≡ []
  held-joined v u w is none none' =
      ap (λ (x : View H). x.held) is ∙ ap (λ (l : List ℕ). l ++ u.held) none ∙ none'

-- Those that are sought, with one arm more.
use Rattle.std.proofs.Common.{◌≡◌, ℕ, ◌+◌, ◌<◌, Bool, true, false, cond, ltb, List, [], ◌∷◌, ◌++◌, length, take, drop, get_or, refl, sym, ap, ◌∙◌, arith}
use Rattle.std.specs.List.{filter, insert, position_or_len}
use Rattle.std.proofs.lemmas.List.{take_more, append-nil, take_all, drop_all}
use Rattle.std.proofs.lemmas.List.Elements.{filter-append}
use Rattle.zk_base.proofs.Order.{by_key-snoc, put_by-insert}
use Rattle.zk_trigger.specs.declared.live.LiveArm.{LiveArm}
use Rattle.zk_trigger.specs.declared.live.Sought.{Sought}
use Rattle.zk_trigger.specs.declared.live.Sought.TheVariants.{Events, Until}
use Rattle.zk_trigger.specs.Live.{meets_sought, deadline_time, put_sought, sought_order, all_sought}

pub put-events : (s : Sought) (mask n : ℕ) (a : LiveArm) (arms : List LiveArm) → s ≡ Events mask → n ≡ length arms →
    insert arms n a ≡ put_sought s a arms
put-events s mask n a arms is at =
    ap (λ (i : ℕ). insert arms i a) at
    ∙ ap (λ (l : List LiveArm). l ++ a ∷ drop (length arms) arms) (take_all (length arms) arms (omega arith))
    ∙ ap (λ (l : List LiveArm). arms ++ a ∷ l) (drop_all (length arms) arms (omega arith))
    ∙ ap (λ (p : Sought). put_sought p a arms) (sym is)

pub put-until : (s : Sought) (time n : ℕ) (a : LiveArm) (arms : List LiveArm) → s ≡ Until time →
    n ≡ position_or_len (λ b. ltb (deadline_time a) (deadline_time b)) arms → insert arms n a ≡ put_sought s a arms
put-until s time n a arms is at =
    ap (λ (i : ℕ). insert arms i a) at ∙ sym (put_by-insert deadline_time a arms)
    ∙ ap (λ (p : Sought). put_sought p a arms) (sym is)

order-snoc : (s : Sought) (xs : List LiveArm) (a : LiveArm) → sought_order s (xs ++ a ∷ []) ≡ put_sought s a (sought_order s xs)
order-snoc (Events mask) xs a = refl
order-snoc (Until time) xs a = by_key-snoc deadline_time xs a

sought-snoc : (s : Sought) (xs : List LiveArm) (a : LiveArm) (b : Bool) → meets_sought s a ≡ b →
    all_sought s (xs ++ a ∷ []) ≡ cond b (put_sought s a (all_sought s xs)) (all_sought s xs)
sought-snoc s xs a b is =
    ap (sought_order s) (filter-append (meets_sought s) xs (a ∷ [])
    ∙ ap (λ (c : Bool). filter (meets_sought s) xs ++ cond c (a ∷ []) []) is) ∙ at b where
      at : (c : Bool) → sought_order s (filter (meets_sought s) xs ++ cond c (a ∷ []) [])
          ≡ cond c (put_sought s a (all_sought s xs)) (all_sought s xs)
      at true = order-snoc s (filter (meets_sought s) xs) a
      at false = ap (sought_order s) (append-nil (filter (meets_sought s) xs))

-- a loop's step
pub sought-more : (s : Sought) (xs : List LiveArm) (n : ℕ) (d : LiveArm) (b : Bool) → n < length xs →
    b ≡ meets_sought s (get_or xs n d) →
    all_sought s (take (n + 1) xs) ≡ cond b (put_sought s (get_or xs n d) (all_sought s (take n xs))) (all_sought s (take n xs))
sought-more s xs n d b within is =
    ap (all_sought s) (take_more xs n d within) ∙ sought-snoc s (take n xs) (get_or xs n d) b (sym is)

pub found-put : (s : Sought) (xs : List LiveArm) (n : ℕ) (d : LiveArm) (b : Bool) (found new : List LiveArm) → n < length xs →
    b ≡ meets_sought s (get_or xs n d) → b ≡ true → found ≡ all_sought s (take n xs) →
    new ≡ put_sought s (get_or xs n d) found → new ≡ all_sought s (take (n + 1) xs)
found-put s xs n d b found new within is so found_is new_is =
    new_is ∙ ap (put_sought s (get_or xs n d)) found_is ∙ sym (sought-more s xs n d true within (sym so ∙ is))

pub found-kept : (s : Sought) (xs : List LiveArm) (n : ℕ) (d : LiveArm) (b : Bool) (found : List LiveArm) → n < length xs →
    b ≡ meets_sought s (get_or xs n d) → b ≡ false → found ≡ all_sought s (take n xs) → found ≡ all_sought s (take (n + 1) xs)
found-kept s xs n d b found within is so found_is = found_is ∙ sym (sought-more s xs n d false within (sym so ∙ is))

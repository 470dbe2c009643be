-- Those that wait for an occasion, with one arm more.
use Rattle.std.proofs.Common.{◌≡◌, ℕ, suc, ◌+◌, ◌<◌, ◌≤◌, Bool, true, false, not, ◌&&◌, cond, ltb, Some, None, unwrap_or, List, [], ◌∷◌, ◌++◌, length, map, take, drop, set, get_or, refl, sym, ap, ◌∙◌, arith}
use Rattle.std.specs.List.{filter, insert, position, position_or_len}
use Rattle.std.proofs.lemmas.Bool.Decides.{nat_tests}
use Rattle.std.proofs.lemmas.List.{take_more, append-nil, map-append, get_or_default, take_all, drop_all}
use Rattle.std.proofs.lemmas.List.Edits.{map_over_more}
use Rattle.std.proofs.lemmas.List.Elements.{filter-append}
use Rattle.zk_base.proofs.Order.{by_key-snoc, put_by-insert}
use Rattle.zk_model_trigger.specs.declared.parts.Arm.{Arm}
use Rattle.zk_model_trigger.specs.declared.parts.Armed.{Armed}
use Rattle.zk_model_trigger.specs.declared.parts.Life.{Life}
use Rattle.zk_model_trigger.specs.declared.parts.Change.{Change}
use Rattle.zk_model_trigger.specs.declared.parts.Occasion.{Occasion}
use Rattle.zk_model_trigger.specs.declared.parts.Occasion.TheVariants.{Posted, Reached}
use Rattle.zk_model_trigger.specs.Arms.{is_waiting, meets, in_order, waiting, passes, chosen, deadline_of, life_after, change_one}
use Rattle.zk_model_trigger.specs.Putting.{put_in}

-- one arm more
pub waiting-snoc : (arms : List Armed) (a : Armed) → waiting (arms ++ a ∷ []) ≡ waiting arms ++ cond (is_waiting a.life) (a.arm ∷ []) []
waiting-snoc arms a =
    ap (map (λ (b : Armed). b.arm)) (filter-append (λ (b : Armed). is_waiting b.life) arms (a ∷ []))
    ∙ map-append (λ (b : Armed). b.arm) (filter (λ (b : Armed). is_waiting b.life) arms)
    (filter (λ (b : Armed). is_waiting b.life) (a ∷ []))
    ∙ ap (λ (l : List Arm). waiting arms ++ l) (one (is_waiting a.life)) where
      one : (w : Bool) → map (λ (b : Armed). b.arm) (cond w (a ∷ []) []) ≡ cond w (a.arm ∷ []) []
      one true = refl
      one false = refl

-- of one arm more, whether it waits for this
meeting-snoc : (o : Occasion) (arms : List Armed) (a : Armed) →
    filter (meets o) (waiting (arms ++ a ∷ [])) ≡ filter (meets o) (waiting arms) ++ cond (passes o a) (a.arm ∷ []) []
meeting-snoc o arms a =
    ap (filter (meets o)) (waiting-snoc arms a)
    ∙ filter-append (meets o) (waiting arms) (cond (is_waiting a.life) (a.arm ∷ []) [])
    ∙ ap (λ (l : List Arm). filter (meets o) (waiting arms) ++ l) (one (is_waiting a.life)) where
      one : (w : Bool) → filter (meets o) (cond w (a.arm ∷ []) []) ≡ cond (w && meets o a.arm) (a.arm ∷ []) []
      one true = refl
      one false = refl

in_order-snoc : (o : Occasion) (xs : List Arm) (a : Arm) → in_order o (xs ++ a ∷ []) ≡ put_in o a (in_order o xs)
in_order-snoc (Posted event) xs a = refl
in_order-snoc (Reached time) xs a = by_key-snoc deadline_of xs a

chosen-snoc : (o : Occasion) (arms : List Armed) (a : Armed) (b : Bool) → passes o a ≡ b →
    chosen o (arms ++ a ∷ []) ≡ cond b (put_in o a.arm (chosen o arms)) (chosen o arms)
chosen-snoc o arms a true is =
    ap (in_order o) (meeting-snoc o arms a
    ∙ ap (λ (b : Bool). filter (meets o) (waiting arms) ++ cond b (a.arm ∷ []) []) is)
    ∙ in_order-snoc o (filter (meets o) (waiting arms)) a.arm
chosen-snoc o arms a false is =
    ap (in_order o) (meeting-snoc o arms a
    ∙ ap (λ (b : Bool). filter (meets o) (waiting arms) ++ cond b (a.arm ∷ []) []) is
    ∙ append-nil (filter (meets o) (waiting arms)))

-- a loop's step
pub chosen-more : (o : Occasion) (arms : List Armed) (n : ℕ) (d : Armed) (b : Bool) → n < length arms →
    passes o (get_or arms n d) ≡ b →
    chosen o (take (n + 1) arms)
    ≡ cond b (put_in o (get_or arms n d).arm (chosen o (take n arms))) (chosen o (take n arms))
chosen-more o arms n d b within is =
    ap (chosen o) (take_more arms n d within) ∙ chosen-snoc o (take n arms) (get_or arms n d) b is

pub chosen-put : (o : Occasion) (arms : List Armed) (n : ℕ) (d : Armed) (b : Bool) (found new : List Arm) → n < length arms →
    b ≡ passes o (get_or arms n d) → b ≡ true → found ≡ chosen o (take n arms) →
    new ≡ put_in o (get_or arms n d).arm found → new ≡ chosen o (take (n + 1) arms)
chosen-put o arms n d b found new within is so found_is new_is =
    new_is ∙ ap (put_in o (get_or arms n d).arm) found_is ∙ sym (chosen-more o arms n d true within (sym is ∙ so))

pub chosen-kept : (o : Occasion) (arms : List Armed) (n : ℕ) (d : Armed) (b : Bool) (found : List Arm) → n < length arms →
    b ≡ passes o (get_or arms n d) → b ≡ false → found ≡ chosen o (take n arms) → found ≡ chosen o (take (n + 1) arms)
chosen-kept o arms n d b found within is so found_is = found_is ∙ sym (chosen-more o arms n d false within (sym is ∙ so))

-- one more element of a list is mapped in its place
pub mapped-more : (f : Armed → Armed) (xs ys : List Armed) (i : ℕ) (d y : Armed) → i < length xs → length ys ≡ length xs →
    ys ≡ map f (take i xs) ++ drop i xs → y ≡ f (get_or ys i d) →
    set ys i y ≡ map f (take (i + 1) xs) ++ drop (i + 1) xs
mapped-more f xs ys i d y within long so_far said =
    let x = get_or ys i d in
    let here : x ≡ get_or ys i x = get_or_default ys i d x (omega arith) in
    ap (λ (v : Armed). set ys i v) said ∙ map_over_more f xs ys i x within so_far here

-- a change of a life that is written at a place
pub changed-life : (change : Change) (ys : List Armed) (i : ℕ) (d e : Armed) (life : Life) → i < length ys →
    life ≡ life_after change (get_or ys i e) →
    record (get_or ys i d) { life = life } ≡ change_one change (get_or ys i d)
changed-life change ys i d e life within said =
    ap (λ (l : Life). record (get_or ys i d) { life = l }) (said ∙ ap (life_after change) (get_or_default ys i e d within))

-- one arm more, put in at its place

bounded : {A : Type 0} (p : A → Bool) (xs : List A) → position_or_len p xs ≤ length xs
bounded p [] = omega arith
bounded p (x ∷ xs) = by (p x) (bounded p xs) where
  by : (b : Bool) → position_or_len p xs ≤ length xs → cond (not b) (1 + position_or_len p xs) 0 ≤ suc (length xs)
  by true rest = omega arith
  by false rest = omega arith

pub position-or : {A : Type 0} (p : A → Bool) (xs : List A) → unwrap_or (position p xs) (length xs) ≡ position_or_len p xs
position-or p xs = at (position_or_len p xs) (length xs) (bounded p xs) where
  at : (n long : ℕ) → n ≤ long → unwrap_or (cond (ltb n long) (Some n) None) long ≡ n
  at n long most = by (ltb n long) refl where
    by : (b : Bool) → ltb n long ≡ b → unwrap_or (cond b (Some n) None) long ≡ n
    by true is = refl
    by false is = grind (arith, nat_tests)

pub put-posted : (o : Occasion) (event n : ℕ) (a : Arm) (arms : List Arm) → o ≡ Posted event → n ≡ length arms →
    insert arms n a ≡ put_in o a arms
put-posted o event n a arms is at =
    ap (λ (i : ℕ). insert arms i a) at
    ∙ ap (λ (l : List Arm). l ++ a ∷ drop (length arms) arms) (take_all (length arms) arms (omega arith))
    ∙ ap (λ (l : List Arm). arms ++ a ∷ l) (drop_all (length arms) arms (omega arith))
    ∙ ap (λ (p : Occasion). put_in p a arms) (sym is)

pub put-reached : (o : Occasion) (time n : ℕ) (a : Arm) (arms : List Arm) → o ≡ Reached time →
    n ≡ position_or_len (λ b. ltb (deadline_of a) (deadline_of b)) arms → insert arms n a ≡ put_in o a arms
put-reached o time n a arms is at =
    ap (λ (i : ℕ). insert arms i a) at ∙ sym (put_by-insert deadline_of a arms)
    ∙ ap (λ (p : Occasion). put_in p a arms) (sym is)

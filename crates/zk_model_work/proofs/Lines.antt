-- The first in a queue's line, and the place of the first that passes a test.
use Rattle.std.proofs.Common.{◌≡◌, ℕ, suc, ◌+◌, ◌<◌, ◌≤◌, Bool, true, false, not, cond, ltb, Option, Some, None, List, [], ◌∷◌, ◌++◌, length, slice_get, get_or, take, refl, ap, ◌∙◌, sym, arith}
use Rattle.std.specs.List.{filter, find, position, position_or_len}
use Rattle.std.specs.Option.{unwrap_or}
use Rattle.std.proofs.Math.Seq.{take-suc}
use Rattle.std.proofs.lemmas.Bool.Decides.{nat_tests}
use Rattle.std.proofs.lemmas.List.{append-nil}
use Rattle.std.proofs.lemmas.List.Folds.{find_at}
use Rattle.std.proofs.lemmas.Option.{same_Some, slice_get_past, slice_get-get_or}
use Rattle.std.proofs.lemmas.List.Quantifiers.{position-Some}
use Rattle.std.proofs.lemmas.List.Elements.{filter-append}
use Rattle.zk_base.specs.Order.{put_by, by_key}
use Rattle.zk_base.proofs.Order.{by_key-snoc}
use Rattle.zk_model_work.specs.declared.parts.Admission.{Admission}
use Rattle.zk_model_work.specs.declared.parts.Arm.{Arm}
use Rattle.zk_model_work.specs.declared.parts.Queue.{Queue}
use Rattle.zk_model_work.specs.declared.ops.Submitted.{Submitted}
use Rattle.zk_model_work.specs.declared.ops.Expiry.{Expiry}
use Rattle.zk_model_work.specs.Lists.{first, places_from, places}
use Rattle.zk_model_work.specs.Questions.{is_due, due, item_of}
use Rattle.zk_model_work.specs.Machine.{submit, submit_arms, expiries}
use Rattle.zk_model_work.specs.Answers.{submission}

-- a place found from the front, counted from n on
abbrev found : ℕ → ℕ → ℕ → Option ℕ
found n place long = cond (ltb place long) (Some (n + place)) None

-- one element that doesn't pass stands before
found-suc : (n place long : ℕ) → found n (1 + place) (suc long) ≡ found (n + 1) place long
found-suc n place long = grind (arith, nat_tests)

found-zero : (n long : ℕ) → found n 0 (suc long) ≡ Some n
found-zero n long = grind (arith, nat_tests)

found-all : (place long : ℕ) → found 0 place long ≡ cond (ltb place long) (Some place) None
found-all place long = grind (arith, nat_tests)

first_here : (b : Bool) (n place long : ℕ) (rest : List ℕ) → found (n + 1) place long ≡ first rest →
    found n (cond (not b) (1 + place) 0) (suc long) ≡ first (cond b (n ∷ rest) rest)
first_here true n place long rest same = found-zero n long
first_here false n place long rest same = found-suc n place long ∙ same

first_from : {A : Type 0} (n : ℕ) (passes : A → Bool) (xs : List A) →
    found n (position_or_len passes xs) (length xs) ≡ first (places_from n passes xs)
first_from n passes [] = refl
first_from n passes (x ∷ xs) = first_here (passes x) n (position_or_len passes xs) (length xs)
    (places_from (n + 1) passes xs) (first_from (n + 1) passes xs)

-- the first of the places that pass is where the search from the front ends
pub first_of_places : {A : Type 0} (passes : A → Bool) (xs : List A) → position passes xs ≡ first (places passes xs)
first_of_places passes xs = sym (found-all (position_or_len passes xs) (length xs)) ∙ first_from 0 passes xs

-- the place of the first that passes, or the end
bounded : {A : Type 0} (p : A → Bool) (xs : List A) → position_or_len p xs ≤ length xs
bounded p [] = omega arith
bounded p (x ∷ xs) = by (p x) (bounded p xs) where
  by : (b : Bool) → position_or_len p xs ≤ length xs → cond (not b) (1 + position_or_len p xs) 0 ≤ suc (length xs)
  by true rest = omega arith
  by false rest = omega arith

pub position-or : {A : Type 0} (p : A → Bool) (xs : List A) → unwrap_or (position p xs) (length xs) ≡ position_or_len p xs
position-or p xs = at (position_or_len p xs) (length xs) (bounded p xs) where
  at : (n long : ℕ) → n ≤ long → unwrap_or (cond (ltb n long) (Some n) None) long ≡ n
  at n long most = by (ltb n long) refl where
    by : (b : Bool) → ltb n long ≡ b → unwrap_or (cond b (Some n) None) long ≡ n
    by true is = refl
    by false is = grind (arith, nat_tests)

-- the first that passes, by its place
pub find-none : {A : Type 0} (p : A → Bool) (xs : List A) → position p xs ≡ None → find p xs ≡ None
find-none p xs none = find_at p xs ∙ at (position_or_len p xs) none where
  at : (n : ℕ) → cond (ltb n (length xs)) (Some n) None ≡ None → slice_get xs n ≡ None
  at n none = by (ltb n (length xs)) refl none where
    by : (b : Bool) → ltb n (length xs) ≡ b → cond b (Some n) None ≡ None → slice_get xs n ≡ None
    by true is none = absurd (cc)
    by false is none = slice_get_past xs n (grind (arith, nat_tests))

find-some : {A : Type 0} (p : A → Bool) (xs : List A) (n : ℕ) → position p xs ≡ Some n → find p xs ≡ slice_get xs n
find-some p xs n is = find_at p xs ∙ at (position_or_len p xs) is where
  at : (m : ℕ) → cond (ltb m (length xs)) (Some m) None ≡ Some n → slice_get xs m ≡ slice_get xs n
  at m is = by (ltb m (length xs)) is where
    by : (b : Bool) → cond b (Some m) None ≡ Some n → slice_get xs m ≡ slice_get xs n
    by true is = ap (slice_get xs) (same_Some m n is)
    by false is = absurd (cc)

pub find-there : {A : Type 0} (p : A → Bool) (xs : List A) (n : ℕ) (d : A) → position p xs ≡ Some n →
    find p xs ≡ Some (get_or xs n d)
find-there p xs n d is = find-some p xs n is ∙ slice_get-get_or xs n d (position-Some p xs n d is).0

-- the due arms with one more arm: it is put in where it is due
due-more : (time : ℕ) (arms : List Arm) (n : ℕ) (d : Arm) (b : Bool) → n < length arms → b ≡ is_due time (get_or arms n d) →
    due time (take (n + 1) arms) ≡ cond b (put_by (λ a. a.deadline) (get_or arms n d) (due time (take n arms)))
    (due time (take n arms))
due-more time arms n d b within is =
    let suc_is : n + 1 ≡ suc n = omega arith in
    ap (λ m. due time (take m arms)) suc_is ∙ ap (due time) (take-suc arms n d within)
    ∙ ap (by_key (λ (a : Arm). a.deadline)) (filter-append (is_due time) (take n arms) (get_or arms n d ∷ []))
    ∙ ap (λ c. by_key (λ (a : Arm). a.deadline) (filter (is_due time) (take n arms) ++ cond c (get_or arms n d ∷ []) []))
    (sym is) ∙ by b where
      by : (b : Bool) → by_key (λ (a : Arm). a.deadline)
          (filter (is_due time) (take n arms) ++ cond b (get_or arms n d ∷ []) []) ≡
          cond b (put_by (λ a. a.deadline) (get_or arms n d) (due time (take n arms))) (due time (take n arms))
      by true = by_key-snoc (λ (a : Arm). a.deadline) (filter (is_due time) (take n arms)) (get_or arms n d)
      by false = ap (by_key (λ (a : Arm). a.deadline)) (append-nil (filter (is_due time) (take n arms)))

pub due-put : (time : ℕ) (arms : List Arm) (n : ℕ) (d : Arm) (b : Bool) (found new : List Arm) → n < length arms →
    b ≡ is_due time (get_or arms n d) → b ≡ true → found ≡ due time (take n arms) →
    new ≡ put_by (λ a. a.deadline) (get_or arms n d) found → new ≡ due time (take (n + 1) arms)
due-put time arms n d b found new within is so found_is new_is =
    new_is ∙ ap (put_by (λ (a : Arm). a.deadline) (get_or arms n d)) found_is
    ∙ sym (due-more time arms n d true within (sym so ∙ is))

pub due-kept : (time : ℕ) (arms : List Arm) (n : ℕ) (d : Arm) (b : Bool) (found : List Arm) → n < length arms →
    b ≡ is_due time (get_or arms n d) → b ≡ false → found ≡ due time (take n arms) → found ≡ due time (take (n + 1) arms)
due-kept time arms n d b found within is so found_is = found_is ∙ sym (due-more time arms n d false within (sym so ∙ is))

-- the submission of one arm more
submit_arms-snoc : (marks : List ℕ) (queues : List Queue) (caller : Option ℕ) (arms : List Arm) (a : Arm) (xs : List Admission) →
    submit_arms marks queues caller (arms ++ a ∷ []) xs
    ≡ submit (submit_arms marks queues caller arms xs) a.item
    (submission (item_of (submit_arms marks queues caller arms xs) marks a.item) queues caller (Some a.queue))
submit_arms-snoc marks queues caller [] a xs = refl
submit_arms-snoc marks queues caller (b ∷ arms) a xs =
    submit_arms-snoc marks queues caller arms a
    (submit xs b.item (submission (item_of xs marks b.item) queues caller (Some b.queue)))

pub submit_arms-more : (marks : List ℕ) (queues : List Queue) (caller : Option ℕ) (arms : List Arm) (n : ℕ) (d : Arm)
    (xs ys zs : List Admission) (answer : Submitted) → n < length arms →
    ys ≡ submit_arms marks queues caller (take n arms) xs →
    answer ≡ submission (item_of ys marks (get_or arms n d).item) queues caller (Some (get_or arms n d).queue) →
    zs ≡ submit ys (get_or arms n d).item answer →
    zs ≡ submit_arms marks queues caller (take (n + 1) arms) xs
submit_arms-more marks queues caller arms n d xs ys zs answer within so_far answered new =
    let suc_is : n + 1 ≡ suc n = omega arith in
    let a = get_or arms n d in
    new ∙ ap (submit ys a.item) answered
    ∙ ap (λ (l : List Admission). submit l a.item (submission (item_of l marks a.item) queues caller (Some a.queue))) so_far
    ∙ sym (ap (λ m. submit_arms marks queues caller (take m arms) xs) suc_is
    ∙ ap (λ (l : List Arm). submit_arms marks queues caller l xs) (take-suc arms n d within)
    ∙ submit_arms-snoc marks queues caller (take n arms) a xs)

-- and what it is answered
expiries-snoc : (marks : List ℕ) (queues : List Queue) (arms : List Arm) (a : Arm) (xs : List Admission) →
    expiries marks queues (arms ++ a ∷ []) xs
    ≡ expiries marks queues arms xs ++ record {
      item = a.item;
      submitted = submission (item_of (submit_arms marks queues None arms xs) marks a.item) queues None (Some a.queue);
    } ∷ []
expiries-snoc marks queues [] a xs = refl
expiries-snoc marks queues (b ∷ arms) a xs =
    let answer = submission (item_of xs marks b.item) queues None (Some b.queue) in
    ap (λ (l : List Expiry). record { item = b.item; submitted = answer } ∷ l)
    (expiries-snoc marks queues arms a (submit xs b.item answer))

pub expiries-more : (marks : List ℕ) (queues : List Queue) (arms : List Arm) (n : ℕ) (d : Arm) (xs ys : List Admission)
    (told new : List Expiry) (x : Expiry) → n < length arms →
    ys ≡ submit_arms marks queues None (take n arms) xs → told ≡ expiries marks queues (take n arms) xs →
    x.submitted ≡ submission (item_of ys marks (get_or arms n d).item) queues None (Some (get_or arms n d).queue) →
    x.item ≡ (get_or arms n d).item → new ≡ told ++ x ∷ [] → new ≡ expiries marks queues (take (n + 1) arms) xs
expiries-more marks queues arms n d xs ys told new x within so_far told_is answered item_is new_is =
    let suc_is : n + 1 ≡ suc n = omega arith in
    let a = get_or arms n d in
    let last = submission (item_of (submit_arms marks queues None (take n arms) xs) marks a.item) queues None (Some a.queue) in
    let both : x ≡ record { item = a.item; submitted = last } =
    ap (λ i. record { item = i; submitted = x.submitted }) item_is
    ∙ ap (λ (r : Submitted). record { item = a.item; submitted = r }) (answered
    ∙ ap (λ (l : List Admission). submission (item_of l marks a.item) queues None (Some a.queue)) so_far) in
    new_is ∙ ap (λ (l : List Expiry). l ++ x ∷ []) told_is
    ∙ ap (λ (y : Expiry). expiries marks queues (take n arms) xs ++ y ∷ []) both
    ∙ sym (ap (λ m. expiries marks queues (take m arms) xs) suc_is
    ∙ ap (λ (l : List Arm). expiries marks queues l xs) (take-suc arms n d within)
    ∙ expiries-snoc marks queues (take n arms) a xs)

-- One line of tickets: how many of them an item has there, and the line without its first.
use Rattle.std.proofs.Common.{◌≡◌, ◌≢◌, ℕ, zero, suc, ◌+◌, ◌-◌, ◌<◌, ◌≤◌, Bool, true, false, not, cond, eqb, ltb, Some, None, is_some, option_map, List, [], ◌∷◌, ◌++◌, length, get_or, All, refl, sym, ap, subst, ◌∙◌, ◌⊎◌, inl, inr, eq-eqb, arith}
use Rattle.std.specs.List.{position, position_or_len, find, remove, slice_get}
use Rattle.std.proofs.lemmas.Bool.Decides.{nat_tests, eqb_tells}
use Rattle.std.proofs.lemmas.List.Elements.{All-nil, All-cons, All-head, All-tail, All-push}
use Rattle.std.proofs.lemmas.List.Folds.{find_at}
use Rattle.std.proofs.lemmas.Option.{slice_get_past, slice_get_read}
use Rattle.std.proofs.lemmas.Grind.{common_steps}
use Rattle.std.specs.Option.{IfSome}
use Rattle.zk_model_work.specs.Lists.{first}
use Rattle.zk_model_work.specs.Questions.{weight}
use Rattle.zk_queue.specs.declared.ticket.Ticket.{Ticket}
use Rattle.zk_queue.specs.Line.{is_of, without, number_in, Rises}
use Rattle.zk_queue.specs.Places.{count}

-- the first place taken out, or nothing where there is none
pub remove-first : (item : ℕ) (xs : List Ticket) → remove xs (position_or_len (is_of item) xs) ≡ without item xs
remove-first item [] = refl
remove-first item (t ∷ ts) = at (is_of item t) (position_or_len (is_of item) ts) (without item ts) (remove-first item ts) where
  at : (b : Bool) (n : ℕ) (rest : List Ticket) → remove ts n ≡ rest →
      remove (t ∷ ts) (cond (not b) (1 + n) 0) ≡ cond b ts (t ∷ rest)
  at true n rest same = refl
  at false n rest same =
      let next : 1 + n ≡ suc n = omega arith in
      ap (remove (t ∷ ts)) next ∙ ap (λ (ts : List Ticket). t ∷ ts) same

-- what isn't there isn't taken out
pub without_none : (item : ℕ) (xs : List Ticket) → count item xs ≡ 0 → without item xs ≡ xs
without_none item [] none = refl
without_none item (t ∷ ts) none = at (is_of item t) (without_none item ts) none where
  at : (b : Bool) → (count item ts ≡ 0 → without item ts ≡ ts) → weight 1 b + count item ts ≡ 0 →
      cond b ts (t ∷ without item ts) ≡ t ∷ ts
  at true rest none = absurd (omega arith)
  at false rest none = ap (λ (ts : List Ticket). t ∷ ts) (rest (omega arith))

-- and has no number
pub number_none : (item : ℕ) (xs : List Ticket) → count item xs ≡ 0 → number_in item xs ≡ None
number_none item [] none = refl
number_none item (t ∷ ts) none = at (is_of item t) (number_none item ts) none where
  at : (b : Bool) → (count item ts ≡ 0 → number_in item ts ≡ None) → weight 1 b + count item ts ≡ 0 →
      option_map (λ (t : Ticket). t.number) (cond b (Some t) (find (is_of item) ts)) ≡ None
  at true rest none = absurd (omega arith)
  at false rest none = rest (omega arith)

-- what is there has one
pub number_some : (item : ℕ) (xs : List Ticket) → 0 < count item xs → is_some (number_in item xs) ≡ true
number_some item [] some = absurd (omega arith)
number_some item (t ∷ ts) some = at (is_of item t) (number_some item ts) some where
  at : (b : Bool) → (0 < count item ts → is_some (number_in item ts) ≡ true) → 0 < weight 1 b + count item ts →
      is_some (option_map (λ (t : Ticket). t.number) (cond b (Some t) (find (is_of item) ts))) ≡ true
  at true rest some = refl
  at false rest some = rest (omega arith)

-- one ticket more
pub count-push : (item : ℕ) (xs : List Ticket) (t : Ticket) → count item (xs ++ t ∷ []) ≡ count item xs + weight 1 (is_of item t)
count-push item [] t = omega arith
count-push item (x ∷ xs) t = let rest = count-push item xs t in omega arith

-- one ticket less of the item
pub count-without : (item : ℕ) (xs : List Ticket) → count item (without item xs) ≡ count item xs - 1
count-without item [] = refl
count-without item (t ∷ ts) = at (is_of item t) (count-without item ts) refl where
  at : (b : Bool) → count item (without item ts) ≡ count item ts - 1 → is_of item t ≡ b →
      count item (cond b ts (t ∷ without item ts)) ≡ weight 1 b + count item ts - 1
  at true rest is = omega arith
  at false rest is = let here : weight 1 (is_of item t) ≡ 0 = ap (weight 1) is in omega arith

-- and none less of another
pub count-without_other : (item other : ℕ) (xs : List Ticket) → other ≢ item → count other (without item xs) ≡ count other xs
count-without_other item other [] differ = refl
count-without_other item other (t ∷ ts) differ = at (is_of item t) (count-without_other item other ts differ) refl where
  none : eqb t.item item ≡ true → weight 1 (eqb t.item other) ≡ 0
  none is = grind (arith, nat_tests)

  at : (b : Bool) → count other (without item ts) ≡ count other ts → is_of item t ≡ b →
      count other (cond b ts (t ∷ without item ts)) ≡ weight 1 (is_of other t) + count other ts
  at true rest is = let zero_here = none is in omega arith
  at false rest is = omega arith

-- a line holds no more tickets than without the item, and one
length-without : (item : ℕ) (xs : List Ticket) → length xs ≤ length (without item xs) + 1
length-without item [] = omega arith
length-without item (t ∷ ts) = at (is_of item t) (length-without item ts) where
  at : (b : Bool) → length ts ≤ length (without item ts) + 1 → suc (length ts) ≤ length (cond b ts (t ∷ without item ts)) + 1
  at true rest = omega arith
  at false rest = omega arith

-- where no item stands twice, and only the first so many items stand at all, there are no more tickets than so many
pub length_fits : (n : ℕ) (xs : List Ticket) → ((item : ℕ) → count item xs ≤ 1) →
    ((item : ℕ) → n ≤ item → count item xs ≡ 0) → length xs ≤ n
length_fits zero [] once below = omega arith
length_fits zero (t ∷ ts) once below =
    let none = below t.item (omega arith) in
    let here : weight 1 (eqb t.item t.item) ≡ 1 = ap (weight 1) (eq-eqb t.item t.item refl) in
    absurd (omega arith)
length_fits (suc n) xs once below =
    let rest = length_fits n (without n xs) (λ item. fewer item (eqb_tells item n))
    (λ item within. none item within (eqb_tells item n)) in
    omega (arith, length-without n xs) where
      fewer : (item : ℕ) → ((eqb item n ≡ true) × (item ≡ n)) ⊎ ((eqb item n ≡ false) × (item ≢ n)) →
          count item (without n xs) ≤ 1
      fewer item (inl same) = subst (λ m. count m (without n xs) ≤ 1) (sym same.1) (omega (arith, once n, count-without n xs))
      fewer item (inr differ) = omega (arith, once item, count-without_other n item xs differ.1)

      none : (item : ℕ) → n ≤ item → ((eqb item n ≡ true) × (item ≡ n)) ⊎ ((eqb item n ≡ false) × (item ≢ n)) →
          count item (without n xs) ≡ 0
      none item within (inl same) =
          subst (λ m. count m (without n xs) ≡ 0) (sym same.1) (omega (arith, once n, count-without n xs))
      none item within (inr differ) = let ne = differ.1 in
          omega (arith, below item (omega arith), count-without_other n item xs differ.1)

pub All-without : (P : Ticket → Type 0) (item : ℕ) (xs : List Ticket) → All P xs → All P (without item xs)
All-without P item [] all = all
All-without P item (t ∷ ts) all = at (is_of item t) (All-without P item ts (All-tail P t ts all)) where
  at : (b : Bool) → All P (without item ts) → All P (cond b ts (t ∷ without item ts))
  at true rest = All-tail P t ts all
  at false rest = All-cons P t (without item ts) (All-head P t ts all) rest

pub Rises-without : (item : ℕ) (xs : List Ticket) → Rises xs → Rises (without item xs)
Rises-without item [] rises = rises
Rises-without item (t ∷ ts) rises = at (is_of item t) (Rises-without item ts rises.1) where
  at : (b : Bool) → Rises (without item ts) → Rises (cond b ts (t ∷ without item ts))
  at true rest = rises.1
  at false rest = (All-without (λ later. t.number < later.number) item ts rises.0, rest)

pub Rises-push : (xs : List Ticket) (t : Ticket) → Rises xs → All (λ x. x.number < t.number) xs → Rises (xs ++ t ∷ [])
Rises-push [] t rises above = (All-nil (λ (later : Ticket). t.number < later.number), tt)
Rises-push (x ∷ xs) t rises above = (
  All-push (λ (later : Ticket). x.number < later.number) xs t rises.0 (All-head (λ (x : Ticket). x.number < t.number) x xs above),
  Rises-push xs t rises.1 (All-tail (λ (x : Ticket). x.number < t.number) x xs above),
)

-- a search that finds nothing, and one that finds a place
place_past : (n place long : ℕ) → cond (ltb n long) (Some n) None ≡ None → long ≤ n
place_past n place long none = grind (arith, nat_tests)

place_within : (n place long : ℕ) → cond (ltb n long) (Some n) None ≡ Some place → (n ≡ place) × (place < long)
place_within n place long found = grind (arith, nat_tests)

remove_past : (n : ℕ) (xs : List Ticket) → length xs ≤ n → remove xs n ≡ xs
remove_past n xs past = grind (arith, common_steps)

pub place-none : (item : ℕ) (xs : List Ticket) → position (is_of item) xs ≡ None →
    (number_in item xs ≡ None) × (without item xs ≡ xs)
place-none item xs none =
    let n = position_or_len (is_of item) xs in
    let past = place_past n 0 (length xs) none in (
      ap (option_map (λ (t : Ticket). t.number)) (find_at (is_of item) xs ∙ slice_get_past xs n past),
      sym (remove-first item xs) ∙ remove_past n xs past,
    )

pub place-some : (item : ℕ) (xs : List Ticket) (place : ℕ) (t : Ticket) → position (is_of item) xs ≡ Some place →
    t ≡ get_or xs place t →
    (number_in item xs ≡ Some t.number) × (without item xs ≡ remove xs place)
place-some item xs place t found said =
    let n = position_or_len (is_of item) xs in
    let within = place_within n place (length xs) found in (
      ap (option_map (λ (t : Ticket). t.number)) (find_at (is_of item) xs ∙ ap (slice_get xs) within.0
          ∙ slice_get_read xs (length xs) place t refl within.1 said),
      sym (remove-first item xs) ∙ ap (remove xs) within.0,
    )

-- the first of a rising line is below all that stay when it is taken out
pub first_lowest : (line : List Ticket) → Rises line →
    IfSome (first line) (λ t. All (λ later. t.number < later.number) (without t.item line))
first_lowest [] rises = tt
first_lowest (t ∷ ts) rises =
    subst (λ b. All (λ (later : Ticket). t.number < later.number) (cond b ts (t ∷ without t.item ts)))
    (sym (eq-eqb t.item t.item refl)) rises.0

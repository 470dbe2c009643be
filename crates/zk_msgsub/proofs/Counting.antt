-- Notes of one publisher: how they grow, and how many there are of all.
use Rattle.std.proofs.Common.{◌≡◌, ◌≢◌, ℕ, zero, suc, ◌+◌, ◌*◌, ◌<◌, ◌≤◌, ◌==◌, Bool, true, false, true≢false, cond, All, List, [], ◌∷◌, ◌++◌, length, refl, sym, ap, ◌∙◌, eqb-true, arith}
use Rattle.std.proofs.Math.Nat.{suc-mul}
use Rattle.std.proofs.lemmas.Bool.{eq-eqb}
use Rattle.std.proofs.lemmas.List.{append-nil}
use Rattle.std.proofs.lemmas.List.Elements.{All-head, All-tail, filter-append}
use Rattle.zk_msgsub.specs.declared.note.Note.{Note}
use Rattle.zk_msgsub.specs.Notes.{Message, part, note_of, numbered, numbered_from}

-- a choice by whether two numbers are the same
pub cond-on : {A : Type 0} (q p : ℕ) (x y : A) → q ≡ p → cond (q == p) x y ≡ x
cond-on q p x y same = ap (λ (b : Bool). cond b x y) (eq-eqb q p same)

differ : (q p : ℕ) (b : Bool) → (q == p) ≡ b → q ≢ p → b ≡ false
differ q p true is not_same = absurd (not_same (eqb-true q p is))
differ q p false is not_same = refl

pub cond-off : {A : Type 0} (q p : ℕ) (x y : A) → q ≢ p → cond (q == p) x y ≡ y
cond-off q p x y not_same = ap (λ (b : Bool). cond b x y) (differ q p (q == p) refl not_same)

pub part-append : (p : ℕ) (xs ys : List Note) → part p (xs ++ ys) ≡ part p xs ++ part p ys
part-append p xs ys = filter-append (λ n. p == n.publisher) xs ys

-- one message more
pub numbered-push : (p k : ℕ) (ms : List Message) (m : Message) → numbered_from p k (ms ++ m ∷ [])
    ≡ numbered_from p k ms ++ note_of p (k + length ms) m ∷ []
numbered-push p k [] m = let here : k ≡ k + length {A = Message} [] = omega arith in ap (λ (n : ℕ). note_of p n m ∷ []) here
numbered-push p k (x ∷ ms) m =
    let later : suc k + length ms ≡ k + length (x ∷ ms) = omega arith in
    ap (λ l. note_of p k x ∷ l) (numbered-push p (suc k) ms m ∙ ap (λ (n : ℕ). numbered_from p (suc k) ms ++ note_of p n m ∷
    []) later)

pub numbered-next : (p : ℕ) (ms : List Message) (m : Message) → numbered p (ms ++ m ∷ []) ≡ numbered p ms ++ note_of p
    (length ms) m ∷ []
numbered-next p ms m =
    let here : 0 + length ms ≡ length ms = omega arith in
    numbered-push p 0 ms m ∙ ap (λ (n : ℕ). numbered p ms ++ note_of p n m ∷ []) here

pub length-numbered : (p k : ℕ) (ms : List Message) → length (numbered_from p k ms) ≡ length ms
length-numbered p k [] = refl
length-numbered p k (m ∷ ms) = ap suc (length-numbered p (suc k) ms)

-- the note of the next message stands behind the notes of the others
pub part-pushed : (q : ℕ) (x : Note) (notes : List Note) (ms others : List Message) → part q notes ≡ numbered q others →
    (q ≡ x.publisher → others ≡ ms) → x.number ≡ length ms →
    part q (notes ++ x ∷ []) ≡ numbered q (cond (q == x.publisher) (ms ++ x.message ∷ []) others)
part-pushed q x notes ms others so_far its_own number = part-append q notes (x ∷ []) ∙ case (q == x.publisher) refl where
  case : (b : Bool) → (q == x.publisher) ≡ b → part q notes ++ cond b (x ∷ []) [] ≡ numbered q
      (cond b (ms ++ x.message ∷ []) others)
  case true is =
      let same = eqb-true q x.publisher is in
      let next : x ∷ [] ≡ note_of q (length ms) x.message ∷ [] = λ i. record {
        publisher = sym same i;
        number = number i;
        message = x.message;
      } ∷ [] in
      ap (λ l. l ++ x ∷ []) (so_far ∙ ap (numbered q) (its_own same)) ∙ ap (λ l. numbered q ms ++ l) next
      ∙ sym (numbered-next q ms x.message)
  case false is = append-nil (part q notes) ∙ so_far

-- how many notes the first n publishers have
abbrev pub total : ℕ → List Note → ℕ
total zero xs = 0
total (suc n) xs = total n xs + length (part n xs)

pub total-one : (xs : List Note) → total 1 xs ≡ length (part 0 xs)
total-one xs = let unfolded : total 1 xs ≡ 0 + length (part 0 xs) = refl in omega arith

total-nil : (n : ℕ) → total n [] ≡ 0
total-nil zero = refl
total-nil (suc n) = let e = total-nil n in omega arith

length-part : (n : ℕ) (x : Note) (xs : List Note) (b : Bool) → length (cond b (x ∷ part n xs) (part n xs))
    ≡ length (part n xs) + cond b 1 0
length-part n x xs true = let e : length (x ∷ part n xs) ≡ suc (length (part n xs)) = refl in omega arith
length-part n x xs false = omega arith

total-past : (n : ℕ) (x : Note) (xs : List Note) → n ≤ x.publisher → total n (x ∷ xs) ≡ total n xs
total-past zero x xs le = refl
total-past (suc n) x xs le =
    let rest = total-past n x xs (omega arith) in
    let here : length (part n (x ∷ xs)) ≡ length (part n xs) + cond {A = ℕ} (n == x.publisher) 1 0 = length-part n x xs
    (n == x.publisher) in
    let none : cond {A = ℕ} (n == x.publisher) 1 0 ≡ 0 = cond-off n x.publisher 1 0 (λ same. omega arith) in
    omega (arith, rest, here, none)

total-step : (n : ℕ) (x : Note) (xs : List Note) → x.publisher < suc n → (x.publisher < n → total n (x ∷ xs) ≡ total n xs + 1) →
    (b : Bool) → (n == x.publisher) ≡ b → total n (x ∷ xs) + length (part n (x ∷ xs)) ≡ total n xs + length (part n xs) + 1
total-step n x xs lt later true is =
    let same = eqb-true n x.publisher is in
    let rest = total-past n x xs (omega arith) in
    let here : length (part n (x ∷ xs)) ≡ length (part n xs) + cond {A = ℕ} (n == x.publisher) 1 0 = length-part n x xs
    (n == x.publisher) in
    let one : cond {A = ℕ} (n == x.publisher) 1 0 ≡ 1 = cond-on n x.publisher 1 0 same in
    omega (arith, rest, here, one)
total-step n x xs lt later false is =
    let not_same : n ≢ x.publisher = λ same. true≢false (sym (eq-eqb n x.publisher same) ∙ is) in
    let rest = later (omega arith) in
    let here : length (part n (x ∷ xs)) ≡ length (part n xs) + cond {A = ℕ} (n == x.publisher) 1 0 = length-part n x xs
    (n == x.publisher) in
    let none : cond {A = ℕ} (n == x.publisher) 1 0 ≡ 0 = cond-off n x.publisher 1 0 not_same in
    omega (arith, rest, here, none)

total-within : (n : ℕ) (x : Note) (xs : List Note) → x.publisher < n → total n (x ∷ xs) ≡ total n xs + 1
total-within zero x xs lt = absurd (omega arith)
total-within (suc n) x xs lt = total-step n x xs lt (λ less. total-within n x xs less) (n == x.publisher) refl

-- where no other publisher has any, these are all
pub total-all : (n : ℕ) (xs : List Note) → All (λ x. x.publisher < n) xs → total n xs ≡ length xs
total-all n [] within = total-nil n
total-all n (x ∷ xs) within =
    let first = total-within n x xs (All-head (λ y. y.publisher < n) x xs within) in
    let rest = total-all n xs (All-tail (λ y. y.publisher < n) x xs within) in
    omega arith

module _ (e : ℕ) (xs : List Note) (few : (p : ℕ) → length (part p xs) ≤ e) where
  pub total-few : (n : ℕ) → total n xs ≤ n * e
  total-few zero = omega arith
  total-few (suc n) =
      let rest = total-few n in
      let here = few n in
      let product = suc-mul n e in
      omega arith

  -- where one of them has fewer
  fewer-step : (p n : ℕ) → length (part p xs) < e → p < suc n → (p < n → total n xs < n * e) → (b : Bool) → (p == n) ≡ b →
      total n xs + length (part n xs) < suc n * e
  fewer-step p n fewer lt later true is =
      let same = ap (λ (k : ℕ). length (part k xs)) (eqb-true p n is) in
      let rest = total-few n in
      let product = suc-mul n e in
      omega arith
  fewer-step p n fewer lt later false is =
      let not_same : p ≢ n = λ same. true≢false (sym (eq-eqb p n same) ∙ is) in
      let rest = later (omega arith) in
      let here = few n in
      let product = suc-mul n e in
      omega arith

  pub total-fewer : (p : ℕ) → length (part p xs) < e → (n : ℕ) → p < n → total n xs < n * e
  total-fewer p fewer zero lt = absurd (omega arith)
  total-fewer p fewer (suc n) lt = fewer-step p n fewer lt (λ less. total-fewer p fewer n less) (p == n) refl

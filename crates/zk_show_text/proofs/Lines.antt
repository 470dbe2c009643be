-- On texts that are fitted, trimmed and cut.
use Rattle.std.proofs.Common.{◌≡◌, ◌≢◌, ℕ, ◌+◌, ◌-◌, ◌==◌, ◌<◌, ◌≤◌, min, suc, nat_le, codes, Bool, true, false, cond, Option, Some, None, List, [], ◌∷◌, ◌++◌, length, take, drop, get_or, replicate, refl, sym, ◌∙◌, ap, subst, arith, length-append, length-drop}
use Rattle.std.proofs.lemmas.List.{append-nil, length-take, length-replicate, take-append-drop, take_more, take_all}
use Rattle.std.specs.List.{position}
use Rattle.std.proofs.lemmas.Bool.{leb-true, ne_eqb}
use Rattle.std.proofs.lemmas.List.Quantifiers.{position-Some}
use Rattle.std.proofs.Math.Seq.{drop-cons}
use Rattle.zk_show_chart.specs.Answers.{answer_in}
use Rattle.zk_show_text.specs.Line.{fitted, with_front, trimmed, line, shortened, cut, is_ink, room_before, room_in, put_over, laid}

-- what is longer is cut off
pub fitted_long : (size : ℕ) (text : List ℕ) → size ≤ length text → fitted size text ≡ take size text
fitted_long size text long =
    let none : size - length text ≡ 0 = omega arith in
    ap (λ n. take size text ++ replicate n 32) none ∙ append-nil (take size text)

-- behind what is shorter stand spaces
pub fitted_short : (size : ℕ) (text : List ℕ) → length text ≤ size → fitted size text ≡ text ++ replicate (size - length text) 32
fitted_short size text short = ap (λ t. t ++ replicate (size - length text) 32) (take_all size text short)

pub length-fitted : (size : ℕ) (text : List ℕ) → length (fitted size text) ≡ size
length-fitted size text =
    length-append (take size text) (replicate (size - length text) 32)
    ∙ omega (arith, length-take size text, length-replicate {A = ℕ} (size - length text) 32)

-- a space before spaces alone
spaces_front : (rest : List ℕ) → trimmed rest ≡ [] → trimmed (32 ∷ rest) ≡ []
spaces_front rest none = ap (with_front 32) none

with_more : (x : ℕ) (xs : List ℕ) (c : ℕ) → with_front x (xs ++ c ∷ []) ≡ x ∷ (xs ++ c ∷ [])
with_more x [] c = refl
with_more x (y ∷ ys) c = refl

-- what stands before spaces alone, with a character that is none at its end
trimmed_front : (xs : List ℕ) (c : ℕ) (rest : List ℕ) → (c == 32) ≡ false → trimmed rest ≡ [] → trimmed (xs ++ c ∷ rest) ≡ xs ++ c ∷ []
trimmed_front [] c rest ink none = ap (with_front c) none ∙ ap (λ b. cond b [] (c ∷ [])) ink
trimmed_front (x ∷ xs) c rest ink none = ap (with_front x) (trimmed_front xs c rest ink none) ∙ with_more x xs c

-- a text from its last character but one place on
drop_before : (text : List ℕ) (end : ℕ) → 0 < end → end ≤ length text → drop (end - 1) text ≡ get_or text (end - 1) 0 ∷ drop end text
drop_before text end some within =
    let next : suc (end - 1) ≡ end = omega arith in
    drop-cons text (end - 1) 0 (omega arith) ∙ ap (λ n. get_or text (end - 1) 0 ∷ drop n text) next

-- one space more behind which there are spaces alone
pub spaces_more : (text : List ℕ) (end : ℕ) → 0 < end → end ≤ length text → get_or text (end - 1) 0 ≡ 32 → trimmed (drop end text) ≡ [] → trimmed (drop (end - 1) text) ≡ []
spaces_more text end some within space none =
    ap trimmed (drop_before text end some within ∙ ap (λ c. c ∷ drop end text) space) ∙ spaces_front (drop end text) none

-- what stands before spaces alone is the text without those
pub trimmed_at : (text : List ℕ) (end : ℕ) → 0 < end → end ≤ length text → get_or text (end - 1) 0 ≢ 32 → trimmed (drop end text) ≡ [] → take end text ≡ trimmed text
trimmed_at text end some within ink none =
    let c = get_or text (end - 1) 0 in
    let next : (end - 1) + 1 ≡ end = omega arith in
    let front : take end text ≡ take (end - 1) text ++ c ∷ [] = ap (λ n. take n text) (sym next) ∙ take_more text (end - 1) 0 (omega arith) in
    let whole : take (end - 1) text ++ c ∷ drop end text ≡ text =
    ap (λ rest. take (end - 1) text ++ rest) (sym (drop_before text end some within)) ∙ take-append-drop (end - 1) text in
    front ∙ sym (trimmed_front (take (end - 1) text) c (drop end text) (ne_eqb c 32 ink) none) ∙ ap trimmed whole

-- what is cut is no longer than its room
length-shortened : (room : ℕ) (text answer : List ℕ) → length (shortened room text answer) ≤ room
length-shortened room text answer = by_test (nat_le (length answer + 2) room) refl
  where
    front : List ℕ
    front = take (room - (length answer + 2)) text

    dotted : List ℕ
    dotted = take (room - 2) text ++ codes ".."

    by_test : (b : Bool) → nat_le (length answer + 2) room ≡ b → length (cond b (front ++ codes ".." ++ answer) (take room dotted)) ≤ room
    by_test true is =
        let fits = leb-true (length answer + 2) room is in
        let few = length-take (room - (length answer + 2)) text in
        let all = length-append (front ++ codes "..") answer in
        let before = length-append front (codes "..") in
        let dots : length (codes "..") ≡ 2 = refl in
        let within : length (front ++ codes ".." ++ answer) ≤ room = omega arith in
        within
    by_test false is = let few = length-take room dotted in let within : length (take room dotted) ≤ room = omega arith in within

pub length-cut : (room : ℕ) (text : List ℕ) → length (cut room text) ≤ room
length-cut room text = by_test (nat_le (length text) room) refl
  where
    by_test : (b : Bool) → nat_le (length text) room ≡ b → length (cond b text (shortened room text (answer_in text))) ≤ room
    by_test true is = leb-true (length text) room is
    by_test false is = length-shortened room text (answer_in text)

-- no line has more characters than it had
pub length-put_over : (at : ℕ) (text old : List ℕ) → at + length text ≤ length old → length (put_over at text old) ≡ length old
length-put_over at text old within =
    let a = length-append (take at old ++ text) (drop (at + length text) old) in
    let b = length-append (take at old) text in
    let c = length-take at old in
    let d = length-drop (at + length text) old in
    omega arith

with_front-le : (c : ℕ) (more : List ℕ) → length (with_front c more) ≤ length more + 1
with_front-le c [] = by_test (c == 32)
  where
    by_test : (b : Bool) → length (cond b [] (c ∷ [])) ≤ 1
    by_test true = omega arith
    by_test false = omega arith
with_front-le c (d ∷ more) = omega arith

-- what is trimmed is no longer than before
length-trimmed : (text : List ℕ) → length (trimmed text) ≤ length text
length-trimmed [] = omega arith
length-trimmed (c ∷ more) =
    let rest = length-trimmed more in
    let front = with_front-le c (trimmed more) in
    omega arith

-- there is no more room than places
room_in-le : (text : List ℕ) → room_in text ≤ length text
room_in-le text = by_place (position is_ink text) refl
  where
    by_place : (place : Option ℕ) → position is_ink text ≡ place → room_before (length text) place ≤ length text
    by_place None is = omega arith
    by_place (Some place) is = let found = (position-Some is_ink text place 0 is).0 in omega arith

-- a line on which a text is laid is as long as before
pub length-laid : (at : ℕ) (text old : List ℕ) → at ≤ length old → length (laid at text old) ≡ length old
length-laid at text old within =
    let room = room_in-le (drop at old) in
    let few = length-cut (room_in (drop at old)) text in
    let left = length-drop at old in
    length-put_over at (cut (room_in (drop at old)) text) old (omega arith)

-- no line is longer than its text, but for the line feed
pub length-line : (text : List ℕ) → length (line text) ≤ length text + 1
length-line text =
    let few = length-trimmed text in
    let one = length-append (trimmed text) (10 ∷ []) in
    omega arith

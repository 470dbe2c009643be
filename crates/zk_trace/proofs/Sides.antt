-- A row is cut at its first sign, and what is made of both sides is read exactly.
use Rattle.std.proofs.Common.{◌≡◌, ℕ, ◌+◌, ◌-◌, ◌<◌, ◌≤◌, zero, suc, Bool, true, false, not, cond, eqb, ltb, Option, Some, None, List, [], ◌∷◌, ◌++◌, length, take, drop, refl, sym, ap, subst, inl, inr, ◌∙◌, arith}
use Rattle.std.specs.Prelude.{option_map, option_and_then, bytes_eq, codes}
use Rattle.std.specs.List.{position, position_or_len}
use Rattle.std.proofs.lemmas.Bool.{cases_Bool, cond-true, cond-false, eqb-true, ltb-true, ltb-false}
use Rattle.std.proofs.lemmas.List.{append_assoc, length-append, take-append-drop}
use Rattle.std.proofs.lemmas.List.Splits.{join_with_byte-slice_split}
use Rattle.std.proofs.lemmas.Option.{same_Some, cond_some, none-some, option_and_then_some}
use Rattle.std.proofs.lemmas.Slice.Eq.{bytes_eq-Decides}
use Rattle.std.proofs.Math.Seq.{take-append_seam, drop-append_seam}
use Rattle.zk_words.specs.Bytes.{space, line_feed}
use Rattle.zk_words.specs.Pieces.{words_of}
use Rattle.zk_words.specs.Text.{line_text}
use Rattle.zk_words.proofs.FirstPlace.{here, later}
use Rattle.zk_line.proofs.Options.{one_part}
use Rattle.zk_trace.specs.Exact.{equals, Lacks, IsUnfed, IsExactRow, AreExact}
use Rattle.zk_trace.specs.Sides.{sign, sides_row, longer, halves, before_space, behind_space, pair, kept, trimmed, sides_of, said_beside, said_by_sides}
use Rattle.zk_trace.proofs.PlainWords.{each_lacks, lacks-append, lacks-join, unfed-line}
use Rattle.zk_trace.proofs.Sayings.{words-row}

-- a byte that isn't before the cut
pub halves-again : (byte : ℕ) (front rest : List ℕ) → Lacks byte front → halves byte (front ++ byte ∷ rest) ≡ Some (front, rest)
halves-again byte [] rest lacks = cond-true (eqb byte byte) (Some ([], rest)) (option_map (longer byte) (halves byte rest)) (same byte) where
  same : (n : ℕ) → eqb n n ≡ true
  same n = grind arith
halves-again byte (b ∷ front) rest lacks =
    cond-false (eqb b byte) (Some ([], front ++ byte ∷ rest)) (option_map (longer b) (halves byte (front ++ byte ∷ rest))) lacks.0
    ∙ ap (option_map (longer b)) (halves-again byte front rest lacks.1)

longer_by : (byte b : ℕ) (bs front rest : List ℕ) → ((f r : List ℕ) → halves byte bs ≡ Some (f, r) → bs ≡ f ++ byte ∷ r)
    → option_map (longer b) (halves byte bs) ≡ Some (front, rest) → b ∷ bs ≡ front ++ byte ∷ rest
longer_by byte b bs front rest before given =
    let h = one_part (longer b) (halves byte bs) (front, rest) given in
    ap (λ x. b ∷ x) (before h.0.0 h.0.1 h.1) ∙ ap (λ p. p.0 ++ byte ∷ p.1) h.2

-- what is cut is put together again
pub halves-spelled : (byte : ℕ) (text front rest : List ℕ) → halves byte text ≡ Some (front, rest) → text ≡ front ++ byte ∷ rest
halves-spelled byte [] front rest said = absurd (none-some (front, rest) said)
halves-spelled byte (b ∷ bs) front rest said = elim (cases_Bool (eqb b byte)) [
  | inl same ↦ let is = same_Some ([], bs) (front, rest) (sym (cond-true (eqb b byte) (Some ([], bs)) (option_map (longer b) (halves byte bs)) same) ∙ said) in
      ap (λ x. x ∷ bs) (eqb-true b byte same) ∙ ap (λ p. p.0 ++ byte ∷ p.1) is
  | inr other ↦ longer_by byte b bs front rest (halves-spelled byte bs) (sym (cond-false (eqb b byte) (Some ([], bs)) (option_map (longer b) (halves byte bs)) other) ∙ said)
]

-- By places.

at_place : (byte : ℕ) (bs : List ℕ) (k : ℕ) → position_or_len (λ x. eqb x byte) bs ≡ k → k < length bs → halves byte bs ≡ Some (take k bs, drop (suc k) bs)
at_place byte [] k is within = absurd (omega arith)
at_place byte (b ∷ bs) zero is within = elim (cases_Bool (eqb b byte)) [
  | inl same ↦ cond-true (eqb b byte) (Some ([], bs)) (option_map (longer b) (halves byte bs)) same
  | inr other ↦ absurd (omega (arith, later byte b bs other))
]
at_place byte (b ∷ bs) (suc k) is within = elim (cases_Bool (eqb b byte)) [
  | inl same ↦ absurd (omega (arith, here byte b bs same))
  | inr other ↦ cond-false (eqb b byte) (Some ([], bs)) (option_map (longer b) (halves byte bs)) other
      ∙ ap (option_map (longer b)) (at_place byte bs k (omega (arith, later byte b bs other)) (omega arith))
]

nowhere : (byte : ℕ) (bs : List ℕ) → length bs ≤ position_or_len (λ x. eqb x byte) bs → halves byte bs ≡ None
nowhere byte [] is = refl
nowhere byte (b ∷ bs) is = elim (cases_Bool (eqb b byte)) [
  | inl same ↦ absurd (omega (arith, here byte b bs same))
  | inr other ↦ cond-false (eqb b byte) (Some ([], bs)) (option_map (longer b) (halves byte bs)) other
      ∙ ap (option_map (longer b)) (nowhere byte bs (omega (arith, later byte b bs other)))
]

-- where the byte is nowhere there is no cut
pub halves-nowhere : (byte : ℕ) (bs : List ℕ) → position (λ x. eqb x byte) bs ≡ None → halves byte bs ≡ None
halves-nowhere byte bs none = elim (cases_Bool (ltb (position_or_len (λ x. eqb x byte) bs) (length bs))) [
  | inl within ↦ absurd (none-some (position_or_len (λ x. eqb x byte) bs) (sym none ∙ cond-true (ltb (position_or_len (λ x. eqb x byte) bs) (length bs)) (Some (position_or_len (λ x. eqb x byte) bs)) None within))
  | inr past ↦ let beyond = ltb-false (position_or_len (λ x. eqb x byte) bs) (length bs) past in nowhere byte bs beyond
]

-- and else it is at the first place of the byte
pub halves-at : (byte : ℕ) (bs : List ℕ) (at : ℕ) → position (λ x. eqb x byte) bs ≡ Some at → halves byte bs ≡ Some (take at bs, drop (suc at) bs)
halves-at byte bs at found =
    let place = cond_some (ltb (position_or_len (λ x. eqb x byte) bs) (length bs)) (position_or_len (λ x. eqb x byte) bs) at found in
    let within = ltb-true (position_or_len (λ x. eqb x byte) bs) (length bs) place.0 in
    at_place byte bs at place.1 (omega arith)

-- By both sides.

-- a space at the end of a text
before-again : (front : List ℕ) → before_space (front ++ codes " ") ≡ Some front
before-again front =
    let long : length (front ++ codes " ") - 1 ≡ length front = omega (arith, length-append front (codes " ")) in
    let last : drop (length (front ++ codes " ") - 1) (front ++ codes " ") ≡ codes " " = ap (λ n. drop n (front ++ codes " ")) long ∙ drop-append_seam front (codes " ") in
    cond-true (bytes_eq (drop (length (front ++ codes " ") - 1) (front ++ codes " ")) (codes " ")) (Some (take (length (front ++ codes " ") - 1) (front ++ codes " "))) None
    ((bytes_eq-Decides (drop (length (front ++ codes " ") - 1) (front ++ codes " ")) (codes " ")).1 last)
    ∙ ap (λ n. Some (take n (front ++ codes " "))) long ∙ ap Some (take-append_seam front (codes " "))

before-spelled : (text front : List ℕ) → before_space text ≡ Some front → text ≡ front ++ codes " "
before-spelled text front said =
    let found = cond_some (bytes_eq (drop (length text - 1) text) (codes " ")) (take (length text - 1) text) front said in
    sym (take-append-drop (length text - 1) text)
    ∙ ap (λ l. take (length text - 1) text ++ l) ((bytes_eq-Decides (drop (length text - 1) text) (codes " ")).0 found.0)
    ∙ ap (λ l. l ++ codes " ") found.1

behind-spelled : (text rest : List ℕ) → behind_space text ≡ Some rest → text ≡ codes " " ++ rest
behind-spelled text rest said =
    let found = cond_some (bytes_eq (take 1 text) (codes " ")) (drop 1 text) rest said in
    sym (take-append-drop 1 text) ∙ ap (λ l. l ++ drop 1 text) ((bytes_eq-Decides (take 1 text) (codes " ")).0 found.0) ∙ ap (λ l. codes " " ++ l) found.1

-- a row with one sign
pub sides-again : (front rest : List ℕ) → Lacks equals front → sides_of (front ++ sign ++ rest) ≡ Some (front, rest)
sides-again front rest lacks =
    ap sides_of (append_assoc front sign rest ∙ sym (append_assoc front (codes " ") (equals ∷ space ∷ rest)))
    ∙ ap (option_and_then trimmed) (halves-again equals (front ++ codes " ") (space ∷ rest) (lacks-append equals front (codes " ") lacks (refl, tt)))
    ∙ ap (option_and_then (λ f. option_map (pair f) (behind_space (space ∷ rest)))) (before-again front)

pub sides-spelled : (row front rest : List ℕ) → sides_of row ≡ Some (front, rest) → row ≡ front ++ sign ++ rest
sides-spelled row front rest said = option_and_then_some trimmed (halves equals row) (front, rest) said
    (λ h cut trims. option_and_then_some (λ f. option_map (pair f) (behind_space h.1)) (before_space h.0) (front, rest) trims
    (λ f before more.
    let r = one_part (pair f) (behind_space h.1) (front, rest) more in
    halves-spelled equals row h.0 h.1 cut
    ∙ ap (λ l. l ++ equals ∷ h.1) (before-spelled h.0 f before)
    ∙ ap (λ l. (f ++ codes " ") ++ equals ∷ l) (behind-spelled h.1 r.0 r.1)
    ∙ ap (λ p. (p.0 ++ codes " ") ++ equals ∷ space ∷ p.1) r.2
    ∙ append_assoc front (codes " ") (equals ∷ space ∷ rest) ∙ sym (append_assoc front sign rest)))

-- what is made of both sides of a row is read exactly, where both sides are
module _ {A B C : Type 0} {words_of_front : A → List (List ℕ)} {FitsFront : A → Type 0} {front_of : List (List ℕ) → Option A}
    {text : B → List ℕ} {FitsAnswer : A → B → Type 0} {answer_of : A → List ℕ → Option B}
    (row : C → List ℕ) (Fits : C → Type 0) (make : A → B → C) where
  pub sides_exact : AreExact words_of_front FitsFront front_of → front_of [] ≡ None → ((a : A) → FitsFront a → IsExactRow text (FitsAnswer a) (answer_of a))
      → ((a : A) (b : B) → row (make a b) ≡ sides_row (words_of_front a) (text b))
      → ((a : A) (b : B) → FitsFront a → FitsAnswer a b → Fits (make a b))
      → ((c : C) → Fits c → (a : A) × (b : B) × (make a b ≡ c) × FitsFront a × FitsAnswer a b)
      → IsExactRow row Fits (said_by_sides make front_of answer_of)
  sides_exact front empty answer same fitting back = record { again = again; spelled = spelled; unfed = unfed } where
    words-again : (a : A) → FitsFront a → front_of (words_of (line_text (words_of_front a))) ≡ Some a
    words-again a fits =
        ap front_of (words-row (words_of_front a) (λ none. none-some a (sym empty ∙ ap front_of (sym none) ∙ front.again a fits)) (each_lacks space refl (words_of_front a) (front.plain a fits)))
        ∙ front.again a fits

    lacks-sign : (a : A) → FitsFront a → Lacks equals (line_text (words_of_front a))
    lacks-sign a fits = lacks-join equals space refl (words_of_front a) (each_lacks equals refl (words_of_front a) (front.plain a fits))

    made-again : (a : A) (b : B) → FitsFront a → FitsAnswer a b → said_by_sides make front_of answer_of (row (make a b)) ≡ Some (make a b)
    made-again a b fits answers =
        ap (said_by_sides make front_of answer_of) (same a b)
        ∙ ap (option_and_then (said_beside make front_of answer_of)) (sides-again (line_text (words_of_front a)) (text b) (lacks-sign a fits))
        ∙ ap (option_and_then (λ x. option_map (make x) (answer_of x (text b)))) (words-again a fits)
        ∙ ap (option_map (make a)) ((answer a fits).again b answers)

    again : (c : C) → Fits c → said_by_sides make front_of answer_of (row c) ≡ Some c
    again c fits =
        let s = back c fits in
        subst (λ x. said_by_sides make front_of answer_of (row x) ≡ Some x) s.2 (made-again s.0 s.1 s.3 s.4)

    spelled : (line : List ℕ) (c : C) → said_by_sides make front_of answer_of line ≡ Some c → (line ≡ row c) × Fits c
    spelled line c said = option_and_then_some (said_beside make front_of answer_of) (sides_of line) c said
        (λ sides cut more. option_and_then_some (λ a. option_map (make a) (answer_of a sides.1)) (front_of (words_of sides.0)) c more
        (λ a is most.
        let b = one_part (make a) (answer_of a sides.1) c most in
        let first = front.spelled (words_of sides.0) a is in
        let rest = (answer a first.1).spelled sides.1 b.0 b.1 in
        subst (λ x. (line ≡ row x) × Fits x) b.2 (
          sides-spelled line sides.0 sides.1 cut
              ∙ ap (λ l. l ++ sign ++ sides.1) (sym (join_with_byte-slice_split space sides.0) ∙ ap line_text first.0)
              ∙ ap (λ l. line_text (words_of_front a) ++ sign ++ l) rest.0
              ∙ sym (same a b.0),
          fitting a b.0 first.1 rest.1,
        )))

    made-unfed : (a : A) (b : B) → FitsFront a → FitsAnswer a b → IsUnfed (row (make a b))
    made-unfed a b fits answers =
        subst IsUnfed (sym (same a b))
        (lacks-append line_feed (line_text (words_of_front a) ++ sign) (text b)
        (lacks-append line_feed (line_text (words_of_front a)) sign (unfed-line (words_of_front a) (front.plain a fits)) (refl, (refl, (refl, tt))))
        ((answer a fits).unfed b answers))

    unfed : (c : C) → Fits c → IsUnfed (row c)
    unfed c fits = let s = back c fits in subst (λ x. IsUnfed (row x)) s.2 (made-unfed s.0 s.1 s.3 s.4)

-- what passes a test is read exactly
pub kept_exact : {A : Type 0} {text : A → List ℕ} {Fits : A → Type 0} {of : List ℕ → Option A} (test : A → Bool) → IsExactRow text Fits of
    → IsExactRow text (λ a. (test a ≡ true) × Fits a) (λ row. option_and_then (kept test) (of row))
kept_exact {A} {text} {Fits} {of} test exact = record { again = again; spelled = spelled; unfed = λ a fits. exact.unfed a fits.1 } where
  again : (a : A) → (test a ≡ true) × Fits a → option_and_then (kept test) (of (text a)) ≡ Some a
  again a fits = ap (option_and_then (kept test)) (exact.again a fits.1) ∙ cond-true (test a) (Some a) None fits.0

  spelled : (row : List ℕ) (a : A) → option_and_then (kept test) (of row) ≡ Some a → (row ≡ text a) × ((test a ≡ true) × Fits a)
  spelled row a said = option_and_then_some (kept test) (of row) a said
      (λ b is passes.
      let found = cond_some (test b) b a passes in
      let read = exact.spelled row b is in
      subst (λ x. (row ≡ text x) × ((test x ≡ true) × Fits x)) found.1 (read.0, (found.0, read.1)))

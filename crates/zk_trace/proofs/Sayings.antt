-- What is made of words that are read exactly is read exactly: operations by their verbs, and replies by those of a verb.
use Rattle.std.proofs.Common.{◌≡◌, ◌⊎◌, ℕ, Bool, true, ◌&&◌, not, eqb, Option, Some, None, is_none, List, [], ◌∷◌, map, refl, sym, ap, subst, inl, inr, ◌∙◌}
use Rattle.std.specs.Prelude.{option_map, option_and_then, bytes_eq}
use Rattle.std.specs.List.{AllByRecursion, list_all}
use Rattle.std.proofs.lemmas.Bool.{and_parts, false≢true}
use Rattle.std.proofs.lemmas.Option.{same_Some, none-some, option_and_then_some}
use Rattle.std.proofs.lemmas.List.Splits.{join_with_byte-slice_split}
use Rattle.std.proofs.lemmas.Slice.Eq.{bytes_eq-Decides}
use Rattle.zk_base.proofs.Lists.{find-passes}
use Rattle.zk_blocks.specs.Apart.{IsNone, all_apart}
use Rattle.zk_blocks.specs.Choices.{one_of, IsIn}
use Rattle.zk_blocks.proofs.Apart.{differ}
use Rattle.zk_blocks.proofs.Choices.{written, else_again, either}
use Rattle.zk_words.specs.Bytes.{space, line_feed}
use Rattle.zk_words.specs.Pieces.{words_of}
use Rattle.zk_line.proofs.Options.{one_part}
use Rattle.zk_words.specs.Text.{line_text}
use Rattle.zk_trace.specs.Exact.{IsPlain, Lacks, IsUnfed, IsExact, IsExactRow, AreExact, IsSpelled}
use Rattle.zk_trace.specs.Fields.{named, bare, one, two, three, behind, said_behind, said_by}
use Rattle.zk_trace.proofs.PlainWords.{lacks_is, each_lacks, pieces-join, unfed-line}
use Rattle.zk_trace.proofs.Fields.{behind-again, behind-spelled}

-- Of so many words. The first lemma of each pair reads what is made again, the second says what was read.

pub bare-says : {D : Type 0} (made : D) (P : List (List ℕ) → D → Type 0) → P [] made → (words : List (List ℕ)) (d : D) → bare made words ≡ Some d → P words d
bare-says made P holds [] d said = subst (P []) (same_Some made d said) holds
bare-says made P holds (word ∷ words) d said = absurd (none-some d said)

-- words that are read as this, and are words
abbrev pub AreRead : {D : Type 0} → (List (List ℕ) → Option D) → List (List ℕ) → D → Type 0
AreRead of words d = (of words ≡ Some d) × AllByRecursion IsPlain words

module _ {A D : Type 0} {text : A → List ℕ} {Fits : A → Type 0} {of : List ℕ → Option A} (exact : IsExact text Fits of) (make : A → D) where
  pub one-there : (a : A) → Fits a → AreRead (one make of) (text a ∷ []) (make a)
  one-there a fits = (ap (option_map make) (exact.again a fits), (exact.plain a fits, tt))

  pub one-says : (P : List (List ℕ) → D → Type 0) → ((a : A) → Fits a → P (text a ∷ []) (make a)) → (words : List (List ℕ)) (d : D) → one make of words ≡ Some d → P words d
  one-says P holds [] d said = absurd (none-some d said)
  one-says P holds (word ∷ []) d said =
      let a = one_part make (of word) d said in
      let found = exact.spelled word a.0 a.1 in
      subst (P (word ∷ [])) a.2 (subst (λ w. P (w ∷ []) (make a.0)) (sym found.0) (holds a.0 found.1))
  one-says P holds (word ∷ second ∷ words) d said = absurd (none-some d said)

module _ {A B D : Type 0} {text : A → List ℕ} {Fits : A → Type 0} {of : List ℕ → Option A} (exact : IsExact text Fits of)
    {text₂ : B → List ℕ} {Fits₂ : B → Type 0} {of₂ : List ℕ → Option B} (exact₂ : IsExact text₂ Fits₂ of₂) (make : A → B → D) where
  pub two-there : (a : A) (b : B) → Fits a → Fits₂ b → AreRead (two make of of₂) (text a ∷ text₂ b ∷ []) (make a b)
  two-there a b fits fits₂ = (
    ap (option_and_then (λ x. option_map (make x) (of₂ (text₂ b)))) (exact.again a fits) ∙ ap (option_map (make a)) (exact₂.again b fits₂),
    (exact.plain a fits, (exact₂.plain b fits₂, tt)),
  )

  pub two-says : (P : List (List ℕ) → D → Type 0) → ((a : A) (b : B) → Fits a → Fits₂ b → P (text a ∷ text₂ b ∷ []) (make a b))
      → (words : List (List ℕ)) (d : D) → two make of of₂ words ≡ Some d → P words d
  two-says P holds [] d said = absurd (none-some d said)
  two-says P holds (word ∷ []) d said = absurd (none-some d said)
  two-says P holds (word ∷ second ∷ []) d said = option_and_then_some (λ x. option_map (make x) (of₂ second)) (of word) d said
      (λ a is more.
      let b = one_part (make a) (of₂ second) d more in
      let found = exact.spelled word a is in
      let found₂ = exact₂.spelled second b.0 b.1 in
      subst (P (word ∷ second ∷ [])) b.2
      (subst (λ w. P (w ∷ second ∷ []) (make a b.0)) (sym found.0)
      (subst (λ w. P (text a ∷ w ∷ []) (make a b.0)) (sym found₂.0) (holds a b.0 found.1 found₂.1))))
  two-says P holds (word ∷ second ∷ third ∷ words) d said = absurd (none-some d said)

module _ {A B C D : Type 0} {text : A → List ℕ} {Fits : A → Type 0} {of : List ℕ → Option A} (exact : IsExact text Fits of)
    {text₂ : B → List ℕ} {Fits₂ : B → Type 0} {of₂ : List ℕ → Option B} (exact₂ : IsExact text₂ Fits₂ of₂)
    {text₃ : C → List ℕ} {Fits₃ : C → Type 0} {of₃ : List ℕ → Option C} (exact₃ : IsExact text₃ Fits₃ of₃) (make : A → B → C → D) where
  pub three-there : (a : A) (b : B) (c : C) → Fits a → Fits₂ b → Fits₃ c
      → AreRead (three make of of₂ of₃) (text a ∷ text₂ b ∷ text₃ c ∷ []) (make a b c)
  three-there a b c fits fits₂ fits₃ = (
    ap (option_and_then (λ x. option_and_then (λ y. option_map (make x y) (of₃ (text₃ c))) (of₂ (text₂ b)))) (exact.again a fits)
        ∙ ap (option_and_then (λ y. option_map (make a y) (of₃ (text₃ c)))) (exact₂.again b fits₂)
        ∙ ap (option_map (make a b)) (exact₃.again c fits₃),
    (exact.plain a fits, (exact₂.plain b fits₂, (exact₃.plain c fits₃, tt))),
  )

  pub three-says : (P : List (List ℕ) → D → Type 0) → ((a : A) (b : B) (c : C) → Fits a → Fits₂ b → Fits₃ c → P (text a ∷ text₂ b ∷ text₃ c ∷ []) (make a b c))
      → (words : List (List ℕ)) (d : D) → three make of of₂ of₃ words ≡ Some d → P words d
  three-says P holds [] d said = absurd (none-some d said)
  three-says P holds (word ∷ []) d said = absurd (none-some d said)
  three-says P holds (word ∷ second ∷ []) d said = absurd (none-some d said)
  three-says P holds (word ∷ second ∷ third ∷ []) d said = option_and_then_some (λ x. option_and_then (λ y. option_map (make x y) (of₃ third)) (of₂ second)) (of word) d said
      (λ a is more. option_and_then_some (λ y. option_map (make a y) (of₃ third)) (of₂ second) d more
      (λ b is₂ most.
      let c = one_part (make a b) (of₃ third) d most in
      let found = exact.spelled word a is in
      let found₂ = exact₂.spelled second b is₂ in
      let found₃ = exact₃.spelled third c.0 c.1 in
      subst (P (word ∷ second ∷ third ∷ [])) c.2
      (subst (λ w. P (w ∷ second ∷ third ∷ []) (make a b c.0)) (sym found.0)
      (subst (λ w. P (text a ∷ w ∷ third ∷ []) (make a b c.0)) (sym found₂.0)
      (subst (λ w. P (text a ∷ text₂ b ∷ w ∷ []) (make a b c.0)) (sym found₃.0) (holds a b c.0 found.1 found₂.1 found₃.1))))))
  three-says P holds (word ∷ second ∷ third ∷ fourth ∷ words) d said = absurd (none-some d said)

-- Behind a word that is the same in each line.

module _ {D : Type 0} (first : List ℕ) (of : List (List ℕ) → Option D) where
  pub behind-there : IsPlain first → (words : List (List ℕ)) (d : D) → AreRead of words d → AreRead (said_behind first of) (first ∷ words) d
  behind-there plain words d there = (ap (option_and_then of) (behind-again first words) ∙ there.0, (plain, there.1))

  pub behind-says : (P : List (List ℕ) → D → Type 0) → ((words : List (List ℕ)) (d : D) → of words ≡ Some d → P (first ∷ words) d)
      → (words : List (List ℕ)) (d : D) → said_behind first of words ≡ Some d → P words d
  behind-says P holds words d said = option_and_then_some of (behind first words) d said
      (λ rest is more. subst (λ ws. P ws d) (sym (behind-spelled first words rest is)) (holds rest d more))

-- In a row.

-- the words of a row that isn't empty
pub words-row : (words : List (List ℕ)) → (words ≡ [] → ⊥) → AllByRecursion (Lacks space) words → words_of (line_text words) ≡ words
words-row [] some lacks = absurd (some refl)
words-row (word ∷ words) some lacks = pieces-join space word words lacks

module _ {R : Type 0} (words : R → List (List ℕ)) (Fits : R → Type 0) (of : List (List ℕ) → Option R) (empty : of [] ≡ None) where
  -- what some words say, as a row
  pub row_exact : ((r : R) → Fits r → of (words r) ≡ Some r) → ((ws : List (List ℕ)) (r : R) → of ws ≡ Some r → (ws ≡ words r) × Fits r)
      → ((r : R) → Fits r → AllByRecursion (Lacks space) (words r)) → ((r : R) → Fits r → IsUnfed (line_text (words r)))
      → IsExactRow (λ r. line_text (words r)) Fits (λ row. of (words_of row))
  row_exact again spelled spaceless unfed = record {
    again = λ r fits. ap of (words-row (words r) (λ none. none-some r (sym empty ∙ ap of (sym none) ∙ again r fits)) (spaceless r fits)) ∙ again r fits;
    spelled = λ row r said.
        let found = spelled (words_of row) r said in
        (sym (join_with_byte-slice_split space row) ∙ ap line_text found.0, found.1);
    unfed = unfed;
  }

  -- what some words say that can stand in an operation too
  pub plain_row_exact : ((r : R) → Fits r → AreRead of (words r) r) → ((ws : List (List ℕ)) (r : R) → of ws ≡ Some r → (ws ≡ words r) × Fits r)
      → IsExactRow (λ r. line_text (words r)) Fits (λ row. of (words_of row))
  plain_row_exact there spelled =
      row_exact (λ r fits. (there r fits).0) spelled (λ r fits. each_lacks space refl (words r) (there r fits).1) (λ r fits. unfed-line (words r) (there r fits).1)

-- what is made of one word behind another that is the same in each line, as a row
pub one_behind : {A R : Type 0} {text : A → List ℕ} {Fits : A → Type 0} {of : List ℕ → Option A} (first : List ℕ) (words : R → List (List ℕ)) (FitsMade : R → Type 0) (make : A → R)
    → IsPlain first → ((a : A) → words (make a) ≡ first ∷ text a ∷ []) → ((a : A) → Fits a → FitsMade (make a)) → ((r : R) → FitsMade r → (a : A) × (make a ≡ r) × Fits a)
    → IsExact text Fits of → IsExactRow (λ r. line_text (words r)) FitsMade (λ row. said_behind first (one make of) (words_of row))
one_behind {A} {R} {text} {Fits} {of} first words FitsMade make plain same fitting back exact = plain_row_exact words FitsMade (said_behind first (one make of)) refl there says where
  there : (r : R) → FitsMade r → AreRead (said_behind first (one make of)) (words r) r
  there r fits =
      let a = back r fits in
      subst (λ x. AreRead (said_behind first (one make of)) (words x) x) a.1
      (subst (λ ws. AreRead (said_behind first (one make of)) ws (make a.0)) (sym (same a.0))
      (behind-there first (one make of) plain (text a.0 ∷ []) (make a.0) (one-there exact make a.0 a.2)))

  says : (ws : List (List ℕ)) (r : R) → said_behind first (one make of) ws ≡ Some r → (ws ≡ words r) × FitsMade r
  says =
      behind-says first (one make of) (λ ws r. (ws ≡ words r) × FitsMade r)
      (one-says exact make (λ ws r. (first ∷ ws ≡ words r) × FitsMade r) (λ a fits. (sym (same a), fitting a fits)))

-- Operations.

-- the words behind a verb say an operation of that verb, and fit
abbrev pub SaysOp : {V O : Type 0} → (O → V) → (O → List (List ℕ)) → (O → Type 0) → V → List (List ℕ) → O → Type 0
SaysOp verb_of args Fits verb words op = (verb_of op ≡ verb) × (words ≡ args op) × Fits op

module _ {V O : Type 0} (verb_word : V → List ℕ) (all : List V) (verb_of : O → V) (args : O → List (List ℕ)) (Fits : O → Type 0) (op_behind : V → List (List ℕ) → Option O) where
  -- operations are read exactly, where the words behind each verb are
  pub ops_exact : ((v : V) → (named verb_word all (verb_word v) ≡ Some v) × IsPlain (verb_word v))
      → ((op : O) → Fits op → AreRead (op_behind (verb_of op)) (args op) op)
      → ((v : V) (words : List (List ℕ)) (op : O) → op_behind v words ≡ Some op → SaysOp verb_of args Fits v words op)
      → AreExact (λ op. verb_word (verb_of op) ∷ args op) Fits (said_by verb_word all op_behind)
  ops_exact verbs there says = record {
    again = λ op fits. ap (option_and_then (λ v. op_behind v (args op))) (verbs (verb_of op)).0 ∙ (there op fits).0;
    spelled = spelled;
    plain = λ op fits. ((verbs (verb_of op)).1, (there op fits).1);
  } where
    spelled : (words : List (List ℕ)) (op : O) → said_by verb_word all op_behind words ≡ Some op → (words ≡ verb_word (verb_of op) ∷ args op) × Fits op
    spelled [] op said = absurd (none-some op said)
    spelled (word ∷ words) op said = option_and_then_some (λ v. op_behind v words) (named verb_word all word) op said
        (λ v found more.
        let is = (bytes_eq-Decides word (verb_word v)).0 (find-passes (λ x. bytes_eq word (verb_word x)) all v found) in
        let told = says v words op more in
        (ap (λ w. w ∷ words) (is ∙ ap verb_word (sym told.0)) ∙ ap (λ ws. verb_word (verb_of op) ∷ ws) told.1, told.2))

-- Replies.

-- the replies that are the same in each line are written otherwise, each without a line feed
abbrev pub is_table : {R : Type 0} → (R → List ℕ) → List R → Bool
is_table text rs = all_apart bytes_eq (map text rs) && list_all (λ r. list_all (λ b. not (eqb b line_feed)) (text r)) rs

unfed-in : {R : Type 0} (text : R → List ℕ) (rs : List R) (r : R) → list_all (λ r. list_all (λ b. not (eqb b line_feed)) (text r)) rs ≡ true → IsIn r rs → IsUnfed (text r)
unfed-in text [] r unfed found = absurd found
unfed-in text (x ∷ rs) r unfed (inl is) =
    let parts = and_parts (list_all (λ b. not (eqb b line_feed)) (text x)) (list_all (λ r. list_all (λ b. not (eqb b line_feed)) (text r)) rs) unfed in
    subst (λ y. IsUnfed (text y)) (sym is) (lacks_is line_feed (text x) parts.0)
unfed-in text (x ∷ rs) r unfed (inr more) =
    let parts = and_parts (list_all (λ b. not (eqb b line_feed)) (text x)) (list_all (λ r. list_all (λ b. not (eqb b line_feed)) (text r)) rs) unfed in
    unfed-in text rs r parts.1 more

-- replies that are the same in each line, and others that are read exactly and are written as none of those, are read exactly
pub replies_exact : {R : Type 0} (text : R → List ℕ) (FitsOpen : R → Type 0) (open_of : List ℕ → Option R) (fixed : List R)
    → is_table text fixed ≡ true → IsExactRow text FitsOpen open_of → ((r : R) → FitsOpen r → IsNone (text r) (map text fixed))
    → IsExactRow text (λ r. IsIn r fixed ⊎ FitsOpen r) (one_of bytes_eq text open_of fixed)
replies_exact {R} text FitsOpen open_of fixed table exact other = record { again = again; spelled = spelled; unfed = unfed } where
  tabled : (all_apart bytes_eq (map text fixed) ≡ true) × (list_all (λ r. list_all (λ b. not (eqb b line_feed)) (text r)) fixed ≡ true)
  tabled = and_parts (all_apart bytes_eq (map text fixed)) (list_all (λ r. list_all (λ b. not (eqb b line_feed)) (text r)) fixed) table

  again : (r : R) → IsIn r fixed ⊎ FitsOpen r → one_of bytes_eq text open_of fixed (text r) ≡ Some r
  again r (inl found) =
      written {FitsElse = FitsOpen} bytes_eq-Decides (record { again = exact.again; spelled = exact.spelled }) fixed
      (differ bytes_eq-Decides (map text fixed) tabled.0) r found
  again r (inr fits) = else_again {FitsElse = FitsOpen} bytes_eq-Decides (record { again = exact.again; spelled = exact.spelled }) fixed r fits (other r fits)

  spelled : (row : List ℕ) (r : R) → one_of bytes_eq text open_of fixed row ≡ Some r → (row ≡ text r) × (IsIn r fixed ⊎ FitsOpen r)
  spelled row r said = either {FitsElse = FitsOpen} bytes_eq-Decides (record { again = exact.again; spelled = exact.spelled }) fixed row r said

  unfed : (r : R) → IsIn r fixed ⊎ FitsOpen r → IsUnfed (text r)
  unfed r (inl found) = unfed-in text fixed r tabled.1 found
  unfed r (inr fits) = exact.unfed r fits

-- what is read is written as none of those that are read as nothing else
module _ {W R : Type 0} (text : R → W) (else_of : W → Option R) where
  pub unread-none : (rs : List R) (w : W) (x : R) → else_of w ≡ Some x → list_all (λ r. is_none (else_of (text r))) rs ≡ true → IsNone w (map text rs)
  unread-none [] w x is none = tt
  unread-none (r ∷ rs) w x is none =
      let parts = and_parts (is_none (else_of (text r))) (list_all (λ r. is_none (else_of (text r))) rs) none in
      (λ same. said (else_of (text r)) parts.0 (sym (ap else_of same) ∙ is), unread-none rs w x is parts.1) where
        said : (o : Option R) → is_none o ≡ true → o ≡ Some x → ⊥
        said None none is = absurd (none-some x is)
        said (Some y) none is = absurd (false≢true none)

-- the others are written as none of those, where those are read as none of the others
pub apart_by_reading : {R : Type 0} (text : R → List ℕ) (FitsOpen : R → Type 0) (open_of : List ℕ → Option R) (fixed : List R)
    → IsExactRow text FitsOpen open_of → list_all (λ r. is_none (open_of (text r))) fixed ≡ true → (r : R) → FitsOpen r → IsNone (text r) (map text fixed)
apart_by_reading text FitsOpen open_of fixed exact unread r fits = unread-none text open_of fixed (text r) r (exact.again r fits) unread

-- A service.

-- the operations and the replies of a service are read exactly, where those of each verb are
pub service_spelled : {V O R : Type 0} (verb_word : V → List ℕ) (all : List V) (verb_of : O → V) (args : O → List (List ℕ)) (FitsOp : O → Type 0) (op_behind : V → List (List ℕ) → Option O)
    (reply_words : R → List (List ℕ)) (fixed : V → List R) (FitsOpen : V → R → Type 0) (open_of : V → List ℕ → Option R)
    → ((v : V) → (named verb_word all (verb_word v) ≡ Some v) × IsPlain (verb_word v))
    → ((op : O) → FitsOp op → AreRead (op_behind (verb_of op)) (args op) op)
    → ((v : V) (words : List (List ℕ)) (op : O) → op_behind v words ≡ Some op → SaysOp verb_of args FitsOp v words op)
    → ((v : V) → is_table (λ r. line_text (reply_words r)) (fixed v) ≡ true)
    → ((v : V) → IsExactRow (λ r. line_text (reply_words r)) (FitsOpen v) (open_of v))
    → ((v : V) (r : R) → FitsOpen v r → IsNone (line_text (reply_words r)) (map (λ r. line_text (reply_words r)) (fixed v)))
    → IsSpelled (λ op. verb_word (verb_of op) ∷ args op) reply_words FitsOp (λ op r. IsIn r (fixed (verb_of op)) ⊎ FitsOpen (verb_of op) r)
    (said_by verb_word all op_behind) (λ op row. one_of bytes_eq (λ r. line_text (reply_words r)) (open_of (verb_of op)) (fixed (verb_of op)) row)
service_spelled {V} {O} {R} verb_word all verb_of args FitsOp op_behind reply_words fixed FitsOpen open_of verbs there says table exact other = record {
  op_again = ops.again;
  op_spelled = ops.spelled;
  op_plain = ops.plain;
  reply_again = λ op. (replies (verb_of op)).again;
  reply_spelled = λ op. (replies (verb_of op)).spelled;
  reply_unfed = λ op. (replies (verb_of op)).unfed;
} where
  ops : AreExact (λ op. verb_word (verb_of op) ∷ args op) FitsOp (said_by verb_word all op_behind)
  ops = ops_exact verb_word all verb_of args FitsOp op_behind verbs there says

  replies : (v : V) → IsExactRow (λ r. line_text (reply_words r)) (λ r. IsIn r (fixed v) ⊎ FitsOpen v r) (one_of bytes_eq (λ r. line_text (reply_words r)) (open_of v) (fixed v))
  replies v = replies_exact (λ r. line_text (reply_words r)) (FitsOpen v) (open_of v) (fixed v) (table v) (exact v) (other v)

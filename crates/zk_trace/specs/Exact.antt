use Rattle.std.specs.Prelude.{◌≡◌, ℕ, ◌==◌, Bool, true, false, not, ◌&&◌, Option, Some, List, [], ◌∷◌}
use Rattle.std.specs.List.{AllByRecursion, list_all}
use Rattle.zk_words.specs.Bytes.{space, line_feed, colon}
use Rattle.zk_words.specs.Text.{line_text}

-- the byte of the sign between an operation and its reply
abbrev pub equals : ℕ
equals = 61

-- whether a byte may stand in a word: it is no space, no line feed, no equals sign and no colon
abbrev pub is_plain : ℕ → Bool
is_plain b = not (b == space) && not (b == line_feed) && not (b == equals) && not (b == colon)

-- a word: one byte or more, each of which may stand in it
abbrev pub IsPlain : List ℕ → Type 0
IsPlain [] = ⊥
IsPlain (b ∷ bs) = list_all is_plain (b ∷ bs) ≡ true

-- this byte isn't in it
abbrev pub Lacks : ℕ → List ℕ → Type 0
Lacks byte text = AllByRecursion (λ b. (b == byte) ≡ false) text

-- no line feed is in it
abbrev pub IsUnfed : List ℕ → Type 0
IsUnfed text = Lacks line_feed text

-- a word is read exactly: what fits is read again from its word, and what is read has that word, and fits
pub record IsExact {A : Type 0} (text : A → List ℕ) (Fits : A → Type 0) (of : List ℕ → Option A) : Type 0 where
  pub again : (a : A) → Fits a → of (text a) ≡ Some a
  pub spelled : (word : List ℕ) (a : A) → of word ≡ Some a → (word ≡ text a) × Fits a
  pub plain : (a : A) → Fits a → IsPlain (text a)

-- the same of words with spaces between them, which stand on one line
pub record IsExactRow {A : Type 0} (text : A → List ℕ) (Fits : A → Type 0) (of : List ℕ → Option A) : Type 0 where
  pub again : (a : A) → Fits a → of (text a) ≡ Some a
  pub spelled : (row : List ℕ) (a : A) → of row ≡ Some a → (row ≡ text a) × Fits a
  pub unfed : (a : A) → Fits a → IsUnfed (text a)

-- the same of the words of an operation
pub record AreExact {A : Type 0} (words_of : A → List (List ℕ)) (Fits : A → Type 0) (of : List (List ℕ) → Option A) : Type 0 where
  pub again : (a : A) → Fits a → of (words_of a) ≡ Some a
  pub spelled : (words : List (List ℕ)) (a : A) → of words ≡ Some a → (words ≡ words_of a) × Fits a
  pub plain : (a : A) → Fits a → AllByRecursion IsPlain (words_of a)

-- the operations and the replies of a service are read exactly; which replies are read goes by the operation
pub record IsSpelled {O R : Type 0} (op_words : O → List (List ℕ)) (reply_words : R → List (List ℕ)) (FitsOp : O → Type 0)
    (Answers : O → R → Type 0) (op_of : List (List ℕ) → Option O) (reply_of : O → List ℕ → Option R) : Type 0 where
  pub op_again : (op : O) → FitsOp op → op_of (op_words op) ≡ Some op
  pub op_spelled : (words : List (List ℕ)) (op : O) → op_of words ≡ Some op → (words ≡ op_words op) × FitsOp op
  pub op_plain : (op : O) → FitsOp op → AllByRecursion IsPlain (op_words op)
  pub reply_again : (op : O) (r : R) → Answers op r → reply_of op (line_text (reply_words r)) ≡ Some r
  pub reply_spelled : (op : O) (row : List ℕ) (r : R) → reply_of op row ≡ Some r →
      (row ≡ line_text (reply_words r)) × Answers op r
  pub reply_unfed : (op : O) (r : R) → Answers op r → IsUnfed (line_text (reply_words r))

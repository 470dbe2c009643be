-- Which bytes stand in words, and how words that are joined are told apart again.
use Rattle.std.proofs.Common.{◌≡◌, ℕ, ◌<◌, Bool, true, false, ◌&&◌, not, eqb, ltb, List, [], ◌∷◌, ◌++◌, length, refl, sym, ap, ◌∙◌, arith}
use Rattle.std.specs.Char.{is_ascii_digit}
use Rattle.std.specs.List.{AllByRecursion, list_all, join_with_byte}
use Rattle.std.proofs.lemmas.Bool.{and_parts, and_from, ne_eqb, not-true, false≢true}
use Rattle.std.proofs.lemmas.List.Elements.{All-from_recursion}
use Rattle.std.proofs.lemmas.List.Splits.{slice_split_at, slice_split_none}
use Rattle.zk_base.specs.Limits.{longest_name}
use Rattle.zk_base.specs.Names.{is_name, is_spelled, is_reserved, is_lower, is_name_byte}
use Rattle.zk_words.specs.Bytes.{space, line_feed, colon}
use Rattle.zk_words.specs.Pieces.{pieces_between, words_of}
use Rattle.zk_words.specs.Text.{line_text}
use Rattle.zk_trace.specs.Exact.{equals, is_plain, IsPlain, Lacks, IsUnfed}

-- what passes a test is no byte that fails it
other : (test : ℕ → Bool) (c b : ℕ) → test c ≡ false → test b ≡ true → not (eqb b c) ≡ true
other test c b fails passes = ap not (ne_eqb b c (λ same. false≢true (sym fails ∙ sym (ap test same) ∙ passes)))

-- a test that fails where no word goes on
pub record IsOfWords (test : ℕ → Bool) : Type 0 where
  pub space : test space ≡ false
  pub line_feed : test line_feed ≡ false
  pub equals : test equals ≡ false
  pub colon : test colon ≡ false

passing : (test : ℕ → Bool) → IsOfWords test → (b : ℕ) → test b ≡ true → is_plain b ≡ true
passing test fails b passes =
    and_from (not (eqb b space) && not (eqb b line_feed) && not (eqb b equals)) (not (eqb b colon))
    (and_from (not (eqb b space) && not (eqb b line_feed)) (not (eqb b equals))
    (and_from (not (eqb b space)) (not (eqb b line_feed)) (other test space b fails.space passes) (other test line_feed b fails.line_feed passes))
    (other test equals b fails.equals passes)) (other test colon b fails.colon passes)

all_passing : (test : ℕ → Bool) → IsOfWords test → (word : List ℕ) → list_all test word ≡ true → list_all is_plain word ≡ true
all_passing test fails [] all = refl
all_passing test fails (b ∷ bs) all =
    let parts = and_parts (test b) (list_all test bs) all in
    and_from (is_plain b) (list_all is_plain bs) (passing test fails b parts.0) (all_passing test fails bs parts.1)

-- a word all of whose bytes pass such a test
pub plain_by : (test : ℕ → Bool) → IsOfWords test → (word : List ℕ) → 0 < length word → list_all test word ≡ true → IsPlain word
plain_by test fails [] some all = absurd (omega arith)
plain_by test fails (b ∷ bs) some all = all_passing test fails (b ∷ bs) all

pub digits_of_words : IsOfWords is_ascii_digit
digits_of_words = record { space = refl; line_feed = refl; equals = refl; colon = refl }

-- a name is a word
pub plain-name : (name : List ℕ) → is_name name ≡ true → IsPlain name
plain-name [] named = absurd (false≢true named)
plain-name (b ∷ bs) named =
    let spelled = and_parts (is_spelled (b ∷ bs)) (not (is_reserved (b ∷ bs))) named in
    let parts = and_parts (is_lower b && ltb (length bs) longest_name) (list_all is_name_byte bs) spelled.0 in
    let first = and_parts (is_lower b) (ltb (length bs) longest_name) parts.0 in
    let lower : IsOfWords is_lower = record { space = refl; line_feed = refl; equals = refl; colon = refl } in
    let bytes : IsOfWords is_name_byte = record { space = refl; line_feed = refl; equals = refl; colon = refl } in
    and_from (is_plain b) (list_all is_plain bs) (passing is_lower lower b first.0) (all_passing is_name_byte bytes bs parts.1)

-- a byte that no word has isn't in one
lacks_all : (c : ℕ) → is_plain c ≡ false → (word : List ℕ) → list_all is_plain word ≡ true → Lacks c word
lacks_all c fails [] all = tt
lacks_all c fails (b ∷ bs) all =
    let parts = and_parts (is_plain b) (list_all is_plain bs) all in
    (not-true (eqb b c) (other is_plain c b fails parts.0), lacks_all c fails bs parts.1)

pub lacks_plain : (c : ℕ) → is_plain c ≡ false → (word : List ℕ) → IsPlain word → Lacks c word
lacks_plain c fails [] plain = tt
lacks_plain c fails (b ∷ bs) plain = lacks_all c fails (b ∷ bs) plain

pub each_lacks : (c : ℕ) → is_plain c ≡ false → (words : List (List ℕ)) → AllByRecursion IsPlain words → AllByRecursion (Lacks c) words
each_lacks c fails [] plain = tt
each_lacks c fails (word ∷ words) plain = (lacks_plain c fails word plain.0, each_lacks c fails words plain.1)

-- a byte isn't in a text, where that is computed
pub lacks_is : (c : ℕ) (text : List ℕ) → list_all (λ b. not (eqb b c)) text ≡ true → Lacks c text
lacks_is c [] is = tt
lacks_is c (b ∷ bs) is = let parts = and_parts (not (eqb b c)) (list_all (λ b. not (eqb b c)) bs) is in (not-true (eqb b c) parts.0, lacks_is c bs parts.1)

pub lacks-append : (c : ℕ) (xs ys : List ℕ) → Lacks c xs → Lacks c ys → Lacks c (xs ++ ys)
lacks-append c [] ys first second = second
lacks-append c (x ∷ xs) ys first second = (first.0, lacks-append c xs ys first.1 second)

-- nor in texts that are joined by another
pub lacks-join : (c d : ℕ) → eqb d c ≡ false → (words : List (List ℕ)) → AllByRecursion (Lacks c) words → Lacks c (join_with_byte d words)
lacks-join c d differ [] each = tt
lacks-join c d differ (word ∷ []) each = each.0
lacks-join c d differ (word ∷ next ∷ words) each =
    lacks-append c word (d ∷ join_with_byte d (next ∷ words)) each.0 (differ, lacks-join c d differ (next ∷ words) each.1)

-- what is joined by a byte that isn't in it is told apart again
pub pieces-join : (c : ℕ) (word : List ℕ) (words : List (List ℕ)) → AllByRecursion (Lacks c) (word ∷ words) → pieces_between c (join_with_byte c (word ∷ words)) ≡ word ∷ words
pieces-join c word [] each = slice_split_none (λ b. eqb b c) word (All-from_recursion (λ b. eqb b c ≡ false) word each.0)
pieces-join c word (next ∷ words) each =
    slice_split_at (λ b. eqb b c) word c (join_with_byte c (next ∷ words)) (All-from_recursion (λ b. eqb b c ≡ false) word each.0) (same c)
    ∙ ap (λ (ws : List (List ℕ)). word ∷ ws) (pieces-join c next words each.1) where
      same : (n : ℕ) → eqb n n ≡ true
      same n = grind arith

-- the words of a line
pub words-line : (word : List ℕ) (words : List (List ℕ)) → AllByRecursion IsPlain (word ∷ words) → words_of (line_text (word ∷ words)) ≡ word ∷ words
words-line word words plain = pieces-join space word words (each_lacks space refl (word ∷ words) plain)

-- a line has no line feed
pub unfed-line : (words : List (List ℕ)) → AllByRecursion IsPlain words → IsUnfed (line_text words)
unfed-line words plain = lacks-join line_feed space refl words (each_lacks line_feed refl words plain)

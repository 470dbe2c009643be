-- The heads of sections are read exactly, in each format.
use Rattle.std.proofs.Common.{◌≡◌, ◌⊎◌, ℕ, ◌^◌, ◌<◌, Bool, true, false, ◌&&◌, eqb, cond, Option, Some, None, List, [], ◌∷◌, ◌++◌, codes, decimal, length, refl, sym, ap, subst, inl, inr, ◌∙◌, arith}
use Rattle.std.specs.Prelude.{option_map, option_and_then, bytes_eq}
use Rattle.std.specs.List.{AllByRecursion}
use Rattle.std.proofs.lemmas.Bool.{cond-true, cond-false, true≢false, ne_eqb, eqb-true}
use Rattle.std.proofs.lemmas.List.{append_cancel_left}
use Rattle.std.proofs.lemmas.List.Splits.{join_with_byte-slice_split}
use Rattle.std.proofs.lemmas.Option.{same_Some, none-some, cond_some, option_and_then_some}
use Rattle.std.proofs.lemmas.Slice.Eq.{bytes_eq-Decides}
use Rattle.zk_blocks.specs.Blocks.{FitsKept}
use Rattle.zk_blocks.specs.Heads.{IsHead, IsAnyHead, AreHeads}
use Rattle.zk_blocks.specs.Rows.{IsCount, AreCounted, FitRows}
use Rattle.zk_blocks.specs.Sections.{has_row, has_rows, FitTwo, AreTwoCounted, FitsTitled, IsTitled}
use Rattle.zk_line.proofs.Options.{one_part}
use Rattle.zk_words.specs.Bytes.{space, line_feed}
use Rattle.zk_words.specs.Pieces.{words_of}
use Rattle.zk_words.specs.Text.{line_text}
use Rattle.zk_worker.specs.declared.answers.Answered.{Answered}
use Rattle.zk_worker.specs.declared.log.PlayerState.{PlayerState}
use Rattle.zk_worker.specs.declared.log.PlayerState.TheVariants as states
use Rattle.zk_trace.specs.declared.format.Format.{Format}
use Rattle.zk_trace.specs.declared.format.Format.TheVariants.{One, Two}
use Rattle.zk_trace.specs.Exact.{IsPlain, Lacks, IsUnfed}
use Rattle.zk_trace.specs.Fields.{two, three, behind, said_behind, wide_of}
use Rattle.zk_trace.specs.Formats.{told, CanTell}
use Rattle.zk_trace.specs.LookRead.{same_word}
use Rattle.zk_trace.specs.SectionRead.{Counts, some_lines, numbers_behind, head_words_of, head_of, without_looks, plain_head_of, IsPlayerRow}
use Rattle.zk_trace.specs.Text.{service_word, head_row, player_word, player_row}
use Rattle.zk_trace.specs.WholeRead.{all_states, state_of, uncounted, counted, player_words_of, player_head_of, plain_row}
use Rattle.zk_trace.specs.Words.{state_word}
use Rattle.zk_trace.proofs.Fields.{named_exact, behind-spelled}
use Rattle.zk_trace.proofs.NumberWords.{wide_exact, plain-decimal}
use Rattle.zk_trace.proofs.PlainWords.{lacks_is, lacks_plain, lacks-join, pieces-join}

-- What words say.

same-self : (name : List ℕ) → same_word name name ≡ Some tt
same-self name = cond-true (bytes_eq name name) (Some tt) None ((bytes_eq-Decides name name).1 refl)

same-is : (name word : List ℕ) (u : Unit {0}) → same_word name word ≡ Some u → word ≡ name
same-is name word u said = (bytes_eq-Decides word name).0 (cond_some (bytes_eq word name) tt u said).0

-- words of which something is made
record AreTwo {A B D : Type 0} (make : A → B → D) (of : List ℕ → Option A) (of₂ : List ℕ → Option B) (words : List (List ℕ)) (d : D) : Type 0 where
  first : List ℕ
  second : List ℕ
  a : A
  b : B
  words_are : words ≡ first ∷ second ∷ []
  first_is : of first ≡ Some a
  second_is : of₂ second ≡ Some b
  made_is : make a b ≡ d

record AreThree {A B C D : Type 0} (make : A → B → C → D) (of : List ℕ → Option A) (of₂ : List ℕ → Option B) (of₃ : List ℕ → Option C) (words : List (List ℕ)) (d : D) : Type 0 where
  first : List ℕ
  second : List ℕ
  third : List ℕ
  a : A
  b : B
  c : C
  words_are : words ≡ first ∷ second ∷ third ∷ []
  first_is : of first ≡ Some a
  second_is : of₂ second ≡ Some b
  third_is : of₃ third ≡ Some c
  made_is : make a b c ≡ d

two-parts : {A B D : Type 0} (make : A → B → D) (of : List ℕ → Option A) (of₂ : List ℕ → Option B) (words : List (List ℕ)) (d : D) → two make of of₂ words ≡ Some d → AreTwo make of of₂ words d
two-parts make of of₂ [] d said = absurd (none-some d said)
two-parts make of of₂ (word ∷ []) d said = absurd (none-some d said)
two-parts make of of₂ (word ∷ second ∷ []) d said = option_and_then_some (λ x. option_map (make x) (of₂ second)) (of word) d said
    (λ a is more.
    let b = one_part (make a) (of₂ second) d more in
    record { first = word; second = second; a = a; b = b.0; words_are = refl; first_is = is; second_is = b.1; made_is = b.2 })
two-parts make of of₂ (word ∷ second ∷ third ∷ words) d said = absurd (none-some d said)

three-parts : {A B C D : Type 0} (make : A → B → C → D) (of : List ℕ → Option A) (of₂ : List ℕ → Option B) (of₃ : List ℕ → Option C) (words : List (List ℕ)) (d : D) →
    three make of of₂ of₃ words ≡ Some d → AreThree make of of₂ of₃ words d
three-parts make of of₂ of₃ [] d said = absurd (none-some d said)
three-parts make of of₂ of₃ (word ∷ []) d said = absurd (none-some d said)
three-parts make of of₂ of₃ (word ∷ second ∷ []) d said = absurd (none-some d said)
three-parts make of of₂ of₃ (word ∷ second ∷ third ∷ []) d said = option_and_then_some (λ x. option_and_then (λ y. option_map (make x y) (of₃ third)) (of₂ second)) (of word) d said
    (λ a is more. option_and_then_some (λ y. option_map (make a y) (of₃ third)) (of₂ second) d more
    (λ b is₂ most.
    let c = one_part (make a b) (of₃ third) d most in
    record { first = word; second = second; third = third; a = a; b = b; c = c.0; words_are = refl; first_is = is; second_is = is₂; third_is = c.1; made_is = c.2 }))
three-parts make of of₂ of₃ (word ∷ second ∷ third ∷ fourth ∷ words) d said = absurd (none-some d said)

two-again : {A B D : Type 0} (make : A → B → D) (of : List ℕ → Option A) (of₂ : List ℕ → Option B) (first second : List ℕ) (a : A) (b : B) →
    of first ≡ Some a → of₂ second ≡ Some b → two make of of₂ (first ∷ second ∷ []) ≡ Some (make a b)
two-again make of of₂ first second a b is is₂ = ap (option_and_then (λ x. option_map (make x) (of₂ second))) is ∙ ap (option_map (make a)) is₂

three-again : {A B C D : Type 0} (make : A → B → C → D) (of : List ℕ → Option A) (of₂ : List ℕ → Option B) (of₃ : List ℕ → Option C) (first second third : List ℕ) (a : A) (b : B) (c : C) →
    of first ≡ Some a → of₂ second ≡ Some b → of₃ third ≡ Some c → three make of of₂ of₃ (first ∷ second ∷ third ∷ []) ≡ Some (make a b c)
three-again make of of₂ of₃ first second third a b c is is₂ is₃ =
    ap (option_and_then (λ x. option_and_then (λ y. option_map (make x y) (of₃ third)) (of₂ second))) is
    ∙ ap (option_and_then (λ y. option_map (make a y) (of₃ third))) is₂ ∙ ap (option_map (make a b)) is₃

-- a row of words behind a first one
row-again : {D : Type 0} (first : List ℕ) (of : List (List ℕ) → Option D) (words : List (List ℕ)) → Lacks space first → AllByRecursion (Lacks space) words →
    said_behind first of (words_of (line_text (first ∷ words))) ≡ of words
row-again first of words lacks each =
    ap (said_behind first of) (pieces-join space first words (lacks, each))
    ∙ ap (option_and_then of) (cond-true (bytes_eq first first) (Some words) None ((bytes_eq-Decides first first).1 refl))

row-spelled : {D : Type 0} (first : List ℕ) (of : List (List ℕ) → Option D) (row : List ℕ) (d : D) → said_behind first of (words_of row) ≡ Some d →
    (words : List (List ℕ)) × (words_of row ≡ first ∷ words) × (of words ≡ Some d)
row-spelled first of row d said = option_and_then_some of (behind first (words_of row)) d said
    (λ words is more. (words, behind-spelled first (words_of row) words is, more))

-- a row is that of its words
row-is : (row : List ℕ) (words : List (List ℕ)) → words_of row ≡ words → row ≡ line_text words
row-is row words is = sym (join_with_byte-slice_split space row) ∙ ap line_text is

lacks-decimal : (n : ℕ) → n < 2 ^ 64 → Lacks space (decimal n)
lacks-decimal n small = lacks_plain space refl (decimal n) (plain-decimal n small)

-- Heads of services.

-- what a line tells as the head of a section
pub record IsTold (f : Format) (name row : List ℕ) (counts : Counts) : Type 0 where
  pub entries : ℕ
  pub looks : ℕ
  pub row_is : row ≡ head_row f name entries looks
  pub counts_are : counts ≡ (told f entries, told f looks)
  pub can_entries : CanTell f entries
  pub can_looks : CanTell f looks

-- the number of lines that are told
pub told-counts : (f : Format) (lines : ℕ) → IsCount (told f lines) lines
told-counts One lines = tt
told-counts Two lines = refl

-- two numbers of which one isn't 0
some-is : (counts : ℕ × ℕ) → (eqb counts.0 0 && eqb counts.1 0) ≡ false → some_lines counts ≡ Some (Some counts.0, Some counts.1)
some-is counts some = cond-false (eqb counts.0 0 && eqb counts.1 0) None (Some (Some counts.0, Some counts.1)) some

some-was : (counts : ℕ × ℕ) (both : Counts) → some_lines counts ≡ Some both → both ≡ (Some counts.0, Some counts.1)
some-was counts both said = by (eqb counts.0 0 && eqb counts.1 0) said where
  by : (b : Bool) → cond b None (Some (Some counts.0, Some counts.1)) ≡ Some both → both ≡ (Some counts.0, Some counts.1)
  by true said = absurd (none-some both said)
  by false said = sym (same_Some (Some counts.0, Some counts.1) both said)

-- no numbers
abbrev no_counts : Counts
no_counts = (None, None)

-- a head is read again
pub head-again : (f : Format) (name : List ℕ) → Lacks space name → (entries looks : ℕ) → CanTell f entries → CanTell f looks → (eqb entries 0 && eqb looks 0) ≡ false →
    head_of f name (head_row f name entries looks) ≡ Some (told f entries, told f looks)
head-again One name lacks entries looks can_entries can_looks some =
    cond-true (bytes_eq (head_row One name entries looks) (head_row One name 0 0)) (Some no_counts) None
    ((bytes_eq-Decides (head_row One name entries looks) (head_row One name 0 0)).1 refl)
head-again Two name lacks entries looks can_entries can_looks some =
    ap (option_and_then some_lines)
    (row-again service_word (three numbers_behind (same_word name) wide_of wide_of) (name ∷ decimal entries ∷ decimal looks ∷ []) (lacks_is space service_word refl)
    (lacks, (lacks-decimal entries can_entries, (lacks-decimal looks can_looks, tt)))
    ∙ three-again numbers_behind (same_word name) wide_of wide_of name (decimal entries) (decimal looks) tt entries looks (same-self name)
    (wide_exact.again entries can_entries) (wide_exact.again looks can_looks))
    ∙ some-is (entries, looks) some

-- the words of a head in format 2
head-words : (name row : List ℕ) (counts : ℕ × ℕ) → head_words_of name (words_of row) ≡ Some counts →
    (words_of row ≡ service_word ∷ name ∷ decimal counts.0 ∷ decimal counts.1 ∷ []) × (counts.0 < 2 ^ 64) × (counts.1 < 2 ^ 64)
head-words name row counts said =
    let rest = row-spelled service_word (three numbers_behind (same_word name) wide_of wide_of) row counts said in
    let parts = three-parts numbers_behind (same_word name) wide_of wide_of rest.0 counts rest.2 in
    let entries = wide_exact.spelled parts.second parts.b parts.second_is in
    let looks = wide_exact.spelled parts.third parts.c parts.third_is in
    subst (λ (x : ℕ × ℕ). (words_of row ≡ service_word ∷ name ∷ decimal x.0 ∷ decimal x.1 ∷ []) × (x.0 < 2 ^ 64) × (x.1 < 2 ^ 64)) parts.made_is (
      rest.1 ∙ ap (λ ws. service_word ∷ ws) parts.words_are
          ∙ ap (λ w. service_word ∷ w ∷ parts.second ∷ parts.third ∷ []) (same-is name parts.first parts.a parts.first_is)
          ∙ ap (λ w. service_word ∷ name ∷ w ∷ parts.third ∷ []) entries.0
          ∙ ap (λ w. service_word ∷ name ∷ decimal parts.b ∷ w ∷ []) looks.0,
      entries.1,
      looks.1,
    )

-- and what is read has such a head
pub head-spelled : (f : Format) (name row : List ℕ) (counts : Counts) → head_of f name row ≡ Some counts → IsTold f name row counts
head-spelled One name row counts said =
    let found = cond_some (bytes_eq row (head_row One name 0 0)) no_counts counts said in
    record {
      entries = 0;
      looks = 0;
      row_is = (bytes_eq-Decides row (head_row One name 0 0)).0 found.0;
      counts_are = sym found.1;
      can_entries = tt;
      can_looks = tt;
    }
head-spelled Two name row counts said = option_and_then_some some_lines (head_words_of name (words_of row)) counts said
    (λ numbers is more.
    let words = head-words name row numbers is in
    record {
      entries = numbers.0;
      looks = numbers.1;
      row_is = row-is row (service_word ∷ name ∷ decimal numbers.0 ∷ decimal numbers.1 ∷ []) words.0;
      counts_are = some-was numbers counts more;
      can_entries = words.1;
      can_looks = words.2;
    })

-- a line is the head of one name
second_word : List (List ℕ) → List ℕ
second_word [] = []
second_word (first ∷ []) = []
second_word (first ∷ second ∷ words) = second

pub one-head : (f : Format) (name other line : List ℕ) (counts others : Counts) → head_of f name line ≡ Some counts → head_of f other line ≡ Some others → name ≡ other
unfolding second_word
one-head One name other line counts others here there =
    append_cancel_left (codes "service ") name other (sym (head-spelled One name line counts here).row_is ∙ (head-spelled One other line others there).row_is)
one-head Two name other line counts others here there = sym (named name counts here) ∙ named other others there where
  named : (this : List ℕ) (counts : Counts) → head_of Two this line ≡ Some counts → second_word (words_of line) ≡ this
  named this counts said = option_and_then_some some_lines (head_words_of this (words_of line)) counts said (λ numbers is more. ap second_word (head-words this line numbers is).0)

-- the first byte of the heads of services
abbrev is_service : List ℕ → Bool
is_service [] = false
is_service (b ∷ bs) = eqb b 115

head-service : (f : Format) (name : List ℕ) (entries looks : ℕ) → is_service (head_row f name entries looks) ≡ true
head-service One name entries looks = refl
head-service Two name entries looks = refl

-- each name has heads of its own, which are no player's
pub heads : (f : Format) → AreHeads (head_of f) (λ line. IsPlayerRow line ⊎ ⊥)
heads f = record { one_name = one-head f; not_behind = not_behind } where
  not_behind : (name line : List ℕ) (counts : Counts) → head_of f name line ≡ Some counts → IsPlayerRow line ⊎ ⊥ → ⊥
  not_behind name line counts known (inl (rest, is)) =
      let it = head-spelled f name line counts known in
      true≢false (sym (head-service f name it.entries it.looks) ∙ ap is_service (sym it.row_is ∙ is))
  not_behind name line counts known (inr none) = none

-- what a head tells can be told
can-tell : (f : Format) (lines n : ℕ) (count : Option ℕ) → count ≡ told f lines → CanTell f lines → IsCount count n → CanTell f n
can-tell One lines n count is can counts = tt
can-tell Two lines n count is can counts = subst (λ m. m < 2 ^ 64) (sym (subst (λ c. IsCount c n) is counts)) can

pub head-can : (f : Format) (name line : List ℕ) (counts : Counts) → head_of f name line ≡ Some counts →
    ((n : ℕ) → IsCount counts.0 n → CanTell f n) × ((n : ℕ) → IsCount counts.1 n → CanTell f n)
head-can f name line counts known =
    let it = head-spelled f name line counts known in (
      λ n is. can-tell f it.entries n counts.0 (ap (λ c. c.0) it.counts_are) it.can_entries is,
      λ n is. can-tell f it.looks n counts.1 (ap (λ c. c.1) it.counts_are) it.can_looks is,
    )

-- heads that tell the same are the same
same-head : (f : Format) (name : List ℕ) (entries looks n m : ℕ) → IsCount (told f entries) n → IsCount (told f looks) m → head_row f name entries looks ≡ head_row f name n m
same-head One name entries looks n m first second = refl
same-head Two name entries looks n m first second = ap (λ x. head_row Two name x looks) (sym first) ∙ ap (λ x. head_row Two name n x) (sym second)

-- a length isn't 0 where there is something
some_long : {X : Type 0} (xs : List X) → has_row xs ≡ true → eqb (length xs) 0 ≡ false
some_long [] some = absurd (true≢false (sym some))
some_long (x ∷ xs) some = ne_eqb (length (x ∷ xs)) 0 (λ none. absurd (omega (arith, none)))

some_longer : {E K : Type 0} (both : List E × List K) → has_rows both ≡ true → (eqb (length both.0) 0 && eqb (length both.1) 0) ≡ false
some_longer ([], ks) some = some_long ks some
some_longer ((e ∷ es), ks) some = ap (λ b. b && eqb (length ks) 0) (ne_eqb (length (e ∷ es)) 0 (λ none. absurd (omega (arith, none))))

-- the head of a section of entries and looks tells of these
pub two_head : {E K : Type 0} (f : Format) (name : List ℕ) → Lacks space name → (First : Option E → E → Type 0) (Second : Option K → K → Type 0) →
    IsHead (λ (both : List E × List K). head_row f name (length both.0) (length both.1)) (FitsKept has_rows (FitTwo (CanTell f) First Second)) (head_of f name) AreTwoCounted
two_head {E} {K} f name lacks First Second = record { again = again; spelled = spelled } where
  again : (both : List E × List K) → FitsKept has_rows (FitTwo (CanTell f) First Second) both →
      (counts : Counts) × (head_of f name (head_row f name (length both.0) (length both.1)) ≡ Some counts) × AreTwoCounted counts both
  again both fits = (
    (told f (length both.0), told f (length both.1)),
    head-again f name lacks (length both.0) (length both.1) fits.0.0.1 fits.0.1.1 (some_longer both fits.1),
    (told-counts f (length both.0), told-counts f (length both.1)),
  )

  spelled : (line : List ℕ) (counts : Counts) (both : List E × List K) → head_of f name line ≡ Some counts → AreTwoCounted counts both →
      line ≡ head_row f name (length both.0) (length both.1)
  spelled line counts both known tells =
      let it = head-spelled f name line counts known in
      it.row_is ∙ same-head f name it.entries it.looks (length both.0) (length both.1)
      (subst (λ c. IsCount c (length both.0)) (ap (λ c. c.0) it.counts_are) tells.0) (subst (λ c. IsCount c (length both.1)) (ap (λ c. c.1) it.counts_are) tells.1)

-- Heads of sections that have entries alone.

-- the same head tells of no look
pub plain-narrower : (f : Format) (name line : List ℕ) (count : Option ℕ) → plain_head_of f name line ≡ Some count → IsAnyHead (head_of f name) line
plain-narrower f name line count known = option_and_then_some without_looks (head_of f name line) count known (λ counts is more. (counts, is))

record IsToldPlain (f : Format) (name row : List ℕ) (count : Option ℕ) : Type 0 where
  entries : ℕ
  row_is : row ≡ plain_row f name entries
  count_is : count ≡ told f entries
  can : CanTell f entries

-- what a number of looks says that isn't there or is 0
without : (f : Format) (name row : List ℕ) (counts : Counts) (count : Option ℕ) → IsTold f name row counts → without_looks counts ≡ Some count → IsToldPlain f name row count
without One name row counts count it said = record {
  entries = it.entries;
  row_is = it.row_is;
  count_is = sym (same_Some None count (ap without_looks (sym it.counts_are) ∙ said));
  can = tt;
}
without Two name row counts count it said =
    let found = cond_some (eqb it.looks 0) (Some it.entries) count (ap without_looks (sym it.counts_are) ∙ said) in
    record {
      entries = it.entries;
      row_is = it.row_is ∙ ap (λ n. head_row Two name it.entries n) (eqb-true it.looks 0 found.0);
      count_is = sym found.1;
      can = it.can_entries;
    }

plain-spelled : (f : Format) (name row : List ℕ) (count : Option ℕ) → plain_head_of f name row ≡ Some count → IsToldPlain f name row count
plain-spelled f name row count known = option_and_then_some without_looks (head_of f name row) count known
    (λ counts is more. without f name row counts count (head-spelled f name row counts is) more)

pub plain-can : (f : Format) (name line : List ℕ) (count : Option ℕ) → plain_head_of f name line ≡ Some count → (n : ℕ) → IsCount count n → CanTell f n
plain-can f name line count known n is = let it = plain-spelled f name line count known in can-tell f it.entries n count it.count_is it.can is

no-looks : (f : Format) (entries : ℕ) → without_looks (told f entries, told f 0) ≡ Some (told f entries)
no-looks One entries = refl
no-looks Two entries = refl

can-zero : (f : Format) → CanTell f 0
can-zero One = tt
can-zero Two = omega arith

pub can_none : (f : Format) → CanTell f 0
can_none f = can-zero f

pub plain_head : {X : Type 0} (f : Format) (name : List ℕ) → Lacks space name → (Fits : Option X → X → Type 0) →
    IsHead (λ (xs : List X). plain_row f name (length xs)) (FitsKept has_row (FitRows (CanTell f) Fits)) (plain_head_of f name) AreCounted
plain_head {X} f name lacks Fits = record { again = again; spelled = spelled } where
  again : (xs : List X) → FitsKept has_row (FitRows (CanTell f) Fits) xs → (count : Option ℕ) × (plain_head_of f name (plain_row f name (length xs)) ≡ Some count) × AreCounted count xs
  again xs fits = (
    told f (length xs),
    ap (option_and_then without_looks)
        (head-again f name lacks (length xs) 0 fits.0.1 (can-zero f) (ap (λ b. b && eqb 0 0) (some_long xs fits.1))) ∙ no-looks f (length xs),
    told-counts f (length xs),
  )

  spelled : (line : List ℕ) (count : Option ℕ) (xs : List X) → plain_head_of f name line ≡ Some count → AreCounted count xs → line ≡ plain_row f name (length xs)
  spelled line count xs known tells =
      let it = plain-spelled f name line count known in
      it.row_is ∙ same-head f name it.entries 0 (length xs) 0 (subst (λ c. IsCount c (length xs)) it.count_is tells) (told-counts f 0)

-- Heads of players.

pub states_are : (s : PlayerState) → (state_of (state_word s) ≡ Some s) × IsPlain (state_word s)
states_are states.Spent = (refl, refl)
states_are s = (refl, refl)

lacks-state : (s : PlayerState) → Lacks space (state_word s)
lacks-state s = lacks_plain space refl (state_word s) (states_are s).1

-- what a line tells as the head of a player
record IsToldPlayer (f : Format) (name row : List ℕ) (h : PlayerState × Option ℕ) : Type 0 where
  answers : ℕ
  row_is : row ≡ player_row f name h.0 answers
  count_is : h.1 ≡ told f answers
  can : CanTell f answers

player-again : (f : Format) (name : List ℕ) → Lacks space name → (state : PlayerState) (answers : ℕ) → CanTell f answers →
    player_head_of f name (player_row f name state answers) ≡ Some (state, told f answers)
player-again One name lacks state answers can =
    row-again player_word (player_words_of One name) (name ∷ state_word state ∷ []) (lacks_is space player_word refl) (lacks, (lacks-state state, tt))
    ∙ two-again uncounted (same_word name) state_of name (state_word state) tt state (same-self name) (states_are state).0
player-again Two name lacks state answers can =
    row-again player_word (player_words_of Two name) (name ∷ state_word state ∷ decimal answers ∷ []) (lacks_is space player_word refl)
    (lacks, (lacks-state state, (lacks-decimal answers can, tt)))
    ∙ three-again counted (same_word name) state_of wide_of name (state_word state) (decimal answers) tt state answers (same-self name) (states_are state).0 (wide_exact.again answers can)

player-spelled : (f : Format) (name row : List ℕ) (h : PlayerState × Option ℕ) → player_head_of f name row ≡ Some h → IsToldPlayer f name row h
player-spelled One name row h said =
    let rest = row-spelled player_word (player_words_of One name) row h said in
    let parts = two-parts uncounted (same_word name) state_of rest.0 h rest.2 in
    let state = (named_exact state_word all_states states_are).spelled parts.second parts.b parts.second_is in
    subst (IsToldPlayer One name row) parts.made_is (record {
      answers = 0;
      row_is = row-is row (player_word ∷ name ∷ state_word parts.b ∷ [])
          (rest.1 ∙ ap (λ ws. player_word ∷ ws) parts.words_are
          ∙ ap (λ w. player_word ∷ w ∷ parts.second ∷ []) (same-is name parts.first parts.a parts.first_is)
          ∙ ap (λ w. player_word ∷ name ∷ w ∷ []) state.0);
      count_is = refl;
      can = tt;
    })
player-spelled Two name row h said =
    let rest = row-spelled player_word (player_words_of Two name) row h said in
    let parts = three-parts counted (same_word name) state_of wide_of rest.0 h rest.2 in
    let state = (named_exact state_word all_states states_are).spelled parts.second parts.b parts.second_is in
    let answers = wide_exact.spelled parts.third parts.c parts.third_is in
    subst (IsToldPlayer Two name row) parts.made_is (record {
      answers = parts.c;
      row_is = row-is row (player_word ∷ name ∷ state_word parts.b ∷ decimal parts.c ∷ [])
          (rest.1 ∙ ap (λ ws. player_word ∷ ws) parts.words_are
          ∙ ap (λ w. player_word ∷ w ∷ parts.second ∷ parts.third ∷ []) (same-is name parts.first parts.a parts.first_is)
          ∙ ap (λ w. player_word ∷ name ∷ w ∷ parts.third ∷ []) state.0
          ∙ ap (λ w. player_word ∷ name ∷ state_word parts.b ∷ w ∷ []) answers.0);
      count_is = refl;
      can = answers.1;
    })

pub player-can : (f : Format) (name line : List ℕ) (h : PlayerState × Option ℕ) → player_head_of f name line ≡ Some h → (n : ℕ) → IsCount h.1 n → CanTell f n
player-can f name line h known n is = let it = player-spelled f name line h known in can-tell f it.answers n h.1 it.count_is it.can is

same-player : (f : Format) (name : List ℕ) (state : PlayerState) (answers n : ℕ) → IsCount (told f answers) n → player_row f name state answers ≡ player_row f name state n
same-player One name state answers n is = refl
same-player Two name state answers n is = ap (λ x. player_row Two name state x) (sym is)

-- the head of a player tells how it stands, and of its answers
pub player_head : (f : Format) (name : List ℕ) → Lacks space name → (Fits : Option Answered → Answered → Type 0) →
    IsHead (λ (all : PlayerState × List Answered). player_row f name all.0 (length all.1)) (FitsTitled (CanTell f) Fits) (player_head_of f name) IsTitled
player_head f name lacks Fits = record { again = again; spelled = spelled } where
  again : (all : PlayerState × List Answered) → FitsTitled (CanTell f) Fits all →
      (h : PlayerState × Option ℕ) × (player_head_of f name (player_row f name all.0 (length all.1)) ≡ Some h) × IsTitled h all
  again all fits = ((all.0, told f (length all.1)), player-again f name lacks all.0 (length all.1) fits.1, (refl, told-counts f (length all.1)))

  spelled : (line : List ℕ) (h : PlayerState × Option ℕ) (all : PlayerState × List Answered) → player_head_of f name line ≡ Some h → IsTitled h all →
      line ≡ player_row f name all.0 (length all.1)
  spelled line h all known tells =
      let it = player-spelled f name line h known in
      it.row_is ∙ same-player f name h.0 it.answers (length all.1) (subst (λ c. IsCount c (length all.1)) it.count_is tells.1)
      ∙ ap (λ state. player_row f name state (length all.1)) (sym tells.0)

-- a line that is a player's begins so
pub player-row : (f : Format) (name : List ℕ) (state : PlayerState) (answers : ℕ) → IsPlayerRow (player_row f name state answers)
player-row One name state answers = (name ++ space ∷ state_word state, refl)
player-row Two name state answers = (name ++ space ∷ (state_word state ++ space ∷ decimal answers), refl)

-- No head has a feed in it.

pub head-unfed : (f : Format) (name : List ℕ) (entries looks : ℕ) → IsUnfed name → CanTell f entries → CanTell f looks → IsUnfed (head_row f name entries looks)
head-unfed One name entries looks unfed can_entries can_looks =
    lacks-join line_feed space refl (service_word ∷ name ∷ []) (lacks_is line_feed service_word refl, (unfed, tt))
head-unfed Two name entries looks unfed can_entries can_looks =
    lacks-join line_feed space refl (service_word ∷ name ∷ decimal entries ∷ decimal looks ∷ [])
    (lacks_is line_feed service_word refl, (unfed, (unfed-decimal entries can_entries, (unfed-decimal looks can_looks, tt)))) where
      unfed-decimal : (n : ℕ) → n < 2 ^ 64 → IsUnfed (decimal n)
      unfed-decimal n small = lacks_plain line_feed refl (decimal n) (plain-decimal n small)

pub plain-unfed : (f : Format) (name : List ℕ) (entries : ℕ) → IsUnfed name → CanTell f entries → IsUnfed (plain_row f name entries)
plain-unfed f name entries unfed can = head-unfed f name entries 0 unfed can (can-zero f)

pub player-unfed : (f : Format) (name : List ℕ) (state : PlayerState) (answers : ℕ) → IsUnfed name → CanTell f answers → IsUnfed (player_row f name state answers)
player-unfed One name state answers unfed can =
    lacks-join line_feed space refl (player_word ∷ name ∷ state_word state ∷ [])
    (lacks_is line_feed player_word refl, (unfed, (lacks_plain line_feed refl (state_word state) (states_are state).1, tt)))
player-unfed Two name state answers unfed can =
    lacks-join line_feed space refl (player_word ∷ name ∷ state_word state ∷ decimal answers ∷ []) (
      lacks_is line_feed player_word refl,
      (
        unfed,
        (
          lacks_plain line_feed refl (state_word state) (states_are state).1,
          (lacks_plain line_feed refl (decimal answers) (plain-decimal answers can), tt),
        ),
      ),
    )

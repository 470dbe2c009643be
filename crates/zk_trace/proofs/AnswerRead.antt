-- The lines of answers are read exactly: what an answer can be goes by the call's word.
use Rattle.std.proofs.Common.{◌≡◌, ◌⊎◌, ℕ, ◌^◌, ◌<◌, Bool, true, false, cond, Option, Some, None, is_none, List, [], ◌∷◌, ◌++◌, length, get_or, arith, refl, sym, ap, inl, inr, ◌∙◌}
use Rattle.std.specs.Prelude.{option_map, option_and_then, bytes_eq, codes}
use Rattle.std.specs.Char.{is_ascii_digit}
use Rattle.std.specs.Fmt.{decimal}
use Rattle.std.specs.List.{find, list_all}
use Rattle.std.specs.Option.{option_or}
use Rattle.std.proofs.lemmas.Bool.{cases_Bool, cond-true, cond-false, and_parts, and_from, false≢true}
use Rattle.std.proofs.lemmas.Fmt.{digits_decimal, decimal_nonempty}
use Rattle.std.proofs.lemmas.List.{append_assoc}
use Rattle.std.proofs.lemmas.Option.{same_Some, none-some, option_and_then_some}
use Rattle.std.proofs.lemmas.Slice.Eq.{bytes_eq-Decides}
use Rattle.zk_base.specs.declared.errors.Errno.{Errno}
use Rattle.zk_base.specs.declared.errors.Errno.TheVariants as errnos
use Rattle.zk_base.specs.Names.{is_name}
use Rattle.zk_base.proofs.Lists.{find-passes}
use Rattle.zk_model_bus.specs.declared.table.OopsWhy.{OopsWhy}
use Rattle.zk_model_bus.specs.declared.table.OopsWhy.TheVariants as whys
use Rattle.zk_words.specs.declared.word.Word.{Word}
use Rattle.zk_words.specs.declared.word.Word.TheVariants as words
use Rattle.zk_words.specs.Bytes.{space}
use Rattle.zk_words.specs.Pieces.{words_of}
use Rattle.zk_words.specs.Text.{line_text}
use Rattle.zk_words.proofs.Numerals.{numerals}
use Rattle.zk_line.specs.declared.types.Decl.{Decl}
use Rattle.zk_line.specs.Objects.{AreNames, is_at, is_chan}
use Rattle.zk_worker.specs.declared.answers.Answer.{Answer}
use Rattle.zk_worker.specs.declared.answers.Answer.TheVariants as answers
use Rattle.zk_worker.specs.declared.answers.Answered.{Answered}
use Rattle.zk_words.specs.declared.word.Head.{Head}
use Rattle.zk_words.specs.declared.word.Head.TheVariants.{Call}
use Rattle.zk_words.specs.Lines.{head_of}
use Rattle.zk_words.specs.Table.{row_of}
use Rattle.zk_words.proofs.Formed.{head_spelled}
use Rattle.zk_trace.specs.AnswerRead.{call_in, call_of, refusals, refusal_of, IsRefusal, oops_answer, IsOops, flags_answer, IsFlags, truth_answer, IsTruth, bytes_answer, IsBytes, can_be_value, value_words_of, signal_value, signal_answer, IsSignal, ready_answer, IsReady, channel_answer, IsChannel, number_answer, IsNumber, value_of, IsValue, answer_row, answer_of, FitsAnswer, answered_front, answered_front_of, answered, answered_row, answered_of, IsAnswered}
use Rattle.zk_blocks.specs.Choices.{IsIn}
use Rattle.zk_trace.specs.Exact.{IsPlain, IsUnfed, IsExact, IsExactRow, AreExact}
use Rattle.zk_trace.specs.Fields.{named, all_errnos, IsOf, IsMessage, ArePositions}
use Rattle.zk_trace.specs.Looks.{raised_word}
use Rattle.zk_trace.specs.Sides.{sign, pair}
use Rattle.zk_trace.specs.Text.{answer_line}
use Rattle.zk_trace.specs.Words.{errno_word, call_word, oops_word}
use Rattle.zk_trace.proofs.Fields.{as_row, made, errno_exact, oops_exact, flags_exact, truth_exact, message_exact, ready_exact, chan_exact}
use Rattle.zk_trace.proofs.LookRead.{raised_exact, unsaid}
use Rattle.zk_trace.proofs.NameWords.{unnamed}
use Rattle.zk_trace.proofs.NumberWords.{wide_exact, narrow_exact, short_exact}
use Rattle.zk_trace.proofs.Sayings.{two-there, two-says, plain_row_exact}
use Rattle.zk_trace.proofs.Sides.{sides_exact, kept_exact}

-- a call, as it is spelled in a scenario
pub call_exact : IsExact call_word (λ w. Unit {0}) call_of
call_exact = record { again = λ w any. (each w).0; spelled = spelled; plain = λ w any. (each w).1 } where
  each : (w : Word) → (call_of (call_word w) ≡ Some w) × IsPlain (call_word w)
  each words.Submit = (refl, refl)
  each word = (refl, refl)

  first-is : (head : Head) (w : Word) → call_in head ≡ Some w → (row_of head).first ≡ call_word w
  first-is (Call v) w is = ap call_word (same_Some v w is)
  first-is head w is = absurd (none-some w is)

  spelled : (word : List ℕ) (w : Word) → call_of word ≡ Some w → (word ≡ call_word w) × Unit {0}
  spelled word w said = option_and_then_some call_in (head_of word) w said
      (λ head found is. (head_spelled word head found ∙ first-is head w is, tt))

-- Some of the words of a table.

-- what is found is one of them
found_in : {A : Type 0} (test : A → Bool) (all : List A) (a : A) → find test all ≡ Some a → IsIn a all
found_in test [] a found = absurd (none-some a found)
found_in test (x ∷ all) a found = elim (cases_Bool (test x)) [
  | inl passes ↦ inl (sym (same_Some x a (sym (cond-true (test x) (Some x) (find test all) passes) ∙ found)))
  | inr fails ↦ inr (found_in test all a (sym (cond-false (test x) (Some x) (find test all) fails) ∙ found))
]

module _ {A : Type 0} (text : A → List ℕ) (of : List ℕ → Option A) (exact : IsExact text (λ a. Unit {0}) of) where
  -- no two have one text
  one_text : (a b : A) → text a ≡ text b → a ≡ b
  one_text a b same = same_Some a b (sym (exact.again a tt) ∙ ap of same ∙ exact.again b tt)

  some-again : (all : List A) (a : A) → IsIn a all → named text all (text a) ≡ Some a
  some-again [] a found = absurd found
  some-again (x ∷ all) a found = elim (cases_Bool (bytes_eq (text a) (text x))) [
    | inl same ↦
        cond-true (bytes_eq (text a) (text x)) (Some x) (named text all (text a)) same
        ∙ ap Some (sym (one_text a x ((bytes_eq-Decides (text a) (text x)).0 same)))
    | inr differs ↦
        cond-false (bytes_eq (text a) (text x)) (Some x) (named text all (text a)) differs ∙ some-again all a (later found differs)
  ] where
    later : IsIn a (x ∷ all) → bytes_eq (text a) (text x) ≡ false → IsIn a all
    later (inl is) differs = absurd (false≢true (sym differs ∙ (bytes_eq-Decides (text a) (text x)).1 (ap text is)))
    later (inr more) differs = more

  -- one of some is read exactly
  some_exact : (all : List A) → IsExact text (λ a. IsIn a all) (named text all)
  some_exact all = record {
    again = some-again all;
    spelled = λ word a said. (
      (bytes_eq-Decides word (text a)).0 (find-passes (λ x. bytes_eq word (text x)) all a said),
      found_in (λ x. bytes_eq word (text x)) all a said,
    );
    plain = λ a found. exact.plain a tt;
  }

-- Either of two.

none_is : {A : Type 0} (o : Option A) → is_none o ≡ true → o ≡ None
none_is None none = refl
none_is (Some a) none = absurd (false≢true none)

all_in : {A : Type 0} (test : A → Bool) (all : List A) (a : A) → list_all test all ≡ true → IsIn a all → test a ≡ true
all_in test [] a passes found = absurd found
all_in test (x ∷ all) a passes (inl is) = ap test is ∙ (and_parts (test x) (list_all test all) passes).0
all_in test (x ∷ all) a passes (inr more) = all_in test all a (and_parts (test x) (list_all test all) passes).1 more

module _ {A : Type 0} {text : A → List ℕ} {First Second : A → Type 0} {first second : List ℕ → Option A} where
  -- what is one or the other is read exactly, where none is read as both
  pub or_exact : IsExactRow text First first → IsExactRow text Second second → ((a : A) → First a → second (text a) ≡ None)
      → IsExactRow text (λ a. First a ⊎ Second a) (λ row. option_or (first row) (second row))
  or_exact one other apart = record { again = again; spelled = spelled; unfed = unfed } where
    unread : (a : A) → Second a → (o : Option A) → first (text a) ≡ o → o ≡ None
    unread a fits None is = refl
    unread a fits (Some b) is =
        let found = one.spelled (text a) b is in
        absurd (none-some a (sym (apart b found.1) ∙ ap second (sym found.0) ∙ other.again a fits))

    again : (a : A) → First a ⊎ Second a → option_or (first (text a)) (second (text a)) ≡ Some a
    again a (inl fits) = ap (λ o. option_or o (second (text a))) (one.again a fits)
    again a (inr fits) = ap (λ o. option_or o (second (text a))) (unread a fits (first (text a)) refl) ∙ other.again a fits

    by : (row : List ℕ) (a : A) (o : Option A) → first row ≡ o → option_or o (second row) ≡ Some a → (row ≡ text a) × (First a ⊎ Second a)
    by row a None is said = let found = other.spelled row a said in (found.0, inr found.1)
    by row a (Some b) is said = let found = one.spelled row a (is ∙ said) in (found.0, inl found.1)

    spelled : (row : List ℕ) (a : A) → option_or (first row) (second row) ≡ Some a → (row ≡ text a) × (First a ⊎ Second a)
    spelled row a said = by row a (first row) refl said

    unfed : (a : A) → First a ⊎ Second a → IsUnfed (text a)
    unfed a (inl fits) = one.unfed a fits
    unfed a (inr fits) = other.unfed a fits

-- Answers.

module _ (decls : List Decl) (are : AreNames decls) where
  a_refusal : (word : Word) (a : Answer) → IsRefusal word a → (e : Errno) × (answers.Refused e ≡ a) × IsIn e (refusals word)
  a_refusal word (answers.Refused errno) fits = (errno, refl, fits)
  a_refusal word a fits = absurd fits

  refusal_exact : (word : Word) → IsExactRow (answer_row decls) (IsRefusal word) (refusal_of word)
  refusal_exact word = made (answer_row decls) (IsRefusal word) answers.Refused (λ e. refl) (λ e found. found) (a_refusal word) (as_row (some_exact errno_word (named errno_word all_errnos) errno_exact (refusals word)))

  a_reason : (a : Answer) → IsOops a → (why : OopsWhy) × (answers.Oops why ≡ a) × Unit {0}
  a_reason (answers.Oops why) fits = (why, refl, tt)
  a_reason a fits = absurd fits

  oops_answer_exact : IsExactRow (answer_row decls) IsOops oops_answer
  oops_answer_exact = made (answer_row decls) IsOops answers.Oops (λ why. refl) (λ why fits. tt) a_reason oops_exact

  some_flags : (a : Answer) → IsFlags a → (f : ℕ) × (answers.Flags f ≡ a) × (f < 32)
  some_flags (answers.Flags flags) fits = (flags, refl, fits)
  some_flags a fits = absurd fits

  flags_answer_exact : IsExactRow (answer_row decls) IsFlags flags_answer
  flags_answer_exact = made (answer_row decls) IsFlags answers.Flags (λ f. refl) (λ f fits. fits) some_flags (as_row flags_exact)

  a_truth : (a : Answer) → IsTruth a → (b : Bool) × (answers.Truth b ≡ a) × Unit {0}
  a_truth (answers.Truth truth) fits = (truth, refl, tt)
  a_truth a fits = absurd fits

  truth_answer_exact : IsExactRow (answer_row decls) IsTruth truth_answer
  truth_answer_exact = made (answer_row decls) IsTruth answers.Truth (λ b. refl) (λ b fits. tt) a_truth (as_row truth_exact)

  a_message : (a : Answer) → IsBytes a → (m : List ℕ) × (answers.Bytes m ≡ a) × IsMessage m
  a_message (answers.Bytes message) fits = (message, refl, fits)
  a_message a fits = absurd fits

  bytes_answer_exact : IsExactRow (answer_row decls) IsBytes bytes_answer
  bytes_answer_exact = made (answer_row decls) IsBytes answers.Bytes (λ m. refl) (λ m fits. fits) a_message (as_row message_exact)

  -- the words of what a signal was
  abbrev value_words : Bool × ℕ → List (List ℕ)
  value_words value = raised_word value.0 ∷ decimal value.1 ∷ []

  abbrev IsShort : Bool × ℕ → Type 0
  IsShort value = value.1 < 2 ^ 16

  value_exact : IsExactRow (λ value. line_text (value_words value)) IsShort (λ row. value_words_of (words_of row))
  value_exact =
      plain_row_exact value_words IsShort value_words_of refl
      (λ value fits. two-there raised_exact short_exact pair value.0 value.1 tt fits)
      (two-says raised_exact short_exact pair (λ ws value. (ws ≡ value_words value) × IsShort value) (λ raised value is small. (refl, small)))

  a_value : (a : Answer) → IsSignal a → (v : Bool × ℕ) × (signal_value v ≡ a) × ((can_be_value v ≡ true) × IsShort v)
  a_value (answers.Signal raised value) fits = ((raised, value), refl, fits)
  a_value a fits = absurd fits

  signal_answer_exact : IsExactRow (answer_row decls) IsSignal signal_answer
  signal_answer_exact =
      made (answer_row decls) IsSignal signal_value (λ v. append_assoc (raised_word v.0) (codes " ") (decimal v.1)) (λ v fits. fits) a_value (kept_exact can_be_value value_exact)

  some_positions : (a : Answer) → IsReady a → (ps : List ℕ) × (answers.Ready ps ≡ a) × ArePositions ps
  some_positions (answers.Ready positions) fits = (positions, refl, fits)
  some_positions a fits = absurd fits

  ready_answer_exact : IsExactRow (answer_row decls) IsReady ready_answer
  ready_answer_exact = made (answer_row decls) IsReady answers.Ready (λ ps. refl) (λ ps fits. fits) some_positions ready_exact

  a_channel : (a : Answer) → IsChannel decls a → (c : ℕ) × (answers.Channel c ≡ a) × IsOf is_chan decls c
  a_channel (answers.Channel channel) fits = (channel, refl, fits)
  a_channel a fits = absurd fits

  channel_answer_exact : IsExactRow (answer_row decls) (IsChannel decls) (channel_answer decls)
  channel_answer_exact = made (answer_row decls) (IsChannel decls) answers.Channel (λ c. refl) (λ c fits. fits) a_channel (as_row (chan_exact decls are))

  a_number : (a : Answer) → IsNumber a → (n : ℕ) × (answers.Number n ≡ a) × (n < 2 ^ 64)
  a_number (answers.Number number) fits = (number, refl, fits)
  a_number a fits = absurd fits

  number_answer_exact : IsExactRow (answer_row decls) IsNumber number_answer
  number_answer_exact = made (answer_row decls) IsNumber answers.Number (λ n. refl) (λ n fits. fits) a_number (as_row wide_exact)

  values_exact : (word : Word) → IsExactRow (answer_row decls) (IsValue decls word) (value_of decls word)
  values_exact words.Cancel = flags_answer_exact
  values_exact words.Busy = flags_answer_exact
  values_exact words.CancelSync = truth_answer_exact
  values_exact words.Flush = truth_answer_exact
  values_exact words.Get = bytes_answer_exact
  values_exact words.Peek = bytes_answer_exact
  values_exact words.PeekAt = bytes_answer_exact
  values_exact words.Read = bytes_answer_exact
  values_exact words.Check = signal_answer_exact
  values_exact words.Poll = ready_answer_exact
  values_exact words.SubWait = channel_answer_exact
  values_exact word = number_answer_exact

  -- what is no name is no channel's
  no_channel : (row : List ℕ) → is_name row ≡ false → channel_answer decls row ≡ None
  no_channel row no_name =
      ap (λ o. option_map answers.Channel (option_and_then (λ object. cond (is_at is_chan decls object) (Some object) None) o)) (unnamed decls are row no_name)

  not_named : (why : OopsWhy) → is_name (oops_word why) ≡ false
  not_named whys.NoObject = refl
  not_named why = refl

  -- no check that failed is read as a value
  oops_no_value : (word : Word) (why : OopsWhy) → value_of decls word (oops_word why) ≡ None
  oops_no_value words.SubWait why = no_channel (oops_word why) (not_named why)
  oops_no_value word whys.NoObject = refl
  oops_no_value word why = refl

  oops_apart : (word : Word) (a : Answer) → IsOops a → value_of decls word (answer_row decls a) ≡ None
  oops_apart word (answers.Oops why) fits = oops_no_value word why
  oops_apart word a fits = absurd fits

  -- no refusal is read as a check that failed
  refusal_no_oops : (e : Errno) → oops_answer (errno_word e) ≡ None
  refusal_no_oops errnos.Busy = refl
  refusal_no_oops e = refl

  -- nor as a value
  refusal_no_value : (word : Word) → list_all (λ e. is_none (value_of decls word (errno_word e))) (refusals word) ≡ true
  refusal_no_value words.SubWait =
      let message = ap is_none (no_channel (errno_word errnos.NoMsg) refl) in
      let again = ap is_none (no_channel (errno_word errnos.Again) refl) in
      and_from (is_none (channel_answer decls (errno_word errnos.NoMsg))) (list_all (λ e. is_none (channel_answer decls (errno_word e))) (errnos.Again ∷ [])) message
      (and_from (is_none (channel_answer decls (errno_word errnos.Again))) true again refl)
  refusal_no_value words.Submit = refl
  refusal_no_value word = refl

  refusal_apart : (word : Word) (a : Answer) → IsRefusal word a → option_or (oops_answer (answer_row decls a)) (value_of decls word (answer_row decls a)) ≡ None
  refusal_apart word (answers.Refused errno) found =
      ap (λ o. option_or o (value_of decls word (errno_word errno))) (refusal_no_oops errno)
      ∙ none_is (value_of decls word (errno_word errno)) (all_in (λ e. is_none (value_of decls word (errno_word e))) (refusals word) errno (refusal_no_value word) found)
  refusal_apart word a fits = absurd fits

  -- the answer to a call that stands behind the sign
  pub answer_exact : (word : Word) → IsExactRow (answer_row decls) (FitsAnswer decls word) (answer_of decls word)
  answer_exact word = or_exact (refusal_exact word) (or_exact oops_answer_exact (values_exact word) (oops_apart word)) (refusal_apart word)

  -- the numbers of an answer's step fits its type
  abbrev FitsFront : ℕ × Word → Type 0
  FitsFront front = front.0 < 2 ^ 32

  answered_front_exact : AreExact answered_front FitsFront answered_front_of
  answered_front_exact = record {
    again = λ front fits. (two-there narrow_exact call_exact pair front.0 front.1 fits tt).0;
    spelled = two-says narrow_exact call_exact pair (λ ws front. (ws ≡ answered_front front) × FitsFront front) (λ step word small is. (refl, small));
    plain = λ front fits. (two-there narrow_exact call_exact pair front.0 front.1 fits tt).1;
  }

  -- the call and its answer that a line says
  pub answered_exact : IsExactRow (answered_row decls) (IsAnswered decls) (answered_of decls)
  answered_exact =
      sides_exact (answered_row decls) (IsAnswered decls) answered answered_front_exact refl (λ front fits. answer_exact front.1)
      (λ front answer. refl)
      (λ front answer small fits. record { step = small; answer = fits })
      (λ a fits. ((a.step, a.word), a.answer, refl, fits.step, fits.answer))

-- the line of an answer is its row and the feed
pub answer_line-fed : (decls : List Decl) (a : Answered) → answer_line decls a ≡ answered_row decls a ++ codes "\n"
answer_line-fed decls a = simp append_assoc

-- no row that begins with another byte than a digit is an answer's
pub answered_apart : (decls : List Decl) → AreNames decls → (row : List ℕ) → is_ascii_digit (get_or row 0 0) ≡ false → answered_of decls row ≡ None
answered_apart decls are row other =
    unsaid (answered_exact decls are) row (λ a fits is. false≢true (sym other ∙ ap (λ r. is_ascii_digit (get_or r 0 0)) is ∙ first a fits.step)) where
      digit : (word more : List ℕ) → 0 < length word → list_all is_ascii_digit word ≡ true → is_ascii_digit (get_or (word ++ more) 0 0) ≡ true
      digit [] more some digits = absurd (omega arith)
      digit (b ∷ bs) more some digits = (and_parts (is_ascii_digit b) (list_all is_ascii_digit bs) digits).0

      first : (a : Answered) → a.step < 2 ^ 32 → is_ascii_digit (get_or (answered_row decls a) 0 0) ≡ true
      first a small =
          ap (λ r. is_ascii_digit (get_or r 0 0)) (append_assoc (line_text (answered_front (a.step, a.word))) sign (answer_row decls a.answer) ∙ append_assoc (decimal a.step) (space ∷ call_word a.word) (sign ++ answer_row decls a.answer))
          ∙ digit (decimal a.step) ((space ∷ call_word a.word) ++ (sign ++ answer_row decls a.answer)) (decimal_nonempty a.step (omega arith)) (digits_decimal numerals a.step (omega arith))

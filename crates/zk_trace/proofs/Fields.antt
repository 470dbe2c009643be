-- Every kind of word of a trace is read exactly, and so are rows of several words.
use Rattle.std.proofs.Common.{◌≡◌, ℕ, ◌+◌, ◌-◌, ◌*◌, ◌/◌, ◌%◌, ◌^◌, ◌<◌, ◌≤◌, zero, suc, Bool, true, false, ◌&&◌, cond, eqb, Option, Some, None, List, [], ◌∷◌, ◌++◌, length, map, refl, sym, ap, subst, inl, inr, ◌∙◌, arith}
use Rattle.std.specs.Prelude.{option_map, option_and_then, bytes_eq, nat_le, nat_lt}
use Rattle.std.specs.Fmt.{decimal}
use Rattle.std.specs.List.{AllByRecursion, find, flat_map, list_all, range_with_len}
use Rattle.std.proofs.lemmas.Bool.{cases_Bool, cond-true, cond-false, false≢true, and_parts, and_from, or_cases, eqb-true, leb-true, le-leb, ltb-true, lt-ltb, le-ltb, agree_below_at}
use Rattle.std.proofs.lemmas.Option.{same_Some, none-some, cond_some, option_and_then_some}
use Rattle.std.proofs.lemmas.List.Splits.{join_with_byte-slice_split, length-slice_split}
use Rattle.std.proofs.lemmas.Slice.Eq.{bytes_eq-Decides}
use Rattle.zk_base.specs.declared.errors.Errno.{Errno}
use Rattle.zk_base.specs.declared.errors.Errno.TheVariants as errnos
use Rattle.zk_base.specs.declared.kinds.Need.{Need}
use Rattle.zk_base.specs.declared.kinds.Need.TheVariants as needs
use Rattle.zk_base.specs.Limits.{longest_message, most_few}
use Rattle.zk_base.specs.Messages.{is_message}
use Rattle.zk_base.proofs.Lists.{find-passes}
use Rattle.zk_model_bus.specs.declared.table.OopsWhy.{OopsWhy}
use Rattle.zk_model_bus.specs.declared.table.OopsWhy.TheVariants as whys
use Rattle.zk_words.specs.declared.slot.Choice.TheVariants.{State, Drain}
use Rattle.zk_words.specs.Bytes.{space, line_feed, digit_0, digit_9, letter_a, letter_f}
use Rattle.zk_words.specs.Hex.{is_digit, digit_value, digit_of, is_hex, bytes_of, msg_of, hex_text}
use Rattle.zk_words.specs.Numbers.{is_between}
use Rattle.zk_words.specs.Pieces.{words_of}
use Rattle.zk_words.specs.Spelled.{choice_text}
use Rattle.zk_words.specs.Text.{line_text}
use Rattle.zk_words.proofs.HexText.{msg_spelled}
use Rattle.zk_line.specs.declared.events.TheConstants.{MOST_EVENTS}
use Rattle.zk_line.specs.declared.types.Decl.{Decl}
use Rattle.zk_line.specs.Objects.{AreNames, name_at, number_of, object_of, is_thread, is_queue, is_chan, is_observer}
use Rattle.zk_line.proofs.Options.{one_part}
use Rattle.zk_trace.specs.Exact.{is_plain, IsPlain, IsUnfed, IsExact, IsExactRow}
use Rattle.zk_trace.specs.Fields.{named, both, all_errnos, all_needs, all_whys, errno_of, need_of, why_of, oops_of, truth_of, waits_of, plug_of, state_of, flags_of, each_of, up_to, target_of, checked_of, thread_of, chan_of, observer_of, observers_of, behind, narrow_of, ready_of, queue_of, IsTarget, IsChecked, IsOf, IsMessage, AreObservers, ArePositions}
use Rattle.zk_trace.specs.Names.{target_name, checked_name, name_behind, names_word}
use Rattle.zk_trace.specs.Parts.{each_behind}
use Rattle.zk_trace.specs.Words.{errno_word, need_word, why_word, oops_front, oops_word, flags_word, truth_word, wait_word, position_text, ready_front, ready_word}
use Rattle.zk_trace.proofs.Lines.{join-first}
use Rattle.zk_trace.proofs.NameWords.{unnamed, unnamed_of, object_exact, object_named_exact, queue_exact}
use Rattle.zk_trace.proofs.NumberWords.{fronted-again, fronted-spelled, narrow_exact}
use Rattle.zk_trace.proofs.PlainWords.{IsOfWords, plain_by, lacks_is, lacks_plain, lacks-append, words-line, unfed-line}

-- a word is a row of one
pub as_row : {A : Type 0} {text : A → List ℕ} {Fits : A → Type 0} {of : List ℕ → Option A} → IsExact text Fits of → IsExactRow text Fits of
as_row exact = record { again = exact.again; spelled = exact.spelled; unfed = λ a fits. lacks_plain line_feed refl _ (exact.plain a fits) }

-- what is made of what a row says
pub made : {A B : Type 0} {text : A → List ℕ} {Fits : A → Type 0} {of : List ℕ → Option A} (words : B → List ℕ) (FitsMade : B → Type 0) (make : A → B)
    → ((a : A) → words (make a) ≡ text a) → ((a : A) → Fits a → FitsMade (make a)) → ((b : B) → FitsMade b → (a : A) × (make a ≡ b) × Fits a)
    → IsExactRow text Fits of → IsExactRow words FitsMade (λ word. option_map make (of word))
made {A} {B} {text} {Fits} {of} words FitsMade make same fitting back exact = record { again = again; spelled = spelled; unfed = unfed } where
  again : (b : B) → FitsMade b → option_map make (of (words b)) ≡ Some b
  again b fits =
      let a = back b fits in
      subst (λ x. option_map make (of (words x)) ≡ Some x) a.1 (ap (λ w. option_map make (of w)) (same a.0) ∙ ap (option_map make) (exact.again a.0 a.2))

  spelled : (word : List ℕ) (b : B) → option_map make (of word) ≡ Some b → (word ≡ words b) × FitsMade b
  spelled word b said =
      let a = one_part make (of word) b said in
      let found = exact.spelled word a.0 a.1 in
      subst (λ x. (word ≡ words x) × FitsMade x) a.2 (found.0 ∙ sym (same a.0), fitting a.0 found.1)

  unfed : (b : B) → FitsMade b → IsUnfed (words b)
  unfed b fits =
      let a = back b fits in
      subst (λ x. IsUnfed (words x)) a.1 (subst IsUnfed (sym (same a.0)) (exact.unfed a.0 a.2))

-- where nothing fits, nothing is read
pub no_row : {A : Type 0} (text : A → List ℕ) → IsExactRow text (λ a. ⊥) (λ word. None)
no_row text = record { again = λ a fits. absurd fits; spelled = λ word a said. absurd (cc); unfed = λ a fits. absurd fits }

-- Words of a table.

-- what is found is among all
found-fits : {A : Type 0} (Fits : A → Type 0) (test : A → Bool) (all : List A) (a : A) → AllByRecursion Fits all → find test all ≡ Some a → Fits a
found-fits Fits test [] a each found = absurd (cc)
found-fits Fits test (x ∷ all) a each found = elim (cases_Bool (test x)) [
  | inl passes ↦ subst Fits (same_Some x a (sym (cond-true (test x) (Some x) (find test all) passes) ∙ found)) each.0
  | inr fails ↦ found-fits Fits test all a each.1 (sym (cond-false (test x) (Some x) (find test all) fails) ∙ found)
]

any_fits : {A : Type 0} (all : List A) → AllByRecursion (λ a. Unit {0}) all
any_fits [] = tt
any_fits (a ∷ all) = (tt, any_fits all)

module _ {A : Type 0} (text : A → List ℕ) (Fits : A → Type 0) (all : List A) (each : AllByRecursion Fits all) where
  named-spelled : (word : List ℕ) (a : A) → named text all word ≡ Some a → (word ≡ text a) × Fits a
  named-spelled word a said = (
    (bytes_eq-Decides word (text a)).0 (find-passes (λ x. bytes_eq word (text x)) all a said),
    found-fits Fits (λ x. bytes_eq word (text x)) all a each said,
  )

  named_fitting : ((a : A) → Fits a → named text all (text a) ≡ Some a) → ((a : A) → Fits a → IsPlain (text a)) → IsExact text Fits (named text all)
  named_fitting found plain = record { again = found; spelled = named-spelled; plain = plain }

-- a word of a table is read exactly, where each is found
pub named_exact : {A : Type 0} (text : A → List ℕ) (all : List A) → ((a : A) → (named text all (text a) ≡ Some a) × IsPlain (text a)) → IsExact text (λ a. Unit {0}) (named text all)
named_exact text all each =
    named_fitting text (λ a. Unit {0}) all (any_fits all) (λ a fits. (each a).0) (λ a fits. (each a).1)

-- a refusal
pub errno_exact : IsExact errno_word (λ e. Unit {0}) errno_of
errno_exact = named_exact errno_word all_errnos each where
  each : (e : Errno) → (errno_of (errno_word e) ≡ Some e) × IsPlain (errno_word e)
  each errnos.Busy = (refl, refl)
  each errnos.Again = (refl, refl)
  each errnos.Inval = (refl, refl)
  each errnos.NoDev = (refl, refl)
  each errnos.NoMsg = (refl, refl)
  each errnos.Already = (refl, refl)
  each errnos.Fault = (refl, refl)

-- a need
pub need_exact : IsExact need_word (λ n. Unit {0}) need_of
need_exact = named_exact need_word all_needs each where
  each : (n : Need) → (need_of (need_word n) ≡ Some n) × IsPlain (need_word n)
  each needs.Thread = (refl, refl)
  each needs.Sem = (refl, refl)
  each needs.Msgq = (refl, refl)
  each needs.Signal = (refl, refl)
  each needs.Queue = (refl, refl)
  each needs.Item = (refl, refl)
  each needs.Chan = (refl, refl)
  each needs.Sub = (refl, refl)
  each needs.Obs = (refl, refl)
  each needs.Any = (refl, refl)

-- why a check fails
pub why_exact : IsExact why_word (λ why. Unit {0}) why_of
why_exact = named_exact why_word all_whys each where
  each : (why : OopsWhy) → (why_of (why_word why) ≡ Some why) × IsPlain (why_word why)
  each whys.NoObject = (refl, refl)
  each whys.WrongKind = (refl, refl)
  each whys.NotGranted = (refl, refl)
  each whys.NotInit = (refl, refl)

-- that it fails, and why: two words
pub oops_exact : IsExactRow oops_word (λ why. Unit {0}) oops_of
oops_exact = record {
  again = λ why fits. fronted-again oops_front why_of (why_word why) ∙ why_exact.again why fits;
  spelled = spelled;
  unfed = λ why fits. lacks-append line_feed oops_front (why_word why) (lacks_is line_feed oops_front refl) (lacks_plain line_feed refl (why_word why) (why_exact.plain why fits));
} where
  spelled : (row : List ℕ) (why : OopsWhy) → oops_of row ≡ Some why → (row ≡ oops_word why) × Unit {0}
  spelled row why said =
      let found = fronted-spelled oops_front why_of row why said in
      (found.1 ∙ ap (λ l. oops_front ++ l) (why_exact.spelled found.0 why found.2).0, tt)

-- one of two words
either_exact : (text : Bool → List ℕ) → (named text both (text true) ≡ Some true) × IsPlain (text true) → (named text both (text false) ≡ Some false) × IsPlain (text false)
    → IsExact text (λ b. Unit {0}) (named text both)
either_exact text yes_is no_is = named_exact text both each where
  each : (b : Bool) → (named text both (text b) ≡ Some b) × IsPlain (text b)
  each true = yes_is
  each false = no_is

-- a truth value
pub truth_exact : IsExact truth_word (λ b. Unit {0}) truth_of
truth_exact = either_exact truth_word (refl, refl) (refl, refl)

-- whether a call waits
pub waits_exact : IsExact wait_word (λ b. Unit {0}) waits_of
waits_exact = either_exact wait_word (refl, refl) (refl, refl)

-- whether a drain plugs its queue
pub plug_exact : IsExact (choice_text Drain) (λ b. Unit {0}) plug_of
plug_exact = either_exact (choice_text Drain) (refl, refl) (refl, refl)

-- whether something is on
pub state_exact : IsExact (choice_text State) (λ b. Unit {0}) state_of
state_exact = either_exact (choice_text State) (refl, refl) (refl, refl)

-- the busy flags: all 32 are computed
pub flags_exact : IsExact flags_word (λ f. f < 32) flags_of
flags_exact = named_fitting flags_word (λ f. f < 32) (range_with_len 0 32) (within 0 32 (omega arith)) again plain where
  within : (from n : ℕ) → from + n ≤ 32 → AllByRecursion (λ f. f < 32) (range_with_len from n)
  within from zero most = tt
  within from (suc n) most = (omega arith, within (from + 1) n (omega arith))

  is_some_flag : ℕ → Option ℕ → Bool
  is_some_flag f None = false
  is_some_flag f (Some g) = eqb g f

  is_word : List ℕ → Bool
  is_word [] = false
  is_word (b ∷ bs) = list_all is_plain (b ∷ bs)

  said : (f : ℕ) (o : Option ℕ) → is_some_flag f o ≡ true → o ≡ Some f
  said f None is = absurd (false≢true is)
  said f (Some g) is = ap Some (eqb-true g f is)

  again : (f : ℕ) → f < 32 → flags_of (flags_word f) ≡ Some f
  again f small = said f (flags_of (flags_word f)) (agree_below_at (λ f. is_some_flag f (flags_of (flags_word f))) (λ f. true) 32 f refl small)

  word : (text : List ℕ) → is_word text ≡ true → IsPlain text
  word [] is = absurd (false≢true is)
  word (b ∷ bs) is = is

  plain : (f : ℕ) → f < 32 → IsPlain (flags_word f)
  plain f small = word (flags_word f) (agree_below_at (λ f. is_word (flags_word f)) (λ f. true) 32 f refl small)

-- Messages.

-- each digit is one, is worth its value, and may stand in a word
record IsDigitOf (n : ℕ) : Type 0 where
  digit : is_digit (digit_of n) ≡ true
  value : digit_value (digit_of n) ≡ n

digits_are : (n : ℕ) → n < 16 → IsDigitOf n
digits_are n small = record {
  digit = agree_below_at (λ n. is_digit (digit_of n)) (λ n. true) 16 n refl small;
  value = eqb-true (digit_value (digit_of n)) n (agree_below_at (λ n. eqb (digit_value (digit_of n)) n) (λ n. true) 16 n refl small);
}

hex_digits : (bytes : List ℕ) → AllByRecursion (λ b. b < 2 ^ 8) bytes → list_all is_digit (hex_text bytes) ≡ true
hex_digits [] each = refl
hex_digits (b ∷ bytes) each =
    let small = each.0 in
    let high = digits_are (b / 16) (omega arith) in
    let low = digits_are (b % 16) (omega arith) in
    and_from (is_digit (digit_of (b / 16))) (is_digit (digit_of (b % 16)) && list_all is_digit (hex_text bytes)) high.digit
    (and_from (is_digit (digit_of (b % 16))) (list_all is_digit (hex_text bytes)) low.digit (hex_digits bytes each.1))

hex_bytes : (bytes : List ℕ) → AllByRecursion (λ b. b < 2 ^ 8) bytes → bytes_of (hex_text bytes) ≡ bytes
hex_bytes [] each = refl
hex_bytes (b ∷ bytes) each =
    let small = each.0 in
    let high = digits_are (b / 16) (omega arith) in
    let low = digits_are (b % 16) (omega arith) in
    let high_is = high.value in
    let low_is = low.value in
    let same : digit_value (digit_of (b / 16)) * 16 + digit_value (digit_of (b % 16)) ≡ b = omega arith in
    ap (λ x. x ∷ bytes_of (hex_text bytes)) same ∙ ap (λ bs. b ∷ bs) (hex_bytes bytes each.1)

hex_length : (bytes : List ℕ) → length (hex_text bytes) ≡ 2 * length bytes
hex_length [] = refl
hex_length (b ∷ bytes) = omega (arith, hex_length bytes)

digit-small : (b : ℕ) → is_digit b ≡ true → digit_value b < 16
digit-small b is = elim (or_cases (is_between digit_0 digit_9 b) (is_between letter_a letter_f b) is) [
  | inl figure ↦
      let both = and_parts (nat_le digit_0 b) (nat_le b digit_9) figure in
      let most = leb-true b digit_9 both.1 in
      let value : digit_value b ≡ b - digit_0 = cond-true (nat_lt b letter_a) (b - digit_0) (b - letter_a + 10) (lt-ltb b letter_a (omega arith)) in
      omega arith
  | inr letter ↦
      let both = and_parts (nat_le letter_a b) (nat_le b letter_f) letter in
      let least = leb-true letter_a b both.0 in
      let most = leb-true b letter_f both.1 in
      let value : digit_value b ≡ b - letter_a + 10 = cond-false (nat_lt b letter_a) (b - digit_0) (b - letter_a + 10) (le-ltb b letter_a (omega arith)) in
      omega arith
]

bytes_small : (word : List ℕ) → list_all is_digit word ≡ true → AllByRecursion (λ b. b < 2 ^ 8) (bytes_of word)
bytes_small [] digits = tt
bytes_small (digit ∷ []) digits = tt
bytes_small (high ∷ low ∷ word) digits =
    let first = and_parts (is_digit high) (is_digit low && list_all is_digit word) digits in
    let second = and_parts (is_digit low) (list_all is_digit word) first.1 in
    let h = digit-small high first.0 in
    let l = digit-small low second.0 in
    (omega arith, bytes_small word second.1)

-- a message
pub message_exact : IsExact hex_text IsMessage msg_of
message_exact = record { again = again; spelled = spelled; plain = plain } where
  lengths : (message : List ℕ) → is_message message ≡ true → (1 ≤ length message) × (length message ≤ longest_message)
  lengths message is =
      let both = and_parts (nat_le 1 (length message)) (nat_le (length message) longest_message) is in
      (leb-true 1 (length message) both.0, leb-true (length message) longest_message both.1)

  hex : (message : List ℕ) → IsMessage message → is_hex (hex_text message) ≡ true
  hex message fits =
      let size = lengths message fits.size in
      let long = hex_length message in
      let half : length (hex_text message) % 2 ≡ 0 = omega (arith, size.0, size.1) in
      and_from (list_all is_digit (hex_text message) && eqb (length (hex_text message) % 2) 0) (nat_lt 0 (length (hex_text message)))
      (and_from (list_all is_digit (hex_text message)) (eqb (length (hex_text message) % 2) 0) (hex_digits message fits.bytes) (ap (λ n. eqb n 0) half))
      (lt-ltb 0 (length (hex_text message)) (omega (arith, size.0)))

  again : (message : List ℕ) → IsMessage message → msg_of (hex_text message) ≡ Some message
  again message fits =
      let size = lengths message fits.size in
      let long = hex_length message in
      cond-true (is_hex (hex_text message) && nat_le (length (hex_text message)) (2 * longest_message)) (Some (bytes_of (hex_text message))) None
      (and_from (is_hex (hex_text message)) (nat_le (length (hex_text message)) (2 * longest_message)) (hex message fits)
      (le-leb (length (hex_text message)) (2 * longest_message) (omega (arith, size.1)))) ∙ ap Some (hex_bytes message fits.bytes)

  spelled : (word message : List ℕ) → msg_of word ≡ Some message → (word ≡ hex_text message) × IsMessage message
  spelled word message said =
      let text = msg_spelled word message said in
      let found = cond_some (is_hex word && nat_le (length word) (2 * longest_message)) (bytes_of word) message said in
      let both = and_parts (is_hex word) (nat_le (length word) (2 * longest_message)) found.0 in
      let some = and_parts (list_all is_digit word && eqb (length word % 2) 0) (nat_lt 0 (length word)) both.0 in
      let digits = and_parts (list_all is_digit word) (eqb (length word % 2) 0) some.0 in
      let least = ltb-true 0 (length word) some.1 in
      let most = leb-true (length word) (2 * longest_message) both.1 in (
        text.0,
        record {
          size = and_from (nat_le 1 (length message)) (nat_le (length message) longest_message)
              (le-leb 1 (length message) (omega (arith, text.1))) (le-leb (length message) longest_message (omega (arith, text.1)));
          bytes = subst (AllByRecursion (λ b. b < 2 ^ 8)) found.1 (bytes_small word digits.0);
        },
      )

  plain : (message : List ℕ) → IsMessage message → IsPlain (hex_text message)
  plain message fits =
      let size = lengths message fits.size in
      let digits : IsOfWords is_digit = record { space = refl; line_feed = refl; equals = refl; colon = refl } in
      plain_by is_digit digits (hex_text message) (omega (arith, hex_length message, size.0)) (hex_digits message fits.bytes)

-- Names, and a mark in the place of one.

-- what is named, or marked where it isn't
module _ (text : Option ℕ → List ℕ) (Fits : Option ℕ → Type 0) (of : List ℕ → Option ℕ) (exact : IsExact (λ n. text (Some n)) (λ n. Fits (Some n)) of) where
  -- what the mark or a name says
  abbrev maybe_of : List ℕ → Option (Option ℕ)
  maybe_of word = cond (bytes_eq word (text None)) (Some None) (option_map Some (of word))

  maybe_exact : Fits None → IsPlain (text None) → of (text None) ≡ None → IsExact text Fits maybe_of
  maybe_exact mark_fits mark_plain unnamed = record { again = again; spelled = spelled; plain = plain } where
    apart : (n : ℕ) → Fits (Some n) → bytes_eq (text (Some n)) (text None) ≡ false
    apart n fits = elim (cases_Bool (bytes_eq (text (Some n)) (text None))) [
      | inl same ↦ absurd (none-some n (sym unnamed ∙ ap of (sym ((bytes_eq-Decides (text (Some n)) (text None)).0 same)) ∙ exact.again n fits))
      | inr differs ↦ differs
    ]

    again : (o : Option ℕ) → Fits o → maybe_of (text o) ≡ Some o
    again None fits = cond-true (bytes_eq (text None) (text None)) (Some None) (option_map Some (of (text None))) ((bytes_eq-Decides (text None) (text None)).1 refl)
    again (Some n) fits =
        cond-false (bytes_eq (text (Some n)) (text None)) (Some None) (option_map Some (of (text (Some n)))) (apart n fits)
        ∙ ap (option_map Some) (exact.again n fits)

    spelled : (word : List ℕ) (o : Option ℕ) → maybe_of word ≡ Some o → (word ≡ text o) × Fits o
    spelled word o said = elim (cases_Bool (bytes_eq word (text None))) [
      | inl is ↦ subst (λ x. (word ≡ text x) × Fits x)
          (same_Some None o (sym (cond-true (bytes_eq word (text None)) (Some None) (option_map Some (of word)) is) ∙ said))
          ((bytes_eq-Decides word (text None)).0 is, mark_fits)
      | inr other ↦
          let n = one_part Some (of word) o (sym (cond-false (bytes_eq word (text None)) (Some None) (option_map Some (of word)) other) ∙ said) in
          subst (λ x. (word ≡ text x) × Fits x) n.2 (exact.spelled word n.0 n.1)
    ]

    plain : (o : Option ℕ) → Fits o → IsPlain (text o)
    plain None fits = mark_plain
    plain (Some n) fits = exact.plain n fits

-- Rows of words of one kind.

-- what some words say, each of which is read exactly
module _ {A : Type 0} {text : A → List ℕ} {Fits : A → Type 0} {of : List ℕ → Option A}
    (again : (a : A) → Fits a → of (text a) ≡ Some a) (spelled : (word : List ℕ) (a : A) → of word ≡ Some a → (word ≡ text a) × Fits a) where
  pub each-again : (all : List A) → AllByRecursion Fits all → each_of of (map text all) ≡ Some all
  each-again [] fits = refl
  each-again (a ∷ all) fits =
      ap (option_and_then (λ x. option_map (λ more. x ∷ more) (each_of of (map text all)))) (again a fits.0)
      ∙ ap (option_map (λ more. a ∷ more)) (each-again all fits.1)

  pub each-spelled : (words : List (List ℕ)) (all : List A) → each_of of words ≡ Some all → (words ≡ map text all) × AllByRecursion Fits all
  each-spelled [] all said = subst (λ x. ([] ≡ map text x) × AllByRecursion Fits x) (same_Some [] all said) (refl, tt)
  each-spelled (word ∷ words) all said = option_and_then_some (λ x. option_map (λ more. x ∷ more) (each_of of words)) (of word) all said
      (λ a is given.
      let more = one_part (λ more. a ∷ more) (each_of of words) all given in
      let first = spelled word a is in
      let rest = each-spelled words more.0 more.1 in
      subst (λ x. (word ∷ words ≡ map text x) × AllByRecursion Fits x) more.2
      (ap (λ w. w ∷ words) first.0 ∙ ap (λ ws. text a ∷ ws) rest.0, (first.1, rest.1)))

-- what reads words reads them as words
pub each-plain : {A : Type 0} (text : A → List ℕ) (Fits : A → Type 0) → ((a : A) → Fits a → IsPlain (text a)) → (all : List A) → AllByRecursion Fits all → AllByRecursion IsPlain (map text all)
each-plain text Fits plain [] fits = tt
each-plain text Fits plain (a ∷ all) fits = (plain a fits.0, each-plain text Fits plain all fits.1)

-- no more than so many are all
up_to-again : {A : Type 0} (most : ℕ) (all : List A) → nat_le (length all) most ≡ true → up_to most all ≡ Some all
up_to-again most all few = cond-true (nat_le (length all) most) (Some all) None few

-- what stands behind its word
pub behind-again : (first : List ℕ) (words : List (List ℕ)) → behind first (first ∷ words) ≡ Some words
behind-again first words = cond-true (bytes_eq first first) (Some words) None ((bytes_eq-Decides first first).1 refl)

pub behind-spelled : (first : List ℕ) (words rest : List (List ℕ)) → behind first words ≡ Some rest → words ≡ first ∷ rest
behind-spelled first [] rest said = absurd (cc)
behind-spelled first (word ∷ words) rest said =
    let found = cond_some (bytes_eq word first) words rest said in
    ap (λ w. w ∷ words) ((bytes_eq-Decides word first).0 found.0) ∙ ap (λ ws. first ∷ ws) found.1

-- the numbers of a poll's ready events
ready-line : (positions : List ℕ) → ready_word positions ≡ line_text (ready_front ∷ map decimal positions)
ready-line positions = ap (λ l. ready_front ++ l) (by positions) ∙ sym (join-first space ready_front (map decimal positions)) where
  by : (positions : List ℕ) → flat_map position_text positions ≡ each_behind space (map decimal positions)
  by [] = refl
  by (p ∷ ps) = ap (λ l. position_text p ++ l) (by ps)

pub ready_exact : IsExactRow ready_word ArePositions ready_of
ready_exact = record { again = again; spelled = spelled; unfed = unfed } where
  words : (positions : List ℕ) → ArePositions positions → AllByRecursion IsPlain (ready_front ∷ map decimal positions)
  words positions fits = (refl, each-plain decimal (λ p. p < 2 ^ 32) narrow_exact.plain positions fits.each)

  again : (positions : List ℕ) → ArePositions positions → ready_of (ready_word positions) ≡ Some positions
  again positions fits =
      ap ready_of (ready-line positions)
      ∙ ap (λ ws. option_and_then (up_to MOST_EVENTS) (option_and_then (each_of narrow_of) (behind ready_front ws)))
      (words-line ready_front (map decimal positions) (words positions fits))
      ∙ ap (λ o. option_and_then (up_to MOST_EVENTS) (option_and_then (each_of narrow_of) o)) (behind-again ready_front (map decimal positions))
      ∙ ap (option_and_then (up_to MOST_EVENTS)) (each-again narrow_exact.again narrow_exact.spelled positions fits.each)
      ∙ up_to-again MOST_EVENTS positions fits.few

  spelled : (row : List ℕ) (positions : List ℕ) → ready_of row ≡ Some positions → (row ≡ ready_word positions) × ArePositions positions
  spelled row positions said = option_and_then_some (up_to MOST_EVENTS) (option_and_then (each_of narrow_of) (behind ready_front (words_of row))) positions said
      (λ all read fits. option_and_then_some (each_of narrow_of) (behind ready_front (words_of row)) all read
      (λ rest is each.
      let found = each-spelled narrow_exact.again narrow_exact.spelled rest all each in
      let few = cond_some (nat_le (length all) MOST_EVENTS) all positions fits in
      subst (λ x. (row ≡ ready_word x) × ArePositions x) few.1 (
        sym (join_with_byte-slice_split space row) ∙ ap line_text (behind-spelled ready_front (words_of row) rest is ∙ ap (λ ws. ready_front ∷ ws) found.0) ∙ sym (ready-line all),
        record { few = few.0; each = found.1 },
      )))

  unfed : (positions : List ℕ) → ArePositions positions → IsUnfed (ready_word positions)
  unfed positions fits = subst IsUnfed (sym (ready-line positions)) (unfed-line (ready_front ∷ map decimal positions) (words positions fits))

module _ (decls : List Decl) (are : AreNames decls) where
  -- the queue that a submission names, or none
  pub target_exact : IsExact (target_name decls) (IsTarget decls) (target_of decls)
  target_exact = maybe_exact (target_name decls) (IsTarget decls) (queue_of decls) (queue_exact decls are) tt refl
      (ap (option_map (number_of decls)) (unnamed_of decls are is_queue (target_name decls None) refl))

  -- the object that a check asks of, or none
  pub checked_exact : IsExact (checked_name decls) (IsChecked decls) (checked_of decls)
  checked_exact = maybe_exact (checked_name decls) (IsChecked decls) (object_of decls) (object_exact decls are) tt refl (unnamed decls are (checked_name decls None) refl)

  -- a thread
  pub thread_exact : IsExact (name_at decls) (IsOf is_thread decls) (thread_of decls)
  thread_exact = object_named_exact decls are is_thread

  -- a channel
  pub chan_exact : IsExact (name_at decls) (IsOf is_chan decls) (chan_of decls)
  chan_exact = object_named_exact decls are is_chan

  -- a subscriber or a listener
  pub observer_exact : IsExact (name_at decls) (IsOf is_observer decls) (observer_of decls)
  observer_exact = object_named_exact decls are is_observer

  names-line : (object : ℕ) (more : List ℕ) → names_word decls (object ∷ more) ≡ line_text (name_at decls object ∷ map (name_at decls) more)
  names-line object more = ap (λ l. name_at decls object ++ l) (by more) ∙ sym (join-first space (name_at decls object) (map (name_at decls) more)) where
    by : (more : List ℕ) → flat_map (name_behind decls) more ≡ each_behind space (map (name_at decls) more)
    by [] = refl
    by (o ∷ os) = ap (λ l. name_behind decls o ++ l) (by os)

  -- the observers that were told, or a mark
  pub observers_exact : IsExactRow (names_word decls) (AreObservers decls) (observers_of decls)
  observers_exact = record { again = again; spelled = spelled; unfed = unfed } where
    mark : List ℕ
    mark = names_word decls []

    others : List ℕ → Option (List ℕ)
    others row = option_and_then (up_to most_few) (each_of (observer_of decls) (words_of row))

    words : (told : List ℕ) → AreObservers decls told → AllByRecursion IsPlain (map (name_at decls) told)
    words told fits = each-plain (name_at decls) (IsOf is_observer decls) observer_exact.plain told fits.each

    read : (object : ℕ) (more : List ℕ) → AreObservers decls (object ∷ more) → others (names_word decls (object ∷ more)) ≡ Some (object ∷ more)
    read object more fits =
        ap others (names-line object more)
        ∙ ap (λ ws. option_and_then (up_to most_few) (each_of (observer_of decls) ws)) (words-line (name_at decls object) (map (name_at decls) more) (words (object ∷ more) fits))
        ∙ ap (option_and_then (up_to most_few)) (each-again observer_exact.again observer_exact.spelled (object ∷ more) fits.each)
        ∙ up_to-again most_few (object ∷ more) fits.few

    unmarked : others mark ≡ None
    unmarked = ap (λ o. option_and_then (up_to most_few) (option_and_then (λ x. Some (x ∷ [])) o)) (unnamed_of decls are is_observer mark refl)

    again : (told : List ℕ) → AreObservers decls told → observers_of decls (names_word decls told) ≡ Some told
    again [] fits = refl
    again (object ∷ more) fits = elim (cases_Bool (bytes_eq (names_word decls (object ∷ more)) mark)) [
      | inl same ↦ absurd (none-some (object ∷ more) (sym unmarked ∙ ap others (sym ((bytes_eq-Decides (names_word decls (object ∷ more)) mark).0 same)) ∙ read object more fits))
      | inr differs ↦ cond-false (bytes_eq (names_word decls (object ∷ more)) mark) (Some []) (others (names_word decls (object ∷ more))) differs ∙ read object more fits
    ]

    named : (row : List ℕ) (told : List ℕ) → words_of row ≡ map (name_at decls) told → AreObservers decls told → (row ≡ names_word decls told) × AreObservers decls told
    named row [] is fits = absurd (some_words row is)
      where
        some_words : (row : List ℕ) → words_of row ≡ [] → ⊥
        some_words row none = omega (arith, ap length none, length-slice_split (λ b. eqb b space) row)
    named row (object ∷ more) is fits =
        (sym (join_with_byte-slice_split space row) ∙ ap line_text is ∙ sym (names-line object more), fits)

    spelled : (row : List ℕ) (told : List ℕ) → observers_of decls row ≡ Some told → (row ≡ names_word decls told) × AreObservers decls told
    spelled row told said = elim (cases_Bool (bytes_eq row mark)) [
      | inl is ↦ subst (λ x. (row ≡ names_word decls x) × AreObservers decls x)
          (same_Some [] told (sym (cond-true (bytes_eq row mark) (Some []) (others row) is) ∙ said))
          ((bytes_eq-Decides row mark).0 is, record { few = refl; each = tt })
      | inr other ↦ option_and_then_some (up_to most_few) (each_of (observer_of decls) (words_of row)) told
          (sym (cond-false (bytes_eq row mark) (Some []) (others row) other) ∙ said)
          (λ all each fits.
          let found = each-spelled observer_exact.again observer_exact.spelled (words_of row) all each in
          let few = cond_some (nat_le (length all) most_few) all told fits in
          subst (λ x. (row ≡ names_word decls x) × AreObservers decls x) few.1 (named row all found.0 (record { few = few.0; each = found.1 })))
    ]

    unfed : (told : List ℕ) → AreObservers decls told → IsUnfed (names_word decls told)
    unfed [] fits = (refl, tt)
    unfed (object ∷ more) fits =
        subst IsUnfed (sym (names-line object more)) (unfed-line (name_at decls object ∷ map (name_at decls) more) (words (object ∷ more) fits))

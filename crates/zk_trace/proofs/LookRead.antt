-- The lines of looks are read exactly, where they don't fall by player and step.
use Rattle.std.proofs.Common.{◌≡◌, ℕ, ◌^◌, ◌<◌, Bool, true, false, eqb, get_or, Option, Some, None, List, [], ◌∷◌, ◌++◌, refl, sym, ap, ◌∙◌}
use Rattle.std.specs.Prelude.{bytes_eq, codes}
use Rattle.std.specs.Fmt.{decimal}
use Rattle.std.proofs.lemmas.Bool.{cond-true, false≢true}
use Rattle.std.proofs.lemmas.List.{append_assoc}
use Rattle.std.proofs.lemmas.Option.{cond_some}
use Rattle.std.proofs.lemmas.Slice.Eq.{bytes_eq-Decides}
use Rattle.zk_base.specs.declared.seen.Seen.{Seen}
use Rattle.zk_words.specs.Pieces.{words_of}
use Rattle.zk_words.specs.Text.{line_text}
use Rattle.zk_line.specs.declared.types.Decl.{Decl}
use Rattle.zk_line.specs.Objects.{AreNames, is_item, name_at}
use Rattle.zk_trace.specs.declared.looks.ItemLook.{ItemLook}
use Rattle.zk_trace.specs.declared.looks.SignalLook.{SignalLook}
use Rattle.zk_trace.specs.Exact.{IsPlain, IsExact, IsExactRow, AreExact}
use Rattle.zk_trace.specs.Fields.{both, three, two, object_named, narrow_of, short_of, IsOf}
use Rattle.zk_trace.specs.LookRead.{same_word, raised_of, stamp_of, can_be_seen, item_front, step_and_item, item_front_of, item_answer, item_answer_of, item_look, item_look_row, item_look_of, IsItemLook, item_may_stand, says_item_look, FitsItemLook, signal_front, step_alone, signal_front_of, signal_answer, seen_at, signal_look, signal_look_row, signal_look_of, IsSignalLook, signal_may_stand, says_signal_look, FitsSignalLook}
use Rattle.zk_trace.specs.Looks.{spot_word, look_word, busy_word, check_word, raised_word, stamp_front, stamp_word, item_look_line, signal_look_line}
use Rattle.zk_trace.specs.Sides.{pair}
use Rattle.zk_trace.specs.SpotRead.{step_of, IsStep}
use Rattle.zk_trace.proofs.Fields.{named_exact, flags_exact}
use Rattle.zk_trace.proofs.NameWords.{object_named_exact}
use Rattle.zk_trace.proofs.NumberWords.{fronted-again, fronted-spelled, wide_exact, narrow_exact, short_exact}
use Rattle.zk_trace.proofs.Sayings.{AreRead, two-there, two-says, three-there, three-says, behind-there, behind-says, plain_row_exact}
use Rattle.zk_trace.proofs.Sides.{sides_exact, kept_exact}
use Rattle.zk_trace.proofs.SpotRead.{step_exact}

-- a word that is the same in each line
pub same_exact : (this : List ℕ) → IsPlain this → IsExact (λ u. this) (λ u. Unit {0}) (same_word this)
same_exact this plain = record {
  again = λ u fits. cond-true (bytes_eq this this) (Some tt) None ((bytes_eq-Decides this this).1 refl);
  spelled = λ word u said. ((bytes_eq-Decides word this).0 (cond_some (bytes_eq word this) tt u said).0, tt);
  plain = λ u fits. plain;
}

-- whether a signal was raised
pub raised_exact : IsExact raised_word (λ b. Unit {0}) raised_of
raised_exact = named_exact raised_word both each where
  each : (b : Bool) → (raised_of (raised_word b) ≡ Some b) × IsPlain (raised_word b)
  each true = (refl, refl)
  each false = (refl, refl)

-- after how many entries or writes it was so
pub stamp_exact : {Fits : ℕ → Type 0} {of : List ℕ → Option ℕ} → IsExact decimal Fits of → IsExact stamp_word Fits (stamp_of of)
stamp_exact {Fits} {of} exact = record {
  again = λ n fits. fronted-again stamp_front of (decimal n) ∙ exact.again n fits;
  spelled = spelled;
  plain = λ n fits. plain (decimal n) (exact.plain n fits);
} where
  plain : (word : List ℕ) → IsPlain word → IsPlain (stamp_front ++ word)
  plain [] is = absurd is
  plain (b ∷ bs) is = is

  spelled : (word : List ℕ) (n : ℕ) → stamp_of of word ≡ Some n → (word ≡ stamp_word n) × Fits n
  spelled word n said =
      let found = fronted-spelled stamp_front of word n said in
      let exactly = exact.spelled found.0 n found.2 in
      (found.1 ∙ ap (λ l. stamp_front ++ l) exactly.0, exactly.1)

-- Looks at items.

module _ (decls : List Decl) (are : AreNames decls) where
  abbrev FitsItemFront : (ℕ × ℕ) × ℕ → Type 0
  FitsItemFront front = IsStep decls front.0 × IsOf is_item decls front.1

  item_front_exact : AreExact (item_front decls) FitsItemFront (item_front_of decls)
  item_front_exact = record { again = λ front fits. (there front fits).0; spelled = spelled; plain = λ front fits. (there front fits).1 } where
    of : List (List ℕ) → Option ((ℕ × ℕ) × ℕ)
    of = three step_and_item (step_of decls) (same_word busy_word) (object_named is_item decls)

    there : (front : (ℕ × ℕ) × ℕ) → FitsItemFront front → AreRead (item_front_of decls) (item_front decls front) front
    there front fits =
        behind-there look_word (three step_and_item (step_of decls) (same_word busy_word) (object_named is_item decls)) refl (spot_word decls front.0.0 front.0.1 ∷ busy_word ∷ name_at decls front.1 ∷ []) front
        (three-there (step_exact decls are) (same_exact busy_word refl) (object_named_exact decls are is_item) step_and_item front.0 tt front.1 fits.0 tt fits.1)

    spelled : (words : List (List ℕ)) (front : (ℕ × ℕ) × ℕ) → item_front_of decls words ≡ Some front → (words ≡ item_front decls front) × FitsItemFront front
    spelled =
        behind-says look_word (three step_and_item (step_of decls) (same_word busy_word) (object_named is_item decls)) (λ words front. (words ≡ item_front decls front) × FitsItemFront front)
        (three-says (step_exact decls are) (same_exact busy_word refl) (object_named_exact decls are is_item) step_and_item
        (λ words front. (look_word ∷ words ≡ item_front decls front) × FitsItemFront front) (λ step busy item known there of_kind. (refl, (known, of_kind))))

  abbrev FitsItemAnswer : ℕ × ℕ → Type 0
  FitsItemAnswer found = (found.0 < 32) × (found.1 < 2 ^ 64)

  item_answer_exact : IsExactRow (λ found. line_text (item_answer found)) FitsItemAnswer (λ row. item_answer_of (words_of row))
  item_answer_exact =
      plain_row_exact item_answer FitsItemAnswer item_answer_of refl
      (λ found fits. two-there flags_exact (stamp_exact wide_exact) pair found.0 found.1 fits.0 fits.1)
      (two-says flags_exact (stamp_exact wide_exact) pair (λ words found. (words ≡ item_answer found) × FitsItemAnswer found) (λ flags at few small. (refl, (few, small))))

  item_look_exact : IsExactRow (item_look_row decls) (IsItemLook decls) (item_look_of decls)
  item_look_exact =
      sides_exact (item_look_row decls) (IsItemLook decls) item_look item_front_exact refl (λ front fits. item_answer_exact)
      (λ front found. refl)
      (λ front found fits answers. record { player = fits.0.0; step = fits.0.1; item = fits.1; flags = answers.0; at = answers.1 })
      (λ look fits. (((look.player, look.step), look.item), (look.flags, look.at), refl, ((fits.player, fits.step), fits.item), (fits.flags, fits.at)))

  -- the look at an item that a line says behind the look before
  pub item_looks_exact : (last : Option ItemLook) → IsExactRow (item_look_row decls) (FitsItemLook decls last) (says_item_look decls last)
  item_looks_exact last = kept_exact (item_may_stand last) item_look_exact

-- Looks at signals.

module _ (decls : List Decl) (are : AreNames decls) where
  signal_front_exact : AreExact (signal_front decls) (IsStep decls) (signal_front_of decls)
  signal_front_exact = record { again = λ step fits. (there step fits).0; spelled = spelled; plain = λ step fits. (there step fits).1 } where
    there : (step : ℕ × ℕ) → IsStep decls step → AreRead (signal_front_of decls) (signal_front decls step) step
    there step fits =
        behind-there look_word (two step_alone (step_of decls) (same_word check_word)) refl (spot_word decls step.0 step.1 ∷ check_word ∷ []) step
        (two-there (step_exact decls are) (same_exact check_word refl) step_alone step tt fits tt)

    spelled : (words : List (List ℕ)) (step : ℕ × ℕ) → signal_front_of decls words ≡ Some step → (words ≡ signal_front decls step) × IsStep decls step
    spelled =
        behind-says look_word (two step_alone (step_of decls) (same_word check_word)) (λ words step. (words ≡ signal_front decls step) × IsStep decls step)
        (two-says (step_exact decls are) (same_exact check_word refl) step_alone
        (λ words step. (look_word ∷ words ≡ signal_front decls step) × IsStep decls step) (λ step check known there. (refl, known)))

  -- the numbers of what was seen fit their types
  abbrev FitsSeen : Seen → Type 0
  FitsSeen found = (found.result < 2 ^ 16) × (found.stamp < 2 ^ 32)

  seen_exact : IsExactRow (λ found. line_text (signal_answer found)) FitsSeen (λ row. three seen_at raised_of short_of (stamp_of narrow_of) (words_of row))
  seen_exact =
      plain_row_exact signal_answer FitsSeen (three seen_at raised_of short_of (stamp_of narrow_of)) refl
      (λ found fits. three-there raised_exact short_exact (stamp_exact narrow_exact) seen_at found.raised found.result found.stamp tt fits.0 fits.1)
      (three-says raised_exact short_exact (stamp_exact narrow_exact) seen_at (λ words found. (words ≡ signal_answer found) × FitsSeen found) (λ raised value stamp is few small. (refl, (few, small))))

  signal_look_exact : IsExactRow (signal_look_row decls) (IsSignalLook decls) (signal_look_of decls)
  signal_look_exact =
      sides_exact (signal_look_row decls) (IsSignalLook decls) signal_look signal_front_exact refl (λ step fits. kept_exact can_be_seen seen_exact)
      (λ step found. refl)
      (λ step found fits answers. record { player = fits.0; step = fits.1; seen = record { can_be = answers.0; result = answers.1.0; stamp = answers.1.1 } })
      (λ look fits. ((look.player, look.step), look.seen, refl, (fits.player, fits.step), (fits.seen.can_be, (fits.seen.result, fits.seen.stamp))))

  -- the look at a signal that a line says behind the look before
  pub signal_looks_exact : (last : Option SignalLook) → IsExactRow (signal_look_row decls) (FitsSignalLook decls last) (says_signal_look decls last)
  signal_looks_exact last = kept_exact (signal_may_stand last) signal_look_exact

-- Their printed lines.

-- the line of a look at an item is its row and the feed
pub item_look_line-fed : (decls : List Decl) (look : ItemLook) → item_look_line decls look ≡ item_look_row decls look ++ codes "\n"
item_look_line-fed decls look = simp append_assoc

-- the line of a look at a signal is its row and the feed
pub signal_look_line-fed : (decls : List Decl) (look : SignalLook) → signal_look_line decls look ≡ signal_look_row decls look ++ codes "\n"
signal_look_line-fed decls look = simp append_assoc

-- Other lines.

-- nothing is read of what no text is
pub unsaid : {A : Type 0} {text : A → List ℕ} {Fits : A → Type 0} {of : List ℕ → Option A} → IsExactRow text Fits of → (row : List ℕ) → ((a : A) → Fits a → row ≡ text a → ⊥) → of row ≡ None
unsaid {A} {text} {Fits} {of} exact row differs = by (of row) refl where
  by : (o : Option A) → of row ≡ o → o ≡ None
  by None is = refl
  by (Some a) is = let found = exact.spelled row a is in absurd (differs a found.1 found.0)

-- no row that begins with another byte than a look's is one
pub item_look_apart : (decls : List Decl) → AreNames decls → (last : Option ItemLook) (row : List ℕ) → eqb (get_or row 0 0) (get_or look_word 0 0) ≡ false → says_item_look decls last row ≡ None
item_look_apart decls are last row other =
    unsaid (item_looks_exact decls are last) row (λ look fits is. false≢true (sym other ∙ ap (λ r. eqb (get_or r 0 0) (get_or look_word 0 0)) is))

pub signal_look_apart : (decls : List Decl) → AreNames decls → (last : Option SignalLook) (row : List ℕ) → eqb (get_or row 0 0) (get_or look_word 0 0) ≡ false → says_signal_look decls last row ≡ None
signal_look_apart decls are last row other =
    unsaid (signal_looks_exact decls are last) row (λ look fits is. false≢true (sym other ∙ ap (λ r. eqb (get_or r 0 0) (get_or look_word 0 0)) is))

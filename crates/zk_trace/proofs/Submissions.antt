-- What became of submissions is read exactly, and so are delays that ended.
use Rattle.std.proofs.Common.{◌≡◌, ℕ, false, cond, eqb, Decides, Some, None, List, [], ◌∷◌, map, refl, sym, ap, subst, inl, inr, ◌∙◌}
use Rattle.std.specs.Prelude.{option_map, option_and_then, bytes_eq}
use Rattle.std.specs.List.{AllByRecursion, join_with_byte}
use Rattle.std.proofs.lemmas.Bool.{cases_Bool, cond-true, cond-false}
use Rattle.std.proofs.lemmas.Option.{none-some, option_and_then_some}
use Rattle.std.proofs.lemmas.List.Splits.{join_with_byte-slice_split}
use Rattle.std.proofs.lemmas.Slice.Eq.{bytes_eq-Decides, slice_eq-Decides}
use Rattle.zk_blocks.specs.Choices.{IsIn}
use Rattle.zk_blocks.specs.Exact as block
use Rattle.zk_blocks.proofs.Apart.{differ}
use Rattle.zk_blocks.proofs.Choices.{written, else_again, either}
use Rattle.zk_words.specs.Bytes.{colon}
use Rattle.zk_words.specs.Pieces.{pieces_between}
use Rattle.zk_line.specs.declared.types.Decl.{Decl}
use Rattle.zk_line.specs.Objects.{AreNames}
use Rattle.zk_line.proofs.Options.{one_part}
use Rattle.zk_model_work.specs.declared.ops.Expiry.{Expiry}
use Rattle.zk_model_work.specs.declared.ops.Submitted.{Submitted}
use Rattle.zk_model_work.specs.declared.ops.Submitted.TheVariants as submissions
use Rattle.zk_trace.specs.declared.parts.FixedWord.TheVariants.{One, Two}
use Rattle.zk_trace.specs.Exact.{is_plain, IsPlain, Lacks}
use Rattle.zk_trace.specs.Fields.{two, admission_of, item_of, queue_of}
use Rattle.zk_trace.specs.Names.{item_name}
use Rattle.zk_trace.specs.Parts.{fixed_word}
use Rattle.zk_trace.specs.Work.{expiry_word}
use Rattle.zk_trace.specs.WorkRead.{submitted_words, admitted_of, FitsAdmitted, fixed_submissions, words_eq, submission_of, IsSubmission, expiry, expiry_by, expiry_of, IsExpiry}
use Rattle.zk_trace.proofs.NameWords.{item_exact, queue_exact}
use Rattle.zk_trace.proofs.NumberWords.{admission_exact}
use Rattle.zk_trace.proofs.PlainWords.{lacks-join, each_lacks, pieces-join}
use Rattle.zk_trace.proofs.Sayings.{AreRead, two-there, two-says, unread-none}

module _ (decls : List Decl) (are : AreNames decls) where
  -- what was admitted
  pub admitted-there : (s : Submitted) → FitsAdmitted decls s → AreRead (admitted_of decls) (submitted_words decls s) s
  admitted-there (submissions.Fresh admission queue) fits =
      let said = two-there admission_exact (queue_exact decls are) submissions.Fresh admission queue fits.0 fits.1 in (said.0, (refl, said.1))
  admitted-there (submissions.Rerun admission queue) fits =
      let said = two-there admission_exact (queue_exact decls are) submissions.Rerun admission queue fits.0 fits.1 in (said.0, (refl, said.1))
  admitted-there s fits = absurd fits

  abbrev Admits : List (List ℕ) → Submitted → Type 0
  Admits words s = (words ≡ submitted_words decls s) × FitsAdmitted decls s

  pub admitted-says : (words : List (List ℕ)) (s : Submitted) → admitted_of decls words ≡ Some s → Admits words s
  admitted-says [] s said = absurd (none-some s said)
  admitted-says (answer ∷ words) s said = elim (cases_Bool (bytes_eq answer (fixed_word One))) [
    | inl one ↦
        subst (λ a. Admits (a ∷ words) s) (sym ((bytes_eq-Decides answer (fixed_word One)).0 one))
        (two-says admission_exact (queue_exact decls are) submissions.Fresh (λ ws. Admits (fixed_word One ∷ ws)) (λ admission queue small there. (refl, (small, there))) words s
        (sym (cond-true (bytes_eq answer (fixed_word One)) (two submissions.Fresh admission_of (queue_of decls) words) _ one) ∙ said))
    | inr other ↦ again (sym (cond-false (bytes_eq answer (fixed_word One)) (two submissions.Fresh admission_of (queue_of decls) words) _ other) ∙ said)
  ] where
    again : cond (bytes_eq answer (fixed_word Two)) (two submissions.Rerun admission_of (queue_of decls) words) None ≡ Some s → Admits (answer ∷ words) s
    again said = elim (cases_Bool (bytes_eq answer (fixed_word Two))) [
      | inl two_is ↦
          subst (λ a. Admits (a ∷ words) s) (sym ((bytes_eq-Decides answer (fixed_word Two)).0 two_is))
          (two-says admission_exact (queue_exact decls are) submissions.Rerun (λ ws. Admits (fixed_word Two ∷ ws)) (λ admission queue small there. (refl, (small, there))) words s
          (sym (cond-true (bytes_eq answer (fixed_word Two)) (two submissions.Rerun admission_of (queue_of decls) words) None two_is) ∙ said))
      | inr none ↦ absurd (none-some s (sym (cond-false (bytes_eq answer (fixed_word Two)) (two submissions.Rerun admission_of (queue_of decls) words) None none) ∙ said))
    ]

  admitted_exact : block.IsExact (submitted_words decls) (FitsAdmitted decls) (admitted_of decls)
  admitted_exact = record { again = λ s fits. (admitted-there s fits).0; spelled = admitted-says }

  same_words : (a b : List (List ℕ)) → Decides (words_eq a b) (a ≡ b)
  same_words a b = slice_eq-Decides bytes_eq-Decides a b (words_eq a b) refl

  -- what became of a submission by nobody
  submission-again : (s : Submitted) → IsSubmission decls s → submission_of decls (submitted_words decls s) ≡ Some s
  submission-again s (inl found) = written same_words admitted_exact fixed_submissions (differ same_words (map (submitted_words decls) fixed_submissions) refl) s found
  submission-again s (inr fits) =
      else_again same_words admitted_exact fixed_submissions s fits
      (unread-none (submitted_words decls) (admitted_of decls) fixed_submissions (submitted_words decls s) s (admitted-there s fits).0 refl)

  submission-says : (words : List (List ℕ)) (s : Submitted) → submission_of decls words ≡ Some s → (words ≡ submitted_words decls s) × IsSubmission decls s
  submission-says words s said = either same_words admitted_exact fixed_submissions words s said

  fixed-plain : (s : Submitted) → IsIn s fixed_submissions → AllByRecursion IsPlain (submitted_words decls s)
  fixed-plain s (inl is) = subst (λ x. AllByRecursion IsPlain (submitted_words decls x)) (sym is) (refl, tt)
  fixed-plain s (inr (inl is)) = subst (λ x. AllByRecursion IsPlain (submitted_words decls x)) (sym is) (refl, tt)
  fixed-plain s (inr (inr (inl is))) = subst (λ x. AllByRecursion IsPlain (submitted_words decls x)) (sym is) (refl, tt)
  fixed-plain s (inr (inr (inr none))) = absurd none

  submission-plain : (s : Submitted) → IsSubmission decls s → AllByRecursion IsPlain (submitted_words decls s)
  submission-plain s (inl found) = fixed-plain s found
  submission-plain s (inr fits) = (admitted-there s fits).1

  -- a delay that ended
  expiry-words : (e : Expiry) → IsExpiry decls e → AllByRecursion IsPlain (item_name decls e.item ∷ submitted_words decls e.submitted)
  expiry-words e fits = ((item_exact decls are).plain e.item fits.0, submission-plain e.submitted fits.1)

  pub expiry-again : (e : Expiry) → IsExpiry decls e → expiry_of decls (expiry_word decls e) ≡ Some e
  expiry-again e fits =
      ap (expiry_by decls) (pieces-join colon (item_name decls e.item) (submitted_words decls e.submitted) (each_lacks colon refl (item_name decls e.item ∷ submitted_words decls e.submitted) (expiry-words e fits)))
      ∙ ap (option_and_then (λ i. option_map (λ s. expiry i s) (submission_of decls (submitted_words decls e.submitted)))) ((item_exact decls are).again e.item fits.0)
      ∙ ap (option_map (λ s. expiry e.item s)) (submission-again e.submitted fits.1)

  pub expiry-says : (word : List ℕ) (e : Expiry) → expiry_of decls word ≡ Some e → (word ≡ expiry_word decls e) × IsExpiry decls e
  expiry-says word e said = by (pieces_between colon word) (join_with_byte-slice_split colon word) said where
    by : (pieces : List (List ℕ)) → join_with_byte colon pieces ≡ word → expiry_by decls pieces ≡ Some e → (word ≡ expiry_word decls e) × IsExpiry decls e
    by [] whole said = absurd (none-some e said)
    by (item ∷ words) whole said = option_and_then_some (λ i. option_map (λ s. expiry i s) (submission_of decls words)) (item_of decls item) e said
        (λ i is more.
        let s = one_part (λ s. expiry i s) (submission_of decls words) e more in
        let name = (item_exact decls are).spelled item i is in
        let found = submission-says words s.0 s.1 in
        subst (λ x. (word ≡ expiry_word decls x) × IsExpiry decls x) s.2
        (sym whole ∙ ap (λ w. join_with_byte colon (w ∷ words)) name.0 ∙ ap (λ ws. join_with_byte colon (item_name decls i ∷ ws)) found.0, (name.1, found.1)))

  -- what isn't in words isn't in it, but for the colons
  pub expiry-lacks : (c : ℕ) → is_plain c ≡ false → eqb colon c ≡ false → (e : Expiry) → IsExpiry decls e → Lacks c (expiry_word decls e)
  expiry-lacks c fails differ e fits =
      lacks-join c colon differ (item_name decls e.item ∷ submitted_words decls e.submitted) (each_lacks c fails (item_name decls e.item ∷ submitted_words decls e.submitted) (expiry-words e fits))

  pub expiries-lack : (c : ℕ) → is_plain c ≡ false → eqb colon c ≡ false → (ended : List Expiry) → AllByRecursion (IsExpiry decls) ended → AllByRecursion (Lacks c) (map (expiry_word decls) ended)
  expiries-lack c fails differ [] fits = tt
  expiries-lack c fails differ (e ∷ ended) fits = (expiry-lacks c fails differ e fits.0, expiries-lack c fails differ ended fits.1)

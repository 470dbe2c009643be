-- A head and what it tells of are read exactly, where that may be absent, and is where nothing may stand.
use Rattle.std.proofs.Common.{◌≡◌, Bool, true, false, true≢false, Option, Some, None, List, [], ◌∷◌, ◌++◌, length, length-append, arith, refl, sym, ap, subst, inl, inr, ◌∙◌}
use Rattle.std.proofs.lemmas.Bool.{cases_Bool, cond-true, cond-false}
use Rattle.std.proofs.lemmas.Option.{same_Some, none-some}
use Rattle.zk_blocks.specs.Blocks.{FirstIs, Reading, IsBlock, kept_of, FitsKept}
use Rattle.zk_blocks.specs.Heads.{IsHead, IsHeadOr}
use Rattle.zk_blocks.specs.Sections.{behind_of, headed_by, headed_of, headed_lines, FitsHeaded, IsNothing}
use Rattle.zk_blocks.proofs.Blocks.{pair, never_longer}
use Rattle.zk_blocks.proofs.Made.{kept}

-- what fits does so also behind a head, where nothing else than nothing fits if nothing may stand
pub fits_headed : {A : Type 0} {none : A} {Fits : A → Type 0} (may : Bool) → (may ≡ false → (a : A) → Fits a → a ≡ none) → (a : A) → Fits a → FitsHeaded may none Fits a
fits_headed may only a fits = (fits, λ not. only not a fits)

module _ {H L A : Type 0} {head : A → L} {lines_of : A → List L} {Fits : A → Type 0} {head_of : L → Option H} {Tells : H → A → Type 0}
    {read : H → List L → Reading L A} {Inner Behind : L → Type 0} {none : A} {stands : A → Bool}
    (inner : (line : L) (h : H) → head_of line ≡ Some h → IsBlock lines_of (λ a. Fits a × Tells h a) (read h) Inner Behind) (empty : IsNothing none stands Fits)
    (heads : IsHead head (FitsKept stands Fits) head_of Tells) (not_behind : (line : L) (h : H) → head_of line ≡ Some h → Behind line → ⊥) where
  abbrev reading : Bool → List L → Reading L A
  reading may lines = headed_of may head_of none stands read lines

  abbrev text : A → List L
  text a = headed_lines head stands lines_of a

  abbrev FitsSo : Bool → A → Type 0
  FitsSo may a = FitsHeaded may none Fits a

  within : (line : L) (h : H) → head_of line ≡ Some h → IsBlock lines_of (FitsKept stands (λ a. Fits a × Tells h a)) (λ lines. kept_of stands (read h lines)) Inner Behind
  within line h known = kept (inner line h known) stands

  no_head : (line : L) → Behind line → head_of line ≡ None
  no_head line behind = by (head_of line) refl where
    by : (o : Option H) → head_of line ≡ o → o ≡ None
    by None is = refl
    by (Some h) is = absurd (not_behind line h is behind)

  text-there : (a : A) → stands a ≡ true → text a ≡ head a ∷ lines_of a
  text-there a is = cond-true (stands a) (head a ∷ lines_of a) [] is

  text-absent : (a : A) → stands a ≡ false → text a ≡ []
  text-absent a is = cond-false (stands a) (head a ∷ lines_of a) [] is

  there_again : (may : Bool) (a : A) (h : H) (more : List L) → FitsSo may a → stands a ≡ true → head_of (head a) ≡ Some h → Tells h a → FirstIs Behind more →
      behind_of may stands (read h) (head a) (lines_of a ++ more) ≡ (Some a, more)
  there_again true a h more fits is known tells behind = (within (head a) h known).again a more ((fits.0, tells), is) behind
  there_again false a h more fits is known tells behind = absurd (true≢false (sym is ∙ ap stands (fits.1 refl) ∙ empty.absent))

  absent_again : (may : Bool) (more : List L) → FirstIs Behind more → reading may more ≡ (Some none, more)
  absent_again may [] behind = refl
  absent_again may (line ∷ more) behind = ap (λ o. headed_by may none stands read o line more) (no_head line behind)

  again : (may : Bool) (a : A) (more : List L) → FitsSo may a → FirstIs Behind more → reading may (text a ++ more) ≡ (Some a, more)
  again may a more fits behind = elim (cases_Bool (stands a)) [
    | inl is ↦
        let known = heads.again a (fits.0, is) in
        ap (λ ls. reading may (ls ++ more)) (text-there a is) ∙ ap (λ o. headed_by may none stands read o (head a) (lines_of a ++ more)) known.1
        ∙ there_again may a known.0 more fits is known.1 known.2 behind
    | inr is ↦ ap (λ ls. reading may (ls ++ more)) (text-absent a is) ∙ absent_again may more behind ∙ pair (ap Some (sym (empty.only a is))) refl
  ]

  opens : (may : Bool) (a : A) (more : List L) → FitsSo may a → FirstIs Behind more → FirstIs (IsHeadOr head_of Behind) (text a ++ more)
  opens may a more fits behind = elim (cases_Bool (stands a)) [
    | inl is ↦
        let known = heads.again a (fits.0, is) in
        subst (λ ls. FirstIs (IsHeadOr head_of Behind) (ls ++ more)) (sym (text-there a is)) (inl (known.0, known.1))
    | inr is ↦ subst (λ ls. FirstIs (IsHeadOr head_of Behind) (ls ++ more)) (sym (text-absent a is)) (behind_opens more behind)
  ] where
    behind_opens : (more : List L) → FirstIs Behind more → FirstIs (IsHeadOr head_of Behind) more
    behind_opens [] behind = tt
    behind_opens (line ∷ more) behind = inr behind

  absent_spelled : (may : Bool) (lines more : List L) (a : A) → ◌≡◌ {A = Reading L A} (Some none, lines) (Some a, more) → (lines ≡ text a ++ more) × FitsSo may a
  absent_spelled may lines more a is =
      subst (λ x. (lines ≡ text x ++ more) × FitsSo may x) (same_Some none a (ap (λ r. r.0) is))
      (ap (λ r. r.1) is ∙ ap (λ ls. ls ++ more) (sym (text-absent none empty.absent)), (empty.fits, λ not. refl))

  there_spelled : (may : Bool) (line : L) (h : H) (lines more : List L) (a : A) → head_of line ≡ Some h → behind_of may stands (read h) line lines ≡ (Some a, more) →
      (line ∷ lines ≡ text a ++ more) × FitsSo may a
  there_spelled true line h lines more a known is =
      let there = (within line h known).spelled lines more a is in (
        ap (λ l. l ∷ lines) (heads.spelled line h a known there.1.0.1) ∙ ap (λ ls. head a ∷ ls) there.0 ∙ ap (λ ls. ls ++ more) (sym (text-there a there.1.1)),
        (there.1.0.0, λ not. absurd (true≢false not)),
      )
  there_spelled false line h lines more a known is = absurd (none-some a (ap (λ r. r.0) is))

  spelled : (may : Bool) (lines more : List L) (a : A) → reading may lines ≡ (Some a, more) → (lines ≡ text a ++ more) × FitsSo may a
  spelled may [] more a is = absent_spelled may [] more a is
  spelled may (line ∷ lines) more a is = by (head_of line) refl is where
    by : (o : Option H) → head_of line ≡ o → headed_by may none stands read o line lines ≡ (Some a, more) → (line ∷ lines ≡ text a ++ more) × FitsSo may a
    by None known is = absent_spelled may (line ∷ lines) more a is
    by (Some h) known is = there_spelled may line h lines more a known is

  there_left : (may : Bool) (h : H) (line : L) (lines : List L) → head_of line ≡ Some h → (before : List L) × (line ∷ lines ≡ before ++ (behind_of may stands (read h) line lines).1)
  there_left true h line lines known = let there = (within line h known).left lines in (line ∷ there.0, ap (λ ls. line ∷ ls) there.1)
  there_left false h line lines known = ([], refl)

  left : (may : Bool) (lines : List L) → (before : List L) × (lines ≡ before ++ (reading may lines).1)
  left may [] = ([], refl)
  left may (line ∷ lines) = by (head_of line) refl where
    by : (o : Option H) → head_of line ≡ o → (before : List L) × (line ∷ lines ≡ before ++ (headed_by may none stands read o line lines).1)
    by None known = ([], refl)
    by (Some h) known = there_left may h line lines known

  -- the head is the line ahead: it is left only where it isn't passed
  head_ahead : (may : Bool) (h : H) (line : L) (more other : List L) (o : Option A) → head_of line ≡ Some h →
      behind_of may stands (read h) line more ≡ (o, line ∷ more) → behind_of may stands (read h) line other ≡ (o, line ∷ other)
  head_ahead true h line more other o known is =
      let there = (within line h known).left more in never_longer line more there.0 (kept_of stands (read h more)).1 there.1 (ap (λ r. r.1) is)
  head_ahead false h line more other o known is = pair (ap (λ r. r.0) is) refl

  -- the line ahead is behind the head, which is passed
  there_ahead : (may : Bool) (h : H) (b : L) (before more other : List L) (line : L) (o : Option A) → head_of b ≡ Some h →
      behind_of may stands (read h) b (before ++ line ∷ more) ≡ (o, line ∷ more) → behind_of may stands (read h) b (before ++ line ∷ other) ≡ (o, line ∷ other)
  there_ahead true h b before more other line o known is = (within b h known).one_ahead before more other line o is
  there_ahead false h b before more other line o known is = absurd (omega (arith, ap (λ r. length r.1) is, length-append (b ∷ before) (line ∷ more)))

  ahead : (may : Bool) (before more other : List L) (line : L) (o : Option A) →
      reading may (before ++ line ∷ more) ≡ (o, line ∷ more) → reading may (before ++ line ∷ other) ≡ (o, line ∷ other)
  ahead may [] more other line o is = by (head_of line) refl is where
    by : (p : Option H) → head_of line ≡ p → headed_by may none stands read p line more ≡ (o, line ∷ more) → headed_by may none stands read p line other ≡ (o, line ∷ other)
    by None known is = pair (ap (λ r. r.0) is) refl
    by (Some h) known is = head_ahead may h line more other o known is
  ahead may (b ∷ before) more other line o is = by (head_of b) refl is where
    by : (p : Option H) → head_of b ≡ p → headed_by may none stands read p b (before ++ line ∷ more) ≡ (o, line ∷ more) →
        headed_by may none stands read p b (before ++ line ∷ other) ≡ (o, line ∷ other)
    by None known is = absurd (omega (arith, ap (λ r. length r.1) is, length-append (b ∷ before) (line ∷ more)))
    by (Some h) known is = there_ahead may h b before more other line o known is

  -- a head and what it tells of are read exactly, or that both are absent, where no head can be among the lines behind. Where
  -- nothing may stand both are absent, and a head is left
  pub headed : (may : Bool) → IsBlock text (FitsSo may) (reading may) (IsHeadOr head_of Behind) Behind
  headed may = record {
    again = again may;
    spelled = spelled may;
    opens = opens may;
    left = left may;
    one_ahead = ahead may;
  }

-- Just so many rows are read exactly, whatever is behind them; and so are rows of which a number may be given.
use Rattle.std.proofs.Common.{◌≡◌, ℕ, zero, suc, Option, Some, None, List, [], ◌∷◌, ◌++◌, map, length, length-append, arith, refl, sym, ap, subst, ◌∙◌}
use Rattle.std.proofs.lemmas.Option.{same_Some, none-some}
use Rattle.zk_blocks.specs.Blocks.{FirstIs, Reading, IsBlock, made_of}
use Rattle.zk_blocks.specs.Rows.{put_just, just_rows, counted_rows, AreCounted, AllFit, IsRow}
use Rattle.zk_blocks.proofs.Blocks.{pair, same_end, never_longer, same_fits}
use Rattle.zk_blocks.proofs.Rows.{rows}

-- what is made of what was read leaves the same lines
pub made-left : {L A B : Type 0} (make : A → B) (r : Reading L A) → (made_of make r).1 ≡ r.1
made-left make (None, left) = refl
made-left make (Some a, left) = refl

-- and is made of the same where others are left
pub made-other : {L A B : Type 0} (make : A → B) (r : Reading L A) (o : Option B) (left other : List L) → made_of make r ≡ (o, left) → made_of make (r.0, other) ≡ (o, other)
made-other make (None, rest) o left other is = pair (ap (λ r. r.0) is) refl
made-other make (Some a, rest) o left other is = pair (ap (λ r. r.0) is) refl

module _ {L X : Type 0} {text : X → L} {Fits : Option X → X → Type 0} {says : Option X → L → Option X} (row : IsRow text Fits says) where
  just_again : (n : ℕ) (xs : List X) (last : Option X) (more : List L) → AllFit Fits last xs → length xs ≡ n → just_rows says n last (map text xs ++ more) ≡ (Some xs, more)
  just_again zero [] last more fits many = refl
  just_again zero (x ∷ xs) last more fits many = absurd (omega (arith, many))
  just_again (suc n) [] last more fits many = absurd (omega (arith, many))
  just_again (suc n) (x ∷ xs) last more fits many =
      ap (λ o. put_just o (text x) (map text xs ++ more) (λ y. just_rows says n (Some y) (map text xs ++ more))) (row.again last x fits.0)
      ∙ ap (made_of (λ ys. x ∷ ys)) (just_again n xs (Some x) more fits.1 (omega (arith, many)))

  abbrev IsSpelledRest : ℕ → List L → X → Type 0
  IsSpelledRest n lines x = (left : List L) (ys : List X) → just_rows says n (Some x) lines ≡ (Some ys, left) → (lines ≡ map text ys ++ left) × (AllFit Fits (Some x) ys × (length ys ≡ n))

  just_spelled : (n : ℕ) (lines : List L) (last : Option X) (more : List L) (xs : List X) → just_rows says n last lines ≡ (Some xs, more) →
      (lines ≡ map text xs ++ more) × (AllFit Fits last xs × (length xs ≡ n))
  just_spelled zero lines last more xs is =
      subst (λ ys. (lines ≡ map text ys ++ more) × (AllFit Fits last ys × (length ys ≡ zero))) (same_Some [] xs (ap (λ r. r.0) is)) (ap (λ r. r.1) is, (tt, refl))
  just_spelled (suc n) [] last more xs is = absurd (none-some xs (ap (λ r. r.0) is))
  just_spelled (suc n) (line ∷ lines) last more xs is = by (says last line) refl (λ x. just_spelled n lines (Some x)) is where
    on : (x : X) → says last line ≡ Some x → IsSpelledRest n lines x → (r : Reading L (List X)) → just_rows says n (Some x) lines ≡ r → made_of (λ ys. x ∷ ys) r ≡ (Some xs, more) →
        (line ∷ lines ≡ map text xs ++ more) × (AllFit Fits last xs × (length xs ≡ suc n))
    on x said more_rows (None, left) rest is = absurd (none-some xs (ap (λ r. r.0) is))
    on x said more_rows (Some ys, left) rest is =
        let here = row.spelled last line x said in
        let there = more_rows left ys rest in
        subst (λ zs. (line ∷ lines ≡ map text zs ++ more) × (AllFit Fits last zs × (length zs ≡ suc n))) (same_Some (x ∷ ys) xs (ap (λ r. r.0) is)) (
          ap (λ l. l ∷ lines) here.0 ∙ ap (λ ls. text x ∷ ls) (there.0 ∙ ap (λ ls. map text ys ++ ls) (ap (λ r. r.1) is)),
          ((here.1, there.1.0), omega (arith, there.1.1)),
        )

    by : (o : Option X) → says last line ≡ o → ((x : X) → IsSpelledRest n lines x) → put_just o line lines (λ x. just_rows says n (Some x) lines) ≡ (Some xs, more) →
        (line ∷ lines ≡ map text xs ++ more) × (AllFit Fits last xs × (length xs ≡ suc n))
    by None said rest is = absurd (none-some xs (ap (λ r. r.0) is))
    by (Some x) said rest is = on x said (rest x) (just_rows says n (Some x) lines) refl is

  just_left : (n : ℕ) (lines : List L) (last : Option X) → (before : List L) × (lines ≡ before ++ (just_rows says n last lines).1)
  just_left zero lines last = ([], refl)
  just_left (suc n) [] last = ([], refl)
  just_left (suc n) (line ∷ lines) last = by (says last line) (λ x. just_left n lines (Some x)) where
    by : (o : Option X) → ((x : X) → (before : List L) × (lines ≡ before ++ (just_rows says n (Some x) lines).1)) →
        (before : List L) × (line ∷ lines ≡ before ++ (put_just o line lines (λ x. just_rows says n (Some x) lines)).1)
    by None more = ([], refl)
    by (Some x) more =
        let there = more x in
        (line ∷ there.0, ap (λ ls. line ∷ ls) (there.1 ∙ ap (λ ls. there.0 ++ ls) (sym (made-left (λ xs. x ∷ xs) (just_rows says n (Some x) lines)))))

  just_ahead : (n : ℕ) (before : List L) (last : Option X) (more other : List L) (line : L) (o : Option (List X)) →
      just_rows says n last (before ++ line ∷ more) ≡ (o, line ∷ more) → just_rows says n last (before ++ line ∷ other) ≡ (o, line ∷ other)
  just_ahead zero before last more other line o is =
      pair (ap (λ r. r.0) is) (ap (λ b. b ++ line ∷ other) (same_end before (line ∷ more) (ap (λ r. r.1) is)))
  just_ahead (suc n) [] last more other line o is = by (says last line) is where
    by : (p : Option X) → put_just p line more (λ x. just_rows says n (Some x) more) ≡ (o, line ∷ more) →
        put_just p line other (λ x. just_rows says n (Some x) other) ≡ (o, line ∷ other)
    by None is = pair (ap (λ r. r.0) is) refl
    by (Some x) is =
        let there = just_left n more (Some x) in
        let r = just_rows says n (Some x) more in
        never_longer line more there.0 r.1 there.1 (sym (made-left (λ xs. x ∷ xs) r) ∙ ap (λ r. r.1) is)
  just_ahead (suc n) (b ∷ before) last more other line o is = by (says last b) (λ x. just_ahead n before (Some x) more other line) is where
    by : (p : Option X) →
        ((x : X) (o : Option (List X)) → just_rows says n (Some x) (before ++ line ∷ more) ≡ (o, line ∷ more) → just_rows says n (Some x) (before ++ line ∷ other) ≡ (o, line ∷ other)) →
        put_just p b (before ++ line ∷ more) (λ x. just_rows says n (Some x) (before ++ line ∷ more)) ≡ (o, line ∷ more) →
        put_just p b (before ++ line ∷ other) (λ x. just_rows says n (Some x) (before ++ line ∷ other)) ≡ (o, line ∷ other)
    by None again is = absurd (omega (arith, ap (λ r. length r.1) is, length-append (b ∷ before) (line ∷ more)))
    by (Some x) again is =
        let r = just_rows says n (Some x) (before ++ line ∷ more) in
        let there = again x r.0 (pair refl (sym (made-left (λ xs. x ∷ xs) r) ∙ ap (λ r. r.1) is)) in
        ap (made_of (λ xs. x ∷ xs)) there ∙ made-other (λ xs. x ∷ xs) r o (line ∷ more) (line ∷ other) is

  -- just so many rows are read exactly
  pub just : (n : ℕ) (Opens Behind : L → Type 0) → ((x : X) → Fits None x → Opens (text x)) → ((line : L) → Behind line → Opens line) →
      IsBlock (map text) (λ xs. AllFit Fits None xs × (length xs ≡ n)) (just_rows says n None) Opens Behind
  just n Opens Behind begins behinds = record {
    again = λ xs more fits behind. just_again n xs None more fits.0 fits.1;
    spelled = λ lines more xs is. just_spelled n lines None more xs is;
    opens = λ xs more fits behind. first xs more fits.0 behind;
    left = λ lines. just_left n lines None;
    one_ahead = λ before more other line o is. just_ahead n before None more other line o is;
  } where
    first : (xs : List X) (more : List L) → AllFit Fits None xs → FirstIs Behind more → FirstIs Opens (map text xs ++ more)
    first [] [] fits behind = tt
    first [] (line ∷ more) fits behind = behinds line behind
    first (x ∷ xs) more fits behind = begins x fits.0

  -- rows are read exactly, just so many where a number is given, and else where no row is behind them
  pub counted : (count : Option ℕ) (Opens Behind : L → Type 0) → ((x : X) → Fits None x → Opens (text x)) → ((line : L) → Behind line → Opens line) →
      ((line : L) → Behind line → (last : Option X) → says last line ≡ None) →
      IsBlock (map text) (λ xs. AllFit Fits None xs × AreCounted count xs) (counted_rows says count None) Opens Behind
  counted None Opens Behind begins behinds over = same_fits (rows row Opens Behind begins behinds over) (λ xs fits. fits.0) (λ xs fits. (fits, tt))
  counted (Some n) Opens Behind begins behinds over = just n Opens Behind begins behinds

-- The entries of a service are read exactly from their lines.
use Rattle.std.proofs.Common.{◌≡◌, ℕ, Option, Some, None, List, [], ◌∷◌, ◌++◌, codes, append_assoc, refl, sym, ap, subst, ◌∙◌}
use Rattle.std.specs.Prelude.{option_map, option_and_then}
use Rattle.std.specs.List.{AllByRecursion}
use Rattle.std.proofs.lemmas.Option.{none-some, option_and_then_some}
use Rattle.zk_base.specs.declared.ids.Entry.{Entry}
use Rattle.zk_blocks.specs.Rows.{IsRow}
use Rattle.zk_line.proofs.Options.{one_part}
use Rattle.zk_line.specs.Objects.{AreNames}
use Rattle.zk_line.specs.declared.types.Decl.{Decl}
use Rattle.zk_words.specs.Bytes.{space}
use Rattle.zk_words.specs.Text.{line_text}
use Rattle.zk_trace.specs.EntryRead.{Asking, entry_front, entry_front_of, entry_with, entry_row, entry_of, FitsEntry}
use Rattle.zk_trace.specs.Exact.{equals, IsPlain, IsExactRow, AreExact, IsSpelled}
use Rattle.zk_trace.specs.Looks.{spot_word}
use Rattle.zk_trace.specs.Parts.{each_behind}
use Rattle.zk_trace.specs.Sides.{sign, pair, halves, sides_row}
use Rattle.zk_trace.specs.SpotRead.{step_of, spot_of, IsSpot}
use Rattle.zk_trace.specs.Text.{entry_line}
use Rattle.zk_trace.proofs.Lines.{each_behind-append, join-first}
use Rattle.zk_trace.proofs.PlainWords.{lacks_plain}
use Rattle.zk_trace.proofs.Sides.{halves-again, sides_exact}
use Rattle.zk_trace.proofs.SpotRead.{step_exact, who-number, spot_exact}

-- some words, one at least
abbrev pub IsWorded : List (List ℕ) → Type 0
IsWorded [] = ⊥
IsWorded (word ∷ words) = Unit {0}

-- such words, each behind a space, are a line behind a space
behind-line : (words : List (List ℕ)) → IsWorded words → each_behind space words ≡ space ∷ line_text words
behind-line [] some = absurd some
behind-line (word ∷ words) some = ap (λ (l : List ℕ). space ∷ l) (sym (join-first space word words))

-- a line of words with a sign between them is what stands on both sides of it
pub line-sides : (first : List ℕ) (words replies : List (List ℕ)) → IsWorded replies → line_text (first ∷ words ++ codes "=" ∷ replies) ≡ sides_row (first ∷ words) (line_text replies)
line-sides first words replies some =
    join-first space first (words ++ codes "=" ∷ replies)
    ∙ ap (λ l. first ++ l) (each_behind-append space words (codes "=" ∷ replies) ∙ ap (λ l. each_behind space words ++ space ∷ equals ∷ l) (behind-line replies some))
    ∙ sym (ap (λ l. (l ++ sign) ++ line_text replies) (join-first space first words)
    ∙ append_assoc (first ++ each_behind space words) sign (line_text replies)
    ∙ append_assoc first (each_behind space words) (sign ++ line_text replies))

-- the line of an entry is its row and a line feed, where its reply has a word
pub entry_line-fed : {O R : Type 0} (op_words : List Decl → O → List (List ℕ)) (reply_words : List Decl → R → List (List ℕ)) (decls : List Decl) (e : Entry O R) →
    IsWorded (reply_words decls e.reply) → entry_line op_words reply_words decls e ≡ entry_row decls (op_words decls) (reply_words decls) e ++ codes "\n"
entry_line-fed op_words reply_words decls e some =
    ap (λ l. l ++ codes "\n") (line-sides (spot_word decls e.who.number e.step) (op_words decls e.op) (reply_words decls e.reply) some)

-- words, each behind a space, and then the sign begin with a space
begun : (words : List (List ℕ)) → (rest : List ℕ) × (each_behind space words ++ sign ≡ space ∷ rest)
begun [] = (codes "= ", refl)
begun (word ∷ words) = ((word ++ each_behind space words) ++ sign, refl)

-- the step that the first word of a line names
abbrev pub first_step : List Decl → List ℕ → Option (ℕ × ℕ)
first_step decls line = option_and_then (λ h. step_of decls h.0) (halves space line)

module _ {O R : Type 0} (decls : List Decl) (are : AreNames decls) {op_words : O → List (List ℕ)} {reply_words : R → List (List ℕ)} {FitsOp : O → Type 0}
    {Answers : O → R → Type 0} {op_of : List (List ℕ) → Option O} {reply_of : O → List ℕ → Option R} (service : IsSpelled op_words reply_words FitsOp Answers op_of reply_of) where
  abbrev row : Entry O R → List ℕ
  row e = entry_row decls op_words reply_words e

  abbrev says : List ℕ → Option (Entry O R)
  says line = entry_of decls op_of reply_of line

  abbrev Fits : Entry O R → Type 0
  Fits e = FitsEntry decls FitsOp Answers e

  abbrev FitsAsking : Asking O → Type 0
  FitsAsking front = IsSpot decls front.0 × FitsOp front.1

  -- what stands in front of the sign is read exactly
  asking_exact : AreExact (entry_front decls op_words) FitsAsking (entry_front_of decls op_of)
  asking_exact = record { again = again; spelled = spelled; plain = plain } where
    again : (front : Asking O) → FitsAsking front → entry_front_of decls op_of (entry_front decls op_words front) ≡ Some front
    again front fits =
        ap (option_and_then (λ spot. option_map (pair spot) (op_of (op_words front.1)))) ((spot_exact decls are).again front.0 fits.0)
        ∙ ap (option_map (pair front.0)) (service.op_again front.1 fits.1)

    spelled : (words : List (List ℕ)) (front : Asking O) → entry_front_of decls op_of words ≡ Some front → (words ≡ entry_front decls op_words front) × FitsAsking front
    spelled [] front said = absurd (none-some front said)
    spelled (word ∷ words) front said = option_and_then_some (λ spot. option_map (pair spot) (op_of words)) (spot_of decls word) front said
        (λ spot is more.
        let op = one_part (pair spot) (op_of words) front more in
        let first = (spot_exact decls are).spelled word spot is in
        let rest = service.op_spelled words op.0 op.1 in
        subst (λ f. (word ∷ words ≡ entry_front decls op_words f) × FitsAsking f) op.2
        (ap (λ w. w ∷ words) first.0 ∙ ap (λ ws. spot_word decls spot.0.number spot.1 ∷ ws) rest.0, (first.1, rest.1)))

    plain : (front : Asking O) → FitsAsking front → AllByRecursion IsPlain (entry_front decls op_words front)
    plain front fits = ((spot_exact decls are).plain front.0 fits.0, service.op_plain front.1 fits.1)

  -- the entries of a service are read exactly
  pub entry_exact : IsExactRow row Fits says
  entry_exact =
      sides_exact row Fits entry_with asking_exact refl
      (λ front fits. record { again = service.reply_again front.1; spelled = service.reply_spelled front.1; unfed = service.reply_unfed front.1 })
      (λ front reply. refl)
      (λ front reply fits answers. record { known = fits.0.0; step = fits.0.1; op = fits.1; reply = answers })
      (λ e fits. (((e.who, e.step), e.op), e.reply, refl, ((fits.known, fits.step), fits.op), fits.reply))

  -- as rows they don't hang on those before them
  pub entries : IsRow row (λ last. Fits) (λ last. says)
  entries = record { again = λ last. entry_exact.again; spelled = λ last. entry_exact.spelled }

  -- the first word of an entry names a step
  first_word : (e : Entry O R) → Fits e → (rest : List ℕ) × (halves space (row e) ≡ Some (spot_word decls e.who.number e.step, rest))
  first_word e fits =
      let first = spot_word decls e.who.number e.step in
      let reply = line_text (reply_words e.reply) in
      let behind = begun (op_words e.op) in (
        behind.0 ++ reply,
        ap (halves space)
            (ap (λ l. (l ++ sign) ++ reply) (join-first space first (op_words e.op))
            ∙ ap (λ l. l ++ reply) (append_assoc first (each_behind space (op_words e.op)) sign ∙ ap (λ l. first ++ l) behind.1)
            ∙ append_assoc first (space ∷ behind.0) reply)
            ∙ halves-again space first (behind.0 ++ reply) (lacks_plain space refl first ((spot_exact decls are).plain (e.who, e.step) (fits.known, fits.step))),
      )

  -- a line whose first word names no step is no entry
  pub no_entry : (line : List ℕ) → first_step decls line ≡ None → says line ≡ None
  no_entry line none = by (says line) refl where
    by : (o : Option (Entry O R)) → says line ≡ o → says line ≡ None
    by None is = is
    by (Some e) is =
        let found = entry_exact.spelled line e is in
        let number = who-number decls are e.who.number e.who found.1.known in
        absurd (none-some (e.who.number, e.step)
        (sym none ∙ ap (first_step decls) found.0 ∙ ap (option_and_then (λ h. step_of decls h.0)) (first_word e found.1).1
        ∙ (step_exact decls are).again (e.who.number, e.step) (number.1, found.1.step)))

-- What stands in a text, read part by part.
use Rattle.std.proofs.Common.{◌≡◌, ℕ, Option, Some, None, List, [], ◌∷◌, ap, ◌∙◌}
use Rattle.std.proofs.lemmas.Option.{same_Some, none-some}
use Rattle.zk_blocks.specs.Blocks.{Reading, said, line_of, told_by, told_of, beside, onward, then_of, made_of}
use Rattle.zk_line.specs.declared.types.Decl.{Decl}
use Rattle.zk_trace.specs.declared.format.Format.{Format}
use Rattle.zk_trace.specs.declared.format.Formats.{Formats}
use Rattle.zk_trace.specs.declared.trace.Ending.{Ending}
use Rattle.zk_trace.specs.WholeRead.{Singles, Families, Players, Rest, Whole, first_of, ending_of, read_singles, read_families, read_players, read_sections, read_behind, read_whole}

-- what the first line tells of is read behind it
told_read : {L H A : Type 0} (head_of : L → Option H) (read : H → List L → Reading L A) (lines left : List L) (h : H) →
    line_of head_of lines ≡ (Some h, left) → told_of head_of read lines ≡ read h left
told_read head_of read [] left h is = absurd (none-some h (ap (λ r. r.0) is))
told_read {L} {H} {A} head_of read (line ∷ lines) left h is = by (head_of line) is where
  by : (o : Option H) → said o line lines ≡ (Some h, left) → told_by read o line lines ≡ read h left
  by None is = absurd (none-some h (ap (λ r. r.0) is))
  by (Some g) is = ap (λ g. read g lines) (same_Some g h (ap (λ r. r.0) is)) ∙ ap (read h) (ap (λ r. r.1) is)

module _ (formats : Formats) (decls : List Decl) (f : Format) (ending : Ending) (singles : Singles) (families : Families) (lines first second third fourth left : List (List ℕ))
    (begins : line_of (first_of formats decls) lines ≡ (Some f, first)) (ends : line_of ending_of first ≡ (Some ending, second))
    (ones : read_singles f decls second ≡ (Some singles, third)) (many : read_families f decls third ≡ (Some families, fourth)) where
  -- all up to the players was read
  behind : (r : Reading (List ℕ) Players) → read_players f decls fourth ≡ r →
      read_whole formats decls lines ≡ made_of (λ (rest : Rest). (f, rest)) (beside ending (beside singles (beside families r)))
  behind r players =
      let rest : Reading (List ℕ) Rest → Reading (List ℕ) Whole = made_of (λ (rest : Rest). (f, rest)) in
      told_read (first_of formats decls) (read_behind decls) lines first f begins
      ∙ ap (λ (o : Reading (List ℕ) Ending). rest (onward (read_sections f decls) o)) ends
      ∙ ap (λ (o : Reading (List ℕ) Singles). rest (beside ending (onward (then_of (read_families f decls) (read_players f decls)) o))) ones
      ∙ ap (λ (o : Reading (List ℕ) Families). rest (beside ending (beside singles (onward (read_players f decls) o)))) many
      ∙ ap (λ (o : Reading (List ℕ) Players). rest (beside ending (beside singles (beside families o)))) players

  pub whole_there : (players : Players) → read_players f decls fourth ≡ (Some players, left) →
      read_whole formats decls lines ≡ (Some (f, (ending, (singles, (families, players)))), left)
  whole_there players is = behind (Some players, left) is

  -- the players aren't there
  pub whole_short : read_players f decls fourth ≡ (None, left) → read_whole formats decls lines ≡ (None, left)
  whole_short is = behind (None, left) is

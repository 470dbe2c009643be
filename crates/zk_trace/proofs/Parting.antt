-- The lines that were passed before a trace part.
use Rattle.std.proofs.Common.{◌≡◌, inl, inr, ℕ, ◌-◌, ◌<◌, ◌≤◌, true, false, Option, Some, None, is_some, List, [], ◌∷◌, ◌++◌, length, length-append, take, drop, append_assoc, append-nil, arith, refl, sym, ap, subst, ◌∙◌}
use Rattle.std.specs.List.{AllByRecursion}
use Rattle.std.proofs.Math.Seq.{take-append_seam, drop-append_seam}
use Rattle.std.proofs.lemmas.List.Concat.{flat_map-append}
use Rattle.std.proofs.lemmas.Bool.{true≢false}
use Rattle.std.proofs.lemmas.Option.{none-some}
use Rattle.zk_blocks.specs.Cut.{fed, fed_lines, AreUnfed, IsUnfed}
use Rattle.zk_blocks.proofs.Cut.{cut_front, cut_again}
use Rattle.zk_words.specs.Bytes.{line_feed}
use Rattle.zk_trace.specs.Feeds.{lines_in}
use Rattle.zk_trace.specs.declared.format.Format.{Format}
use Rattle.zk_trace.specs.Parting.{IsOther, AreParts}
use Rattle.zk_trace.specs.Sides.{halves}
use Rattle.zk_trace.specs.Text.{first_row}
use Rattle.zk_trace.specs.WholeRead.{format_of}
use Rattle.zk_trace.proofs.Feeds.{lines-nowhere, halves-lacks}
use Rattle.zk_trace.proofs.Sides.{halves-spelled}
use Rattle.zk_trace.proofs.WholeRead.{format-again, format-spelled}

-- what begins no trace part says no format
pub other-is : (line : List ℕ) → format_of line ≡ None → IsOther line
other-is line none f is = none-some f (sym none ∙ ap format_of is ∙ format-again f)

-- and what says one begins one
pub first-is : (line : List ℕ) → is_some (format_of line) ≡ true → (f : Format) × (line ≡ first_row f)
first-is line some = by (format_of line) refl some where
  by : (o : Option Format) → format_of line ≡ o → is_some o ≡ true → (f : Format) × (line ≡ first_row f)
  by None is some = absurd (true≢false (sym some))
  by (Some f) is some = (f, format-spelled line f is)

pub not-first : (line : List ℕ) → is_some (format_of line) ≡ false → IsOther line
not-first line none = by (format_of line) refl none where
  by : (o : Option Format) → format_of line ≡ o → is_some o ≡ false → IsOther line
  by None is none = other-is line is
  by (Some f) is none = absurd (true≢false none)

-- lines were passed, none of which is that
pub record ArePassed (text rest : List ℕ) : Type 0 where
  pub lines : List (List ℕ)
  pub whole : text ≡ fed_lines line_feed lines ++ rest
  pub unfed : AreUnfed line_feed lines
  pub other : AllByRecursion IsOther lines

pub none-passed : (text : List ℕ) → ArePassed text text
none-passed text = record { lines = []; whole = refl; unfed = tt; other = tt }

all-one_more : {A : Type 0} (P : A → Type 0) (xs : List A) (x : A) → AllByRecursion P xs → P x → AllByRecursion P (xs ++ x ∷ [])
all-one_more P [] x all one = (one, tt)
all-one_more P (y ∷ ys) x all one = (all.0, all-one_more P ys x all.1 one)

-- one more
pub one-passed : (text rest line behind : List ℕ) → ArePassed text rest → halves line_feed rest ≡ Some (line, behind) → IsOther line → ArePassed text behind
one-passed text rest line behind passed is other = record {
  lines = passed.lines ++ line ∷ [];
  whole =
      passed.whole ∙ ap (λ l. fed_lines line_feed passed.lines ++ l) (halves-spelled line_feed rest line behind is)
      ∙ ap (λ l. fed_lines line_feed passed.lines ++ l) (sym (ap (λ l. l ++ behind) (append-nil (fed line_feed line)) ∙ append_assoc line (line_feed ∷ []) behind))
      ∙ sym (append_assoc (fed_lines line_feed passed.lines) (fed line_feed line ++ []) behind)
      ∙ ap (λ l. l ++ behind) (sym (flat_map-append (fed line_feed) passed.lines (line ∷ [])));
  unfed = all-one_more (IsUnfed line_feed) passed.lines line passed.unfed (halves-lacks line_feed rest (line, behind) is);
  other = all-one_more IsOther passed.lines line passed.other other;
}

-- the front of a text before what follows it
take-front : (front rest : List ℕ) → take (length (front ++ rest) - length rest) (front ++ rest) ≡ front
take-front front rest =
    ap (λ n. take n (front ++ rest)) (omega (arith, length-append front rest)) ∙ take-append_seam front rest

drop-front : (front rest : List ℕ) → drop (length (front ++ rest) - length rest) (front ++ rest) ≡ rest
drop-front front rest =
    ap (λ n. drop n (front ++ rest)) (omega (arith, length-append front rest)) ∙ drop-append_seam front rest

-- where that line comes, the trace part begins with it
pub part-begins : (text rest line behind : List ℕ) → ArePassed text rest → halves line_feed rest ≡ Some (line, behind) → (f : Format) → line ≡ first_row f →
    AreParts text (take (length text - length rest) text) (drop (length text - length rest) text)
part-begins text rest line behind passed is f same =
    subst (λ t. AreParts t (take (length t - length rest) t) (drop (length t - length rest) t)) (sym passed.whole)
    (cut-there (take-front front rest) (drop-front front rest)) where
      front : List ℕ
      front = fed_lines line_feed passed.lines

      parts : AreParts (front ++ rest) front rest
      parts = record {
        whole = refl;
        before = subst (AllByRecursion IsOther) (sym (ap (λ c. c.0) (cut_again line_feed passed.lines passed.unfed))) passed.other;
        begins = inr (record {
          fed = ap (λ c. c.1) (cut_again line_feed passed.lines passed.unfed);
          format = f;
          more = behind;
          head = halves-spelled line_feed rest line behind is ∙ ap (λ l. l ++ line_feed ∷ behind) same;
        });
      }

      cut-there : {a b : List ℕ} → a ≡ front → b ≡ rest → AreParts (front ++ rest) a b
      cut-there {a} {b} one other = subst (λ f. AreParts (front ++ rest) f b) (sym one) (subst (AreParts (front ++ rest) front) (sym other) parts)

-- where it doesn't, all is the scenario's
pub none-begins : (text rest : List ℕ) → ArePassed text rest → halves line_feed rest ≡ None → AreParts text text []
none-begins text rest passed is = record {
  whole = sym (append-nil text);
  before = subst (AllByRecursion IsOther) (sym lines) passed.other;
  begins = inl refl;
} where
  lines : lines_in text ≡ passed.lines
  lines =
      ap lines_in passed.whole ∙ ap (λ c. c.0) (cut_front line_feed passed.lines rest passed.unfed)
      ∙ ap (λ ls. passed.lines ++ ls) (lines-nowhere rest is) ∙ append-nil passed.lines

pub passed-shorter : (text rest : List ℕ) → ArePassed text rest → length rest ≤ length text
passed-shorter text rest passed = omega (arith, ap length passed.whole, length-append (fed_lines line_feed passed.lines) rest)

pub behind-shorter : (rest line behind : List ℕ) → halves line_feed rest ≡ Some (line, behind) → length behind < length rest
behind-shorter rest line behind is = omega (arith, ap length (halves-spelled line_feed rest line behind is), length-append line (line_feed ∷ behind))

pub are-parts : (text a b front trace : List ℕ) → front ≡ a → trace ≡ b → AreParts text a b → AreParts text front trace
are-parts text a b front trace one other parts = subst (λ f. AreParts text f trace) (sym one) (subst (AreParts text a) (sym other) parts)

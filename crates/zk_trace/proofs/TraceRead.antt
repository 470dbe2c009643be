-- A trace in form is read again from its text; what is read is in form and has this text; and where the reading ends before, no right text goes on.
use Rattle.std.proofs.Common.{◌≡◌, ℕ, ◌-◌, ◌≤◌, ◌<◌, ◌^◌, Option, Some, None, List, [], ◌∷◌, ◌++◌, length, length-append, arith, refl, sym, ap, subst, ◌∙◌}
use Rattle.std.specs.Prelude.{option_map, Err}
use Rattle.std.proofs.lemmas.List.FromFn.{length-range_with_len}
use Rattle.std.proofs.lemmas.Option.{same_Some, none-some}
use Rattle.zk_blocks.specs.Blocks.{made_of}
use Rattle.zk_blocks.specs.Cut.{fed_lines, cut_of, AreUnfed, IsRead, IsTextOf, FailsAt}
use Rattle.zk_blocks.proofs.Blocks.{pair}
use Rattle.zk_blocks.proofs.Each.{each_fits-length}
use Rattle.zk_blocks.proofs.Texts.{text_again, text_spelled, one_meaning, fails}
use Rattle.zk_line.specs.Objects.{AreNames}
use Rattle.zk_scenario.specs.Content.{Content}
use Rattle.zk_scenario.specs.Players.{players}
use Rattle.zk_scenario.specs.Valid.{IsValid}
use Rattle.zk_words.specs.Bytes.{line_feed}
use Rattle.zk_trace.specs.declared.format.Format.{Format}
use Rattle.zk_trace.specs.declared.format.Formats.{Formats}
use Rattle.zk_trace.specs.declared.read.TraceRefused.{TraceRefused}
use Rattle.zk_trace.specs.declared.read.TraceRefused.TheVariants.{At}
use Rattle.zk_trace.specs.declared.trace.Trace.{Trace}
use Rattle.zk_trace.specs.Feeds.{lines_in}
use Rattle.zk_trace.specs.Form.{player_numbers, IsInForm}
use Rattle.zk_trace.specs.Stood.{AreFew}
use Rattle.zk_trace.specs.Text.{trace_text}
use Rattle.zk_trace.specs.TraceRead.{IsReadIn, IsWritten, HasText, IsTraceText, IfAt, line_number, IsRefusedAt}
use Rattle.zk_trace.specs.WholeRead.{Whole, read_whole, trace_of, written_of, trace_lines, read_trace}
use Rattle.zk_trace.proofs.FewObjects.{form-few}
use Rattle.zk_trace.proofs.FormWhole.{made_in_form, trace_block}
use Rattle.zk_trace.proofs.ShortText.{short-told}
use Rattle.zk_trace.proofs.TraceText.{text-lines}
use Rattle.zk_trace.proofs.TraceUnfed.{trace-unfed}
use Rattle.zk_trace.proofs.WholeRead.{FitPlayer, whole}

module _ (formats : Formats) (s : Content) (are : AreNames s.decls) where
  -- a trace and its format
  abbrev Written : Type 0
  Written = Format × Trace

  abbrev FitsWritten : Written → Type 0
  FitsWritten w = IsWritten formats s w.0 w.1

  abbrev IsReadTrace : List ℕ → Written → Type 0
  IsReadTrace text w = IsRead line_feed (read_trace formats s.decls) text w

  written-unfed : (w : Written) → FitsWritten w → AreUnfed line_feed (trace_lines s.decls w)
  written-unfed w is = trace-unfed w.0 s are w.1 is.form is.told

  -- a trace in form is read again from its text
  pub trace_again : (f : Format) (t : Trace) → IsWritten formats s f t → IsReadTrace (trace_text f s t) (f, t)
  trace_again f t is =
      subst (λ text. IsReadTrace text (f, t)) (sym (text-lines f s t is.form)) (text_again line_feed (trace_block formats s are) written-unfed (f, t) is)

  -- what is read is in form, and has this text
  pub trace_spelled : (text : List ℕ) (f : Format) (t : Trace) → IsReadTrace text (f, t) → (text ≡ trace_text f s t) × IsWritten formats s f t
  trace_spelled text f t is =
      let there = text_spelled line_feed (trace_block formats s are) written-unfed text (f, t) is in
      (there.0 ∙ sym (text-lines f s t there.1.form), there.1)

  -- where two traces in form have one text, they and their formats are the same
  pub one_trace : (f g : Format) (t other : Trace) → IsWritten formats s f t → IsWritten formats s g other → trace_text f s t ≡ trace_text g s other →
      ◌≡◌ {A = Written} (f, t) (g, other)
  one_trace f g t other is other_is same =
      one_meaning line_feed (trace_block formats s are) written-unfed (f, t) (g, other) is other_is (sym (text-lines f s t is.form) ∙ same ∙ text-lines g s other other_is.form)

  -- the line where the reading ends can't stand there
  pub refused : (text : List ℕ) (o : Option Written) (left : List (List ℕ)) (first number : ℕ) → read_trace formats s.decls (lines_in text) ≡ (o, left) →
      number ≡ line_number first (length (lines_in text) - length left) → IsRefusedAt formats s text first number
  refused text o left first number is named = record {
    place = length (lines_in text) - length left;
    within = omega arith;
    named = named;
    never = λ within. never left is within;
  } where
    right : (other : List ℕ) → IsTraceText formats s other → IsTextOf line_feed (trace_lines s.decls) FitsWritten other
    right other (f, t, written, is) = ((f, t), written, is ∙ text-lines f s t written.form)

    shorter : (left : List (List ℕ)) → read_trace formats s.decls (lines_in text) ≡ (o, left) → length left ≤ length (lines_in text)
    shorter left is =
        let there = (trace_block formats s are).left (lines_in text) in
        omega (arith, ap length there.1, length-append there.0 (read_trace formats s.decls (lines_in text)).1, ap (λ r. length r.1) is)

    never : (left : List (List ℕ)) → read_trace formats s.decls (lines_in text) ≡ (o, left) → length (lines_in text) - length left < length (lines_in text) →
        FailsAt line_feed (IsTraceText formats s) text (length (lines_in text) - length left)
    never [] is within = absurd (omega arith)
    never (line ∷ more) is within =
        let enough = shorter (line ∷ more) is in
        let there = fails line_feed (trace_block formats s are) written-unfed text (length (lines_in text) - length (line ∷ more)) line more o is (omega arith) in
        record {
          front = there.front;
          line = there.line;
          rest = there.rest;
          whole = there.whole;
          at = there.at;
          never = λ other is_right. there.never other (right (fed_lines line_feed (there.front ++ there.line ∷ []) ++ other) is_right);
        }

  -- no trace in form has a text that isn't read to its end
  pub not_left : (text : List ℕ) (o : Option Written) (left : List (List ℕ)) → read_trace formats s.decls (lines_in text) ≡ (o, left) → (f : Format) (t : Trace) → IsWritten formats s f t →
      text ≡ trace_text f s t → (o ≡ Some (f, t)) × (left ≡ []) × ((cut_of line_feed text).1 ≡ [])
  not_left text o left is f t written same =
      let again = subst (λ x. IsReadTrace x (f, t)) (sym same) (trace_again f t written) in
      let both = sym is ∙ again.0 in
      (ap (λ r. r.0) both, ap (λ r. r.1) both, again.1)

  -- what is read as a whole has a player for each of the scenario's
  pub whole-players : (lines left : List (List ℕ)) (w : Whole) → read_whole formats s.decls lines ≡ (Some w, left) → length w.1.1.1.1 ≡ length (players s.decls)
  whole-players lines left w is =
      let fits = ((whole formats s.decls are).spelled lines left w is).1 in
      sym (each_fits-length (λ player. FitPlayer w.0 s.decls) (player_numbers s.decls) w.1.1.1.1 fits.1.1.1.1) ∙ length-range_with_len 0 (length (players s.decls))

  -- and its objects have numbers of 32 bits
  pub whole-few : IsValid s → (lines left : List (List ℕ)) (w : Whole) → read_whole formats s.decls lines ≡ (Some w, left) → AreFew (trace_of w)
  whole-few valid lines left w is = form-few s (trace_of w) (made_in_form formats s are w ((whole formats s.decls are).spelled lines left w is).1).form valid

  module _ (text : List ℕ) (left : List (List ℕ)) where
    -- what is made of what was read
    traced : (o : Option Whole) → read_whole formats s.decls (lines_in text) ≡ (o, left) → read_trace formats s.decls (lines_in text) ≡ (option_map written_of o, left)
    traced None is = ap (made_of written_of) is
    traced (Some w) is = ap (made_of written_of) is

    -- where the reading ended is refused
    pub refused-whole : (o : Option Whole) (first number : ℕ) → read_whole formats s.decls (lines_in text) ≡ (o, left) →
        number ≡ line_number first (length (lines_in text) - length left) → IsRefusedAt formats s text first number
    refused-whole o first number is named = refused text (option_map written_of o) left first number (traced o is) named

    module _ (f : Format) (t : Trace) (read : IsReadIn formats s f) (form : IsInForm s t) (same : text ≡ trace_text f s t) (short : length text < 2 ^ 64) where
      written : IsWritten formats s f t
      written = record { read = read; form = form; told = short-told f s t form (subst (λ l. length l < 2 ^ 64) same short) }

      -- no trace in form has this text where nothing was read
      pub none-right : read_whole formats s.decls (lines_in text) ≡ (None, left) → ⊥
      none-right is = none-some (f, t) (not_left text None left (traced None is) f t written same).0

      -- nor where it isn't read to its end
      pub left-right : (w : Whole) → read_whole formats s.decls (lines_in text) ≡ (Some w, left) → ((left ≡ []) × ((cut_of line_feed text).1 ≡ []) → ⊥) → ⊥
      left-right w is more = let there = not_left text (Some (written_of w)) left (traced (Some w) is) f t written same in more (there.1, there.2)

      -- what is read is the only one
      pub only : (w : Whole) → read_whole formats s.decls (lines_in text) ≡ (Some w, left) → trace_of w ≡ t
      only w is = ap (λ o. o.1) (same_Some (written_of w) (f, t) (not_left text (Some (written_of w)) left (traced (Some w) is) f t written same).0)

    -- what is read to its end is in form, and has this text
    pub found : (w : Whole) → read_whole formats s.decls (lines_in text) ≡ (Some w, left) → (left ≡ []) × ((cut_of line_feed text).1 ≡ []) → HasText formats s (trace_of w) text
    found w is end = let there = trace_spelled text w.0 (trace_of w) (traced (Some w) is ∙ pair refl end.0, end.1) in (w.0, there.1, there.0)

-- what is said of a line that is named
pub named-at : (r : TraceRefused) (number : ℕ) (Named : ℕ → Type 0) → r ≡ At number → Named number → IfAt (Err r) Named
named-at r number Named is named = subst (λ x. IfAt (Err x) Named) (sym is) named

-- What is read is spelled so: the text of a scenario that was read is the scenario's text.
use Rattle.std.proofs.Common.{◌≡◌, ℕ, ◌+◌, Bool, true, false, cond, nat_lt, Option, None, Some, Result, Ok, Err, List, [], ◌∷◌, ◌++◌, length, map, is_some, codes, refl, sym, ap, ◌∙◌, append_assoc}
use Rattle.std.specs.List.{flat_map, join_with_byte}
use Rattle.std.specs.Option.{option_map, option_to_list}
use Rattle.std.specs.Prelude.{option_and_then}
use Rattle.std.specs.Str.{bytes_eq}
use Rattle.std.specs.Cmp.Lexicographic.{bytes_decides}
use Rattle.std.proofs.lemmas.Bool.{not-false}
use Rattle.std.proofs.lemmas.List.{append-nil, map-append}
use Rattle.std.proofs.lemmas.Grind.{flat_map-append}
use Rattle.std.proofs.lemmas.List.Splits.{join_with_byte-slice_split}
use Rattle.std.proofs.lemmas.Option.{same_Some}
use Rattle.zk_base.proofs.Lists.{none_from_is_some}
use Rattle.zk_words.specs.Bytes.{line_feed}
use Rattle.zk_words.specs.declared.slot.Slot.TheVariants as slot
use Rattle.zk_words.specs.declared.slot.Rest.TheVariants.{Nothing}
use Rattle.zk_words.specs.declared.word.Head.{Head}
use Rattle.zk_words.specs.declared.word.Head.TheVariants as head
use Rattle.zk_words.specs.declared.line.Line.{Line}
use Rattle.zk_words.specs.declared.line.Line.TheVariants as line
use Rattle.zk_words.specs.Lines.{line_of, form_words, IsForm}
use Rattle.zk_words.specs.Parts.{Placed, fits, parts_of as placed_of}
use Rattle.zk_words.specs.Text.{line_text}
use Rattle.zk_words.proofs.Formed.{line_spelled, line_is_form}
use Rattle.zk_line.specs.declared.types.Decl.{Decl}
use Rattle.zk_line.specs.declared.types.Declared.{Declared}
use Rattle.zk_line.specs.declared.types.Declared.TheVariants.{Object, Allow}
use Rattle.zk_line.specs.declared.types.Call.{Call}
use Rattle.zk_line.specs.Args.{args_of}
use Rattle.zk_line.specs.Calls.{call_of}
use Rattle.zk_line.specs.Checks.{first_object}
use Rattle.zk_line.specs.Decls.{decl_of, permission_of}
use Rattle.zk_line.specs.Objects.{object_of}
use Rattle.zk_line.specs.Text.{decl_line, allow_line, call_line}
use Rattle.zk_line.proofs.Makes.{is_some-some}
use Rattle.zk_line.proofs.Options.{one_part}
use Rattle.zk_line.proofs.Spelled.{name_at-object_of, decl_is_line, allow_is_line, call_is_line}
use Rattle.zk_scenario.specs.declared.limits.TheConstants.{LONGEST_SCENARIO}
use Rattle.zk_scenario.specs.declared.types.Script.{Script}
use Rattle.zk_scenario.specs.declared.refused.Why.{Why}
use Rattle.zk_scenario.specs.declared.refused.Why.TheVariants as why
use Rattle.zk_scenario.specs.declared.refused.ScenarioRefused.TheVariants.{At}
use Rattle.zk_scenario.specs.Grammar.{told, taken, read_line, ended_parts, at_end, behind, read_lines, behind_header, read_pieces, pieces_of, scenario_of, IsReadable}
use Rattle.zk_scenario.specs.Content.{Content}
use Rattle.zk_scenario.specs.Reading.{Reading, start, declared, permitted, with_call, called, closed, parts_of}
use Rattle.zk_scenario.specs.Spelling.{declared_line, script_line, end_line, begun_lines, script_lines, body_lines, lines_of, lines_text, text_of}
use Rattle.zk_scenario.specs.Verdict.{has_script, opened, verdict, after}
use Rattle.zk_scenario.specs.Valid.{IsValid}
use Rattle.zk_scenario.specs.Written.{AreInOrder}
use Rattle.zk_scenario.proofs.ReadIsValid.{valid-line, valid-start}
use Rattle.zk_scenario.proofs.Room.{or_none}
use Rattle.zk_scenario.proofs.ScenarioLines.{written_lines-declared}
use Rattle.zk_scenario.proofs.AcceptedLines.{Passes, Passes-verdict, call_inside, nothing_begun}

-- the lines of the script that is open
abbrev open_lines : List Decl → Option Script → List (List ℕ)
open_lines decls None = []
open_lines decls (Some script) = begun_lines decls script

-- the lines that were read, behind the header
abbrev read_so : List Decl → List Declared → List Script → Option Script → List (List ℕ)
read_so decls written scripts current = body_lines decls written scripts ++ open_lines decls current

abbrev read_lines_of : Reading → List (List ℕ)
read_lines_of r = read_so r.decls r.written r.scripts r.current

-- where nothing has begun, the lines are those of the declarations
only_declared : (decls : List Decl) (written : List Declared) (ss : List Script) (current : Option Script) → ss ≡ [] → current ≡ None → read_so decls written ss current ≡ map (declared_line decls) written
only_declared decls written ss current none closed =
    ap (λ xs. read_so decls written xs current) none ∙ ap (λ o. read_so decls written [] o) closed ∙ append-nil _ ∙ append-nil _

read-declared : (decls : List Decl) (written : List Declared) (ss : List Script) (current : Option Script) (d : Decl) → ss ≡ [] → current ≡ None → AreInOrder decls written
    → read_so (decls ++ d ∷ []) (written ++ Object (length decls) ∷ []) ss current ≡ read_so decls written ss current ++ decl_line decls d ∷ []
read-declared decls written ss current d none closed held =
    only_declared (decls ++ d ∷ []) (written ++ Object (length decls) ∷ []) ss current none closed ∙ written_lines-declared decls written d held
    ∙ sym (ap (λ l. l ++ decl_line decls d ∷ []) (only_declared decls written ss current none closed))

read-permitted : (decls : List Decl) (written : List Declared) (ss : List Script) (current : Option Script) (thread object : ℕ) → ss ≡ [] → current ≡ None
    → read_so decls (written ++ Allow thread object ∷ []) ss current ≡ read_so decls written ss current ++ allow_line decls thread object ∷ []
read-permitted decls written ss current thread object none closed =
    only_declared decls (written ++ Allow thread object ∷ []) ss current none closed ∙ map-append (declared_line decls) written (Allow thread object ∷ [])
    ∙ sym (ap (λ l. l ++ allow_line decls thread object ∷ []) (only_declared decls written ss current none closed))

read-opened : (decls : List Decl) (written : List Declared) (ss : List Script) (current : Option Script) (owner : ℕ) → current ≡ None
    → read_so decls written ss (Some (record { owner = owner; calls = [] })) ≡ read_so decls written ss current ++ script_line decls owner ∷ []
read-opened decls written ss current owner closed = sym (ap (λ l. l ++ script_line decls owner ∷ []) (ap (λ o. read_so decls written ss o) closed ∙ append-nil _))

read-called : (decls : List Decl) (written : List Declared) (ss : List Script) (current : Option Script) (s : Script) (c : Call) → current ≡ Some s
    → read_so decls written ss (option_map (with_call c) current) ≡ read_so decls written ss current ++ call_line decls c ∷ []
read-called decls written ss current s c inside =
    ap (λ o. read_so decls written ss (option_map (with_call c) o)) inside
    ∙ ap (λ l. body_lines decls written ss ++ (script_line decls s.owner ∷ l)) (map-append (call_line decls) s.calls (c ∷ []))
    ∙ sym (append_assoc (body_lines decls written ss) (begun_lines decls s) (call_line decls c ∷ []))
    ∙ sym (ap (λ o. read_so decls written ss o ++ call_line decls c ∷ []) inside)

read-closed : (decls : List Decl) (written : List Declared) (ss : List Script) (s : Script) → read_so decls written (ss ++ s ∷ []) None ≡ read_so decls written ss (Some s) ++ end_line ∷ []
read-closed decls written ss s =
    let before = map (declared_line decls) written in
    append-nil _ ∙ ap (λ l. before ++ l) (flat_map-append (script_lines decls) ss (s ∷ []) ∙ ap (λ l. flat_map (script_lines decls) ss ++ l) (append-nil (script_lines decls s)))
    ∙ sym (append_assoc before (flat_map (script_lines decls) ss) (begun_lines decls s ++ end_line ∷ []))
    ∙ sym (append_assoc (body_lines decls written ss) (begun_lines decls s) (end_line ∷ []))

owner_is_line : (decls : List Decl) (parts : List Placed) (owner : ℕ) (words : List (List ℕ)) → fits (slot.Owner ∷ []) Nothing words ≡ true → parts ≡ placed_of (slot.Owner ∷ []) Nothing words
    → first_object decls parts ≡ Some owner → script_line decls owner ≡ line_text (form_words head.Script parts)
owner_is_line decls parts owner [] fit is found = absurd (cc)
owner_is_line decls parts owner (word ∷ []) fit is found =
    let named : object_of decls word ≡ Some owner = sym (ap (first_object decls) is) ∙ found in
    ap (λ name. line_text (codes "script" ∷ name ∷ [])) (name_at-object_of decls word owner named) ∙ ap (λ ps. line_text (form_words head.Script ps)) (sym is)
owner_is_line decls parts owner (word ∷ more ∷ words) fit is found = absurd (cc)

end_is_line : (parts : List Placed) (words : List (List ℕ)) → fits [] Nothing words ≡ true → parts ≡ placed_of [] Nothing words → end_line ≡ line_text (form_words head.End parts)
end_is_line parts [] fit is = ap (λ ps. line_text (form_words head.End ps)) (sym is)
end_is_line parts (word ∷ words) fit is = absurd (cc)

-- a line to which no reason applies is the next of the lines that were read
read-after : (r s : Reading) (h : Head) (parts : List Placed) → IsValid (parts_of r) → IsForm h parts → Passes r h parts → after r h parts ≡ Some s → read_lines_of s ≡ read_lines_of r ++ line_text (form_words h parts) ∷ []
read-after r s (head.Declare k) parts valid form p made =
    let nothing = nothing_begun r p.placed in
    let d = one_part (declared r) (option_and_then (decl_of k) (args_of r.decls parts)) s made in
    ap read_lines_of (sym d.2) ∙ read-declared r.decls r.written r.scripts r.current d.0 nothing.0 nothing.1 valid.in_order
    ∙ ap (λ l. read_lines_of r ++ l ∷ []) (decl_is_line r.decls k parts d.0 d.1)
read-after r s head.Allow parts valid form p made =
    let nothing = nothing_begun r p.placed in
    let pair = one_part (λ (x : ℕ × ℕ). permitted r x.0 x.1) (option_and_then permission_of (args_of r.decls parts)) s made in
    ap read_lines_of (sym pair.2) ∙ read-permitted r.decls r.written r.scripts r.current pair.0.0 pair.0.1 nothing.0 nothing.1
    ∙ ap (λ l. read_lines_of r ++ l ∷ []) (allow_is_line r.decls parts pair.0.0 pair.0.1 pair.1)
read-after r s head.Script parts valid form p made =
    let both = or_none (is_some r.current) (has_script r (first_object r.decls parts)) p.placed in
    let o = one_part (opened r) (first_object r.decls parts) s made in
    ap read_lines_of (sym o.2) ∙ read-opened r.decls r.written r.scripts r.current o.0 (none_from_is_some r.current both.0)
    ∙ ap (λ l. read_lines_of r ++ l ∷ []) (owner_is_line r.decls parts o.0 form.words form.fitting form.placed o.1)
read-after r s head.End parts valid form p made =
    let inside = is_some-some r.current (not-false (is_some r.current) p.placed) in
    ap read_lines_of (sym (same_Some (closed r) s made)) ∙ ap (λ o. read_so r.decls r.written (r.scripts ++ option_to_list o) None) inside.1 ∙ read-closed r.decls r.written r.scripts inside.0
    ∙ sym (ap (λ o. read_so r.decls r.written r.scripts o ++ end_line ∷ []) inside.1) ∙ ap (λ l. read_lines_of r ++ l ∷ []) (end_is_line parts form.words form.fitting form.placed)
read-after r s (head.Call w) parts valid form p made =
    let inside = is_some-some r.current (call_inside r w parts p) in
    let c = one_part (called r) (option_and_then (call_of w) (args_of r.decls parts)) s made in
    ap read_lines_of (sym c.2) ∙ read-called r.decls r.written r.scripts r.current inside.0 c.0 inside.1
    ∙ ap (λ l. read_lines_of r ++ l ∷ []) (call_is_line r.decls w parts c.0 c.1)

-- the same, of the line as it stands
read-line : (r s : Reading) (text : List ℕ) → IsValid (parts_of r) → read_line r text ≡ Ok s → read_lines_of s ≡ read_lines_of r ++ text ∷ []
read-line r s text valid e = by_line (line_of text) refl e where
  by_next : (h : Head) (parts : List Placed) → line_of text ≡ line.Formed h parts → verdict r h parts ≡ None → (o : Option Reading) → after r h parts ≡ o → told None o ≡ Ok s → read_lines_of s ≡ read_lines_of r ++ text ∷ []
  by_next h parts same passes None made here = absurd (cc)
  by_next h parts same passes (Some t) made here =
      let is : t ≡ s = cc in
      ap read_lines_of (sym is) ∙ read-after r t h parts valid (line_is_form text h parts same) (Passes-verdict r h parts passes) made
      ∙ ap (λ l. read_lines_of r ++ l ∷ []) (sym (line_spelled text h parts same))

  by_verdict : (h : Head) (parts : List Placed) → line_of text ≡ line.Formed h parts → (o : Option Why) → verdict r h parts ≡ o → told o (after r h parts) ≡ Ok s → read_lines_of s ≡ read_lines_of r ++ text ∷ []
  by_verdict h parts same None passes here = by_next h parts same passes (after r h parts) refl here
  by_verdict h parts same (Some reason) passes here = absurd (cc)

  by_line : (l : Line) → line_of text ≡ l → taken r l ≡ Ok s → read_lines_of s ≡ read_lines_of r ++ text ∷ []
  by_line line.Misspelled same here = absurd (cc)
  by_line (line.Formed h parts) same here = by_verdict h parts same (verdict r h parts) refl here

-- the lines that were read and those that are left are the scenario's, and nothing stands behind the last feed
read-at_end : (n : ℕ) (r : Reading) (p : Content) (piece : List ℕ) → at_end n r piece ≡ Ok p → read_lines_of r ++ piece ∷ [] ≡ body_lines p.decls p.written p.scripts ++ [] ∷ []
read-at_end n r p [] e = by_current r.current refl e where
  by_current : (o : Option Script) → r.current ≡ o → cond (is_some o) (Err (At n why.Order)) (Ok (ended_parts r)) ≡ Ok p → read_lines_of r ++ [] ∷ [] ≡ body_lines p.decls p.written p.scripts ++ [] ∷ []
  by_current None none here =
      let same : ended_parts r ≡ p = cc in
      ap (λ o. read_so r.decls r.written r.scripts o ++ [] ∷ []) none ∙ ap (λ l. l ++ [] ∷ []) (append-nil _) ∙ ap (λ q. body_lines q.decls q.written q.scripts ++ [] ∷ []) same
  by_current (Some script) none here = absurd (cc)
read-at_end n r p (b ∷ bs) e = absurd (cc)

read-rest : (n : ℕ) (r : Reading) (p : Content) (piece : List ℕ) (more : List (List ℕ)) → IsValid (parts_of r) → read_lines n r piece more ≡ Ok p → read_lines_of r ++ piece ∷ more ≡ body_lines p.decls p.written p.scripts ++ [] ∷ []
read-rest n r p piece [] valid e = read-at_end n r p piece e
read-rest n r p piece (next ∷ more) valid e = by_result (read_line r piece) refl e (λ s. read-rest (n + 1) s p next more) where
  by_result : (o : Result Reading Why) → read_line r piece ≡ o → behind n o (λ s. read_lines (n + 1) s next more) ≡ Ok p
      → ((s : Reading) → IsValid (parts_of s) → read_lines (n + 1) s next more ≡ Ok p → read_lines_of s ++ next ∷ more ≡ body_lines p.decls p.written p.scripts ++ [] ∷ [])
      → read_lines_of r ++ piece ∷ next ∷ more ≡ body_lines p.decls p.written p.scripts ++ [] ∷ []
  by_result (Ok s) same here rest =
      sym (append_assoc (read_lines_of r) (piece ∷ []) (next ∷ more)) ∙ ap (λ l. l ++ next ∷ more) (sym (read-line r s piece valid same)) ∙ rest s (valid-line r s piece same valid) here
  by_result (Err reason) same here rest = absurd (cc)

-- the pieces of a text that was read are the scenario's lines, and nothing behind the last feed
read-pieces : (p : Content) (pieces : List (List ℕ)) → read_pieces pieces ≡ Ok p → pieces ≡ lines_of p ++ [] ∷ []
read-pieces p [] e = absurd (cc)
read-pieces p (first ∷ more) e = by_header (bytes_eq first (codes "zk 1")) refl e where
  by_more : (more : List (List ℕ)) → behind_header more ≡ Ok p → more ≡ body_lines p.decls p.written p.scripts ++ [] ∷ []
  by_more [] here = absurd (cc)
  by_more (piece ∷ more) here = read-rest 2 start p piece more valid-start here

  by_header : (b : Bool) → bytes_eq first (codes "zk 1") ≡ b → cond b (behind_header more) (Err (At 1 why.Header)) ≡ Ok p → first ∷ more ≡ lines_of p ++ [] ∷ []
  by_header true same here = ap (λ l. l ∷ more) ((bytes_decides first (codes "zk 1")).0 same) ∙ ap (λ l. codes "zk 1" ∷ l) (by_more more here)
  by_header false same here = absurd (cc)

-- lines with their feeds, as pieces that were cut at the feeds
join-lines : (lines : List (List ℕ)) → join_with_byte line_feed (lines ++ [] ∷ []) ≡ lines_text lines
join-lines [] = refl
join-lines (l ∷ []) = sym (append-nil (l ++ line_feed ∷ []))
join-lines (l ∷ m ∷ lines) = ap (λ t. l ++ (line_feed ∷ t)) (join-lines (m ∷ lines)) ∙ sym (append_assoc l (line_feed ∷ []) (lines_text (m ∷ lines)))

-- what is read is spelled so
pub text_of-read : (text : List ℕ) (p : Content) → scenario_of text ≡ Ok p → text ≡ text_of p
text_of-read text p e = by_length (nat_lt LONGEST_SCENARIO (length text)) e where
  by_length : (b : Bool) → cond b (Err (At 0 why.Length)) (read_pieces (pieces_of text)) ≡ Ok p → text ≡ text_of p
  by_length true here = absurd (cc)
  by_length false here =
      sym (join_with_byte-slice_split line_feed text) ∙ ap (join_with_byte line_feed) (read-pieces p (pieces_of text) here) ∙ join-lines (lines_of p)

-- what was read is a scenario whose text is read as it
pub IsReadable-read : (text : List ℕ) (p : Content) → scenario_of text ≡ Ok p → IsReadable p
IsReadable-read text p e = record { read_back = ap scenario_of (sym (text_of-read text p e)) ∙ e }

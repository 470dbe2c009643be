-- Scripts that are read from their lines, one behind the other.
use Rattle.std.proofs.Common.{◌≡◌, ℕ, ◌+◌, ◌*◌, ◌≤◌, false, is_some, Option, None, Some, Ok, List, [], ◌∷◌, ◌++◌, length, length-append, map, append-nil, append_assoc, arith, refl, sym, ap, subst, ◌∙◌}
use Rattle.std.specs.Prelude.{option_map}
use Rattle.std.specs.List.{flat_map}
use Rattle.std.proofs.lemmas.Bool.{cond-false, ne_eqb}
use Rattle.std.proofs.lemmas.List.{length-map}
use Rattle.zk_words.specs.declared.slot.Slot.TheVariants as slot
use Rattle.zk_words.specs.declared.word.Head.TheVariants as head
use Rattle.zk_line.specs.declared.types.Arg.TheVariants as arg
use Rattle.zk_line.specs.declared.types.Decl.{Decl}
use Rattle.zk_line.specs.declared.types.Declared.{Declared}
use Rattle.zk_line.specs.declared.types.Ref.TheVariants.{Known}
use Rattle.zk_line.specs.Objects.{object_of, name_at, is_at, is_user}
use Rattle.zk_line.specs.Text.{call_line}
use Rattle.zk_scenario.specs.declared.limits.TheConstants.{MOST_CALLS}
use Rattle.zk_scenario.specs.declared.types.Script.{Script}
use Rattle.zk_scenario.specs.Grammar.{told, taken, read_line}
use Rattle.zk_scenario.specs.Scripts.{script_of}
use Rattle.zk_scenario.specs.Spelling.{script_line, end_line, script_lines}
use Rattle.zk_scenario.specs.Valid.{call_count}
use Rattle.zk_scenario.specs.Verdict.{has_script, is_misplaced, opened, after}
use Rattle.zk_scenario.proofs.ScriptTables.{script_of-push}
use Rattle.zk_scenario.proofs.Verdicts.{verdict_right}
use Rattle.zk_soak.proofs.Pieces.{IsLine}
use Rattle.zk_soak.proofs.WordsRead.{Said, IsSaid, IsFormed, args_in, parts_in, formed_by}
use Rattle.zk_soak.proofs.LinesRead.{IsRead, joined, no_line, line_first}
use Rattle.zk_soak.proofs.CallsRead.{AreTaken, reading, script, call_count-cons, call_count-push, calls_read}

-- an object plays a script as a supervisor, and is found by its name
pub record IsOwner (decls : List Decl) (owner : ℕ) : Type 0 where
  pub found : object_of decls (name_at decls owner) ≡ Some owner
  pub said : (size : Option ℕ) → IsSaid decls size slot.Owner (arg.Object (Known owner))
  pub super : is_at is_user decls owner ≡ false

-- scripts of objects from a number on, in their order, whose calls are taken
abbrev pub ArePlayed : List Decl → ℕ → List Script → Type 0
ArePlayed decls k [] = Unit {0}
ArePlayed decls k (s ∷ ss) = (k ≤ s.owner) × IsOwner decls s.owner × AreTaken decls s.calls × ArePlayed decls (s.owner + 1) ss

-- no object from this number on has a script
abbrev pub AreFresh : ℕ → List Script → Type 0
AreFresh k ss = (owner : ℕ) → k ≤ owner → script_of ss owner ≡ None

fresh-push : (k : ℕ) (ss : List Script) (s : Script) → AreFresh k ss → k ≤ s.owner → AreFresh (s.owner + 1) (ss ++ s ∷ [])
fresh-push k ss s fresh least owner above =
    script_of-push ss s owner (fresh s.owner least) ∙ cond-false _ (Some (length ss)) (script_of ss owner) (ne_eqb s.owner owner (λ same. absurd (omega (arith, same, above)))) ∙ fresh owner (omega (arith, least, above))

-- the line that opens a script is formed of its words
formed_script : (decls : List Decl) (owner : ℕ) → IsOwner decls owner → IsFormed decls head.Script ((slot.Owner, arg.Object (Known owner)) ∷ []) (script_line decls owner)
formed_script decls owner is =
    formed_by decls head.Script ((slot.Owner, arg.Object (Known owner)) ∷ [])
    (record { first = refl; fitting = refl; placed = refl; once = refl; together = refl; plain = refl; short = omega arith })
    (is.said _, tt)

end_is : IsLine end_line
end_is = record { unfed = refl; short = omega arith }

module _ (decls : List Decl) (written : List Declared) where
  -- a script is opened
  opened_read : (ss : List Script) (owner : ℕ) → IsOwner decls owner → script_of ss owner ≡ None
      → read_line (reading decls written ss None) (script_line decls owner) ≡ Ok (reading decls written ss (Some (script owner [])))
  opened_read ss owner is fresh =
      let ps : List Said = (slot.Owner, arg.Object (Known owner)) ∷ [] in
      let before = reading decls written ss None in
      let parts = parts_in decls ps in
      let formed = formed_script decls owner is in
      let placed : is_misplaced before head.Script parts ≡ false = ap (λ o. has_script before o) is.found ∙ ap is_some fresh in
      let right = verdict_right before decls head.Script parts None (args_in ps) refl false refl (formed.in_range, formed.named, formed.said) placed false false refl refl refl in
      ap (taken before) formed.formed ∙ ap (λ o. told o (after before head.Script parts)) right.0 ∙ ap (λ o. told None (option_map (opened before) o)) is.found

  -- and ends
  end_read : (ss : List Script) (s : Script) → read_line (reading decls written ss (Some s)) end_line ≡ Ok (reading decls written (ss ++ s ∷ []) None)
  end_read ss s = refl

  script_read : (ss : List Script) (s : Script) → IsOwner decls s.owner → AreTaken decls s.calls → script_of ss s.owner ≡ None → call_count ss + length s.calls ≤ MOST_CALLS
      → IsRead (reading decls written ss None) (script_lines decls s) (reading decls written (ss ++ s ∷ []) None)
  script_read ss s is are fresh room =
      let own = reading decls written ss (Some (script s.owner [])) in
      let whole = reading decls written ss (Some s) in
      let calls : IsRead own (map (call_line decls) s.calls) whole = calls_read decls written ss s.owner is.super [] s.calls are refl (omega (arith, room)) in
      line_first (reading decls written ss None) own (reading decls written (ss ++ s ∷ []) None) (script_line decls s.owner) (map (call_line decls) s.calls ++ end_line ∷ [])
      (opened_read ss s.owner is fresh) (formed_script decls s.owner is).is_line
      (joined own whole (reading decls written (ss ++ s ∷ []) None) (map (call_line decls) s.calls) (end_line ∷ []) calls
      (line_first whole (reading decls written (ss ++ s ∷ []) None) (reading decls written (ss ++ s ∷ []) None) end_line [] (end_read ss s) end_is (no_line _)))

  -- scripts, one behind the other
  pub scripts_read : (ss more : List Script) (k : ℕ) → ArePlayed decls k more → AreFresh k ss → call_count ss + call_count more ≤ MOST_CALLS
      → IsRead (reading decls written ss None) (flat_map (script_lines decls) more) (reading decls written (ss ++ more) None)
  scripts_read ss [] k are fresh room =
      subst (λ (xs : List Script). IsRead (reading decls written ss None) [] (reading decls written xs None)) (sym (append-nil ss)) (no_line _)
  scripts_read ss (s ∷ more) k are fresh room =
      let least = are.0 in
      let count = call_count-push ss s in
      let all = call_count-cons s more in
      let one = script_read ss s are.1 are.2 (fresh s.owner least) (omega (arith, all, room)) in
      let rest = scripts_read (ss ++ s ∷ []) more (s.owner + 1) are.3 (fresh-push k ss s fresh least) (omega (arith, count, all, room)) in
      joined (reading decls written ss None) (reading decls written (ss ++ s ∷ []) None) (reading decls written (ss ++ s ∷ more) None) (script_lines decls s) (flat_map (script_lines decls) more) one
      (subst (λ (xs : List Script). IsRead (reading decls written (ss ++ s ∷ []) None) (flat_map (script_lines decls) more) (reading decls written xs None)) (append_assoc ss (s ∷ []) more) rest)

-- how many lines scripts have
pub length-scripts : (decls : List Decl) (ss : List Script) → length (flat_map (script_lines decls) ss) ≡ call_count ss + 2 * length ss
length-scripts decls [] = omega arith
length-scripts decls (s ∷ ss) =
    omega (arith, length-append (script_lines decls s) (flat_map (script_lines decls) ss), length-append (map (call_line decls) s.calls) (end_line ∷ []), length-map s.calls (call_line decls), length-scripts decls ss, call_count-cons s ss)

-- The text of the scenario, part by part.
use Rattle.std.proofs.Common.{◌≡◌, ℕ, List, [], ◌∷◌, ◌++◌, map, codes, append_assoc, sym, ap, ◌∙◌}
use Rattle.std.specs.List.{flat_map}
use Rattle.std.proofs.lemmas.Grind.{flat_map-append}
use Rattle.zk_line.specs.declared.types.Decl.{Decl}
use Rattle.zk_line.specs.declared.types.Declared.{Declared}
use Rattle.zk_scenario.specs.declared.types.Script.{Script}
use Rattle.zk_scenario.specs.Spelling.{declared_line, script_lines, fed, lines_text, text_of}
use Rattle.zk_scenario.proofs.ScenarioLines.{lines_text-body_lines}

-- the text of scripts
abbrev pub scripts_text : List Decl → List Script → List ℕ
scripts_text decls ss = flat_map (λ script. lines_text (script_lines decls script)) ss

-- a header and declarations, then scripts, then further ones
pub text-parts : (decls : List Decl) (written : List Declared) (first second : List Script)
    → (lines_text (codes "zk 1" ∷ map (declared_line decls) written) ++ scripts_text decls first) ++ scripts_text decls second
    ≡ text_of (record { decls = decls; written = written; scripts = first ++ second })
text-parts decls written first second =
    let front : List (List ℕ) = codes "zk 1" ∷ map (declared_line decls) written in
    append_assoc (lines_text front) (scripts_text decls first) (scripts_text decls second)
    ∙ ap (λ l. lines_text front ++ l) (sym (flat_map-append (λ script. lines_text (script_lines decls script)) first second) ∙ lines_text-body_lines decls [] (first ++ second))
    ∙ sym (flat_map-append fed front (flat_map (script_lines decls) (first ++ second)))

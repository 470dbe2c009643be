-- The lines of a scenario, part by part.
use Rattle.std.proofs.Common.{◌≡◌, ℕ, zero, suc, ◌<◌, Some, List, [], ◌∷◌, ◌++◌, map, length, take, slice_get, codes, refl, sym, ap, ◌∙◌, arith}
use Rattle.std.specs.Option.{option_map_or}
use Rattle.std.proofs.lemmas.Bool.{eqb-true}
use Rattle.std.specs.List.{flat_map}
use Rattle.std.proofs.lemmas.List.{append-nil, map-append, take-append-le}
use Rattle.std.proofs.Math.Seq.{take-append_seam}
use Rattle.zk_words.specs.Text.{line_text}
use Rattle.std.proofs.lemmas.Grind.{flat_map-append}
use Rattle.std.proofs.lemmas.List.Folds.{flat_map-map}
use Rattle.zk_line.specs.declared.types.Decl.{Decl}
use Rattle.zk_line.specs.declared.types.Declared.{Declared}
use Rattle.zk_line.specs.declared.types.Declared.TheVariants.{Object, Allow}
use Rattle.zk_line.specs.Objects.{is_thread, name_of, name_at}
use Rattle.zk_line.proofs.Lists.{slice_get-append_left, slice_get-push}
use Rattle.zk_scenario.specs.declared.types.Script.{Script}
use Rattle.zk_line.specs.Text.{decl_line, call_line}
use Rattle.zk_scenario.specs.Written.{is_object, objects_in, AreInOrder}
use Rattle.zk_scenario.proofs.InOrder.{permission-declared, is_at-within, count_by-take-lt}
use Rattle.zk_scenario.specs.Spelling.{object_line, declared_line, script_line, end_line, script_lines, body_lines, fed, lines_text}

lines_text-flat_map : (decls : List Decl) (ss : List Script) → lines_text (flat_map (script_lines decls) ss) ≡ flat_map (λ s. lines_text (script_lines decls s)) ss
lines_text-flat_map decls [] = refl
lines_text-flat_map decls (s ∷ ss) =
    flat_map-append fed (script_lines decls s) (flat_map (script_lines decls) ss) ∙ ap (λ t. lines_text (script_lines decls s) ++ t) (lines_text-flat_map decls ss)

-- the lines of declarations, then the scripts
pub lines_text-body_lines : (decls : List Decl) (written : List Declared) (ss : List Script)
    → flat_map (λ line. fed (declared_line decls line)) written ++ flat_map (λ s. lines_text (script_lines decls s)) ss ≡ lines_text (body_lines decls written ss)
lines_text-body_lines decls written ss =
    sym (flat_map-append fed (map (declared_line decls) written) (flat_map (script_lines decls) ss)
    ∙ ap (λ t. t ++ lines_text (flat_map (script_lines decls) ss)) (flat_map-map fed (declared_line decls) written)
    ∙ ap (λ t. flat_map (λ line. fed (declared_line decls line)) written ++ t) (lines_text-flat_map decls ss))

same_each : {X Y : Type 0} (f g : X → Y) (xs : List X) → ((n : ℕ) (x : X) → slice_get xs n ≡ Some x → f x ≡ g x) → map f xs ≡ map g xs
same_each f g [] same = refl
same_each f g (x ∷ xs) same = ap (λ y. y ∷ map f xs) (same zero x refl) ∙ ap (λ ys. g x ∷ ys) (same_each f g xs (λ n y e. same (suc n) y e))

-- the name of a declared object, with one declaration more
name_at-push : (decls : List Decl) (d : Decl) (object : ℕ) → object < length decls → name_at (decls ++ d ∷ []) object ≡ name_at decls object
name_at-push decls d object within = ap (λ o. option_map_or name_of o []) (slice_get-append_left decls (d ∷ []) object within)

object_line-push : (decls : List Decl) (d : Decl) (object : ℕ) → object < length decls → object_line (decls ++ d ∷ []) object ≡ object_line decls object
object_line-push decls d object within =
    ap (λ ds. option_map_or (decl_line ds) (slice_get (decls ++ d ∷ []) object) []) (take-append-le object decls (d ∷ []) (omega arith))
    ∙ ap (λ o. option_map_or (decl_line (take object decls)) o []) (slice_get-append_left decls (d ∷ []) object within)

-- the line of an object that is declared now
object_line-new : (decls : List Decl) (d : Decl) → object_line (decls ++ d ∷ []) (length decls) ≡ decl_line decls d
object_line-new decls d =
    ap (λ o. option_map_or (decl_line (take (length decls) (decls ++ d ∷ []))) o []) (slice_get-push decls d) ∙ ap (λ ds. decl_line ds d) (take-append_seam decls (d ∷ []))

-- a line that was written says the same with one declaration more
declared_line-push : (decls : List Decl) (written : List Declared) (d : Decl) (n : ℕ) (line : Declared) → AreInOrder decls written → slice_get written n ≡ Some line → declared_line (decls ++ d ∷ []) line ≡ declared_line decls line
declared_line-push decls written d n (Object object) held e =
    let at = eqb-true object (objects_in (take n written)) (held.each n (Object object) e) in
    object_line-push decls d object (omega (arith, at, held.all, count_by-take-lt is_object written n (Object object) e refl))
declared_line-push decls written d n (Allow thread object) held e =
    let both = permission-declared decls written n thread object held e in
    ap (λ name. line_text (codes "allow" ∷ name ∷ name_at (decls ++ d ∷ []) object ∷ [])) (name_at-push decls d thread (is_at-within is_thread decls thread both.0))
    ∙ ap (λ name. line_text (codes "allow" ∷ name_at decls thread ∷ name ∷ [])) (name_at-push decls d object both.1)

-- the lines of declarations, with one more
pub written_lines-declared : (decls : List Decl) (written : List Declared) (d : Decl) → AreInOrder decls written
    → map (declared_line (decls ++ d ∷ [])) (written ++ Object (length decls) ∷ []) ≡ map (declared_line decls) written ++ decl_line decls d ∷ []
written_lines-declared decls written d held =
    map-append (declared_line (decls ++ d ∷ [])) written (Object (length decls) ∷ [])
    ∙ ap (λ ls. ls ++ object_line (decls ++ d ∷ []) (length decls) ∷ []) (same_each (declared_line (decls ++ d ∷ [])) (declared_line decls) written (λ n line e. declared_line-push decls written d n line held e))
    ∙ ap (λ l. map (declared_line decls) written ++ l ∷ []) (object_line-new decls d)

-- the head, the calls and the end
pub lines_text-script_lines : (decls : List Decl) (s : Script) → lines_text (script_lines decls s) ≡ fed (script_line decls s.owner) ++ (flat_map (λ c. fed (call_line decls c)) s.calls ++ fed (end_line))
lines_text-script_lines decls s =
    let head = fed (script_line decls s.owner) in
    ap (λ t. head ++ t) (flat_map-append fed (map (call_line decls) s.calls) (end_line ∷ [])
    ∙ ap (λ t. t ++ (fed (end_line) ++ [])) (flat_map-map fed (call_line decls) s.calls)
    ∙ ap (λ t. flat_map (λ c. fed (call_line decls c)) s.calls ++ t) (append-nil (fed (end_line))))

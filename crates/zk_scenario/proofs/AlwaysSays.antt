-- A line to which no reason applies says something, so the last refusal of `told` never comes.
use Rattle.std.proofs.Common.{◌≡◌, ℕ, nat_le, true, false, List, [], ◌∷◌, Option, Some, None, refl, sym, ap, subst, ◌∙◌}
use Rattle.std.specs.Prelude.{option_map, option_and_then, IsSome}
use Rattle.std.specs.Option.{option_map_or}
use Rattle.std.proofs.lemmas.Bool.{and_parts}
use Rattle.zk_words.specs.declared.slot.Rest.TheVariants.{Nothing}
use Rattle.zk_words.specs.declared.slot.Slot.TheVariants as slot
use Rattle.zk_words.specs.declared.word.Head.{Head}
use Rattle.zk_words.specs.declared.word.Head.TheVariants as head
use Rattle.zk_words.specs.Lines.{IsForm}
use Rattle.zk_words.specs.Parts.{Placed, fits, parts_of as placed_of}
use Rattle.zk_words.specs.Table.{row_of}
use Rattle.zk_line.specs.Args.{args_of}
use Rattle.zk_line.specs.Calls.{call_of}
use Rattle.zk_line.specs.Checks.{first_object, message_size, each_in_range, go_together, each_well_named, name_once, are_well_named, has_many_events, has_many_observers}
use Rattle.zk_line.specs.Decls.{decl_of, permission_of}
use Rattle.zk_line.specs.Objects.{object_of, is_at, names, plays_script}
use Rattle.zk_line.proofs.Makes.{AreRight, are_right, makes_call, makes_decl, makes_permission}
use Rattle.zk_scenario.specs.declared.limits.TheConstants.{MOST_CALLS}
use Rattle.zk_scenario.specs.Free.{next_is_free, is_free_line}
use Rattle.zk_scenario.specs.Reading.{Reading, all_scripts, declared, permitted, called}
use Rattle.zk_scenario.specs.Valid.{call_count}
use Rattle.zk_scenario.specs.Verdict.{is_full, verdict, opened, after}
use Rattle.zk_scenario.proofs.AcceptedLines.{Passes, Passes-verdict}
use Rattle.zk_scenario.proofs.Room.{or_none}

some-map : {X Y : Type 0} (f : X → Y) (o : Option X) → IsSome o → IsSome (option_map f o)
some-map f (Some x) e = refl
some-map f None e = absurd (cc)

-- the one word of a script's head names an object
owner-some : (r : Reading) (parts : List Placed) (ws : List (List ℕ)) → fits (slot.Owner ∷ []) Nothing ws ≡ true → parts ≡ placed_of (slot.Owner ∷ []) Nothing ws → are_well_named false r.decls parts ≡ true
    → IsSome (first_object r.decls parts)
owner-some r parts [] fit is named = absurd (cc)
owner-some r parts (w ∷ []) fit is named =
    subst (λ ps. IsSome (first_object r.decls ps)) (sym is) (by_place (object_of r.decls w) (and_parts (names plays_script r.decls w) true (and_parts (each_well_named false r.decls (placed_of (slot.Owner ∷ []) Nothing (w ∷ []))) true (sym (ap (are_well_named false r.decls) is) ∙ named)).0).0) where
      by_place : (o : Option ℕ) → option_map_or (is_at plays_script r.decls) o false ≡ true → IsSome o
      by_place (Some k) e = refl
      by_place None e = absurd (cc)
owner-some r parts (w ∷ v ∷ ws) fit is named = absurd (cc)

-- the words of a line to which no reason applies are right
right_words : (r : Reading) (h : Head) (parts : List Placed) (form : IsForm h parts) → Passes r h parts → AreRight (is_free_line r h) r.decls (message_size r.decls parts) (placed_of (row_of h).slots (row_of h).rest form.words)
right_words r h parts form p =
    let size = message_size r.decls parts in
    let free = is_free_line r h in
    subst (AreRight free r.decls size) form.placed (are_right free r.decls size parts form.spelled (and_parts (each_in_range size parts) (go_together h parts) p.in_range).0 (and_parts (each_well_named free r.decls parts) (name_once parts) p.well_named).0)

pub after-some : (r : Reading) (h : Head) (parts : List Placed) → IsForm h parts → verdict r h parts ≡ None → IsSome (after r h parts)
after-some r (head.Declare k) parts form e =
    let p = Passes-verdict r (head.Declare k) parts e in
    let right = right_words r (head.Declare k) parts form p in
    let together = (and_parts (each_in_range (message_size r.decls parts) parts) (go_together (head.Declare k) parts) p.in_range).1 in
    let few = (or_none (is_full r.decls k) (has_many_observers parts) p.within).1 in
    some-map (declared r) (option_and_then (decl_of k) (args_of r.decls parts))
    (subst (λ ps. IsSome (option_and_then (decl_of k) (args_of r.decls ps))) (sym form.placed) (makes_decl k r.decls (message_size r.decls parts) form.words form.fitting right (sym (ap (go_together (head.Declare k)) form.placed) ∙ together) (sym (ap has_many_observers form.placed) ∙ few)))
after-some r head.Allow parts form e =
    let p = Passes-verdict r head.Allow parts e in
    let size = message_size r.decls parts in
    some-map (λ (x : ℕ × ℕ). permitted r x.0 x.1) (option_and_then permission_of (args_of r.decls parts))
    (subst (λ ps. IsSome (option_and_then permission_of (args_of r.decls ps))) (sym form.placed) (makes_permission r.decls size form.words form.fitting (right_words r head.Allow parts form p)))
after-some r head.Script parts form e =
    let p = Passes-verdict r head.Script parts e in
    some-map (opened r) (first_object r.decls parts) (owner-some r parts form.words form.fitting form.placed p.well_named)
after-some r head.End parts form e = refl
after-some r (head.Call w) parts form e =
    let p = Passes-verdict r (head.Call w) parts e in
    let few = (or_none (nat_le MOST_CALLS (call_count (all_scripts r))) (has_many_events parts) p.within).1 in
    let right = right_words r (head.Call w) parts form p in
    some-map (called r) (option_and_then (call_of w) (args_of r.decls parts))
    (subst (λ ps. IsSome (option_and_then (call_of w) (args_of r.decls ps))) (sym form.placed) (makes_call w (next_is_free r) r.decls (message_size r.decls parts) form.words form.fitting right (sym (ap has_many_events form.placed) ∙ few)))

-- A line to which no reason applies keeps what was read valid.
use Rattle.std.proofs.Common.{◌≡◌, ℕ, ◌+◌, ◌<◌, ◌≤◌, Bool, true, false, not, cond, eqb, nat_le, nat_lt, ◌&&◌, Option, None, Some, List, [], ◌∷◌, ◌++◌, length, take, slice_get, is_some, refl, sym, ap, subst, ◌∙◌, ⊎_elim, arith, length-append}
use Rattle.std.specs.List.{list_all}
use Rattle.std.specs.Option.{option_map_or, option_map, option_to_list}
use Rattle.std.specs.Prelude.{option_and_then}
use Rattle.std.proofs.lemmas.Bool.{and_parts, and_from, cases_order, leb-false, ltb-false, not-true, not-false, eq-eqb, ne_eqb, cond-true, cond-false}
use Rattle.std.proofs.lemmas.List.{append-nil, take-append-le}
use Rattle.std.proofs.Math.Seq.{take-append_seam}
use Rattle.std.proofs.lemmas.List.Folds.{list_all-append}
use Rattle.std.proofs.lemmas.List.Quantifiers.{position-Some}
use Rattle.std.proofs.lemmas.List.Sums.{sum_by-append}
use Rattle.std.proofs.lemmas.Option.{none-some, option_and_then_some, same_Some, slice_get_past, slice_get_within}
use Rattle.zk_base.proofs.Lists.{none_from_is_some}
use Rattle.zk_base.specs.declared.kinds.Kind.{Kind}
use Rattle.zk_base.specs.declared.kinds.Need.TheVariants as need
use Rattle.zk_words.specs.declared.slot.Rest.TheVariants.{Nothing}
use Rattle.zk_words.specs.declared.slot.Slot.TheVariants as slot
use Rattle.zk_words.specs.declared.word.Word.{Word}
use Rattle.zk_words.specs.declared.word.Head.{Head}
use Rattle.zk_words.specs.declared.word.Head.TheVariants as head
use Rattle.zk_words.specs.Lines.{IsForm}
use Rattle.zk_words.specs.Parts.{Placed, fits, parts_of as placed_of}
use Rattle.zk_line.specs.declared.types.Decl.{Decl}
use Rattle.zk_line.specs.declared.types.Declared.{Declared}
use Rattle.zk_line.specs.declared.types.Arg.{Arg}
use Rattle.zk_line.specs.declared.types.Call.{Call}
use Rattle.zk_line.specs.Args.{args_of}
use Rattle.zk_line.specs.Calls.{call_of, word_of}
use Rattle.zk_line.specs.Checks.{first_object, message_size, each_in_range, go_together, are_in_range, each_well_named, name_once, are_well_named, has_many_events, has_many_observers}
use Rattle.zk_line.specs.Decls.{decl_of, permission_of}
use Rattle.zk_line.specs.Fits.{call_fits, decl_fits, observers_fit, AreObserved}
use Rattle.zk_line.specs.Objects.{AreNames, object_of, is_at, is_user, is_item, is_listener, is_met, names, plays_script}
use Rattle.zk_line.proofs.Fits.{call_fits-read, permission_fits-read, kind_of-read, new_name-read}
use Rattle.zk_line.proofs.InRange.{decl_fits-read}
use Rattle.zk_line.proofs.Inverse.{said_of-call_of}
use Rattle.zk_line.proofs.Lists.{slice_get-append_left, slice_get-push, position-push}
use Rattle.zk_line.proofs.Makes.{is_some-some}
use Rattle.zk_line.proofs.Options.{one_part}
use Rattle.zk_scenario.specs.declared.limits.TheConstants.{MOST_CALLS}
use Rattle.zk_scenario.specs.declared.types.Script.{Script}
use Rattle.zk_scenario.specs.declared.refused.Why.{Why}
use Rattle.zk_scenario.specs.declared.refused.Why.TheVariants as why
use Rattle.zk_scenario.specs.Free.{is_free, next_is_free, is_free_line}
use Rattle.zk_scenario.specs.Content.{Content}
use Rattle.zk_scenario.specs.Reading.{Reading, all_scripts, declared, permitted, begun, with_call, called, parts_of}
use Rattle.zk_scenario.specs.Scripts.{script_of}
use Rattle.zk_scenario.specs.Valid.{IsValid, OneEach, forbids_call, call_stands, calls_fit, script_fits, script_stands, call_count}
use Rattle.zk_scenario.specs.Verdict.{has_begun, has_script, is_barred, is_misplaced, is_full, is_past_limit, is_said_before, are_named, verdict, opened, after}
use Rattle.zk_scenario.specs.Written.{is_allowed, AreInOrder}
use Rattle.zk_scenario.proofs.FreeLines.{calls_pass-push}
use Rattle.zk_scenario.proofs.InOrder.{in_order-declared, in_order-permitted, is_at-within}
use Rattle.zk_scenario.proofs.Named.{AreNames-push}
use Rattle.zk_scenario.proofs.Room.{HasRoom, or_none, room-push}
use Rattle.zk_scenario.proofs.ScriptTables.{script_of-push}

-- no reason applies: none of the tests says so
pub record Passes (r : Reading) (h : Head) (parts : List Placed) : Type 0 where
  pub placed : is_misplaced r h parts ≡ false
  pub in_range : are_in_range r.decls h parts ≡ true
  pub well_named : are_well_named (is_free_line r h) r.decls parts ≡ true
  pub new : option_map_or (is_said_before r h) (args_of r.decls parts) false ≡ false
  pub within : is_past_limit r h parts ≡ false

drop_test : (b : Bool) (reason : Why) (rest : Option Why) → cond b (Some reason) rest ≡ None → (b ≡ false) × (rest ≡ None)
drop_test true reason rest e = absurd (cc)
drop_test false reason rest e = (refl, e)

pub Passes-verdict : (r : Reading) (h : Head) (parts : List Placed) → verdict r h parts ≡ None → Passes r h parts
Passes-verdict r h parts e =
    let one = drop_test (is_misplaced r h parts) why.Order _ e in
    let two = drop_test (not (are_in_range r.decls h parts)) why.Number _ one.1 in
    let three = drop_test (not (are_named r h parts)) why.Name _ two.1 in
    let four = drop_test (is_past_limit r h parts) why.Limit _ three.1 in
    let again = option_map_or (is_said_before r h) (args_of r.decls parts) false in
    let named = and_parts (are_well_named (is_free_line r h) r.decls parts) (not again) (not-false _ three.0) in
    record { placed = one.0; in_range = not-false _ two.0; well_named = named.0; new = not-true again named.1; within = four.0 }

one_each-left : (ss : List Script) (s : Script) → OneEach (ss ++ s ∷ []) → OneEach ss
one_each-left ss s held n x e =
    let within = slice_get_within ss n x e in
    let found = held n x (slice_get-append_left ss (s ∷ []) n within ∙ e) in
    pick (script_of ss x.owner) (eqb s.owner x.owner) (sym (position-push (λ y. eqb y.owner x.owner) ss s) ∙ found) within where
      pick : (o : Option ℕ) (b : Bool) → cond (is_some o) o (cond b (Some (length ss)) None) ≡ Some n → n < length ss → o ≡ Some n
      pick (Some k) b found within = found
      pick None true found within = let same : length ss ≡ n = cc in absurd (omega arith)
      pick None false found within = absurd (cc)

one_each-fresh : (ss : List Script) (s : Script) → OneEach (ss ++ s ∷ []) → script_of ss s.owner ≡ None
one_each-fresh ss s held =
    pick (script_of ss s.owner) (eqb s.owner s.owner) (sym (position-push (λ y. eqb y.owner s.owner) ss s) ∙ held (length ss) s (slice_get-push ss s))
    (λ k e. (position-Some (λ y. eqb y.owner s.owner) ss k s e).0) where
      pick : (o : Option ℕ) (b : Bool) → cond (is_some o) o (cond b (Some (length ss)) None) ≡ Some (length ss) → ((k : ℕ) → o ≡ Some k → k < length ss) → o ≡ None
      pick (Some k) b found within = let same : k ≡ length ss = cc in let short = within k refl in absurd (omega arith)
      pick None b found within = refl

one_each-push : (ss : List Script) (s : Script) → OneEach ss → script_of ss s.owner ≡ None → OneEach (ss ++ s ∷ [])
one_each-push ss s held fresh n x e =
    ⊎_elim
    (λ at. let here : x ≡ s = cc (slice_get-push ss s, ap (slice_get (ss ++ s ∷ [])) at) in
    script_of-push ss s x.owner fresh ∙ cond-true (eqb s.owner x.owner) (Some (length ss)) (script_of ss x.owner) (eq-eqb s.owner x.owner (ap (λ y. y.owner) (sym here))) ∙ ap Some (sym at))
    (⊎_elim
    (λ below.
    let before = held n x (sym (slice_get-append_left ss (s ∷ []) n below) ∙ e) in
    script_of-push ss s x.owner fresh ∙ cond-false (eqb s.owner x.owner) (Some (length ss)) (script_of ss x.owner) (ne_eqb s.owner x.owner (λ same. none-some n (sym fresh ∙ ap (script_of ss) same ∙ before))) ∙ before)
    (λ above. absurd (none-some x (sym (slice_get_past (ss ++ s ∷ []) n (omega (arith, length-append ss (s ∷ [])))) ∙ e))))
    (cases_order n (length ss))

-- before the first script none stands and none is open
pub nothing_begun : (r : Reading) → has_begun r ≡ false → (r.scripts ≡ []) × (r.current ≡ None)
nothing_begun r first =
    let parts = or_none (is_some r.current) (nat_lt 0 (length r.scripts)) first in
    (empty r.scripts (ltb-false 0 (length r.scripts) parts.1), none_from_is_some r.current parts.0) where
      empty : (xs : List Script) → length xs ≤ 0 → xs ≡ []
      empty [] h = refl
      empty (x ∷ xs) h = absurd (omega arith)

-- a test of all, with one more
all-push : {X : Type 0} (test : X → Bool) (xs : List X) (x : X) → list_all test (xs ++ x ∷ []) ≡ (list_all test xs && test x)
all-push test xs x = list_all-append test xs (x ∷ []) ∙ ap (λ b. list_all test xs && b) (and-true (test x)) where
  and-true : (b : Bool) → (b && true) ≡ b
  and-true true = refl
  and-true false = refl

room-valid : (p : Content) → IsValid p → HasRoom p.decls
room-valid p valid = record { players = valid.players; queues = valid.queues; items = valid.items; sems = valid.sems; msgqs = valid.msgqs; signals = valid.signals; chans = valid.chans; observers = valid.observers }

-- a scenario is valid, by what there is room for and what is said of its scripts
IsValid-made : (p : Content) → HasRoom p.decls → call_count p.scripts ≤ MOST_CALLS → AreNames p.decls → list_all decl_fits p.decls ≡ true → AreObserved p.decls → AreInOrder p.decls p.written → list_all (script_fits p.decls) p.scripts ≡ true → list_all (script_stands p.decls) p.scripts ≡ true → OneEach p.scripts → IsValid p
IsValid-made p room calls named in_range observed in_order fit stand one_each =
    record { players = room.players; queues = room.queues; items = room.items; sems = room.sems; msgqs = room.msgqs; signals = room.signals; chans = room.chans; observers = room.observers; calls = calls; named = named; in_range = in_range; observed = observed; in_order = in_order; fit = fit; stand = stand; one_each = one_each }

-- the observers of each channel are declared before it, with one declaration more
observed-push : (decls : List Decl) (d : Decl) → AreObserved decls → observers_fit decls d ≡ true → AreObserved (decls ++ d ∷ [])
observed-push decls d held fits n x e =
    ⊎_elim
    (λ at.
    let here : x ≡ d = cc (slice_get-push decls d, ap (slice_get (decls ++ d ∷ [])) at) in
    ap (λ k. observers_fit (take k (decls ++ d ∷ [])) x) at ∙ ap (λ ds. observers_fit ds x) (take-append_seam decls (d ∷ [])) ∙ ap (observers_fit decls) here ∙ fits)
    (⊎_elim
    (λ below. ap (λ ds. observers_fit ds x) (take-append-le n decls (d ∷ []) (omega arith)) ∙ held n x (sym (slice_get-append_left decls (d ∷ []) n below) ∙ e))
    (λ above. absurd (none-some x (sym (slice_get_past (decls ++ d ∷ []) n (omega (arith, length-append decls (d ∷ [])))) ∙ e))))
    (cases_order n (length decls))

-- no script stands yet, so a declaration says nothing of one
valid-declared : (r : Reading) (d : Decl) → IsValid (parts_of r) → has_begun r ≡ false → HasRoom (r.decls ++ d ∷ []) → AreNames (r.decls ++ d ∷ []) → decl_fits d ≡ true → observers_fit r.decls d ≡ true → IsValid (parts_of (declared r d))
valid-declared r d valid first room names fits observed =
    let nothing = nothing_begun r first in
    let none : all_scripts r ≡ [] = ap (λ o. r.scripts ++ option_to_list o) nothing.1 ∙ append-nil r.scripts ∙ nothing.0 in
    IsValid-made (parts_of (declared r d)) room
    valid.calls
    names
    (all-push decl_fits r.decls d ∙ and_from (list_all decl_fits r.decls) (decl_fits d) valid.in_range fits)
    (observed-push r.decls d valid.observed observed)
    (in_order-declared r.decls r.written d valid.in_order)
    (ap (list_all (script_fits (r.decls ++ d ∷ []))) none)
    (ap (list_all (script_stands (r.decls ++ d ∷ []))) none)
    valid.one_each

-- where no script is open, all scripts are those that have ended
pub all_scripts-none : (r : Reading) → r.current ≡ None → all_scripts r ≡ r.scripts
all_scripts-none r e = ap (λ o. r.scripts ++ option_to_list o) e ∙ append-nil r.scripts

call_count-push : (ss : List Script) (s : Script) → call_count (ss ++ s ∷ []) ≡ call_count ss + length s.calls
call_count-push ss s = sum_by-append (λ x. length x.calls) ss (s ∷ []) ∙ ap (λ n. call_count ss + n) (omega arith)

fit-push : (decls : List Decl) (ss : List Script) (s : Script) → list_all (script_fits decls) (ss ++ s ∷ []) ≡ (list_all (script_fits decls) ss && script_fits decls s)
fit-push decls ss s = all-push (script_fits decls) ss s

stand-push : (decls : List Decl) (ss : List Script) (s : Script) → list_all (script_stands decls) (ss ++ s ∷ []) ≡ (list_all (script_stands decls) ss && script_stands decls s)
stand-push decls ss s = all-push (script_stands decls) ss s

valid-begun : (r : Reading) (owner : ℕ) → IsValid (parts_of r) → r.current ≡ None → is_at plays_script r.decls owner ≡ true → script_of r.scripts owner ≡ None → IsValid (parts_of (begun r (record { owner = owner; calls = [] })))
valid-begun r owner valid none thread fresh =
    let s : Script = record { owner = owner; calls = [] } in
    let same = all_scripts-none r none in
    IsValid-made (parts_of (begun r s)) (room-valid (parts_of r) valid)
    (omega (arith, call_count-push r.scripts s, ap call_count same, valid.calls))
    valid.named
    valid.in_range
    valid.observed
    valid.in_order
    (fit-push r.decls r.scripts s ∙ and_from (list_all (script_fits r.decls) r.scripts) (script_fits r.decls s) (ap (list_all (script_fits r.decls)) (sym same) ∙ valid.fit) (and_from (is_at plays_script r.decls owner) true thread refl))
    (stand-push r.decls r.scripts s ∙ and_from (list_all (script_stands r.decls) r.scripts) true (ap (list_all (script_stands r.decls)) (sym same) ∙ valid.stand) refl)
    (one_each-push r.scripts s (subst OneEach same valid.one_each) fresh)

valid-called : (decls : List Decl) (written : List Declared) (ss : List Script) (s : Script) (c : Call) → IsValid (record { decls = decls; written = written; scripts = ss ++ s ∷ [] }) → call_fits (is_free decls s) decls c ≡ true → call_stands decls s.owner (is_free decls s) c ≡ true
    → call_count (ss ++ s ∷ []) < MOST_CALLS
    → IsValid (record { decls = decls; written = written; scripts = ss ++ with_call c s ∷ [] })
valid-called decls written ss s c valid fits stands few =
    let both = and_parts (list_all (script_fits decls) ss) (script_fits decls s) (sym (fit-push decls ss s) ∙ valid.fit) in
    let user = is_at is_user decls s.owner in
    let own = and_parts (is_at plays_script decls s.owner) (calls_fit user decls s.calls) both.1 in
    let calls = calls_pass-push (λ f call. call_fits f decls call) user s.calls c ∙ and_from (calls_fit user decls s.calls) (call_fits (is_free decls s) decls c) own.1 fits in
    let standing = and_parts (list_all (script_stands decls) ss) (script_stands decls s) (sym (stand-push decls ss s) ∙ valid.stand) in
    let all_stand = calls_pass-push (call_stands decls s.owner) user s.calls c ∙ and_from (script_stands decls s) (call_stands decls s.owner (is_free decls s) c) standing.1 stands in
    IsValid-made (record { decls = decls; written = written; scripts = ss ++ with_call c s ∷ [] }) (room-valid (record { decls = decls; written = written; scripts = ss ++ s ∷ [] }) valid)
    (omega (arith, call_count-push ss s, call_count-push ss (with_call c s), length-append s.calls (c ∷ [])))
    valid.named
    valid.in_range
    valid.observed
    valid.in_order
    (fit-push decls ss (with_call c s) ∙ and_from (list_all (script_fits decls) ss) (script_fits decls (with_call c s)) both.0 (and_from (is_at plays_script decls s.owner) (calls_fit user decls (s.calls ++ c ∷ [])) own.0 calls))
    (stand-push decls ss (with_call c s) ∙ and_from (list_all (script_stands decls) ss) (script_stands decls (with_call c s)) standing.0 all_stand)
    (one_each-push ss (with_call c s) (one_each-left ss s valid.one_each) (one_each-fresh ss s valid.one_each))

-- the script that ends has an owner of its own
pub fresh-closed : (r : Reading) (s : Script) → IsValid (parts_of r) → r.current ≡ Some s → script_of r.scripts s.owner ≡ None
fresh-closed r s valid e = one_each-fresh r.scripts s (subst (λ o. OneEach (r.scripts ++ option_to_list o)) e valid.one_each)

-- whether a call is barred in a script, where there is one
abbrev barred_in : List Decl → Option Script → Word → Bool
barred_in decls o w =
    forbids_call (option_map_or (is_free decls) o false) (option_map_or (λ script. is_at is_listener decls script.owner) o false) (option_map_or (λ script. is_at is_item decls script.owner) o false) w

called_fits : (r : Reading) (c : Call) → IsValid (parts_of r) → is_some r.current ≡ true → call_fits (next_is_free r) r.decls c ≡ true → is_barred r (word_of c) ≡ false → nat_le MOST_CALLS (call_count (all_scripts r)) ≡ false → IsValid (parts_of (called r c))
called_fits r c valid inside fits unbarred few =
    let s = is_some-some r.current inside in
    subst (λ o. IsValid (record { decls = r.decls; written = r.written; scripts = r.scripts ++ option_to_list (option_map (with_call c) o) })) (sym s.1)
    (valid-called r.decls r.written r.scripts s.0 c (subst (λ o. IsValid (record { decls = r.decls; written = r.written; scripts = r.scripts ++ option_to_list o })) s.1 valid)
    (subst (λ o. call_fits (option_map_or (is_free r.decls) o false) r.decls c ≡ true) s.1 fits)
    (ap not (subst (λ o. barred_in r.decls o (word_of c) ≡ false) s.1 unbarred))
    (subst (λ o. call_count (r.scripts ++ option_to_list o) < MOST_CALLS) s.1 (leb-false MOST_CALLS (call_count (all_scripts r)) few)))

-- a declaration to which no reason applies keeps what was read valid
pub IsValid-declared : (r : Reading) (k : Kind) (parts : List Placed) (d : Decl) → IsForm (head.Declare k) parts → Passes r (head.Declare k) parts → option_and_then (decl_of k) (args_of r.decls parts) ≡ Some d → IsValid (parts_of r)
    → IsValid (parts_of (declared r d))
IsValid-declared r k parts d form p made valid =
    let free = (or_none (is_full r.decls k) (has_many_observers parts) p.within).0 in
    let room = room-push r.decls d (ap (is_full r.decls) (kind_of-read r.decls k parts d made) ∙ free) (room-valid (parts_of r) valid) in
    let fits = decl_fits-read r.decls k form.words d (sym (ap (are_in_range r.decls (head.Declare k)) form.placed) ∙ p.in_range) (sym (ap (are_well_named false r.decls) form.placed) ∙ p.well_named)
    (sym (ap (λ ps. option_and_then (decl_of k) (args_of r.decls ps)) form.placed) ∙ made) in
    let new = new_name-read false r.decls k parts d (and_parts (each_well_named false r.decls parts) (name_once parts) p.well_named).0 made in
    valid-declared r d valid p.placed room (AreNames-push r.decls d valid.named new.0 new.1) fits.0 fits.1

-- a permission that is said isn't said before
new_permission : (r : Reading) (parts : List Placed) (thread object : ℕ) → option_and_then permission_of (args_of r.decls parts) ≡ Some (thread, object) → option_map_or (is_said_before r head.Allow) (args_of r.decls parts) false ≡ false
    → is_allowed r.written thread object ≡ false
new_permission r parts thread object made new = by_args (args_of r.decls parts) made new where
  by_args : (o : Option (List Arg)) → option_and_then permission_of o ≡ Some (thread, object) → option_map_or (is_said_before r head.Allow) o false ≡ false → is_allowed r.written thread object ≡ false
  by_args None said none = absurd (cc)
  by_args (Some args) said none = sym (ap (λ o. option_map_or (λ pair. is_allowed r.written pair.0 pair.1) o false) said) ∙ none

-- a permission to which no reason applies keeps what was read valid
pub IsValid-permitted : (r : Reading) (parts : List Placed) (thread object : ℕ) → IsForm head.Allow parts → Passes r head.Allow parts → option_and_then permission_of (args_of r.decls parts) ≡ Some (thread, object) → IsValid (parts_of r)
    → IsValid (parts_of (permitted r thread object))
IsValid-permitted r parts thread object form p made valid =
    let size = message_size r.decls parts in
    let ranged = (and_parts (each_in_range size parts) (go_together head.Allow parts) p.in_range).0 in
    let named = (and_parts (each_well_named false r.decls parts) (name_once parts) p.well_named).0 in
    let fits = permission_fits-read r.decls size form.words thread object (sym (ap (each_in_range size) form.placed) ∙ ranged) (sym (ap (each_well_named false r.decls) form.placed) ∙ named)
    (sym (ap (λ ps. option_and_then permission_of (args_of r.decls ps)) form.placed) ∙ made) in
    let below = is_at-within (is_met need.Any) r.decls object fits.1 in
    IsValid-made (parts_of (permitted r thread object)) (room-valid (parts_of r) valid)
    valid.calls
    valid.named
    valid.in_range
    valid.observed
    (in_order-permitted r.decls r.written thread object valid.in_order fits.0 below (new_permission r parts thread object made p.new))
    valid.fit
    valid.stand
    valid.one_each

-- the one word of a script's head names its owner
owner_of : (r : Reading) (parts : List Placed) (ws : List (List ℕ)) (owner : ℕ) → fits (slot.Owner ∷ []) Nothing ws ≡ true → parts ≡ placed_of (slot.Owner ∷ []) Nothing ws
    → are_well_named false r.decls parts ≡ true → first_object r.decls parts ≡ Some owner → is_at plays_script r.decls owner ≡ true
owner_of r parts [] owner fit is named found = absurd (cc)
owner_of r parts (w ∷ []) owner fit is named found =
    let said : object_of r.decls w ≡ Some owner = sym (ap (first_object r.decls) is) ∙ found in
    let plays : names plays_script r.decls w ≡ true = (and_parts (names plays_script r.decls w) true (and_parts (each_well_named false r.decls (placed_of (slot.Owner ∷ []) Nothing (w ∷ []))) true (sym (ap (are_well_named false r.decls) is) ∙ named)).0).0 in
    sym (ap (λ o. option_map_or (is_at plays_script r.decls) o false) said) ∙ plays
owner_of r parts (w ∷ v ∷ ws) owner fit is named found = absurd (cc)

-- a script's head to which no reason applies keeps what was read valid
pub IsValid-opened : (r : Reading) (parts : List Placed) (owner : ℕ) → IsForm head.Script parts → Passes r head.Script parts → first_object r.decls parts ≡ Some owner → IsValid (parts_of r)
    → IsValid (parts_of (opened r owner))
IsValid-opened r parts owner form p found valid =
    let both = or_none (is_some r.current) (has_script r (first_object r.decls parts)) p.placed in
    let fresh = none_from_is_some (script_of r.scripts owner) (sym (ap (has_script r) found) ∙ both.1) in
    valid-begun r owner valid (none_from_is_some r.current both.0) (owner_of r parts form.words owner form.fitting form.placed p.well_named found) fresh

-- a call to which no reason applies stands in a script
pub call_inside : (r : Reading) (w : Word) (parts : List Placed) → Passes r (head.Call w) parts → is_some r.current ≡ true
call_inside r w parts p = not-false (is_some r.current) (or_none (not (is_some r.current)) (is_barred r w) p.placed).0

-- and isn't barred there
call_unbarred : (r : Reading) (w : Word) (parts : List Placed) → Passes r (head.Call w) parts → is_barred r w ≡ false
call_unbarred r w parts p = (or_none (not (is_some r.current)) (is_barred r w) p.placed).1

-- a call to which no reason applies keeps what was read valid
pub IsValid-called : (r : Reading) (w : Word) (parts : List Placed) (c : Call) → IsForm (head.Call w) parts → Passes r (head.Call w) parts → option_and_then (call_of w) (args_of r.decls parts) ≡ Some c → IsValid (parts_of r)
    → IsValid (parts_of (called r c))
IsValid-called r w parts c form p made valid =
    let ranged = (and_parts (each_in_range (message_size r.decls parts) parts) (go_together (head.Call w) parts) p.in_range).0 in
    let fitting = call_fits-read (next_is_free r) r.decls w form.words c (sym (ap (λ ps. each_in_range (message_size r.decls ps) ps) form.placed) ∙ ranged) (sym (ap (each_well_named (next_is_free r) r.decls) form.placed) ∙ (and_parts (each_well_named (next_is_free r) r.decls parts) (name_once parts) p.well_named).0) (sym (ap (λ ps. option_and_then (call_of w) (args_of r.decls ps)) form.placed) ∙ made) in
    let same : word_of c ≡ w = option_and_then_some {P = word_of c ≡ w} (call_of w) (args_of r.decls parts) c made (λ args is_args given. ap (λ said. said.word) (said_of-call_of w args c given)) in
    called_fits r c valid (call_inside r w parts p) fitting (ap (is_barred r) same ∙ call_unbarred r w parts p) (or_none (nat_le MOST_CALLS (call_count (all_scripts r))) (has_many_events parts) p.within).0

-- a line to which no reason applies keeps what was read valid
pub IsValid-after : (r s : Reading) (h : Head) (parts : List Placed) → IsForm h parts → verdict r h parts ≡ None → after r h parts ≡ Some s → IsValid (parts_of r) → IsValid (parts_of s)
IsValid-after r s (head.Declare k) parts form e made valid =
    let d = one_part (declared r) (option_and_then (decl_of k) (args_of r.decls parts)) s made in
    subst (λ x. IsValid (parts_of x)) d.2 (IsValid-declared r k parts d.0 form (Passes-verdict r (head.Declare k) parts e) d.1 valid)
IsValid-after r s head.Allow parts form e made valid =
    let pair = one_part (λ (x : ℕ × ℕ). permitted r x.0 x.1) (option_and_then permission_of (args_of r.decls parts)) s made in
    subst (λ x. IsValid (parts_of x)) pair.2 (IsValid-permitted r parts pair.0.0 pair.0.1 form (Passes-verdict r head.Allow parts e) pair.1 valid)
IsValid-after r s head.Script parts form e made valid =
    let o = one_part (opened r) (first_object r.decls parts) s made in
    subst (λ x. IsValid (parts_of x)) o.2 (IsValid-opened r parts o.0 form (Passes-verdict r head.Script parts e) o.1 valid)
IsValid-after r s head.End parts form e made valid =
    subst (λ x. IsValid (parts_of x)) (same_Some _ _ made) (subst (λ ss. IsValid (record { decls = r.decls; written = r.written; scripts = ss })) (sym (append-nil (all_scripts r))) valid)
IsValid-after r s (head.Call w) parts form e made valid =
    let c = one_part (called r) (option_and_then (call_of w) (args_of r.decls parts)) s made in
    subst (λ x. IsValid (parts_of x)) c.2 (IsValid-called r w parts c.0 form (Passes-verdict r (head.Call w) parts e) c.1 valid)

-- the same four, where what was read is given by an equation
pub IsValid-declared-is : (before now : Reading) (k : Kind) (parts : List Placed) (d : Decl) → before ≡ now → IsValid (parts_of before) → IsForm (head.Declare k) parts → verdict now (head.Declare k) parts ≡ None
    → option_and_then (decl_of k) (args_of now.decls parts) ≡ Some d → IsValid (parts_of (declared now d))
IsValid-declared-is before now k parts d view valid form e made =
    IsValid-declared now k parts d form (Passes-verdict now (head.Declare k) parts e) made (subst (λ r. IsValid (parts_of r)) view valid)

pub IsValid-permitted-is : (before now : Reading) (parts : List Placed) (thread object : ℕ) → before ≡ now → IsValid (parts_of before) → IsForm head.Allow parts → verdict now head.Allow parts ≡ None
    → option_and_then permission_of (args_of now.decls parts) ≡ Some (thread, object) → IsValid (parts_of (permitted now thread object))
IsValid-permitted-is before now parts thread object view valid form e made =
    IsValid-permitted now parts thread object form (Passes-verdict now head.Allow parts e) made (subst (λ r. IsValid (parts_of r)) view valid)

pub IsValid-opened-is : (before now : Reading) (parts : List Placed) (owner : ℕ) → before ≡ now → IsValid (parts_of before) → IsForm head.Script parts → verdict now head.Script parts ≡ None
    → first_object now.decls parts ≡ Some owner → IsValid (parts_of (opened now owner))
IsValid-opened-is before now parts owner view valid form e found =
    IsValid-opened now parts owner form (Passes-verdict now head.Script parts e) found (subst (λ r. IsValid (parts_of r)) view valid)

pub IsValid-called-is : (before now : Reading) (w : Word) (parts : List Placed) (c : Call) → before ≡ now → IsValid (parts_of before) → IsForm (head.Call w) parts → verdict now (head.Call w) parts ≡ None
    → option_and_then (call_of w) (args_of now.decls parts) ≡ Some c → IsValid (parts_of (called now c))
IsValid-called-is before now w parts c view valid form e made =
    IsValid-called now w parts c form (Passes-verdict now (head.Call w) parts e) made (subst (λ r. IsValid (parts_of r)) view valid)

-- A line of right words makes its call or its declaration.
use Rattle.std.proofs.Common.{◌≡◌, ℕ, ◌≤◌, ◌-◌, ◌*◌, ◌/◌, Bool, true, false, cond, eqb, nat_le, ◌&&◌, ◌||◌, List, [], ◌∷◌, map, count_by, length, codes, Option, Some, None, is_some, arith, refl, sym, ap, subst, ◌∙◌}
use Rattle.std.specs.Prelude.{option_map, option_and_then, IsSome, bytes_eq}
use Rattle.std.specs.List.{list_all, list_any}
use Rattle.std.specs.Option.{option_map_or, option_flatten}
use Rattle.std.proofs.lemmas.Bool.{and_parts, and_from, eqb-true, eq-eqb, cond-true, leb-true, ltb-false, le-leb}
use Rattle.zk_base.specs.Limits.{longest_message, most_few, most_held}
use Rattle.zk_base.specs.Names.{is_name}
use Rattle.zk_base.specs.declared.kinds.Kind.{Kind}
use Rattle.zk_base.specs.declared.kinds.Kind.TheVariants as kind
use Rattle.zk_base.specs.declared.kinds.Need.{Need}
use Rattle.zk_base.specs.declared.kinds.Need.TheVariants as need
use Rattle.zk_base.specs.Fews as fews
use Rattle.zk_base.specs.declared.validator.Valid.{Valid}
use Rattle.zk_words.specs.declared.limits.TheConstants.{MOST_TICKS, MOST_COUNT, GREATEST_RESULT}
use Rattle.zk_words.specs.declared.slot.Choice.{Choice}
use Rattle.zk_words.specs.declared.slot.Choice.TheVariants.{Mode, State, Drain}
use Rattle.zk_words.specs.declared.slot.Slot.{Slot}
use Rattle.zk_words.specs.declared.slot.Slot.TheVariants as slot
use Rattle.zk_words.specs.declared.slot.Rest.{Rest}
use Rattle.zk_words.specs.declared.slot.Rest.TheVariants.{Nothing, Maybe, Many, Events}
use Rattle.zk_words.specs.declared.word.Word.{Word}
use Rattle.zk_words.specs.declared.word.Word.TheVariants as word
use Rattle.zk_words.specs.declared.timeout.Timeout.{Timeout}
use Rattle.zk_words.specs.Events.{Asking, asks, event_named, is_ignore, need_of}
use Rattle.zk_words.specs.Hex.{is_hex, bytes_of, msg_of}
use Rattle.zk_words.specs.Numbers.{number_in, priority_of}
use Rattle.zk_words.specs.Parts.{Placed, placed, parts_of, fits}
use Rattle.zk_words.specs.Spelled.{choice_text, is_spelled_in, part_is_spelled}
use Rattle.zk_words.specs.Table.{call_row, kind_row, item, queue, sem, msgq, signal, delay, ticks, index, initial, limit, size, capacity, channel, observer, result}
use Rattle.zk_words.specs.Table as table
use Rattle.zk_words.specs.Timeouts.{wait_of}
use Rattle.zk_words.specs.Validators.{validator_of}
use Rattle.zk_words.specs.declared.word.Head.TheVariants.{Declare}
use Rattle.zk_words.proofs.HexText.{msg_spelled}
use Rattle.zk_words.proofs.Numerals.{number_in_spelled}
use Rattle.zk_line.specs.declared.events.TheConstants.{MOST_EVENTS}
use Rattle.zk_line.specs.declared.types.Decl.{Decl}
use Rattle.zk_line.specs.declared.types.Decl.TheVariants as decl
use Rattle.zk_line.specs.declared.types.Ref.{Ref}
use Rattle.zk_line.specs.declared.types.Ref.TheVariants.{Known}
use Rattle.zk_line.specs.declared.types.Arg.{Arg}
use Rattle.zk_line.specs.declared.types.Arg.TheVariants.{Name, Object, Number, Priority, Truth, Bytes, Wait, Event, Valid as ValidArg, Raw}
use Rattle.zk_line.specs.declared.events.Event.{Event as PollEvent}
use Rattle.zk_line.specs.declared.events.Event.TheVariants as event
use Rattle.zk_line.specs.declared.types.Call.{Call}
use Rattle.zk_line.specs.declared.types.Call.TheVariants as call
use Rattle.zk_line.specs.Args.{truth_of, named_ref, ref_of, arg_of, args_of}
use Rattle.zk_line.specs.Calls.{call_of}
use Rattle.zk_line.specs.Checks.{is_size, is_in_range, each_in_range, is_right_object, is_well_named, each_well_named, is_event_slot, has_many_events, go_together, is_observer_slot, has_many_observers}
use Rattle.zk_line.specs.Decls.{decl_of, objects_said, permission_of}
use Rattle.zk_line.specs.Few.{is_few, event_at}
use Rattle.zk_line.specs.Objects.{object_of, is_at, can_be_raw, is_met, names}
use Rattle.zk_line.proofs.Fits.{half}
use Rattle.zk_line.proofs.Inverse.{events_of-map, objects_of-said, ChannelParts}
use Rattle.zk_line.proofs.Lists.{count_by-cons}
use Rattle.zk_line.specs.Shapes.{as_name, as_object, as_number, as_result, as_priority, as_truth, as_bytes, as_wait, both, all_three, all_four, alone, one, two, three, one_raw, three_raw, one_or_two, objects_of}

-- a word is spelled, in range and well named, in a line whose messages have so many bytes
pub record IsRight (free : Bool) (decls : List Decl) (bytes : Option ℕ) (s : Slot) (w : List ℕ) : Type 0 where
  pub spelled : is_spelled_in s w ≡ true
  pub in_range : is_in_range bytes s w ≡ true
  pub named : is_well_named free decls s w ≡ true

-- each word of a line is
abbrev pub AreRight : Bool → List Decl → Option ℕ → List Placed → Type 0
AreRight free decls bytes [] = Unit {0}
AreRight free decls bytes (p ∷ ps) = IsRight free decls bytes p.slot p.text × AreRight free decls bytes ps

-- the three tests of a line's words, side by side
pub are_right : (free : Bool) (decls : List Decl) (bytes : Option ℕ) (ps : List Placed) → list_all part_is_spelled ps ≡ true → each_in_range bytes ps ≡ true → each_well_named free decls ps ≡ true → AreRight free decls bytes ps
are_right free decls bytes [] s r n = tt
are_right free decls bytes (p ∷ ps) s r n =
    let ss = and_parts (part_is_spelled p) (list_all part_is_spelled ps) s in
    let rs = and_parts (is_in_range bytes p.slot p.text) (each_in_range bytes ps) r in
    let ns = and_parts (is_well_named free decls p.slot p.text) (each_well_named free decls ps) n in
    (record { spelled = ss.0; in_range = rs.0; named = ns.0 }, are_right free decls bytes ps ss.1 rs.1 ns.1)

-- what is there is something
pub is_some-some : {X : Type 0} (o : Option X) → is_some o ≡ true → (x : X) × (o ≡ Some x)
is_some-some None e = absurd (cc)
is_some-some (Some x) e = (x, refl)

-- a right word says something of the kind that is asked for
abbrev IsMade : {A : Type 0} → Slot → (Arg → Option A) → Type 0
IsMade s f = (free : Bool) (decls : List Decl) (bytes : Option ℕ) (w : List ℕ) → IsRight free decls bytes s w → (arg : Arg) × (arg_of decls s w ≡ Some arg) × IsSome (f arg)

name-made : IsMade slot.New as_name
name-made free decls bytes w right = (Name w, cond-true (is_name w) (Some (Name w)) None (and_parts (is_name w) _ right.named).0, refl)

-- the object of a name that meets a need
known-ref : (decls : List Decl) (test : Decl → Bool) (w : List ℕ) → names test decls w ≡ true → (k : ℕ) × (object_of decls w ≡ Some k)
known-ref decls test w named = by_place (object_of decls w) refl where
  by_place : (o : Option ℕ) → object_of decls w ≡ o → (k : ℕ) × (object_of decls w ≡ Some k)
  by_place (Some k) same = (k, same)
  by_place None same = let none : false ≡ true = sym (ap (λ o. option_map_or (is_at test decls) o false) same) ∙ named in absurd (cc)

-- a name that may stand where a need is asked says an object
ref-made : (free : Bool) (decls : List Decl) (asked : Need) (w : List ℕ) → is_right_object free decls asked w ≡ true → (r : Ref) × (ref_of decls w ≡ Some r)
ref-made true decls asked w named = is_some-some (ref_of decls w) named
ref-made false decls asked w named = let known = known-ref decls (is_met asked) w named in (Known known.0, ap (λ o. named_ref o w) known.1)

object-made : (n : Need) → IsMade (slot.Object n) as_object
object-made n free decls bytes w right = let r = ref-made free decls n w right.named in (Object r.0, ap (option_map Object) r.1, refl)

-- in a line that isn't free it is declared
known-made : (n : Need) (decls : List Decl) (bytes : Option ℕ) (w : List ℕ) → IsRight false decls bytes (slot.Object n) w → (k : ℕ) × (arg_of decls (slot.Object n) w ≡ Some (Object (Known k)))
known-made n decls bytes w right = let known = known-ref decls (is_met n) w right.named in (known.0, ap (λ o. option_map Object (named_ref o w)) known.1)

rawable-made : IsMade slot.Rawable as_object
rawable-made free decls bytes w right =
    let known = known-ref decls can_be_raw w right.named in (Object (Known known.0), ap (λ o. option_map Object (named_ref o w)) known.1, refl)

number-made : (least most : ℕ) → IsMade (slot.Number least most) as_number
number-made least most free decls bytes w right = let n = is_some-some (number_in least most w) right.in_range in (Number n.0, ap (option_map Number) n.1, refl)

result-made : IsMade result as_result
result-made free decls bytes w right =
    let n = is_some-some (number_in 0 GREATEST_RESULT w) right.in_range in
    let most = leb-true n.0 GREATEST_RESULT (and_parts (nat_le 0 n.0) (nat_le n.0 GREATEST_RESULT) (number_in_spelled 0 GREATEST_RESULT w n.0 n.1).1).1 in
    (Number n.0, ap (option_map Number) n.1, ap is_some (cond-true (nat_le n.0 GREATEST_RESULT) (Some n.0) None (le-leb n.0 GREATEST_RESULT most)))

priority-made : IsMade slot.Priority as_priority
priority-made free decls bytes w right = let p = is_some-some (option_flatten (priority_of w)) right.in_range in (Priority p.0, ap (option_map Priority) p.1, refl)

truth_same : (choice : Choice) (t : Bool) → IsSome (as_truth choice (Truth choice t))
truth_same Mode t = refl
truth_same State t = refl
truth_same Drain t = refl

truth-made : (choice : Choice) → IsMade (slot.Either choice) (as_truth choice)
truth-made choice free decls bytes w right = by_first (bytes_eq w (choice_text choice true)) (bytes_eq w (choice_text choice false)) refl refl right.spelled where
  by_first : (p q : Bool) → bytes_eq w (choice_text choice true) ≡ p → bytes_eq w (choice_text choice false) ≡ q → (p || q) ≡ true
      → (arg : Arg) × (option_map (Truth choice) (truth_of choice w) ≡ Some arg) × IsSome (as_truth choice arg)
  by_first true q is_first is_second e =
      (Truth choice true, ap (λ b. option_map (Truth choice) (cond b (Some true) (cond (bytes_eq w (choice_text choice false)) (Some false) None))) is_first, truth_same choice true)
  by_first false true is_first is_second e =
      (Truth choice false, ap (λ b. option_map (Truth choice) (cond b (Some true) (cond (bytes_eq w (choice_text choice false)) (Some false) None))) is_first ∙ ap (λ b. option_map (Truth choice) (cond b (Some false) None)) is_second, truth_same choice false)
  by_first false false is_first is_second e = absurd (cc)

-- digits of the size that is asked for, and so not too many, spell a message
message-said : (free : Bool) (decls : List Decl) (bytes : Option ℕ) (w : List ℕ) → IsRight free decls bytes slot.Hex w → msg_of w ≡ Some (bytes_of w)
message-said free decls bytes w right =
    let short = (and_parts (nat_le (length w) (2 * longest_message)) (is_size bytes (length w / 2)) right.in_range).0 in
    let hex : (is_hex w && nat_le (length w) (2 * longest_message)) ≡ true = and_from (is_hex w) (nat_le (length w) (2 * longest_message)) right.spelled short in
    cond-true (is_hex w && nat_le (length w) (2 * longest_message)) (Some (bytes_of w)) None hex

bytes-made : IsMade slot.Hex as_bytes
bytes-made free decls bytes w right = (Bytes (bytes_of w), ap (option_map Bytes) (message-said free decls bytes w right), refl)

wait-made : IsMade slot.Wait as_wait
wait-made free decls bytes w right = let t = is_some-some (wait_of w) right.in_range in (Wait t.0, ap (option_map Wait) t.1, refl)

-- a right line says something throughout, of the shape that is asked for
abbrev IsLine : {X : Type 0} → List Slot → Rest → (List Arg → Option X) → Type 0
IsLine slots rest shape = (free : Bool) (decls : List Decl) (bytes : Option ℕ) (ws : List (List ℕ)) → fits slots rest ws ≡ true → AreRight free decls bytes (parts_of slots rest ws)
    → (args : List Arg) × (args_of decls (parts_of slots rest ws) ≡ Some args) × IsSome (shape args)

args-cons : (decls : List Decl) (s : Slot) (w : List ℕ) (ps : List Placed) (arg : Arg) (args : List Arg) → arg_of decls s w ≡ Some arg → args_of decls ps ≡ Some args → args_of decls (placed s w ∷ ps) ≡ Some (arg ∷ args)
args-cons decls s w ps arg args e es =
    ap (λ o. option_and_then (λ x. option_map (λ xs. x ∷ xs) (args_of decls ps)) o) e ∙ ap (option_map (λ xs. arg ∷ xs)) es

both-some : {A B : Type 0} (x : Option A) (y : Option B) → IsSome x → IsSome y → IsSome (both x y)
both-some (Some a) (Some b) e h = refl
both-some None y e h = absurd (cc)
both-some (Some a) None e h = absurd (cc)

three-some : {A B C : Type 0} (x : Option A) (y : Option B) (z : Option C) → IsSome x → IsSome y → IsSome z → IsSome (all_three x y z)
three-some (Some a) (Some b) (Some c) e h k = refl
three-some None y z e h k = absurd (cc)
three-some (Some a) None z e h k = absurd (cc)
three-some (Some a) (Some b) None e h k = absurd (cc)

one-line : {A : Type 0} (s : Slot) (f : Arg → Option A) → IsMade s f → IsLine (s ∷ []) Nothing (one f)
one-line s f made free decls bytes [] fit right = absurd (cc)
one-line s f made free decls bytes (w ∷ []) fit right = let m = made free decls bytes w right.0 in (m.0 ∷ [], args-cons decls s w [] m.0 [] m.1 refl, m.2)
one-line s f made free decls bytes (w ∷ v ∷ ws) fit right = absurd (cc)

two-line : {A B : Type 0} (s : Slot) (f : Arg → Option A) (t : Slot) (g : Arg → Option B) → IsMade s f → IsMade t g → IsLine (s ∷ t ∷ []) Nothing (two f g)
two-line s f t g made also free decls bytes [] fit right = absurd (cc)
two-line s f t g made also free decls bytes (w ∷ []) fit right = absurd (cc)
two-line s f t g made also free decls bytes (w ∷ v ∷ []) fit right =
    let m = made free decls bytes w right.0 in let n = also free decls bytes v right.1.0 in
    (m.0 ∷ n.0 ∷ [], args-cons decls s w (placed t v ∷ []) m.0 (n.0 ∷ []) m.1 (args-cons decls t v [] n.0 [] n.1 refl), both-some (f m.0) (g n.0) m.2 n.2)
two-line s f t g made also free decls bytes (w ∷ v ∷ u ∷ ws) fit right = absurd (cc)

three-line : {A B C : Type 0} (s : Slot) (f : Arg → Option A) (t : Slot) (g : Arg → Option B) (r : Slot) (h : Arg → Option C) → IsMade s f → IsMade t g → IsMade r h → IsLine (s ∷ t ∷ r ∷ []) Nothing (three f g h)
three-line s f t g r h made also third free decls bytes [] fit right = absurd (cc)
three-line s f t g r h made also third free decls bytes (w ∷ []) fit right = absurd (cc)
three-line s f t g r h made also third free decls bytes (w ∷ v ∷ []) fit right = absurd (cc)
three-line s f t g r h made also third free decls bytes (w ∷ v ∷ u ∷ []) fit right =
    let m = made free decls bytes w right.0 in let n = also free decls bytes v right.1.0 in let o = third free decls bytes u right.1.1.0 in (
      m.0 ∷ n.0 ∷ o.0 ∷ [],
      args-cons decls s w (placed t v ∷ placed r u ∷ []) m.0 (n.0 ∷ o.0 ∷ []) m.1 (args-cons decls t v (placed r u ∷ []) n.0 (o.0 ∷ []) n.1 (args-cons decls r u [] o.0 [] o.1 refl)),
      three-some (f m.0) (g n.0) (h o.0) m.2 n.2 o.2,
    )
three-line s f t g r h made also third free decls bytes (w ∷ v ∷ u ∷ x ∷ ws) fit right = absurd (cc)

-- a right `raw` says itself
raw-made : (free : Bool) (decls : List Decl) (bytes : Option ℕ) (w : List ℕ) → IsRight free decls bytes slot.Raw w → args_of decls (placed slot.Raw w ∷ []) ≡ Some (Raw ∷ [])
raw-made free decls bytes w right = args-cons decls slot.Raw w [] Raw [] (cond-true (bytes_eq w (codes "raw")) (Some Raw) None right.spelled) refl

one_raw-line : {A : Type 0} (s : Slot) (f : Arg → Option A) → IsMade s f → IsLine (s ∷ []) (Maybe slot.Raw) (one_raw f)
one_raw-line s f made free decls bytes [] fit right = absurd (cc)
one_raw-line s f made free decls bytes (w ∷ []) fit right =
    let m = made free decls bytes w right.0 in (m.0 ∷ [], args-cons decls s w [] m.0 [] m.1 refl, both-some (f m.0) (Some false) m.2 refl)
one_raw-line s f made free decls bytes (w ∷ v ∷ []) fit right =
    let m = made free decls bytes w right.0 in
    (m.0 ∷ Raw ∷ [], args-cons decls s w (placed slot.Raw v ∷ []) m.0 (Raw ∷ []) m.1 (raw-made free decls bytes v right.1.0), both-some (f m.0) (Some true) m.2 refl)
one_raw-line s f made free decls bytes (w ∷ v ∷ u ∷ ws) fit right = absurd (cc)

four-some : {A B C : Type 0} (x : Option A) (y : Option B) (z : Option C) (raw : Bool) → IsSome x → IsSome y → IsSome z → IsSome (all_four x y z (Some raw))
four-some (Some a) (Some b) (Some c) raw e h k = refl
four-some None y z raw e h k = absurd (cc)
four-some (Some a) None z raw e h k = absurd (cc)
four-some (Some a) (Some b) None raw e h k = absurd (cc)

three_raw-line : {A B C : Type 0} (s : Slot) (f : Arg → Option A) (t : Slot) (g : Arg → Option B) (r : Slot) (h : Arg → Option C) → IsMade s f → IsMade t g → IsMade r h → IsLine (s ∷ t ∷ r ∷ []) (Maybe slot.Raw) (three_raw f g h)
three_raw-line s f t g r h made also third free decls bytes [] fit right = absurd (cc)
three_raw-line s f t g r h made also third free decls bytes (w ∷ []) fit right = absurd (cc)
three_raw-line s f t g r h made also third free decls bytes (w ∷ v ∷ []) fit right = absurd (cc)
three_raw-line s f t g r h made also third free decls bytes (w ∷ v ∷ u ∷ []) fit right =
    let m = made free decls bytes w right.0 in let n = also free decls bytes v right.1.0 in let o = third free decls bytes u right.1.1.0 in (
      m.0 ∷ n.0 ∷ o.0 ∷ [],
      args-cons decls s w (placed t v ∷ placed r u ∷ []) m.0 (n.0 ∷ o.0 ∷ []) m.1 (args-cons decls t v (placed r u ∷ []) n.0 (o.0 ∷ []) n.1 (args-cons decls r u [] o.0 [] o.1 refl)),
      four-some (f m.0) (g n.0) (h o.0) false m.2 n.2 o.2,
    )
three_raw-line s f t g r h made also third free decls bytes (w ∷ v ∷ u ∷ x ∷ []) fit right =
    let m = made free decls bytes w right.0 in let n = also free decls bytes v right.1.0 in let o = third free decls bytes u right.1.1.0 in
    let raw = placed slot.Raw x ∷ [] in (
      m.0 ∷ n.0 ∷ o.0 ∷ Raw ∷ [],
      args-cons decls s w (placed t v ∷ placed r u ∷ raw) m.0 (n.0 ∷ o.0 ∷ Raw ∷ []) m.1 (args-cons decls t v (placed r u ∷ raw) n.0 (o.0 ∷ Raw ∷ []) n.1 (args-cons decls r u raw o.0 (Raw ∷ []) o.1 (raw-made free decls bytes x right.1.1.1.0))),
      four-some (f m.0) (g n.0) (h o.0) true m.2 n.2 o.2,
    )
three_raw-line s f t g r h made also third free decls bytes (w ∷ v ∷ u ∷ x ∷ y ∷ ws) fit right = absurd (cc)

one_or_two-line : {A B : Type 0} (s : Slot) (f : Arg → Option A) (t : Slot) (g : Arg → Option B) → IsMade s f → IsMade t g → IsLine (s ∷ []) (Maybe t) (one_or_two f g)
one_or_two-line s f t g made also free decls bytes [] fit right = absurd (cc)
one_or_two-line {B = B} s f t g made also free decls bytes (w ∷ []) fit right =
    let m = made free decls bytes w right.0 in (m.0 ∷ [], args-cons decls s w [] m.0 [] m.1 refl, both-some (f m.0) (Some None) m.2 refl)
one_or_two-line s f t g made also free decls bytes (w ∷ v ∷ []) fit right =
    let m = made free decls bytes w right.0 in let n = also free decls bytes v right.1.0 in
    (m.0 ∷ n.0 ∷ [], args-cons decls s w (placed t v ∷ []) m.0 (n.0 ∷ []) m.1 (args-cons decls t v [] n.0 [] n.1 refl), both-some (f m.0) (option_map Some (g n.0)) m.2 (some-map (g n.0) n.2)) where
      some-map : {Y : Type 0} (o : Option Y) → IsSome o → IsSome (option_map Some o)
      some-map (Some y) e = refl
      some-map None e = absurd (cc)
one_or_two-line s f t g made also free decls bytes (w ∷ v ∷ u ∷ ws) fit right = absurd (cc)

-- a right line of these slots makes something
abbrev Makes : {C : Type 0} → List Slot → Rest → (List Arg → Option C) → Type 0
Makes slots rest make = (free : Bool) (decls : List Decl) (bytes : Option ℕ) (ws : List (List ℕ)) → fits slots rest ws ≡ true → AreRight free decls bytes (parts_of slots rest ws) → IsSome (option_and_then make (args_of decls (parts_of slots rest ws)))

by_line : {X C : Type 0} (slots : List Slot) (rest : Rest) (shape : List Arg → Option X) (f : X → C) → IsLine slots rest shape → Makes slots rest (λ args. option_map f (shape args))
by_line {X} {C} slots rest shape f is free decls bytes ws fit right = let m = is free decls bytes ws fit right in
    subst (λ o. IsSome (option_and_then (λ args. option_map f (shape args)) o)) (sym m.1) (some-map (shape m.0) m.2) where
      some-map : (o : Option X) → IsSome o → IsSome (option_map f o)
      some-map (Some y) e = refl
      some-map None e = absurd (cc)

-- a right event says something
event-made : (free : Bool) (decls : List Decl) (bytes : Option ℕ) (w : List ℕ) → IsRight free decls bytes slot.Event w → (e : PollEvent) × (arg_of decls slot.Event w ≡ Some (Event e))
event-made free decls bytes w right = by_first (is_ignore w) right.named where
  by_asked : (o : Option Asking) → option_map_or (λ a. is_right_object free decls (need_of a.source) a.name) o false ≡ true
      → (e : PollEvent) × (option_map Event (option_and_then (λ a. option_map (event_at a.source) (ref_of decls a.name)) o) ≡ Some (Event e))
  by_asked None named = absurd (cc)
  by_asked (Some a) named =
      let r = ref-made free decls (need_of a.source) a.name named in (event_at a.source r.0, ap (λ o. option_map Event (option_map (event_at a.source) o)) r.1)

  by_first : (b : Bool) → (b || option_map_or (λ a. is_right_object free decls (need_of a.source) a.name) (event_named w) false) ≡ true
      → (e : PollEvent) × (option_map Event (cond b (Some event.Ignore) (option_and_then (λ a. option_map (event_at a.source) (ref_of decls a.name)) (event_named w))) ≡ Some (Event e))
  by_first true named = (event.Ignore, refl)
  by_first false named = by_asked (event_named w) named

events-made : (free : Bool) (decls : List Decl) (bytes : Option ℕ) (ws : List (List ℕ)) → AreRight free decls bytes (map (placed slot.Event) ws)
    → (es : List PollEvent) × (args_of decls (map (placed slot.Event) ws) ≡ Some (map Event es)) × (length es ≡ length ws)
events-made free decls bytes [] right = ([], refl, refl)
events-made free decls bytes (w ∷ ws) right =
    let m = event-made free decls bytes w right.0 in let more = events-made free decls bytes ws right.1 in
    (m.0 ∷ more.0, args-cons decls slot.Event w (map (placed slot.Event) ws) (Event m.0) (map Event more.0) m.1 more.1, omega (arith, more.2))

count-events : (ws : List (List ℕ)) → count_by (λ part. is_event_slot part.slot) (map (placed slot.Event) ws) ≡ length ws
count-events [] = refl
count-events (w ∷ ws) = omega (arith, count_by-cons (λ part. is_event_slot part.slot) (placed slot.Event w) (map (placed slot.Event) ws), count-events ws)

-- the events of a right poll are few, where they aren't too many
poll-few : (w : List ℕ) (ws : List (List ℕ)) (es : List PollEvent) → list_any asks ws ≡ true → has_many_events (placed slot.Wait w ∷ map (placed slot.Event) ws) ≡ false → length es ≡ length ws → is_few es ≡ true
poll-few w [] es fit few long = absurd (cc)
poll-few w (v ∷ ws) es fit few long =
    let counted = ltb-false MOST_EVENTS (count_by (λ part. is_event_slot part.slot) (placed slot.Wait w ∷ map (placed slot.Event) (v ∷ ws))) few in
    let cons = count_by-cons (λ part. is_event_slot part.slot) (placed slot.Wait w) (map (placed slot.Event) (v ∷ ws)) in
    let most : length es ≤ MOST_EVENTS = omega (arith, counted, cons, count-events (v ∷ ws), long) in
    and_from (nat_le 1 (length es)) (nat_le (length es) MOST_EVENTS) (le-leb 1 (length es) (omega (arith, long))) (le-leb (length es) MOST_EVENTS most)

-- a right poll makes its call
poll-made : (free : Bool) (decls : List Decl) (bytes : Option ℕ) (ws : List (List ℕ)) → fits (slot.Wait ∷ []) Events ws ≡ true → AreRight free decls bytes (parts_of (slot.Wait ∷ []) Events ws)
    → has_many_events (parts_of (slot.Wait ∷ []) Events ws) ≡ false → IsSome (option_and_then (call_of word.Poll) (args_of decls (parts_of (slot.Wait ∷ []) Events ws)))
poll-made free decls bytes [] fit right few = absurd (cc)
poll-made free decls bytes (w ∷ ws) fit right few =
    let t = is_some-some (wait_of w) right.0.in_range in
    let es = events-made free decls bytes ws right.1 in
    let args = args-cons decls slot.Wait w (map (placed slot.Event) ws) (Wait t.0) (map Event es.0) (ap (option_map Wait) t.1) es.1 in
    let is = events_of-map es.0 (poll-few w ws es.0 fit few es.2) in
    ap (λ o. is_some (option_and_then (call_of word.Poll) o)) args ∙ ap (λ (o : Option (List PollEvent)). is_some (option_map (λ (p : Timeout × List PollEvent). call.Poll p.0 p.1) (option_map (λ xs. (t.0, xs)) o))) is

-- the lines of one object
one_item : (f : Ref → Call) → Makes (item ∷ []) Nothing (λ args. option_map f (one as_object args))
one_item f = by_line (item ∷ []) Nothing (one as_object) f (one-line item as_object (object-made need.Item))

one_queue : (f : Ref → Call) → Makes (queue ∷ []) Nothing (λ args. option_map f (one as_object args))
one_queue f = by_line (queue ∷ []) Nothing (one as_object) f (one-line queue as_object (object-made need.Queue))

one_sem : (f : Ref → Call) → Makes (sem ∷ []) Nothing (λ args. option_map f (one as_object args))
one_sem f = by_line (sem ∷ []) Nothing (one as_object) f (one-line sem as_object (object-made need.Sem))

one_msgq : (f : Ref → Call) → Makes (msgq ∷ []) Nothing (λ args. option_map f (one as_object args))
one_msgq f = by_line (msgq ∷ []) Nothing (one as_object) f (one-line msgq as_object (object-made need.Msgq))

one_signal : (f : Ref → Call) → Makes (signal ∷ []) Nothing (λ args. option_map f (one as_object args))
one_signal f = by_line (signal ∷ []) Nothing (one as_object) f (one-line signal as_object (object-made need.Signal))

one_chan : (f : Ref → Call) → Makes (channel ∷ []) Nothing (λ args. option_map f (one as_object args))
one_chan f = by_line (channel ∷ []) Nothing (one as_object) f (one-line channel as_object (object-made need.Chan))

one_any : (f : Ref → Call) → Makes (table.object ∷ []) Nothing (λ args. option_map f (one as_object args))
one_any f = by_line (table.object ∷ []) Nothing (one as_object) f (one-line table.object as_object (object-made need.Any))

-- the lines of an object and of how long is waited for it
waiting : (n : Need) (f : Ref × Timeout → Call) → Makes (slot.Object n ∷ slot.Wait ∷ []) Nothing (λ args. option_map f (two as_object as_wait args))
waiting n f = by_line (slot.Object n ∷ slot.Wait ∷ []) Nothing (two as_object as_wait) f (two-line (slot.Object n) as_object slot.Wait as_wait (object-made n) wait-made)

-- the lines of an object, of a message for it, and of how long is waited for it
sending : (n : Need) (f : Ref × List ℕ × Timeout → Call) → Makes (slot.Object n ∷ slot.Hex ∷ slot.Wait ∷ []) Nothing (λ args. option_map f (three as_object as_bytes as_wait args))
sending n f = by_line (slot.Object n ∷ slot.Hex ∷ slot.Wait ∷ []) Nothing (three as_object as_bytes as_wait) f (three-line (slot.Object n) as_object slot.Hex as_bytes slot.Wait as_wait (object-made n) bytes-made wait-made)

-- the line of no argument
without : Makes [] Nothing (alone call.User)
without free decls bytes [] fit right = refl
without free decls bytes (w ∷ ws) fit right = absurd (cc)

-- the lines of a thread and an object
permitting : {C : Type 0} (f : Ref × Ref → C) → Makes (table.thread ∷ table.object ∷ []) Nothing (λ args. option_map f (two as_object as_object args))
permitting f = by_line (table.thread ∷ table.object ∷ []) Nothing (two as_object as_object) f (two-line table.thread as_object table.object as_object (object-made need.Thread) (object-made need.Any))

-- the lines of an item, a queue and a delay
delayed : IsLine (item ∷ queue ∷ delay ∷ []) Nothing (three as_object as_object as_number)
delayed = three-line item as_object queue as_object delay as_number (object-made need.Item) (object-made need.Queue) (number-made 0 MOST_TICKS)

abbrev is_poll : Word → Bool
is_poll word.Poll = true
is_poll w = false

-- a right line of a call word that isn't a poll makes its call
makes_other : (w : Word) → is_poll w ≡ false → Makes (call_row w).slots (call_row w).rest (call_of w)
makes_other word.Submit other = by_line (item ∷ []) (Maybe queue) (one_or_two as_object as_object) (λ p. call.Submit p.0 p.1) (one_or_two-line item as_object queue as_object (object-made need.Item) (object-made need.Queue))
makes_other word.Cancel other = one_item call.Cancel
makes_other word.CancelSync other = one_item call.CancelSync
makes_other word.Flush other = one_item call.Flush
makes_other word.Schedule other = by_line (item ∷ queue ∷ delay ∷ []) Nothing (three as_object as_object as_number) (λ p. call.Schedule p.0 p.1 p.2) delayed
makes_other word.Reschedule other = by_line (item ∷ queue ∷ delay ∷ []) Nothing (three as_object as_object as_number) (λ p. call.Reschedule p.0 p.1 p.2) delayed
makes_other word.Remaining other = one_item call.Remaining
makes_other word.Busy other = one_item call.Busy
makes_other word.Start other = one_queue call.Start
makes_other word.Drain other = by_line (queue ∷ slot.Either Drain ∷ []) Nothing (two as_object (as_truth Drain)) (λ p. call.Drain p.0 p.1) (two-line queue as_object (slot.Either Drain) (as_truth Drain) (object-made need.Queue) (truth-made Drain))
makes_other word.Unplug other = one_queue call.Unplug
makes_other word.Stop other = one_queue call.Stop
makes_other word.Tick other = by_line (ticks ∷ []) Nothing (one as_number) call.Tick (one-line ticks as_number (number-made 1 MOST_TICKS))
makes_other word.Take other = waiting need.Sem (λ p. call.Take p.0 p.1)
makes_other word.Give other = one_sem call.Give
makes_other word.Reset other = one_sem call.Reset
makes_other word.Count other = one_sem call.Count
makes_other word.Put other = sending need.Msgq (λ p. call.Put p.0 p.1 p.2)
makes_other word.PutFront other = by_line (msgq ∷ slot.Hex ∷ []) Nothing (two as_object as_bytes) (λ p. call.PutFront p.0 p.1) (two-line msgq as_object slot.Hex as_bytes (object-made need.Msgq) bytes-made)
makes_other word.Get other = waiting need.Msgq (λ p. call.Get p.0 p.1)
makes_other word.Peek other = one_msgq call.Peek
makes_other word.PeekAt other = by_line (msgq ∷ index ∷ []) Nothing (two as_object as_number) (λ p. call.PeekAt p.0 p.1) (two-line msgq as_object index as_number (object-made need.Msgq) (number-made 0 (most_held - 1)))
makes_other word.Purge other = one_msgq call.Purge
makes_other word.Used other = one_msgq call.Used
makes_other word.Free other = one_msgq call.Free
makes_other word.Raise other = by_line (signal ∷ result ∷ []) Nothing (two as_object as_result) (λ p. call.Raise p.0 p.1) (two-line signal as_object result as_result (object-made need.Signal) result-made)
makes_other word.Clear other = one_signal call.Clear
makes_other word.Check other = one_signal call.Check
makes_other word.Poll other = absurd (cc)
makes_other word.Claim other = waiting need.Chan (λ p. call.Claim p.0 p.1)
makes_other word.Finish other = one_chan call.Finish
makes_other word.Publish other = sending need.Chan (λ p. call.Publish p.0 p.1 p.2)
makes_other word.Notify other = waiting need.Chan (λ p. call.Notify p.0 p.1)
makes_other word.Read other = waiting need.Chan (λ p. call.Read p.0 p.1)
makes_other word.Mask other = by_line (channel ∷ observer ∷ slot.Either State ∷ []) Nothing (three as_object as_object (as_truth State)) (λ p. call.Mask p.0 p.1 p.2) (three-line channel as_object observer as_object (slot.Either State) (as_truth State) (object-made need.Chan) (object-made need.Obs) (truth-made State))
makes_other word.Enable other = by_line (observer ∷ slot.Either State ∷ []) Nothing (two as_object (as_truth State)) (λ p. call.Enable p.0 p.1) (two-line observer as_object (slot.Either State) (as_truth State) (object-made need.Obs) (truth-made State))
makes_other word.SubWait other = waiting need.Sub (λ p. call.SubWait p.0 p.1)
makes_other word.Grant other = permitting (λ p. call.Grant p.0 p.1)
makes_other word.Release other = one_any call.Release
makes_other word.Revoke other = permitting (λ p. call.Revoke p.0 p.1)
makes_other word.Public other = one_any call.Public
makes_other word.User other = without
makes_other word.Init other = by_line (slot.Rawable ∷ []) Nothing (one as_object) call.Init (one-line slot.Rawable as_object rawable-made)

-- a right line of a call word makes its call, where it hasn't too many events
pub makes_call : (w : Word) (free : Bool) (decls : List Decl) (bytes : Option ℕ) (ws : List (List ℕ)) → fits (call_row w).slots (call_row w).rest ws ≡ true → AreRight free decls bytes (parts_of (call_row w).slots (call_row w).rest ws)
    → has_many_events (parts_of (call_row w).slots (call_row w).rest ws) ≡ false → IsSome (option_and_then (call_of w) (args_of decls (parts_of (call_row w).slots (call_row w).rest ws)))
makes_call word.Poll free decls bytes ws fit right few = poll-made free decls bytes ws fit right few
makes_call w free decls bytes ws fit right few = makes_other w refl free decls bytes ws fit right

-- the lines of a name, a priority and one of the two words of a choice
playing : (choice : Choice) → IsLine (slot.New ∷ slot.Priority ∷ slot.Either choice ∷ []) Nothing (three as_name as_priority (as_truth choice))
playing choice = three-line slot.New as_name slot.Priority as_priority (slot.Either choice) (as_truth choice) name-made priority-made (truth-made choice)

-- the lines of a name and two numbers, behind which `raw` may stand
numbered : (least most low high : ℕ) → IsLine (slot.New ∷ slot.Number least most ∷ slot.Number low high ∷ []) (Maybe slot.Raw) (three_raw as_name as_number as_number)
numbered least most low high =
    three_raw-line slot.New as_name (slot.Number least most) as_number (slot.Number low high) as_number name-made (number-made least most) (number-made low high)

-- right observers say their objects
objects-made : (decls : List Decl) (bytes : Option ℕ) (ws : List (List ℕ)) → AreRight false decls bytes (map (placed observer) ws)
    → (objects : List ℕ) × (args_of decls (map (placed observer) ws) ≡ Some (objects_said objects)) × (length objects ≡ length ws)
objects-made decls bytes [] right = ([], refl, refl)
objects-made decls bytes (w ∷ ws) right =
    let k = known-made need.Obs decls bytes w right.0 in let more = objects-made decls bytes ws right.1 in
    (k.0 ∷ more.0, args-cons decls observer w (map (placed observer) ws) (Object (Known k.0)) (objects_said more.0) k.1 more.1, omega (arith, more.2))

count-observers : (ws : List (List ℕ)) → count_by (λ part. is_observer_slot part.slot) (map (placed observer) ws) ≡ length ws
count-observers [] = refl
count-observers (w ∷ ws) = omega (arith, count_by-cons (λ part. is_observer_slot part.slot) (placed observer w) (map (placed observer) ws), count-observers ws)

-- the size that stands before a message is the message's
size-is : (v u : List ℕ) (n : ℕ) (message : List ℕ) → number_in 1 longest_message v ≡ Some n → msg_of u ≡ Some message → is_size (number_in 1 longest_message v) (length u / 2) ≡ true → n ≡ length message
size-is v u n message is said together =
    let sized : eqb (length u / 2) n ≡ true = sym (ap (λ o. is_size o (length u / 2)) is) ∙ together in
    sym (eqb-true (length u / 2) n sized) ∙ half (length u) (length message) (msg_spelled u message said).1

-- the line of a channel, by what its words say
abbrev chan_args : List ℕ → ℕ → List ℕ → Valid → List ℕ → List Arg
chan_args name n message valid objects = Name name ∷ Number n ∷ Bytes message ∷ ValidArg valid ∷ objects_said objects

chan-some : (name : List ℕ) (n : ℕ) (message : List ℕ) (valid : Valid) (objects : List ℕ) → n ≡ length message → fews.is_few objects ≡ true → IsSome (decl_of kind.Chan (chan_args name n message valid objects))
chan-some name n message valid objects sized few =
    ap (λ b. is_some (option_map (λ (p : ChannelParts). decl.Chan p.0 p.1 p.2 p.3) (cond b (option_map (λ xs. (name, message, valid, xs)) (objects_of (objects_said objects))) None))) (eq-eqb n (length message) sized)
    ∙ ap (λ (o : Option (List ℕ)). is_some (option_map (λ (p : ChannelParts). decl.Chan p.0 p.1 p.2 p.3) (option_map (λ xs. (name, message, valid, xs)) o))) (objects_of-said objects few)

-- the slots of a channel's line
abbrev chan_parts : List (List ℕ) → List Placed
chan_parts ws = parts_of (slot.New ∷ size ∷ slot.Hex ∷ slot.Valid ∷ []) (Many observer) ws

-- a right line of a channel makes its declaration, where its size is its message's and it hasn't too many observers
chan-made : (decls : List Decl) (bytes : Option ℕ) (ws : List (List ℕ)) → fits (slot.New ∷ size ∷ slot.Hex ∷ slot.Valid ∷ []) (Many observer) ws ≡ true → AreRight false decls bytes (chan_parts ws)
    → go_together (Declare kind.Chan) (chan_parts ws) ≡ true → has_many_observers (chan_parts ws) ≡ false → IsSome (option_and_then (decl_of kind.Chan) (args_of decls (chan_parts ws)))
chan-made decls bytes [] fit right together few = absurd (cc)
chan-made decls bytes (w ∷ []) fit right together few = absurd (cc)
chan-made decls bytes (w ∷ v ∷ []) fit right together few = absurd (cc)
chan-made decls bytes (w ∷ v ∷ u ∷ []) fit right together few = absurd (cc)
chan-made decls bytes (w ∷ v ∷ u ∷ t ∷ ws) fit right together few =
    let rest = map (placed observer) ws in
    let name : arg_of decls slot.New w ≡ Some (Name w) = cond-true (is_name w) (Some (Name w)) None (and_parts (is_name w) _ right.0.named).0 in
    let n = is_some-some (number_in 1 longest_message v) right.1.0.in_range in
    let message = message-said false decls bytes u right.1.1.0 in
    let valid = is_some-some (validator_of t) right.1.1.1.0.spelled in
    let objects = objects-made decls bytes ws right.1.1.1.1 in
    let args = args-cons decls slot.New w (placed size v ∷ placed slot.Hex u ∷ placed slot.Valid t ∷ rest) (Name w) (Number n.0 ∷ Bytes (bytes_of u) ∷ ValidArg valid.0 ∷ objects_said objects.0) name
    (args-cons decls size v (placed slot.Hex u ∷ placed slot.Valid t ∷ rest) (Number n.0) (Bytes (bytes_of u) ∷ ValidArg valid.0 ∷ objects_said objects.0) (ap (option_map Number) n.1)
    (args-cons decls slot.Hex u (placed slot.Valid t ∷ rest) (Bytes (bytes_of u)) (ValidArg valid.0 ∷ objects_said objects.0) (ap (option_map Bytes) message)
    (args-cons decls slot.Valid t rest (ValidArg valid.0) (objects_said objects.0) (ap (option_map ValidArg) valid.1) objects.1))) in
    let counted = ltb-false most_few (count_by (λ part. is_observer_slot part.slot) (chan_parts (w ∷ v ∷ u ∷ t ∷ ws))) few in
    let all = count-all w v u t ws in
    let short = le-leb (length objects.0) most_few (omega (arith, counted, all, objects.2)) in
    ap (λ o. is_some (option_and_then (decl_of kind.Chan) o)) args ∙ chan-some w n.0 (bytes_of u) valid.0 objects.0 (size-is v u n.0 (bytes_of u) n.1 message together) short where
      count-all : (w v u t : List ℕ) (ws : List (List ℕ)) → count_by (λ part. is_observer_slot part.slot) (chan_parts (w ∷ v ∷ u ∷ t ∷ ws)) ≡ length ws
      count-all w v u t ws =
          let p : Placed → Bool = λ part. is_observer_slot part.slot in
          let rest = map (placed observer) ws in
          omega (
            arith,
            count_by-cons p (placed slot.New w) (placed size v ∷ placed slot.Hex u ∷ placed slot.Valid t ∷ rest),
            count_by-cons p (placed size v) (placed slot.Hex u ∷ placed slot.Valid t ∷ rest),
            count_by-cons p (placed slot.Hex u) (placed slot.Valid t ∷ rest),
            count_by-cons p (placed slot.Valid t) rest,
            count-observers ws,
          )

abbrev is_channel : Kind → Bool
is_channel kind.Chan = true
is_channel k = false

-- a right line of a kind other than a channel makes its declaration
makes_other_decl : (k : Kind) → is_channel k ≡ false → Makes (kind_row k).slots (kind_row k).rest (decl_of k)
makes_other_decl kind.Thread other = by_line (slot.New ∷ slot.Priority ∷ slot.Either Mode ∷ []) Nothing (three as_name as_priority (as_truth Mode)) (λ p. decl.Thread p.0 p.1 p.2) (playing Mode)
makes_other_decl kind.Queue other = by_line (slot.New ∷ slot.Priority ∷ slot.Either State ∷ []) Nothing (three as_name as_priority (as_truth State)) (λ p. decl.Queue p.0 p.1 p.2) (playing State)
makes_other_decl kind.Item other = by_line (slot.New ∷ []) Nothing (one as_name) decl.Item (one-line slot.New as_name name-made)
makes_other_decl kind.Sem other = by_line (slot.New ∷ initial ∷ limit ∷ []) (Maybe slot.Raw) (three_raw as_name as_number as_number) (λ p. decl.Sem p.0 p.1 p.2 p.3) (numbered 0 MOST_COUNT 1 MOST_COUNT)
makes_other_decl kind.Msgq other = by_line (slot.New ∷ size ∷ capacity ∷ []) (Maybe slot.Raw) (three_raw as_name as_number as_number) (λ p. decl.Msgq p.0 p.1 p.2 p.3) (numbered 1 longest_message 1 most_held)
makes_other_decl kind.Signal other = by_line (slot.New ∷ []) (Maybe slot.Raw) (one_raw as_name) (λ p. decl.Signal p.0 p.1) (one_raw-line slot.New as_name name-made)
makes_other_decl kind.Listener other = by_line (slot.New ∷ []) Nothing (one as_name) decl.Listener (one-line slot.New as_name name-made)
makes_other_decl kind.Sub other = by_line (slot.New ∷ capacity ∷ []) Nothing (two as_name as_number) (λ p. decl.Sub p.0 p.1) (two-line slot.New as_name capacity as_number name-made (number-made 1 most_held))
makes_other_decl kind.Chan other = absurd (cc)

-- a right line of a kind makes its declaration, where its numbers go together and it hasn't too many observers
pub makes_decl : (k : Kind) (decls : List Decl) (bytes : Option ℕ) (ws : List (List ℕ)) → fits (kind_row k).slots (kind_row k).rest ws ≡ true → AreRight false decls bytes (parts_of (kind_row k).slots (kind_row k).rest ws)
    → go_together (Declare k) (parts_of (kind_row k).slots (kind_row k).rest ws) ≡ true → has_many_observers (parts_of (kind_row k).slots (kind_row k).rest ws) ≡ false
    → IsSome (option_and_then (decl_of k) (args_of decls (parts_of (kind_row k).slots (kind_row k).rest ws)))
makes_decl kind.Chan decls bytes ws fit right together few = chan-made decls bytes ws fit right together few
makes_decl k decls bytes ws fit right together few = makes_other_decl k refl false decls bytes ws fit right

-- a right line of a permission says it
pub makes_permission : (decls : List Decl) (bytes : Option ℕ) (ws : List (List ℕ)) → fits (table.thread ∷ table.object ∷ []) Nothing ws ≡ true → AreRight false decls bytes (parts_of (table.thread ∷ table.object ∷ []) Nothing ws)
    → IsSome (option_and_then permission_of (args_of decls (parts_of (table.thread ∷ table.object ∷ []) Nothing ws)))
makes_permission decls bytes [] fit right = absurd (cc)
makes_permission decls bytes (w ∷ []) fit right = absurd (cc)
makes_permission decls bytes (w ∷ v ∷ []) fit right =
    let m = known-made need.Thread decls bytes w right.0 in let n = known-made need.Any decls bytes v right.1.0 in
    ap (λ o. is_some (option_and_then permission_of o))
    (args-cons decls table.thread w (placed table.object v ∷ []) (Object (Known m.0)) (Object (Known n.0) ∷ []) m.1 (args-cons decls table.object v [] (Object (Known n.0)) [] n.1 refl))
makes_permission decls bytes (w ∷ v ∷ u ∷ ws) fit right = absurd (cc)

-- A call that is made of well named words fits, and a declaration that is made of them has a new name.
use Rattle.std.proofs.Common.{◌≡◌, ℕ, ◌*◌, ◌/◌, nat_le, length, codes, arith, Bool, true, false, not, cond, ◌&&◌, ◌||◌, List, [], ◌∷◌, map, Option, Some, None, is_some, refl, sym, ap, ◌∙◌}
use Rattle.std.specs.Prelude.{option_map, option_and_then}
use Rattle.std.specs.List.{list_all}
use Rattle.std.specs.Option.{option_map_or, option_flatten}
use Rattle.std.specs.Str.{bytes_eq}
use Rattle.std.proofs.lemmas.Bool.{and_parts, and_from}
use Rattle.std.proofs.lemmas.List.Quantifiers.{position-Some}
use Rattle.std.proofs.lemmas.Option.{cond_some, option_and_then_some, same_Some, slice_get-get_or}
use Rattle.zk_base.specs.Limits.{longest_message}
use Rattle.zk_base.specs.Names.{is_name}
use Rattle.zk_base.specs.declared.kinds.Kind.{Kind}
use Rattle.zk_base.specs.declared.kinds.Need.{Need}
use Rattle.zk_base.specs.declared.kinds.Need.TheVariants as need
use Rattle.zk_words.specs.declared.slot.Slot.{Slot}
use Rattle.zk_words.specs.declared.slot.Slot.TheVariants as slot
use Rattle.zk_words.specs.declared.slot.Rest.{Rest}
use Rattle.zk_words.specs.declared.slot.Rest.TheVariants.{Nothing, Maybe, Many, Events}
use Rattle.zk_words.specs.declared.timeout.Timeout.{Timeout}
use Rattle.zk_words.specs.declared.word.Word.{Word}
use Rattle.zk_words.specs.Hex.{msg_of}
use Rattle.zk_words.specs.Numbers.{number_in, priority_of}
use Rattle.zk_words.specs.declared.event.Source.{Source}
use Rattle.zk_words.specs.declared.event.Source.TheVariants as source
use Rattle.zk_words.specs.Events.{event_named, is_ignore, need_of}
use Rattle.zk_words.specs.Parts.{Placed, placed, parts_of}
use Rattle.zk_words.specs.Table.{call_row}
use Rattle.zk_words.specs.Table as table
use Rattle.zk_words.specs.Timeouts.{wait_of, wait_fits}
use Rattle.zk_words.specs.Validators.{validator_of}
use Rattle.zk_words.proofs.HexText.{msg_spelled}
use Rattle.zk_words.proofs.Numerals.{number_in_spelled}
use Rattle.zk_words.proofs.Waits.{wait_spelled}
use Rattle.zk_line.specs.declared.types.Decl.{Decl}
use Rattle.zk_line.specs.declared.types.Decl.TheVariants as decl
use Rattle.zk_line.specs.declared.events.Event.{Event as PollEvent}
use Rattle.zk_line.specs.declared.events.Event.TheVariants as event
use Rattle.zk_line.specs.declared.types.Ref.{Ref}
use Rattle.zk_line.specs.declared.types.Ref.TheVariants.{Known, Unknown}
use Rattle.zk_line.specs.declared.types.Arg.{Arg}
use Rattle.zk_line.specs.declared.types.Arg.TheVariants as arg
use Rattle.zk_line.specs.declared.types.Call.{Call}
use Rattle.zk_line.specs.declared.types.Call.TheVariants as call
use Rattle.zk_line.specs.Args.{truth_of, named_ref, ref_of, event_of, arg_of, args_of}
use Rattle.zk_line.specs.Calls.{call_of, said_of}
use Rattle.zk_line.specs.Checks.{size_named, size_said, message_size, is_size, is_in_range, each_in_range, is_right_object, is_well_named, each_well_named}
use Rattle.zk_line.specs.Decls.{decl_of, decl_args, permission_of}
use Rattle.zk_line.specs.Few.{is_few, event_at}
use Rattle.zk_line.specs.Fits.{ref_fits, rawable_fits, event_fits, fits_in, rest_fit, args_fit, has_few_events, call_fits}
use Rattle.zk_line.specs.Objects.{object_of, kind_of, name_of, is_at, is_thread, can_be_raw, is_met}
use Rattle.zk_line.proofs.Inverse.{said_of-call_of, few-call, written_of-decl_of, permission-is}
use Rattle.zk_line.proofs.Options.{one_part}

-- half as many bytes as digits
pub half : (n m : ℕ) → n ≡ 2 * m → n / 2 ≡ m
half n m is = omega (arith, is)

-- an object of a name is declared
object_of-declared : (decls : List Decl) (w : List ℕ) (k : ℕ) → object_of decls w ≡ Some k → is_at (is_met need.Any) decls k ≡ true
object_of-declared decls w k e =
    let d : Decl = decl.Item [] in
    ap (λ o. option_map_or (is_met need.Any) o false) (slice_get-get_or decls k d (position-Some (λ x. bytes_eq (name_of x) w) decls k d e).0)

-- an object that is named as it may be fits
ref_fits-read : (free : Bool) (decls : List Decl) (asked : Need) (w : List ℕ) (r : Ref) → is_right_object free decls asked w ≡ true → ref_of decls w ≡ Some r → ref_fits free decls asked r ≡ true
ref_fits-read free decls asked w r right said = by_place (object_of decls w) refl free right said where
  by_place : (o : Option ℕ) → object_of decls w ≡ o → (f : Bool) → cond f (is_some (named_ref o w)) (option_map_or (is_at (is_met asked) decls) o false) ≡ true → named_ref o w ≡ Some r → ref_fits f decls asked r ≡ true
  by_place (Some k) is true right said = ap (ref_fits true decls asked) (sym (same_Some (Known k) r said)) ∙ object_of-declared decls w k is
  by_place (Some k) is false right said = ap (ref_fits false decls asked) (sym (same_Some (Known k) r said)) ∙ right
  by_place None is false right said = absurd (cc)
  by_place None is true right said = ap (ref_fits true decls asked) (sym (cond_some (is_name w) (Unknown w) r said).1) ∙ ap (λ o. not (is_some o)) is

event_at-fits : (free : Bool) (decls : List Decl) (s : Source) (r : Ref) → event_fits free decls (event_at s r) ≡ ref_fits free decls (need_of s) r
event_at-fits free decls source.Sem r = refl
event_at-fits free decls source.Msgq r = refl
event_at-fits free decls source.Signal r = refl

event_fits-read : (free : Bool) (decls : List Decl) (w : List ℕ) (e : PollEvent) → is_well_named free decls slot.Event w ≡ true → event_of decls w ≡ Some e → event_fits free decls e ≡ true
event_fits-read free decls w e named said = by_first (is_ignore w) named said where
  by_first : (b : Bool) → (b || option_map_or (λ a. is_right_object free decls (need_of a.source) a.name) (event_named w) false) ≡ true
      → cond b (Some event.Ignore) (option_and_then (λ a. option_map (event_at a.source) (ref_of decls a.name)) (event_named w)) ≡ Some e → event_fits free decls e ≡ true
  by_first true named said = ap (event_fits free decls) (sym (same_Some event.Ignore e said))
  by_first false named said =
      option_and_then_some _ (event_named w) e said
      (λ a is_a given.
      let object = one_part (event_at a.source) (ref_of decls a.name) e given in
      let right : is_right_object free decls (need_of a.source) a.name ≡ true = sym (ap (λ o. option_map_or (λ x. is_right_object free decls (need_of x.source) x.name) o false) is_a) ∙ named in
      ap (event_fits free decls) (sym object.2) ∙ event_at-fits free decls a.source object.0 ∙ ref_fits-read free decls (need_of a.source) a.name object.0 right object.1)

arg_fits : (free : Bool) (decls : List Decl) (size : Option ℕ) (s : Slot) (w : List ℕ) (a : Arg) → is_in_range size s w ≡ true → is_well_named free decls s w ≡ true → arg_of decls s w ≡ Some a → fits_in free decls size s a ≡ true
arg_fits free decls size (slot.Object need) w a ranged named said =
    let object = one_part arg.Object (ref_of decls w) a said in ap (fits_in free decls size (slot.Object need)) (sym object.2) ∙ ref_fits-read free decls need w object.0 named object.1
arg_fits free decls size slot.Rawable w a ranged named said =
    let object = one_part arg.Object (ref_of decls w) a said in ap (fits_in free decls size slot.Rawable) (sym object.2) ∙ by_place (object_of decls w) object.0 named object.1 where
      by_place : (o : Option ℕ) (r : Ref) → option_map_or (is_at can_be_raw decls) o false ≡ true → named_ref o w ≡ Some r → rawable_fits decls r ≡ true
      by_place (Some k) r named said = ap (rawable_fits decls) (sym (same_Some (Known k) r said)) ∙ named
      by_place None r named said = absurd (cc)
arg_fits free decls size (slot.Number least most) w a ranged named said =
    let number = one_part arg.Number (number_in least most w) a said in
    ap (fits_in free decls size (slot.Number least most)) (sym number.2) ∙ (number_in_spelled least most w number.0 number.1).1
arg_fits free decls size slot.New w a ranged named said = refl
arg_fits free decls size slot.Owner w a ranged named said = refl
arg_fits free decls size slot.Priority w a ranged named said = refl
arg_fits free decls size (slot.Either choice) w a ranged named said = refl
arg_fits free decls size slot.Hex w a ranged named said =
    let bytes = one_part arg.Bytes (msg_of w) a said in
    let long = half (length w) (length bytes.0) (msg_spelled w bytes.0 bytes.1).1 in
    ap (fits_in free decls size slot.Hex) (sym bytes.2) ∙ ap (is_size size) (sym long) ∙ (and_parts (nat_le (length w) (2 * longest_message)) (is_size size (length w / 2)) ranged).1
arg_fits free decls size slot.Wait w a ranged named said =
    let wait = one_part arg.Wait (wait_of w) a said in
    ap (fits_in free decls size slot.Wait) (sym wait.2) ∙ (wait_spelled w wait.0 wait.1).1
arg_fits free decls size slot.Event w a ranged named said =
    let e = one_part arg.Event (event_of decls w) a said in
    ap (fits_in free decls size slot.Event) (sym e.2) ∙ event_fits-read free decls w e.0 named e.1
arg_fits free decls size slot.Valid w a ranged named said = refl
arg_fits free decls size slot.Raw w a ranged named said = refl

-- words that are all in one slot, word by word
each_fit-read : (free : Bool) (decls : List Decl) (size : Option ℕ) (s : Slot) (ws : List (List ℕ)) (args : List Arg) → each_in_range size (map (placed s) ws) ≡ true → each_well_named free decls (map (placed s) ws) ≡ true → args_of decls (map (placed s) ws) ≡ Some args
    → list_all (fits_in free decls size s) args ≡ true
each_fit-read free decls size s [] args ranged named said = ap (list_all (fits_in free decls size s)) (sym (same_Some [] args said))
each_fit-read free decls size s (w ∷ ws) args ranged named said =
    let first = and_parts (is_in_range size s w) (each_in_range size (map (placed s) ws)) ranged in
    let both = and_parts (is_well_named free decls s w) (each_well_named free decls (map (placed s) ws)) named in
    option_and_then_some _ (arg_of decls s w) args said
    (λ a is_a given.
    let more = one_part (λ xs. a ∷ xs) (args_of decls (map (placed s) ws)) args given in
    ap (list_all (fits_in free decls size s)) (sym more.2)
    ∙ and_from (fits_in free decls size s a) (list_all (fits_in free decls size s) more.0) (arg_fits free decls size s w a first.0 both.0 is_a) (each_fit-read free decls size s ws more.0 first.1 both.1 more.1))

-- a line's words and what they say, side by side
pub args_fit-read : (free : Bool) (decls : List Decl) (size : Option ℕ) (slots : List Slot) (rest : Rest) (ws : List (List ℕ)) (args : List Arg) → each_in_range size (parts_of slots rest ws) ≡ true → each_well_named free decls (parts_of slots rest ws) ≡ true
    → args_of decls (parts_of slots rest ws) ≡ Some args → args_fit free decls size slots rest args ≡ true
args_fit-read free decls size [] Nothing ws args ranged named said = refl
args_fit-read free decls size [] (Maybe s) [] args ranged named said = ap (rest_fit free decls size (Maybe s)) (sym (same_Some [] args said))
args_fit-read free decls size [] (Maybe s) (w ∷ ws) args ranged named said =
    option_and_then_some _ (arg_of decls s w) args said
    (λ a is_a given.
    ap (rest_fit free decls size (Maybe s)) (sym (same_Some _ _ given))
    ∙ arg_fits free decls size s w a (and_parts (is_in_range size s w) true ranged).0 (and_parts (is_well_named free decls s w) true named).0 is_a)
args_fit-read free decls size [] (Many s) ws args ranged named said = each_fit-read free decls size s ws args ranged named said
args_fit-read free decls size [] Events ws args ranged named said = each_fit-read free decls size slot.Event ws args ranged named said
args_fit-read free decls size (s ∷ slots) rest [] args ranged named said = ap (args_fit free decls size (s ∷ slots) rest) (sym (same_Some [] args said))
args_fit-read free decls size (s ∷ slots) rest (w ∷ ws) args ranged named said =
    let first = and_parts (is_in_range size s w) (each_in_range size (parts_of slots rest ws)) ranged in
    let both = and_parts (is_well_named free decls s w) (each_well_named free decls (parts_of slots rest ws)) named in
    option_and_then_some _ (arg_of decls s w) args said
    (λ a is_a given.
    let more = one_part (λ xs. a ∷ xs) (args_of decls (parts_of slots rest ws)) args given in
    ap (args_fit free decls size (s ∷ slots) rest) (sym more.2)
    ∙ and_from (fits_in free decls size s a) (args_fit free decls size slots rest more.0) (arg_fits free decls size s w a first.0 both.0 is_a) (args_fit-read free decls size slots rest ws more.0 first.1 both.1 more.1))

-- the size of a line's messages, by what its words say
size_said-read : (decls : List Decl) (ps : List Placed) (args : List Arg) → args_of decls ps ≡ Some args → size_said decls args ≡ message_size decls ps
size_said-read decls [] args said = ap (size_said decls) (sym (same_Some [] args said))
size_said-read decls (p ∷ ps) args said =
    option_and_then_some _ (arg_of decls p.slot p.text) args said
    (λ a is_a given.
    let more = one_part (λ xs. a ∷ xs) (args_of decls ps) args given in
    ap (size_said decls) (sym more.2) ∙ sym (ap (option_and_then (size_named decls)) is_a))

-- the call of a line whose words are in range and well named fits
pub call_fits-read : (free : Bool) (decls : List Decl) (w : Word) (ws : List (List ℕ)) (c : Call) → each_in_range (message_size decls (parts_of (call_row w).slots (call_row w).rest ws)) (parts_of (call_row w).slots (call_row w).rest ws) ≡ true
    → each_well_named free decls (parts_of (call_row w).slots (call_row w).rest ws) ≡ true
    → option_and_then (call_of w) (args_of decls (parts_of (call_row w).slots (call_row w).rest ws)) ≡ Some c → call_fits free decls c ≡ true
call_fits-read free decls w ws c ranged named made =
    let form = call_row w in
    let ps = parts_of form.slots form.rest ws in
    option_and_then_some (call_of w) (args_of decls ps) c made
    (λ args is_args given.
    let said = said_of c in
    and_from (has_few_events c) (args_fit free decls (size_said decls said.args) (call_row said.word).slots (call_row said.word).rest said.args) (few-call w args c given)
    (ap (λ said. args_fit free decls (size_said decls said.args) (call_row said.word).slots (call_row said.word).rest said.args) (said_of-call_of w args c given)
    ∙ ap (λ size. args_fit free decls size form.slots form.rest args) (size_said-read decls ps args is_args)
    ∙ args_fit-read free decls (message_size decls ps) form.slots form.rest ws args ranged named is_args))

events_fit : (free : Bool) (decls : List Decl) (events : List PollEvent) → list_all (fits_in free decls None slot.Event) (map arg.Event events) ≡ list_all (event_fits free decls) events
events_fit free decls [] = refl
events_fit free decls (event ∷ events) = ap (λ b. event_fits free decls event && b) (events_fit free decls events)

-- a poll that fits waits for a time in range, and for objects that are declared and of their kinds
pub poll_fits : (free : Bool) (decls : List Decl) (wait : Timeout) (events : List PollEvent) → call_fits free decls (call.Poll wait events) ≡ true → (wait_fits wait ≡ true) × (list_all (event_fits free decls) events ≡ true)
poll_fits free decls wait events fits =
    let all = and_parts (is_few events) (wait_fits wait && list_all (fits_in free decls None slot.Event) (map arg.Event events)) fits in
    let both = and_parts (wait_fits wait) (list_all (fits_in free decls None slot.Event) (map arg.Event events)) all.1 in
    (both.0, sym (events_fit free decls events) ∙ both.1)

-- a permission whose words are well named is of a thread on an object that is declared
pub permission_fits-read : (decls : List Decl) (size : Option ℕ) (ws : List (List ℕ)) (player own : ℕ) → each_in_range size (parts_of (table.thread ∷ table.object ∷ []) Nothing ws) ≡ true
    → each_well_named false decls (parts_of (table.thread ∷ table.object ∷ []) Nothing ws) ≡ true → option_and_then permission_of (args_of decls (parts_of (table.thread ∷ table.object ∷ []) Nothing ws)) ≡ Some (player, own)
    → (is_at is_thread decls player ≡ true) × (is_at (is_met need.Any) decls own ≡ true)
permission_fits-read decls size ws player own ranged named made =
    option_and_then_some permission_of (args_of decls (parts_of (table.thread ∷ table.object ∷ []) Nothing ws)) (player, own) made
    (λ args is_args given.
    let fit = args_fit-read false decls size (table.thread ∷ table.object ∷ []) Nothing ws args ranged named is_args in
    let both = and_parts (is_at is_thread decls player) (is_at (is_met need.Any) decls own && true) (ap (args_fit false decls size (table.thread ∷ table.object ∷ []) Nothing) (sym (permission-is args (player, own) given)) ∙ fit) in
    (both.0, (and_parts (is_at (is_met need.Any) decls own) true both.1).0))

-- the kind of what a line declares
pub kind_of-read : (decls : List Decl) (k : Kind) (parts : List Placed) (d : Decl) → option_and_then (decl_of k) (args_of decls parts) ≡ Some d → kind_of d ≡ k
kind_of-read decls k parts d made =
    option_and_then_some (decl_of k) (args_of decls parts) d made (λ args is_args given. ap (λ w. w.kind) (written_of-decl_of k args d given))

-- a word that says a name is a well formed one, which stands for a new object
fresh : (free : Bool) (decls : List Decl) (s : Slot) (w name : List ℕ) → is_well_named free decls s w ≡ true → arg_of decls s w ≡ Some (arg.Name name) → (is_name name ≡ true) × (object_of decls name ≡ None)
fresh free decls slot.New w name named said =
    let is : w ≡ name = cc (cond_some (is_name w) (arg.Name w) (arg.Name name) said).1 in
    let both = and_parts (is_name w) (not (is_some (object_of decls w))) named in
    (ap is_name (sym is) ∙ both.0, ap (object_of decls) (sym is) ∙ none (object_of decls w) both.1) where
      none : (o : Option ℕ) → not (is_some o) ≡ true → o ≡ None
      none None e = refl
      none (Some k) e = absurd (cc)
fresh free decls slot.Owner w name named said = let part = one_part arg.Object (ref_of decls w) (arg.Name name) said in absurd (cc part.2)
fresh free decls (slot.Object need) w name named said = let part = one_part arg.Object (ref_of decls w) (arg.Name name) said in absurd (cc part.2)
fresh free decls slot.Rawable w name named said = let part = one_part arg.Object (ref_of decls w) (arg.Name name) said in absurd (cc part.2)
fresh free decls (slot.Number least most) w name named said = let part = one_part arg.Number (number_in least most w) (arg.Name name) said in absurd (cc part.2)
fresh free decls slot.Priority w name named said = let part = one_part arg.Priority (option_flatten (priority_of w)) (arg.Name name) said in absurd (cc part.2)
fresh free decls (slot.Either choice) w name named said = let part = one_part (arg.Truth choice) (truth_of choice w) (arg.Name name) said in absurd (cc part.2)
fresh free decls slot.Hex w name named said = let part = one_part arg.Bytes (msg_of w) (arg.Name name) said in absurd (cc part.2)
fresh free decls slot.Wait w name named said = let part = one_part arg.Wait (wait_of w) (arg.Name name) said in absurd (cc part.2)
fresh free decls slot.Event w name named said = let part = one_part arg.Event (event_of decls w) (arg.Name name) said in absurd (cc part.2)
fresh free decls slot.Valid w name named said = let part = one_part arg.Valid (validator_of w) (arg.Name name) said in absurd (cc part.2)
fresh free decls slot.Raw w name named said = let is : ◌≡◌ {A = Arg} arg.Raw (arg.Name name) = (cond_some (bytes_eq w (codes "raw")) arg.Raw (arg.Name name) said).1 in absurd (cc)

-- the first that is written of a declaration is its name
first_name : (d : Decl) → (more : List Arg) × (decl_args d ≡ arg.Name (name_of d) ∷ more)
first_name (decl.Thread name prio user) = (_, refl)
first_name (decl.Queue name prio on) = (_, refl)
first_name (decl.Item name) = (_, refl)
first_name (decl.Sem name initial limit raw) = (_, refl)
first_name (decl.Msgq name size capacity raw) = (_, refl)
first_name (decl.Signal name raw) = (_, refl)
first_name (decl.Listener name) = (_, refl)
first_name (decl.Sub name capacity) = (_, refl)
first_name (decl.Chan name message valid observers) = (_, refl)

-- the name of what a line declares is well formed, and no other's
pub new_name-read : (free : Bool) (decls : List Decl) (k : Kind) (parts : List Placed) (d : Decl) → each_well_named free decls parts ≡ true → option_and_then (decl_of k) (args_of decls parts) ≡ Some d
    → (is_name (name_of d) ≡ true) × (object_of decls (name_of d) ≡ None)
new_name-read free decls k parts d named made =
    option_and_then_some (decl_of k) (args_of decls parts) d made
    (λ args is_args given.
    let first = first_name d in
    by_parts parts named (is_args ∙ ap Some (sym (ap (λ w. w.args) (written_of-decl_of k args d given)) ∙ first.1))) where
      by_parts : {more : List Arg} (ps : List Placed) → each_well_named free decls ps ≡ true → args_of decls ps ≡ Some (arg.Name (name_of d) ∷ more) → (is_name (name_of d) ≡ true) × (object_of decls (name_of d) ≡ None)
      by_parts [] all said = absurd (cc)
      by_parts {more} (p ∷ ps) all said =
          option_and_then_some _ (arg_of decls p.slot p.text) (arg.Name (name_of d) ∷ more) said
          (λ a is_a given.
          let rest = one_part (λ xs. a ∷ xs) (args_of decls ps) (arg.Name (name_of d) ∷ more) given in
          let same : a ≡ arg.Name (name_of d) = cc rest.2 in
          fresh free decls p.slot p.text (name_of d) (and_parts (is_well_named free decls p.slot p.text) (each_well_named free decls ps) all).0 (is_a ∙ ap Some same))

pub fresh-read : (free : Bool) (decls : List Decl) (k : Kind) (parts : List Placed) (d : Decl) → each_well_named free decls parts ≡ true → option_and_then (decl_of k) (args_of decls parts) ≡ Some d → object_of decls (name_of d) ≡ None
fresh-read free decls k parts d named made = (new_name-read free decls k parts d named made).1

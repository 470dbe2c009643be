-- What a word says in its slot has one spelling, the word; so has what a line says.
use Rattle.std.proofs.Common.{◌≡◌, ℕ, Bool, true, false, cond, List, [], ◌∷◌, ◌++◌, length, take, drop, codes, map, get_or, Option, Some, None, refl, sym, ap, ◌∙◌}
use Rattle.std.specs.Prelude.{ℤ, option_map, option_and_then}
use Rattle.std.specs.Fmt.{signed_decimal}
use Rattle.std.specs.Option.{option_map_or, option_flatten}
use Rattle.std.specs.Str.{bytes_eq}
use Rattle.std.specs.Cmp.Lexicographic.{bytes_decides}
use Rattle.std.proofs.lemmas.List.{take-append-drop}
use Rattle.std.proofs.lemmas.List.Quantifiers.{position-Some}
use Rattle.std.proofs.lemmas.Option.{cond_some, option_and_then_some, same_Some, slice_get-get_or}
use Rattle.zk_base.specs.Names.{is_name}
use Rattle.zk_words.specs.declared.slot.Choice.{Choice}
use Rattle.zk_words.specs.declared.slot.Slot.{Slot}
use Rattle.zk_words.specs.declared.slot.Slot.TheVariants as slot
use Rattle.zk_base.specs.declared.kinds.Kind.{Kind}
use Rattle.zk_words.specs.declared.word.Word.{Word}
use Rattle.zk_words.specs.declared.word.Head.TheVariants as head
use Rattle.zk_words.specs.declared.event.Source.{Source}
use Rattle.zk_words.specs.declared.event.Source.TheVariants as source
use Rattle.zk_words.specs.Events.{Asking, source_text, begins, asked, event_named, is_ignore}
use Rattle.zk_words.specs.Lines.{form_words}
use Rattle.zk_words.specs.Hex.{msg_of}
use Rattle.zk_words.specs.Numbers.{number_in, priority_of}
use Rattle.zk_words.specs.Parts.{Placed}
use Rattle.zk_words.specs.Spelled.{choice_text}
use Rattle.zk_words.specs.Table.{row_of}
use Rattle.zk_words.specs.Text.{line_text}
use Rattle.zk_words.specs.Timeouts.{wait_of}
use Rattle.zk_words.specs.Validators.{validator_of}
use Rattle.zk_words.proofs.HexText.{msg_spelled}
use Rattle.zk_words.proofs.Numerals.{number_in_spelled, priority_spelled}
use Rattle.zk_words.proofs.ValidatorText.{validator_spelled}
use Rattle.zk_words.proofs.Waits.{wait_spelled}
use Rattle.zk_line.specs.declared.types.Decl.{Decl}
use Rattle.zk_line.specs.declared.types.Decl.TheVariants as decl
use Rattle.zk_line.specs.declared.types.Ref.{Ref}
use Rattle.zk_line.specs.declared.types.Ref.TheVariants.{Known, Unknown}
use Rattle.zk_line.specs.declared.types.Arg.{Arg}
use Rattle.zk_line.specs.declared.types.Arg.TheVariants.{Name, Object, Number, Priority, Truth, Bytes, Wait, Event, Valid, Raw}
use Rattle.zk_line.specs.declared.events.Event.{Event as PollEvent}
use Rattle.zk_line.specs.declared.events.Event.TheVariants as event
use Rattle.zk_line.specs.declared.types.Call.{Call}
use Rattle.zk_line.specs.Args.{truth_of, named_ref, ref_of, event_of, arg_of, args_of, ref_name, event_text, arg_text}
use Rattle.zk_line.specs.Calls.{call_of}
use Rattle.zk_line.specs.Decls.{decl_of, permission_of}
use Rattle.zk_line.specs.Few.{event_at}
use Rattle.zk_line.specs.Objects.{object_of, name_of, name_at}
use Rattle.zk_line.specs.Text.{said_line, decl_line, allow_line, call_line}
use Rattle.zk_line.proofs.Inverse.{said_of-call_of, written_of-decl_of, permission-is}
use Rattle.zk_line.proofs.Options.{one_part}

-- the name of an object that is found by it
pub name_at-object_of : (decls : List Decl) (name : List ℕ) (k : ℕ) → object_of decls name ≡ Some k → name_at decls k ≡ name
name_at-object_of decls name k e =
    let d : Decl = decl.Item [] in
    let found = position-Some (λ x. bytes_eq (name_of x) name) decls k d e in
    ap (λ o. option_map_or name_of o []) (slice_get-get_or decls k d found.0) ∙ (bytes_decides (name_of (get_or decls k d)) name).0 found.1

ref_spelled : (decls : List Decl) (word : List ℕ) (r : Ref) → ref_of decls word ≡ Some r → word ≡ ref_name decls r
ref_spelled decls word r said = by_place (object_of decls word) refl said where
  by_place : (o : Option ℕ) → object_of decls word ≡ o → named_ref o word ≡ Some r → word ≡ ref_name decls r
  by_place (Some k) is here = sym (name_at-object_of decls word k is) ∙ ap (ref_name decls) (same_Some (Known k) r here)
  by_place None is here = ap (ref_name decls) (cond_some (is_name word) (Unknown word) r here).1

truth_spelled : (choice : Choice) (word : List ℕ) (truth : Bool) → truth_of choice word ≡ Some truth → word ≡ choice_text choice truth
truth_spelled choice word truth said = by_first (bytes_eq word (choice_text choice true)) refl said where
  by_second : (b : Bool) → bytes_eq word (choice_text choice false) ≡ b → cond b (Some false) None ≡ Some truth → word ≡ choice_text choice truth
  by_second true same here = (bytes_decides word (choice_text choice false)).0 same ∙ ap (choice_text choice) (same_Some false truth here)
  by_second false same here = absurd (cc)

  by_first : (b : Bool) → bytes_eq word (choice_text choice true) ≡ b → cond b (Some true) (cond (bytes_eq word (choice_text choice false)) (Some false) None) ≡ Some truth → word ≡ choice_text choice truth
  by_first true same here = (bytes_decides word (choice_text choice true)).0 same ∙ ap (choice_text choice) (same_Some true truth here)
  by_first false same here = by_second (bytes_eq word (choice_text choice false)) refl here

flat_priority : (word : List ℕ) (p : ℤ) (o : Option (Option ℤ)) → priority_of word ≡ o → option_flatten o ≡ Some p → word ≡ signed_decimal p
flat_priority word p None said is = absurd (cc)
flat_priority word p (Some None) said is = absurd (cc)
flat_priority word p (Some (Some q)) said is = (priority_spelled word (Some q) said refl).0 ∙ ap signed_decimal (same_Some q p is)

-- a word that asks for a source is the source's text and the name
asked_spelled : (word : List ℕ) (a : Asking) → event_named word ≡ Some a → word ≡ source_text a.source ++ a.name
asked_spelled word a said = by_sem (begins (source_text source.Sem) word) refl said where
  found : (s : Source) → begins (source_text s) word ≡ true → asked s word ≡ a → word ≡ source_text a.source ++ a.name
  found s same is =
      sym (take-append-drop (length (source_text s)) word)
      ∙ ap (λ front. front ++ drop (length (source_text s)) word) ((bytes_decides (take (length (source_text s)) word) (source_text s)).0 same)
      ∙ ap (λ b. source_text b.source ++ b.name) is

  by_signal : (b : Bool) → begins (source_text source.Signal) word ≡ b → cond b (Some (asked source.Signal word)) None ≡ Some a → word ≡ source_text a.source ++ a.name
  by_signal true same here = found source.Signal same (same_Some (asked source.Signal word) a here)
  by_signal false same here = absurd (cc)

  by_msgq : (b : Bool) → begins (source_text source.Msgq) word ≡ b → cond b (Some (asked source.Msgq word)) (cond (begins (source_text source.Signal) word) (Some (asked source.Signal word)) None) ≡ Some a
      → word ≡ source_text a.source ++ a.name
  by_msgq true same here = found source.Msgq same (same_Some (asked source.Msgq word) a here)
  by_msgq false same here = by_signal (begins (source_text source.Signal) word) refl here

  by_sem : (b : Bool) → begins (source_text source.Sem) word ≡ b
      → cond b (Some (asked source.Sem word)) (cond (begins (source_text source.Msgq) word) (Some (asked source.Msgq word)) (cond (begins (source_text source.Signal) word) (Some (asked source.Signal word)) None)) ≡ Some a
      → word ≡ source_text a.source ++ a.name
  by_sem true same here = found source.Sem same (same_Some (asked source.Sem word) a here)
  by_sem false same here = by_msgq (begins (source_text source.Msgq) word) refl here

event_at-text : (decls : List Decl) (s : Source) (object : Ref) → event_text decls (event_at s object) ≡ source_text s ++ ref_name decls object
event_at-text decls source.Sem object = refl
event_at-text decls source.Msgq object = refl
event_at-text decls source.Signal object = refl

event_spelled : (decls : List Decl) (word : List ℕ) (e : PollEvent) → event_of decls word ≡ Some e → word ≡ event_text decls e
event_spelled decls word e said = by_first (is_ignore word) refl said where
  by_first : (b : Bool) → is_ignore word ≡ b → cond b (Some event.Ignore) (option_and_then (λ a. option_map (event_at a.source) (ref_of decls a.name)) (event_named word)) ≡ Some e → word ≡ event_text decls e
  by_first true same here = (bytes_decides word (codes "ignore")).0 same ∙ ap (event_text decls) (same_Some event.Ignore e here)
  by_first false same here =
      option_and_then_some _ (event_named word) e here
      (λ a is_a given.
      let object = one_part (event_at a.source) (ref_of decls a.name) e given in
      asked_spelled word a is_a ∙ ap (λ name. source_text a.source ++ name) (ref_spelled decls a.name object.0 object.1)
      ∙ sym (event_at-text decls a.source object.0) ∙ ap (event_text decls) object.2)

-- a word that says something in its slot is the text of that
arg_spelled : (decls : List Decl) (s : Slot) (word : List ℕ) (arg : Arg) → arg_of decls s word ≡ Some arg → word ≡ arg_text decls arg
arg_spelled decls slot.New word arg said = ap (arg_text decls) (cond_some (is_name word) (Name word) arg said).1
arg_spelled decls slot.Owner word arg said =
    let part = one_part Object (ref_of decls word) arg said in ref_spelled decls word part.0 part.1 ∙ ap (arg_text decls) part.2
arg_spelled decls (slot.Object need) word arg said =
    let part = one_part Object (ref_of decls word) arg said in ref_spelled decls word part.0 part.1 ∙ ap (arg_text decls) part.2
arg_spelled decls slot.Rawable word arg said =
    let part = one_part Object (ref_of decls word) arg said in ref_spelled decls word part.0 part.1 ∙ ap (arg_text decls) part.2
arg_spelled decls (slot.Number least most) word arg said =
    let part = one_part Number (number_in least most word) arg said in (number_in_spelled least most word part.0 part.1).0 ∙ ap (arg_text decls) part.2
arg_spelled decls slot.Priority word arg said =
    let part = one_part Priority (option_flatten (priority_of word)) arg said in flat_priority word part.0 (priority_of word) refl part.1 ∙ ap (arg_text decls) part.2
arg_spelled decls (slot.Either choice) word arg said =
    let part = one_part (Truth choice) (truth_of choice word) arg said in truth_spelled choice word part.0 part.1 ∙ ap (arg_text decls) part.2
arg_spelled decls slot.Hex word arg said =
    let part = one_part Bytes (msg_of word) arg said in (msg_spelled word part.0 part.1).0 ∙ ap (arg_text decls) part.2
arg_spelled decls slot.Wait word arg said =
    let part = one_part Wait (wait_of word) arg said in (wait_spelled word part.0 part.1).0 ∙ ap (arg_text decls) part.2
arg_spelled decls slot.Event word arg said =
    let part = one_part Event (event_of decls word) arg said in event_spelled decls word part.0 part.1 ∙ ap (arg_text decls) part.2
arg_spelled decls slot.Valid word arg said =
    let part = one_part Valid (validator_of word) arg said in validator_spelled word part.0 part.1 ∙ ap (arg_text decls) part.2
arg_spelled decls slot.Raw word arg said =
    let part = cond_some (bytes_eq word (codes "raw")) Raw arg said in
    (bytes_decides word (codes "raw")).0 part.0 ∙ ap (arg_text decls) part.1

-- the words of a line that says something throughout are the texts of that
args_spelled : (decls : List Decl) (parts : List Placed) (args : List Arg) → args_of decls parts ≡ Some args → map (λ p. p.text) parts ≡ map (arg_text decls) args
args_spelled decls [] args said = ap (map (arg_text decls)) (same_Some [] args said)
args_spelled decls (p ∷ ps) args said =
    option_and_then_some _ (arg_of decls p.slot p.text) args said
    (λ arg is_arg given.
    let rest = one_part (λ more. arg ∷ more) (args_of decls ps) args given in
    ap (λ w. w ∷ map (λ q. q.text) ps) (arg_spelled decls p.slot p.text arg is_arg)
    ∙ ap (λ ws. arg_text decls arg ∷ ws) (args_spelled decls ps rest.0 rest.1) ∙ ap (map (arg_text decls)) rest.2)

-- a line that makes a declaration is the declaration's line
pub decl_is_line : (decls : List Decl) (k : Kind) (parts : List Placed) (d : Decl) → option_and_then (decl_of k) (args_of decls parts) ≡ Some d → decl_line decls d ≡ line_text (form_words (head.Declare k) parts)
decl_is_line decls k parts d made =
    option_and_then_some (decl_of k) (args_of decls parts) d made
    (λ args is_args given.
    ap (λ w. said_line decls (head.Declare w.kind) w.args) (written_of-decl_of k args d given)
    ∙ ap (λ ws. line_text ((row_of (head.Declare k)).first ∷ ws)) (sym (args_spelled decls parts args is_args)))

-- a line that says a permission is the permission's line
pub allow_is_line : (decls : List Decl) (parts : List Placed) (thread object : ℕ) → option_and_then permission_of (args_of decls parts) ≡ Some (thread, object)
    → allow_line decls thread object ≡ line_text (form_words head.Allow parts)
allow_is_line decls parts thread object made =
    option_and_then_some permission_of (args_of decls parts) (thread, object) made
    (λ args is_args given.
    ap (said_line decls head.Allow) (sym (permission-is args (thread, object) given))
    ∙ ap (λ ws. line_text ((row_of head.Allow).first ∷ ws)) (sym (args_spelled decls parts args is_args)))

-- a line that makes a call is the call's line
pub call_is_line : (decls : List Decl) (w : Word) (parts : List Placed) (c : Call) → option_and_then (call_of w) (args_of decls parts) ≡ Some c → call_line decls c ≡ line_text (form_words (head.Call w) parts)
call_is_line decls w parts c made =
    option_and_then_some (call_of w) (args_of decls parts) c made
    (λ args is_args given.
    ap (λ s. said_line decls (head.Call s.word) s.args) (said_of-call_of w args c given)
    ∙ ap (λ ws. line_text ((row_of (head.Call w)).first ∷ ws)) (sym (args_spelled decls parts args is_args)))

-- What is right in each slot.
use Rattle.std.proofs.Common.{◌≡◌, ℕ, Bool, true, false, cond, not, ◌||◌, List, [], ◌∷◌, ◌++◌, get_or, Option, Some, None, Ok, is_some, refl, sym, ap, ◌∙◌}
use Rattle.std.specs.Prelude.{option_map, option_and_then, codes}
use Rattle.std.specs.Option.{option_map_or}
use Rattle.std.specs.Str.{bytes_eq}
use Rattle.std.specs.Str.Parse.{digits_value}
use Rattle.std.specs.Cmp.Lexicographic.{bytes_decides}
use Rattle.std.proofs.lemmas.Bool.{and_parts}
use Rattle.std.proofs.lemmas.List.Quantifiers.{position-Some}
use Rattle.std.proofs.lemmas.Option.{cond_some, option_and_then_some, slice_get-get_or}
use Rattle.zk_base.specs.Names.{is_name, is_spelled, is_reserved}
use Rattle.zk_base.specs.declared.kinds.Need.{Need}
use Rattle.zk_words.specs.declared.limits.TheConstants.{MOST_TICKS}
use Rattle.zk_words.specs.declared.slot.Slot.{Slot}
use Rattle.zk_words.specs.declared.slot.Slot.TheVariants as slot
use Rattle.zk_words.specs.declared.timeout.Timeout.{Timeout}
use Rattle.zk_words.specs.declared.timeout.Timeout.TheVariants.{No, Forever, Ticks}
use Rattle.zk_words.specs.Events.{Asking, event_named, is_ignore, need_of}
use Rattle.zk_words.specs.Hex.{is_hex, msg_of}
use Rattle.zk_words.specs.Numbers.{is_number, number_of, number_in}
use Rattle.zk_words.specs.Spelled.{is_spelled_in}
use Rattle.zk_words.specs.Timeouts.{is_wait, wait_of}
use Rattle.zk_line.specs.declared.types.Decl.{Decl}
use Rattle.zk_line.specs.declared.types.Decl.TheVariants as decl
use Rattle.zk_line.specs.declared.types.Ref.{Ref}
use Rattle.zk_line.specs.declared.types.Ref.TheVariants.{Known, Unknown}
use Rattle.zk_line.specs.declared.types.Arg.{Arg}
use Rattle.zk_line.specs.declared.types.Arg.TheVariants.{Object, Number, Bytes, Wait, Event}
use Rattle.zk_line.specs.declared.events.Event.TheVariants as event
use Rattle.zk_line.specs.Args.{named_ref, ref_of, arg_of}
use Rattle.zk_line.specs.Checks.{size_said, is_in_range, hex_in_range, is_right_object, is_well_named}
use Rattle.zk_line.specs.Few.{event_at}
use Rattle.zk_line.specs.Objects.{AreNames, object_of, name_of, is_at, is_met}
use Rattle.zk_line.specs.Right.{Says}
use Rattle.zk_line.specs.Weights.{Weighs}
use Rattle.zk_line.proofs.Options.{one_part}

-- what names an object, or could, is spelled as a name
ref_is_name : (decls : List Decl) (word : List ℕ) (r : Ref) → AreNames decls → ref_of decls word ≡ Some r → is_spelled word ≡ true
ref_is_name decls word r names said = by_place (object_of decls word) refl said where
  by_place : (o : Option ℕ) → object_of decls word ≡ o → named_ref o word ≡ Some r → is_spelled word ≡ true
  by_place (Some k) is here =
      let d : Decl = decl.Item [] in
      let found = position-Some (λ x. bytes_eq (name_of x) word) decls k d is in
      let named = names.formed k (get_or decls k d) (slice_get-get_or decls k d found.0) in
      let same = (bytes_decides (name_of (get_or decls k d)) word).0 found.1 in
      (and_parts (is_spelled word) (not (is_reserved word)) (ap is_name (sym same) ∙ named)).0
  by_place None is here = (and_parts (is_spelled word) (not (is_reserved word)) (cond_some (is_name word) (Unknown word) r here).0).0

-- an object
object_says : (free : Bool) (decls : List Decl) (said all : List Arg) (need : Need) (word : List ℕ) (object : Ref) → AreNames decls → is_right_object free decls need word ≡ true
    → ref_of decls word ≡ Some object → all ≡ said ++ Object object ∷ [] → Says free decls said (slot.Object need) word all
object_says free decls said all need word object names right is joined = record {
  arg = Object object;
  right = record {
    spelled = ref_is_name decls word object names is;
    in_range = refl;
    named = right;
    says = ap (option_map Object) is;
  };
  joined = joined;
}

known_ref : (decls : List Decl) (word : List ℕ) (k : ℕ) → object_of decls word ≡ Some k → ref_of decls word ≡ Some (Known k)
known_ref decls word k found = ap (λ o. named_ref o word) found

known_right : (free : Bool) (decls : List Decl) (need : Need) (word : List ℕ) (k : ℕ) → object_of decls word ≡ Some k → (free || is_at (is_met need) decls k) ≡ true → is_right_object free decls need word ≡ true
known_right true decls need word k found may = ap (λ o. is_some (named_ref o word)) found
known_right false decls need word k found may = ap (λ o. option_map_or (is_at (is_met need) decls) o false) found ∙ may

-- a declared object
pub known_says : (free : Bool) (decls : List Decl) (said all : List Arg) (need : Need) (word : List ℕ) (k : ℕ) → AreNames decls → object_of decls word ≡ Some k → (free || is_at (is_met need) decls k) ≡ true
    → all ≡ said ++ Object (Known k) ∷ [] → Says free decls said (slot.Object need) word all
known_says free decls said all need word k names found may joined =
    object_says free decls said all need word (Known k) names (known_right free decls need word k found may) (known_ref decls word k found) joined

number_spelled : (least most : ℕ) (word : List ℕ) (n : ℕ) → number_in least most word ≡ Some n → is_number word ≡ true
number_spelled least most word n said =
    option_and_then_some _ (number_of word) n said (λ m is_m given. (cond_some (is_number word) (digits_value 10 word) m is_m).0)

-- a number
pub number_says : (free : Bool) (decls : List Decl) (said all : List Arg) (least most : ℕ) (word : List ℕ) (n : ℕ) → number_in least most word ≡ Some n
    → all ≡ said ++ Number n ∷ [] → Says free decls said (slot.Number least most) word all
number_says free decls said all least most word n is joined = record {
  arg = Number n;
  right = record {
    spelled = number_spelled least most word n is;
    in_range = ap is_some is;
    named = refl;
    says = ap (option_map Number) is;
  };
  joined = joined;
}

wait_is_spelled : (word : List ℕ) (wait : Timeout) → wait_of word ≡ Some wait → is_wait word ≡ true
wait_is_spelled word wait said = by_words (bytes_eq word (codes "no")) (bytes_eq word (codes "forever")) said where
  by_words : (b c : Bool) → cond b (Some No) (cond c (Some Forever) (option_map Ticks (number_in 1 MOST_TICKS word))) ≡ Some wait → (b || c || is_number word) ≡ true
  by_words true c here = refl
  by_words false true here = refl
  by_words false false here =
      let ticks = one_part Ticks (number_in 1 MOST_TICKS word) wait here in number_spelled 1 MOST_TICKS word ticks.0 ticks.1

-- how long is waited
pub wait_says : (free : Bool) (decls : List Decl) (said all : List Arg) (word : List ℕ) (wait : Timeout) → wait_of word ≡ Some wait
    → all ≡ said ++ Wait wait ∷ [] → Says free decls said slot.Wait word all
wait_says free decls said all word wait is joined = record {
  arg = Wait wait;
  right = record {
    spelled = wait_is_spelled word wait is;
    in_range = ap is_some is;
    named = refl;
    says = ap (option_map Wait) is;
  };
  joined = joined;
}

-- a message
pub message_says : (free : Bool) (decls : List Decl) (said all : List Arg) (word : List ℕ) (arg : Arg) → is_hex word ≡ true
    → Weighs (hex_in_range (size_said decls said) word) true (option_map Bytes (msg_of word)) (Ok arg) → all ≡ said ++ arg ∷ [] → Says free decls said slot.Hex word all
message_says free decls said all word arg spelled weighed joined = record {
  arg = arg;
  right = record { spelled = spelled; in_range = weighed.0; named = refl; says = weighed.2 };
  joined = joined;
}

-- any word that is spelled as its slot asks, and that nothing speaks against
pub word_says : (free : Bool) (decls : List Decl) (said all : List Arg) (s : Slot) (word : List ℕ) (arg : Arg) → is_spelled_in s word ≡ true
    → Weighs (is_in_range (size_said decls said) s word) (is_well_named free decls s word) (arg_of decls s word) (Ok arg) → all ≡ said ++ arg ∷ [] → Says free decls said s word all
word_says free decls said all s word arg spelled weighed joined = record {
  arg = arg;
  right = record { spelled = spelled; in_range = weighed.0; named = weighed.1; says = weighed.2 };
  joined = joined;
}

-- the event that asks for nothing
pub ignore_says : (free : Bool) (decls : List Decl) (said all : List Arg) (word : List ℕ) → is_ignore word ≡ true
    → all ≡ said ++ Event event.Ignore ∷ [] → Says free decls said slot.Event word all
ignore_says free decls said all word is joined = record {
  arg = Event event.Ignore;
  right = record {
    spelled = ap (λ b. b || option_map_or (λ asked. is_spelled asked.name) (event_named word) false) is;
    in_range = refl;
    named = ap (λ b. b || option_map_or (λ asked. is_right_object free decls (need_of asked.source) asked.name) (event_named word) false) is;
    says = ap (λ b. option_map Event (cond b (Some event.Ignore) (option_and_then (λ asked. option_map (event_at asked.source) (ref_of decls asked.name)) (event_named word)))) is;
  };
  joined = joined;
}

-- an event of a source
event_says : (free : Bool) (decls : List Decl) (said all : List Arg) (word : List ℕ) (asking : Asking) (object : Ref) → AreNames decls → is_ignore word ≡ false → event_named word ≡ Some asking
    → is_right_object free decls (need_of asking.source) asking.name ≡ true → ref_of decls asking.name ≡ Some object
    → all ≡ said ++ Event (event_at asking.source object) ∷ [] → Says free decls said slot.Event word all
event_says free decls said all word asking object names asks is right found joined = record {
  arg = Event (event_at asking.source object);
  right = record {
    spelled = ap (λ b. b || option_map_or (λ asked. is_spelled asked.name) (event_named word) false) asks
        ∙ ap (λ o. option_map_or (λ asked. is_spelled asked.name) o false) is ∙ ref_is_name decls asking.name object names found;
    in_range = refl;
    named = ap (λ b. b || option_map_or (λ asked. is_right_object free decls (need_of asked.source) asked.name) (event_named word) false) asks
        ∙ ap (λ o. option_map_or (λ asked. is_right_object free decls (need_of asked.source) asked.name) o false) is ∙ right;
    says = ap (λ b. option_map Event (cond b (Some event.Ignore) (option_and_then (λ asked. option_map (event_at asked.source) (ref_of decls asked.name)) (event_named word)))) asks
        ∙ ap (λ o. option_map Event (option_and_then (λ asked. option_map (event_at asked.source) (ref_of decls asked.name)) o)) is
        ∙ ap (λ o. option_map Event (option_map (event_at asking.source) o)) found;
  };
  joined = joined;
}

-- an event of a declared source
pub known_event_says : (free : Bool) (decls : List Decl) (said all : List Arg) (word : List ℕ) (asking : Asking) (k : ℕ) → AreNames decls → is_ignore word ≡ false → event_named word ≡ Some asking
    → object_of decls asking.name ≡ Some k → (free || is_at (is_met (need_of asking.source)) decls k) ≡ true
    → all ≡ said ++ Event (event_at asking.source (Known k)) ∷ [] → Says free decls said slot.Event word all
known_event_says free decls said all word asking k names asks is found may joined =
    event_says free decls said all word asking (Known k) names asks is (known_right free decls (need_of asking.source) asking.name k found may) (known_ref decls asking.name k found) joined

-- What a fitting call needs is declared.
use Rattle.std.proofs.Common.{◌≡◌, ℕ, zero, suc, Bool, true, Option, Some, None, option_to_list, List, [], ◌∷◌, All, refl, subst, ◌&&◌}
use Rattle.std.specs.List.{list_all, filter_map, cons_option}
use Rattle.std.proofs.lemmas.Bool.{and_parts}
use Rattle.std.proofs.lemmas.List.Elements.{All-nil, All-cons, All-head, All-append}
use Rattle.std.proofs.lemmas.Option.{same_Some}
use Rattle.zk_base.specs.declared.kinds.Need.{Need}
use Rattle.zk_base.specs.declared.kinds.Need.TheVariants as need
use Rattle.zk_words.specs.declared.slot.Slot.{Slot}
use Rattle.zk_words.specs.declared.slot.Slot.TheVariants as slots_of
use Rattle.zk_words.specs.declared.slot.Rest.{Rest}
use Rattle.zk_words.specs.declared.slot.Rest.TheVariants.{Maybe, Many, Events}
use Rattle.zk_words.specs.Table.{call_row}
use Rattle.zk_line.specs.declared.events.Event.{Event}
use Rattle.zk_line.specs.declared.events.Event.TheVariants as events
use Rattle.zk_line.specs.declared.needs.Needed.{Needed}
use Rattle.zk_line.specs.declared.types.Arg.{Arg}
use Rattle.zk_line.specs.declared.types.Arg.TheVariants as args_of
use Rattle.zk_line.specs.declared.types.Call.{Call}
use Rattle.zk_line.specs.declared.types.Call.TheVariants as calls
use Rattle.zk_line.specs.declared.types.Decl.{Decl}
use Rattle.zk_line.specs.declared.types.Ref.{Ref}
use Rattle.zk_line.specs.declared.types.Ref.TheVariants.{Known, Unknown}
use Rattle.zk_line.specs.Calls.{said_of}
use Rattle.zk_line.specs.Checks.{size_said}
use Rattle.zk_line.specs.Fits.{asked_in, ref_fits, rawable_fits, event_fits, fits_in, rest_fit, args_fit, has_few_events, call_fits}
use Rattle.zk_line.specs.Needs.{needed, event_need, need_in, needs_behind, needs_in, needs_of, IsThere}
use Rattle.zk_line.specs.Objects.{is_at, is_met, can_be_raw}

-- what is declared as one of a kind is declared
pub at-any : (test : Decl → Bool) (decls : List Decl) (object : ℕ) → is_at test decls object ≡ true → is_at (is_met need.Any) decls object ≡ true
at-any test [] object is = absurd (cc)
at-any test (d ∷ ds) zero is = refl
at-any test (d ∷ ds) (suc object) is = at-any test ds object is

met-there : (free : Bool) (decls : List Decl) (need : Need) (object : Ref) → ref_fits free decls need object ≡ true → IsThere decls (needed object need)
met-there free decls need (Known object) fits = at-any (is_met (asked_in free need)) decls object fits
met-there free decls need (Unknown name) fits = refl

rawable-there : (decls : List Decl) (object : Ref) → rawable_fits decls object ≡ true → IsThere decls (needed object need.Any)
rawable-there decls (Known object) fits = at-any can_be_raw decls object fits
rawable-there decls (Unknown name) fits = refl

event-there : (free : Bool) (decls : List Decl) (event : Event) (n : Needed) → event_fits free decls event ≡ true → event_need event ≡ Some n → IsThere decls n
event-there free decls events.Ignore n fits is = absurd (cc)
event-there free decls (events.Sem sem) n fits is = subst (IsThere decls) (same_Some (needed sem need.Sem) n is) (met-there free decls need.Sem sem fits)
event-there free decls (events.Msgq queue) n fits is = subst (IsThere decls) (same_Some (needed queue need.Msgq) n is) (met-there free decls need.Msgq queue fits)
event-there free decls (events.Sig signal) n fits is = subst (IsThere decls) (same_Some (needed signal need.Signal) n is) (met-there free decls need.Signal signal fits)

need-there : (free : Bool) (decls : List Decl) (size : Option ℕ) (slot : Slot) (arg : Arg) (n : Needed) → fits_in free decls size slot arg ≡ true → need_in slot arg ≡ Some n → IsThere decls n
need-there free decls size (slots_of.Object need) (args_of.Object object) n fits is = subst (IsThere decls) (same_Some (needed object need) n is) (met-there free decls need object fits)
need-there free decls size slots_of.Rawable (args_of.Object object) n fits is = subst (IsThere decls) (same_Some (needed object need.Any) n is) (rawable-there decls object fits)
need-there free decls size slots_of.Event (args_of.Event event) n fits is = event-there free decls event n fits is
need-there free decls size slot arg n fits is = absurd (cc)

one-there : (free : Bool) (decls : List Decl) (size : Option ℕ) (slot : Slot) (arg : Arg) → fits_in free decls size slot arg ≡ true → All (IsThere decls) (option_to_list (need_in slot arg))
one-there free decls size slot arg fits = by (need_in slot arg) refl where
  by : (o : Option Needed) → need_in slot arg ≡ o → All (IsThere decls) (option_to_list o)
  by None is = All-nil (IsThere decls)
  by (Some n) is = All-cons (IsThere decls) n [] (need-there free decls size slot arg n fits is) (All-nil (IsThere decls))

with-one : (decls : List Decl) (o : Option Needed) (more : List Needed) → All (IsThere decls) (option_to_list o) → All (IsThere decls) more →
    All (IsThere decls) (cons_option o more)
with-one decls None more one all = all
with-one decls (Some n) more one all = All-cons (IsThere decls) n more (All-head (IsThere decls) n [] one) all

many-there : (free : Bool) (decls : List Decl) (size : Option ℕ) (slot : Slot) (args : List Arg) → list_all (fits_in free decls size slot) args ≡ true → All (IsThere decls) (filter_map (need_in slot) args)
many-there free decls size slot [] fits = All-nil (IsThere decls)
many-there free decls size slot (arg ∷ args) fits =
    let both = and_parts (fits_in free decls size slot arg) (list_all (fits_in free decls size slot) args) fits in
    with-one decls (need_in slot arg) (filter_map (need_in slot) args) (one-there free decls size slot arg both.0) (many-there free decls size slot args both.1)

behind-there : (free : Bool) (decls : List Decl) (size : Option ℕ) (rest : Rest) (args : List Arg) → rest_fit free decls size rest args ≡ true → All (IsThere decls) (needs_behind rest args)
behind-there free decls size (Maybe slot) (arg ∷ args) fits = one-there free decls size slot arg fits
behind-there free decls size (Many slot) args fits = many-there free decls size slot args fits
behind-there free decls size Events args fits = many-there free decls size slots_of.Event args fits
behind-there free decls size rest args fits = All-nil (IsThere decls)

in-there : (free : Bool) (decls : List Decl) (size : Option ℕ) (slots : List Slot) (rest : Rest) (args : List Arg) → args_fit free decls size slots rest args ≡ true → All (IsThere decls) (needs_in slots rest args)
in-there free decls size [] rest args fits = behind-there free decls size rest args fits
in-there free decls size (slot ∷ slots) rest [] fits = All-nil (IsThere decls)
in-there free decls size (slot ∷ slots) rest (arg ∷ args) fits =
    let both = and_parts (fits_in free decls size slot arg) (args_fit free decls size slots rest args) fits in
    All-append (IsThere decls) (option_to_list (need_in slot arg)) (needs_in slots rest args) (one-there free decls size slot arg both.0) (in-there free decls size slots rest args both.1)

said-there : (free : Bool) (decls : List Decl) (call : Call) → call_fits free decls call ≡ true →
    All (IsThere decls) (needs_in (call_row (said_of call).word).slots (call_row (said_of call).word).rest (said_of call).args)
said-there free decls call fits =
    let said = said_of call in
    let form = call_row said.word in
    in-there free decls (size_said decls said.args) form.slots form.rest said.args
    (and_parts (has_few_events call) (args_fit free decls (size_said decls said.args) form.slots form.rest said.args) fits).1

-- each object that a fitting call names is declared
pub needs-there : (free : Bool) (decls : List Decl) (call : Call) → call_fits free decls call ≡ true → All (IsThere decls) (needs_of call)
needs-there free decls (calls.Grant thread object) fits =
    let both = and_parts (ref_fits free decls need.Thread thread) (ref_fits free decls need.Any object && true) fits in
    let own = and_parts (ref_fits free decls need.Any object) true both.1 in
    All-cons (IsThere decls) (needed object need.Any) (needed thread need.Thread ∷ []) (met-there free decls need.Any object own.0)
    (All-cons (IsThere decls) (needed thread need.Thread) [] (met-there free decls need.Thread thread both.0) (All-nil (IsThere decls)))
needs-there free decls call fits = said-there free decls call fits

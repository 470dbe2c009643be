-- A call of a free line fits as any other does, where each object that it needs is what it has to be.
use Rattle.std.proofs.Common.{◌≡◌, ℕ, true, false, ◌&&◌, Option, Some, None, option_to_list, List, [], ◌∷◌, All, refl}
use Rattle.std.specs.List.{list_all, filter_map, cons_option}
use Rattle.std.proofs.lemmas.Bool.{and_parts, and_from}
use Rattle.std.proofs.lemmas.List.Elements.{All-nil, All-cons, All-head, All-tail}
use Rattle.zk_base.proofs.Lists.{All-front, All-back}
use Rattle.zk_base.specs.declared.kinds.Need.TheVariants as need
use Rattle.zk_words.specs.declared.slot.Slot.{Slot}
use Rattle.zk_words.specs.declared.slot.Slot.TheVariants as slots_of
use Rattle.zk_words.specs.declared.slot.Rest.{Rest}
use Rattle.zk_words.specs.declared.slot.Rest.TheVariants.{Maybe, Many, Events}
use Rattle.zk_words.specs.Table.{call_row}
use Rattle.zk_line.specs.declared.events.Event.{Event}
use Rattle.zk_line.specs.declared.events.Event.TheVariants as events
use Rattle.zk_line.specs.declared.needs.Needed.{Needed}
use Rattle.zk_line.specs.declared.types.Arg.{Arg}
use Rattle.zk_line.specs.declared.types.Arg.TheVariants as args_of
use Rattle.zk_line.specs.declared.types.Call.{Call}
use Rattle.zk_line.specs.declared.types.Call.TheVariants as calls
use Rattle.zk_line.specs.declared.types.Decl.{Decl}
use Rattle.zk_line.specs.Calls.{said_of}
use Rattle.zk_line.specs.Checks.{size_said}
use Rattle.zk_line.specs.Fits.{ref_fits, event_fits, fits_in, rest_fit, args_fit, has_few_events, call_fits}
use Rattle.zk_line.specs.Needs.{needed, event_need, need_in, needs_behind, needs_in, needs_of, IsMet}

event-met : (decls : List Decl) (event : Event) → All (IsMet decls) (option_to_list (event_need event)) → event_fits false decls event ≡ true
event-met decls events.Ignore met = refl
event-met decls (events.Sem sem) met = All-head (IsMet decls) (needed sem need.Sem) [] met
event-met decls (events.Msgq queue) met = All-head (IsMet decls) (needed queue need.Msgq) [] met
event-met decls (events.Sig signal) met = All-head (IsMet decls) (needed signal need.Signal) [] met

arg-met : (decls : List Decl) (size : Option ℕ) (slot : Slot) (arg : Arg) → fits_in true decls size slot arg ≡ true → All (IsMet decls) (option_to_list (need_in slot arg)) →
    fits_in false decls size slot arg ≡ true
arg-met decls size (slots_of.Object need) (args_of.Object object) fits met = All-head (IsMet decls) (needed object need) [] met
arg-met decls size slots_of.Event (args_of.Event event) fits met = event-met decls event met
arg-met decls size slot arg fits met = fits

-- the first of those that are needed, and the others
first-met : (decls : List Decl) (o : Option Needed) (more : List Needed) → All (IsMet decls) (cons_option o more) → All (IsMet decls) (option_to_list o) × All (IsMet decls) more
first-met decls None more met = (All-nil (IsMet decls), met)
first-met decls (Some n) more met = (All-cons (IsMet decls) n [] (All-head (IsMet decls) n more met) (All-nil (IsMet decls)), All-tail (IsMet decls) n more met)

many-met : (decls : List Decl) (size : Option ℕ) (slot : Slot) (args : List Arg) → list_all (fits_in true decls size slot) args ≡ true → All (IsMet decls) (filter_map (need_in slot) args) →
    list_all (fits_in false decls size slot) args ≡ true
many-met decls size slot [] fits met = refl
many-met decls size slot (arg ∷ args) fits met =
    let both = and_parts (fits_in true decls size slot arg) (list_all (fits_in true decls size slot) args) fits in
    let parts = first-met decls (need_in slot arg) (filter_map (need_in slot) args) met in
    and_from (fits_in false decls size slot arg) (list_all (fits_in false decls size slot) args) (arg-met decls size slot arg both.0 parts.0) (many-met decls size slot args both.1 parts.1)

behind-met : (decls : List Decl) (size : Option ℕ) (rest : Rest) (args : List Arg) → rest_fit true decls size rest args ≡ true → All (IsMet decls) (needs_behind rest args) →
    rest_fit false decls size rest args ≡ true
behind-met decls size (Maybe slot) (arg ∷ args) fits met = arg-met decls size slot arg fits met
behind-met decls size (Many slot) args fits met = many-met decls size slot args fits met
behind-met decls size Events args fits met = many-met decls size slots_of.Event args fits met
behind-met decls size rest args fits met = fits

in-met : (decls : List Decl) (size : Option ℕ) (slots : List Slot) (rest : Rest) (args : List Arg) → args_fit true decls size slots rest args ≡ true → All (IsMet decls) (needs_in slots rest args) →
    args_fit false decls size slots rest args ≡ true
in-met decls size [] rest args fits met = behind-met decls size rest args fits met
in-met decls size (slot ∷ slots) rest [] fits met = refl
in-met decls size (slot ∷ slots) rest (arg ∷ args) fits met =
    let both = and_parts (fits_in true decls size slot arg) (args_fit true decls size slots rest args) fits in
    and_from (fits_in false decls size slot arg) (args_fit false decls size slots rest args)
    (arg-met decls size slot arg both.0 (All-front (IsMet decls) (option_to_list (need_in slot arg)) (needs_in slots rest args) met))
    (in-met decls size slots rest args both.1 (All-back (IsMet decls) (option_to_list (need_in slot arg)) (needs_in slots rest args) met))

said-met : (decls : List Decl) (call : Call) → call_fits true decls call ≡ true →
    All (IsMet decls) (needs_in (call_row (said_of call).word).slots (call_row (said_of call).word).rest (said_of call).args) → call_fits false decls call ≡ true
said-met decls call fits met =
    let said = said_of call in
    let form = call_row said.word in
    let size = size_said decls said.args in
    let both = and_parts (has_few_events call) (args_fit true decls size form.slots form.rest said.args) fits in
    and_from (has_few_events call) (args_fit false decls size form.slots form.rest said.args) both.0 (in-met decls size form.slots form.rest said.args both.1 met)

-- a call of a free line fits as any other does, where each object that it needs is what it has to be
pub needs-met : (decls : List Decl) (call : Call) → call_fits true decls call ≡ true → All (IsMet decls) (needs_of call) → call_fits false decls call ≡ true
needs-met decls (calls.Grant thread object) fits met =
    let own = All-head (IsMet decls) (needed object need.Any) (needed thread need.Thread ∷ []) met in
    let more = All-head (IsMet decls) (needed thread need.Thread) [] (All-tail (IsMet decls) (needed object need.Any) (needed thread need.Thread ∷ []) met) in
    and_from (ref_fits false decls need.Thread thread) (ref_fits false decls need.Any object && true) more (and_from (ref_fits false decls need.Any object) true own refl)
needs-met decls call fits met = said-met decls call fits met

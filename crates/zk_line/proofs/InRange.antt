-- What is declared by words in range is in range.
use Rattle.std.proofs.Common.{◌≡◌, ℕ, Bool, true, false, not, subst, eqb, nat_le, nat_lt, ◌^◌, ◌&&◌, ◌||◌, List, [], ◌∷◌, map, length, Option, Some, None, is_some, refl, sym, ap, ◌∙◌}
use Rattle.std.specs.Prelude.{option_and_then}
use Rattle.std.specs.List.{list_all, list_any}
use Rattle.std.specs.Str.{bytes_eq}
use Rattle.std.specs.Cmp.Lexicographic.{bytes_decides}
use Rattle.std.specs.Option.{option_map_or}
use Rattle.std.proofs.lemmas.Bool.{and_parts, and_from, eqb-true, not-true}
use Rattle.std.proofs.lemmas.Option.{cond_some, option_and_then_some, same_Some}
use Rattle.zk_base.specs.Limits.{longest_message, most_held}
use Rattle.zk_base.specs.declared.kinds.Kind.{Kind}
use Rattle.zk_base.specs.declared.kinds.Kind.TheVariants as kind
use Rattle.zk_words.specs.declared.limits.TheConstants.{MOST_COUNT}
use Rattle.zk_words.specs.declared.slot.Slot.TheVariants as slot
use Rattle.zk_base.specs.Fews.{is_few}
use Rattle.zk_base.specs.Messages.{is_message}
use Rattle.zk_base.specs.declared.validator.Valid.{Valid}
use Rattle.zk_words.specs.declared.slot.Rest.TheVariants.{Maybe, Many}
use Rattle.zk_words.specs.declared.word.Head.TheVariants.{Declare}
use Rattle.zk_words.specs.Numbers.{is_between, number_of, number_in}
use Rattle.zk_words.specs.Parts.{Placed, placed, parts_of}
use Rattle.zk_words.specs.Table.{kind_row, initial, limit, size, observer}
use Rattle.zk_words.proofs.Numerals.{number_in_spelled}
use Rattle.zk_line.specs.declared.types.Decl.{Decl}
use Rattle.zk_line.specs.declared.types.Decl.TheVariants as decl
use Rattle.zk_line.specs.declared.types.Arg.{Arg}
use Rattle.zk_line.specs.declared.types.Arg.TheVariants.{Name, Object, Number, Bytes, Valid as ValidArg}
use Rattle.zk_base.specs.Names.{is_name}
use Rattle.zk_line.specs.declared.types.Ref.{Ref}
use Rattle.zk_line.specs.declared.types.Ref.TheVariants.{Known, Unknown}
use Rattle.zk_line.specs.Args.{named_ref, ref_of, arg_of, args_of}
use Rattle.zk_line.specs.Checks.{message_size, each_in_range, is_up_to, go_together, are_in_range, each_well_named, names_observer, name_once, are_well_named}
use Rattle.zk_line.specs.Decls.{decl_of, decl_args, objects_said, raw_said}
use Rattle.zk_line.specs.Fits.{fits_in, rest_fit, args_fit, all_different, decl_fits, observers_fit}
use Rattle.zk_line.specs.Objects.{object_of, name_at, kind_of, is_at, is_observer}
use Rattle.zk_line.proofs.Fits.{args_fit-read}
use Rattle.zk_line.proofs.Inverse.{written_of-decl_of, few-channel}
use Rattle.zk_line.proofs.Makes.{is_some-some}
use Rattle.zk_line.proofs.Options.{one_part}
use Rattle.zk_line.proofs.Spelled.{name_at-object_of}

-- a word that spells a number in a range spells the number
number_in-is : (least most : ℕ) (word : List ℕ) (n : ℕ) → number_in least most word ≡ Some n → number_of word ≡ Some n
number_in-is least most word n said =
    option_and_then_some _ (number_of word) n said
    (λ m is_m given. is_m ∙ ap Some (cond_some (is_between least most m && nat_lt m (2 ^ 32)) m n given).1)

-- a number that is up to another isn't above it
up_to-is : (first second : List ℕ) (n most : ℕ) → number_in 0 MOST_COUNT first ≡ Some n → number_in 1 MOST_COUNT second ≡ Some most → is_up_to first second ≡ true → nat_le n most ≡ true
up_to-is first second n most is_n is_most up =
    let within = is_some-some (number_in 0 most first) (sym (ap (λ o. option_map_or (λ m. is_some (number_in 0 m first)) o false) is_most) ∙ up) in
    let same = same_Some within.0 n (sym (number_in-is 0 most first within.0 within.1) ∙ number_in-is 0 MOST_COUNT first n is_n) in
    ap (λ m. nat_le m most) (sym same) ∙ (and_parts (nat_le 0 within.0) (nat_le within.0 most) (number_in_spelled 0 most first within.0 within.1).1).1

-- what a line says begins with what its first word says
args-uncons : (decls : List Decl) (p : Placed) (ps : List Placed) (arg : Arg) (args : List Arg) → args_of decls (p ∷ ps) ≡ Some (arg ∷ args) → (arg_of decls p.slot p.text ≡ Some arg) × (args_of decls ps ≡ Some args)
args-uncons decls p ps arg args said =
    option_and_then_some _ (arg_of decls p.slot p.text) (arg ∷ args) said
    (λ a is_a given.
    let more = one_part (λ xs. a ∷ xs) (args_of decls ps) (arg ∷ args) given in
    let same : (a ≡ arg) × (more.0 ≡ args) = (cc more.2, cc more.2) in (is_a ∙ ap Some same.0, more.1 ∙ ap Some same.1))

-- a number that is said is in the range of its slot
number-is : (decls : List Decl) (least most : ℕ) (word : List ℕ) (n : ℕ) → arg_of decls (slot.Number least most) word ≡ Some (Number n) → number_in least most word ≡ Some n
number-is decls least most word n said =
    let part = one_part Number (number_in least most word) (Number n) said in
    let same : part.0 ≡ n = cc part.2 in part.1 ∙ ap Some same

-- a semaphore begins with a count up to its limit
counts-read : (decls : List Decl) (ws : List (List ℕ)) (name : List ℕ) (n most : ℕ) (more : List Arg) → args_of decls (parts_of (slot.New ∷ initial ∷ limit ∷ []) (Maybe slot.Raw) ws) ≡ Some (Name name ∷ Number n ∷ Number most ∷ more)
    → go_together (Declare kind.Sem) (parts_of (slot.New ∷ initial ∷ limit ∷ []) (Maybe slot.Raw) ws) ≡ true → nat_le n most ≡ true
counts-read decls [] name n most more said up = absurd (cc)
counts-read decls (w ∷ []) name n most more said up =
    let one = args-uncons decls (placed slot.New w) [] (Name name) (Number n ∷ Number most ∷ more) said in absurd (cc one.1)
counts-read decls (w ∷ v ∷ []) name n most more said up =
    let one = args-uncons decls (placed slot.New w) (placed initial v ∷ []) (Name name) (Number n ∷ Number most ∷ more) said in
    let two = args-uncons decls (placed initial v) [] (Number n) (Number most ∷ more) one.1 in absurd (cc two.1)
counts-read decls (w ∷ v ∷ u ∷ ws) name n most more said up =
    let rest = parts_of [] (Maybe slot.Raw) ws in
    let one = args-uncons decls (placed slot.New w) (placed initial v ∷ placed limit u ∷ rest) (Name name) (Number n ∷ Number most ∷ more) said in
    let two = args-uncons decls (placed initial v) (placed limit u ∷ rest) (Number n) (Number most ∷ more) one.1 in
    let three = args-uncons decls (placed limit u) rest (Number most) more two.1 in
    up_to-is v u n most (number-is decls 0 MOST_COUNT v n two.0) (number-is decls 1 MOST_COUNT u most three.0) up

-- an observer that is named says its object
object-is : (decls : List Decl) (word : List ℕ) (n : ℕ) → arg_of decls observer word ≡ Some (Object (Known n)) → object_of decls word ≡ Some n
object-is decls word n said =
    let object = one_part Object (ref_of decls word) (Object (Known n)) said in
    let same : object.0 ≡ Known n = cc object.2 in by_place (object_of decls word) refl (object.1 ∙ ap Some same) where
      by_place : (o : Option ℕ) → object_of decls word ≡ o → named_ref o word ≡ Some (Known n) → object_of decls word ≡ Some n
      by_place (Some k) is here = let known : k ≡ n = cc here in is ∙ ap Some known
      by_place None is here = let none : ◌≡◌ {A = Ref} (Unknown word) (Known n) = (cond_some (is_name word) (Unknown word) (Known n) here).1 in absurd (cc)

-- an observer that isn't named among others is another object than they
not_among : (decls : List Decl) (word : List ℕ) (n : ℕ) (ws : List (List ℕ)) (ns : List ℕ) → object_of decls word ≡ Some n → args_of decls (map (placed observer) ws) ≡ Some (objects_said ns)
    → names_observer word (map (placed observer) ws) ≡ false → list_any (λ m. eqb m n) ns ≡ false
not_among decls word n ws [] is said none = refl
not_among decls word n [] (m ∷ ns) is said none = absurd (cc)
not_among decls word n (v ∷ ws) (m ∷ ns) is said none =
    let one = args-uncons decls (placed observer v) (map (placed observer) ws) (Object (Known m)) (objects_said ns) said in
    by_word (bytes_eq v word) (eqb m n) refl refl none (not_among decls word n ws ns is one.1) (object-is decls v m one.0) where
      by_word : (b c : Bool) → bytes_eq v word ≡ b → eqb m n ≡ c → (b || names_observer word (map (placed observer) ws)) ≡ false
          → (names_observer word (map (placed observer) ws) ≡ false → list_any (λ k. eqb k n) ns ≡ false) → object_of decls v ≡ Some m → (c || list_any (λ k. eqb k n) ns) ≡ false
      by_word true c same other here rest found = absurd (cc)
      by_word false false same other here rest found = rest here
      by_word false true same other here rest found =
          let at : m ≡ n = eqb-true m n other in
          let text : v ≡ word = sym (name_at-object_of decls v m found) ∙ ap (name_at decls) at ∙ name_at-object_of decls word n is in
          let equal : true ≡ false = sym ((bytes_decides v word).1 text) ∙ same in absurd (cc)

-- observers that are named once each are different objects
different-read : (decls : List Decl) (ws : List (List ℕ)) (ns : List ℕ) → args_of decls (map (placed observer) ws) ≡ Some (objects_said ns) → name_once (map (placed observer) ws) ≡ true → all_different ns ≡ true
different-read decls ws [] said once = refl
different-read decls [] (n ∷ ns) said once = absurd (cc)
different-read decls (w ∷ ws) (n ∷ ns) said once =
    let one = args-uncons decls (placed observer w) (map (placed observer) ws) (Object (Known n)) (objects_said ns) said in
    let both = and_parts (not (names_observer w (map (placed observer) ws))) (name_once (map (placed observer) ws)) once in
    let other = not_among decls w n ws ns (object-is decls w n one.0) one.1 (not-true (names_observer w (map (placed observer) ws)) both.0) in
    and_from (not (list_any (λ m. eqb m n) ns)) (all_different ns) (ap not other) (different-read decls ws ns one.1 both.1)

-- the observers of a channel are different objects
observers-read : (decls : List Decl) (ws : List (List ℕ)) (name message : List ℕ) (valid : Valid) (ns : List ℕ)
    → args_of decls (parts_of (slot.New ∷ size ∷ slot.Hex ∷ slot.Valid ∷ []) (Many observer) ws) ≡ Some (Name name ∷ Number (length message) ∷ Bytes message ∷ ValidArg valid ∷ objects_said ns)
    → name_once (parts_of (slot.New ∷ size ∷ slot.Hex ∷ slot.Valid ∷ []) (Many observer) ws) ≡ true → all_different ns ≡ true
observers-read decls [] name message valid ns said once = absurd (cc)
observers-read decls (w ∷ []) name message valid ns said once =
    let one = args-uncons decls (placed slot.New w) [] (Name name) (Number (length message) ∷ Bytes message ∷ ValidArg valid ∷ objects_said ns) said in absurd (cc one.1)
observers-read decls (w ∷ v ∷ []) name message valid ns said once =
    let one = args-uncons decls (placed slot.New w) (placed size v ∷ []) (Name name) (Number (length message) ∷ Bytes message ∷ ValidArg valid ∷ objects_said ns) said in
    let two = args-uncons decls (placed size v) [] (Number (length message)) (Bytes message ∷ ValidArg valid ∷ objects_said ns) one.1 in absurd (cc two.1)
observers-read decls (w ∷ v ∷ u ∷ []) name message valid ns said once =
    let one = args-uncons decls (placed slot.New w) (placed size v ∷ placed slot.Hex u ∷ []) (Name name) (Number (length message) ∷ Bytes message ∷ ValidArg valid ∷ objects_said ns) said in
    let two = args-uncons decls (placed size v) (placed slot.Hex u ∷ []) (Number (length message)) (Bytes message ∷ ValidArg valid ∷ objects_said ns) one.1 in
    let three = args-uncons decls (placed slot.Hex u) [] (Bytes message) (ValidArg valid ∷ objects_said ns) two.1 in absurd (cc three.1)
observers-read decls (w ∷ v ∷ u ∷ t ∷ ws) name message valid ns said once =
    let rest = map (placed observer) ws in
    let one = args-uncons decls (placed slot.New w) (placed size v ∷ placed slot.Hex u ∷ placed slot.Valid t ∷ rest) (Name name) (Number (length message) ∷ Bytes message ∷ ValidArg valid ∷ objects_said ns) said in
    let two = args-uncons decls (placed size v) (placed slot.Hex u ∷ placed slot.Valid t ∷ rest) (Number (length message)) (Bytes message ∷ ValidArg valid ∷ objects_said ns) one.1 in
    let three = args-uncons decls (placed slot.Hex u) (placed slot.Valid t ∷ rest) (Bytes message) (ValidArg valid ∷ objects_said ns) two.1 in
    let four = args-uncons decls (placed slot.Valid t) rest (ValidArg valid) (objects_said ns) three.1 in
    different-read decls ws ns four.1 once

-- objects that fit the slot of an observer are observers
all_observers : (decls : List Decl) (bytes : Option ℕ) (ns : List ℕ) → list_all (fits_in false decls bytes observer) (objects_said ns) ≡ list_all (is_at is_observer decls) ns
all_observers decls bytes [] = refl
all_observers decls bytes (n ∷ ns) = ap (λ b. is_at is_observer decls n && b) (all_observers decls bytes ns)

-- what is said fits the slots of its kind
abbrev IsRanged : List Decl → Option ℕ → Decl → Type 0
IsRanged decls bytes d = args_fit false decls bytes (kind_row (kind_of d)).slots (kind_row (kind_of d)).rest (decl_args d) ≡ true

-- the same of what a line's words say in their slots
abbrev IsSaid : List Decl → List (List ℕ) → Decl → Type 0
IsSaid decls ws d = args_of decls (parts_of (kind_row (kind_of d)).slots (kind_row (kind_of d)).rest ws) ≡ Some (decl_args d)

-- the test of a line's numbers, and that of its observers
abbrev IsTogether : List (List ℕ) → Decl → Type 0
IsTogether ws d = go_together (Declare (kind_of d)) (parts_of (kind_row (kind_of d)).slots (kind_row (kind_of d)).rest ws) ≡ true

abbrev IsOnce : List (List ℕ) → Decl → Type 0
IsOnce ws d = name_once (parts_of (kind_row (kind_of d)).slots (kind_row (kind_of d)).rest ws) ≡ true

by_kind : (decls : List Decl) (bytes : Option ℕ) (ws : List (List ℕ)) (d : Decl) → IsRanged decls bytes d → decl_of (kind_of d) (decl_args d) ≡ Some d → IsSaid decls ws d → IsTogether ws d → IsOnce ws d
    → (decl_fits d ≡ true) × (observers_fit decls d ≡ true)
by_kind decls bytes ws (decl.Thread name prio user) fit made said together once = (refl, refl)
by_kind decls bytes ws (decl.Queue name prio on) fit made said together once = (refl, refl)
by_kind decls bytes ws (decl.Item name) fit made said together once = (refl, refl)
by_kind decls bytes ws (decl.Sem name n most raw) fit made said together once =
    let last = rest_fit false decls bytes (Maybe slot.Raw) (raw_said raw) in
    let numbers = and_parts (is_between 0 MOST_COUNT n) (is_between 1 MOST_COUNT most && last) fit in
    (and_from (is_between 1 MOST_COUNT most) (nat_le n most) (and_parts (is_between 1 MOST_COUNT most) last numbers.1).0 (counts-read decls ws name n most (raw_said raw) said together), refl)
by_kind decls bytes ws (decl.Msgq name long capacity raw) fit made said together once =
    let last = rest_fit false decls bytes (Maybe slot.Raw) (raw_said raw) in
    let numbers = and_parts (is_between 1 longest_message long) (is_between 1 most_held capacity && last) fit in
    (and_from (is_between 1 longest_message long) (is_between 1 most_held capacity) numbers.0 (and_parts (is_between 1 most_held capacity) last numbers.1).0, refl)
by_kind decls bytes ws (decl.Signal name raw) fit made said together once = (refl, refl)
by_kind decls bytes ws (decl.Listener name) fit made said together once = (refl, refl)
by_kind decls bytes ws (decl.Sub name capacity) fit made said together once = ((and_parts (is_between 1 most_held capacity) true fit).0, refl)
by_kind decls bytes ws (decl.Chan name message valid observers) fit made said together once =
    let long = and_parts (is_between 1 longest_message (length message)) (fits_in false decls bytes slot.Hex (Bytes message) && list_all (fits_in false decls bytes observer) (objects_said observers)) fit in
    let all = and_parts (fits_in false decls bytes slot.Hex (Bytes message)) (list_all (fits_in false decls bytes observer) (objects_said observers)) long.1 in
    let few = few-channel (decl_args (decl.Chan name message valid observers)) name message valid observers made in (
      and_from (is_message message && is_few observers) (all_different observers) (and_from (is_message message) (is_few observers) long.0 few) (observers-read decls ws name message valid observers said once),
      sym (all_observers decls bytes observers) ∙ all.1,
    )

-- what a line declares whose words are in range and well named is in range, and its observers are declared
pub decl_fits-read : (decls : List Decl) (k : Kind) (ws : List (List ℕ)) (d : Decl) → are_in_range decls (Declare k) (parts_of (kind_row k).slots (kind_row k).rest ws) ≡ true
    → are_well_named false decls (parts_of (kind_row k).slots (kind_row k).rest ws) ≡ true
    → option_and_then (decl_of k) (args_of decls (parts_of (kind_row k).slots (kind_row k).rest ws)) ≡ Some d → (decl_fits d ≡ true) × (observers_fit decls d ≡ true)
decl_fits-read decls k ws d ranged named made =
    let form = kind_row k in
    let ps = parts_of form.slots form.rest ws in
    let bytes = message_size decls ps in
    let both = and_parts (each_in_range bytes ps) (go_together (Declare k) ps) ranged in
    let names = and_parts (each_well_named false decls ps) (name_once ps) named in
    option_and_then_some (decl_of k) (args_of decls ps) d made
    (λ args is_args given.
    let is = sym (written_of-decl_of k args d given) in
    by_kind decls bytes ws d
    (ap (λ w. args_fit false decls bytes (kind_row w.kind).slots (kind_row w.kind).rest w.args) (sym is) ∙ args_fit-read false decls bytes form.slots form.rest ws args both.0 names.0 is_args)
    (subst (λ w. decl_of w.kind w.args ≡ Some d) is given)
    (subst (λ w. args_of decls (parts_of (kind_row w.kind).slots (kind_row w.kind).rest ws) ≡ Some w.args) is is_args)
    (subst (λ w. go_together (Declare w.kind) (parts_of (kind_row w.kind).slots (kind_row w.kind).rest ws) ≡ true) is both.1)
    (subst (λ w. name_once (parts_of (kind_row w.kind).slots (kind_row w.kind).rest ws) ≡ true) is names.1))

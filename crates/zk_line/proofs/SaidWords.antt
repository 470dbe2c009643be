-- A line that is right is read word by word.
use Rattle.std.proofs.Common.{◌≡◌, ℕ, ◌-◌, ◌≤◌, Bool, true, false, ◌||◌, List, [], ◌∷◌, ◌++◌, length, get_or, take, drop, map, refl, sym, ap, subst, ◌∙◌, append_assoc, arith}
use Rattle.std.specs.Prelude.{option_map, option_and_then}
use Rattle.std.specs.List.{list_all, list_any}
use Rattle.std.proofs.lemmas.Bool.{and_from}
use Rattle.std.proofs.lemmas.List.{append-nil, take_rest}
use Rattle.zk_words.specs.declared.slot.Slot.{Slot}
use Rattle.zk_words.specs.declared.slot.Slot.TheVariants as slot
use Rattle.zk_words.specs.declared.slot.Rest.{Rest}
use Rattle.zk_words.specs.declared.slot.Rest.TheVariants.{Nothing, Maybe}
use Rattle.zk_words.specs.Events.{asks}
use Rattle.zk_words.specs.Parts.{Placed, placed, rest_parts, parts_of, rest_fits, fits}
use Rattle.zk_words.specs.Spelled.{is_spelled_in, part_is_spelled}
use Rattle.zk_line.specs.declared.types.Decl.{Decl}
use Rattle.zk_line.specs.declared.types.Arg.{Arg}
use Rattle.zk_line.specs.Args.{args_of}
use Rattle.zk_line.specs.Checks.{size_said, is_in_range, each_in_range, is_well_named, each_well_named}
use Rattle.zk_line.specs.Right.{size_with, IsRight, AreRight, Says}
use Rattle.zk_line.proofs.ReadTo.{in_range_next, size_next}

-- no word more is right
pub right_none : (free : Bool) (decls : List Decl) (said : List Arg) → AreRight free decls said [] said
right_none free decls said = record {
  spelled = refl;
  in_range = refl;
  named = refl;
  more = [];
  saying = refl;
  joined = sym (append-nil said);
}

-- a word that is right, before others that are
pub right_next : (free : Bool) (decls : List Decl) (said : List Arg) (s : Slot) (word : List ℕ) (arg : Arg) (parts : List Placed) (all : List Arg)
    → IsRight free decls (size_said decls said) s word arg → AreRight free decls (said ++ arg ∷ []) parts all → AreRight free decls said (placed s word ∷ parts) all
right_next free decls said s word arg parts all first others =
    let size = size_with decls said (placed s word ∷ parts) in
    let same : size_with decls (said ++ arg ∷ []) parts ≡ size = size_next decls said arg s word parts first.says in record {
      spelled = and_from (is_spelled_in s word) (list_all part_is_spelled parts) first.spelled others.spelled;
      in_range = and_from (is_in_range size s word) (each_in_range size parts) (in_range_next decls said s word parts ∙ first.in_range) (ap (λ n. each_in_range n parts) (sym same) ∙ others.in_range);
      named = and_from (is_well_named free decls s word) (each_well_named free decls parts) first.named others.named;
      more = arg ∷ others.more;
      saying = ap (option_and_then (λ x. option_map (λ xs. x ∷ xs) (args_of decls parts))) first.says ∙ ap (option_map (λ xs. arg ∷ xs)) others.saying;
      joined = others.joined ∙ append_assoc said (arg ∷ []) others.more;
    }

-- a word that is read, before others that are right
pub right_said : (free : Bool) (decls : List Decl) (said said_next : List Arg) (s : Slot) (word : List ℕ) (parts : List Placed) (all : List Arg)
    → Says free decls said s word said_next → AreRight free decls said_next parts all → AreRight free decls said (placed s word ∷ parts) all
right_said free decls said said_next s word parts all first others =
    right_next free decls said s word first.arg parts all first.right (subst (λ xs. AreRight free decls xs parts all) first.joined others)

-- a word that is read, and no other
pub right_alone : (free : Bool) (decls : List Decl) (said all : List Arg) (s : Slot) (word : List ℕ) → Says free decls said s word all → AreRight free decls said (placed s word ∷ []) all
right_alone free decls said all s word one = right_said free decls said all s word [] all one (right_none free decls all)

-- no word is left, where none may be
pub nothing_left : (free : Bool) (decls : List Decl) (said : List Arg) (words : List (List ℕ)) → words ≡ [] → (rest_fits Nothing words ≡ true) × AreRight free decls said (rest_parts Nothing words) said
nothing_left free decls said words none = (ap (rest_fits Nothing) none, right_none free decls said)

-- nor where one may be
pub maybe_none : (free : Bool) (decls : List Decl) (said : List Arg) (s : Slot) (words : List (List ℕ)) → words ≡ [] → (rest_fits (Maybe s) words ≡ true) × AreRight free decls said (rest_parts (Maybe s) words) said
maybe_none free decls said s words none =
    (ap (rest_fits (Maybe s)) none, subst (λ ws. AreRight free decls said (rest_parts (Maybe s) ws) said) (sym none) (right_none free decls said))

-- or the one is there
pub maybe_last : (free : Bool) (decls : List Decl) (said all : List Arg) (s : Slot) (word : List ℕ) (words left : List (List ℕ)) → words ≡ word ∷ left → left ≡ [] → Says free decls said s word all
    → (rest_fits (Maybe s) words ≡ true) × AreRight free decls said (rest_parts (Maybe s) words) all
maybe_last free decls said all s word words left is none one =
    let alone : words ≡ word ∷ [] = is ∙ ap (λ ws. word ∷ ws) none in
    (ap (rest_fits (Maybe s)) alone, subst (λ ws. AreRight free decls said (rest_parts (Maybe s) ws) all) (sym alone) (right_alone free decls said all s word one))

-- words are read from the left as far as these slots and words are left, and say so much
pub record IsSaidTo (free : Bool) (decls : List Decl) (rest : Rest) (all_slots : List Slot) (all_words : List (List ℕ)) (before : List Arg) (slots : List Slot) (words : List (List ℕ)) (said : List Arg) : Type 0 where
  pub fitting : fits all_slots rest all_words ≡ fits slots rest words
  pub behind : (all : List Arg) → AreRight free decls said (parts_of slots rest words) all → AreRight free decls before (parts_of all_slots rest all_words) all

-- slots of which one is left begin with it
pub first_slot : (slots : List Slot) → 1 ≤ length slots → slots ≡ get_or slots 0 slot.New ∷ take (length slots - 1) (drop 1 slots)
first_slot [] some = absurd (omega (arith, some))
first_slot (s ∷ slots) some = ap (λ more. s ∷ more) (sym (take_rest (s ∷ slots) 1))

-- they are read one word further
pub said_next : (free : Bool) (decls : List Decl) (rest : Rest) (all_slots : List Slot) (all_words : List (List ℕ)) (before : List Arg) (slots : List Slot) (words : List (List ℕ)) (said : List Arg)
    (s : Slot) (more : List Slot) (word : List ℕ) (left : List (List ℕ)) (after : List Arg) → IsSaidTo free decls rest all_slots all_words before slots words said → slots ≡ s ∷ more → words ≡ word ∷ left
    → Says free decls said s word after → IsSaidTo free decls rest all_slots all_words before more left after
said_next free decls rest all_slots all_words before slots words said s more word left after held slot_is word_is one =
    let now = subst (λ ws. IsSaidTo free decls rest all_slots all_words before (s ∷ more) ws said) word_is (subst (λ ss. IsSaidTo free decls rest all_slots all_words before ss words said) slot_is held) in record {
      fitting = now.fitting;
      behind = λ all others. now.behind all (right_said free decls said after s word (parts_of more rest left) all one others);
    }

-- to the end of the slots
pub said_last : (free : Bool) (decls : List Decl) (rest : Rest) (all_slots : List Slot) (all_words : List (List ℕ)) (before : List Arg) (slots : List Slot) (words : List (List ℕ)) (said : List Arg) (same : Rest) (all : List Arg)
    → IsSaidTo free decls rest all_slots all_words before slots words said → slots ≡ [] → same ≡ rest → (rest_fits same words ≡ true) × AreRight free decls said (rest_parts same words) all
    → (fits all_slots rest all_words ≡ true) × AreRight free decls before (parts_of all_slots rest all_words) all
said_last free decls rest all_slots all_words before slots words said same all held none is last =
    let now = subst (λ ss. IsSaidTo free decls rest all_slots all_words before ss words said) none held in
    let end = subst (λ r. (rest_fits r words ≡ true) × AreRight free decls said (rest_parts r words) all) is last in (now.fitting ∙ end.0, now.behind all end.1)

-- events are read as far as these are left, and one of those before asks for something or doesn't
pub record AreSaidTo (free : Bool) (decls : List Decl) (all_words : List (List ℕ)) (before : List Arg) (words : List (List ℕ)) (said : List Arg) (asking : Bool) : Type 0 where
  pub asked : (asking || list_any asks words) ≡ list_any asks all_words
  pub behind : (all : List Arg) → AreRight free decls said (map (placed slot.Event) words) all → AreRight free decls before (map (placed slot.Event) all_words) all

or_onward : (a b c : Bool) → ((a || b) || c) ≡ (a || (b || c))
or_onward true b c = refl
or_onward false b c = refl

-- they are read one further
pub events_next : (free : Bool) (decls : List Decl) (all_words : List (List ℕ)) (before : List Arg) (words : List (List ℕ)) (said : List Arg) (asking : Bool) (word : List ℕ) (left : List (List ℕ)) (after : List Arg) (now : Bool)
    → AreSaidTo free decls all_words before words said asking → words ≡ word ∷ left → Says free decls said slot.Event word after → now ≡ (asking || asks word) → AreSaidTo free decls all_words before left after now
events_next free decls all_words before words said asking word left after now held is one asked =
    let here = subst (λ ws. AreSaidTo free decls all_words before ws said asking) is held in record {
      asked = ap (λ b. b || list_any asks left) asked ∙ or_onward asking (asks word) (list_any asks left) ∙ here.asked;
      behind = λ all others. here.behind all (right_said free decls said after slot.Event word (map (placed slot.Event) left) all one others);
    }

or_nothing : (a : Bool) → a ≡ true → (a || false) ≡ true
or_nothing true e = refl
or_nothing false e = absurd (cc)

-- to the last
pub events_last : (free : Bool) (decls : List Decl) (all_words : List (List ℕ)) (before : List Arg) (words : List (List ℕ)) (said : List Arg) (asking : Bool)
    → AreSaidTo free decls all_words before words said asking → words ≡ [] → asking ≡ true → (list_any asks all_words ≡ true) × AreRight free decls before (map (placed slot.Event) all_words) said
events_last free decls all_words before words said asking held is asked =
    let here = subst (λ ws. AreSaidTo free decls all_words before ws said asking) is held in
    (sym here.asked ∙ or_nothing asking asked, here.behind said (right_none free decls said))

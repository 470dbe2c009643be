-- A line that is read word by word, with the size of its messages.
use Rattle.std.proofs.Common.{◌≡◌, ℕ, Bool, true, ◌&&◌, List, [], ◌∷◌, ◌++◌, Option, Some, None, Ok, refl, sym, ap, subst, ◌∙◌, append_assoc}
use Rattle.std.specs.Prelude.{option_map, option_and_then}
use Rattle.std.specs.List.{list_all}
use Rattle.std.proofs.lemmas.Bool.{and_parts}
use Rattle.zk_words.specs.declared.slot.Slot.{Slot}
use Rattle.zk_words.specs.declared.slot.Slot.TheVariants as slot
use Rattle.zk_words.specs.Hex.{msg_of}
use Rattle.zk_words.specs.Parts.{Placed, placed}
use Rattle.zk_words.specs.Spelled.{is_spelled_in, part_is_spelled}
use Rattle.zk_line.specs.declared.types.Decl.{Decl}
use Rattle.zk_line.specs.declared.types.Arg.{Arg}
use Rattle.zk_line.specs.declared.types.Arg.TheVariants.{Bytes}
use Rattle.zk_line.specs.Args.{arg_of, args_of}
use Rattle.zk_line.specs.Checks.{size_named, size_said, message_size, is_in_range, each_in_range, is_well_named, each_well_named}
use Rattle.zk_line.specs.Right.{size_with}
use Rattle.zk_line.specs.Weights.{Weighs}

no_size : (decls : List Decl) (message : Option (List ℕ)) → option_and_then (size_named decls) (option_map Bytes message) ≡ None
no_size decls None = refl
no_size decls (Some message) = refl

-- a message that stands first has no size of its own
first_in_range : (decls : List Decl) (s : Slot) (word : List ℕ) → is_in_range (option_and_then (size_named decls) (arg_of decls s word)) s word ≡ is_in_range None s word
first_in_range decls slot.Hex word = ap (λ size. is_in_range size slot.Hex word) (no_size decls (msg_of word))
first_in_range decls slot.New word = refl
first_in_range decls slot.Owner word = refl
first_in_range decls (slot.Object need) word = refl
first_in_range decls slot.Rawable word = refl
first_in_range decls (slot.Number least most) word = refl
first_in_range decls slot.Priority word = refl
first_in_range decls (slot.Either choice) word = refl
first_in_range decls slot.Wait word = refl
first_in_range decls slot.Event word = refl
first_in_range decls slot.Valid word = refl
first_in_range decls slot.Raw word = refl

-- so the next word is in range as what was said before it asks
pub in_range_next : (decls : List Decl) (args : List Arg) (s : Slot) (word : List ℕ) (parts : List Placed)
    → is_in_range (size_with decls args (placed s word ∷ parts)) s word ≡ is_in_range (size_said decls args) s word
in_range_next decls [] s word parts = first_in_range decls s word
in_range_next decls (arg ∷ args) s word parts = refl

pub size_next : (decls : List Decl) (args : List Arg) (arg : Arg) (s : Slot) (word : List ℕ) (parts : List Placed) → arg_of decls s word ≡ Some arg
    → size_with decls (args ++ arg ∷ []) parts ≡ size_with decls args (placed s word ∷ parts)
size_next decls [] arg s word parts said = sym (ap (option_and_then (size_named decls)) said)
size_next decls (first ∷ args) arg s word parts said = refl

said_next : (args : List Arg) (arg : Arg) (more : Option (List Arg)) → option_map (λ xs. args ++ xs) (option_map (λ xs. arg ∷ xs) more) ≡ option_map (λ xs. args ++ arg ∷ [] ++ xs) more
said_next args arg None = refl
said_next args arg (Some xs) = ap Some (sym (append_assoc args (arg ∷ []) xs))

-- a line is read as far as these parts are left, and nothing speaks against the words before them, which say these
pub record IsReadTo (free : Bool) (decls : List Decl) (whole : List Placed) (args : List Arg) (parts : List Placed) : Type 0 where
  pub spelled : list_all part_is_spelled parts ≡ true
  pub sized : message_size decls whole ≡ size_with decls args parts
  pub in_range : each_in_range (message_size decls whole) whole ≡ each_in_range (message_size decls whole) parts
  pub named : each_well_named free decls whole ≡ each_well_named free decls parts
  pub said : args_of decls whole ≡ option_map (λ more. args ++ more) (args_of decls parts)

-- it is read one word further
pub read_next : (free : Bool) (decls : List Decl) (whole : List Placed) (args after : List Arg) (parts left : List Placed) (s : Slot) (word : List ℕ) (arg : Arg)
    → IsReadTo free decls whole args parts → parts ≡ placed s word ∷ left → Weighs (is_in_range (size_said decls args) s word) (is_well_named free decls s word) (arg_of decls s word) (Ok arg)
    → after ≡ args ++ arg ∷ [] → IsReadTo free decls whole after left
read_next free decls whole args after parts left s word arg held is weighed same =
    let size = message_size decls whole in
    let now = subst (λ ps. IsReadTo free decls whole args ps) is held in
    let in_range : is_in_range size s word ≡ true = ap (λ n. is_in_range n s word) now.sized ∙ in_range_next decls args s word left ∙ weighed.0 in
    subst (λ xs. IsReadTo free decls whole xs left) (sym same)
    (record {
      spelled = (and_parts (is_spelled_in s word) (list_all part_is_spelled left) now.spelled).1;
      sized = now.sized ∙ sym (size_next decls args arg s word left weighed.2);
      in_range = now.in_range ∙ ap (λ b. b && each_in_range size left) in_range;
      named = now.named ∙ ap (λ b. b && each_well_named free decls left) weighed.1;
      said = now.said ∙ ap (λ o. option_map (λ xs. args ++ xs) (option_and_then (λ x. option_map (λ xs. x ∷ xs) (args_of decls left)) o)) weighed.2 ∙ said_next args arg (args_of decls left);
    })

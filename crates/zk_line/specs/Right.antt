-- Inner: no contract of a top call is made of this file.
use Rattle.std.specs.Prelude.{◌≡◌, ℕ, Bool, true, Option, Some, List, [], ◌∷◌, ◌++◌}
use Rattle.std.specs.List.{list_all}
use Rattle.zk_words.specs.declared.slot.Slot.{Slot}
use Rattle.zk_words.specs.Parts.{Placed}
use Rattle.zk_words.specs.Spelled.{is_spelled_in, part_is_spelled}
use Rattle.zk_line.specs.declared.types.Arg.{Arg}
use Rattle.zk_line.specs.declared.types.Decl.{Decl}
use Rattle.zk_line.specs.Args.{arg_of, args_of}
use Rattle.zk_line.specs.Checks.{size_named, size_said, message_size, is_in_range, each_in_range, is_well_named, each_well_named}

-- the size of a line's messages, where its first words say these and the others follow
abbrev pub size_with : List Decl → List Arg → List Placed → Option ℕ
size_with decls [] parts = message_size decls parts
size_with decls (arg ∷ args) parts = size_named decls arg

-- a word is right in its slot, in a line whose messages have so many bytes, and says this
pub record IsRight (free : Bool) (decls : List Decl) (size : Option ℕ) (slot : Slot) (word : List ℕ) (arg : Arg) : Type 0 where
  pub spelled : is_spelled_in slot word ≡ true
  pub in_range : is_in_range size slot word ≡ true
  pub named : is_well_named free decls slot word ≡ true
  pub says : arg_of decls slot word ≡ Some arg

-- each word is right in its slot, behind words that say these, and with it all words say so much
pub record AreRight (free : Bool) (decls : List Decl) (said : List Arg) (parts : List Placed) (all : List Arg) : Type 0 where
  pub spelled : list_all part_is_spelled parts ≡ true
  pub in_range : each_in_range (size_with decls said parts) parts ≡ true
  pub named : each_well_named free decls parts ≡ true
  pub more : List Arg
  pub saying : args_of decls parts ≡ Some more
  pub joined : all ≡ said ++ more

-- a word is read: it is right in its slot, behind words that say these, and with it they say this
pub record Says (free : Bool) (decls : List Decl) (said : List Arg) (slot : Slot) (word : List ℕ) (all : List Arg) : Type 0 where
  pub arg : Arg
  pub right : IsRight free decls (size_said decls said) slot word arg
  pub joined : all ≡ said ++ arg ∷ []

use Rattle.std.specs.Prelude.{ℕ, Option, Some, None, List}
use Rattle.zk_line.specs.declared.types.Decl.{Decl}
use Rattle.zk_line.specs.declared.types.Ref.{Ref}
use Rattle.zk_line.specs.declared.types.Ref.TheVariants.{Known, Unknown}
use Rattle.zk_worker.specs.declared.refs.TheConstants.{NO_OBJECT}
use Rattle.zk_line.specs.Objects.{number_of}

-- the object number of an object that a call names; a name that no object has has a number that none has
abbrev pub ref_object : Ref → ℕ
ref_object (Known object) = object
ref_object (Unknown name) = NO_OBJECT

-- the object number of an object that a call names, if it is declared
abbrev pub ref_declared : Ref → Option ℕ
ref_declared (Known object) = Some object
ref_declared (Unknown name) = None

-- an object that a call names, by its number among those of its kind
abbrev pub ref_number : List Decl → Ref → ℕ
ref_number decls object = number_of decls (ref_object object)

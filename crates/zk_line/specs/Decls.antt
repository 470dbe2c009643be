use Rattle.std.specs.Prelude.{ℕ, Bool, true, false, List, [], ◌∷◌, length, map, Option, None, Some, option_map}
use Rattle.zk_words.specs.declared.slot.Choice.TheVariants.{Mode, State}
use Rattle.zk_base.specs.declared.kinds.Kind.{Kind}
use Rattle.zk_base.specs.declared.kinds.Kind.TheVariants as kind
use Rattle.zk_line.specs.declared.types.Decl.{Decl}
use Rattle.zk_line.specs.declared.types.Decl.TheVariants as decl
use Rattle.zk_line.specs.declared.types.Arg.{Arg}
use Rattle.zk_line.specs.declared.types.Arg.TheVariants.{Name, Number, Priority, Truth, Object, Bytes, Valid, Raw}
use Rattle.zk_line.specs.declared.types.Ref.TheVariants.{Known}
use Rattle.zk_line.specs.declared.decls.Channel.{Channel}
use Rattle.zk_line.specs.Objects.{kind_of}
use Rattle.zk_line.specs.Shapes.{as_name, as_number, as_priority, as_truth, as_known, one, two, three, one_raw, three_raw, channel_parts}

-- the declaration of a kind and what stands behind it
abbrev pub decl_of : Kind → List Arg → Option Decl
decl_of kind.Thread args = option_map (λ p. decl.Thread p.0 p.1 p.2) (three as_name as_priority (as_truth Mode) args)
decl_of kind.Queue args = option_map (λ p. decl.Queue p.0 p.1 p.2) (three as_name as_priority (as_truth State) args)
decl_of kind.Item args = option_map decl.Item (one as_name args)
decl_of kind.Sem args = option_map (λ p. decl.Sem p.0 p.1 p.2 p.3) (three_raw as_name as_number as_number args)
decl_of kind.Msgq args = option_map (λ p. decl.Msgq p.0 p.1 p.2 p.3) (three_raw as_name as_number as_number args)
decl_of kind.Signal args = option_map (λ p. decl.Signal p.0 p.1) (one_raw as_name args)
decl_of kind.Listener args = option_map decl.Listener (one as_name args)
decl_of kind.Sub args = option_map (λ p. decl.Sub p.0 p.1) (two as_name as_number args)
decl_of kind.Chan args = option_map (λ p. decl.Chan p.0 p.1 p.2 p.3) (channel_parts args)

-- objects as they are written
abbrev pub objects_said : List ℕ → List Arg
objects_said objects = map (λ object. Object (Known object)) objects

-- `raw` as it is written, where it is
abbrev pub raw_said : Bool → List Arg
raw_said true = Raw ∷ []
raw_said false = []

-- how a declaration is written, behind its kind
abbrev pub decl_args : Decl → List Arg
decl_args (decl.Thread name prio user) = Name name ∷ Priority prio ∷ Truth Mode user ∷ []
decl_args (decl.Queue name prio on) = Name name ∷ Priority prio ∷ Truth State on ∷ []
decl_args (decl.Item name) = Name name ∷ []
decl_args (decl.Sem name initial limit raw) = Name name ∷ Number initial ∷ Number limit ∷ raw_said raw
decl_args (decl.Msgq name size capacity raw) = Name name ∷ Number size ∷ Number capacity ∷ raw_said raw
decl_args (decl.Signal name raw) = Name name ∷ raw_said raw
decl_args (decl.Listener name) = Name name ∷ []
decl_args (decl.Sub name capacity) = Name name ∷ Number capacity ∷ []
decl_args (decl.Chan name message valid observers) =
    Name name ∷ Number (length message) ∷ Bytes message ∷ Valid valid ∷ objects_said observers

-- what stands behind the name of a channel, where there is one
abbrev pub channel_said : Option Channel → List Arg
channel_said None = []
channel_said (Some channel) =
    Number (length channel.message) ∷ Bytes channel.message ∷ Valid channel.valid ∷ objects_said channel.observers

-- a declaration as it is written: its kind, and what stands behind that
pub record Written : Type 0 where
  pub kind : Kind
  pub args : List Arg

-- a kind and what stands behind it
abbrev pub written : Kind → List Arg → Written
written kind args = record { kind = kind; args = args }

-- how a declaration is written
abbrev pub written_of : Decl → Written
written_of decl = written (kind_of decl) (decl_args decl)

-- the thread and the object that a permission is of, by what stands behind `allow`
abbrev pub permission_of : List Arg → Option (ℕ × ℕ)
permission_of args = two as_known as_known args

-- how a permission is written
abbrev pub permission_said : ℕ → ℕ → List Arg
permission_said thread object = Object (Known thread) ∷ Object (Known object) ∷ []

use Rattle.std.specs.Prelude.{◌≡◌, ℕ, Bool, true, false, ◌==◌, ◌&&◌, ◌⊎◌, Some, None, List, ◌∷◌, ◌++◌, slice_get}
use Rattle.zk_base.specs.declared.ids.Who.{Who}
use Rattle.zk_base.specs.declared.ids.Entry.{Entry}
use Rattle.zk_base.specs.History.{IsEntry}
use Rattle.zk_base.specs.Legal.{state_after, IsLegal}
use Rattle.zk_base.specs.declared.kinds.Kind.{Kind}
use Rattle.zk_base.specs.declared.kinds.Need.{Need}
use Rattle.zk_model_bus.specs.declared.table.OopsWhy.{OopsWhy}
use Rattle.zk_model_bus.specs.declared.table.OopsWhy.TheVariants.{NoObject, WrongKind, NotGranted, NotInit}
use Rattle.zk_model_bus.specs.declared.table.TableOp.{TableOp}
use Rattle.zk_model_bus.specs.declared.table.TableOp.TheVariants as ops
use Rattle.zk_model_bus.specs.declared.table.TableReply.{TableReply}
use Rattle.zk_model_bus.specs.declared.table.TableReply.TheVariants.{Done, Already, Oops}
use Rattle.zk_model_bus.specs.Table.{Setup, new_table, is_thread, is_declared, begins_ready, begins_as_user, table_reply, table_machine}
use Rattle.zk_base.specs.Kinds.{meets, is_any}

-- a history of the object table
abbrev pub TableHistory : Type 0
TableHistory = List (Entry TableOp TableReply)

-- it holds of each legal history of each table, whatever is declared
abbrev pub OfEachTable : (Setup → TableHistory → Type 0) → Type 0
OfEachTable P = (setup : Setup) (h : TableHistory) → IsLegal table_machine (new_table setup) h → P setup h

-- an operation of this player speaks of the permission of a player on an object
abbrev pub speaks_of : Setup → ℕ → ℕ → ℕ → TableOp → Bool
speaks_of setup player object by (ops.Grant thread own) = is_thread setup player thread && own == object
speaks_of setup player object by (ops.Revoke thread own) = is_thread setup player thread && own == object
speaks_of setup player object by (ops.Release own) = by == player && own == object
speaks_of setup player object by op = false

-- the entry does
abbrev pub Speaks : Setup → ℕ → ℕ → Entry TableOp TableReply → Type 0
Speaks setup player object e = speaks_of setup player object e.who.number e.op ≡ true

-- the operation is a grant
abbrev pub is_grant : TableOp → Bool
is_grant (ops.Grant thread object) = true
is_grant op = false

-- no entry of the history speaks of it
abbrev pub Unspoken : Setup → ℕ → ℕ → TableHistory → Type 0
Unspoken setup player object h = (front : TableHistory) (e : Entry TableOp TableReply) → IsEntry h front e →
    Speaks setup player object e → ⊥

-- the last entry that speaks of it is a grant
pub record GrantedLast (setup : Setup) (player object : ℕ) (h : TableHistory) : Type 0 where
  pub front : TableHistory
  pub e : Entry TableOp TableReply
  pub rest : TableHistory
  pub whole : h ≡ front ++ e ∷ rest
  pub speaks : Speaks setup player object e
  pub grant : is_grant e.op ≡ true
  pub last : Unspoken setup player object rest

-- the last word on the permission grants it: that of the entries, or of the declarations where no entry speaks of it
abbrev pub IsGranted : Setup → ℕ → ℕ → TableHistory → Type 0
IsGranted setup player object h =
    GrantedLast setup player object h ⊎ ((is_declared setup player object ≡ true) × Unspoken setup player object h)

-- an entry of the history makes the object public
abbrev pub IsPublic : ℕ → TableHistory → Type 0
IsPublic object h = (front : TableHistory) × (e : Entry TableOp TableReply) × IsEntry h front e ×
    (e.op ≡ ops.Public object)

-- an entry of the history initialises the object
abbrev pub WasInitialised : ℕ → TableHistory → Type 0
WasInitialised object h = (front : TableHistory) × (e : Entry TableOp TableReply) × IsEntry h front e ×
    (e.op ≡ ops.Init object)

-- the object is declared initialised, or an entry initialises it
abbrev pub IsReady : Setup → ℕ → TableHistory → Type 0
IsReady setup object h = (begins_ready setup object ≡ true) ⊎ WasInitialised object h

-- the player is declared a user, or an entry of its own makes it one
abbrev pub IsUser : Setup → ℕ → TableHistory → Type 0
IsUser setup player h = (begins_as_user setup player ≡ true) ⊎
    ((front : TableHistory) × (e : Entry TableOp TableReply) × IsEntry h front e ×
    (e.who.number ≡ player) × (e.op ≡ ops.EnterUser))

-- a check of the player is answered an oops
abbrev pub HasOops : ℕ → TableHistory → Type 0
HasOops player h = (front : TableHistory) × (e : Entry TableOp TableReply) × (why : OopsWhy) × IsEntry h front e ×
    (e.who.number ≡ player) × (e.reply ≡ Oops why)

-- the operation is a check
abbrev pub is_check : TableOp → Bool
is_check (ops.Check object need) = true
is_check op = false

-- the operation is a grant or a release, which users and supervisors may make
abbrev pub is_for_all : TableOp → Bool
is_for_all (ops.Grant thread object) = true
is_for_all (ops.Release object) = true
is_for_all op = false

-- the operation is for supervisors alone
abbrev pub is_for_supervisors : TableOp → Bool
is_for_supervisors (ops.Revoke thread object) = true
is_for_supervisors (ops.Public object) = true
is_for_supervisors (ops.Init object) = true
is_for_supervisors ops.EnterUser = true
is_for_supervisors op = false

-- the operation can be answered in one way alone
abbrev pub is_just_done : TableOp → Bool
is_just_done (ops.Check object need) = false
is_just_done (ops.Init object) = false
is_just_done op = true

-- the reply is one that a check can have: it is passed, or an oops
abbrev pub IsOfCheck : TableReply → Type 0
IsOfCheck reply = (reply ≡ Done) ⊎ ((why : OopsWhy) × (reply ≡ Oops why))

-- the operation is possible for the player after the history
abbrev pub IsPossible : Setup → TableHistory → Who → TableOp → Type 0
IsPossible setup h who op =
    (reply : TableReply) × (table_reply (state_after table_machine (new_table setup) h) who op ≡ Some reply)

-- Each of what follows is said of one history, and of what was declared.

-- a check finds no object just where it names none
pub record NoObjectExactly (setup : Setup) (h : TableHistory) : Type 0 where
  pub none : (front : TableHistory) (e : Entry TableOp TableReply) (need : Need) → IsEntry h front e →
      e.op ≡ ops.Check None need → e.reply ≡ Oops NoObject
  pub some : (front : TableHistory) (e : Entry TableOp TableReply) (object : ℕ) (need : Need) → IsEntry h front e →
      e.op ≡ ops.Check (Some object) need → e.reply ≡ Oops NoObject → ⊥

-- a check of an object finds the wrong kind just where the kind doesn't meet the need, whatever else is missing
pub record WrongKindFirst (setup : Setup) (h : TableHistory) : Type 0 where
  pub wrong : (front : TableHistory) (e : Entry TableOp TableReply) (object : ℕ) (need : Need) (kind : Kind) →
      IsEntry h front e → e.op ≡ ops.Check (Some object) need → slice_get setup.kinds object ≡ Some kind →
      meets need kind ≡ false → e.reply ≡ Oops WrongKind
  pub right : (front : TableHistory) (e : Entry TableOp TableReply) (object : ℕ) (need : Need) (kind : Kind) →
      IsEntry h front e → e.op ≡ ops.Check (Some object) need → slice_get setup.kinds object ≡ Some kind →
      meets need kind ≡ true → e.reply ≡ Oops WrongKind → ⊥

-- what was granted last is granted
abbrev pub GrantStands : Setup → TableHistory → Type 0
GrantStands setup h = (front : TableHistory) (e : Entry TableOp TableReply) (object : ℕ) (need : Need) →
    IsEntry h front e → e.op ≡ ops.Check (Some object) need → IsGranted setup e.who.number object front →
    e.reply ≡ Oops NotGranted → ⊥

-- what was made public is granted to all, whatever came since
abbrev pub PublicForGood : Setup → TableHistory → Type 0
PublicForGood setup h = (front : TableHistory) (e : Entry TableOp TableReply) (object : ℕ) (need : Need) →
    IsEntry h front e → e.op ≡ ops.Check (Some object) need → IsPublic object front → e.reply ≡ Oops NotGranted → ⊥

-- where the last word grants nothing and the object isn't public no check is passed, and none comes to the test after
pub record NoneWithoutAGrant (setup : Setup) (h : TableHistory) : Type 0 where
  pub passed : (front : TableHistory) (e : Entry TableOp TableReply) (object : ℕ) (need : Need) → IsEntry h front e →
      e.op ≡ ops.Check (Some object) need → (IsGranted setup e.who.number object front → ⊥) →
      (IsPublic object front → ⊥) → e.reply ≡ Done → ⊥
  pub next : (front : TableHistory) (e : Entry TableOp TableReply) (object : ℕ) (need : Need) → IsEntry h front e →
      e.op ≡ ops.Check (Some object) need → (IsGranted setup e.who.number object front → ⊥) →
      (IsPublic object front → ⊥) → e.reply ≡ Oops NotInit → ⊥

-- an object that was initialised stays so, and nobody asks for it where any object will do
pub record ReadyForGood (setup : Setup) (h : TableHistory) : Type 0 where
  pub ready : (front : TableHistory) (e : Entry TableOp TableReply) (object : ℕ) (need : Need) → IsEntry h front e →
      e.op ≡ ops.Check (Some object) need → IsReady setup object front → e.reply ≡ Oops NotInit → ⊥
  pub any : (front : TableHistory) (e : Entry TableOp TableReply) (object : ℕ) (need : Need) → IsEntry h front e →
      e.op ≡ ops.Check (Some object) need → is_any need ≡ true → e.reply ≡ Oops NotInit → ⊥

-- no check of an object that isn't initialised is passed, unless any object will do
abbrev pub NoneBeforeInit : Setup → TableHistory → Type 0
NoneBeforeInit setup h = (front : TableHistory) (e : Entry TableOp TableReply) (object : ℕ) (need : Need) →
    IsEntry h front e → e.op ≡ ops.Check (Some object) need → is_any need ≡ false →
    (IsReady setup object front → ⊥) → e.reply ≡ Done → ⊥

-- an object is initialised once: the first who asks for it has done it, and all later are told that it is already
pub record InitDoneOnce (setup : Setup) (h : TableHistory) : Type 0 where
  pub done : (front : TableHistory) (e : Entry TableOp TableReply) (object : ℕ) → IsEntry h front e →
      e.op ≡ ops.Init object → (IsReady setup object front → ⊥) → e.reply ≡ Done
  pub already : (front : TableHistory) (e : Entry TableOp TableReply) (object : ℕ) → IsEntry h front e →
      e.op ≡ ops.Init object → IsReady setup object front → e.reply ≡ Already

-- a check is passed or an oops, and the operations that aren't a check or an init are done
pub record IsAnswered (setup : Setup) (h : TableHistory) : Type 0 where
  pub check : (front : TableHistory) (e : Entry TableOp TableReply) → IsEntry h front e → is_check e.op ≡ true →
      IsOfCheck e.reply
  pub done : (front : TableHistory) (e : Entry TableOp TableReply) → IsEntry h front e → is_just_done e.op ≡ true →
      e.reply ≡ Done

-- an oops is the last entry of its player
abbrev pub DeadMakesNoEntry : Setup → TableHistory → Type 0
DeadMakesNoEntry setup h = (front : TableHistory) (e : Entry TableOp TableReply) → IsEntry h front e →
    HasOops e.who.number front → ⊥

-- checks are made by users alone
abbrev pub UsersAreChecked : Setup → TableHistory → Type 0
UsersAreChecked setup h = (front : TableHistory) (e : Entry TableOp TableReply) → IsEntry h front e →
    is_check e.op ≡ true → IsUser setup e.who.number front

-- a user stays one: it revokes nothing, makes nothing public, initialises nothing and doesn't enter again
abbrev pub UserForGood : Setup → TableHistory → Type 0
UserForGood setup h = (front : TableHistory) (e : Entry TableOp TableReply) → IsEntry h front e →
    is_for_supervisors e.op ≡ true → IsUser setup e.who.number front → ⊥

-- what a player without an oops may do: grants and releases all of them, checks a user, all else who isn't one
pub record LivingMay (setup : Setup) (h : TableHistory) : Type 0 where
  pub all : (who : Who) (op : TableOp) → (HasOops who.number h → ⊥) → is_for_all op ≡ true → IsPossible setup h who op
  pub user : (who : Who) (op : TableOp) → (HasOops who.number h → ⊥) → IsUser setup who.number h →
      is_check op ≡ true → IsPossible setup h who op
  pub supervisor : (who : Who) (op : TableOp) → (HasOops who.number h → ⊥) → (IsUser setup who.number h → ⊥) →
      is_for_supervisors op ≡ true → IsPossible setup h who op

-- the laws of the object table: its checks, who may use what, what is initialised, and who may do what
pub record KeepsTableLaws (setup : Setup) (h : TableHistory) : Type 0 where
  pub no_object : NoObjectExactly setup h
  pub wrong_kind : WrongKindFirst setup h
  pub stands : GrantStands setup h
  pub public : PublicForGood setup h
  pub none : NoneWithoutAGrant setup h
  pub ready : ReadyForGood setup h
  pub before : NoneBeforeInit setup h
  pub once : InitDoneOnce setup h
  pub answered : IsAnswered setup h
  pub dead : DeadMakesNoEntry setup h
  pub checked : UsersAreChecked setup h
  pub user : UserForGood setup h
  pub living : LivingMay setup h

-- A wrong channel, a wrong subscriber and a wrong object table. Of each a short history that it lets stand, and the law that is
-- false of it.
use Rattle.std.proofs.Common.{◌≡◌, refl, arith}
use Rattle.std.specs.Prelude.{ℕ, ◌+◌, true, false, not, ◌||◌, nat_lt, if◌then◌else◌, Option, Some, None, [], ◌∷◌, ◌++◌, drop, length}
use Rattle.zk_base.specs.declared.ids.Who.{Who}
use Rattle.zk_base.specs.declared.kinds.Kind.TheVariants as kinds
use Rattle.zk_base.specs.declared.kinds.Need.TheVariants as needs
use Rattle.zk_base.specs.declared.validator.Valid.TheVariants as valids
use Rattle.zk_base.specs.History.{entry}
use Rattle.zk_base.specs.Legal.{Machine, Replays}
use Rattle.zk_model_bus.specs.declared.channel.ChanOp.{ChanOp}
use Rattle.zk_model_bus.specs.declared.channel.ChanOp.TheVariants as chans
use Rattle.zk_model_bus.specs.declared.channel.ChanReply.{ChanReply}
use Rattle.zk_model_bus.specs.declared.channel.ChanReply.TheVariants.{Got, Busy, Wait, Done}
use Rattle.zk_model_bus.specs.declared.channel.Manner.TheVariants as manners
use Rattle.zk_model_bus.specs.declared.observer.ObsOp.{ObsOp}
use Rattle.zk_model_bus.specs.declared.observer.ObsOp.TheVariants as visits
use Rattle.zk_model_bus.specs.declared.observer.ObsReply.{ObsReply}
use Rattle.zk_model_bus.specs.declared.observer.ObsReply.TheVariants.{Pushed, Full}
use Rattle.zk_model_bus.specs.declared.observer.ObsReply.TheVariants as seen
use Rattle.zk_model_bus.specs.declared.table.TableOp.{TableOp}
use Rattle.zk_model_bus.specs.declared.table.TableOp.TheVariants as table
use Rattle.zk_model_bus.specs.declared.table.TableReply.{TableReply}
use Rattle.zk_model_bus.specs.declared.table.TableReply.TheVariants.{Oops}
use Rattle.zk_model_bus.specs.declared.table.OopsWhy.TheVariants.{WrongKind, NotGranted}
use Rattle.zk_model_bus.specs.Channel.{Channel, new_chan, chan_next, chan_machine}
use Rattle.zk_model_bus.specs.ChannelLaws.{ChanHistory, CallWaitsOnlyWhereHeld}
use Rattle.zk_model_bus.specs.Observer.{Observer, new_obs, obs_reply, obs_next, obs_machine}
use Rattle.zk_model_bus.specs.ObserverLaws.{ObsHistory, FullOnlyAtCapacity}
use Rattle.zk_model_bus.specs.Table.{Table, Setup, new_table, table_reply, table_machine, is_allowed, is_public}
use Rattle.zk_model_bus.specs.TableLaws.{TableHistory, WrongKindFirst}
use Rattle.zk_wrong_machines.proofs.Players.{one, other}

-- a channel that is freed for nobody, though somebody waits
abbrev pub next_forgetting : Channel → Who → ChanOp → Channel
next_forgetting c who chans.Free = record c { holder = None; entries = c.entries + 1 }
next_forgetting c who op = chan_next c who op

abbrev pub free_forgets_who_waits : Machine Channel ChanOp ChanReply
free_forgets_who_waits = record chan_machine { next = next_forgetting }

abbrev pub freed_for_nobody : ChanHistory
freed_for_nobody =
    entry one 0 (chans.Enter false) Got
    ∷ entry other 0 (chans.Enter true) Wait
    ∷ entry one 1 chans.Free Done
    ∷ entry one 2 (chans.Enter false) Got
    ∷ []

pub freed_for_nobody-replays : Replays free_forgets_who_waits (new_chan [] valids.Any []) freed_for_nobody
freed_for_nobody-replays = (refl, (refl, (refl, (refl, tt))))

pub freed_for_nobody-refused : CallWaitsOnlyWhereHeld (new_chan [] valids.Any []) freed_for_nobody → ⊥
freed_for_nobody-refused calls =
    let front = entry one 0 (chans.Enter false) Got ∷ entry other 0 (chans.Enter true) Wait ∷ entry one 1 chans.Free Done ∷ [] in
    let last = entry one 2 (chans.Enter false) Got in
    let told = calls front last false (record { rest = []; whole = refl }) refl (λ refused. refused.3) in
    let is : ◌≡◌ {A = ChanReply} Got Busy = told.busy (record { player = 1; manner = manners.Enter }) refl refl in
    cc is

-- a list that is full and drops its first channel for a new one
abbrev pub listed_by_dropping : ℕ → Observer → ℕ → Observer
listed_by_dropping capacity o channel =
    if nat_lt (length o.channels) capacity then record o { channels = o.channels ++ channel ∷ []; entries = o.entries + 1 }
    else record o { channels = drop 1 o.channels ++ channel ∷ []; entries = o.entries + 1 }

abbrev pub next_dropping : Observer → Who → ObsOp → Observer
next_dropping o who (visits.Visit channel) = listed_by_dropping 1 o channel
next_dropping o who op = obs_next o who op

abbrev pub reply_dropping : Observer → Who → ObsOp → Option ObsReply
reply_dropping o who (visits.Visit _) = Some Pushed
reply_dropping o who op = obs_reply o who op

abbrev pub full_list_drops_its_first : Machine Observer ObsOp ObsReply
full_list_drops_its_first = record obs_machine { reply_of = reply_dropping; next = next_dropping }

abbrev pub dropped : ObsHistory
dropped =
    entry one 0 (visits.Visit 4) Pushed
    ∷ entry one 1 (visits.Visit 5) Pushed
    ∷ entry other 0 (visits.Take false) (seen.Channel 5)
    ∷ []

pub dropped-replays : Replays full_list_drops_its_first (new_obs (Some 1)) dropped
dropped-replays = (refl, (refl, (refl, tt)))

pub dropped-refused : FullOnlyAtCapacity (new_obs (Some 1)) dropped → ⊥
dropped-refused full =
    let front = entry one 0 (visits.Visit 4) Pushed ∷ [] in
    let rest = entry other 0 (visits.Take false) (seen.Channel 5) ∷ [] in
    let told = full front (entry one 1 (visits.Visit 5) Pushed) 5 1 (record { rest = rest; whole = refl }) refl refl refl in
    let is : ◌≡◌ {A = ObsReply} Pushed Full = told.full refl (omega arith) in
    cc is

-- a check that asks for the permission before the kind
abbrev pub reply_permission_first : Table → Who → TableOp → Option TableReply
reply_permission_first t who (table.Check (Some object) need) =
    if not (is_allowed t who.number object || is_public t object) then Some (Oops NotGranted)
    else table_reply t who (table.Check (Some object) need)
reply_permission_first t who op = table_reply t who op

abbrev pub tests_the_permission_first : Machine Table TableOp TableReply
tests_the_permission_first = record table_machine { reply_of = reply_permission_first }

-- a user, object 0, and a semaphore, object 1, on which it has no permission
abbrev pub setup : Setup
setup = record {
  kinds = kinds.Thread ∷ kinds.Sem ∷ [];
  ready = true ∷ true ∷ [];
  threads = (0, true) ∷ [];
  allowed = [];
}

abbrev pub checked : TableHistory
checked = entry one 0 (table.Check (Some 1) needs.Msgq) (Oops NotGranted) ∷ []

abbrev pub Checked : Type 0
Checked = Replays tests_the_permission_first (new_table setup) checked × (WrongKindFirst setup checked → ⊥)

pub checked-refused : Checked
checked-refused = (
  (refl, tt),
  λ first.
      let last = entry one 0 (table.Check (Some 1) needs.Msgq) (Oops NotGranted) in
      let is : ◌≡◌ {A = TableReply} (Oops NotGranted) (Oops WrongKind) =
      first.wrong [] last 1 needs.Msgq kinds.Sem (record { rest = []; whole = refl }) refl refl refl in
      cc is,
)

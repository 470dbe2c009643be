-- The replies of an observer are of their operations, and tell channels that are declared.
use Rattle.std.proofs.Common.{◌≡◌, ℕ, Bool, true, false, ◌⊎◌, inl, inr, cond, nat_lt, Option, Some, None, is_some, List, [], ◌∷◌, ◌++◌, length, All, refl, sym, subst}
use Rattle.std.specs.List.{AllByRecursion}
use Rattle.std.proofs.lemmas.List.Elements.{All-nil, All-head, All-tail, All-push}
use Rattle.std.proofs.lemmas.Option.{same_Some, cond_some}
use Rattle.zk_base.specs.declared.ids.Who.{Who}
use Rattle.zk_base.specs.declared.ids.Entry.{Entry}
use Rattle.zk_base.specs.declared.waits.Waiter.{Waiter}
use Rattle.zk_base.specs.Legal.{Replays}
use Rattle.zk_line.specs.declared.types.Decl.{Decl}
use Rattle.zk_line.specs.Objects.{is_chan}
use Rattle.zk_model_bus.specs.declared.observer.ObsOp.{ObsOp}
use Rattle.zk_model_bus.specs.declared.observer.ObsOp.TheVariants as ops
use Rattle.zk_model_bus.specs.declared.observer.ObsReply.{ObsReply}
use Rattle.zk_model_bus.specs.declared.observer.ObsReply.TheVariants.{Off, Pushed, Full, Channel, Again, Done}
use Rattle.zk_model_bus.specs.Observer.{Observer, new_obs, visit_reply, take_reply, obs_reply, listed, visited, taken, obs_changed, obs_next, obs_machine}
use Rattle.zk_trace.specs.declared.obs.Verb.TheVariants as verbs
use Rattle.zk_blocks.specs.Choices.{IsIn}
use Rattle.zk_trace.specs.Fields.{IsOf}
use Rattle.zk_trace.specs.Obs.{said_of}
use Rattle.zk_trace.specs.ObsRead.{IsChannel, FitsOp, AnswersTo}
use Rattle.zk_trace.proofs.DecidedWaits.{DecidedBy, none-decided, first_decided-by, ended-by, quitted-by, decision-by, quit-by}
use Rattle.zk_trace.proofs.Kept.{answers-along}

module _ (decls : List Decl) where
  abbrev Says : ObsOp → ObsReply → Type 0
  Says op r = AnswersTo decls (said_of op).0 r

  record Keeps (o : Observer) : Type 0 where
    channels : All (IsOf is_chan decls) o.channels
    takers : DecidedBy (IsChannel decls) o.takers

  -- A reply.

  visit-says : (o : Observer) (enabled : Bool) (capacity : Option ℕ) (waiting : List (Waiter Unit)) → AnswersTo decls verbs.Visit (cond enabled (visit_reply capacity waiting o) Off)
  visit-says o false capacity waiting = inl (inl refl)
  visit-says o true None waiting = inl (inr (inl refl))
  visit-says o true (Some most) (w ∷ ws) = inl (inr (inr (inl refl)))
  visit-says o true (Some most) [] = by (nat_lt (length o.channels) most) where
    by : (b : Bool) → AnswersTo decls verbs.Visit (cond b Pushed Full)
    by true = inl (inr (inr (inl refl)))
    by false = inl (inr (inr (inr (inl refl))))

  take-says : (channels : List ℕ) (waits : Bool) → All (IsOf is_chan decls) channels → Says (ops.Take waits) (take_reply channels waits)
  take-says (c ∷ cs) waits all = inr (All-head (IsOf is_chan decls) c cs all)
  take-says [] true all = inl (inr (inl refl))
  take-says [] false all = inl (inl refl)

  -- a channel, or that the wait was given up
  abbrev Given : ObsReply → Type 0
  Given r = IsIn r (Again ∷ []) ⊎ IsChannel decls r

  says : (o : Observer) (who : Who) (op : ObsOp) (r : ObsReply) → Keeps o → FitsOp decls op → obs_reply o who op ≡ Some r → Says op r
  says o who (ops.Visit channel) r kept fits is =
      subst (Says (ops.Visit channel)) (same_Some (cond o.enabled (visit_reply o.capacity o.takers.waiting o) Off) r is) (visit-says o o.enabled o.capacity o.takers.waiting)
  says o who (ops.Take waits) r kept fits is = subst (Says (ops.Take waits)) (cond_some (is_some o.capacity) (take_reply o.channels waits) r is).1 (take-says o.channels waits kept.channels)
  says o who (ops.TakeEnd place) r kept fits is = inr (decision-by (IsChannel decls) o.takers who.number place r kept.takers is)
  says o who (ops.TakeQuit place) r kept fits is = quit-by (IsChannel decls) Given (λ r is. inr is) Again o.takers who.number place r (inl (inl refl)) kept.takers is
  says o who (ops.Enable on) r kept fits is = inl (inl (sym (same_Some Done r is)))

  -- The state.

  listed-keeps : (capacity : ℕ) (o : Observer) (channel : ℕ) → IsOf is_chan decls channel → Keeps o → Keeps (listed capacity o channel)
  listed-keeps capacity o channel is kept = by (nat_lt (length o.channels) capacity) where
    by : (b : Bool) → Keeps (cond b (record o { channels = o.channels ++ channel ∷ [] }) o)
    by true = record { channels = All-push (IsOf is_chan decls) o.channels channel kept.channels is; takers = kept.takers }
    by false = kept

  visited-keeps : (capacity : Option ℕ) (waiting : List (Waiter Unit)) (o : Observer) (channel : ℕ) → IsOf is_chan decls channel → Keeps o → Keeps (visited capacity waiting o channel)
  visited-keeps None waiting o channel is kept = kept
  visited-keeps (Some most) (w ∷ ws) o channel is kept = record { channels = kept.channels; takers = first_decided-by (IsChannel decls) (Channel channel) o.takers is kept.takers }
  visited-keeps (Some most) [] o channel is kept = listed-keeps most o channel is kept

  taken-keeps : (channels : List ℕ) (o : Observer) (who : Who) (waits : Bool) → All (IsOf is_chan decls) channels → Keeps o → Keeps (taken channels o who waits)
  taken-keeps (c ∷ cs) o who waits all kept = record { channels = All-tail (IsOf is_chan decls) c cs all; takers = kept.takers }
  taken-keeps [] o who true all kept = record { channels = kept.channels; takers = kept.takers }
  taken-keeps [] o who false all kept = kept

  where-keeps : (b : Bool) (o p : Observer) → Keeps o → Keeps p → Keeps (cond b o p)
  where-keeps true o p first second = first
  where-keeps false o p first second = second

  changed-keeps : (o : Observer) (who : Who) (op : ObsOp) → Keeps o → FitsOp decls op → Keeps (obs_changed o who op)
  changed-keeps o who (ops.Visit channel) kept fits =
      where-keeps o.enabled (visited o.capacity o.takers.waiting o channel) o (visited-keeps o.capacity o.takers.waiting o channel fits kept) kept
  changed-keeps o who (ops.Take waits) kept fits =
      where-keeps (is_some o.capacity) (taken o.channels o who waits) o (taken-keeps o.channels o who waits kept.channels kept) kept
  changed-keeps o who (ops.TakeEnd place) kept fits = record { channels = kept.channels; takers = ended-by (IsChannel decls) o.takers who.number place kept.takers }
  changed-keeps o who (ops.TakeQuit place) kept fits = record { channels = kept.channels; takers = quitted-by (IsChannel decls) o.takers who.number place kept.takers }
  changed-keeps o who (ops.Enable on) kept fits = record { channels = kept.channels; takers = kept.takers }

  keeps : (o : Observer) (who : Who) (op : ObsOp) → Keeps o → FitsOp decls op → Keeps (obs_next o who op)
  keeps o who op kept fits = let after = changed-keeps o who op kept fits in record { channels = after.channels; takers = after.takers }

  -- each reply of a history is of its operation, where the operations fit
  pub obs-answers : (capacity : Option ℕ) (h : List (Entry ObsOp ObsReply)) → Replays obs_machine (new_obs capacity) h → AllByRecursion (λ e. FitsOp decls e.op) h →
      AllByRecursion (λ e. AnswersTo decls (said_of e.op).0 e.reply) h
  obs-answers capacity h replays fit =
      answers-along obs_machine Keeps (FitsOp decls) Says says keeps (new_obs capacity) h (record { channels = All-nil (IsOf is_chan decls); takers = none-decided (IsChannel decls) }) replays fit

-- The replies of a channel are of their operations, and tell observers that are declared.
use Rattle.std.proofs.Common.{◌≡◌, ℕ, ◌≤◌, Bool, true, false, not, inl, inr, cond, Option, Some, None, List, [], ◌∷◌, length, map, All, refl, sym, subst}
use Rattle.std.specs.List.{AllByRecursion, filter, list_any}
use Rattle.std.proofs.lemmas.Bool.{le-leb}
use Rattle.std.proofs.lemmas.List.Elements.{All-nil, All-cons, All-head, All-tail}
use Rattle.std.proofs.lemmas.Option.{same_Some, cond_some}
use Rattle.zk_base.specs.declared.ids.Who.{Who}
use Rattle.zk_base.specs.declared.ids.Entry.{Entry}
use Rattle.zk_base.specs.declared.validator.Valid.{Valid}
use Rattle.zk_base.specs.Legal.{Replays}
use Rattle.zk_base.specs.Limits.{most_few}
use Rattle.zk_base.specs.Messages.{is_message}
use Rattle.zk_base.specs.Validators.{is_valid}
use Rattle.zk_line.specs.declared.types.Decl.{Decl}
use Rattle.zk_line.specs.Objects as objects
use Rattle.zk_model_bus.specs.declared.channel.ChanObserver.{ChanObserver}
use Rattle.zk_model_bus.specs.declared.channel.Holder.{Holder}
use Rattle.zk_model_bus.specs.declared.channel.Manner.{Manner}
use Rattle.zk_model_bus.specs.declared.channel.Manner.TheVariants as manners
use Rattle.zk_model_bus.specs.declared.channel.ChanOp.{ChanOp}
use Rattle.zk_model_bus.specs.declared.channel.ChanOp.TheVariants as ops
use Rattle.zk_model_bus.specs.declared.channel.ChanReply.{ChanReply}
use Rattle.zk_model_bus.specs.declared.channel.ChanReply.TheVariants.{Got, Again, NoMsg, Observers, Bytes, Done, Inval}
use Rattle.zk_model_bus.specs.Channel.{Channel, unmasked, new_chan, holds, has_claimed, holds_by_entering, is_observer, told_of, mask_one, masked, gain_reply, gain, handed_on, chan_reply, chan_changed, chan_next, chan_machine}
use Rattle.zk_trace.specs.declared.chan.Verb.TheVariants as verbs
use Rattle.zk_trace.specs.Chan.{said_of, reply_parts}
use Rattle.zk_trace.specs.ChanRead.{FitsOp, AnswersTo}
use Rattle.zk_blocks.specs.Choices.{IsIn}
use Rattle.zk_trace.specs.Fields.{IsOf, AreObservers}
use Rattle.zk_trace.specs.Sized.{AreSized}
use Rattle.zk_trace.proofs.DecidedWaits.{DecidedBy, none-decided, first_decided-by, ended-by, quitted-by, decision-by, quit-by}
use Rattle.zk_trace.proofs.Kept.{answers-along}

module _ (decls : List Decl) where
  -- it is of its operation, if its numbers are within their types
  abbrev Says : ChanOp → ChanReply → Type 0
  Says op r = AreSized (reply_parts r) → AnswersTo decls (said_of op).0 r

  abbrev Gained : ChanReply → Type 0
  Gained r = IsIn r (Got ∷ [])

  -- an observer of this number is declared
  abbrev pub IsDeclared : ChanObserver → Type 0
  IsDeclared o = IsOf objects.is_observer decls o.number

  record Keeps (c : Channel) : Type 0 where
    message : is_message c.message ≡ true
    observers : All IsDeclared c.observers
    waits : DecidedBy Gained c.waits

  -- A reply.

  -- those that are told are among its observers
  told-each : (os : List ChanObserver) → All IsDeclared os → AllByRecursion (IsOf objects.is_observer decls) (told_of os)
  told-each [] all = tt
  told-each (o ∷ os) all = by (not o.masked) (told-each os (All-tail IsDeclared o os all)) where
    by : (b : Bool) → AllByRecursion (IsOf objects.is_observer decls) (told_of os) →
        AllByRecursion (IsOf objects.is_observer decls)
        (map (λ (o : ChanObserver). o.number) (cond b (o ∷ filter (λ (o : ChanObserver). not o.masked) os) (filter (λ (o : ChanObserver). not o.masked) os)))
    by true more = (All-head IsDeclared o os all, more)
    by false more = more

  told-says : (c : Channel) → Keeps c → length (told_of c.observers) ≤ most_few → AreObservers decls (told_of c.observers)
  told-says c kept few = record { few = le-leb (length (told_of c.observers)) most_few few; each = told-each c.observers kept.observers }

  offer-says : (c : Channel) (message : List ℕ) (waits : Bool) → Says (ops.Offer message waits) (cond (is_valid c.valid message) (gain_reply c.holder waits) NoMsg)
  offer-says c message waits sized = by (is_valid c.valid message) c.holder waits where
    by : (b : Bool) (holder : Option Holder) (waits : Bool) → AnswersTo decls verbs.Offer (cond b (gain_reply holder waits) NoMsg)
    by true None waits = inl (inl refl)
    by true (Some h) true = inl (inr (inr (inl refl)))
    by true (Some h) false = inl (inr (inl refl))
    by false holder waits = inl (inr (inr (inr (inl refl))))

  enter-says : (holder : Option Holder) (waits : Bool) → Says (ops.Enter waits) (gain_reply holder waits)
  enter-says None waits sized = inl (inl refl)
  enter-says (Some h) true sized = inl (inr (inr (inl refl)))
  enter-says (Some h) false sized = inl (inr (inl refl))

  claim-says : (holder : Option Holder) (waits : Bool) → Says (ops.Claim waits) (gain_reply holder waits)
  claim-says None waits sized = inl (inl refl)
  claim-says (Some h) true sized = inl (inr (inr (inl refl)))
  claim-says (Some h) false sized = inl (inr (inl refl))

  -- done, or refused
  either-done : (b : Bool) → IsIn (cond b Done Inval) (Done ∷ Inval ∷ [])
  either-done true = inl refl
  either-done false = inr (inl refl)

  gained-too : (r : ChanReply) → Gained r → IsIn r (Got ∷ Again ∷ [])
  gained-too r (inl is) = inl is
  gained-too r (inr none) = absurd none

  says : (c : Channel) (who : Who) (op : ChanOp) (r : ChanReply) → Keeps c → FitsOp decls op → chan_reply c who op ≡ Some r → Says op r
  says c who (ops.Offer message waits) r kept fits is =
      subst (Says (ops.Offer message waits)) (same_Some (cond (is_valid c.valid message) (gain_reply c.holder waits) NoMsg) r is) (offer-says c message waits)
  says c who (ops.Enter waits) r kept fits is = subst (Says (ops.Enter waits)) (same_Some (gain_reply c.holder waits) r is) (enter-says c.holder waits)
  says c who (ops.Claim waits) r kept fits is = subst (Says (ops.Claim waits)) (same_Some (gain_reply c.holder waits) r is) (claim-says c.holder waits)
  says c who (ops.ClaimEnd place) r kept fits is = λ sized. inl (decision-by Gained c.waits who.number place r kept.waits is)
  says c who (ops.ClaimQuit place) r kept fits is =
      λ sized. inl (quit-by Gained (λ r. IsIn r (Got ∷ Again ∷ [])) gained-too Again c.waits who.number place r (inr (inl refl)) kept.waits is)
  says c who (ops.Set message) r kept fits is =
      subst (Says (ops.Set message)) (cond_some (holds c who) (Observers (told_of c.observers)) r is).1 (λ sized. inr (told-says c kept sized.0))
  says c who ops.List r kept fits is = subst (Says ops.List) (cond_some (holds c who) (Observers (told_of c.observers)) r is).1 (λ sized. inr (told-says c kept sized.0))
  says c who ops.Get r kept fits is = subst (Says ops.Get) (cond_some (holds c who) (Bytes c.message) r is).1 (λ sized. inr (record { size = kept.message; bytes = sized.0 }))
  says c who ops.Free r kept fits is = λ sized. inl (inl (sym (cond_some (holds_by_entering c who) Done r is).1))
  says c who ops.Finish r kept fits is = subst (Says ops.Finish) (same_Some (cond (has_claimed c who) Done Inval) r is) (λ sized. inl (either-done (has_claimed c who)))
  says c who (ops.Mask observer on) r kept fits is =
      subst (Says (ops.Mask observer on)) (same_Some (cond (list_any (is_observer observer) c.observers) Done Inval) r is)
      (λ sized. inl (either-done (list_any (is_observer observer) c.observers)))

  -- The state.

  where-keeps : (b : Bool) (c d : Channel) → Keeps c → Keeps d → Keeps (cond b c d)
  where-keeps true c d first second = first
  where-keeps false c d first second = second

  gain-keeps : (holder : Option Holder) (c : Channel) (who : Who) (manner : Manner) (waits : Bool) → Keeps c → Keeps (gain holder c who manner waits)
  gain-keeps None c who manner waits kept = record { message = kept.message; observers = kept.observers; waits = kept.waits }
  gain-keeps (Some h) c who manner true kept = record { message = kept.message; observers = kept.observers; waits = kept.waits }
  gain-keeps (Some h) c who manner false kept = kept

  handed-keeps : (c : Channel) → Keeps c → Keeps (handed_on c)
  handed-keeps c kept = record { message = kept.message; observers = kept.observers; waits = first_decided-by Gained Got c.waits (inl refl) kept.waits }

  mask-keeps : (observer : ℕ) (on : Bool) (os : List ChanObserver) → All IsDeclared os → All IsDeclared (masked observer on os)
  mask-keeps observer on [] all = All-nil IsDeclared
  mask-keeps observer on (o ∷ os) all =
      All-cons IsDeclared (mask_one observer on o) (masked observer on os) (by (is_observer observer o)) (mask-keeps observer on os (All-tail IsDeclared o os all))
    where
      by : (b : Bool) → IsDeclared (cond b (record o { masked = on }) o)
      by true = All-head IsDeclared o os all
      by false = All-head IsDeclared o os all

  changed-keeps : (c : Channel) (who : Who) (op : ChanOp) → Keeps c → FitsOp decls op → Keeps (chan_changed c who op)
  changed-keeps c who (ops.Offer message waits) kept fits =
      where-keeps (is_valid c.valid message) (gain c.holder c who manners.Offer waits) c (gain-keeps c.holder c who manners.Offer waits kept) kept
  changed-keeps c who (ops.Enter waits) kept fits = gain-keeps c.holder c who manners.Enter waits kept
  changed-keeps c who (ops.Claim waits) kept fits = gain-keeps c.holder c who manners.Claim waits kept
  changed-keeps c who (ops.ClaimEnd place) kept fits =
      record { message = kept.message; observers = kept.observers; waits = ended-by Gained c.waits who.number place kept.waits }
  changed-keeps c who (ops.ClaimQuit place) kept fits =
      record { message = kept.message; observers = kept.observers; waits = quitted-by Gained c.waits who.number place kept.waits }
  changed-keeps c who (ops.Set message) kept fits =
      where-keeps (holds c who) (record c { message = message }) c (record { message = fits.size; observers = kept.observers; waits = kept.waits }) kept
  changed-keeps c who ops.List kept fits = kept
  changed-keeps c who ops.Get kept fits = kept
  changed-keeps c who ops.Free kept fits = where-keeps (holds_by_entering c who) (handed_on c) c (handed-keeps c kept) kept
  changed-keeps c who ops.Finish kept fits = where-keeps (has_claimed c who) (handed_on c) c (handed-keeps c kept) kept
  changed-keeps c who (ops.Mask observer on) kept fits =
      record { message = kept.message; observers = mask-keeps observer on c.observers kept.observers; waits = kept.waits }

  keeps : (c : Channel) (who : Who) (op : ChanOp) → Keeps c → FitsOp decls op → Keeps (chan_next c who op)
  keeps c who op kept fits =
      let after = changed-keeps c who op kept fits in
      record { message = after.message; observers = after.observers; waits = after.waits }

  unmasked-each : (numbers : List ℕ) → All (IsOf objects.is_observer decls) numbers → All IsDeclared (map unmasked numbers)
  unmasked-each [] all = All-nil IsDeclared
  unmasked-each (n ∷ ns) all =
      All-cons IsDeclared (unmasked n) (map unmasked ns) (All-head (IsOf objects.is_observer decls) n ns all) (unmasked-each ns (All-tail (IsOf objects.is_observer decls) n ns all))

  -- each reply of a history is of its operation, where the operations fit, and so does what the channel begins with
  pub chan-answers : (message : List ℕ) (valid : Valid) (observers : List ℕ) (h : List (Entry ChanOp ChanReply)) → is_message message ≡ true → All (IsOf objects.is_observer decls) observers →
      Replays chan_machine (new_chan message valid observers) h → AllByRecursion (λ e. FitsOp decls e.op) h →
      AllByRecursion (λ e. AreSized (reply_parts e.reply) → AnswersTo decls (said_of e.op).0 e.reply) h
  chan-answers message valid observers h is each replays fit =
      answers-along chan_machine Keeps (FitsOp decls) Says says keeps (new_chan message valid observers) h
      (record { message = is; observers = unmasked-each observers each; waits = none-decided Gained }) replays fit

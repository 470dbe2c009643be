-- A fire that was taken names an item and a queue in range.
use Rattle.std.proofs.Common.{◌≡◌, ℕ, true, Some, option_map, List, [], ◌∷◌, slice_get, sym, ap, subst}
use Rattle.std.proofs.lemmas.Option.{same_Some}
use Rattle.zk_base.specs.declared.ids.Who.{Who}
use Rattle.zk_base.specs.History.{entry}
use Rattle.zk_base.proofs.Histories.{IsLegal-front}
use Rattle.zk_model_trigger.specs.declared.ops.TriggerOp.TheVariants.{Next}
use Rattle.zk_model_trigger.specs.declared.ops.TriggerReply.{TriggerReply}
use Rattle.zk_model_trigger.specs.declared.ops.TriggerReply.TheVariants.{Armed, Busy, Done, Inval, Now}
use Rattle.zk_model_trigger.specs.declared.ops.TriggerReply.TheVariants as replies
use Rattle.zk_model_trigger.specs.declared.parts.Fire.{Fire}
use Rattle.zk_model_trigger.specs.Arms.{told_fire}
use Rattle.zk_model_trigger.specs.Machine.{trigger_machine, new_triggers}
use Rattle.zk_model_trigger.specs.Histories.{TriggerEntry, TriggerHistory, IsTriggerHistory, triggers_after}
use Rattle.zk_model_trigger.proofs.InRange.{next-in_range}
use Rattle.zk_turn.specs.Calls.{IsEntered}
use Rattle.zk_trigger.specs.Pumping.{HasTaken, is_fire, owed_of}

-- a next is answered with a fire
is-fire : (fires : List Fire) (reply : TriggerReply) → option_map told_fire (slice_get fires 0) ≡ Some reply → is_fire reply ≡ true
is-fire [] reply is = absurd (cc)
is-fire (f ∷ rest) reply is = ap is_fire (sym (same_Some (told_fire f) reply is))

module _ (who : Who) (step place : ℕ) (old new : TriggerHistory) (legal : IsTriggerHistory new) where
  by-reply : (reply : TriggerReply) → IsEntered trigger_machine new_triggers who step Next reply place old new →
      is_fire reply ≡ true → HasTaken who step (owed_of reply) old new
  by-reply (replies.Fire number item queue cause) made fire =
      let e : TriggerEntry = entry who step Next (replies.Fire number item queue cause) in
      let before = IsLegal-front trigger_machine new_triggers made.found (e ∷ []) (subst IsTriggerHistory made.entered legal) in
      let range = next-in_range made.found who number item queue cause before made.replied in
      record { number = number; cause = cause; place = place; entered = made; item = range.0; queue = range.1 }
  by-reply (Armed number) made fire = absurd (cc)
  by-reply Busy made fire = absurd (cc)
  by-reply Done made fire = absurd (cc)
  by-reply Inval made fire = absurd (cc)
  by-reply (Now time) made fire = absurd (cc)

  pub taken-fire : (reply : TriggerReply) → IsEntered trigger_machine new_triggers who step Next reply place old new →
      HasTaken who step (owed_of reply) old new
  taken-fire reply made = by-reply reply made (is-fire (triggers_after made.found).fires reply made.replied)

-- Each reply is fixed by the entries before it.
use Rattle.std.proofs.Common.{◌≡◌, ℕ, zero, suc, ◌+◌, Bool, cond, Some, option_map, length, List, [], ◌∷◌, drop, slice_get, refl, sym, ap, subst, ◌∙◌}
use Rattle.std.specs.List.{list_any}
use Rattle.zk_base.specs.declared.ids.Who.{Who}
use Rattle.zk_base.proofs.Histories.{IsLegal-front, Replays-rest}
use Rattle.zk_model_trigger.specs.declared.ops.TriggerOp.{TriggerOp}
use Rattle.zk_model_trigger.specs.declared.ops.TriggerOp.TheVariants as ops
use Rattle.zk_model_trigger.specs.declared.ops.TriggerReply.TheVariants.{Armed, Busy, Done, Inval, Now}
use Rattle.zk_model_trigger.specs.declared.parts.Fire.{Fire}
use Rattle.zk_model_trigger.specs.Arms.{told_fire}
use Rattle.zk_model_trigger.specs.Machine.{Triggers, new_triggers, trigger_machine, trigger_reply}
use Rattle.zk_model_trigger.specs.Histories.{TriggerHistory, IsTriggerHistory, triggers_after, is_busy, taken_in, fires_of}
use Rattle.zk_model_trigger.specs.Laws.{told, OfEach, RepliesAreTold, EachIsTold}
use Rattle.zk_model_trigger.proofs.Changing.{any-waiting}
use Rattle.zk_model_trigger.specs.Steady.{of_item}
use Rattle.zk_model_trigger.proofs.Follow.{Follows, follows}

-- the first of those behind a place is the one at the place
first-behind : (n : ℕ) (xs : List Fire) → slice_get (drop n xs) 0 ≡ slice_get xs n
first-behind zero xs = refl
first-behind (suc n) [] = refl
first-behind (suc n) (x ∷ xs) = first-behind n xs

told-by : (h : TriggerHistory) (s : Triggers) → Follows h s → (who : Who) (op : TriggerOp) → trigger_reply s who op ≡ told h op
told-by h s f who (ops.Arm item queue events ticks) =
    ap (λ (b : Bool). Some (cond b Busy (Armed (length s.arms)))) (f.busy item)
    ∙ ap (λ (n : ℕ). Some (cond (is_busy h item) Busy (Armed n))) f.made
told-by h s f who (ops.Post event) = refl
told-by h s f who (ops.Unpost event) = refl
told-by h s f who (ops.Tick ticks) = ap (λ (n : ℕ). Some (Now (n + ticks))) f.now
told-by h s f who (ops.Cancel item) =
    ap (λ (b : Bool). Some (cond b Done Inval)) (any-waiting item s.arms ∙ ap (list_any (of_item item)) f.waits)
told-by h s f who ops.Next =
    ap (λ (l : List Fire). option_map told_fire (slice_get l 0)) f.fires
    ∙ ap (option_map told_fire) (first-behind (taken_in h) (fires_of h))

pub replies_are_told : OfEach RepliesAreTold
replies_are_told h legal who op = told-by h (triggers_after h) (follows h legal) who op

pub each_is_told : OfEach EachIsTold
each_is_told h legal front rest e parts =
    let whole = subst IsTriggerHistory parts legal in
    sym (replies_are_told front (IsLegal-front trigger_machine new_triggers front (e ∷ rest) whole) e.who e.op)
    ∙ (Replays-rest trigger_machine new_triggers front (e ∷ rest) whole.0).0

-- The roster of a fan along its history: different subscribers, and each entry is counted.
use Rattle.std.proofs.Common.{◌≡◌, ℕ, Bool, true, false, cond, List, [], ◌∷◌, ◌++◌, refl, arith}
use Rattle.std.proofs.lemmas.List.Elements.{All-head, All-tail}
use Rattle.zk_base.specs.declared.ids.Entry.{Entry}
use Rattle.zk_base.specs.Legal.{state_after, AreInRange}
use Rattle.zk_base.specs.Recording.{CountsEntries}
use Rattle.zk_msgsub.specs.declared.fan_state.FanOp.{FanOp}
use Rattle.zk_msgsub.specs.declared.fan_state.FanOp.TheVariants.{Add, Remove, Open}
use Rattle.zk_msgsub.specs.declared.fan_state.FanReply.{FanReply}
use Rattle.zk_msgsub.specs.Fan.{Roster, are_subscribers, is_in, is_subscriber, names_subscriber, fan_changed, fan_in_range, fan_next, fan_machine}
use Rattle.zk_msgsub.proofs.Subscribers.{subscribers-filter, subscribers-push}

added-kept : (listed : List ℕ) (n : ℕ) (b : Bool) → is_in listed n ≡ b → are_subscribers listed ≡ true → is_subscriber n ≡ true →
    are_subscribers (cond b listed (listed ++ n ∷ [])) ≡ true
added-kept listed n true is are in_range = are
added-kept listed n false is are in_range = subscribers-push listed n are in_range is

-- an operation in range leaves different subscribers
pub changed-kept : (listed : List ℕ) (op : FanOp) → are_subscribers listed ≡ true → names_subscriber op ≡ true →
    are_subscribers (fan_changed listed op) ≡ true
changed-kept listed (Add n) are in_range = added-kept listed n (is_in listed n) refl are in_range
changed-kept listed (Remove n) are in_range = subscribers-filter _ listed are
changed-kept listed Open are in_range = are

-- and so does a history of such
pub history-kept : (start s : Roster) (h : List (Entry FanOp FanReply)) → are_subscribers s.listed ≡ true →
    AreInRange fan_machine start h →
    are_subscribers (state_after fan_machine s h).listed ≡ true
history-kept start s [] are in_range = are
history-kept start s (e ∷ es) are in_range =
    let P : Entry FanOp FanReply → Type 0 = λ f. fan_in_range start f.op ≡ true in
    history-kept start (fan_next s e.who e.op) es (changed-kept s.listed e.op are (All-head P e es in_range))
    (All-tail P e es in_range)

-- each entry is counted, and none is owed
pub counts : CountsEntries fan_machine (λ s. s.entries) (λ s. 0) (λ s who op. false)
counts = record {
  counts = λ s who op. refl;
  ranges = λ s who op. refl;
  adds = λ s who op. omega arith;
  gives = λ s who op closes some. absurd (cc);
}

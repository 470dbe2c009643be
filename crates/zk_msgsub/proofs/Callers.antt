-- What callers need: seats by subscriber, the list of all subscribers below a number, and a fan at which publishers open alone.
use Rattle.std.proofs.Common.{◌≡◌, ℕ, zero, suc, ◌≤◌, ◌⊎◌, inl, inr, ⊎_elim, Bool, true, false, ◌==◌, ◌||◌, Some, All, List, [], ◌∷◌, ◌++◌, length, slice_get, refl, sym, ap, subst, ◌∙◌, arith}
use Rattle.std.proofs.lemmas.Bool.{lt-ltb, ne_eqb}
use Rattle.std.proofs.lemmas.List.{length-append}
use Rattle.std.proofs.lemmas.List.Elements.{All-nil, All-cons, All-head, All-tail}
use Rattle.std.proofs.lemmas.Option.{same_Some, slice_get_within}
use Rattle.zk_base.specs.declared.ids.Entry.{Entry}
use Rattle.zk_base.specs.Legal.{Replays, IsLegal}
use Rattle.zk_base.specs.Limits.{most_few}
use Rattle.zk_msgsub.specs.declared.fan_state.FanOp.{FanOp}
use Rattle.zk_msgsub.specs.declared.fan_state.FanOp.TheVariants.{Open}
use Rattle.zk_msgsub.specs.declared.fan_state.FanReply.{FanReply}
use Rattle.zk_msgsub.specs.declared.fan_state.FanReply.TheVariants.{Subs}
use Rattle.zk_msgsub.specs.declared.msg_sub.MsgSub.{MsgSub}
use Rattle.zk_msgsub.specs.declared.seats.PubSeat.{PubSeat}
use Rattle.zk_msgsub.specs.Fan.{Roster, new_fan, are_subscribers, is_in, fan_answer, fan_changed, fan_next, fan_machine}
use Rattle.zk_msgsub.specs.Notes.{upto}
use Rattle.zk_msgsub.specs.Publishers.{AreSeatsOf}
use Rattle.zk_msgsub.specs.Seats.{IsSeatOf}
use Rattle.zk_msgsub.proofs.Subscribers.{is_in-append, subscribers-push}

opens-from : (s : Roster) (h : List (Entry FanOp FanReply)) → Replays fan_machine s h → All (λ e. e.op ≡ Open) h →
    All (λ e. e.reply ≡ Subs s.listed) h
opens-from s [] replays opens = All-nil (λ (e : Entry FanOp FanReply). e.reply ≡ Subs s.listed)
opens-from s (e ∷ es) replays opens =
    let asked = All-head (λ (f : Entry FanOp FanReply). f.op ≡ Open) e es opens in
    let told = sym (same_Some (fan_answer s.listed e.op) e.reply replays.0) ∙ ap (fan_answer s.listed) asked in
    let rest = opens-from (fan_next s e.who e.op) es replays.1 (All-tail (λ (f : Entry FanOp FanReply). f.op
    ≡ Open) e es opens) in
    All-cons (λ (f : Entry FanOp FanReply). f.reply ≡ Subs s.listed) e es told
    (subst (λ (l : List ℕ). All (λ (f : Entry FanOp FanReply). f.reply ≡ Subs l) es) (ap (fan_changed s.listed) asked) rest)

-- where nobody adds or removes, each open tells all who are listed at first
pub opens-tell : (first : List ℕ) (h : List (Entry FanOp FanReply)) → IsLegal fan_machine (new_fan first) h →
    All (λ e. e.op ≡ Open) h →
    All (λ e. e.reply ≡ Subs first) h
opens-tell first h legal opens = opens-from (new_fan first) h legal.0 opens

upto-above : (n m : ℕ) → n ≤ m → is_in (upto n) m ≡ false
upto-above zero m le = refl
upto-above (suc n) m le = is_in-append (upto n) (n ∷ []) m
    ∙ ap (λ (b : Bool). b || ((n == m) || false)) (upto-above n m (omega arith))
    ∙ ap (λ (b : Bool). b || false) (ne_eqb n m (λ same. omega arith))

-- the numbers below one that is at most 8 are different subscribers
pub subscribers-upto : (n : ℕ) → n ≤ most_few → are_subscribers (upto n) ≡ true
subscribers-upto zero le = refl
subscribers-upto (suc n) le =
    subscribers-push (upto n) n (subscribers-upto n (omega arith)) (lt-ltb n most_few (omega arith)) (upto-above n n
    (omega arith))

-- the seats of no subscriber, and of one more
pub seats-nil : AreSeatsOf [] []
seats-nil = record { many = refl; each = λ k m s at there. absurd (cc) }

last-at : {A : Type 0} (xs : List A) (y x : A) (k : ℕ) → slice_get (xs ++ y ∷ []) k ≡ Some x → (slice_get xs k ≡ Some x) ⊎
    ((k ≡ length xs) × (y ≡ x))
last-at [] y x zero at = inr (refl, same_Some y x at)
last-at [] y x (suc k) at = absurd (cc)
last-at (z ∷ zs) y x zero at = inl at
last-at (z ∷ zs) y x (suc k) at = ⊎_elim (λ before. inl before) (λ last. inr (ap suc last.0, last.1)) (last-at zs y x k at)

pub seats-push : (subs : List MsgSub) (seats : List PubSeat) (m : MsgSub) (s : PubSeat) → AreSeatsOf subs seats → IsSeatOf m s →
    AreSeatsOf (subs ++ m ∷ []) (seats ++ s ∷ [])
seats-push subs seats m s are own =
    let many = are.many in
    let long = length-append subs (m ∷ []) in
    let long' = length-append seats (s ∷ []) in
    record {
      many = omega arith;
      each = λ k m' s' at there. ⊎_elim
          (λ before. ⊎_elim
          (λ before'. are.each k m' s' before before')
          (λ last'. let within = slice_get_within subs k m' before in let place = last'.0 in absurd (omega arith))
          (last-at seats s s' k there))
          (λ last. ⊎_elim
          (λ before'. let within = slice_get_within seats k s' before' in let place = last.0 in absurd (omega arith))
          (λ last'. subst (λ (y : MsgSub × PubSeat). IsSeatOf y.0 y.1) (λ i. (last.1 i, last'.1 i)) own)
          (last-at seats s s' k there))
          (last-at subs m m' k at);
    }

-- What a semaphore counts, along a history.
use Rattle.std.proofs.Common.{◌≡◌, ℕ, zero, suc, ◌+◌, ◌<◌, ◌≤◌, Bool, true, false, ◌⊎◌, inl, inr, ltb, cond, Option, Some, None, option_map, List, [], ◌∷◌, map, refl, sym, ap, subst, ◌∙◌, arith}
use Rattle.std.specs.List.{find, count_by}
use Rattle.std.proofs.lemmas.Bool.{ltb-true}
use Rattle.std.proofs.lemmas.List.Sums.{sum_by-cons, sum_by_push, sum_by-append}
use Rattle.std.proofs.lemmas.Option.{same_Some}
use Rattle.zk_base.specs.declared.ids.Who.{Who}
use Rattle.zk_base.specs.declared.ids.Entry.{Entry}
use Rattle.zk_base.specs.declared.waits.Waiter.{Waiter}
use Rattle.zk_base.specs.declared.waits.Decision.{Decision}
use Rattle.zk_base.specs.History.{IsEntry}
use Rattle.zk_base.specs.Legal.{Replays}
use Rattle.zk_base.specs.Lists.{without_first}
use Rattle.zk_base.specs.Waits.{Waits, is_waiter, is_decision, decide, decides_first, goes_on, given_up}
use Rattle.zk_base.proofs.Firsts.{one_if, without-lost, count-found}
use Rattle.zk_base.proofs.Histories.{state_after-snoc, Replays-rest}
use Rattle.zk_model_wait.specs.declared.sem.SemOp.{SemOp}
use Rattle.zk_model_wait.specs.declared.sem.SemOp.TheVariants as ops
use Rattle.zk_model_wait.specs.declared.sem.SemReply.{SemReply}
use Rattle.zk_model_wait.specs.declared.sem.SemReply.TheVariants.{Got, Again, Done, Number, Noted, Plain}
use Rattle.zk_model_wait.specs.Sem.{Sem, new_sem, take_reply, poll_reply, take_at, arm_at, give_to, sem_reply, sem_next, sem_machine}
use Rattle.zk_model_wait.specs.SemWaits.{take_decides, takers}
use Rattle.zk_model_wait.proofs.SemWaits.{has_takers}
use Rattle.zk_base.proofs.WaitDecisions.{said, decides-said}
use Rattle.zk_model_wait.specs.SemLaws.{SemHistory, OfEachSem, sem_after_all, is_got, gives_one, is_give, takes_one, held, wasted_at, thrown_away, all_thrown_away, TakeIsTold, DecidedByGiveOrReset, CountWithinLimit, NoneWaitsWhileCount, GivesAddUp, GotWithinGives, TakeWaitsOnlyAtZero, CountTellsTheCount, ResetEndsEveryWait, MayAlways, GiveIsDone}

-- the limit stays
take-limit : (n : ℕ) (s : Sem) (who : Who) (waits : Bool) → (take_at n s who waits).limit ≡ s.limit
take-limit zero s who false = refl
take-limit zero s who true = refl
take-limit (suc n) s who waits = refl

give-limit : (waiting : List (Waiter Unit)) (s : Sem) → (give_to waiting s).limit ≡ s.limit
give-limit [] s = refl
give-limit (w ∷ ws) s = refl

next-limit : (s : Sem) (who : Who) (op : SemOp) → (sem_next s who op).limit ≡ s.limit
next-limit s who (ops.Take waits) = take-limit s.count s who waits
next-limit s who (ops.TakeEnd place) = refl
next-limit s who (ops.TakeQuit place) = refl
next-limit s who ops.Give = give-limit s.takers.waiting s
next-limit s who ops.Reset = refl
next-limit s who ops.Count = refl
next-limit s who (ops.PollArm waits) = refl
next-limit s who (ops.PollEnd place) = refl
next-limit s who (ops.PollQuit place) = refl

-- the count stays within it
take-within : (n : ℕ) (s : Sem) (who : Who) (waits : Bool) → n ≤ s.limit → s.count ≤ s.limit →
    (take_at n s who waits).count ≤ s.limit
take-within zero s who false low within = within
take-within zero s who true low within = within
take-within (suc n) s who waits low within = omega arith

raised-within : (s : Sem) (b : Bool) → ltb s.count s.limit ≡ b → s.count ≤ s.limit → cond b (s.count + 1) s.count ≤ s.limit
raised-within s true is within = let below = ltb-true s.count s.limit is in omega arith
raised-within s false is within = within

give-within : (waiting : List (Waiter Unit)) (s : Sem) → s.count ≤ s.limit → (give_to waiting s).count ≤ s.limit
give-within [] s within = raised-within s (ltb s.count s.limit) refl within
give-within (w ∷ ws) s within = within

next-within : (s : Sem) (who : Who) (op : SemOp) → s.count ≤ s.limit → (sem_next s who op).count ≤ s.limit
next-within s who (ops.Take waits) within = take-within s.count s who waits within within
next-within s who (ops.TakeEnd place) within = within
next-within s who (ops.TakeQuit place) within = within
next-within s who ops.Give within = give-within s.takers.waiting s within
next-within s who ops.Reset within = omega arith
next-within s who ops.Count within = within
next-within s who (ops.PollArm waits) within = within
next-within s who (ops.PollEnd place) within = within
next-within s who (ops.PollQuit place) within = within

within-all : (s : Sem) (h : SemHistory) → s.count ≤ s.limit → (sem_after_all s h).count ≤ s.limit
within-all s [] within = within
within-all s (e ∷ es) within =
    let same = next-limit s e.who e.op in
    let here = next-within s e.who e.op within in
    let rest = within-all (sem_next s e.who e.op) es (omega arith) in
    omega arith

pub count_within_limit : OfEachSem CountWithinLimit
count_within_limit initial limit low h legal = within-all (new_sem initial limit) h low

-- nobody waits while there is something to take
pub without-nil : {A : Type 0} (p : A → Bool) (xs : List A) → xs ≡ [] → without_first p xs ≡ []
without-nil p [] none = refl
without-nil p (x ∷ xs) none = absurd (cc)

take-served : (n : ℕ) (s : Sem) (who : Who) (waits : Bool) → s.count ≡ n → (0 < s.count → s.takers.waiting ≡ []) →
    0 < (take_at n s who waits).count → (take_at n s who waits).takers.waiting ≡ []
take-served zero s who false is served some = served some
take-served zero s who true is served some = absurd (omega arith)
take-served (suc n) s who waits is served some = served (omega arith)

give-served : (waiting : List (Waiter Unit)) (s : Sem) → s.takers.waiting ≡ waiting →
    (0 < s.count → s.takers.waiting ≡ []) → 0 < (give_to waiting s).count → (give_to waiting s).takers.waiting ≡ []
give-served [] s is served some = is
give-served (w ∷ ws) s is served some = let none = sym is ∙ served some in absurd (cc)

next-served : (s : Sem) (who : Who) (op : SemOp) → (0 < s.count → s.takers.waiting ≡ []) → 0 < (sem_next s who op).count →
    (sem_next s who op).takers.waiting ≡ []
next-served s who (ops.Take waits) served some = take-served s.count s who waits refl served some
next-served s who (ops.TakeEnd place) served some = served some
next-served s who (ops.TakeQuit place) served some = without-nil (is_waiter who.number place) s.takers.waiting (served some)
next-served s who ops.Give served some = give-served s.takers.waiting s refl served some
next-served s who ops.Reset served some = refl
next-served s who ops.Count served some = served some
next-served s who (ops.PollArm waits) served some = served some
next-served s who (ops.PollEnd place) served some = served some
next-served s who (ops.PollQuit place) served some = served some

served-all : (s : Sem) (h : SemHistory) → (0 < s.count → s.takers.waiting ≡ []) → 0 < (sem_after_all s h).count →
    (sem_after_all s h).takers.waiting ≡ []
served-all s [] served some = served some
served-all s (e ∷ es) served some = served-all (sem_next s e.who e.op) es (next-served s e.who e.op served) some

pub none_waits_while_count : OfEachSem NoneWaitsWhileCount
none_waits_while_count initial limit low h legal some = served-all (new_sem initial limit) h (λ above. refl) some

-- those who are decided to have taken one

end-by : (p : Decision SemReply → Bool) (xs : List (Decision SemReply)) (o : Option (Decision SemReply))
    (reply : SemReply) → find p xs ≡ o → option_map (λ (d : Decision SemReply). d.answer) o ≡ Some reply →
    count_by (λ (d : Decision SemReply). is_got d.answer) xs ≡ one_if (is_got reply) + count_by
    (λ (d : Decision SemReply). is_got d.answer) (without_first p xs)
end-by p xs (Some d) reply found is =
    let told : one_if (is_got d.answer) ≡ one_if (is_got reply) =
    ap (λ (r : SemReply). one_if (is_got r)) (same_Some d.answer reply is) in
    let counted = count-found p (λ (d : Decision SemReply). is_got d.answer) xs d found in
    omega arith
end-by p xs None reply found is = absurd (cc)

none-got : (ws : List (Waiter Unit)) → count_by (λ (d : Decision SemReply). is_got d.answer) (map (decide Again) ws) ≡ 0
none-got [] = refl
none-got (w ∷ ws) = omega (
  arith,
  none-got ws,
  sum_by-cons (λ (d : Decision SemReply). one_if (is_got d.answer))
      (decide Again w) (map (decide Again) ws),
)

-- An entry takes one, or gives one, or neither.

take-adds : (n : ℕ) (s : Sem) (who : Who) (waits : Bool) (reply : SemReply) → s.count ≡ n → take_reply n waits ≡ reply →
    s.count + held s ≡ one_if (is_got reply) + held (take_at n s who waits) + (take_at n s who waits).count
take-adds zero s who false reply is told = let none : one_if (is_got reply) ≡ 0 =
    ap (λ (r : SemReply). one_if (is_got r)) (sym told) in omega arith
take-adds zero s who true reply is told = let none : one_if (is_got reply) ≡ 0 =
    ap (λ (r : SemReply). one_if (is_got r)) (sym told) in omega arith
take-adds (suc n) s who waits reply is told = let some : one_if (is_got reply) ≡ 1 =
    ap (λ (r : SemReply). one_if (is_got r)) (sym told) in omega arith

quit-by : (gives_up : SemReply) → is_got gives_up ≡ false →
    (p : Decision SemReply → Bool) (xs : List (Decision SemReply)) (waits : Bool) (o : Option (Decision SemReply))
    (reply : SemReply) → find p xs ≡ o →
    given_up gives_up waits (option_map (λ (d : Decision SemReply). d.answer) o) ≡ Some reply →
    count_by (λ (d : Decision SemReply). is_got d.answer) xs ≡ one_if (is_got reply) + count_by
    (λ (d : Decision SemReply). is_got d.answer) (without_first p xs)
quit-by gives_up without p xs waits (Some d) reply found is = end-by p xs (Some d) reply found is
quit-by gives_up without p xs true None reply found is =
    let none : one_if (is_got reply) ≡ 0 = ap (λ (r : SemReply). one_if (is_got r)) (sym (same_Some gives_up reply is))
    ∙ ap one_if without in
    let same = ap (λ (ds : List (Decision SemReply)). count_by (λ (d : Decision SemReply). is_got d.answer) ds)
    (without-lost p xs found) in
    omega arith
quit-by gives_up without p xs false None reply found is = absurd (cc)

raised-adds : (s : Sem) (b : Bool) → s.count + 1 ≡ cond b (s.count + 1) s.count + cond b 0 1
raised-adds s true = omega arith
raised-adds s false = refl

give-adds : (waiting : List (Waiter Unit)) (s : Sem) → s.takers.waiting ≡ waiting →
    s.count + held s + 1 ≡ held (give_to waiting s) + (give_to waiting s).count + wasted_at waiting s.limit s.count
give-adds [] s is = let here = raised-adds s (ltb s.count s.limit) in omega arith
give-adds (w ∷ ws) s is =
    let P : List (Waiter Unit) → Type 0 =
    λ l. s.count + held s + 1 ≡ count_by (λ (d : Decision SemReply). is_got d.answer)
    (decides_first Got l s.takers.decided).decided + s.count + 0 in
    let pushed = sum_by_push (λ (d : Decision SemReply). one_if (is_got d.answer)) s.takers.decided (decide Got w) in
    let here : P (w ∷ ws) = omega arith in
    subst P (sym is) here

-- No poll is told that it has taken one.

abbrev polled : Sem → ℕ
polled s = count_by (λ (d : Decision SemReply). is_got d.answer) s.pollers.decided

pub take-polls : (n : ℕ) (s : Sem) (who : Who) (waits : Bool) → (take_at n s who waits).pollers ≡ s.pollers
take-polls zero s who false = refl
take-polls zero s who true = refl
take-polls (suc n) s who waits = refl

arm-decides : (n : ℕ) (s : Sem) (who : Who) (waits : Bool) → (arm_at n s who waits).decided ≡ s.pollers.decided
arm-decides zero s who false = refl
arm-decides zero s who true = refl
arm-decides (suc n) s who waits = refl

noted-polled : (waiting : List (Waiter Unit)) (ds : List (Decision SemReply)) →
    count_by (λ (d : Decision SemReply). is_got d.answer) ds ≡ 0 →
    count_by (λ (d : Decision SemReply). is_got d.answer) (decides_first Noted waiting ds).decided ≡ 0
noted-polled [] ds none = none
noted-polled (w ∷ ws) ds none = let pushed = sum_by_push (λ (d : Decision SemReply). one_if (is_got d.answer)) ds
    (decide Noted w) in omega arith

give-polled : (waiting : List (Waiter Unit)) (s : Sem) → polled s ≡ 0 → polled (give_to waiting s) ≡ 0
give-polled [] s none = noted-polled s.pollers.waiting s.pollers.decided none
give-polled (w ∷ ws) s none = none

poll-ends : (s : Sem) (who : Who) (place : ℕ) (reply : SemReply) → sem_reply s who (ops.PollEnd place) ≡ Some reply →
    polled s ≡ one_if (is_got reply) + polled (sem_next s who (ops.PollEnd place))
poll-ends s who place reply is = let mine = is_decision who.number place in
    end-by mine s.pollers.decided (find mine s.pollers.decided) reply refl is

poll-quits : (s : Sem) (who : Who) (place : ℕ) (reply : SemReply) → sem_reply s who (ops.PollQuit place) ≡ Some reply →
    polled s ≡ one_if (is_got reply) + polled (sem_next s who (ops.PollQuit place))
poll-quits s who place reply is = let mine = is_decision who.number place in
    quit-by Plain refl mine s.pollers.decided (goes_on s.pollers who.number place) (find mine s.pollers.decided) reply refl is

next-polled : (s : Sem) (who : Who) (op : SemOp) (reply : SemReply) → sem_reply s who op ≡ Some reply → polled s ≡ 0 →
    polled (sem_next s who op) ≡ 0
next-polled s who (ops.Take waits) reply is none =
    ap (λ (ws : Waits Unit SemReply). count_by (λ (d : Decision SemReply). is_got d.answer) ws.decided)
    (take-polls s.count s who waits) ∙ none
next-polled s who (ops.TakeEnd place) reply is none = none
next-polled s who (ops.TakeQuit place) reply is none = none
next-polled s who ops.Give reply is none = give-polled s.takers.waiting s none
next-polled s who ops.Reset reply is none = none
next-polled s who ops.Count reply is none = none
next-polled s who (ops.PollArm waits) reply is none =
    ap (λ (ds : List (Decision SemReply)). count_by (λ (d : Decision SemReply). is_got d.answer) ds)
    (arm-decides s.count s who waits) ∙ none
next-polled s who (ops.PollEnd place) reply is none = let here = poll-ends s who place reply is in omega arith
next-polled s who (ops.PollQuit place) reply is none = let here = poll-quits s who place reply is in omega arith

poll-reply-without : (n : ℕ) (waits : Bool) → is_got (poll_reply n waits) ≡ false
poll-reply-without zero false = refl
poll-reply-without zero true = refl
poll-reply-without (suc n) waits = refl

next-adds : (s : Sem) (who : Who) (op : SemOp) (reply : SemReply) → sem_reply s who op ≡ Some reply → polled s ≡ 0 →
    s.count + held s + one_if (gives_one op) ≡ one_if (is_got reply) + held (sem_next s who op)
    + (sem_next s who op).count + thrown_away s.limit s op
next-adds s who (ops.Take waits) reply is unpolled = let here =
    take-adds s.count s who waits reply refl (same_Some (take_reply s.count waits) reply is) in omega arith
next-adds s who (ops.TakeEnd place) reply is unpolled =
    let here = end-by (is_decision who.number place) s.takers.decided
    (find (is_decision who.number place) s.takers.decided) reply refl is in
    omega arith
next-adds s who (ops.TakeQuit place) reply is unpolled =
    let mine = is_decision who.number place in
    let here = quit-by Again refl mine s.takers.decided (goes_on s.takers who.number place) (find mine s.takers.decided)
    reply refl is in
    omega arith
next-adds s who ops.Give reply is unpolled =
    let none : one_if (is_got reply) ≡ 0 = ap (λ (r : SemReply). one_if (is_got r)) (sym (same_Some Done reply is)) in
    let here = give-adds s.takers.waiting s refl in
    omega arith
next-adds s who ops.Reset reply is unpolled =
    let none : one_if (is_got reply) ≡ 0 = ap (λ (r : SemReply). one_if (is_got r)) (sym (same_Some Done reply is)) in
    let both = sum_by-append (λ (d : Decision SemReply). one_if (is_got d.answer)) s.takers.decided
    (map (decide Again) s.takers.waiting) in
    let again = none-got s.takers.waiting in
    omega arith
next-adds s who ops.Count reply is unpolled =
    let none : one_if (is_got reply) ≡ 0 = ap (λ (r : SemReply). one_if (is_got r)) (sym (same_Some (Number s.count) reply is)) in
    omega arith
next-adds s who (ops.PollArm waits) reply is unpolled =
    let none : one_if (is_got reply) ≡ 0 =
    ap (λ (r : SemReply). one_if (is_got r)) (sym (same_Some (poll_reply s.count waits) reply is))
    ∙ ap one_if (poll-reply-without s.count waits) in
    omega arith
next-adds s who (ops.PollEnd place) reply is unpolled = let here = poll-ends s who place reply is in omega arith
next-adds s who (ops.PollQuit place) reply is unpolled = let here = poll-quits s who place reply is in omega arith

adds-all : (s : Sem) (h : SemHistory) → Replays sem_machine s h → polled s ≡ 0 →
    s.count + held s + count_by is_give h ≡ count_by takes_one h + held (sem_after_all s h) + (sem_after_all s h).count
    + all_thrown_away s.limit s h
adds-all s [] replays unpolled = omega arith
adds-all s (e ∷ es) replays unpolled =
    let next = sem_next s e.who e.op in
    let here = next-adds s e.who e.op e.reply replays.0 unpolled in
    let rest = adds-all next es replays.1 (next-polled s e.who e.op e.reply replays.0 unpolled) in
    let same = ap (λ (limit : ℕ). all_thrown_away limit next es) (next-limit s e.who e.op) in
    omega (
      arith,
      sum_by-cons (λ (f : Entry SemOp SemReply). one_if (is_give f)) e es,
      sum_by-cons (λ (f : Entry SemOp SemReply). one_if (takes_one f)) e es,
    )

pub gives_add_up : OfEachSem GivesAddUp
gives_add_up initial limit low h legal = let all = adds-all (new_sem initial limit) h legal.0 refl in omega arith

pub got_within_gives : OfEachSem GotWithinGives
got_within_gives initial limit low h legal = let all = adds-all (new_sem initial limit) h legal.0 refl in omega arith

-- What one entry is answered, and what it leaves.

pub replied : (s : Sem) (h front : SemHistory) (e : Entry SemOp SemReply) → Replays sem_machine s h → IsEntry h front e →
    sem_reply (sem_after_all s front) e.who e.op ≡ Some e.reply
replied s h front e replays at =
    (Replays-rest sem_machine s front (e ∷ at.rest) (subst (Replays sem_machine s) at.whole replays)).0

take-told : (count : ℕ) (waits : Bool) → TakeIsTold count waits (take_reply count waits)
take-told zero true = record { got = λ some. absurd (omega arith); wait = λ none is. refl; busy = λ none is. absurd (cc) }
take-told zero false = record { got = λ some. absurd (omega arith); wait = λ none is. absurd (cc); busy = λ none is. refl }
take-told (suc n) waits = record {
  got = λ some. refl;
  wait = λ none is. absurd (omega arith);
  busy = λ none is. absurd (omega arith);
}

pub take_waits_only_at_zero : OfEachSem TakeWaitsOnlyAtZero
take_waits_only_at_zero initial limit low h legal front e waits at op =
    let s = sem_after_all (new_sem initial limit) front in
    subst (TakeIsTold s.count waits) (same_Some (take_reply s.count waits) e.reply (ap (sem_reply s e.who) (sym op)
    ∙ replied (new_sem initial limit) h front e legal.0 at)) (take-told s.count waits)

pub count_tells_the_count : OfEachSem CountTellsTheCount
count_tells_the_count initial limit low h legal front e at op =
    let s = sem_after_all (new_sem initial limit) front in
    sym (same_Some (Number s.count) e.reply (ap (sem_reply s e.who) (sym op)
    ∙ replied (new_sem initial limit) h front e legal.0 at))

pub reset_ends_every_wait : (s : Sem) (h : SemHistory) → ResetEndsEveryWait s h
reset_ends_every_wait s h front e at op =
    let after = state_after-snoc sem_machine s front e ∙ ap (sem_next (sem_after_all s front) e.who) op in
    (ap (λ (t : Sem). t.count) after, ap (λ (t : Sem). t.takers.waiting) after)

decided-so : (s : Sem) (op own : SemOp) (reply answer : SemReply) (for : Unit {0}) → op ≡ own →
    said (take_decides s own reply) for ≡ Some answer → ((op ≡ ops.Give) × (answer ≡ Got)) ⊎ ((op ≡ ops.Reset) × (answer ≡ Again))
decided-so s op ops.Give reply answer for same is = inl (same, sym (same_Some Got answer is))
decided-so s op ops.Reset reply answer for same is = inr (same, sym (same_Some Again answer is))
decided-so s op own reply answer for same is = absurd (cc)

pub decided_by_give_or_reset : OfEachSem DecidedByGiveOrReset
decided_by_give_or_reset initial limit low h legal front e d at decides =
    let s = new_sem initial limit in
    let whose = decides-said sem_machine takers has_takers s h legal.0 front e d at decides in
    decided-so (sem_after_all s front) e.op e.op e.reply d.answer whose.0.payload refl whose.3

pub may_always : (s : Sem) (h : SemHistory) → MayAlways s h
may_always s h who (ops.Take waits) never = (_, refl)
may_always s h who (ops.TakeEnd place) never = absurd (cc)
may_always s h who (ops.TakeQuit place) never = absurd (cc)
may_always s h who ops.Give never = (_, refl)
may_always s h who ops.Reset never = (_, refl)
may_always s h who ops.Count never = (_, refl)
may_always s h who (ops.PollArm waits) never = (_, refl)
may_always s h who (ops.PollEnd place) never = absurd (cc)
may_always s h who (ops.PollQuit place) never = absurd (cc)

pub give_is_done : OfEachSem GiveIsDone
give_is_done initial limit low h legal front e at (inl op) =
    let s = sem_after_all (new_sem initial limit) front in
    sym (same_Some Done e.reply (ap (sem_reply s e.who) (sym op) ∙ replied (new_sem initial limit) h front e legal.0 at))
give_is_done initial limit low h legal front e at (inr op) =
    let s = sem_after_all (new_sem initial limit) front in
    sym (same_Some Done e.reply (ap (sem_reply s e.who) (sym op) ∙ replied (new_sem initial limit) h front e legal.0 at))

-- The waits are just the starts that had to wait, in order, and one is answered where its Done stands.
use Rattle.std.proofs.Common.{◌≡◌, ℕ, zero, suc, ◌+◌, ◌⊎◌, inl, inr, Bool, true, false, not, ◌&&◌, ◌||◌, ◌==◌, Option, Some, None, option_map, option_to_list, List, [], ◌∷◌, ◌++◌, length, map, slice_get, refl, sym, ap, subst, ◌∙◌, append_assoc, arith}
use Rattle.std.specs.Cmp.{first_so, second_so}
use Rattle.std.specs.List.{list_any}
use Rattle.std.proofs.Math.Bool.{or-false}
use Rattle.std.proofs.lemmas.Bool.{eqb-true, false≢true}
use Rattle.std.proofs.lemmas.List.{append-nil, map-id}
use Rattle.std.proofs.lemmas.List.Folds.{list_any-append}
use Rattle.std.proofs.lemmas.Option.{same_Some}
use Rattle.zk_base.specs.declared.ids.Who.{Who}
use Rattle.zk_base.specs.declared.ids.Entry.{Entry}
use Rattle.zk_base.specs.Legal.{state_after, Replays}
use Rattle.zk_base.proofs.Histories.{state_after-append, state_after-snoc}
use Rattle.zk_model_work.specs.declared.parts.Awaited.{Awaited}
use Rattle.zk_model_work.specs.declared.parts.Awaited.TheVariants as awaiteds
use Rattle.zk_model_work.specs.declared.parts.Wait.{Wait}
use Rattle.zk_model_work.specs.declared.parts.Closing.{Closing}
use Rattle.zk_model_work.specs.declared.parts.Closing.TheVariants as closings
use Rattle.zk_model_work.specs.declared.ops.WorkOp.{WorkOp}
use Rattle.zk_model_work.specs.declared.ops.WorkOp.TheVariants.{Submit, Cancel, CancelStart, CancelDone, FlushStart, FlushDone, Schedule, Reschedule, Remaining, Start, DrainStart, DrainDone, Unplug, Stop, Announce, Begin, End}
use Rattle.zk_model_work.specs.declared.ops.WorkReply.{WorkReply}
use Rattle.zk_model_work.specs.declared.ops.WorkReply.TheVariants as replies
use Rattle.zk_model_work.specs.Questions.{running, is_empty_and_idle}
use Rattle.zk_model_work.specs.State.{State}
use Rattle.zk_model_work.specs.Machine.{disarm, flushed_of, has_come, may_close, answer_where, answer_one, work_reply, work_next, work_machine}
use Rattle.zk_model_work.specs.Answers.{cancel_wait, flush_wait, flush_start_reply, drain_wait, drained_of, wait_for, is_unanswered, closes}
use Rattle.zk_model_work.specs.Histories.{WorkHistory, IsFreshHistory, fits, awaits, is_done_of}
use Rattle.zk_model_work.proofs.Moves.{schedule-keeps, delayed-keeps}
use Rattle.zk_model_work.proofs.AwaitedEnds.{entries-after}
use Rattle.zk_model_work.proofs.Replies.{said-where, fits-reply}

-- the wait that an operation begins, if it begins one
abbrev pub new_wait : State → Who → WorkOp → Option Wait
new_wait s who (CancelStart item) = cancel_wait s.entries who (running s.admissions item)
new_wait s who (FlushStart item) = flush_wait s.entries who (flushed_of s who item)
new_wait s who (DrainStart queue plug) = drain_wait (is_empty_and_idle s.admissions queue) s.entries s.queues who queue
new_wait s who op = None

-- a wait after an operation
abbrev answered_by : State → Who → WorkOp → Wait → Wait
answered_by s who (CancelDone place) w = answer_one s.admissions s.queues closings.Cancel who place w
answered_by s who (FlushDone place) w = answer_one s.admissions s.queues closings.Flush who place w
answered_by s who (DrainDone place) w = answer_one s.admissions s.queues closings.Drain who place w
answered_by s who op w = w

as_they_were : (ws : List Wait) → ws ≡ map (λ (w : Wait). w) ws ++ []
as_they_were ws = sym (append-nil (map (λ (w : Wait). w) ws) ∙ map-id ws)

one_more : (ws zs : List Wait) → ws ++ zs ≡ map (λ (w : Wait). w) ws ++ zs
one_more ws zs = ap (λ (vs : List Wait). vs ++ zs) (sym (map-id ws))

waits-are : (s : State) (who : Who) (op : WorkOp) →
    (work_next s who op).waits ≡ map (answered_by s who op) s.waits ++ option_to_list (new_wait s who op)
waits-are s who (Submit item named) = as_they_were s.waits
waits-are s who (Cancel item) = as_they_were s.waits
waits-are s who (CancelStart item) = one_more s.waits (option_to_list (new_wait s who (CancelStart item)))
waits-are s who (CancelDone place) = sym (append-nil (map (answered_by s who (CancelDone place)) s.waits))
waits-are s who (FlushStart item) = one_more s.waits (option_to_list (new_wait s who (FlushStart item)))
waits-are s who (FlushDone place) = sym (append-nil (map (answered_by s who (FlushDone place)) s.waits))
waits-are s who (Schedule item queue delay) =
    let same = as_they_were s.waits in
    schedule-keeps (λ t. t.waits ≡ map (λ (w : Wait). w) s.waits ++ []) s who item queue delay same same (λ free later. same)
waits-are s who (Reschedule item queue delay) =
    let same = as_they_were s.waits in
    delayed-keeps (λ t. t.waits ≡ map (λ (w : Wait). w) s.waits ++ []) (record s { arms = disarm s.arms item }) who item
    queue delay same (λ later. same)
waits-are s who (Remaining item) = as_they_were s.waits
waits-are s who (Start queue) = as_they_were s.waits
waits-are s who (DrainStart queue plug) = one_more s.waits (option_to_list (new_wait s who (DrainStart queue plug)))
waits-are s who (DrainDone place) = sym (append-nil (map (answered_by s who (DrainDone place)) s.waits))
waits-are s who (Unplug queue) = as_they_were s.waits
waits-are s who (Stop queue) = as_they_were s.waits
waits-are s who (Announce ticks) = as_they_were s.waits
waits-are s who (Begin queue) = as_they_were s.waits
waits-are s who (End queue) = as_they_were s.waits

-- a part of a wait that an answer leaves
part-answered : {A : Type 0} (f : Wait → A) → ((w : Wait) → f (record w { answered = true }) ≡ f w) →
    (b : Bool) (w : Wait) → f (answer_where b w) ≡ f w
part-answered f same true w = same w
part-answered f same false w = refl

part-by : {A : Type 0} (f : Wait → A) → ((w : Wait) → f (record w { answered = true }) ≡ f w) →
    (s : State) (who : Who) (op : WorkOp) (w : Wait) → f (answered_by s who op w) ≡ f w
part-by f same s who (Submit item named) w = refl
part-by f same s who (Cancel item) w = refl
part-by f same s who (CancelStart item) w = refl
part-by f same s who (CancelDone place) w =
    part-answered f same (closes (has_come s.admissions s.queues closings.Cancel) who place w) w
part-by f same s who (FlushStart item) w = refl
part-by f same s who (FlushDone place) w =
    part-answered f same (closes (has_come s.admissions s.queues closings.Flush) who place w) w
part-by f same s who (Schedule item queue delay) w = refl
part-by f same s who (Reschedule item queue delay) w = refl
part-by f same s who (Remaining item) w = refl
part-by f same s who (Start queue) w = refl
part-by f same s who (DrainStart queue plug) w = refl
part-by f same s who (DrainDone place) w =
    part-answered f same (closes (has_come s.admissions s.queues closings.Drain) who place w) w
part-by f same s who (Unplug queue) w = refl
part-by f same s who (Stop queue) w = refl
part-by f same s who (Announce ticks) w = refl
part-by f same s who (Begin queue) w = refl
part-by f same s who (End queue) w = refl

-- the flushes that wait are those that were told so
abbrev pub is_flush_of : ℕ → Awaited → Bool
is_flush_of number (awaiteds.Flush other) = number == other
is_flush_of number awaited = false

any-map : {A : Type 0} (p : A → Bool) (f : A → A) → ((x : A) → p (f x) ≡ p x) → (xs : List A) →
    list_any p (map f xs) ≡ list_any p xs
any-map p f same [] = refl
any-map p f same (x ∷ xs) = ap (λ b. b || list_any p (map f xs)) (same x) ∙ ap (λ b. p x || b) (any-map p f same xs)

-- only a flush is told to wait for an admission
told-by_flush : (number : ℕ) (op : WorkOp) (reply : WorkReply) → fits op reply ≡ true →
    ((other : ℕ) → fits op (replies.WaitFor other) ≡ false) → awaits number reply ≡ false
told-by_flush number op (replies.Sub answer) fit never = refl
told-by_flush number op replies.Armed fit never = refl
told-by_flush number op (replies.Flags flags) fit never = refl
told-by_flush number op (replies.Truth b) fit never = refl
told-by_flush number op replies.Wait fit never = refl
told-by_flush number op (replies.WaitFor other) fit never = absurd (false≢true (sym (never other) ∙ fit))
told-by_flush number op (replies.Number n) fit never = refl
told-by_flush number op replies.Done fit never = refl
told-by_flush number op replies.Already fit never = refl
told-by_flush number op replies.Busy fit never = refl
told-by_flush number op (replies.Now time told) fit never = refl
told-by_flush number op (replies.Run item n) fit never = refl

abbrev flushes_new : ℕ → Option Wait → Bool
flushes_new number o = list_any (λ (w : Wait). is_flush_of number w.awaited) (option_to_list o)

new-flush : (number : ℕ) (s : State) (who : Who) (op : WorkOp) (reply : WorkReply) → work_reply s who op ≡ Some reply →
    flushes_new number (new_wait s who op) ≡ awaits number reply
new-flush number s who (Submit item named) reply is =
    sym (told-by_flush number (Submit item named) reply (fits-reply s who (Submit item named) reply is) (λ n. refl))
new-flush number s who (Cancel item) reply is =
    sym (told-by_flush number (Cancel item) reply (fits-reply s who (Cancel item) reply is) (λ n. refl))
new-flush number s who (CancelStart item) reply is =
    by (running s.admissions item)
    ∙ sym (told-by_flush number (CancelStart item) reply (fits-reply s who (CancelStart item) reply is) (λ n. refl)) where
      by : (o : Option ℕ) → flushes_new number (cancel_wait s.entries who o) ≡ false
      by None = refl
      by (Some n) = refl
new-flush number s who (CancelDone place) reply is =
    sym (told-by_flush number (CancelDone place) reply (fits-reply s who (CancelDone place) reply is) (λ n. refl))
new-flush number s who (FlushStart item) reply is =
    by (flushed_of s who item) (same_Some (flush_start_reply (flushed_of s who item)) reply is) where
      by : (o : Option ℕ) → flush_start_reply o ≡ reply → flushes_new number (flush_wait s.entries who o) ≡ awaits number reply
      by None said = ap (awaits number) said
      by (Some n) said = or-false (number == n) ∙ ap (awaits number) said
new-flush number s who (FlushDone place) reply is =
    sym (told-by_flush number (FlushDone place) reply (fits-reply s who (FlushDone place) reply is) (λ n. refl))
new-flush number s who (Schedule item queue delay) reply is =
    sym (told-by_flush number (Schedule item queue delay) reply (fits-reply s who (Schedule item queue delay) reply is)
    (λ n. refl))
new-flush number s who (Reschedule item queue delay) reply is =
    sym (told-by_flush number (Reschedule item queue delay) reply
    (fits-reply s who (Reschedule item queue delay) reply is) (λ n. refl))
new-flush number s who (Remaining item) reply is =
    sym (told-by_flush number (Remaining item) reply (fits-reply s who (Remaining item) reply is) (λ n. refl))
new-flush number s who (Start queue) reply is =
    sym (told-by_flush number (Start queue) reply (fits-reply s who (Start queue) reply is) (λ n. refl))
new-flush number s who (DrainStart queue plug) reply is =
    by (is_empty_and_idle s.admissions queue)
    ∙ sym (told-by_flush number (DrainStart queue plug) reply (fits-reply s who (DrainStart queue plug) reply is)
    (λ n. refl)) where
      by : (idle : Bool) → flushes_new number (drain_wait idle s.entries s.queues who queue) ≡ false
      by true = refl
      by false = refl
new-flush number s who (DrainDone place) reply is =
    sym (told-by_flush number (DrainDone place) reply (fits-reply s who (DrainDone place) reply is) (λ n. refl))
new-flush number s who (Unplug queue) reply is =
    sym (told-by_flush number (Unplug queue) reply (fits-reply s who (Unplug queue) reply is) (λ n. refl))
new-flush number s who (Stop queue) reply is =
    sym (told-by_flush number (Stop queue) reply (fits-reply s who (Stop queue) reply is) (λ n. refl))
new-flush number s who (Announce ticks) reply is =
    sym (told-by_flush number (Announce ticks) reply (fits-reply s who (Announce ticks) reply is) (λ n. refl))
new-flush number s who (Begin queue) reply is =
    sym (told-by_flush number (Begin queue) reply (fits-reply s who (Begin queue) reply is) (λ n. refl))
new-flush number s who (End queue) reply is =
    sym (told-by_flush number (End queue) reply (fits-reply s who (End queue) reply is) (λ n. refl))

or-assoc : (a b c : Bool) → ((a || b) || c) ≡ (a || (b || c))
or-assoc true b c = refl
or-assoc false b c = refl

pub flushes-after : (number : ℕ) (s : State) (h : WorkHistory) → Replays work_machine s h →
    list_any (λ (w : Wait). is_flush_of number w.awaited) (state_after work_machine s h).waits
    ≡ (list_any (λ (w : Wait). is_flush_of number w.awaited) s.waits || list_any
    (λ (e : Entry WorkOp WorkReply). awaits number e.reply) h)
flushes-after number s [] replays = sym (or-false (list_any (λ (w : Wait). is_flush_of number w.awaited) s.waits))
flushes-after number s (e ∷ es) replays =
    let p : Wait → Bool = λ w. is_flush_of number w.awaited in
    let t = work_next s e.who e.op in
    let rest = list_any (λ (e : Entry WorkOp WorkReply). awaits number e.reply) es in
    let step : list_any p t.waits ≡ (list_any p s.waits || awaits number e.reply) =
    ap (list_any p) (waits-are s e.who e.op)
    ∙ list_any-append p (map (answered_by s e.who e.op) s.waits) (option_to_list (new_wait s e.who e.op))
    ∙ ap (λ b. b || flushes_new number (new_wait s e.who e.op))
    (any-map p (answered_by s e.who e.op) (part-by p (λ w. refl) s e.who e.op) s.waits)
    ∙ ap (λ b. list_any p s.waits || b) (new-flush number s e.who e.op e.reply replays.0) in
    flushes-after number t es replays.1 ∙ ap (λ b. b || rest) step ∙ or-assoc (list_any p s.waits) (awaits number e.reply) rest

-- what an operation that begins a wait says of it
abbrev NewParts : State → Who → Wait → Type 0
NewParts s who w = (w.place ≡ s.entries) × (w.player ≡ who.number) × (w.answered ≡ false)

new-one : (s : State) (who : Who) (a : Awaited) (w : Wait) → Some (wait_for s.entries who a) ≡ Some w → NewParts s who w
new-one s who a w is = let same = same_Some (wait_for s.entries who a) w is in
    (ap (λ (v : Wait). v.place) (sym same), ap (λ (v : Wait). v.player) (sym same), ap (λ (v : Wait). v.answered) (sym same))

pub new-parts : (s : State) (who : Who) (op : WorkOp) (w : Wait) → new_wait s who op ≡ Some w → NewParts s who w
new-parts s who (Submit item named) w is = absurd (cc)
new-parts s who (Cancel item) w is = absurd (cc)
new-parts s who (CancelStart item) w is = by (running s.admissions item) is where
  by : (o : Option ℕ) → cancel_wait s.entries who o ≡ Some w → NewParts s who w
  by None is = absurd (cc)
  by (Some n) is = new-one s who (awaiteds.Cancel n) w is
new-parts s who (CancelDone place) w is = absurd (cc)
new-parts s who (FlushStart item) w is = by (flushed_of s who item) is where
  by : (o : Option ℕ) → flush_wait s.entries who o ≡ Some w → NewParts s who w
  by None is = absurd (cc)
  by (Some n) is = new-one s who (awaiteds.Flush n) w is
new-parts s who (FlushDone place) w is = absurd (cc)
new-parts s who (Schedule item queue delay) w is = absurd (cc)
new-parts s who (Reschedule item queue delay) w is = absurd (cc)
new-parts s who (Remaining item) w is = absurd (cc)
new-parts s who (Start queue) w is = absurd (cc)
new-parts s who (DrainStart queue plug) w is = by (is_empty_and_idle s.admissions queue) is where
  by : (idle : Bool) → drain_wait idle s.entries s.queues who queue ≡ Some w → NewParts s who w
  by true is = absurd (cc)
  by false is = new-one s who (awaiteds.Drain queue (drained_of s.queues queue)) w is
new-parts s who (DrainDone place) w is = absurd (cc)
new-parts s who (Unplug queue) w is = absurd (cc)
new-parts s who (Stop queue) w is = absurd (cc)
new-parts s who (Announce ticks) w is = absurd (cc)
new-parts s who (Begin queue) w is = absurd (cc)
new-parts s who (End queue) w is = absurd (cc)

-- a wait as it began
abbrev pub unanswered : Wait → Wait
unanswered w = record w { answered = false }

-- a wait has its start in the history, and is answered where a Done of it stands behind
pub record HasWait (start : State) (h : WorkHistory) (w : Wait) : Type 0 where
  pub before : WorkHistory
  pub since : WorkHistory
  pub first : Entry WorkOp WorkReply
  pub parts : h ≡ before ++ first ∷ since
  pub begins : new_wait (state_after work_machine start before) first.who first.op ≡ Some (unanswered w)
  pub replied : work_reply (state_after work_machine start before) first.who first.op ≡ Some first.reply
  pub answered : w.answered ≡ list_any (λ (e : Entry WorkOp WorkReply). is_done_of w.place e.op) since

-- two parts of one list that are as long
pub split : {A : Type 0} (xs ys : List A) (x y : A) (vs ws : List A) → xs ++ x ∷ vs ≡ ys ++ y ∷ ws →
    length xs ≡ length ys → (xs ≡ ys) × (x ≡ y) × (vs ≡ ws)
split [] [] x y vs ws same long = (refl, cc, cc)
split [] (b ∷ bs) x y vs ws same long = absurd (omega arith)
split (a ∷ cs) [] x y vs ws same long = absurd (omega arith)
split {A} (a ∷ cs) (b ∷ bs) x y vs ws same long =
    let tails : cs ++ x ∷ vs ≡ bs ++ y ∷ ws = cc in
    let heads : a ≡ b = cc in
    let rest = split cs bs x y vs ws tails (omega arith) in
    (ap (λ (c : A). c ∷ cs) heads ∙ ap (λ (ds : List A). b ∷ ds) rest.0, rest.1, rest.2)

-- the place of a wait is that of its start
pub wait-at : (start : State) (h : WorkHistory) (w : Wait) → (it : HasWait start h w) → w.place ≡ start.entries + length it.before
wait-at start h w it =
    (new-parts (state_after work_machine start it.before) it.first.who it.first.op (unanswered w) it.begins).0
    ∙ entries-after start it.before

-- where the start stands is known by the place
pub same-start : (start : State) (h : WorkHistory) (w : Wait) (before since : WorkHistory)
    (first : Entry WorkOp WorkReply) → h ≡ before ++ first ∷ since → w.place ≡ start.entries + length before →
    (it : HasWait start h w) →
    (it.before ≡ before) × (it.first ≡ first) × (it.since ≡ since)
same-start start h w before since first_one parts place it =
    let at = wait-at start h w it in
    split it.before before it.first first_one it.since since (sym it.parts ∙ parts) (omega arith)

-- and so the waits of one place are one
one-wait : (start : State) (h : WorkHistory) (w v : Wait) → HasWait start h w → HasWait start h v → w.place ≡ v.place → w ≡ v
one-wait start h w v one two same =
    let at = wait-at start h v two in
    let parts = same-start start h w two.before two.since two.first two.parts (same ∙ at) one in
    let begun : Some (unanswered w) ≡ Some (unanswered v) =
    sym one.begins ∙ ap (λ (b : WorkHistory). new_wait (state_after work_machine start b) one.first.who one.first.op) parts.0
    ∙ ap (λ (e : Entry WorkOp WorkReply). new_wait (state_after work_machine start two.before) e.who e.op) parts.1 ∙ two.begins in
    let told : w.answered ≡ v.answered =
    one.answered ∙ ap (λ n. list_any (λ (e : Entry WorkOp WorkReply). is_done_of n e.op) one.since) same
    ∙ ap (λ (l : WorkHistory). list_any (λ (e : Entry WorkOp WorkReply). is_done_of v.place e.op) l) parts.2 ∙ sym two.answered in
    ap (λ (u : Wait). record u { answered = w.answered }) (same_Some (unanswered w) (unanswered v) begun)
    ∙ ap (λ b. record v { answered = b }) told

-- an element that passes
pub any-at : {A : Type 0} (p : A → Bool) (xs : List A) → list_any p xs ≡ true →
    (n : ℕ) × (a : A) × (slice_get xs n ≡ Some a) × (p a ≡ true)
any-at p [] is = absurd (cc)
any-at {A} p (x ∷ xs) is = by (p x) refl is (any-at p xs) where
  by : (b : Bool) → p x ≡ b → (b || list_any p xs) ≡ true →
      (list_any p xs ≡ true → (n : ℕ) × (a : A) × (slice_get xs n ≡ Some a) × (p a ≡ true)) →
      (n : ℕ) × (a : A) × (slice_get (x ∷ xs) n ≡ Some a) × (p a ≡ true)
  by true here is further = (0, x, refl, here)
  by false here is further = let it = further is in (suc it.0, it.1, it.2, it.3)

pub at-any : {A : Type 0} (p : A → Bool) (xs : List A) (n : ℕ) (a : A) → slice_get xs n ≡ Some a → p a ≡ true →
    list_any p xs ≡ true
at-any p [] n a at passes = absurd (cc)
at-any p (x ∷ xs) zero a at passes = ap (λ b. b || list_any p xs) (ap p (same_Some x a at) ∙ passes)
at-any p (x ∷ xs) (suc n) a at passes = ap (λ b. p x || b) (at-any p xs n a at passes) ∙ or-true (p x) where
  or-true : (b : Bool) → (b || true) ≡ true
  or-true true = refl
  or-true false = refl

-- what a Done finds: a wait of the player at this place that isn't answered
pub record Closing_of (ws : List Wait) (player place : ℕ) : Type 0 where
  pub index : ℕ
  pub wait : Wait
  pub there : slice_get ws index ≡ Some wait
  pub at : wait.place ≡ place
  pub same : wait.player ≡ player
  pub waits : wait.answered ≡ false

not-true : (b : Bool) → not b ≡ true → b ≡ false
not-true true is = absurd (false≢true is)
not-true false is = refl

pub closing-of : (s : State) (closing : Closing) (who : Who) (place : ℕ) → may_close s closing who place ≡ true →
    (it : Closing_of s.waits who.number place) × (has_come s.admissions s.queues closing it.wait.awaited ≡ true)
closing-of s closing who place may =
    let it = any-at (closes (has_come s.admissions s.queues closing) who place) s.waits may in
    let w = it.1 in
    let come = second_so (is_unanswered place who.number w) (has_come s.admissions s.queues closing w.awaited) it.3 in
    let three = first_so (is_unanswered place who.number w) (has_come s.admissions s.queues closing w.awaited) it.3 in
    let two = first_so ((w.place == place) && (w.player == who.number)) (not w.answered) three in (
      record {
        index = it.0;
        wait = w;
        there = it.2;
        at = eqb-true w.place place (first_so (w.place == place) (w.player == who.number) two);
        same = eqb-true w.player who.number (second_so (w.place == place) (w.player == who.number) two);
        waits = not-true w.answered (second_so ((w.place == place) && (w.player == who.number)) (not w.answered) three);
      },
      come,
    )

-- a wait after an entry of a history: it is answered where it was, or where the entry is a Done of it
abbrev AllHave : State → WorkHistory → Type 0
AllHave start h = (n : ℕ) (w : Wait) → slice_get (state_after work_machine start h).waits n ≡ Some w → HasWait start h w

or-yes : (b : Bool) → (b || true) ≡ true
or-yes true = refl
or-yes false = refl

closes-place : (come : Awaited → Bool) (who : Who) (place : ℕ) (v : Wait) → closes come who place v ≡ true → v.place ≡ place
closes-place come who place v is =
    let three = first_so (is_unanswered place who.number v) (come v.awaited) is in
    let two = first_so ((v.place == place) && (v.player == who.number)) (not v.answered) three in
    eqb-true v.place place (first_so (v.place == place) (v.player == who.number) two)

answered-done : (start : State) (h : WorkHistory) (closing : Closing) (who : Who) (place : ℕ) (w : Wait) →
    AllHave start h → HasWait start h w →
    may_close (state_after work_machine start h) closing who place ≡ true →
    let s = state_after work_machine start h in
    (answer_one s.admissions s.queues closing who place w).answered ≡ (w.answered || (w.place == place))
answered-done start h closing who place w all has may = by (w.place == place) refl where
  s : State
  s = state_after work_machine start h

  closed : (b : Bool) → closes (has_come s.admissions s.queues closing) who place w ≡ b →
      (answer_where b w).answered ≡ (w.answered || b)
  closed true is = sym (or-yes w.answered)
  closed false is = sym (or-false w.answered)

  by : (b : Bool) → (w.place == place) ≡ b → (answer_one s.admissions s.queues closing who place w).answered ≡ (w.answered || b)
  by true at =
      let found = any-at (closes (has_come s.admissions s.queues closing) who place) s.waits may in
      let v = found.1 in
      let v_at : v.place ≡ place = closes-place (has_come s.admissions s.queues closing) who place v found.3 in
      let same = one-wait start h w v has (all found.0 v found.2) (eqb-true w.place place at ∙ sym v_at) in
      let is : closes (has_come s.admissions s.queues closing) who place w ≡ true =
      ap (closes (has_come s.admissions s.queues closing) who place) same ∙ found.3 in
      ap (λ b. (answer_where b w).answered) is ∙ sym (or-yes w.answered)
  by false at =
      let is : closes (has_come s.admissions s.queues closing) who place w ≡ false =
      ap (λ b. ((b && (w.player == who.number)) && not w.answered) && has_come s.admissions s.queues closing w.awaited) at in
      ap (λ b. (answer_where b w).answered) is ∙ sym (or-false w.answered)

answered-next : (start : State) (h : WorkHistory) (who : Who) (op : WorkOp) (reply : WorkReply) (w : Wait) →
    AllHave start h → HasWait start h w → work_reply (state_after work_machine start h) who op ≡ Some reply →
    (answered_by (state_after work_machine start h) who op w).answered ≡ (w.answered || is_done_of w.place op)
answered-next start h who (Submit item named) reply w all has is = sym (or-false w.answered)
answered-next start h who (Cancel item) reply w all has is = sym (or-false w.answered)
answered-next start h who (CancelStart item) reply w all has is = sym (or-false w.answered)
answered-next start h who (CancelDone place) reply w all has is =
    answered-done start h closings.Cancel who place w all has
    (said-where (may_close (state_after work_machine start h) closings.Cancel who place) (replies.Truth true) reply is).0
answered-next start h who (FlushStart item) reply w all has is = sym (or-false w.answered)
answered-next start h who (FlushDone place) reply w all has is =
    answered-done start h closings.Flush who place w all has
    (said-where (may_close (state_after work_machine start h) closings.Flush who place) (replies.Truth true) reply is).0
answered-next start h who (Schedule item queue delay) reply w all has is = sym (or-false w.answered)
answered-next start h who (Reschedule item queue delay) reply w all has is = sym (or-false w.answered)
answered-next start h who (Remaining item) reply w all has is = sym (or-false w.answered)
answered-next start h who (Start queue) reply w all has is = sym (or-false w.answered)
answered-next start h who (DrainStart queue plug) reply w all has is = sym (or-false w.answered)
answered-next start h who (DrainDone place) reply w all has is =
    answered-done start h closings.Drain who place w all has
    (said-where (may_close (state_after work_machine start h) closings.Drain who place) (replies.Number 1) reply is).0
answered-next start h who (Unplug queue) reply w all has is = sym (or-false w.answered)
answered-next start h who (Stop queue) reply w all has is = sym (or-false w.answered)
answered-next start h who (Announce ticks) reply w all has is = sym (or-false w.answered)
answered-next start h who (Begin queue) reply w all has is = sym (or-false w.answered)
answered-next start h who (End queue) reply w all has is = sym (or-false w.answered)

-- an element of a list that was mapped, with one more behind it
mapped-more : (f : Wait → Wait) (ws : List Wait) (o : Option Wait) (n : ℕ) (v : Wait) →
    slice_get (map f ws ++ option_to_list o) n ≡ Some v →
    ((w : Wait) × (slice_get ws n ≡ Some w) × (f w ≡ v)) ⊎ (o ≡ Some v)
mapped-more f [] None n v at = absurd (cc)
mapped-more f [] (Some w) zero v at = inr at
mapped-more f [] (Some w) (suc n) v at = absurd (cc)
mapped-more f (w ∷ ws) o zero v at = inl (w, refl, same_Some (f w) v at)
mapped-more f (w ∷ ws) o (suc n) v at = mapped-more f ws o n v at

-- one entry more
have-next : (start : State) (past : WorkHistory) (e : Entry WorkOp WorkReply) →
    work_reply (state_after work_machine start past) e.who e.op ≡ Some e.reply → AllHave start past →
    AllHave start (past ++ e ∷ [])
have-next start past e is all n v at = by (mapped-more (answered_by s e.who e.op) s.waits (new_wait s e.who e.op) n v there) where
  s : State
  s = state_after work_machine start past

  there : slice_get (map (answered_by s e.who e.op) s.waits ++ option_to_list (new_wait s e.who e.op)) n ≡ Some v
  there = ap (λ (ws : List Wait). slice_get ws n) (sym (waits-are s e.who e.op))
      ∙ ap (λ (u : State). slice_get u.waits n) (sym (state_after-snoc work_machine start past e)) ∙ at

  by : ((w : Wait) × (slice_get s.waits n ≡ Some w) × (answered_by s e.who e.op w ≡ v))
      ⊎ (new_wait s e.who e.op ≡ Some v) → HasWait start (past ++ e ∷ []) v
  by (inl old) =
      let has = all n old.0 old.1 in
      let same : unanswered old.0 ≡ unanswered v =
      sym (part-by unanswered (λ w. refl) s e.who e.op old.0) ∙ ap unanswered old.2 in
      let place : old.0.place ≡ v.place =
      sym (part-by (λ (w : Wait). w.place) (λ w. refl) s e.who e.op old.0) ∙ ap (λ (w : Wait). w.place) old.2 in
      let done : Entry WorkOp WorkReply → Bool = λ f. is_done_of old.0.place f.op in
      record {
        before = has.before;
        since = has.since ++ e ∷ [];
        first = has.first;
        parts = ap (λ (l : WorkHistory). l ++ e ∷ []) has.parts ∙ append_assoc has.before (has.first ∷ has.since) (e ∷ []);
        begins = has.begins ∙ ap Some same;
        replied = has.replied;
        answered =
            ap (λ (w : Wait). w.answered) (sym old.2) ∙ answered-next start past e.who e.op e.reply old.0 all has is
            ∙ ap (λ b. b || is_done_of old.0.place e.op) has.answered
            ∙ ap (λ b. list_any done has.since || b) (sym (or-false (is_done_of old.0.place e.op)))
            ∙ sym (list_any-append done has.since (e ∷ []))
            ∙ ap (λ p. list_any (λ (f : Entry WorkOp WorkReply). is_done_of p f.op) (has.since ++ e ∷ [])) place;
      }
  by (inr new) =
      let told : v.answered ≡ false = (new-parts s e.who e.op v new).2 in
      let as_new : v ≡ unanswered v = ap (λ b. record v { answered = b }) told in
      record { before = past; since = []; first = e; parts = refl; begins = new ∙ ap Some as_new; replied = is; answered = told }

have-rest : (start : State) (past rest : WorkHistory) → Replays work_machine (state_after work_machine start past) rest →
    AllHave start past → AllHave start (past ++ rest)
have-rest start past [] replays all = subst (AllHave start) (sym (append-nil past)) all
have-rest start past (e ∷ es) replays all =
    let s = state_after work_machine start past in
    let more = have-next start past e replays.0 all in
    let next = state_after-snoc work_machine start past e in
    subst (AllHave start) (append_assoc past (e ∷ []) es)
    (have-rest start (past ++ e ∷ []) es (subst (λ (u : State). Replays work_machine u es) (sym next) replays.1) more)

-- each wait after a history has its start
pub all-have : (start : State) (h : WorkHistory) → IsFreshHistory start h → AllHave start h
all-have start h fresh =
    have-rest start [] h fresh.work.legal.0
    (λ n w at. absurd (nothing (ap (λ (ws : List Wait). slice_get ws n) (sym fresh.waits) ∙ at))) where
      nothing : {w : Wait} → None ≡ Some w → ⊥
      nothing is = cc

-- and each start that had to wait has its wait
still-mapped : (f : Wait → Wait) (ws zs : List Wait) (n : ℕ) (w : Wait) → slice_get ws n ≡ Some w →
    slice_get (map f ws ++ zs) n ≡ Some (f w)
still-mapped f [] zs n w at = absurd (cc)
still-mapped f (v ∷ ws) zs zero w at = ap (option_map f) at
still-mapped f (v ∷ ws) zs (suc n) w at = still-mapped f ws zs n w at

last-mapped : (f : Wait → Wait) (ws : List Wait) (w : Wait) → slice_get (map f ws ++ w ∷ []) (length ws) ≡ Some w
last-mapped f [] w = refl
last-mapped f (v ∷ ws) w = last-mapped f ws w

wait-after : (s : State) (h : WorkHistory) (n : ℕ) (w : Wait) → slice_get s.waits n ≡ Some w →
    (v : Wait) × (slice_get (state_after work_machine s h).waits n ≡ Some v) × (v.place ≡ w.place)
wait-after s [] n w at = (w, at, refl)
wait-after s (e ∷ es) n w at =
    let v = answered_by s e.who e.op w in
    let next : slice_get (work_next s e.who e.op).waits n ≡ Some v =
    ap (λ (ws : List Wait). slice_get ws n) (waits-are s e.who e.op)
    ∙ still-mapped (answered_by s e.who e.op) s.waits (option_to_list (new_wait s e.who e.op)) n w at in
    let it = wait-after (work_next s e.who e.op) es n v next in
    (it.0, it.1, it.2 ∙ part-by (λ (w : Wait). w.place) (λ w. refl) s e.who e.op w)

pub has-wait : (start : State) (before since : WorkHistory) (first : Entry WorkOp WorkReply) (w : Wait) →
    new_wait (state_after work_machine start before) first.who first.op ≡ Some w →
    (n : ℕ) × (v : Wait) × (slice_get (state_after work_machine start (before ++ first ∷ since)).waits n ≡ Some v)
    × (v.place ≡ w.place)
has-wait start before since first_one w new =
    let s = state_after work_machine start before in
    let t = work_next s first_one.who first_one.op in
    let here : slice_get t.waits (length s.waits) ≡ Some w =
    ap (λ (ws : List Wait). slice_get ws (length s.waits)) (waits-are s first_one.who first_one.op)
    ∙ ap (λ (o : Option Wait). slice_get (map (answered_by s first_one.who first_one.op) s.waits ++ option_to_list o)
    (length s.waits)) new
    ∙ last-mapped (answered_by s first_one.who first_one.op) s.waits w in
    let it = wait-after t since (length s.waits) w here in (
      length s.waits,
      it.0,
      ap (λ (u : State). slice_get u.waits (length s.waits))
          (state_after-append work_machine start before (first_one ∷ since)) ∙ it.1,
      it.2,
    )

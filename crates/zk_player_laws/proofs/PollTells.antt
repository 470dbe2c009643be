-- What services tell a poll, in each legal history.
use Rattle.std.proofs.Common.{◌≡◌, ℕ, zero, suc, ◌≤◌, ◌+◌, Bool, true, false, ◌||◌, ◌==◌, Some, None, List, [], ◌∷◌, refl, sym, ap, subst, ◌∙◌, ◌⊎◌, inl, inr, ⊎_elim, arith}
use Rattle.std.proofs.lemmas.Bool.{or_left}
use Rattle.std.proofs.lemmas.Option.{same_Some, cond_some}
use Rattle.zk_base.specs.declared.ids.Entry.{Entry}
use Rattle.zk_base.specs.History.{IsEntry}
use Rattle.zk_base.specs.Legal.{IsLegal}
use Rattle.zk_base.specs.WaitLaws.{is_at, finishes, decision, WasDecided, KeepsWaits}
use Rattle.zk_base.proofs.Histories.{IsLegal-front}
use Rattle.zk_base.proofs.WaitsOnce.{eqb-same}
use Rattle.zk_model_wait.specs.declared.clock.ClockOp.TheVariants as clock_ops
use Rattle.zk_model_wait.specs.declared.clock.ClockReply.{ClockReply}
use Rattle.zk_model_wait.specs.declared.clock.ClockReply.TheVariants as clock_replies
use Rattle.zk_model_wait.specs.declared.msgq.MsgqOp.{MsgqOp}
use Rattle.zk_model_wait.specs.declared.msgq.MsgqOp.TheVariants as msgq_ops
use Rattle.zk_model_wait.specs.declared.msgq.MsgqReply.{MsgqReply}
use Rattle.zk_model_wait.specs.declared.msgq.MsgqReply.TheVariants as msgq_replies
use Rattle.zk_model_wait.specs.declared.sem.SemOp.{SemOp}
use Rattle.zk_model_wait.specs.declared.sem.SemOp.TheVariants as sem_ops
use Rattle.zk_model_wait.specs.declared.sem.SemReply.{SemReply}
use Rattle.zk_model_wait.specs.declared.sem.SemReply.TheVariants as sem_replies
use Rattle.zk_model_wait.specs.Clock.{is_due}
use Rattle.zk_model_wait.specs.Sem.{new_sem, sem_machine}
use Rattle.zk_model_wait.specs.SemLaws as sem_laws
use Rattle.zk_model_wait.specs.SemWaits as sem_waits
use Rattle.zk_model_wait.specs.Msgq.{new_msgq, msgq_machine}
use Rattle.zk_model_wait.specs.MsgqLaws as msgq_laws
use Rattle.zk_model_wait.specs.MsgqWaits as msgq_waits
use Rattle.zk_model_wait.proofs.SemPolls as sem_polls
use Rattle.zk_model_wait.proofs.MsgqPolls as msgq_polls
use Rattle.zk_worker.specs.declared.steps.Step.TheVariants as steps
use Rattle.zk_worker.specs.declared.steps.StepReply.TheVariants as step_replies
use Rattle.zk_player_laws.specs.PollLaws.{may_reply, sem_may_tell, msgq_may_tell}
use Rattle.zk_player_laws.specs.PollReplies.{SemTellsPolls, MsgqTellsPolls, ClockTellsPolls}

sem-arm : (count : ℕ) (waits : Bool) (reply : SemReply) → sem_laws.PollIsTold count waits reply → sem_may_tell (sem_ops.PollArm waits) reply ≡ true
sem-arm zero true reply told = ap (λ (r : SemReply). sem_may_tell (sem_ops.PollArm true) r) (told.armed refl refl)
sem-arm zero false reply told = ap (λ (r : SemReply). sem_may_tell (sem_ops.PollArm false) r) (told.not_ready refl refl)
sem-arm (suc n) waits reply told = ap (λ (r : SemReply). sem_may_tell (sem_ops.PollArm waits) r) (told.ready (omega arith))

-- the end of a poll, or one that is given up, tells its note, or that there was none
sem-closes : (initial limit : ℕ) → initial ≤ limit → (h : sem_laws.SemHistory) → IsLegal sem_machine (new_sem initial limit) h → (front : sem_laws.SemHistory) (e : Entry SemOp SemReply) (place : ℕ) →
    IsEntry h front e → finishes sem_waits.pollers place e ≡ true →
    (e.reply ≡ sem_replies.Noted) ⊎ ((sem_waits.poll_quits e.op ≡ Some place) × (e.reply ≡ sem_replies.Plain))
sem-closes initial limit low h legal front e place at ends =
    let kept : KeepsWaits sem_machine sem_waits.pollers (new_sem initial limit) h = sem_polls.pollers_hold initial limit low h legal in
    let before : IsLegal sem_machine (new_sem initial limit) front =
    IsLegal-front sem_machine (new_sem initial limit) front (e ∷ at.rest) (subst (IsLegal sem_machine (new_sem initial limit)) at.whole legal) in
    ⊎_elim
    (λ decided. let was : WasDecided sem_machine sem_waits.pollers (new_sem initial limit) front (decision place e.who.number e.reply) = decided.1 in
    inl (sem_polls.noted_at_a_chance initial limit low front before was.front was.e (decision place e.who.number e.reply) was.at was.here).1)
    (λ given_up. inr (given_up.1, given_up.2))
    (kept.answers front e place at ends)

pub sem_tells_polls : sem_laws.OfEachSem SemTellsPolls
sem_tells_polls initial limit low h legal front e at polls = by e.op refl polls where
  noted : (op : SemOp) → sem_may_tell op sem_replies.Noted ≡ true → e.reply ≡ sem_replies.Noted → sem_may_tell op e.reply ≡ true
  noted op may is = ap (λ (r : SemReply). sem_may_tell op r) is ∙ may

  by : (op : SemOp) → e.op ≡ op → sem_laws.polls op ≡ true → sem_may_tell op e.reply ≡ true
  by (sem_ops.PollArm waits) is polls =
      sem-arm (sem_laws.sem_after_all (new_sem initial limit) front).count waits e.reply (sem_polls.poll_arm_answers initial limit low h legal front e waits at is)
  by (sem_ops.PollEnd place) is polls =
      let ends : finishes sem_waits.pollers place e ≡ true =
      ap (λ (op : SemOp). is_at place (sem_waits.poll_ends op) || is_at place (sem_waits.poll_quits op)) is ∙ or_left (place == place) false (eqb-same place) in
      ⊎_elim (noted (sem_ops.PollEnd place) refl)
      (λ given_up. let none : None ≡ Some place = sym (ap sem_waits.poll_quits is) ∙ given_up.0 in absurd (cc))
      (sem-closes initial limit low h legal front e place at ends)
  by (sem_ops.PollQuit place) is polls =
      let ends : finishes sem_waits.pollers place e ≡ true =
      ap (λ (op : SemOp). is_at place (sem_waits.poll_ends op) || is_at place (sem_waits.poll_quits op)) is ∙ eqb-same place in
      ⊎_elim (noted (sem_ops.PollQuit place) refl)
      (λ given_up. ap (λ (r : SemReply). sem_may_tell (sem_ops.PollQuit place) r) given_up.1)
      (sem-closes initial limit low h legal front e place at ends)
  by op is polls = absurd (cc)

msgq-arm : (messages : List (List ℕ)) (waits : Bool) (reply : MsgqReply) → msgq_laws.PollIsTold messages waits reply → msgq_may_tell (msgq_ops.PollArm waits) reply ≡ true
msgq-arm [] true reply told = ap (λ (r : MsgqReply). msgq_may_tell (msgq_ops.PollArm true) r) (told.armed refl refl)
msgq-arm [] false reply told = ap (λ (r : MsgqReply). msgq_may_tell (msgq_ops.PollArm false) r) (told.not_ready refl refl)
msgq-arm (m ∷ ms) waits reply told = ap (λ (r : MsgqReply). msgq_may_tell (msgq_ops.PollArm waits) r) (told.ready (omega arith))

-- the same at a message queue
msgq-closes : (most : ℕ) → (h : msgq_laws.MsgqHistory) → IsLegal msgq_machine (new_msgq most) h → (front : msgq_laws.MsgqHistory) (e : Entry MsgqOp MsgqReply) (place : ℕ) →
    IsEntry h front e → finishes msgq_waits.pollers place e ≡ true →
    (e.reply ≡ msgq_replies.Noted) ⊎ ((msgq_waits.poll_quits e.op ≡ Some place) × (e.reply ≡ msgq_replies.Plain))
msgq-closes most h legal front e place at ends =
    let kept : KeepsWaits msgq_machine msgq_waits.pollers (new_msgq most) h = msgq_polls.pollers_hold most h legal in
    let before : IsLegal msgq_machine (new_msgq most) front =
    IsLegal-front msgq_machine (new_msgq most) front (e ∷ at.rest) (subst (IsLegal msgq_machine (new_msgq most)) at.whole legal) in
    ⊎_elim
    (λ decided. let was : WasDecided msgq_machine msgq_waits.pollers (new_msgq most) front (decision place e.who.number e.reply) = decided.1 in
    inl (msgq_polls.noted_at_a_chance most front before was.front was.e (decision place e.who.number e.reply) was.at was.here).1)
    (λ given_up. inr (given_up.1, given_up.2))
    (kept.answers front e place at ends)

pub msgq_tells_polls : msgq_laws.OfEachMsgq MsgqTellsPolls
msgq_tells_polls most h legal front e at polls = by e.op refl polls where
  noted : (op : MsgqOp) → msgq_may_tell op msgq_replies.Noted ≡ true → e.reply ≡ msgq_replies.Noted → msgq_may_tell op e.reply ≡ true
  noted op may is = ap (λ (r : MsgqReply). msgq_may_tell op r) is ∙ may

  by : (op : MsgqOp) → e.op ≡ op → msgq_laws.polls op ≡ true → msgq_may_tell op e.reply ≡ true
  by (msgq_ops.PollArm waits) is polls =
      msgq-arm (msgq_laws.msgq_after_all (new_msgq most) front).messages waits e.reply (msgq_polls.poll_arm_answers most h legal front e waits at is)
  by (msgq_ops.PollEnd place) is polls =
      let ends : finishes msgq_waits.pollers place e ≡ true =
      ap (λ (op : MsgqOp). is_at place (msgq_waits.poll_ends op) || is_at place (msgq_waits.poll_quits op)) is ∙ or_left (place == place) false (eqb-same place) in
      ⊎_elim (noted (msgq_ops.PollEnd place) refl)
      (λ given_up. let none : None ≡ Some place = sym (ap msgq_waits.poll_quits is) ∙ given_up.0 in absurd (cc))
      (msgq-closes most h legal front e place at ends)
  by (msgq_ops.PollQuit place) is polls =
      let ends : finishes msgq_waits.pollers place e ≡ true =
      ap (λ (op : MsgqOp). is_at place (msgq_waits.poll_ends op) || is_at place (msgq_waits.poll_quits op)) is ∙ eqb-same place in
      ⊎_elim (noted (msgq_ops.PollQuit place) refl)
      (λ given_up. ap (λ (r : MsgqReply). msgq_may_tell (msgq_ops.PollQuit place) r) given_up.1)
      (msgq-closes most h legal front e place at ends)
  by op is polls = absurd (cc)

pub clock_tells_polls : ClockTellsPolls
clock_tells_polls c who (clock_ops.Announce ticks) reply place is alarm = absurd (cc)
clock_tells_polls c who (clock_ops.Alarm ticks) reply place is alarm =
    ap (λ (r : ClockReply). may_reply (steps.Clock (clock_ops.Alarm ticks), step_replies.Clock r place)) (sym (same_Some (clock_replies.At (c.time + ticks)) reply is))
clock_tells_polls c who (clock_ops.AlarmEnd moment) reply place is alarm =
    ap (λ (r : ClockReply). may_reply (steps.Clock (clock_ops.AlarmEnd moment), step_replies.Clock r place))
    (sym (cond_some (is_due c.time c.alarms who.number moment) clock_replies.Due reply is).1)

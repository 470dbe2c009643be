-- Each poll that a player answers has its play among the player's steps.
use Rattle.std.proofs.Common.{◌≡◌, ◌⊎◌, inl, inr, ℕ, false, List, [], ◌∷◌, refl, sym, ap, subst, ◌∙◌}
use Rattle.std.proofs.lemmas.List.Elements.{All-weaker}
use Rattle.zk_line.specs.declared.types.Call.{Call}
use Rattle.zk_line.specs.declared.types.Call.TheVariants as calls
use Rattle.zk_line.specs.declared.events.Event.{Event}
use Rattle.zk_line.specs.Calls.{word_of}
use Rattle.zk_scenario.specs.Content.{Content}
use Rattle.zk_words.specs.declared.timeout.Timeout.{Timeout}
use Rattle.zk_words.specs.declared.word.Word.{Word}
use Rattle.zk_words.specs.declared.word.Word.TheVariants as words
use Rattle.zk_worker.specs.declared.answers.Answer.{Answer}
use Rattle.zk_worker.specs.declared.answers.Answered.{Answered}
use Rattle.zk_worker.specs.declared.frames.Plan.TheVariants.{Poll}
use Rattle.zk_worker.specs.declared.frames.Stage.{Stage}
use Rattle.zk_player_laws.specs.CallLaws.{is_in_use, IsUseOf}
use Rattle.zk_worker.specs.Calls.{plan_of}
use Rattle.zk_player_laws.specs.CheckLaws.{BeginsCall}
use Rattle.zk_worker.specs.Checks.{is_oops}
use Rattle.zk_player_laws.specs.PollLaws.{LeadsOn, IsAnswered}
use Rattle.zk_worker.specs.Follows.{StepMade}
use Rattle.zk_player_laws.specs.PollLogs.{IsPollOf, EachPollIsPlayed}
use Rattle.zk_player_laws.proofs.CallsPlayed as plays
use Rattle.zk_player_laws.proofs.CallsPlayed.{IsPlayOf, IsDone, each_call_is_played}

-- a call of this word is a poll
poll-word : (call : Call) → word_of call ≡ words.Poll → (timeout : Timeout) × (events : List Event) × (call ≡ calls.Poll timeout events)
poll-word (calls.Poll timeout events) is = (timeout, events, refl)
poll-word call is = absurd (cc)

-- the steps of a call that is a poll are those of a poll
pub poll-leads : (word : Word) (timeout : Timeout) (events : List Event) (stage : Stage) (play : List StepMade) (end : Stage) → plays.LeadsOn word (Poll timeout events) stage play end →
    LeadsOn word timeout events stage play end
poll-leads word timeout events stage [] end led = led
poll-leads word timeout events stage (made ∷ more) end led =
    (led.0, record { index = led.1.index; ahead = led.1.ahead; comes = led.1.comes }, poll-leads word timeout events led.0 more end led.2)

poll-done : (word : Word) (timeout : Timeout) (events : List Event) (play : List StepMade) (answer : Answer) → IsDone word (Poll timeout events) play answer → IsAnswered word timeout events play answer
poll-done word timeout events play answer done = record {
  front = done.front;
  last = done.last;
  stage = done.stage;
  whole = done.whole;
  led = poll-leads word timeout events _ done.front done.stage done.led;
  answered = record { index = done.answered.index; ahead = done.answered.ahead; comes = done.answered.comes };
}

of-play : (s : Content) (number : ℕ) (made : List StepMade) (a : Answered) → a.word ≡ words.Poll → IsPlayOf s number made a → IsPollOf s number made a
of-play s number made a poll of =
    let polls = poll-word of.call (sym of.is_word ∙ poll) in
    let done : IsDone words.Poll (Poll polls.0 polls.1) of.play a.answer = subst (λ (c : Call). IsDone (word_of c) (plan_of s.decls c) of.play a.answer) polls.2 of.done in
    record {
      owner = of.owner;
      next = of.next;
      timeout = polls.0;
      events = polls.1;
      below = of.below;
      before = of.before;
      play = of.play;
      rest = of.rest;
      whole = of.whole;
      last = of.last;
      begins = subst (λ (c : Call). BeginsCall s number of.before of.owner of.next c of.below) polls.2 of.begins;
      answered = subst (λ (w : Word). IsAnswered w polls.0 polls.1 of.play a.answer) (sym poll) (poll-done words.Poll polls.0 polls.1 of.play a.answer done);
    }

-- a poll uses no channel
polls : (s : Content) (number : ℕ) (made : List StepMade) (a : Answered) → a.word ≡ words.Poll → IsPlayOf s number made a ⊎ IsUseOf made a → IsPollOf s number made a
polls s number made a poll (inl of) = of-play s number made a poll of
polls s number made a poll (inr of) = absurd (let uses = ap (λ (w : Word). is_in_use w of.step.0) (sym poll) ∙ of.in_use in cc)

pub each_poll_is_played : EachPollIsPlayed
each_poll_is_played s number shown at is =
    All-weaker (λ (a : Answered). is_oops a.answer ≡ false → IsPlayOf s number is.made a ⊎ IsUseOf is.made a)
    (λ (a : Answered). a.word ≡ words.Poll → is_oops a.answer ≡ false → IsPollOf s number is.made a)
    (λ a played poll passed. polls s number is.made a poll (played passed)) at.answers
    (each_call_is_played s number at is.start is.made is.starts is.played)

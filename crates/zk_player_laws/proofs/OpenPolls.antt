-- A poll that has no answer yet goes on by its laws.
use Rattle.std.proofs.Common.{◌≡◌, ℕ, ◌+◌, Bool, true, false, cond, nat_lt, Option, Some, None, List, [], ◌∷◌, ◌++◌, length, All, refl, sym, ap, subst, ◌∙◌, append-nil}
use Rattle.std.specs.List.{slice_get}
use Rattle.std.specs.Option.{option_map}
use Rattle.std.proofs.lemmas.List.Elements.{All-nil, All-cons, All-head, All-tail}
use Rattle.std.proofs.lemmas.Option.{option_and_then_some}
use Rattle.zk_line.specs.Calls.{word_of}
use Rattle.zk_line.specs.declared.events.Event.{Event}
use Rattle.zk_line.specs.declared.types.Call.{Call}
use Rattle.zk_line.specs.declared.types.Call.TheVariants as calls
use Rattle.zk_model_bus.specs.declared.table.OopsWhy.{OopsWhy}
use Rattle.zk_scenario.specs.Content.{Content}
use Rattle.zk_scenario.specs.Players.{players, calls_of}
use Rattle.zk_scenario.specs.Valid.{IsValid}
use Rattle.zk_words.specs.declared.timeout.Timeout.{Timeout}
use Rattle.zk_words.specs.declared.word.Word.TheVariants as words
use Rattle.zk_worker.specs.declared.frames.Frame.{Frame}
use Rattle.zk_worker.specs.declared.frames.Progress.{Progress}
use Rattle.zk_worker.specs.declared.frames.Progress.TheVariants.{Goes, Answers, Enters}
use Rattle.zk_worker.specs.declared.frames.Role.{Role}
use Rattle.zk_worker.specs.declared.frames.Role.TheVariants.{Script}
use Rattle.zk_worker.specs.declared.frames.Stage.{Stage}
use Rattle.zk_worker.specs.declared.frames.Stage.TheVariants.{Start}
use Rattle.zk_worker.specs.declared.frames.TheConstants.{MOST_FRAMES}
use Rattle.zk_worker.specs.declared.steps.Step.{Step}
use Rattle.zk_worker.specs.declared.steps.StepReply.{StepReply}
use Rattle.zk_worker.specs.Calls.{plan_of, plan_progress}
use Rattle.zk_worker.specs.Checks.{oops_in}
use Rattle.zk_worker.specs.Follows.{StepMade, IsPlayed, IsFollowing}
use Rattle.zk_worker.specs.Places.{PlayerPlace}
use Rattle.zk_player_laws.specs.PollLaws.{GoesOn}
use Rattle.zk_player_laws.specs.PollLogs.{ShowsLegal, IsOpenPoll, EachOpenPollGoesOn}
use Rattle.zk_worker.specs.Polls.{poll_attempts}
use Rattle.zk_worker.specs.Protocol.{IsAhead, after, call_attempts, call_progress, checked, entered, first_frame, frames_after, frames_attempts, frames_progress, is_over, role_at, role_progress, settled, spot_of, starting, start_at}
use Rattle.zk_worker.specs.Shown.{Shown, ShowsLog}
use Rattle.zk_player_laws.proofs.CallsPlayed.{PlayTo, AreOpen, holds-start, holds-played}
use Rattle.zk_worker.proofs.CheckedSteps.{IsCheck, turn}
use Rattle.zk_player_laws.proofs.OtherCalls.{is_channel, is_with_channel, GoesWith, plan-goes}
use Rattle.zk_player_laws.proofs.PollLaws.{poll_goes_on}
use Rattle.zk_player_laws.proofs.PollLogs.{poll-leads}
use Rattle.zk_player_laws.proofs.PollServed.{led-of-poll, within-served, few-of}
use Rattle.zk_worker.proofs.ShownSteps.{made-of}

-- A script that isn't at a publish, a notify or a read has no channel.

abbrev HasNone : Content → Frame → Type 0
HasNone s frame = (owner : ℕ) (call : Call) → frame.role ≡ Script owner → slice_get (calls_of s.scripts owner) frame.next ≡ Some call →
    is_channel (plan_of s.decls call) ≡ false → is_with_channel frame.stage ≡ false

settled-none : (s : Content) (frames : List Frame) → All (HasNone s) frames → All (HasNone s) (settled s frames)
settled-none s [] none = none
settled-none s (frame ∷ below) none = by (is_over s frame.role frame.next) (settled-none s below (All-tail (HasNone s) frame below none)) where
  by : (b : Bool) → All (HasNone s) (settled s below) → All (HasNone s) (cond b (settled s below) (frame ∷ below))
  by true rest = rest
  by false rest = none

-- so it stays where its call goes on
goes-none : (s : Content) (frame : Frame) (step : Step) (reply : StepReply) (progress : Progress) → HasNone s frame → role_progress s frame.role frame.next frame.stage step reply ≡ progress →
    (owner : ℕ) (call : Call) → frame.role ≡ Script owner → slice_get (calls_of s.scripts owner) frame.next ≡ Some call → is_channel (plan_of s.decls call) ≡ false →
    GoesWith (λ stage. is_with_channel stage ≡ false) (λ word answer. Unit {0}) progress
goes-none s frame step reply progress none comes owner call role there other =
    subst (GoesWith (λ stage. is_with_channel stage ≡ false) (λ word answer. Unit {0})) (same ∙ comes)
    (plan-goes (λ stage. is_with_channel stage ≡ false) (λ word answer. Unit {0}) (λ stage is. is) (word_of call) (λ answer is. tt) (plan_of s.decls call) frame.stage step reply other
    (none owner call role there other))
  where
    same : plan_progress (word_of call) (plan_of s.decls call) frame.stage step reply ≡ role_progress s frame.role frame.next frame.stage step reply
    same = ap (λ (c : Option Call). call_progress s.decls c frame.stage step reply) (sym there) ∙ ap (λ (r : Role). role_progress s r frame.next frame.stage step reply) (sym role)

step-none : (s : Content) (frames : List Frame) (step : Step) (reply : StepReply) → All (HasNone s) frames → All (HasNone s) (frames_after s frames (frames_progress s frames step reply))
step-none s [] step reply none = none
step-none s (frame ∷ below) step reply none = by (role_progress s frame.role frame.next frame.stage step reply) refl where
  first : HasNone s frame
  first = All-head (HasNone s) frame below none

  rest : All (HasNone s) below
  rest = All-tail (HasNone s) frame below none

  by : (p : Progress) → role_progress s frame.role frame.next frame.stage step reply ≡ p → All (HasNone s) (frames_after s (frame ∷ below) p)
  by (Goes stage) comes = All-cons (HasNone s) (record frame { stage = stage }) below (goes-none s frame step reply (Goes stage) first comes) rest
  by (Answers word answer) comes =
      settled-none s (record frame { next = frame.next + 1; stage = Start } ∷ below) (All-cons (HasNone s) (record frame { next = frame.next + 1; stage = Start }) below (λ owner call role there other. refl) rest)
  by (Enters owner stage) comes =
      let next : Frame = record frame { stage = stage } in
      let all : All (HasNone s) (next ∷ below) =
      All-cons (HasNone s) next below (λ own call role there other. absurd (goes-none s frame step reply (Enters owner stage) first comes own call role there other)) rest in
      settled-none s (entered (next ∷ below) owner) (by_room (nat_lt (length (next ∷ below)) MOST_FRAMES) next all)
    where
      by_room : (b : Bool) (next : Frame) → All (HasNone s) (next ∷ below) → All (HasNone s) (cond b (first_frame (Script owner) ∷ next ∷ below) (next ∷ below))
      by_room true next all = All-cons (HasNone s) (first_frame (Script owner)) (next ∷ below) (λ own call role there other. refl) all
      by_room false next all = all

after-none : (s : Content) (at : PlayerPlace) (step : Step) (reply : StepReply) → IsAhead s at step → All (HasNone s) at.frames → All (HasNone s) (after s at step reply).frames
after-none s at step reply ahead none =
    turn (λ (now : PlayerPlace). All (HasNone s) now.frames) s at step reply ahead (λ is. by is (oops_in reply)) (λ is. step-none s at.frames step reply none)
  where
    by : (is : IsCheck s at step) (why : Option OopsWhy) → All (HasNone s) (checked at is.check.word why (spot_of step reply)).frames
    by is None = none
    by is (Some why) = All-nil (HasNone s)

played-none : (s : Content) (made : List StepMade) (at end : PlayerPlace) → All (HasNone s) at.frames → IsPlayed s at made end → All (HasNone s) end.frames
played-none s [] at end none led = subst (λ (a : PlayerPlace). All (HasNone s) a.frames) led none
played-none s (m ∷ more) at end none led = played-none s more (after s at m.0 m.1) end (after-none s at m.0 m.1 led.0 none) led.1

starts-none : (s : Content) (number : ℕ) (at : PlayerPlace) → start_at s number ≡ Some at → All (HasNone s) at.frames
starts-none s number at is =
    let inner : ℕ → Option PlayerPlace = λ object. option_map (starting s number object) (slice_get s.decls object) in
    option_and_then_some inner (slice_get (players s.decls) number) at is (λ object found made.
    let decl = made-of (starting s number object) (slice_get s.decls object) at made in
    let first : Frame = first_frame (role_at decl.0 object) in
    subst (λ (a : PlayerPlace). All (HasNone s) a.frames) decl.2
    (settled-none s (first ∷ []) (All-cons (HasNone s) first [] (λ owner call role there other. refl) (All-nil (HasNone s)))))

-- A player that stands at a poll.

module _ (s : Content) (number : ℕ) (shown : Shown) (at : PlayerPlace) (is : IsFollowing s number shown at) (owner next : ℕ) (stage : Stage) (timeout : Timeout) (events : List Event) (below : List Frame)
    (stood : at.frames ≡ record { role = Script owner; next = next; stage = stage } ∷ below) (there : slice_get (calls_of s.scripts owner) next ≡ Some (calls.Poll timeout events)) where
  abbrev call : Call
  call = calls.Poll timeout events

  abbrev frame : Frame
  frame = record { role = Script owner; next = next; stage = stage }

  -- its play so far
  to-stage : PlayTo s number is.made owner next below call stage
  to-stage =
      let holds = holds-played s number is.made [] is.start at (holds-start s number is.start is.starts) is.played in
      let open_ : AreOpen s number is.made (frame ∷ below) = subst (AreOpen s number is.made) stood holds.frames in
      let none : All (HasNone s) (frame ∷ below) = subst (All (HasNone s)) stood (played-none s is.made is.start at (starts-none s number is.start is.starts) is.played) in
      open_.0 call there (All-head (HasNone s) frame below none owner call refl there refl)

  goes-on : IsValid s → ShowsLog shown number at.spots → ShowsLegal shown → IsOpenPoll s number is.made owner next timeout events below (frames_attempts s at.frames)
  goes-on valid shows legal =
      let play = to-stage in
      let led = poll-leads words.Poll timeout events Start play.play stage play.led in
      let whole = play.whole ∙ ap (λ (xs : List StepMade). play.before ++ xs) (sym (append-nil play.play)) in
      let served = within-served number shown at.spots is.made play.before play.play [] is.stands shows legal whole (led-of-poll words.Poll timeout events Start play.play stage led) in
      let attempts : poll_attempts timeout events stage ≡ frames_attempts s at.frames =
      ap (λ (c : Option Call). call_attempts s.decls c stage) (sym there) ∙ ap (frames_attempts s) (sym stood) in
      record {
        before = play.before;
        play = play.play;
        whole = play.whole;
        begins = play.begins;
        laws = subst (GoesOn timeout events play.play) attempts (poll_goes_on words.Poll timeout events (few-of s owner next timeout events there valid) play.play stage led served);
      }

pub each_open_poll_goes_on : EachOpenPollGoesOn
each_open_poll_goes_on s number shown at is valid shows legal owner next stage timeout events below stood there =
    goes-on s number shown at is owner next stage timeout events below stood there valid shows legal

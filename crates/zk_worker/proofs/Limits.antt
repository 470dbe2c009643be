-- What a step keeps of the limits of a player.
use Rattle.std.proofs.Common.{◌≡◌, ℕ, ◌+◌, ◌<◌, ◌≤◌, true, false, Option, Some, None, List, [], ◌∷◌, ◌++◌, length, All, sym, ap, subst, arith, cond, length-append, nat_lt}
use Rattle.std.specs.List.{slice_get}
use Rattle.std.proofs.lemmas.List.Elements.{All-nil, All-cons, All-head, All-tail, All-weaker}
use Rattle.std.proofs.lemmas.Bool.{ltb-true}
use Rattle.std.proofs.lemmas.Bool.Decides.{nat_tests}
use Rattle.zk_base.proofs.Lists.{cond_nil-at}
use Rattle.zk_scenario.specs.Content.{Content}
use Rattle.zk_words.specs.declared.timeout.Timeout.{Timeout}
use Rattle.zk_scenario.specs.declared.scenario.TheConstants.{MOST_STEPS}
use Rattle.zk_scenario.specs.Steps.{steps_of}
use Rattle.zk_scenario.proofs.Steps.{steps-most}
use Rattle.zk_worker.specs.declared.steps.TheConstants.{MOST_ATTEMPTS}
use Rattle.zk_worker.specs.declared.steps.Step.{Step}
use Rattle.zk_worker.specs.declared.steps.Spot.{Spot}
use Rattle.zk_worker.specs.declared.answers.Answered.{Answered}
use Rattle.zk_worker.specs.declared.frames.TheConstants.{MOST_FRAMES}
use Rattle.zk_worker.specs.declared.frames.Frame.{Frame}
use Rattle.zk_worker.specs.declared.frames.Progress.{Progress}
use Rattle.zk_worker.specs.declared.frames.Progress.TheVariants.{Goes, Answers, Enters}
use Rattle.zk_worker.specs.declared.frames.Role.{Role}
use Rattle.zk_worker.specs.declared.frames.Role.TheVariants.{Script, Worker}
use Rattle.zk_worker.specs.declared.frames.Stage.{Stage}
use Rattle.zk_worker.specs.declared.frames.Stage.TheVariants.{Start, Runs, Waits, Halfway, Alarmed, WaitsUntil, Quits, Holds, Visits, Reads}
use Rattle.zk_worker.specs.declared.frames.Plan.{Plan}
use Rattle.zk_worker.specs.declared.frames.Plan.TheVariants.{One, Pair, Twice, Wait, Poll, Channel}
use Rattle.zk_worker.specs.declared.frames.Using.{Using}
use Rattle.zk_worker.specs.declared.frames.Waiting.{Waiting}
use Rattle.zk_worker.specs.Places.{PlayerPlace}
use Rattle.zk_worker.specs.Calls.{plan_of, plan_attempts}
use Rattle.zk_worker.specs.Publishes.{asks_for, channel_attempts}
use Rattle.zk_worker.specs.Waits.{wait_attempts}
use Rattle.zk_line.specs.declared.types.Call.{Call}
use Rattle.zk_scenario.specs.Players.{calls_of}
use Rattle.zk_worker.specs.Protocol.{attempts, checks_first, IsAhead, is_over, settled, entered, first_frame, frames_after, answers_after, frames_attempts, role_attempts, call_attempts}
use Rattle.zk_worker.specs.Stacks.{IsRoomy}
use Rattle.zk_worker.proofs.CheckedSteps.{check_at, checks_first-few}
use Rattle.zk_worker.proofs.PollSteps.{poll_attempts-few}

-- a player with a next attempt has made fewer steps than it may
pub ahead_left : (s : Content) (at : PlayerPlace) (step : Step) → IsAhead s at step → length at.spots < steps_of s
ahead_left s at step ahead =
    ltb-true (length at.spots) (steps_of s)
    (cond_nil-at (nat_lt (length at.spots) (steps_of s)) (checks_first (check_at s at) (frames_attempts s at.frames)) ahead.0 step ahead.1).0

pub ahead_short : (s : Content) (at : PlayerPlace) (step : Step) → IsAhead s at step → length at.spots < MOST_STEPS
ahead_short s at step ahead = omega (arith, steps-most s, ahead_left s at step ahead)

-- what holds of each frame holds of those that are left
pub settled-all : (P : Frame → Type 0) (s : Content) (frames : List Frame) → All P frames → All P (settled s frames)
settled-all P s [] all = all
settled-all P s (frame ∷ below) all =
    elim (is_over s frame.role frame.next) as (λ b. All P (cond b (settled s below) (frame ∷ below)))
    [ true ↦ settled-all P s below (All-tail P frame below all) | false ↦ all ]

settled-length : (s : Content) (frames : List Frame) → length (settled s frames) ≤ length frames
settled-length s [] = omega arith
settled-length s (frame ∷ below) =
    elim (is_over s frame.role frame.next) as (λ b. length (cond b (settled s below) (frame ∷ below)) ≤ length (frame ∷ below))
    [ true ↦ omega (arith, settled-length s below) | false ↦ omega arith ]

pub entered-all : (P : Frame → Type 0) (frames : List Frame) (owner : ℕ) → P (first_frame (Script owner)) → All P frames → All P (entered frames owner)
entered-all P frames owner first all =
    elim (nat_lt (length frames) MOST_FRAMES) as (λ b. All P (cond b (first_frame (Script owner) ∷ frames) frames))
    [ true ↦ All-cons P (first_frame (Script owner)) frames first all | false ↦ all ]

entered-length : (frames : List Frame) (owner : ℕ) → length frames ≤ MOST_FRAMES → length (entered frames owner) ≤ MOST_FRAMES
entered-length frames owner few = grind (arith, nat_tests)

frames_after-length : (s : Content) (frames : List Frame) (progress : Progress) → length frames ≤ MOST_FRAMES → length (frames_after s frames progress) ≤ MOST_FRAMES
frames_after-length s [] progress few = few
frames_after-length s (frame ∷ below) (Goes stage) few = few
frames_after-length s (frame ∷ below) (Answers word answer) few =
    let next = record frame { next = frame.next + 1; stage = Start } in
    omega (arith, settled-length s (next ∷ below))
frames_after-length s (frame ∷ below) (Enters owner stage) few =
    let next = record frame { stage = stage } in
    omega (arith, settled-length s (entered (next ∷ below) owner), entered-length (next ∷ below) owner few)

frames_after-nexts : (s : Content) (n : ℕ) (frames : List Frame) (progress : Progress) →
    All (λ frame. frame.next ≤ n) frames → All (λ frame. frame.next ≤ n + 1) (frames_after s frames progress)
frames_after-nexts s n [] progress all = let P : Frame → Type 0 = λ frame. frame.next ≤ n + 1 in All-nil P
frames_after-nexts s n (frame ∷ below) progress all =
    let P : Frame → Type 0 = λ f. f.next ≤ n in
    let Q : Frame → Type 0 = λ f. f.next ≤ n + 1 in
    let here : frame.next ≤ n = All-head P frame below all in
    let there : All Q below = All-weaker P Q (λ f le. omega arith) below (All-tail P frame below all) in
    elim progress as (λ p. All Q (frames_after s (frame ∷ below) p)) [
      | Goes stage ↦ All-cons Q (record frame { stage = stage }) below (omega arith) there
      | Answers word answer ↦
          let next = record frame { next = frame.next + 1; stage = Start } in
          settled-all Q s (next ∷ below) (All-cons Q next below (omega arith) there)
      | Enters owner stage ↦
          let next = record frame { stage = stage } in
          settled-all Q s (entered (next ∷ below) owner)
          (entered-all Q (next ∷ below) owner (omega arith) (All-cons Q next below (omega arith) there))
    ]

answers_after-length : (answers : List Answered) (number : ℕ) (progress : Progress) → length (answers_after answers number progress) ≤ length answers + 1
answers_after-length answers number (Goes stage) = omega arith
answers_after-length answers number (Answers word answer) =
    omega (arith, length-append answers (record { step = number; word = word; answer = answer } ∷ []))
answers_after-length answers number (Enters owner stage) = omega arith

-- a player that has made no step is within its limits
pub IsRoomy-fresh : (s : Content) (role : Role) (frames : List Frame) (answers : List Answered) (spots : List Spot) (most a b c : ℕ) →
    frames ≡ settled s (first_frame role ∷ []) → answers ≡ [] → spots ≡ [] → most ≤ MOST_STEPS → MOST_FRAMES ≤ a → most ≤ b → most ≤ c → IsRoomy most 0 frames answers spots a b c
IsRoomy-fresh s role frames answers spots most a b c frames_are answers_are spots_are few for_a for_b for_c =
    let first = first_frame role in
    let P : Frame → Type 0 = λ frame. frame.next ≤ length spots in
    record {
      few_frames = omega (arith, ap (λ (l : List Frame). length l) frames_are, settled-length s (first ∷ []));
      few_answers = omega (arith, ap (λ (l : List Answered). length l) answers_are);
      few_spots = omega (arith, ap (λ (l : List Spot). length l) spots_are);
      few_steps = few;
      nexts = subst (λ (l : List Frame). All P l) (sym frames_are) (settled-all P s (first ∷ []) (All-cons P first [] (omega arith) (All-nil P)));
      few_passed = omega arith;
      for_frames = for_a;
      for_answers = for_b;
      for_spots = for_c;
    }

-- the limits are kept by a step of a player that has made fewer steps than it may
pub IsRoomy-moved : (s : Content) (frames frames' : List Frame) (answers answers' : List Answered) (spots spots' : List Spot) (spot : Spot) (number : ℕ) (progress : Progress) (most passed a b c a' b' c' : ℕ) →
    IsRoomy most passed frames answers spots a b c → length spots < most →
    frames' ≡ frames_after s frames progress → answers' ≡ answers_after answers number progress → spots' ≡ spots ++ spot ∷ [] →
    a ≤ a' → b ≤ b' → c ≤ c' → IsRoomy most 0 frames' answers' spots' a' b' c'
IsRoomy-moved s frames frames' answers answers' spots spots' spot number progress most passed a b c a' b' c' was short frames_are answers_are spots_are for_a for_b for_c =
    let long : length (spots ++ spot ∷ []) ≡ length spots + 1 = omega (arith, length-append spots (spot ∷ [])) in
    let here : IsRoomy most 0 (frames_after s frames progress) (answers_after answers number progress) (spots ++ spot ∷ []) a' b' c' = record {
      few_frames = frames_after-length s frames progress was.few_frames;
      few_answers = omega (arith, was.few_answers, answers_after-length answers number progress);
      few_spots = omega arith;
      few_steps = was.few_steps;
      nexts = subst (λ (n : ℕ). All (λ frame. frame.next ≤ n) (frames_after s frames progress)) (sym long)
          (frames_after-nexts s (length spots) frames progress was.nexts);
      few_passed = omega arith;
      for_frames = omega (arith, was.for_frames);
      for_answers = omega (arith, was.for_answers);
      for_spots = omega (arith, was.for_spots);
    } in
    subst (λ (f : List Frame). IsRoomy most 0 f answers' spots' a' b' c') (sym frames_are)
    (subst (λ (n : List Answered). IsRoomy most 0 (frames_after s frames progress) n spots' a' b' c') (sym answers_are)
    (subst (λ (p : List Spot). IsRoomy most 0 (frames_after s frames progress) (answers_after answers number progress) p a' b' c') (sym spots_are) here))

-- a call that may wait has at most two attempts at a time: the end of its wait, and that of its alarm
wait_attempts-few : (waiting : Waiting) (timeout : Timeout) (stage : Stage) → length (wait_attempts waiting timeout stage) ≤ 2
wait_attempts-few waiting timeout Start = omega arith
wait_attempts-few waiting timeout (Alarmed moment) = omega arith
wait_attempts-few waiting timeout (Waits place) = omega arith
wait_attempts-few waiting timeout (WaitsUntil place moment) = omega arith
wait_attempts-few waiting timeout (Quits place) = omega arith
wait_attempts-few waiting timeout stage = omega arith

-- and so has one that uses a channel
channel_attempts-few : (chan : ℕ) (using : Using) (timeout : Timeout) (stage : Stage) → length (channel_attempts chan using timeout stage) ≤ 2
channel_attempts-few chan using timeout Holds = omega arith
channel_attempts-few chan using timeout (Visits left full) = omega arith
channel_attempts-few chan using timeout (Reads message) = omega arith
channel_attempts-few chan using timeout stage = wait_attempts-few (asks_for chan using) timeout stage

plan_attempts-few : (plan : Plan) (stage : Stage) → length (plan_attempts plan stage) ≤ 9
plan_attempts-few (One step) Start = omega arith
plan_attempts-few (One step) stage = omega arith
plan_attempts-few (Pair opening closing) Start = omega arith
plan_attempts-few (Pair opening closing) (Waits place) = omega arith
plan_attempts-few (Pair opening closing) stage = omega arith
plan_attempts-few (Twice first second) Start = omega arith
plan_attempts-few (Twice first second) Halfway = omega arith
plan_attempts-few (Twice first second) stage = omega arith
plan_attempts-few (Wait waiting timeout) stage = omega (arith, wait_attempts-few waiting timeout stage)
plan_attempts-few (Poll timeout events) stage = poll_attempts-few timeout events stage
plan_attempts-few (Channel chan using timeout) stage = omega (arith, channel_attempts-few chan using timeout stage)

frames_attempts-few : (s : Content) (frames : List Frame) → length (frames_attempts s frames) ≤ 9
frames_attempts-few s [] = omega arith
frames_attempts-few s (frame ∷ below) = role_few s frame.role frame.next frame.stage
  where
    call_few : (s : Content) (call : Option Call) (stage : Stage) → length (call_attempts s.decls call stage) ≤ 9
    call_few s None stage = omega arith
    call_few s (Some call) stage = plan_attempts-few (plan_of s.decls call) stage

    role_few : (s : Content) (role : Role) (next : ℕ) (stage : Stage) → length (role_attempts s role next stage) ≤ 9
    role_few s (Script owner) next stage = call_few s (slice_get (calls_of s.scripts owner) next) stage
    role_few s (Worker queue) next Start = omega arith
    role_few s (Worker queue) next Runs = omega arith
    role_few s (Worker queue) next stage = omega arith

-- a player has few attempts at a time
pub attempts-few : (s : Content) (at : PlayerPlace) → length (attempts s at) ≤ MOST_ATTEMPTS
attempts-few s at =
    elim (nat_lt (length at.spots) (steps_of s)) as (λ b. length (cond b (checks_first (check_at s at) (frames_attempts s at.frames)) []) ≤ MOST_ATTEMPTS)
    [ true ↦ checks_first-few MOST_ATTEMPTS (check_at s at) (frames_attempts s at.frames) (omega arith) (omega (arith, frames_attempts-few s at.frames)) | false ↦ omega arith ]

-- A call that uses a channel: what it has done with it at each stage, and what it has done when it is answered.
use Rattle.std.proofs.Common.{◌≡◌, ◌⊎◌, inl, inr, ℕ, Bool, true, false, eqb, ◌||◌, cond, Option, Some, List, [], ◌∷◌, ◌++◌, map, length, append_assoc, append-nil, All, refl, sym, ap, subst, ◌∙◌, arith}
use Rattle.std.specs.List.{slice_get, list_any, Contains}
use Rattle.std.specs.Option.{option_map_or}
use Rattle.std.proofs.lemmas.Bool.Decides.{nat_tests}
use Rattle.std.proofs.lemmas.List.{map-append}
use Rattle.std.proofs.lemmas.List.Elements.{All-weaker, filter-append, Contains-append_left, Contains-append_right}
use Rattle.std.proofs.lemmas.List.Folds.{list_any-append}
use Rattle.std.proofs.lemmas.Option.{same_Some}
use Rattle.zk_base.specs.declared.ids.Who.{Who}
use Rattle.zk_base.proofs.Lists.{slice_get-one}
use Rattle.zk_line.specs.Calls.{word_of}
use Rattle.zk_line.specs.declared.types.Call.{Call}
use Rattle.zk_line.specs.declared.types.Call.TheVariants as calls
use Rattle.zk_line.specs.declared.types.Decl.{Decl}
use Rattle.zk_model_bus.specs.declared.channel.ChanOp.{ChanOp}
use Rattle.zk_model_bus.specs.declared.channel.ChanOp.TheVariants as ops
use Rattle.zk_model_bus.specs.declared.channel.ChanReply.{ChanReply}
use Rattle.zk_model_bus.specs.declared.channel.ChanReply.TheVariants as replies
use Rattle.zk_model_bus.specs.declared.observer.ObsOp.TheVariants as obs_ops
use Rattle.zk_model_bus.specs.declared.observer.ObsReply.{ObsReply}
use Rattle.zk_model_bus.specs.declared.observer.ObsReply.TheVariants as obs_replies
use Rattle.zk_model_wait.specs.declared.clock.ClockOp.TheVariants as clock_ops
use Rattle.zk_model_wait.specs.declared.clock.ClockReply.{ClockReply}
use Rattle.zk_model_wait.specs.declared.clock.ClockReply.TheVariants as clock_replies
use Rattle.zk_scenario.specs.Content.{Content}
use Rattle.zk_words.specs.declared.timeout.Timeout.{Timeout}
use Rattle.zk_worker.specs.Follows.{StepMade}
use Rattle.zk_worker.specs.declared.answers.Answer.{Answer}
use Rattle.zk_worker.specs.declared.answers.Answer.TheVariants as answers
use Rattle.zk_worker.specs.declared.answers.Answered.{Answered}
use Rattle.zk_worker.specs.declared.frames.Plan.TheVariants as plans
use Rattle.zk_worker.specs.declared.frames.Progress.{Progress}
use Rattle.zk_worker.specs.declared.frames.Progress.TheVariants.{Goes, Answers, Enters}
use Rattle.zk_worker.specs.declared.frames.Stage.{Stage}
use Rattle.zk_worker.specs.declared.frames.Stage.TheVariants as stages
use Rattle.zk_worker.specs.declared.frames.Using.{Using}
use Rattle.zk_worker.specs.declared.frames.Using.TheVariants.{Publish, Notify, Read}
use Rattle.zk_worker.specs.declared.steps.Step.{Step}
use Rattle.zk_worker.specs.declared.steps.Step.TheVariants as steps
use Rattle.zk_worker.specs.declared.steps.StepReply.{StepReply}
use Rattle.zk_worker.specs.declared.steps.StepReply.TheVariants as step_replies
use Rattle.zk_worker.specs.Calls.{plan_of}
use Rattle.zk_worker.specs.Publishes.{asks_for, use_step, visit_step, visits_answer, channel_attempts, channel_progress}
use Rattle.zk_worker.specs.Replies.{chan_answer}
use Rattle.zk_player_laws.specs.StackLaws.{ChanHistories, IsReplied, clock_may_tell}
use Rattle.zk_worker.specs.Waits.{open_step}
use Rattle.zk_player_laws.specs.VisitLaws.{used_chan, is_use, is_free, is_full, visit_of, HasWaitedFor, Asks, HasGained, OwnsChan, CallsChannel, refuses, HasUsed, HasVisited, HasRead, WasRefused, is_publish, is_read, UsesOrIsRefused}
use Rattle.zk_player_laws.proofs.ChannelAnswers.{ended-gives, quit-gives, enter-replies, offer-replies, is_call_reply, is_quit_reply, set-tells, list-tells, get-tells}
use Rattle.zk_player_laws.proofs.ChannelSteps.{asking_op, use_op, asks-so, ends-so, quits-so, EachStep, each-step}
use Rattle.zk_player_laws.proofs.OpenScripts.{plan_got}
use Rattle.zk_player_laws.proofs.OtherCalls.{is_with_channel, uses-none, wait-calm}
use Rattle.zk_player_laws.proofs.OwnEntries.{HasReplied, answers-so}

-- What is known of a call that waits for its channel, or has it.

abbrev pub is_reading : Using → Bool
is_reading Read = true
is_reading using_ = false

-- it has visited some of the observers that it was told, and has yet to visit these
pub record IsVisiting (chan : ℕ) (using_ : Using) (done : List StepMade) (left : List ℕ) (full : Bool) : Type 0 where
  pub use_ : StepMade
  pub visited : List StepMade
  pub gained : HasGained chan using_ done (use_ ∷ visited)
  pub uses : use_.0 ≡ use_step chan using_
  pub told : List ℕ
  pub tells : (place : ℕ) × (use_.1 ≡ step_replies.Chan chan (replies.Observers told) place)
  pub visits : map (λ (m : StepMade). m.0) visited ++ map (visit_of chan) left ≡ map (visit_of chan) told
  pub reads_not : is_reading using_ ≡ false
  pub unfreed : list_any is_free (use_ ∷ visited) ≡ false
  pub full_is : list_any is_full visited ≡ full

-- it has got this message
pub record IsReading (chan : ℕ) (using_ : Using) (done : List StepMade) (message : List ℕ) : Type 0 where
  pub use_ : StepMade
  pub gained : HasGained chan using_ done (use_ ∷ [])
  pub uses : use_.0 ≡ use_step chan using_
  pub tells : (place : ℕ) × (use_.1 ≡ step_replies.Chan chan (replies.Bytes message) place)
  pub reads : is_reading using_ ≡ true
  pub unfreed : list_any is_free (use_ ∷ []) ≡ false

-- what it has done for it and with it at a stage
abbrev pub CallHas : ℕ → Using → List StepMade → Stage → Type 0
CallHas chan using_ done (stages.Waits place) = HasWaitedFor chan using_ done place
CallHas chan using_ done (stages.WaitsUntil place moment) = HasWaitedFor chan using_ done place
CallHas chan using_ done (stages.Quits place) = HasWaitedFor chan using_ done place
CallHas chan using_ done stages.Holds = HasGained chan using_ done []
CallHas chan using_ done (stages.Visits left full) = IsVisiting chan using_ done left full
CallHas chan using_ done (stages.Reads message) = IsReading chan using_ done message
CallHas chan using_ done stage = Unit {0}

abbrev pub CallVisits : Content → List StepMade → ℕ → ℕ → Stage → Type 0
CallVisits s done owner next stage = (by : CallsChannel s owner next) → CallHas by.chan by.using_ done stage

-- what comes of a call's progress
abbrev pub VisitsBy : Content → List StepMade → ℕ → ℕ → ℕ → Progress → Type 0
VisitsBy s done owner next number (Goes stage) = CallVisits s done owner next stage
VisitsBy s done owner next number (Answers word answer) = UsesOrIsRefused s done (record { step = number; word = word; answer = answer })
VisitsBy s done owner next number (Enters object stage) = CallVisits s done owner next stage

-- Uses of a channel.

eqb-itself : (a : ℕ) → eqb a a ≡ true
eqb-itself a = grind (arith, nat_tests)

pub is-use : (chan : ℕ) (made : StepMade) → used_chan made.0 ≡ Some chan → is_use chan made ≡ true
is-use chan made is = ap (λ (o : Option ℕ). option_map_or (λ used. eqb used chan) o false) is ∙ eqb-itself chan

module _ (chan : ℕ) (using_ : Using) (done : List StepMade) (made : StepMade) where
  gained-more : (uses more : List StepMade) → cond (is_use chan made) (made ∷ []) [] ≡ more → HasGained chan using_ done uses → HasGained chan using_ (done ++ made ∷ []) (uses ++ more)
  gained-more uses more is was = record {
    before = was.before;
    gained = was.gained;
    since = was.since ++ made ∷ [];
    whole = ap (λ (l : List StepMade). l ++ made ∷ []) was.whole ∙ append_assoc was.before (was.gained ∷ was.since) (made ∷ []);
    asks = was.asks;
    got = was.got;
    used = filter-append (is_use chan) was.since (made ∷ []) ∙ ap (λ (l : List StepMade). l ++ cond (is_use chan made) (made ∷ []) []) was.used
        ∙ ap (λ (l : List StepMade). uses ++ l) is;
  }

  -- a step that uses the channel
  gained-used : (uses : List StepMade) → used_chan made.0 ≡ Some chan → HasGained chan using_ done uses → HasGained chan using_ (done ++ made ∷ []) (uses ++ made ∷ [])
  gained-used uses is was = gained-more uses (made ∷ []) (ap (λ (b : Bool). cond b (made ∷ []) []) (is-use chan made is)) was

  -- one that doesn't
  gained-still : (uses : List StepMade) → is_use chan made ≡ false → HasGained chan using_ done uses → HasGained chan using_ (done ++ made ∷ []) uses
  gained-still uses isnt was =
      subst (λ (l : List StepMade). HasGained chan using_ (done ++ made ∷ []) l) (append-nil uses)
      (gained-more uses [] (ap (λ (b : Bool). cond b (made ∷ []) []) isnt) was)

  -- one by which the channel is given
  gained-now : (place : ℕ) → Asks chan using_ done made.0 → made.1 ≡ step_replies.Chan chan replies.Got place → HasGained chan using_ (done ++ made ∷ []) []
  gained-now place asks got = record { before = done; gained = made; since = []; whole = refl; asks = asks; got = (place, got); used = refl }

  -- one by which a wait begins, and one since
  waits-now : (waits : Bool) (place : ℕ) → made ≡ (open_step (asks_for chan using_) waits, step_replies.Chan chan replies.Wait place) → HasWaitedFor chan using_ (done ++ made ∷ []) place
  waits-now waits place is = (waits, subst (λ (m : StepMade). Contains (done ++ made ∷ []) m) is (Contains-append_right done (made ∷ []) made (0, omega arith, refl)))

  waits-still : (place : ℕ) → HasWaitedFor chan using_ done place → HasWaitedFor chan using_ (done ++ made ∷ []) place
  waits-still place was =
      (was.0, Contains-append_left done (made ∷ []) (open_step (asks_for chan using_) was.0, step_replies.Chan chan replies.Wait place) was.1)

  -- what a call has done with its channel behind a step that doesn't use it
  pub has-still : (stage : Stage) → (is_with_channel stage ≡ true → is_use chan made ≡ false) → CallHas chan using_ done stage →
      CallHas chan using_ (done ++ made ∷ []) stage
  has-still (stages.Waits place) isnt was = waits-still place was
  has-still (stages.WaitsUntil place moment) isnt was = waits-still place was
  has-still (stages.Quits place) isnt was = waits-still place was
  has-still stages.Holds isnt was = gained-still [] (isnt refl) was
  has-still (stages.Visits left full) isnt was = record {
    use_ = was.use_;
    visited = was.visited;
    gained = gained-still (was.use_ ∷ was.visited) (isnt refl) was.gained;
    uses = was.uses;
    told = was.told;
    tells = was.tells;
    visits = was.visits;
    reads_not = was.reads_not;
    unfreed = was.unfreed;
    full_is = was.full_is;
  }
  has-still (stages.Reads message) isnt was = record {
    use_ = was.use_;
    gained = gained-still (was.use_ ∷ []) (isnt refl) was.gained;
    uses = was.uses;
    tells = was.tells;
    reads = was.reads;
    unfreed = was.unfreed;
  }
  has-still stage isnt was = tt

-- a call owns the channel that it has
pub has-owns : (chan : ℕ) (using_ : Using) (done : List StepMade) (stage : Stage) → is_with_channel stage ≡ true → CallHas chan using_ done stage → OwnsChan chan done
has-owns chan using_ done stages.Holds is was = (using_, [], was, refl)
has-owns chan using_ done (stages.Visits left full) is was = (using_, was.use_ ∷ was.visited, was.gained, was.unfreed)
has-owns chan using_ done (stages.Reads message) is was = (using_, was.use_ ∷ [], was.gained, was.unfreed)
has-owns chan using_ done stage is was = absurd (cc)

use-used : (chan : ℕ) (using_ : Using) → used_chan (use_step chan using_) ≡ Some chan
use-used chan (Publish message) = refl
use-used chan Notify = refl
use-used chan Read = refl

visit-used : (chan : ℕ) (left : List ℕ) → used_chan (visit_step chan left) ≡ Some chan
visit-used chan [] = refl
visit-used chan (observer ∷ left) = refl

-- each attempt of a call that uses a channel uses the one that it has
pub used-got : (chan : ℕ) (using_ : Using) (timeout : Timeout) (stage : Stage) (k : ℕ) (step : Step) (c : ℕ) → slice_get (channel_attempts chan using_ timeout stage) k ≡ Some step →
    used_chan step ≡ Some c → plan_got (plans.Channel chan using_ timeout) stage ≡ Some c
used-got chan using_ timeout stages.Holds k step c there is =
    sym (use-used chan using_) ∙ ap used_chan (slice_get-one (use_step chan using_) step k there) ∙ is
used-got chan using_ timeout (stages.Visits left full) k step c there is =
    sym (visit-used chan left) ∙ ap used_chan (slice_get-one (visit_step chan left) step k there) ∙ is
used-got chan using_ timeout (stages.Reads message) k step c there is = ap used_chan (slice_get-one (steps.Chan chan ops.Free) step k there) ∙ is
used-got chan using_ timeout stage k step c there is = let none = uses-none step (wait-calm (asks_for chan using_) timeout stage k step there) in absurd (cc)

-- What is answered stays answered.

module _ (s : Content) (done : List StepMade) (made : StepMade) where
  longer : (front : List StepMade) (m : StepMade) (rest : List StepMade) → done ≡ front ++ m ∷ rest → done ++ made ∷ [] ≡ front ++ m ∷ (rest ++ made ∷ [])
  longer front m rest whole = ap (λ (l : List StepMade). l ++ made ∷ []) whole ∙ append_assoc front (m ∷ rest) (made ∷ [])

  abbrev used-longer : (a : Answered) → HasUsed s done a → HasUsed s (done ++ made ∷ []) a
  used-longer a u = record {
    owner = u.owner;
    next = u.next;
    by = u.by;
    is_word = u.is_word;
    front = u.front;
    free = u.free;
    rest = u.rest ++ made ∷ [];
    whole = longer u.front u.free u.rest u.whole;
    last = u.last;
    frees = u.frees;
    use_ = u.use_;
    others = u.others;
    gained = u.gained;
    uses = u.uses;
  }

  refused-longer : (a : Answered) → WasRefused s done a → WasRefused s (done ++ made ∷ []) a
  refused-longer a r = record {
    owner = r.owner;
    next = r.next;
    by = r.by;
    is_word = r.is_word;
    front = r.front;
    step = r.step;
    rest = r.rest ++ made ∷ [];
    whole = longer r.front r.step r.rest r.whole;
    last = r.last;
    asks = r.asks;
    refused = r.refused;
    answer = r.answer;
  }

  through-more : (a : Answered) → UsesOrIsRefused s done a → UsesOrIsRefused s (done ++ made ∷ []) a
  through-more a was = λ passed. let now = was passed in (λ publish. visited (now.0 publish), λ read. has_read (now.1 read))
    where
      visited : HasVisited s done a ⊎ WasRefused s done a → HasVisited s (done ++ made ∷ []) a ⊎ WasRefused s (done ++ made ∷ []) a
      visited (inl v) = inl (record { used = used-longer a v.used; told = v.told; tells = v.tells; visits = v.visits; answer = v.answer })
      visited (inr r) = inr (refused-longer a r)

      has_read : HasRead s done a ⊎ WasRefused s done a → HasRead s (done ++ made ∷ []) a ⊎ WasRefused s (done ++ made ∷ []) a
      has_read (inl v) = inl (record { used = used-longer a v.used; message = v.message; tells = v.tells; alone = v.alone; answer = v.answer })
      has_read (inr r) = inr (refused-longer a r)

  pub all-through-more : (list : List Answered) → All (UsesOrIsRefused s done) list → All (UsesOrIsRefused s (done ++ made ∷ [])) list
  all-through-more list all = All-weaker (UsesOrIsRefused s done) (UsesOrIsRefused s (done ++ made ∷ [])) through-more list all

-- A step of the call.

using-of : (a b : ℕ) (u v : Using) (t w : Timeout) → plans.Channel a u t ≡ plans.Channel b v w → u ≡ v
using-of a b u v t w same = cc

-- the words of calls that read, and of those that don't
read-word : (decls : List Decl) (call : Call) (chan : ℕ) (u : Using) (timeout : Timeout) → plan_of decls call ≡ plans.Channel chan u timeout → is_reading u ≡ true → is_publish (word_of call) ≡ false
read-word decls (calls.Publish channel message wait) chan u timeout is reads =
    let isnt : is_reading u ≡ false = ap is_reading (sym (using-of _ chan _ u wait timeout is)) in absurd (cc)
read-word decls (calls.Notify channel wait) chan u timeout is reads =
    let isnt : is_reading u ≡ false = ap is_reading (sym (using-of _ chan _ u wait timeout is)) in absurd (cc)
read-word decls call chan u timeout is reads = refl

visit-word : (decls : List Decl) (call : Call) (chan : ℕ) (u : Using) (timeout : Timeout) → plan_of decls call ≡ plans.Channel chan u timeout → is_reading u ≡ false → is_read (word_of call) ≡ false
visit-word decls (calls.Read channel wait) chan u timeout is reads_not =
    let reads : is_reading u ≡ true = ap is_reading (sym (using-of _ chan _ u wait timeout is)) in absurd (cc)
visit-word decls call chan u timeout is reads_not = refl

-- one more at the end of a list that is tested
any-more : (test : StepMade → Bool) (list : List StepMade) (made : StepMade) (was is now : Bool) → list_any test list ≡ was → test made ≡ is → (was || is) ≡ now → list_any test (list ++ made ∷ []) ≡ now
any-more test list made was is now was-so is-so sum =
    list_any-append test list (made ∷ []) ∙ ap (λ (b : Bool). b || (test made || false)) was-so ∙ ap (λ (b : Bool). was || (b || false)) is-so ∙ last was is sum
  where
    last : (was is : Bool) → (was || is) ≡ now → (was || (is || false)) ≡ now
    last true is sum = sum
    last false true sum = sum
    last false false sum = sum

module _ (s : Content) (chans : ChanHistories) (who : Who) (done : List StepMade) (number : ℕ) (long : number ≡ length done) (owner next : ℕ) (here : CallsChannel s owner next) where
  -- what is known of the call after a step
  abbrev Has : List StepMade → Progress → Type 0
  Has later (Goes stage) = CallHas here.chan here.using_ later stage
  Has later (Answers word answer) = UsesOrIsRefused s later (record { step = number; word = word; answer = answer })
  Has later (Enters object stage) = CallHas here.chan here.using_ later stage

  abbrev Before : Stage → Type 0
  Before stage = CallHas here.chan here.using_ done stage

  abbrev After : Stage → Step → StepReply → Type 0
  After stage step reply = Has (done ++ (step, reply) ∷ []) (channel_progress (word_of here.call) stage reply)

  -- it is refused its channel
  was-refused : (op : ChanOp) (r : ChanReply) (place : ℕ) → Asks here.chan here.using_ done (steps.Chan here.chan op) → refuses r ≡ true →
      UsesOrIsRefused s (done ++ (steps.Chan here.chan op, step_replies.Chan here.chan r place) ∷ []) (record { step = number; word = word_of here.call; answer = chan_answer r })
  was-refused op r place asks refusing = λ passed. (λ publish. inr refused, λ read. inr refused)
    where
      refused : WasRefused s (done ++ (steps.Chan here.chan op, step_replies.Chan here.chan r place) ∷ []) (record { step = number; word = word_of here.call; answer = chan_answer r })
      refused = record {
        owner = owner;
        next = next;
        by = here;
        is_word = refl;
        front = done;
        step = (steps.Chan here.chan op, step_replies.Chan here.chan r place);
        rest = [];
        whole = refl;
        last = long;
        asks = asks;
        refused = (r, place, refl, refusing);
        answer = refl;
      }

  -- it is given it
  is-given : (op : ChanOp) (place : ℕ) → Asks here.chan here.using_ done (steps.Chan here.chan op) →
      HasGained here.chan here.using_ (done ++ (steps.Chan here.chan op, step_replies.Chan here.chan replies.Got place) ∷ []) []
  is-given op place asks = gained-now here.chan here.using_ done (steps.Chan here.chan op, step_replies.Chan here.chan replies.Got place) place asks refl

  -- it has to wait
  has-waited : (waits : Bool) (place : ℕ) → HasWaitedFor here.chan here.using_ (done ++ (steps.Chan here.chan (asking_op here.using_ waits), step_replies.Chan here.chan replies.Wait place) ∷ []) place
  has-waited waits place =
      let m : StepMade = (steps.Chan here.chan (asking_op here.using_ waits), step_replies.Chan here.chan replies.Wait place) in
      waits-now here.chan here.using_ done m waits place (ap (λ (x : Step). (x, step_replies.Chan here.chan replies.Wait place)) (asks-so here.chan here.using_ waits))

  -- the steps by which it asks
  opens : (waits : Bool) → Asks here.chan here.using_ done (steps.Chan here.chan (asking_op here.using_ waits))
  opens waits = inl (waits, asks-so here.chan here.using_ waits)

  ends : (p : ℕ) → HasWaitedFor here.chan here.using_ done p → Asks here.chan here.using_ done (steps.Chan here.chan (ops.ClaimEnd p))
  ends p was = inr (p, was, inl (ends-so here.chan here.using_ p))

  quits : (p : ℕ) → HasWaitedFor here.chan here.using_ done p → Asks here.chan here.using_ done (steps.Chan here.chan (ops.ClaimQuit p))
  quits p was = inr (p, was, inr (quits-so here.chan here.using_ p))

  -- a call for the channel: it is given it, waits, or is refused
  asked : (u : Using) (waits : Bool) (r : ChanReply) (place : ℕ) → HasReplied s chans who here.chan (asking_op u waits) (step_replies.Chan here.chan r place) → is_call_reply r ≡ true
  asked (Publish message) waits r place told = offer-replies told.state who message waits r (answers-so s chans who here.chan (ops.Offer message waits) r place told)
  asked Notify waits r place told = enter-replies told.state who waits r (answers-so s chans who here.chan (ops.Enter waits) r place told)
  asked Read waits r place told = enter-replies told.state who waits r (answers-so s chans who here.chan (ops.Enter waits) r place told)

  asks-at_start : (waits : Bool) (r : ChanReply) (place : ℕ) → is_call_reply r ≡ true → After stages.Start (steps.Chan here.chan (asking_op here.using_ waits)) (step_replies.Chan here.chan r place)
  asks-at_start waits replies.Got place may = is-given (asking_op here.using_ waits) place (opens waits)
  asks-at_start waits replies.Wait place may = has-waited waits place
  asks-at_start waits replies.Busy place may = was-refused (asking_op here.using_ waits) replies.Busy place (opens waits) refl
  asks-at_start waits replies.NoMsg place may = was-refused (asking_op here.using_ waits) replies.NoMsg place (opens waits) refl
  asks-at_start waits r place may = absurd (cc)

  asks-alarmed : (moment : ℕ) (r : ChanReply) (place : ℕ) → is_call_reply r ≡ true →
      After (stages.Alarmed moment) (steps.Chan here.chan (asking_op here.using_ true)) (step_replies.Chan here.chan r place)
  asks-alarmed moment replies.Got place may = is-given (asking_op here.using_ true) place (opens true)
  asks-alarmed moment replies.Wait place may = has-waited true place
  asks-alarmed moment replies.Busy place may = was-refused (asking_op here.using_ true) replies.Busy place (opens true) refl
  asks-alarmed moment replies.NoMsg place may = was-refused (asking_op here.using_ true) replies.NoMsg place (opens true) refl
  asks-alarmed moment r place may = absurd (cc)

  sets-alarm : (ticks : ℕ) (r : ClockReply) (place : ℕ) → clock_may_tell (clock_ops.Alarm ticks) r ≡ true →
      After stages.Start (steps.Clock (clock_ops.Alarm ticks)) (step_replies.Clock r place)
  sets-alarm ticks (clock_replies.At moment) place may = tt
  sets-alarm ticks r place may = absurd (cc)

  -- its wait ends, or is given up
  ends-wait : (p : ℕ) (r : ChanReply) (place : ℕ) → HasWaitedFor here.chan here.using_ done p → HasReplied s chans who here.chan (ops.ClaimEnd p) (step_replies.Chan here.chan r place) →
      After (stages.Waits p) (steps.Chan here.chan (ops.ClaimEnd p)) (step_replies.Chan here.chan r place)
  ends-wait p r place was told =
      let got = ended-gives told.state who p r told.gives (answers-so s chans who here.chan (ops.ClaimEnd p) r place told) in
      subst (λ (x : ChanReply). After (stages.Waits p) (steps.Chan here.chan (ops.ClaimEnd p)) (step_replies.Chan here.chan x place)) (sym got)
      (is-given (ops.ClaimEnd p) place (ends p was))

  ends-until : (p moment : ℕ) (r : ChanReply) (place : ℕ) → HasWaitedFor here.chan here.using_ done p → HasReplied s chans who here.chan (ops.ClaimEnd p) (step_replies.Chan here.chan r place) →
      After (stages.WaitsUntil p moment) (steps.Chan here.chan (ops.ClaimEnd p)) (step_replies.Chan here.chan r place)
  ends-until p moment r place was told =
      let got = ended-gives told.state who p r told.gives (answers-so s chans who here.chan (ops.ClaimEnd p) r place told) in
      subst (λ (x : ChanReply). After (stages.WaitsUntil p moment) (steps.Chan here.chan (ops.ClaimEnd p)) (step_replies.Chan here.chan x place)) (sym got)
      (is-given (ops.ClaimEnd p) place (ends p was))

  quits-wait : (p : ℕ) (r : ChanReply) (place : ℕ) → HasWaitedFor here.chan here.using_ done p → is_quit_reply r ≡ true →
      After (stages.Quits p) (steps.Chan here.chan (ops.ClaimQuit p)) (step_replies.Chan here.chan r place)
  quits-wait p replies.Got place was may = is-given (ops.ClaimQuit p) place (quits p was)
  quits-wait p replies.Again place was may = was-refused (ops.ClaimQuit p) replies.Again place (quits p was) refl
  quits-wait p r place was may = absurd (cc)

  -- it uses its channel, and is told observers
  is-told : (op : ChanOp) (told : List ℕ) (place : ℕ) → steps.Chan here.chan op ≡ use_step here.chan here.using_ → is_reading here.using_ ≡ false → is_free (steps.Chan here.chan op, step_replies.Chan here.chan (replies.Observers told) place) ≡ false →
      HasGained here.chan here.using_ done [] → IsVisiting here.chan here.using_ (done ++ (steps.Chan here.chan op, step_replies.Chan here.chan (replies.Observers told) place) ∷ []) told false
  is-told op told place is reads_not unfreed was =
      let m : StepMade = (steps.Chan here.chan op, step_replies.Chan here.chan (replies.Observers told) place) in
      record {
        use_ = m;
        visited = [];
        gained = gained-used here.chan here.using_ done m [] (ap used_chan is ∙ use-used here.chan here.using_) was;
        uses = is;
        told = told;
        tells = (place, refl);
        visits = refl;
        reads_not = reads_not;
        unfreed = ap (λ (b : Bool). b || false) unfreed;
        full_is = refl;
      }

  is-read : (message : List ℕ) (place : ℕ) → steps.Chan here.chan ops.Get ≡ use_step here.chan here.using_ → is_reading here.using_ ≡ true → HasGained here.chan here.using_ done [] →
      IsReading here.chan here.using_ (done ++ (steps.Chan here.chan ops.Get, step_replies.Chan here.chan (replies.Bytes message) place) ∷ []) message
  is-read message place is reads was =
      let m : StepMade = (steps.Chan here.chan ops.Get, step_replies.Chan here.chan (replies.Bytes message) place) in
      record { use_ = m; gained = gained-used here.chan here.using_ done m [] refl was; uses = is; tells = (place, refl); reads = reads; unfreed = refl }

  uses : (u : Using) → u ≡ here.using_ → (r : ChanReply) (place : ℕ) → HasGained here.chan here.using_ done [] → HasReplied s chans who here.chan (use_op u) (step_replies.Chan here.chan r place) →
      After stages.Holds (steps.Chan here.chan (use_op u)) (step_replies.Chan here.chan r place)
  uses (Publish message) is r place was told =
      let tells = set-tells told.state who message r (answers-so s chans who here.chan (ops.Set message) r place told) in
      subst (λ (x : ChanReply). After stages.Holds (steps.Chan here.chan (ops.Set message)) (step_replies.Chan here.chan x place)) tells
      (is-told (ops.Set message) _ place (ap (use_step here.chan) is) (ap is_reading (sym is)) refl was)
  uses Notify is r place was told =
      let tells = list-tells told.state who r (answers-so s chans who here.chan ops.List r place told) in
      subst (λ (x : ChanReply). After stages.Holds (steps.Chan here.chan ops.List) (step_replies.Chan here.chan x place)) tells
      (is-told ops.List _ place (ap (use_step here.chan) is) (ap is_reading (sym is)) refl was)
  uses Read is r place was told =
      let tells = get-tells told.state who r (answers-so s chans who here.chan ops.Get r place told) in
      subst (λ (x : ChanReply). After stages.Holds (steps.Chan here.chan ops.Get) (step_replies.Chan here.chan x place)) tells
      (is-read _ place (ap (use_step here.chan) is) (ap is_reading (sym is)) was)

  -- it visits the next observer
  visited-more : (observer : ℕ) (left : List ℕ) (full b full' : Bool) (reply : StepReply) → is_full (steps.Obs observer (obs_ops.Visit here.chan), reply) ≡ b → (full || b) ≡ full' →
      IsVisiting here.chan here.using_ done (observer ∷ left) full →
      IsVisiting here.chan here.using_ (done ++ (steps.Obs observer (obs_ops.Visit here.chan), reply) ∷ []) left full'
  visited-more observer left full b full' reply finds sum v =
      let m : StepMade = (steps.Obs observer (obs_ops.Visit here.chan), reply) in
      record {
        use_ = v.use_;
        visited = v.visited ++ m ∷ [];
        gained = gained-used here.chan here.using_ done m (v.use_ ∷ v.visited) refl v.gained;
        uses = v.uses;
        told = v.told;
        tells = v.tells;
        visits = ap (λ (l : List Step). l ++ map (visit_of here.chan) left) (map-append (λ (m : StepMade). m.0) v.visited (m ∷ []))
            ∙ append_assoc (map (λ (m : StepMade). m.0) v.visited) (visit_of here.chan observer ∷ []) (map (visit_of here.chan) left) ∙ v.visits;
        reads_not = v.reads_not;
        unfreed = any-more is_free (v.use_ ∷ v.visited) m false false false v.unfreed refl refl;
        full_is = any-more is_full v.visited m full b full' v.full_is finds sum;
      }

  or-true : (b : Bool) → (b || true) ≡ true
  or-true true = refl
  or-true false = refl

  or-false : (b : Bool) → (b || false) ≡ b
  or-false true = refl
  or-false false = refl

  visits : (observer : ℕ) (left : List ℕ) (full : Bool) (at : ℕ) (r : ObsReply) (place : ℕ) → Before (stages.Visits (observer ∷ left) full) →
      After (stages.Visits (observer ∷ left) full) (steps.Obs observer (obs_ops.Visit here.chan)) (step_replies.Obs at r place)
  visits observer left full at obs_replies.Full place v = visited-more observer left full true true (step_replies.Obs at obs_replies.Full place) refl (or-true full) v
  visits observer left full at obs_replies.Run place v = visited-more observer left full false full (step_replies.Obs at obs_replies.Run place) refl (or-false full) v
  visits observer left full at r place v = visited-more observer left full false full (step_replies.Obs at r place) refl (or-false full) v

  -- it frees its channel
  abbrev has-used : (r : ChanReply) (place : ℕ) (answer : Answer) (use_ : StepMade) (others : List StepMade) → HasGained here.chan here.using_ done (use_ ∷ others) → use_.0 ≡ use_step here.chan here.using_ →
      HasUsed s (done ++ (steps.Chan here.chan ops.Free, step_replies.Chan here.chan r place) ∷ []) (record { step = number; word = word_of here.call; answer = answer })
  has-used r place answer use_ others gained uses = record {
    owner = owner;
    next = next;
    by = here;
    is_word = refl;
    front = done;
    free = (steps.Chan here.chan ops.Free, step_replies.Chan here.chan r place);
    rest = [];
    whole = refl;
    last = long;
    frees = refl;
    use_ = use_;
    others = others;
    gained = gained;
    uses = uses;
  }

  -- it has visited all
  frees : (full : Bool) (r : ChanReply) (place : ℕ) → IsVisiting here.chan here.using_ done [] full → After (stages.Visits [] full) (steps.Chan here.chan ops.Free) (step_replies.Chan here.chan r place)
  frees full r place v = λ passed.
      let word = visit-word s.decls here.call here.chan here.using_ here.timeout here.is_plan v.reads_not in (
        λ publish. inl (record {
          used = has-used r place (visits_answer full) v.use_ v.visited v.gained v.uses;
          told = v.told;
          tells = v.tells;
          visits = sym (append-nil (map (λ (m : StepMade). m.0) v.visited)) ∙ v.visits;
          answer = ap visits_answer (sym v.full_is);
        }),
        λ read. absurd (cc),
      )

  -- it has read
  frees-read : (message : List ℕ) (r : ChanReply) (place : ℕ) → Before (stages.Reads message) → After (stages.Reads message) (steps.Chan here.chan ops.Free) (step_replies.Chan here.chan r place)
  frees-read message r place v = λ passed.
      let word = read-word s.decls here.call here.chan here.using_ here.timeout here.is_plan v.reads in (
        λ publish. absurd (cc),
        λ read. inl (record {
          used = has-used r place (answers.Bytes message) v.use_ [] v.gained v.uses;
          message = message;
          tells = v.tells;
          alone = refl;
          answer = refl;
        }),
      )

  each : EachStep s chans who here.chan here.using_ Before After
  each = record {
    asks = λ waits r place was told. asks-at_start waits r place (asked here.using_ waits r place told);
    sets_alarm = λ ticks r place was may. sets-alarm ticks r place may;
    asks_alarmed = λ moment r place was told. asks-alarmed moment r place (asked here.using_ true r place told);
    ends_wait = ends-wait;
    ends_until = ends-until;
    ends_alarm = λ p moment r place was. waits-still here.chan here.using_ done (steps.Clock (clock_ops.AlarmEnd moment), step_replies.Clock r place) p was;
    quits_wait = λ p r place was told. quits-wait p r place was (quit-gives told.state who p r told.gives (answers-so s chans who here.chan (ops.ClaimQuit p) r place told));
    uses = λ r place was told. uses here.using_ refl r place was told;
    visits = visits;
    frees = λ full r place was told. frees full r place was;
    frees_read = λ message r place was told. frees-read message r place was;
  }

  -- so it is of this script's next call, whichever way that is told
  of-each : (done : List StepMade) (stage : Stage) → CallHas here.chan here.using_ done stage → CallVisits s done owner next stage
  of-each done stage has by =
      let one = same_Some here.call by.call (sym here.is_call ∙ by.is_call) in
      let same = same-plan here.chan by.chan here.using_ by.using_ here.timeout by.timeout (sym here.is_plan ∙ ap (plan_of s.decls) one ∙ by.is_plan) in
      subst (λ (c : ℕ). CallHas c by.using_ done stage) same.0 (subst (λ (u : Using). CallHas here.chan u done stage) same.1 has)
    where
      same-plan : (a b : ℕ) (u v : Using) (t w : Timeout) → plans.Channel a u t ≡ plans.Channel b v w → (a ≡ b) × (u ≡ v)
      same-plan a b u v t w same = (cc, cc)

  by_progress : (later : List StepMade) (progress : Progress) → Has later progress → VisitsBy s later owner next number progress
  by_progress later (Goes stage) has = of-each later stage has
  by_progress later (Answers word answer) has = has
  by_progress later (Enters object stage) has = of-each later stage has

  pub channel-visits : (stage : Stage) (k : ℕ) (step : Step) (reply : StepReply) → slice_get (channel_attempts here.chan here.using_ here.timeout stage) k ≡ Some step →
      CallVisits s done owner next stage → IsReplied s chans who step reply →
      VisitsBy s (done ++ (step, reply) ∷ []) owner next number (channel_progress (word_of here.call) stage reply)
  channel-visits stage k step reply there v is =
      by_progress (done ++ (step, reply) ∷ []) (channel_progress (word_of here.call) stage reply)
      (each-step s chans who here.chan here.using_ Before After each here.timeout stage k step reply there (v here) is)

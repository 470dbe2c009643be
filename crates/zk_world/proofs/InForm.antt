-- The trace of a sound world is in form, where its numbers are within their types.
use Rattle.std.proofs.Common.{◌≡◌, ℕ, zero, suc, ◌+◌, ◌<◌, true, Option, Some, None, List, [], ◌∷◌, length, map, take, All, refl, sym, ap, subst, ◌∙◌, arith}
use Rattle.std.specs.List.{AllByRecursion, AllZip, range_with_len, slice_get}
use Rattle.std.specs.Option.{option_map}
use Rattle.std.proofs.lemmas.List.Elements.{All-from_recursion, recursion_from_All}
use Rattle.std.proofs.lemmas.Option.{same_Some, none-some, slice_get_within}
use Rattle.zk_base.specs.declared.ids.Entry.{Entry}
use Rattle.zk_base.specs.declared.seen.Seen.{Seen}
use Rattle.zk_base.specs.Legal.{Machine, state_after}
use Rattle.zk_base.proofs.Lists.{All-at}
use Rattle.zk_blocks.specs.Each.{EachFits}
use Rattle.zk_blocks.specs.Rows.{AllFit}
use Rattle.zk_line.specs.declared.types.Decl.{Decl}
use Rattle.zk_line.specs.Objects.{is_signal}
use Rattle.zk_model_wait.specs.declared.signal.SignalOp.{SignalOp}
use Rattle.zk_model_wait.specs.declared.signal.SignalOp.TheVariants as writes
use Rattle.zk_model_wait.specs.Signal.{written_by, write_of, value_at, signal_machine}
use Rattle.zk_model_work.specs.State.{State}
use Rattle.zk_model_work.specs.Machine.{flags_of, work_machine}
use Rattle.zk_scenario.specs.Content.{Content}
use Rattle.zk_scenario.specs.Players.{players}
use Rattle.zk_worker.specs.declared.answers.Answered.{Answered}
use Rattle.zk_worker.specs.declared.log.Log.{Log}
use Rattle.zk_worker.specs.declared.steps.Spot.{Spot}
use Rattle.zk_worker.specs.declared.steps.Spot.TheVariants as spots
use Rattle.zk_worker.specs.Follows.{log_of}
use Rattle.zk_worker.specs.Looks.{writes_of, looks_at, IsKnown}
use Rattle.zk_worker.specs.Machines.{work_start_of, item_of, machines_of, signal_start}
use Rattle.zk_worker.specs.Places.{PlayerPlace}
use Rattle.zk_worker.specs.Right.{IsRight}
use Rattle.zk_worker.proofs.Lists.{there-mapped}
use Rattle.zk_trace.specs.declared.trace.Ending.{Ending}
use Rattle.zk_trace.specs.declared.trace.Trace.{Trace}
use Rattle.zk_trace.specs.AnswerRead.{IsAnswered}
use Rattle.zk_trace.specs.Form.{AreOfKind, IsLog, IsInForm}
use Rattle.zk_trace.specs.LookRead.{can_be_seen, FitsSignalLook}
use Rattle.zk_trace.specs.Looked.{signal_looks_of}
use Rattle.zk_trace.specs.Sized.{IsSizedAnswer, IsSizedLog, IsSizedSignalLook, IsSized}
use Rattle.zk_trace.specs.Stood.{stood}
use Rattle.zk_trace.proofs.HistoriesFit.{all-there}
use Rattle.zk_trace.proofs.LogAnswers.{AnswerSuits, ShownFits, LookHolds, answers-hold}
use Rattle.zk_trace.proofs.LogSteps.{log-steps}
use Rattle.zk_trace.proofs.LooksFit.{ItemLooksHold, item-looks-fit, SignalLooksHold, signal-looks-fit}
use Rattle.zk_trace.proofs.WorkAnswers.{flags-below}
use Rattle.zk_world.specs.Legal.{IsLegalAt}
use Rattle.zk_world.specs.Requests.{LookFits}
use Rattle.zk_world.specs.Sound.{IsSound}
use Rattle.zk_world.specs.Traces.{world_trace}
use Rattle.zk_world.specs.World.{World}
use Rattle.zk_world.proofs.Histories.{histories-fit}
use Rattle.zk_world.proofs.Lawful.{sound-lawful}

-- What looks find.

-- busy flags are below 32
flags-few : (m : State) (item : Option ℕ) (flags : ℕ) → option_map (flags_of m) item ≡ Some flags → flags < 32
flags-few m None flags is = absurd (none-some flags is)
flags-few m (Some item) flags is = subst (λ (n : ℕ). n < 32) (same_Some (flags_of m item) flags is) (flags-below _ _ _ _ _)

-- what a write leaves of a signal can be
left-can-be : (stamp : ℕ) (write : Option SignalOp) → can_be_seen (written_by stamp write) ≡ true
left-can-be stamp None = refl
left-can-be stamp (Some (writes.Raise value)) = refl
left-can-be stamp (Some writes.Clear) = refl

-- there are as many histories as declarations
as-many : {S O R : Type 0} (m : Machine S O R) (start : Decl → Option S) (ds : List Decl) (hs : List (List (Entry O R))) → AllZip (IsLegalAt m) (map start ds) hs → length hs ≡ length ds
as-many m start [] [] all = refl
as-many m start [] (h ∷ hs) all = absurd all
as-many m start (d ∷ ds) [] all = absurd all
as-many m start (d ∷ ds) (h ∷ hs) all = ap suc (as-many m start ds hs all.1)

-- What holds of each log by its place holds of each.
each-placed : {B : Type 0} (Fits : ℕ → B → Type 0) (xs : List B) (from many : ℕ) → length xs ≡ many → ((k : ℕ) (x : B) → slice_get xs k ≡ Some x → Fits (from + k) x) → EachFits Fits (range_with_len from many) xs
each-placed Fits [] from zero long each = tt
each-placed Fits [] from (suc many) long each = absurd (omega arith)
each-placed Fits (x ∷ xs) from zero long each = absurd (omega arith)
each-placed Fits (x ∷ xs) from (suc many) long each = (
  let same : from + zero ≡ from = omega arith in subst (λ (n : ℕ). Fits n x) same (each zero x refl),
  each-placed Fits xs (from + 1) many (omega arith) (λ k y there. let same : from + suc k ≡ (from + 1) + k = omega arith in subst (λ (n : ℕ). Fits n y) same (each (suc k) y there)),
)

-- answers that suit their words are in form, where their numbers are within their types
answers-fit : (s : Content) (xs : List Answered) → AllByRecursion (AnswerSuits s) xs → AllByRecursion IsSizedAnswer xs → AllByRecursion (IsAnswered s.decls) xs
answers-fit s [] suit sized = tt
answers-fit s (x ∷ xs) suit sized = (record { step = sized.0.step; answer = suit.0 sized.0.answer }, answers-fit s xs suit.1 sized.1)

module _ (s : Content) (ending : Ending) (w : World) (sound : IsSound s w) (sized : IsSized (world_trace s ending w)) where
  abbrev trace : Trace
  trace = world_trace s ending w

  abbrev logs : List Log
  logs = map (log_of s) w.players

  fits : ShownFits s.decls w.shown
  fits = histories-fit s ending w sound sized

  -- a step of a log is right, and names what is declared
  right : (number : ℕ) (at : PlayerPlace) (k : ℕ) (spot : Spot) → slice_get w.players number ≡ Some at → slice_get at.spots k ≡ Some spot →
      LookFits s.decls spot × IsRight (machines_of s) w.shown spot
  right number at k spot there here = (
    All-at (LookFits s.decls) at.spots k spot (All-at (λ (a : PlayerPlace). All (LookFits s.decls) a.spots) w.players number at sound.fitting.looks there) here,
    (sound.ready.looks number at there).each k spot here,
  )

  -- and of the log's player
  step-there : (number : ℕ) (log : Log) (k : ℕ) (spot : Spot) → slice_get logs number ≡ Some log → slice_get log.steps k ≡ Some spot →
      (number < length (players s.decls)) × LookFits s.decls spot × IsRight (machines_of s) w.shown spot
  step-there number log k spot there here =
      let found = there-mapped (log_of s) w.players number log there in
      let both = right number found.0 k spot found.1 (ap (λ (l : Log). slice_get l.steps k) found.2 ∙ here) in
      (omega (arith, slice_get_within w.players number found.0 found.1, sound.as_many), both.0, both.1)

  -- a look at a signal finds what a write left
  left : (object : ℕ) (seen : Seen) → IsRight (machines_of s) w.shown (spots.LookSignal object seen) → can_be_seen seen ≡ true
  left object seen is =
      let value : value_at (writes_of is.0) seen.stamp ≡ seen = subst (λ (looks : Option (List (List Seen))). IsKnown (looks_at looks object) is.0 seen) sound.ready.whole is.3 in
      subst (λ (found : Seen). can_be_seen found ≡ true) value (left-can-be seen.stamp (write_of (writes_of is.0) seen.stamp))

  -- the looks of a log that are right are so
  look-holds : (spot : Spot) → IsRight (machines_of s) w.shown spot → LookHolds spot
  look-holds (spots.LookItem object flags at) is = flags-few (state_after work_machine (work_start_of s) (take at w.shown.work)) (item_of (machines_of s) object) flags is.1
  look-holds (spots.LookSignal object seen) is = left object seen is
  look-holds spot is = tt

  item-looks-hold : ItemLooksHold s.decls logs
  item-looks-hold number log k item flags at there here =
      let found = step-there number log k (spots.LookItem item flags at) there here in
      (found.0, found.1, look-holds (spots.LookItem item flags at) found.2)

  signal-looks-hold : SignalLooksHold s.decls logs
  signal-looks-hold number log k object seen there here =
      let found = step-there number log k (spots.LookSignal object seen) there here in
      (found.0, found.1, look-holds (spots.LookSignal object seen) found.2)

  many : length w.shown.signals ≡ length s.decls
  many = as-many signal_machine signal_start s.decls w.shown.signals sound.legal.signals

  -- the log of a player
  log-fits : (number : ℕ) (log : Log) → slice_get logs number ≡ Some log → IsLog s.decls (stood trace) number log
  log-fits number log there =
      let found = there-mapped (log_of s) w.players number log there in
      let hold : AllByRecursion (AnswerSuits s) found.0.answers =
      recursion_from_All (AnswerSuits s) found.0.answers (answers-hold s number w.shown found.0 fits
      (All-from_recursion LookHolds found.0.spots (all-there LookHolds found.0.spots (λ k spot here. look-holds spot (right number found.0 k spot found.1 here).1))) (sound.ready.follow number found.0 found.1)) in
      record {
        steps = sym (log-steps s trace (sound-lawful s ending w sound).place
            (λ number log k object seen there here. let is = (step-there number log k (spots.LookSignal object seen) there here).2 in slice_get_within w.shown.signals object is.0 is.1)
            number log there);
        answers = answers-fit s log.answers (subst (λ (l : Log). AllByRecursion (AnswerSuits s) l.answers) found.2 hold)
            (recursion_from_All IsSizedAnswer log.answers (All-at IsSizedLog logs number log sized.logs there));
      }

  -- the trace is in form
  pub sound-in-form : IsInForm s trace
  sound-in-form = record {
    work = fits.work;
    clock = fits.clock;
    table = fits.table;
    sems = fits.sems;
    msgqs = fits.msgqs;
    signals = fits.signals;
    chans = fits.chans;
    observers = fits.observers;
    item_looks = item-looks-fit s.decls logs item-looks-hold sized.item_looks;
    signal_looks = subst (λ (n : ℕ). AreOfKind is_signal (AllFit (FitsSignalLook s.decls) None) s.decls (signal_looks_of n logs)) (sym many)
        (signal-looks-fit s.decls logs signal-looks-hold (subst (λ (n : ℕ). All (All IsSizedSignalLook) (signal_looks_of n logs)) many sized.signal_looks));
    logs = each-placed (IsLog s.decls (stood trace)) logs 0 (length (players s.decls)) (sound-lawful s ending w sound).log.logged
        (λ k log there. subst (λ (n : ℕ). IsLog s.decls (stood trace) n log) (omega arith) (log-fits k log there));
  }

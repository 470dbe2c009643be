-- Where a log fails it doesn't follow the scenario: it leads its player to one place.
use Rattle.std.proofs.Common.{◌≡◌, ℕ, Some, List, length, take, sym, ap, subst, ◌∙◌, arith}
use Rattle.std.specs.List.{slice_get}
use Rattle.std.proofs.lemmas.List.{take_all}
use Rattle.std.proofs.lemmas.Option.{same_Some}
use Rattle.zk_scenario.specs.Content.{Content}
use Rattle.zk_worker.specs.declared.answers.Answered.{Answered}
use Rattle.zk_worker.specs.declared.log.Log.{Log}
use Rattle.zk_worker.specs.declared.steps.Spot.{Spot}
use Rattle.zk_worker.specs.Follows.{log_of}
use Rattle.zk_worker.specs.Places.{PlayerPlace}
use Rattle.zk_worker.specs.Protocol.{IsAhead}
use Rattle.zk_trace.specs.declared.trace.Trace.{Trace}
use Rattle.zk_trace.specs.Log.{AreLogged}
use Rattle.zk_trace.specs.Shown.{trace_shown}
use Rattle.zk_trace.proofs.OnePlace.{one-place}
use Rattle.zk_failures.specs.declared.site.Site.{Site}
use Rattle.zk_failures.specs.declared.site.Site.TheVariants.{Ending, Row, Player, Answer}
use Rattle.zk_failures.specs.First.{IsFirst, HoldsNowhere}
use Rattle.zk_failures.specs.LogFailure.{IsLed, IsAstray, IsOtherAnswer, IsOtherEnd, FailsLog, IsLogFailure}
use Rattle.zk_failures.specs.OtherAnswers.{HaveAll, IsOtherAt}
use Rattle.zk_failures.proofs.LedPlayers.{makes-next}

-- all steps of a log are taken
pub all-taken : (log : Log) (here : PlayerPlace) → here.spots ≡ take (length log.steps) log.steps → here.spots ≡ log.steps
all-taken log here by = by ∙ take_all (length log.steps) log.steps (omega arith)

-- a step of a log that follows is one of the next attempts where the steps before it lead
pub astray-never : (s : Content) (t : Trace) (player step : ℕ) → AreLogged s t → IsAstray s t player step → ⊥
astray-never s t player step logged is =
    let follows = logged.follow player is.log is.led.logged in
    let steps_are : follows.end.spots ≡ is.log.steps = ap (λ (l : Log). l.steps) follows.logged in
    let there = subst (λ (l : List Spot). slice_get l step ≡ Some is.spot) (sym steps_are) is.next in
    let next = makes-next s player (trace_shown t) follows.end step is.spot follows.led there in
    let same = one-place s player (trace_shown t) is.here next.here is.led.led next.led (is.led.by ∙ ap (take step) (sym steps_are) ∙ sym next.by) in
    is.astray next.made next.stands (subst (λ (x : PlayerPlace). IsAhead s x next.made.0) (sym same) next.ahead)

-- two places to which all steps of a player lead are one
pub same-end : (s : Content) (t : Trace) (player : ℕ) (log other : Log) (here there : PlayerPlace) →
    IsLed s t player log (length log.steps) here → IsLed s t player other (length other.steps) there → (log ≡ other) × (here ≡ there)
same-end s t player log other here there one two =
    let same = same_Some log other (sym one.logged ∙ two.logged) in (
      same,
      one-place s player (trace_shown t) here there one.led two.led
          (all-taken log here one.by ∙ ap (λ (l : Log). l.steps) same ∙ sym (all-taken other there two.by)),
    )

-- all steps of a log that follows lead its player where it stands so
follows-end : (s : Content) (t : Trace) (player : ℕ) (log : Log) (here : PlayerPlace) → AreLogged s t → IsLed s t player log (length log.steps) here → log_of s here ≡ log
follows-end s t player log here logged led =
    let follows = logged.follow player log led.logged in
    let steps_are : follows.end.spots ≡ log.steps = ap (λ (l : Log). l.steps) follows.logged in
    let same = one-place s player (trace_shown t) here follows.end led.led follows.led (all-taken log here led.by ∙ sym steps_are) in
    ap (log_of s) same ∙ follows.logged

pub other-answer-never : (s : Content) (t : Trace) (player place : ℕ) → AreLogged s t → IsOtherAnswer s t player place → ⊥
other-answer-never s t player place logged is =
    let ends = follows-end s t player is.log is.here logged is.led in
    let answers : is.here.answers ≡ is.log.answers = ap (λ (l : Log). l.answers) ends in
    is.other (subst (λ (l : List Answered). slice_get l place ≡ Some is.answer) (sym answers) is.there)

pub other-end-never : (s : Content) (t : Trace) (player : ℕ) → AreLogged s t → IsOtherEnd s t player → ⊥
other-end-never s t player logged is = is.other (follows-end s t player is.log is.here logged is.led)

fails-never : (s : Content) (t : Trace) (player : ℕ) (site : Site) → AreLogged s t → FailsLog s t player site → ⊥
fails-never s t player (Row place) logged fails = astray-never s t player fails.0 logged fails.1
fails-never s t player (Answer of place) logged fails = other-answer-never s t player place logged fails.1.fails
fails-never s t player (Player of) logged fails = other-end-never s t player logged fails.2
fails-never s t player Ending logged fails = fails

-- the logs of a trace where one fails aren't those of the scenario's players
pub log-never : (s : Content) (t : Trace) (site : Site) → IsLogFailure s t site → AreLogged s t → ⊥
log-never s t site failure logged = fails-never s t failure.player site logged failure.fails

-- Where the answers of a player aren't those of its log.

-- what is another answer where all steps lead is one among the answers there
other-back : (s : Content) (t : Trace) (player : ℕ) (log : Log) (here : PlayerPlace) (place : ℕ) → IsLed s t player log (length log.steps) here →
    IsOtherAnswer s t player place → IsOtherAt here.answers log.answers place
other-back s t player log here place led is =
    let same = same-end s t player is.log log is.here here is.led led in
    record {
      answer = is.answer;
      there = subst (λ (l : Log). slice_get l.answers place ≡ Some is.answer) same.0 is.there;
      other = λ has. is.other (subst (λ (x : PlayerPlace). slice_get x.answers place ≡ Some is.answer) (sym same.1) has);
    }

pub other-first : (s : Content) (t : Trace) (player : ℕ) (log : Log) (here : PlayerPlace) (place : ℕ) → IsLed s t player log (length log.steps) here →
    IsFirst (IsOtherAt here.answers log.answers) place → IsFirst (IsOtherAnswer s t player) place
other-first s t player log here place led first = record {
  fails = record {
    log = log;
    here = here;
    led = led;
    answer = first.fails.answer;
    there = first.fails.there;
    other = first.fails.other;
  };
  none_before = λ earlier below is. first.none_before earlier below (other-back s t player log here earlier led is);
}

pub other-nowhere : (s : Content) (t : Trace) (player : ℕ) (log : Log) (here : PlayerPlace) → IsLed s t player log (length log.steps) here →
    HaveAll here.answers log.answers → HoldsNowhere (IsOtherAnswer s t player)
other-nowhere s t player log here led all place is =
    let other = other-back s t player log here place led is in
    other.other (all place other.answer other.there)

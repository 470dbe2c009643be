-- Players that are led by their logs, step by step and one after another.
use Rattle.std.proofs.Common.{◌≡◌, ◌⊎◌, inl, inr, ℕ, zero, suc, ◌+◌, ◌≤◌, ◌<◌, Some, List, [], ◌∷◌, ◌++◌, length, take, get_or, refl, sym, ap, subst, ◌∙◌, arith}
use Rattle.std.specs.List.{slice_get}
use Rattle.std.proofs.lemmas.List.{take_all, take_more}
use Rattle.std.proofs.lemmas.List.FromFn.{length-range_with_len}
use Rattle.std.proofs.lemmas.Option.{same_Some, slice_get_within, slice_get_read, get_or_from_slice_get}
use Rattle.zk_base.specs.Limits.{most_players}
use Rattle.zk_blocks.proofs.Each.{each_fits-length}
use Rattle.zk_scenario.specs.Content.{Content}
use Rattle.zk_scenario.specs.Players.{players}
use Rattle.zk_scenario.specs.Valid.{IsValid}
use Rattle.zk_scenario.proofs.Valid.{length-players}
use Rattle.zk_worker.specs.declared.answers.Answered.{Answered}
use Rattle.zk_worker.specs.declared.log.Log.{Log}
use Rattle.zk_worker.specs.declared.log.PlayerState.{PlayerState}
use Rattle.zk_worker.specs.declared.steps.Spot.{Spot}
use Rattle.zk_worker.specs.Follows.{StepMade, Stands, log_of, state_at}
use Rattle.zk_worker.specs.Places.{PlayerPlace}
use Rattle.zk_worker.specs.Protocol.{IsAhead, after, start_at}
use Rattle.zk_worker.proofs.Following.{following-fresh, following-more}
use Rattle.zk_worker.proofs.Lists.{at-end}
use Rattle.zk_worker.proofs.Starts.{start_at-fresh}
use Rattle.zk_trace.specs.declared.stood.Stood.{Stood}
use Rattle.zk_trace.specs.declared.trace.Trace.{Trace}
use Rattle.zk_trace.specs.Form.{IsInForm, IsLog, player_numbers}
use Rattle.zk_trace.specs.Log.{AreLogged}
use Rattle.zk_trace.specs.Place.{IsPlaced}
use Rattle.zk_trace.specs.Shown.{trace_shown}
use Rattle.zk_trace.specs.Stood.{stood}
use Rattle.zk_failures.specs.declared.site.Site.{Site}
use Rattle.zk_failures.specs.LogFailure.{IsLed, IsAstray, IsRowOf, IsOtherEnd, IsGood, FailsLog, IsLogFailure}
use Rattle.zk_failures.specs.OtherAnswers.{HaveAll}
use Rattle.zk_failures.specs.Played.{IsPlayedOut, EachPlayedOut}
use Rattle.zk_failures.proofs.LedPlayers.{stands-spot, spots-after}
use Rattle.zk_failures.proofs.LogsLed.{all-taken}
use Rattle.zk_failures.proofs.PlacedSteps.{row-of-step}

-- One step after another.

-- no step has led a player yet where it starts
pub led-start : (s : Content) (t : Trace) (player : ℕ) (log : Log) (at : PlayerPlace) → slice_get t.logs player ≡ Some log → start_at s player ≡ Some at → IsLed s t player log 0 at
led-start s t player log at logged is = record {
  logged = logged;
  led = following-fresh s player (trace_shown t) at is;
  by = (start_at-fresh s player at is).none_made;
}

take-next : (xs : List Spot) (k : ℕ) (x : Spot) → slice_get xs k ≡ Some x → take (k + 1) xs ≡ take k xs ++ x ∷ []
take-next xs k x there = take_more xs k x (slice_get_within xs k x there) ∙ ap (λ (y : Spot). take k xs ++ y ∷ []) (get_or_from_slice_get xs k x x there)

-- one step more, which stands at the next spot
pub led-more : (s : Content) (t : Trace) (player : ℕ) (log : Log) (step : ℕ) (here next : PlayerPlace) (spot : Spot) (made : StepMade) → IsLed s t player log step here →
    slice_get log.steps step ≡ Some spot → Stands (trace_shown t) spot made → IsAhead s here made.0 → next ≡ after s here made.0 made.1 → IsLed s t player log (step + 1) next
led-more s t player log step here next spot made led there stands ahead is =
    let shown = trace_shown t in
    let stood_there = subst (λ (x : Spot). Stands shown x made) (sym (stands-spot shown spot made stands)) stands in
    let after_it : IsLed s t player log (step + 1) (after s here made.0 made.1) = record {
      logged = led.logged;
      led = following-more s player shown shown here made.0 made.1 (record { here = stood_there; still = λ at other stands. stands }) ahead led.led;
      by = spots-after s shown here spot made stands ∙ ap (λ (l : List Spot). l ++ spot ∷ []) led.by ∙ sym (take-next log.steps step spot there);
    } in
    subst (λ (x : PlayerPlace). IsLed s t player log (step + 1) x) (sym is) after_it

-- past the last step all have led it
pub led-all : (s : Content) (t : Trace) (player : ℕ) (log : Log) (step : ℕ) (here : PlayerPlace) → length log.steps ≤ step → IsLed s t player log step here → IsLed s t player log (length log.steps) here
led-all s t player log step here past led = record {
  logged = led.logged;
  led = led.led;
  by = led.by ∙ take_all step log.steps past ∙ sym (take_all (length log.steps) log.steps (omega arith));
}

-- or the player stops at a step
pub astray-here : (s : Content) (t : Trace) (player : ℕ) (log : Log) (step : ℕ) (here : PlayerPlace) (spot : Spot) → IsLed s t player log step here → slice_get log.steps step ≡ Some spot →
    ((made : StepMade) → Stands (trace_shown t) spot made → IsAhead s here made.0 → ⊥) → IsAstray s t player step
astray-here s t player log step here spot led there none = record { log = log; here = here; led = led; spot = spot; next = there; astray = none }

-- Where all steps lead.

answers-same : (xs ys : List Answered) → HaveAll xs ys → length xs ≡ length ys → xs ≡ ys
answers-same [] [] all long = refl
answers-same [] (y ∷ ys) all long = absurd (omega (arith, long))
answers-same (x ∷ xs) [] all long = absurd (omega (arith, long))
answers-same (x ∷ xs) (y ∷ ys) all long =
    let first : x ≡ y = same_Some x y (all 0 y refl) in
    let rest : xs ≡ ys = answers-same xs ys (λ place answer there. all (suc place) answer there) (omega (arith, long)) in
    ap (λ (a : Answered). a ∷ xs) first ∙ ap (λ (l : List Answered). y ∷ l) rest

parts-same : (p p' : PlayerState) (a a' : List Spot) (b b' : List Answered) → p ≡ p' → a ≡ a' → b ≡ b' →
    ◌≡◌ {A = Log} (record { state = p; steps = a; answers = b }) (record { state = p'; steps = a'; answers = b' })
parts-same p p' a a' b b' one two three = cc

-- a player that all steps lead here, with these answers and no more, and that stands so, has this log
pub log-same : (s : Content) (t : Trace) (player : ℕ) (log : Log) (here : PlayerPlace) → IsLed s t player log (length log.steps) here → HaveAll here.answers log.answers →
    length here.answers ≡ length log.answers → state_at s here ≡ log.state → log_of s here ≡ log
log-same s t player log here led all long state =
    parts-same (state_at s here) log.state here.spots log.steps here.answers log.answers state (all-taken log here led.by) (answers-same here.answers log.answers all long)

-- one that has more answers, or doesn't stand so, hasn't
pub other-end : (s : Content) (t : Trace) (player : ℕ) (log : Log) (here : PlayerPlace) → IsLed s t player log (length log.steps) here →
    ((length here.answers ≡ length log.answers) × (state_at s here ≡ log.state) → ⊥) → IsOtherEnd s t player
other-end s t player log here led isnt = record {
  log = log;
  here = here;
  led = led;
  other = λ is. isnt (ap (λ (l : Log). length l.answers) is, ap (λ (l : Log). l.state) is);
}

pub played-out : (s : Content) (t : Trace) (player : ℕ) (log : Log) (here : PlayerPlace) → IsLed s t player log (length log.steps) here → log_of s here ≡ log → IsPlayedOut s t player here
played-out s t player log here led is = record { led = led.led; logged = led.logged ∙ ap (λ (l : Log). Some l) (sym is) }

-- One player after another.

-- one player more
pub each-more : (s : Content) (t : Trace) (at : List PlayerPlace) (here : PlayerPlace) → EachPlayedOut s t at → IsPlayedOut s t (length at) here → EachPlayedOut s t (at ++ here ∷ [])
each-more s t at here each is player x there = by (at-end at here x player there) where
  by : (slice_get at player ≡ Some x) ⊎ ((player ≡ length at) × (here ≡ x)) → IsPlayedOut s t player x
  by (inl was) = each player x was
  by (inr new) = subst (λ (n : ℕ). IsPlayedOut s t n x) (sym new.0) (subst (IsPlayedOut s t (length at)) new.1 is)

there-within : {A : Type 0} (xs : List A) (k : ℕ) → k < length xs → (x : A) × (slice_get xs k ≡ Some x)
there-within [] k below = absurd (omega arith)
there-within (x ∷ xs) zero below = (x, refl)
there-within (x ∷ xs) (suc k) below = there-within xs k (omega arith)

-- the log of each such player follows the scenario
pub each-good : (s : Content) (t : Trace) (at : List PlayerPlace) → EachPlayedOut s t at → (player : ℕ) → player < length at → IsGood s t player
each-good s t at each player below log there =
    let found = there-within at player below in
    let is = each player found.0 found.1 in
    record {
      end = found.0;
      led = is.led;
      logged = same_Some (log_of s found.0) log (sym is.logged ∙ there);
    }

-- the first log that fails stands behind those of players that are led by theirs
pub first-failure : (s : Content) (t : Trace) (at : List PlayerPlace) (player : ℕ) (site : Site) → length at ≡ player → EachPlayedOut s t at → FailsLog s t player site → IsLogFailure s t site
first-failure s t at player site count each fails = record {
  player = player;
  fails = fails;
  first = λ earlier below. each-good s t at each earlier (omega (arith, count));
}

-- the log of a player, as it was read
pub log-read : (t : Trace) (logs : List Log) (player : ℕ) (log : Log) → logs ≡ t.logs → player < length logs → log ≡ get_or logs player log → slice_get t.logs player ≡ Some log
log-read t logs player log all below is = subst (λ (l : List Log). slice_get l player ≡ Some log) all (slice_get_read logs (length logs) player log refl below is)

-- in a trace in form there is a log for each player
pub logs-all : (s : Content) (t : Trace) → IsInForm s t → length t.logs ≡ length (players s.decls)
logs-all s t form = omega (arith, each_fits-length (IsLog s.decls (stood t)) (player_numbers s.decls) t.logs form.logs, length-range_with_len 0 (length (players s.decls)))

pub players-few : (s : Content) → IsValid s → length (players s.decls) ≤ most_players
players-few s valid = omega (arith, length-players s.decls, valid.players)

-- where all logs are followed, they are those of the scenario's players
pub all-logged : (s : Content) (t : Trace) (at : List PlayerPlace) → IsInForm s t → length at ≡ length t.logs → EachPlayedOut s t at → AreLogged s t
all-logged s t at form all each = record {
  logged = logs-all s t form;
  follow = λ player log there. let within = slice_get_within t.logs player log there in each-good s t at each player (omega (arith, all)) log there;
}

-- The line of a step that isn't made.

-- what is found among the lines is that of the step
pub row-found : (t : Trace) (rows : List Stood) (player step place : ℕ) → rows ≡ stood t → (line : Stood) × (slice_get rows place ≡ Some line) × (line.player ≡ player) × (line.step ≡ step) →
    IsRowOf t player step place
row-found t rows player step place all found = record {
  line = found.0;
  there = subst (λ (l : List Stood). slice_get l place ≡ Some found.0) all found.1;
  player_is = found.2;
  step_is = found.3;
}

-- it is found
pub row-missing : (s : Content) (t : Trace) (rows : List Stood) (player step : ℕ) → IsInForm s t → IsPlaced s t → rows ≡ stood t → IsAstray s t player step →
    ((place : ℕ) (line : Stood) → slice_get rows place ≡ Some line → line.player ≡ player → line.step ≡ step → ⊥) → ⊥
row-missing s t rows player step form placed all is none =
    let row = row-of-step s t form placed player is.log step is.spot is.led.logged is.next in
    none row.0 row.1 (subst (λ (l : List Stood). slice_get l row.0 ≡ Some row.1) (sym all) row.2) row.3 row.4

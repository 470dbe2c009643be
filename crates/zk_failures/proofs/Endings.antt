-- Whether a run ends so, by its logs, its history of work and what its players can still do.
use Rattle.std.proofs.Common.{◌≡◌, ◌↔◌, IsTrue, ℕ, zero, suc, ◌<◌, Bool, true, false, Option, Some, None, List, [], ◌∷◌, refl, sym, ap, subst, ◌∙◌, arith}
use Rattle.std.specs.List.{slice_get}
use Rattle.std.specs.Option.{option_and_then}
use Rattle.std.proofs.lemmas.Option.{same_Some, slice_get_within}
use Rattle.zk_base.specs.declared.ids.Who.{Who}
use Rattle.zk_scenario.specs.Content.{Content}
use Rattle.zk_scenario.specs.Valid.{IsValid}
use Rattle.zk_worker.specs.declared.log.Log.{Log}
use Rattle.zk_worker.specs.declared.steps.Step.{Step}
use Rattle.zk_worker.specs.declared.steps.StepReply.{StepReply}
use Rattle.zk_worker.specs.Attempt.{reply_in}
use Rattle.zk_worker.specs.Choosing.{or_else, first_possible, chosen}
use Rattle.zk_worker.specs.Follows.{IsFollowing, log_of}
use Rattle.zk_worker.specs.Machines.{Machines, machines_of}
use Rattle.zk_worker.specs.Places.{PlayerPlace}
use Rattle.zk_worker.specs.Shown.{Shown, ShowsLog}
use Rattle.zk_worker.proofs.Ranges.{ahead-takes}
use Rattle.zk_trace.specs.declared.trace.Ending.TheVariants.{Spent}
use Rattle.zk_trace.specs.declared.trace.Trace.{Trace}
use Rattle.zk_trace.specs.Ending.{lawful_ending, EndsSo}
use Rattle.zk_trace.specs.History.{AreLegal}
use Rattle.zk_trace.specs.Place.{IsPlaced}
use Rattle.zk_trace.specs.Shown.{trace_shown}
use Rattle.zk_trace.proofs.OnePlace.{one-place}
use Rattle.zk_failures.specs.CanStep.{EachCanTry, NoneSteps}
use Rattle.zk_failures.specs.Played.{ArePlayedOut}
use Rattle.zk_failures.proofs.FollowedFits.{followed-fits, followed-number}
use Rattle.zk_failures.proofs.PlacedLists.{there-is}

-- Attempts.

module _ (m : Machines) (shown : Shown) (who : Who) where
  -- where one of some attempts is possible, there is a first that is
  pub possible-some : (ahead : List Step) (k : ℕ) (step : Step) (reply : StepReply) → slice_get ahead k ≡ Some step → reply_in m shown who step ≡ Some reply →
      first_possible m shown who ahead ≡ None → ⊥
  possible-some [] k step reply there possible none = absurd (cc)
  possible-some (x ∷ ahead) zero step reply there possible none =
      let here : reply_in m shown who x ≡ Some reply = ap (reply_in m shown who) (same_Some x step there) ∙ possible in
      let first : or_else x (Some reply) (first_possible m shown who ahead) ≡ None = ap (λ (o : Option StepReply). or_else x o (first_possible m shown who ahead)) (sym here) ∙ none in
      absurd (cc)
  possible-some (x ∷ ahead) (suc k) step reply there possible none = possible-some ahead k step reply there possible (by (reply_in m shown who x) none) where
    by : (o : Option StepReply) → or_else x o (first_possible m shown who ahead) ≡ None → first_possible m shown who ahead ≡ None
    by None none = none
    by (Some r) none = absurd (cc)

  -- where none is, there is none
  pub possible-none : (ahead : List Step) → ((k : ℕ) (step : Step) → slice_get ahead k ≡ Some step → reply_in m shown who step ≡ None) → first_possible m shown who ahead ≡ None
  possible-none [] each = refl
  possible-none (x ∷ ahead) each =
      ap (λ (o : Option StepReply). or_else x o (first_possible m shown who ahead)) (each 0 x refl) ∙ possible-none ahead (λ k step there. each (suc k) step there)

-- behind the last attempt there is none
pub below-end : (ahead : List Step) (n k : ℕ) (step : Step) → slice_get ahead n ≡ None → slice_get ahead k ≡ Some step → k < n
below-end [] n k step none there = absurd (cc)
below-end (x ∷ ahead) zero k step none there = absurd (cc)
below-end (x ∷ ahead) (suc n) zero step none there = omega arith
below-end (x ∷ ahead) (suc n) (suc k) step none there = let less = below-end ahead n k step none there in omega arith

-- Endings.

module _ (s : Content) (t : Trace) where
  -- where a player is spent no more is asked
  pub ends-spent : t.ending ≡ lawful_ending s t → t.ending ≡ Spent → EndsSo s t
  ends-spent ends spent = record { ends = ends; halts = λ unspent. absurd (unspent spent) }

  -- else each player halts
  pub ends-halted : (players : List PlayerPlace) → t.ending ≡ lawful_ending s t → ArePlayedOut s t players → NoneSteps (machines_of s) s (trace_shown t) players true → EndsSo s t
  ends-halted players ends out halted = record { ends = ends; halts = halts } where
    halts : (t.ending ≡ Spent → ⊥) → (number : ℕ) (log : Log) → slice_get t.logs number ≡ Some log → (end : PlayerPlace) → IsFollowing s number (trace_shown t) end → log_of s end ≡ log →
        chosen (machines_of s) s (trace_shown t) end ≡ None
    halts unspent number log logged end led is =
        let within = slice_get_within t.logs number log logged in
        let it = there-is players number (omega (arith, out.0)) in
        let so = out.1 number it.0 it.1 in
        let same : log ≡ log_of s it.0 = same_Some log (log_of s it.0) (sym logged ∙ so.logged) in
        let one = one-place s number (trace_shown t) end it.0 led so.led (ap (λ (l : Log). l.steps) (is ∙ same)) in
        subst (λ (at : PlayerPlace). chosen (machines_of s) s (trace_shown t) at ≡ None) (sym one) (halted number it.0 it.1)

  -- and where one can go on, the run doesn't end so
  pub ends-never : (players : List PlayerPlace) → ArePlayedOut s t players → (t.ending ≡ Spent → ⊥) → NoneSteps (machines_of s) s (trace_shown t) players false → EndsSo s t → ⊥
  ends-never players out unspent some ends =
      let so = out.1 some.number some.at some.there in
      some.steps (ends.halts unspent some.number (log_of s some.at) so.logged some.at so.led refl)

  -- so the run ends so just where none can go on
  pub ends-decided : (players : List PlayerPlace) → t.ending ≡ lawful_ending s t → ArePlayedOut s t players → (t.ending ≡ Spent → ⊥) →
      (so : Bool) → NoneSteps (machines_of s) s (trace_shown t) players so → IsTrue so ↔ EndsSo s t
  ends-decided players ends out unspent true halted = (λ is. ends-halted players ends out halted, λ is. refl)
  ends-decided players ends out unspent false some = (λ is. absurd (cc), λ is. absurd (ends-never players out unspent some is))

  -- of a player just the steps of its log are shown
  shows-log : (number : ℕ) (log : Log) → IsPlaced s t → slice_get t.logs number ≡ Some log → ShowsLog (trace_shown t) number log.steps
  shows-log number log placed logged = record {
    each = λ step spot there not_look. placed.stands number step spot log logged there not_look;
    no_other = λ step spot is.
        sym (ap (λ (o : Option Log). option_and_then (λ l. slice_get l.steps step) o) logged) ∙ placed.each spot number step is;
    looked = tt;
  }

  -- a player that stands where its log leads it can try its next attempts
  pub can-try : IsValid s → IsPlaced s t → AreLegal s t → (players : List PlayerPlace) → ArePlayedOut s t players → EachCanTry (machines_of s) s (trace_shown t) players
  can-try valid placed legal players out number at there =
      let so = out.1 number at there in
      record {
        room = refl;
        range = λ step ahead. ahead-takes s (machines_of s) at valid refl (followed-fits s valid t legal number at so.led) step ahead;
        log = subst (λ (n : ℕ). ShowsLog (trace_shown t) n at.spots) (sym (followed-number s number (trace_shown t) at so.led)) (shows-log number (log_of s at) placed so.logged);
      }

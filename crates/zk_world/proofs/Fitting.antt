-- What the entries and looks of a world are of: a known player with its priority, and what is declared.
use Rattle.std.proofs.Common.{◌≡◌, ◌⊎◌, inl, inr, ℕ, zero, suc, true, Option, Some, None, List, [], ◌∷◌, ◌++◌, length, All, refl, sym, ap, subst, ◌∙◌}
use Rattle.std.specs.List.{slice_get}
use Rattle.std.specs.Option.{option_map, option_and_then}
use Rattle.std.proofs.lemmas.List.Elements.{All-nil, All-push, All-set}
use Rattle.std.proofs.lemmas.Option.{same_Some, none-some, option_and_then_some}
use Rattle.zk_base.specs.declared.ids.Who.{Who}
use Rattle.zk_base.specs.declared.ids.Entry.{Entry}
use Rattle.zk_base.specs.History.{entry}
use Rattle.zk_base.proofs.Lists.{All-at}
use Rattle.zk_line.specs.declared.types.Decl.{Decl}
use Rattle.zk_scenario.specs.Content.{Content}
use Rattle.zk_scenario.specs.Players.{players, prio_of}
use Rattle.zk_worker.specs.declared.steps.Step.{Step}
use Rattle.zk_worker.specs.declared.steps.Step.TheVariants as steps
use Rattle.zk_worker.specs.declared.steps.StepReply.{StepReply}
use Rattle.zk_worker.specs.declared.steps.StepReply.TheVariants as step_replies
use Rattle.zk_worker.specs.declared.steps.Spot.{Spot}
use Rattle.zk_worker.specs.declared.steps.Spot.TheVariants as spots
use Rattle.zk_worker.specs.Families.{no_entries, entry_at, with_entry}
use Rattle.zk_worker.specs.Places.{PlayerPlace}
use Rattle.zk_worker.specs.Protocol.{IsAhead, after, spot_of, starting, start_at}
use Rattle.zk_worker.specs.Ranges.{IsFit, step_fits}
use Rattle.zk_worker.specs.Shown.{Shown, nothing_shown, shown_after}
use Rattle.zk_worker.proofs.CheckedSteps.{after-spots}
use Rattle.zk_worker.proofs.FitsStill.{ahead-fits}
use Rattle.zk_worker.proofs.Lists.{at-end}
use Rattle.zk_worker.proofs.Starts.{start_at-fresh}
use Rattle.zk_services.proofs.Starts.{starts-all}
use Rattle.zk_world.specs.Says.{SaysFit}
use Rattle.zk_world.specs.Requests.{Request, request, request_at, IsKnownWho, RequestFits, LookFits, AreFitting}
use Rattle.zk_world.specs.Ready.{IsReady}
use Rattle.zk_world.specs.World.{World, first, stepped}
use Rattle.zk_world.proofs.AheadSays.{ahead-says}

-- What is there after an entry more was there before, or is that entry.

one-back : {E : Type 0} (f : E → Request) (h : List E) (e : E) (place : ℕ) (x : Request) → option_map f (slice_get (h ++ e ∷ []) place) ≡ Some x →
    (option_map f (slice_get h place) ≡ Some x) ⊎ (x ≡ f e)
one-back {E} f h e place x is = by (slice_get (h ++ e ∷ []) place) refl is where
  here : (y : E) → (slice_get h place ≡ Some y) ⊎ ((place ≡ length h) × (e ≡ y)) → f y ≡ x → (option_map f (slice_get h place) ≡ Some x) ⊎ (x ≡ f e)
  here y (inl before) told = inl (ap (option_map f) before ∙ ap (λ (z : Request). Some z) told)
  here y (inr last) told = inr (sym told ∙ ap f (sym last.1))

  by : (o : Option E) → slice_get (h ++ e ∷ []) place ≡ o → option_map f o ≡ Some x → (option_map f (slice_get h place) ≡ Some x) ⊎ (x ≡ f e)
  by None there told = absurd (none-some x told)
  by (Some y) there told = here y (at-end h e y place there) (same_Some (f y) x told)

many-back : {O R : Type 0} (f : ℕ → Entry O R → Request) (hs : List (List (Entry O R))) (object : ℕ) (e : Entry O R) (at place : ℕ) (x : Request) →
    option_map (f at) (entry_at (with_entry hs object e) at place) ≡ Some x → (option_map (f at) (entry_at hs at place) ≡ Some x) ⊎ (x ≡ f object e)
many-back f [] object e at place x is = inl is
many-back f (h ∷ hs) zero e zero place x is = one-back (f zero) h e place x is
many-back f (h ∷ hs) zero e (suc at) place x is = inl is
many-back f (h ∷ hs) (suc object) e zero place x is = inl is
many-back f (h ∷ hs) (suc object) e (suc at) place x is = many-back (λ n. f (suc n)) hs object e at place x is

-- an entry after a step was there before, or is that step's
pub request-back : (shown : Shown) (who : Who) (number : ℕ) (step : Step) (reply : StepReply) (spot : Spot) (x : Request) → request_at (shown_after shown who number step reply) spot ≡ Some x →
    (request_at shown spot ≡ Some x) ⊎ (x ≡ request who step)
request-back shown who number (steps.Work op) (step_replies.Work reply at) (spots.Work place) x is =
    one-back (λ e. request e.who (steps.Work e.op)) shown.work (entry who number op reply) place x is
request-back shown who number (steps.Work op) (step_replies.Work reply at) spot x is = inl is
request-back shown who number (steps.Clock op) (step_replies.Clock reply at) (spots.Clock place) x is =
    one-back (λ e. request e.who (steps.Clock e.op)) shown.clock (entry who number op reply) place x is
request-back shown who number (steps.Clock op) (step_replies.Clock reply at) spot x is = inl is
request-back shown who number (steps.Table op) (step_replies.Table reply at) (spots.Table place) x is =
    one-back (λ e. request e.who (steps.Table e.op)) shown.table (entry who number op reply) place x is
request-back shown who number (steps.Table op) (step_replies.Table reply at) spot x is = inl is
request-back shown who number (steps.Sem object op) (step_replies.Sem o reply at) (spots.Sem other place) x is =
    many-back (λ n e. request e.who (steps.Sem n e.op)) shown.sems object (entry who number op reply) other place x is
request-back shown who number (steps.Sem object op) (step_replies.Sem o reply at) spot x is = inl is
request-back shown who number (steps.Msgq object op) (step_replies.Msgq o reply at) (spots.Msgq other place) x is =
    many-back (λ n e. request e.who (steps.Msgq n e.op)) shown.msgqs object (entry who number op reply) other place x is
request-back shown who number (steps.Msgq object op) (step_replies.Msgq o reply at) spot x is = inl is
request-back shown who number (steps.Signal object op) (step_replies.Signal o reply at) (spots.Signal other place) x is =
    many-back (λ n e. request e.who (steps.Signal n e.op)) shown.signals object (entry who number op reply) other place x is
request-back shown who number (steps.Signal object op) (step_replies.Signal o reply at) spot x is = inl is
request-back shown who number (steps.Chan object op) (step_replies.Chan o reply at) (spots.Chan other place) x is =
    many-back (λ n e. request e.who (steps.Chan n e.op)) shown.chans object (entry who number op reply) other place x is
request-back shown who number (steps.Chan object op) (step_replies.Chan o reply at) spot x is = inl is
request-back shown who number (steps.Obs object op) (step_replies.Obs o reply at) (spots.Obs other place) x is =
    many-back (λ n e. request e.who (steps.Obs n e.op)) shown.observers object (entry who number op reply) other place x is
request-back shown who number (steps.Obs object op) (step_replies.Obs o reply at) spot x is = inl is
request-back shown who number (steps.LookItem object) (step_replies.Flags flags at) spot x is = inl is
request-back shown who number step reply spot x is = inl is

-- What a step keeps.

pub look-fits : (decls : List Decl) (step : Step) (reply : StepReply) → step_fits decls step ≡ true → LookFits decls (spot_of step reply)
look-fits decls (steps.LookItem object) reply fits = fits
look-fits decls (steps.LookSignal object must) reply fits = fits
look-fits decls step reply fits = tt

pub fitting-step : (s : Content) (w : World) (p : ℕ) (at : PlayerPlace) (made : Step × StepReply) → IsReady s w → AreFitting s w → slice_get w.players p ≡ Some at → IsAhead s at made.0 →
    AreFitting s (stepped s w p at (Some made))
fitting-step s w p at made ready fitting there ahead =
    let next = after s at made.0 made.1 in
    let kept = after-spots s at made.0 made.1 in
    let Known : PlayerPlace → Type 0 = λ at. IsKnownWho s at.who in
    let Looks : PlayerPlace → Type 0 = λ at. All (LookFits s.decls) at.spots in
    let known = All-at Known w.players p at fitting.players there in
    let fit = All-at (IsFit s) w.players p at ready.fits there in
    let fits = ahead-fits s at made.0 ready.valid fit ahead in
    record {
      requests = λ spot x is. by spot x (request-back w.shown at.who (length at.spots) made.0 made.1 spot x is) known fits (ahead-says s at made.0 ready.valid fit ahead);
      players = All-set Known w.players p next (subst (IsKnownWho s) (sym kept.0) known) fitting.players;
      looks = All-set Looks w.players p next (subst (All (LookFits s.decls)) (sym kept.1)
          (All-push (LookFits s.decls) at.spots (spot_of made.0 made.1) (All-at Looks w.players p at fitting.looks there) (look-fits s.decls made.0 made.1 fits))) fitting.looks;
    }
  where
    by : (spot : Spot) (x : Request) → (request_at w.shown spot ≡ Some x) ⊎ (x ≡ request at.who made.0) → IsKnownWho s at.who → step_fits s.decls made.0 ≡ true → SaysFit s.decls made.0 → RequestFits s x
    by spot x (inl before) known fits says = fitting.requests spot x before
    by spot x (inr new) known fits says = subst (RequestFits s) (sym new) (record { known = known; fits = fits; says = says })

-- at first nothing was asked
none-asked : {O R A : Type 0} (f : Entry O R → Request) (objects : List A) (at place : ℕ) (x : Request) → option_map f (entry_at (no_entries objects) at place) ≡ Some x → ⊥
none-asked f [] at place x is = none-some x is
none-asked f (o ∷ os) zero place x is = none-some x is
none-asked f (o ∷ os) (suc at) place x is = none-asked f os at place x is

pub nothing-asked : (decls : List Decl) (spot : Spot) (x : Request) → request_at (nothing_shown decls) spot ≡ Some x → ⊥
nothing-asked decls (spots.Work place) x is = none-some x is
nothing-asked decls (spots.Clock place) x is = none-some x is
nothing-asked decls (spots.Table place) x is = none-some x is
nothing-asked decls (spots.Sem object place) x is = none-asked (λ e. request e.who (steps.Sem object e.op)) decls object place x is
nothing-asked decls (spots.Msgq object place) x is = none-asked (λ e. request e.who (steps.Msgq object e.op)) decls object place x is
nothing-asked decls (spots.Signal object place) x is = none-asked (λ e. request e.who (steps.Signal object e.op)) decls object place x is
nothing-asked decls (spots.Chan object place) x is = none-asked (λ e. request e.who (steps.Chan object e.op)) decls object place x is
nothing-asked decls (spots.Obs object place) x is = none-asked (λ e. request e.who (steps.Obs object e.op)) decls object place x is
nothing-asked decls (spots.LookItem object flags at) x is = none-some x is
nothing-asked decls (spots.LookSignal object seen) x is = none-some x is

pub start-known : (s : Content) (number : ℕ) (at : PlayerPlace) → start_at s number ≡ Some at → IsKnownWho s at.who
start-known s number at is =
    option_and_then_some {P = IsKnownWho s at.who} (λ object. option_map (starting s number object) (slice_get s.decls object)) (slice_get (players s.decls) number) at is
    (λ object there more. by object there (slice_get s.decls object) refl more)
  where
    by : (object : ℕ) → slice_get (players s.decls) number ≡ Some object → (o : Option Decl) → slice_get s.decls object ≡ o → option_map (starting s number object) o ≡ Some at → IsKnownWho s at.who
    by object there None declared is = absurd (none-some at is)
    by object there (Some d) declared is =
        subst (λ (a : PlayerPlace). IsKnownWho s a.who) (same_Some (starting s number object d) at is)
        (ap (option_and_then (λ object. option_map (λ d. record { number = number; prio = prio_of d }) (slice_get s.decls object))) there
        ∙ ap (option_map (λ d. record { number = number; prio = prio_of d })) declared)

pub fitting-first : (s : Content) → AreFitting s (first s)
fitting-first s =
    let n = length (players s.decls) in
    record {
      requests = λ spot x is. absurd (nothing-asked s.decls spot x is);
      players = starts-all (λ at. IsKnownWho s at.who) s (start-known s) n;
      looks = starts-all (λ at. All (LookFits s.decls) at.spots) s (λ k at is. subst (All (LookFits s.decls)) (sym (start_at-fresh s k at is).none_made) (All-nil (LookFits s.decls))) n;
    }

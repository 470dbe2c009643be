-- The observers of which a channel of a scenario tells are declared.
use Rattle.std.proofs.Common.{◌≡◌, ℕ, zero, suc, true, false, Option, Some, None, is_some, List, [], ◌∷◌, length, map, take, refl, sym, subst, ap, ◌∙◌}
use Rattle.std.specs.List.{slice_get, list_all}
use Rattle.std.specs.Option.{option_map, option_map_or, option_and_then}
use Rattle.std.proofs.lemmas.Bool.{and_parts}
use Rattle.std.proofs.lemmas.List.Elements.{All-nil, All-cons}
use Rattle.std.proofs.lemmas.Option.{option_and_then_some, same_Some}
use Rattle.zk_base.specs.declared.ids.Who.{Who}
use Rattle.zk_base.specs.Legal.{state_after}
use Rattle.zk_line.specs.declared.types.Decl.{Decl}
use Rattle.zk_line.specs.declared.types.Decl.TheVariants as decl_kinds
use Rattle.zk_line.specs.Objects.{is_at, is_observer}
use Rattle.zk_scenario.specs.Content.{Content}
use Rattle.zk_scenario.specs.Valid.{IsValid}
use Rattle.zk_model_bus.specs.declared.channel.ChanOp.{ChanOp}
use Rattle.zk_model_bus.specs.declared.channel.ChanReply.{ChanReply}
use Rattle.zk_model_bus.specs.declared.channel.ChanReply.TheVariants as chan_replies
use Rattle.zk_model_bus.specs.Channel.{Channel, new_chan, chan_reply, chan_machine}
use Rattle.zk_model_bus.specs.ChannelLaws.{ChanHistory}
use Rattle.zk_model_bus.specs.Observer.{obs_machine}
use Rattle.zk_model_bus.specs.declared.observer.ObsOp.{ObsOp}
use Rattle.zk_model_bus.proofs.ChannelObservers.{TellsOnly, channel-tells}
use Rattle.zk_worker.specs.declared.steps.Step.{Step}
use Rattle.zk_worker.specs.declared.steps.Step.TheVariants as steps
use Rattle.zk_worker.specs.declared.steps.StepReply.{StepReply}
use Rattle.zk_worker.specs.declared.steps.StepReply.TheVariants as step_replies
use Rattle.zk_worker.specs.Attempt.{reply_in}
use Rattle.zk_worker.specs.Families.{start_of, answer_at, is_declared}
use Rattle.zk_worker.specs.Machines.{Machines, machines_of, chan_start, observer_start, flags_after}
use Rattle.zk_worker.specs.Ranges.{AreObservers, ReplyFits}
use Rattle.zk_worker.specs.Shown.{Shown}
use Rattle.zk_worker.specs.Single.{answer_in}
use Rattle.zk_worker.proofs.Families.{answered-at}
use Rattle.zk_worker.proofs.ShownSteps.{made-of, look-answered}

-- it is declared as an observer
abbrev Observes : List Decl → ℕ → Type 0
Observes decls observer = is_declared observer_start decls observer ≡ true

-- an observer that is declared at some place is declared
declared-before : (decls : List Decl) (many observer : ℕ) → is_at is_observer (take many decls) observer ≡ true → Observes decls observer
declared-before [] zero observer is = absurd (cc)
declared-before [] (suc many) observer is = absurd (cc)
declared-before (d ∷ ds) zero observer is = absurd (cc)
declared-before (d ∷ ds) (suc many) zero is = starts d is
  where
    starts : (decl : Decl) → is_observer decl ≡ true → is_some (observer_start decl) ≡ true
    starts (decl_kinds.Listener name) is = refl
    starts (decl_kinds.Sub name capacity) is = refl
    starts decl is = absurd (cc)
declared-before (d ∷ ds) (suc many) (suc observer) is = declared-before ds many observer is

each-declared : (decls : List Decl) (many : ℕ) (observers : List ℕ) → list_all (is_at is_observer (take many decls)) observers ≡ true →
    AreObservers decls observers
each-declared decls many [] all = All-nil (Observes decls)
each-declared decls many (observer ∷ observers) all =
    let both = and_parts (is_at is_observer (take many decls) observer) (list_all (is_at is_observer (take many decls)) observers) all in
    All-cons (Observes decls) observer observers (declared-before decls many observer both.0) (each-declared decls many observers both.1)

-- the declaration of an object that starts so
started-by : {S : Type 0} (start : Decl → Option S) (decls : List Decl) (object : ℕ) (state : S) →
    option_and_then (λ (s : Option S). s) (slice_get (map start decls) object) ≡ Some state →
    (decl : Decl) × (slice_get decls object ≡ Some decl) × (start decl ≡ Some state)
started-by start [] object state is = absurd (cc)
started-by start (d ∷ ds) zero state is = (d, refl, is)
started-by start (d ∷ ds) (suc object) state is = started-by start ds object state is

-- a channel tells only of observers that are declared
declared-tells : (s : Content) → IsValid s → (object : ℕ) (decl : Decl) → slice_get s.decls object ≡ Some decl → (start : Channel) → chan_start decl ≡ Some start →
    (h : ChanHistory) (who : Who) (op : ChanOp) (reply : ChanReply) → chan_reply (state_after chan_machine start h) who op ≡ Some reply →
    TellsOnly (Observes s.decls) reply
declared-tells s valid object (decl_kinds.Chan name message takes observers) there start is h who op reply told =
    let same : new_chan message takes observers ≡ start = same_Some (new_chan message takes observers) start is in
    let all = each-declared s.decls object observers (valid.observed object (decl_kinds.Chan name message takes observers) there) in
    channel-tells (Observes s.decls) message takes observers h who op reply all
    (subst (λ (c : Channel). chan_reply (state_after chan_machine c h) who op ≡ Some reply) (sym same) told)
declared-tells s valid object decl there start is h who op reply told = absurd (cc)

-- so its replies fit
tells-fit : (decls : List Decl) (object : ℕ) (reply : ChanReply) (place : ℕ) → TellsOnly (Observes decls) reply → ReplyFits decls (step_replies.Chan object reply place)
tells-fit decls object (chan_replies.Observers told) place only = only
tells-fit decls object reply place only = tt

chan-fits : (s : Content) (shown : Shown) (who : Who) (object : ℕ) (op : ChanOp) (reply : StepReply) → IsValid s →
    answer_at (machines_of s).chans shown.chans step_replies.Chan who object op ≡ Some reply → ReplyFits s.decls reply
chan-fits s shown who object op reply valid is =
    let Q : Type 0 = ReplyFits s.decls reply in
    let chans = (machines_of s).chans in
    option_and_then_some {P = Q} (λ start. option_and_then (λ h. answer_in chan_machine start h (step_replies.Chan object) who op) (slice_get shown.chans object))
    (start_of chans object) reply is
    (λ start started after. option_and_then_some {P = Q} (λ h. answer_in chan_machine start h (step_replies.Chan object) who op) (slice_get shown.chans object) reply after
    (λ h there answered. by_reply start (started-by chan_start s.decls object start started) h (chan_reply (state_after chan_machine start h) who op) refl answered))
  where
    by_reply : (start : Channel) → (decl : Decl) × (slice_get s.decls object ≡ Some decl) × (chan_start decl ≡ Some start) → (h : ChanHistory) (o : Option ChanReply) →
        chan_reply (state_after chan_machine start h) who op ≡ o → option_map (λ r. step_replies.Chan object r (length h)) o ≡ Some reply → ReplyFits s.decls reply
    by_reply start from h None told is = absurd (cc)
    by_reply start from h (Some r) told is =
        subst (λ (x : StepReply). ReplyFits s.decls x) (same_Some (step_replies.Chan object r (length h)) reply is)
        (tells-fit s.decls object r (length h) (declared-tells s valid object from.0 from.1 start from.2 h who op r told))

-- an observer that replies is declared as one
obs-declared : (s : Content) (shown : Shown) (who : Who) (object : ℕ) (op : ObsOp) (reply : StepReply) →
    answer_at (machines_of s).observers shown.observers step_replies.Obs who object op ≡ Some reply → is_declared observer_start s.decls object ≡ true
obs-declared s shown who object op reply is =
    let family = (machines_of s).observers in
    option_and_then_some {P = is_declared observer_start s.decls object ≡ true}
    (λ start. option_and_then (λ h. answer_in obs_machine start h (step_replies.Obs object) who op) (slice_get shown.observers object))
    (start_of family object) reply is
    (λ start started after.
    let by = started-by observer_start s.decls object start started in
    ap (λ (o : Option Decl). option_map_or (λ decl. is_some (observer_start decl)) o false) by.1 ∙ ap is_some by.2)

-- the reply to a step of another service tells of no observers
other-fits : (decls : List Decl) (tell : StepReply) (reply : StepReply) → tell ≡ reply → ReplyFits decls tell → ReplyFits decls reply
other-fits decls tell reply same fits = subst (λ (x : StepReply). ReplyFits decls x) same fits

-- what a service of a valid scenario answers to a step fits
pub replied-fits : (s : Content) (m : Machines) (shown : Shown) (who : Who) (step : Step) (reply : StepReply) → IsValid s → m ≡ machines_of s →
    reply_in m shown who step ≡ Some reply → ReplyFits s.decls reply
replied-fits s m shown who step reply valid same is = by_step step (subst (λ (n : Machines). reply_in n shown who step ≡ Some reply) same is)
  where
    by_step : (step : Step) → reply_in (machines_of s) shown who step ≡ Some reply → ReplyFits s.decls reply
    by_step (steps.Work op) is =
        let m = machines_of s in
        let from = made-of (λ r. step_replies.Work r (length shown.work)) (m.work.reply_of (state_after m.work m.work_start shown.work) who op) reply is in
        other-fits s.decls (step_replies.Work from.0 (length shown.work)) reply from.2 tt
    by_step (steps.Clock op) is =
        let m = machines_of s in
        let from = made-of (λ r. step_replies.Clock r (length shown.clock)) (m.clock.reply_of (state_after m.clock m.clock_start shown.clock) who op) reply is in
        other-fits s.decls (step_replies.Clock from.0 (length shown.clock)) reply from.2 tt
    by_step (steps.Table op) is =
        let m = machines_of s in
        let from = made-of (λ r. step_replies.Table r (length shown.table)) (m.table.reply_of (state_after m.table m.table_start shown.table) who op) reply is in
        other-fits s.decls (step_replies.Table from.0 (length shown.table)) reply from.2 tt
    by_step (steps.Sem object op) is =
        let from = answered-at (machines_of s).sems shown.sems step_replies.Sem who object op reply is in
        other-fits s.decls (step_replies.Sem object from.reply (length from.history)) reply from.tells tt
    by_step (steps.Msgq object op) is =
        let from = answered-at (machines_of s).msgqs shown.msgqs step_replies.Msgq who object op reply is in
        other-fits s.decls (step_replies.Msgq object from.reply (length from.history)) reply from.tells tt
    by_step (steps.Signal object op) is =
        let from = answered-at (machines_of s).signals shown.signals step_replies.Signal who object op reply is in
        other-fits s.decls (step_replies.Signal object from.reply (length from.history)) reply from.tells tt
    by_step (steps.Chan object op) is = chan-fits s shown who object op reply valid is
    by_step (steps.Obs object op) is =
        let from = answered-at (machines_of s).observers shown.observers step_replies.Obs who object op reply is in
        other-fits s.decls (step_replies.Obs object from.reply (length from.history)) reply from.tells (obs-declared s shown who object op reply is)
    by_step (steps.LookItem object) is =
        let from = made-of (λ flags. step_replies.Flags flags (length shown.work)) (flags_after (machines_of s) shown.work object) reply is in
        other-fits s.decls (step_replies.Flags from.0 (length shown.work)) reply from.2 tt
    by_step (steps.LookSignal object must) is =
        let from = look-answered shown object must reply is in
        other-fits s.decls (step_replies.Seen from.seen) reply from.tells tt

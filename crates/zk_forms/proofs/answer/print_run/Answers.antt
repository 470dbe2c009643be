use Rattle.std.proofs.Common.{ℕ, Some, List, ◌++◌, refl, sym, ap, ◌∙◌, subst}
use Rattle.zk_base.specs.Legal.{IsLegal}
use Rattle.zk_base.proofs.Histories.{IsLegal-front}
use Rattle.zk_model_wait.specs.Clock.{new_clock, clock_machine}
use Rattle.zk_model_wait.specs.Sem.{Sem, new_sem, sem_machine}
use Rattle.zk_model_wait.specs.SemLaws.{KeepsSemLaws}
use Rattle.zk_model_wait.specs.Msgq.{Msgq, new_msgq, msgq_machine}
use Rattle.zk_model_wait.specs.MsgqLaws.{KeepsMsgqLaws}
use Rattle.zk_model_wait.specs.Signal.{new_signal, signal_machine}
use Rattle.zk_model_bus.specs.Channel.{Channel, new_chan, chan_machine}
use Rattle.zk_model_bus.specs.ChannelLaws.{KeepsChannelLaws}
use Rattle.zk_model_bus.specs.Observer.{Observer, new_obs, obs_machine}
use Rattle.zk_model_bus.specs.ObserverLaws.{KeepsObserverLaws}
use Rattle.zk_model_bus.specs.Table.{new_table, table_machine}
use Rattle.zk_model_work.specs.Machine.{work_machine}
use Rattle.zk_worker.specs.Machines.{work_start_of, machines_of}
use Rattle.zk_worker.specs.TableSetup.{setup_of}
use Rattle.zk_trace.specs.declared.format.Format.TheVariants.{Two}
use Rattle.zk_trace.specs.Text.{trace_text}
use Rattle.zk_trace.proofs.LegalHistories.{histories-legal}
use Rattle.zk_world.proofs.Legality.{legal-one}
use Rattle.zk_model_work.proofs.Drains.{undrained-fresh}
use Rattle.zk_forms.proofs.PollsKept.{polls-kept}
use Rattle.zk_forms.proofs.AttemptsKept.{attempts-kept}
use Rattle.zk_forms.proofs.CallsKept.{calls-kept}
use Rattle.zk_forms.proofs.PlaysKept.{plays-kept}
use Rattle.zk_forms.proofs.ChecksKept.{checks-kept}
use Rattle.zk_forms.proofs.PublishesKept.{publishes-kept}
use Rattle.zk_forms.proofs.ScriptsKept.{scripts-kept}
use Rattle.zk_forms.proofs.ToldPlayers.{players-told}
use Rattle.zk_forms.proofs.Starts.{sem-starts, msgq-starts, signal-starts, chan-starts, observer-starts}
use Rattle.zk_forms.proofs.answer.print_run.Goals as goal

pub returns-clause-prints : goal.returns-clause-prints
returns-clause-prints c =
    let trace = c.args.trace.now in
    let start = work_start_of c.args.scenario.now in
    let lawful = c.requires.lawful in
    let legal = histories-legal c.args.scenario.now trace lawful.place.rises lawful.history in
    record {
      read = c.requires.read;
      spelled = c.requires.spelled;
      form = c.requires.form;
      lawful = lawful;
      laws = λ front rest parts. c.keeps_laws.ensures start front (record {
        work = record { fresh = refl; legal = IsLegal-front work_machine start front rest (subst (IsLegal work_machine start) parts legal.work) };
        first = refl;
        arms = refl;
        marks = refl;
        waits = refl;
        undrained = undrained-fresh _ _;
      });
      clock_laws = λ front rest parts.
          c.keeps_clock_laws.ensures front (IsLegal-front clock_machine new_clock front rest (subst (IsLegal clock_machine new_clock) parts legal.clock));
      table_laws = λ front rest parts.
          c.keeps_table_laws.ensures (setup_of c.args.scenario.now) front
          (IsLegal-front table_machine (new_table (setup_of c.args.scenario.now)) front rest
          (subst (IsLegal table_machine (new_table (setup_of c.args.scenario.now))) parts legal.table));
      sem_laws = λ object start h starts there front rest parts.
          let from = sem-starts c.args.scenario.now.decls object start c.requires.valid.in_range starts in
          let began = starts ∙ ap Some from.is_new in
          let of_one = legal-one sem_machine (machines_of c.args.scenario.now).sems.starts trace.sems object (new_sem from.initial from.limit) h legal.sems began there in
          subst (λ (s : Sem). KeepsSemLaws s front) (sym from.is_new)
          (c.keeps_sem_laws.ensures from.initial from.limit from.within front
          (IsLegal-front sem_machine (new_sem from.initial from.limit) front rest (subst (IsLegal sem_machine (new_sem from.initial from.limit)) parts of_one)));
      msgq_laws = λ object start h starts there front rest parts.
          let from = msgq-starts c.args.scenario.now.decls object start starts in
          let began = starts ∙ ap Some from.is_new in
          let of_one = legal-one msgq_machine (machines_of c.args.scenario.now).msgqs.starts trace.msgqs object (new_msgq from.most) h legal.msgqs began there in
          subst (λ (q : Msgq). KeepsMsgqLaws q front) (sym from.is_new)
          (c.keeps_msgq_laws.ensures from.most front
          (IsLegal-front msgq_machine (new_msgq from.most) front rest (subst (IsLegal msgq_machine (new_msgq from.most)) parts of_one)));
      signal_laws = λ object start h starts there front rest parts.
          let began = starts ∙ ap Some (signal-starts c.args.scenario.now.decls object start starts) in
          let of_one = legal-one signal_machine (machines_of c.args.scenario.now).signals.starts trace.signals object new_signal h legal.signals began there in
          c.keeps_signal_laws.ensures front (IsLegal-front signal_machine new_signal front rest (subst (IsLegal signal_machine new_signal) parts of_one));
      channel_laws = λ object start h starts there front rest parts.
          let from = chan-starts c.args.scenario.now.decls object start starts in
          let first = new_chan from.message from.valid from.observers in
          let of_one = legal-one chan_machine (machines_of c.args.scenario.now).chans.starts trace.chans object first h legal.chans (starts ∙ ap Some from.is_new) there in
          subst (λ (s : Channel). KeepsChannelLaws s front) (sym from.is_new)
          (c.keeps_channel_laws.ensures from.message from.valid from.observers front
          (IsLegal-front chan_machine first front rest (subst (IsLegal chan_machine first) parts of_one)));
      observer_laws = λ object start h starts there front rest parts.
          let from = observer-starts c.args.scenario.now.decls object start starts in
          let first = new_obs from.capacity in
          let of_one = legal-one obs_machine (machines_of c.args.scenario.now).observers.starts trace.observers object first h legal.observers (starts ∙ ap Some from.is_new) there in
          subst (λ (s : Observer). KeepsObserverLaws s front) (sym from.is_new)
          (c.keeps_observer_laws.ensures from.capacity front
          (IsLegal-front obs_machine first front rest (subst (IsLegal obs_machine first) parts of_one)));
      polls = polls-kept c.args.scenario.now trace c.requires.valid c.requires.lawful;
      scripts = scripts-kept c.args.scenario.now trace c.requires.valid c.requires.lawful;
      publishes = publishes-kept c.args.scenario.now trace c.requires.valid c.requires.lawful;
      checks = checks-kept c.args.scenario.now trace c.requires.lawful;
      calls = calls-kept c.args.scenario.now trace c.requires.lawful;
      attempts = attempts-kept c.args.scenario.now trace c.requires.lawful;
      plays = plays-kept c.args.scenario.now trace c.requires.valid c.requires.lawful;
      told = players-told c.args.scenario.now trace c.requires.lawful;
      over = c.requires.over;
      printed = c.in_ok-put_trace.ensures.text ∙ ap (λ (text : List ℕ). text ++ trace_text Two c.args.scenario.now trace) c.requires.spelled;
    }

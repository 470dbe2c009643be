use Rattle.std.proofs.Common.{◌∙◌, List, ap, map}
use Rattle.zk_line.specs.declared.types.Decl.{Decl}
use Rattle.zk_worker.specs.Families.{no_entries}
use Rattle.zk_worker.specs.Machines as machines
use Rattle.zk_services.specs.declared.plain.Plain.{Plain}
use Rattle.zk_services.proofs.Firsts.{machines-first, shown-first}
use Rattle.zk_services.proofs.first.first_services.Goals as goal

-- the services that are made
abbrev made : goal.In_ok-first_observers → Plain
made c = record {
  work = c.in_ok-first_work.field-0;
  items = c.in_ok-item_numbers.field-0;
  most = c.steps.result;
  clock = c.new.result;
  table = c.in_ok-first_table.field-0;
  sems = c.in_ok-first_sems.field-0;
  msgqs = c.in_ok-first_msgqs.field-0;
  signals = c.in_ok-first_signals.field-0;
  chans = c.in_ok-first_chans.field-0;
  observers = c.in_ok-first_observers.field-0;
}

pub returns-clause-machines : goal.returns-clause-machines
returns-clause-machines c =
    machines-first c.args.scenario.now (made c) c.in_ok-first_work.ensures.start c.in_ok-item_numbers.ensures c.steps.ensures.steps c.new.ensures.start c.in_ok-first_table.ensures.start
    (c.in_ok-first_sems.ensures.starts ∙ ap (map machines.sem_start) c.decls.ensures.all)
    (c.in_ok-first_msgqs.ensures.starts ∙ ap (map machines.msgq_start) c.decls-2.ensures.all)
    (c.in_ok-first_signals.ensures.starts ∙ ap (map machines.signal_start) c.decls-3.ensures.all)
    (c.in_ok-first_chans.ensures.starts ∙ ap (map machines.chan_start) c.decls-4.ensures.all)
    (c.in_ok-first_observers.ensures.starts ∙ ap (map machines.observer_start) c.decls-5.ensures.all)

pub returns-clause-shown : goal.returns-clause-shown
returns-clause-shown c =
    shown-first c.args.scenario.now (made c) c.in_ok-first_work.ensures.none c.new.ensures.history c.in_ok-first_table.ensures.none
    (c.in_ok-first_sems.ensures.none ∙ ap (λ (l : List Decl). no_entries l) c.decls.ensures.all)
    (c.in_ok-first_msgqs.ensures.none ∙ ap (λ (l : List Decl). no_entries l) c.decls-2.ensures.all)
    (c.in_ok-first_signals.ensures.none ∙ ap (λ (l : List Decl). no_entries l) c.decls-3.ensures.all)
    (c.in_ok-first_chans.ensures.none ∙ ap (λ (l : List Decl). no_entries l) c.decls-4.ensures.all)
    (c.in_ok-first_observers.ensures.none ∙ ap (λ (l : List Decl). no_entries l) c.decls-5.ensures.all)

-- Where its entries rise, and its machine lets it stand, a history is legal; and back.
use Rattle.std.proofs.Common.{◌≡◌, Option, Some, None, List, [], ◌∷◌, All}
use Rattle.std.specs.List.{AllZip}
use Rattle.std.proofs.lemmas.List.Elements.{All-nil, All-cons, All-head, All-tail}
use Rattle.zk_base.specs.declared.ids.Entry.{Entry}
use Rattle.zk_base.specs.History.{Rises}
use Rattle.zk_base.specs.Legal.{Machine, IsLegal}
use Rattle.zk_scenario.specs.Content.{Content}
use Rattle.zk_model_bus.specs.Table.{new_table, table_machine}
use Rattle.zk_model_wait.specs.Clock.{new_clock, clock_machine}
use Rattle.zk_model_work.specs.Machine.{work_machine}
use Rattle.zk_worker.specs.Families.{Family}
use Rattle.zk_worker.specs.Machines.{work_start_of, machines_of}
use Rattle.zk_worker.specs.TableSetup.{setup_of}
use Rattle.zk_trace.specs.declared.trace.Trace.{Trace}
use Rattle.zk_trace.specs.History.{IsAnsweredAt, AreLegal}
use Rattle.zk_trace.specs.Place.{EachRises}

-- an object's history is legal from the state that it starts in; an object of another kind has none
abbrev pub IsLegalAt : {S O R : Type 0} → Machine S O R → Option S → List (Entry O R) → Type 0
IsLegalAt m (Some start) h = IsLegal m start h
IsLegalAt m None h = h ≡ []

-- the histories of the objects of a kind, by object number: one for each object
abbrev pub EachLegal : {S O R : Type 0} → Family S O R → List (List (Entry O R)) → Type 0
EachLegal family histories = AllZip (IsLegalAt family.machine) family.starts histories

-- each history is legal
pub record LegalHistories (s : Content) (t : Trace) : Type 0 where
  pub work : IsLegal work_machine (work_start_of s) t.work
  pub clock : IsLegal clock_machine new_clock t.clock
  pub table : IsLegal table_machine (new_table (setup_of s)) t.table
  pub sems : EachLegal (machines_of s).sems t.sems
  pub msgqs : EachLegal (machines_of s).msgqs t.msgqs
  pub signals : EachLegal (machines_of s).signals t.signals
  pub chans : EachLegal (machines_of s).chans t.chans
  pub observers : EachLegal (machines_of s).observers t.observers

module _ {S O R : Type 0} (m : Machine S O R) where
  legal-at : (start : Option S) (h : List (Entry O R)) → Rises h → IsAnsweredAt m start h → IsLegalAt m start h
  legal-at None h rises none = none
  legal-at (Some start) h rises stands = (stands.0, rises, stands.1)

  answered-at : (start : Option S) (h : List (Entry O R)) → IsLegalAt m start h → IsAnsweredAt m start h
  answered-at None h none = none
  answered-at (Some start) h legal = (legal.0, legal.2)

  rises-at : (start : Option S) (h : List (Entry O R)) → IsLegalAt m start h → Rises h
  rises-at None [] none = tt
  rises-at None (e ∷ h) none = absurd (cc)
  rises-at (Some start) h legal = legal.1

  each-legal : (starts : List (Option S)) (hs : List (List (Entry O R))) → All Rises hs → AllZip (IsAnsweredAt m) starts hs →
      AllZip (IsLegalAt m) starts hs
  each-legal [] [] rises stands = tt
  each-legal [] (h ∷ hs) rises stands = absurd stands
  each-legal (s ∷ ss) [] rises stands = absurd stands
  each-legal (s ∷ ss) (h ∷ hs) rises stands =
      (legal-at s h (All-head Rises h hs rises) stands.0, each-legal ss hs (All-tail Rises h hs rises) stands.1)

  each-answered : (starts : List (Option S)) (hs : List (List (Entry O R))) → AllZip (IsLegalAt m) starts hs →
      AllZip (IsAnsweredAt m) starts hs
  each-answered [] [] legal = tt
  each-answered [] (h ∷ hs) legal = absurd legal
  each-answered (s ∷ ss) [] legal = absurd legal
  each-answered (s ∷ ss) (h ∷ hs) legal = (answered-at s h legal.0, each-answered ss hs legal.1)

  each-rises : (starts : List (Option S)) (hs : List (List (Entry O R))) → AllZip (IsLegalAt m) starts hs → All Rises hs
  each-rises [] [] legal = All-nil Rises
  each-rises [] (h ∷ hs) legal = absurd legal
  each-rises (s ∷ ss) [] legal = absurd legal
  each-rises (s ∷ ss) (h ∷ hs) legal = All-cons Rises h hs (rises-at s h legal.0) (each-rises ss hs legal.1)

module _ (s : Content) (t : Trace) where
  -- the histories of a trace that stand, and rise, are legal
  pub histories-legal : EachRises t → AreLegal s t → LegalHistories s t
  histories-legal rises stand =
      let m = machines_of s in
      record {
        work = (stand.work.0, rises.work, stand.work.1);
        clock = (stand.clock.0, rises.clock, stand.clock.1);
        table = (stand.table.0, rises.table, stand.table.1);
        sems = each-legal m.sems.machine m.sems.starts t.sems rises.sems stand.sems;
        msgqs = each-legal m.msgqs.machine m.msgqs.starts t.msgqs rises.msgqs stand.msgqs;
        signals = each-legal m.signals.machine m.signals.starts t.signals rises.signals stand.signals;
        chans = each-legal m.chans.machine m.chans.starts t.chans rises.chans stand.chans;
        observers = each-legal m.observers.machine m.observers.starts t.observers rises.observers stand.observers;
      }

  -- legal ones stand
  pub legal-stand : LegalHistories s t → AreLegal s t
  legal-stand legal =
      let m = machines_of s in
      record {
        work = (legal.work.0, legal.work.2);
        clock = (legal.clock.0, legal.clock.2);
        table = (legal.table.0, legal.table.2);
        sems = each-answered m.sems.machine m.sems.starts t.sems legal.sems;
        msgqs = each-answered m.msgqs.machine m.msgqs.starts t.msgqs legal.msgqs;
        signals = each-answered m.signals.machine m.signals.starts t.signals legal.signals;
        chans = each-answered m.chans.machine m.chans.starts t.chans legal.chans;
        observers = each-answered m.observers.machine m.observers.starts t.observers legal.observers;
      }

  -- and rise
  pub legal-rise : LegalHistories s t → EachRises t
  legal-rise legal =
      let m = machines_of s in
      record {
        work = legal.work.1;
        clock = legal.clock.1;
        table = legal.table.1;
        sems = each-rises m.sems.machine m.sems.starts t.sems legal.sems;
        msgqs = each-rises m.msgqs.machine m.msgqs.starts t.msgqs legal.msgqs;
        signals = each-rises m.signals.machine m.signals.starts t.signals legal.signals;
        chans = each-rises m.chans.machine m.chans.starts t.chans legal.chans;
        observers = each-rises m.observers.machine m.observers.starts t.observers legal.observers;
      }

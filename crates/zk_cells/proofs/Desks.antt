-- What attempts leave of a caller's passes: whom they serve, what they count, and that all else stays.
use Rattle.std.proofs.Common.{◌≡◌, ℕ, Some, None, Option, List, refl, sym, subst, ◌∙◌}
use Rattle.zk_base.specs.declared.ids.Who.{Who}
use Rattle.zk_base.specs.declared.ids.Entry.{Entry}
use Rattle.zk_base.specs.Legal.{IsLegal}
use Rattle.zk_model_work.specs.Machine.{work_machine}
use Rattle.zk_work.specs.Seen.{work_start}
use Rattle.zk_model_work.specs.declared.ops.WorkOp.{WorkOp}
use Rattle.zk_model_work.specs.declared.ops.WorkReply.{WorkReply}
use Rattle.zk_model_wait.specs.declared.clock.ClockOp.{ClockOp}
use Rattle.zk_model_wait.specs.declared.clock.ClockReply.{ClockReply}
use Rattle.zk_model_bus.specs.declared.table.TableOp.{TableOp}
use Rattle.zk_model_bus.specs.declared.table.TableReply.{TableReply}
use Rattle.zk_model_wait.specs.declared.sem.SemOp.{SemOp}
use Rattle.zk_model_wait.specs.declared.sem.SemReply.{SemReply}
use Rattle.zk_model_wait.specs.declared.msgq.MsgqOp.{MsgqOp}
use Rattle.zk_model_wait.specs.declared.msgq.MsgqReply.{MsgqReply}
use Rattle.zk_model_bus.specs.declared.channel.ChanOp.{ChanOp}
use Rattle.zk_model_bus.specs.declared.channel.ChanReply.{ChanReply}
use Rattle.zk_model_bus.specs.declared.observer.ObsOp.{ObsOp}
use Rattle.zk_model_bus.specs.declared.observer.ObsReply.{ObsReply}
use Rattle.zk_turn.specs.declared.pass.Pass.{Pass}
use Rattle.zk_turn.specs.declared.cell.Cell.{Cell}
use Rattle.zk_worker.specs.Single.{OthersGrew}
use Rattle.zk_worker.specs.Families.{EachGrew}
use Rattle.zk_worker.specs.Shown.{Shown, AllGrew}
use Rattle.zk_worker.specs.Attempt.{SamePlayers}
use Rattle.zk_worker.proofs.Between.{grew-none, grew-none_each, looks-none}
use Rattle.zk_cells.specs.declared.cells.Cells.{Cells}
use Rattle.zk_cells.specs.declared.passes.Passes.{Passes}
use Rattle.zk_visit.specs.Seats.{IsAt}
use Rattle.zk_cells.specs.Desks.{IsServed}

-- a pass is of one player
one-player : {S O R T : Type 0} (legal : T → List (Entry O R) → Type 0) (start : S → T) (c : Cell S O R T) (who who' : Who) (looked looked' : ℕ) (p : Option (Pass S O R T)) →
    IsAt legal start c who looked p → IsAt legal start c who' looked' p → who ≡ who'
one-player legal start c who who' looked looked' None at at' = absurd at
one-player legal start c who who' looked looked' (Some p) at at' = sym at.player ∙ at'.player

-- the passes serve their player, and nobody else
pub same-players : (k : Cells) (p p' : Passes) (who : Who) → IsServed k p who → IsServed k p' who → SamePlayers (IsServed k p) (IsServed k p')
same-players k p p' who old new other = (
  λ served. subst (IsServed k p') (one-player (IsLegal work_machine) work_start k.work who other p.looked p.looked p.work old.work served.work) new,
  λ served. subst (IsServed k p) (one-player (IsLegal work_machine) work_start k.work who other p'.looked p'.looked p'.work new.work served.work) old,
)

-- one history, or those of one kind, went on
module _ (number : ℕ) (old : Shown) where
  pub grows-work : (h : List (Entry WorkOp WorkReply)) → OthersGrew number old.work h → AllGrew number old (record old { work = h })
  grows-work h grew = record {
    work = grew;
    clock = grew-none number old.clock;
    table = grew-none number old.table;
    sems = grew-none_each number old.sems;
    msgqs = grew-none_each number old.msgqs;
    signals = grew-none_each number old.signals;
    chans = grew-none_each number old.chans;
    observers = grew-none_each number old.observers;
    looks = looks-none old.looks;
    looked = refl;
  }

  pub grows-clock : (h : List (Entry ClockOp ClockReply)) → OthersGrew number old.clock h → AllGrew number old (record old { clock = h })
  grows-clock h grew = record {
    work = grew-none number old.work;
    clock = grew;
    table = grew-none number old.table;
    sems = grew-none_each number old.sems;
    msgqs = grew-none_each number old.msgqs;
    signals = grew-none_each number old.signals;
    chans = grew-none_each number old.chans;
    observers = grew-none_each number old.observers;
    looks = looks-none old.looks;
    looked = refl;
  }

  pub grows-table : (h : List (Entry TableOp TableReply)) → OthersGrew number old.table h → AllGrew number old (record old { table = h })
  grows-table h grew = record {
    work = grew-none number old.work;
    clock = grew-none number old.clock;
    table = grew;
    sems = grew-none_each number old.sems;
    msgqs = grew-none_each number old.msgqs;
    signals = grew-none_each number old.signals;
    chans = grew-none_each number old.chans;
    observers = grew-none_each number old.observers;
    looks = looks-none old.looks;
    looked = refl;
  }

  pub grows-sems : (h : List (List (Entry SemOp SemReply))) → EachGrew number old.sems h → AllGrew number old (record old { sems = h })
  grows-sems h grew = record {
    work = grew-none number old.work;
    clock = grew-none number old.clock;
    table = grew-none number old.table;
    sems = grew;
    msgqs = grew-none_each number old.msgqs;
    signals = grew-none_each number old.signals;
    chans = grew-none_each number old.chans;
    observers = grew-none_each number old.observers;
    looks = looks-none old.looks;
    looked = refl;
  }

  pub grows-msgqs : (h : List (List (Entry MsgqOp MsgqReply))) → EachGrew number old.msgqs h → AllGrew number old (record old { msgqs = h })
  grows-msgqs h grew = record {
    work = grew-none number old.work;
    clock = grew-none number old.clock;
    table = grew-none number old.table;
    sems = grew-none_each number old.sems;
    msgqs = grew;
    signals = grew-none_each number old.signals;
    chans = grew-none_each number old.chans;
    observers = grew-none_each number old.observers;
    looks = looks-none old.looks;
    looked = refl;
  }

  pub grows-chans : (h : List (List (Entry ChanOp ChanReply))) → EachGrew number old.chans h → AllGrew number old (record old { chans = h })
  grows-chans h grew = record {
    work = grew-none number old.work;
    clock = grew-none number old.clock;
    table = grew-none number old.table;
    sems = grew-none_each number old.sems;
    msgqs = grew-none_each number old.msgqs;
    signals = grew-none_each number old.signals;
    chans = grew;
    observers = grew-none_each number old.observers;
    looks = looks-none old.looks;
    looked = refl;
  }

  pub grows-observers : (h : List (List (Entry ObsOp ObsReply))) → EachGrew number old.observers h → AllGrew number old (record old { observers = h })
  grows-observers h grew = record {
    work = grew-none number old.work;
    clock = grew-none number old.clock;
    table = grew-none number old.table;
    sems = grew-none_each number old.sems;
    msgqs = grew-none_each number old.msgqs;
    signals = grew-none_each number old.signals;
    chans = grew-none_each number old.chans;
    observers = grew;
    looks = looks-none old.looks;
    looked = refl;
  }

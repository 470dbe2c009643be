use Rattle.std.specs.Prelude.{ℕ, Option, Some, None, List, [], ◌∷◌}
use Rattle.zk_base.specs.declared.waits.Waiter.{Waiter}
use Rattle.zk_base.specs.WaitLaws.{Decides, nobody, first, all, WaitKind}
use Rattle.zk_model_wait.specs.declared.sem.SemOp.{SemOp}
use Rattle.zk_model_wait.specs.declared.sem.SemOp.TheVariants as ops
use Rattle.zk_model_wait.specs.declared.sem.SemReply.{SemReply}
use Rattle.zk_model_wait.specs.declared.sem.SemReply.TheVariants.{Got, Wait, Again, Armed, Noted, Plain}
use Rattle.zk_model_wait.specs.Sem.{Sem}

-- a take that is told to wait opens a wait
abbrev pub take_opens : SemOp → SemReply → Option Unit
take_opens (ops.Take waits) Wait = Some tt
take_opens op reply = None

-- the place of the wait that is ended
abbrev pub take_ends : SemOp → Option ℕ
take_ends (ops.TakeEnd place) = Some place
take_ends op = None

-- and of the one that is given up
abbrev pub take_quits : SemOp → Option ℕ
take_quits (ops.TakeQuit place) = Some place
take_quits op = None

-- a give decides the first who waits, and a reset decides all
abbrev pub take_decides : Sem → SemOp → SemReply → Decides SemReply Unit
take_decides s ops.Give reply = first Got
take_decides s ops.Reset reply = all Again
take_decides s op reply = nobody

-- who waits to take a semaphore
abbrev pub takers : WaitKind Sem SemOp SemReply Unit
takers = record {
  waits = λ s. s.takers;
  entries = λ s. s.entries;
  opens = take_opens;
  ends = take_ends;
  quits = take_quits;
  gives_up = Again;
  decides = take_decides;
}

-- a poll that is told that it is registered opens a wait for its note
abbrev pub poll_opens : SemOp → SemReply → Option Unit
poll_opens (ops.PollArm waits) Armed = Some tt
poll_opens op reply = None

-- the place of the poll that is ended
abbrev pub poll_ends : SemOp → Option ℕ
poll_ends (ops.PollEnd place) = Some place
poll_ends op = None

-- and of the one that is given up
abbrev pub poll_quits : SemOp → Option ℕ
poll_quits (ops.PollQuit place) = Some place
poll_quits op = None

-- a give notifies the first who polls, where nobody waits
abbrev pub give_notifies : List (Waiter Unit) → Decides SemReply Unit
give_notifies [] = first Noted
give_notifies (w ∷ ws) = nobody

abbrev pub poll_decides : Sem → SemOp → SemReply → Decides SemReply Unit
poll_decides s ops.Give reply = give_notifies s.takers.waiting
poll_decides s op reply = nobody

-- who polls a semaphore: who is notified is decided
abbrev pub pollers : WaitKind Sem SemOp SemReply Unit
pollers = record {
  waits = λ s. s.pollers;
  entries = λ s. s.entries;
  opens = poll_opens;
  ends = poll_ends;
  quits = poll_quits;
  gives_up = Plain;
  decides = poll_decides;
}

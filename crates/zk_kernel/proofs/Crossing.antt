-- What goes from thread to thread: a caller with its passes, and a kernel by reference. In parts, since one search for all of it
-- breaks off.
use mir.Syntax.{Sym}
use mathlib.Core.List.{[], ◌∷◌}
use denote.Builtin.{One}
use denote.Ref.{NamedLft}
use denote.Struct.Tuple.{type_at, TupleAt}
use denote.RattleType.{RattleType}
use denote.Struct.Field as Field
use denote.Param.Send.{shr_sync, IsSend, IsSync, recorded_send, recorded_sync, struct_send, struct_sync, sendable}
use denote.Struct.Declared.{shape}
use Rattle.std.proofs.Crossing.{crosses}
use Rattle.std.proofs.MapsCrossing as maps
use Rattle.zk_model_wait.specs.contracts.msgq.MsgqOp as msgq_op
use Rattle.zk_model_wait.specs.contracts.msgq.MsgqReply as msgq_reply
use Rattle.zk_model_wait.specs.contracts.msgq.MsgqStore as msgq_store
use Rattle.zk_model_bus.specs.contracts.observer.ObsReply as obs_reply
use Rattle.circular_buffer.proofs.Crosses.{Cells-send, Deed-send}
use Rattle.zk_base.specs.contracts.message.Msg as message
use Rattle.zk_cells.specs.contracts.passes.Passes as passes
use Rattle.zk_cells.specs.contracts.cells.Cells as cells
use Rattle.zk_kernel.specs.contracts.caller.Caller as caller
use Rattle.zk_kernel.specs.contracts.kernel.Kernel as kernel
use Rattle.zk_kernel.specs.contracts.news.News as news
use Rattle.zk_scenario.proofs.Crossing.{scenario_part}
use Rattle.zk_signal.proofs.Crossing.{sig_pass_send, shared_sync}
use Rattle.zk_turn.proofs.Crossing.{pass_send, cell_part, cell_sync}
use Rattle.zk_work.proofs.Crossing.{work_send}
use Rattle.zk_worker.proofs.Crossing.{player_part}
use Rattle.zk_time.specs.contracts.clock.Clock as clock
use Rattle.zk_objects.specs.contracts.objects.Objects as table
use Rattle.zk_sem.specs.contracts.sem.Sem as sem
use Rattle.zk_msgq.specs.contracts.msgq.Msgq as msgq
use Rattle.zk_cells.specs.contracts.notes.Note as note
use Rattle.zk_bus.specs.contracts.channel.Channel as chan
use Rattle.zk_subq.specs.contracts.observer.Observer as observer

pub clock_send : IsSend clock.the_row
clock_send = search (maps.HashMap-send, sendable, crosses) depth 60 fits 20000

pub table_send : IsSend table.the_row
table_send = search (sendable, crosses) depth 60 fits 20000

pub sem_send : IsSend sem.the_row
sem_send = search (sendable, crosses) depth 60 fits 20000

note_send : IsSend note.the_row
note_send = search (sendable, crosses) depth 60 fits 20000

pub chan_send : IsSend chan.the_row
chan_send = search (sendable, crosses) depth 60 fits 20000

message_send : IsSend message.the_row
message_send = search (sendable, crosses) depth 60 fits 20000

msgq_op_send : IsSend msgq_op.the_row
msgq_op_send = search (message_send, sendable, crosses) depth 60 fits 20000

msgq_reply_send : IsSend msgq_reply.the_row
msgq_reply_send = search (message_send, sendable, crosses) depth 60 fits 20000

pub msgq_store_send : IsSend msgq_store.the_row
msgq_store_send = search (message_send, msgq_reply_send, Cells-send, Deed-send, sendable, crosses) depth 60 fits 20000

pub msgq_send : IsSend msgq.the_row
msgq_send = search (msgq_op_send, msgq_reply_send, message_send, Cells-send, Deed-send, sendable, crosses) depth 60 fits 20000

obs_reply_send : IsSend obs_reply.the_row
obs_reply_send = search (sendable, crosses) depth 60 fits 20000

pub observer_send : IsSend observer.the_row
observer_send = search (obs_reply_send, Cells-send, Deed-send, sendable, crosses) depth 60 fits 20000

passes_send : IsSend passes.the_row
passes_send = search (pass_send, work_send, clock_send, table_send, sem_send, msgq_send, sig_pass_send, note_send, chan_send, observer_send, sendable, crosses) depth 40 fits 20000

pub caller_send : IsSend caller.the_row
caller_send = recorded_send _ _ _ caller.the_type.to_one
    (struct_send (shape caller.the_type) (player_part, (search (passes_send, sendable, crosses) depth 20, (search sendable depth 14, (search (sendable, crosses) depth 20, tt)))))

cells_part : IsSync (cells.the_field).row
cells_part = struct_sync (shape cells.the_type) (
  search (cell_part, work_send) depth 14,
  (
    search (sendable, crosses) depth 20,
    (
      search (sendable, crosses) depth 20,
      (
        search (cell_part, clock_send) depth 14,
        (
          search (cell_part, table_send) depth 14,
          (
            search (cell_sync, sem_send, sendable, crosses) depth 20,
            (
              search (cell_sync, msgq_send, sendable, crosses) depth 20,
              (
                search (shared_sync, sendable, crosses) depth 20,
                (
                  search (cell_sync, chan_send, sendable, crosses) depth 20,
                  (search (cell_sync, observer_send, sendable, crosses) depth 20, tt),
                ),
              ),
            ),
          ),
        ),
      ),
    ),
  ),
)

news_part : IsSync (news.the_field).row
news_part = search (sendable, crosses) depth 40 fits 20000

pub kernel_sync : IsSync kernel.the_row
kernel_sync = search (cells_part, scenario_part, news_part, sendable, crosses) depth 60 fits 20000

-- a reference to what may be shared may be shared
pub ref_sync : (ℓ : NamedLft) (T : RattleType) (one : One T.mir) → IsSync T → IsSync (Field.shr_ref_field ℓ T one).row
ref_sync ℓ T one s = shr_sync ℓ.mir ℓ.lft T s

-- a closure may be shared where the three things that it holds may
pub closure_of_three : (ν : Sym) (A B C : RattleType) → IsSync A → IsSync B → IsSync C → IsSync (TupleAt ν (A ∷ B ∷ C ∷ []))
closure_of_three ν A B C a b c =
    let held = type_at ν (A ∷ B ∷ C ∷ []) in
    recorded_sync _ _ _ held.to_one (struct_sync (shape held) (a, (b, (c, tt))))

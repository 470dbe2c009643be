-- A player goes to other threads. In parts, since one search for all of it breaks off.
use denote.Param.Send.{IsSend, recorded_send, struct_send, sendable}
use denote.Struct.Declared.{shape}
use Rattle.std.proofs.Crossing.{crosses}
use Rattle.zk_base.specs.contracts.message.Msg as message
use Rattle.zk_words.specs.contracts.word.Word as word
use Rattle.zk_worker.specs.contracts.player.Player as player
use Rattle.zk_worker.specs.contracts.frames.Frame as frame
use Rattle.zk_worker.specs.contracts.answer_rows.AnswerRow as answer_row
use Rattle.zk_worker.specs.contracts.answer_rows.AnswerRows as answer_rows
use Rattle.zk_worker.specs.contracts.answer_rows.Brief as brief
use Rattle.zk_worker.specs.contracts.steps.Spot as spot

message_send : IsSend message.the_row
message_send = search (sendable, crosses) depth 60 fits 20000

frame_send : IsSend frame.the_row
frame_send = search (sendable, crosses) depth 60 fits 20000

word_part : IsSend (word.the_field).row
word_part = search (sendable, crosses) depth 60 fits 20000

brief_part : IsSend (brief.the_field).row
brief_part = search (sendable, crosses) depth 60 fits 20000

answer_row_send : IsSend answer_row.the_row
answer_row_send = recorded_send _ _ _ answer_row.the_type.to_one
    (struct_send (shape answer_row.the_type) (search sendable depth 14, (word_part, (brief_part, tt))))

answer_rows_send : IsSend answer_rows.the_row
answer_rows_send = search (answer_row_send, message_send, sendable, crosses) depth 40 fits 20000

spot_send : IsSend spot.the_row
spot_send = search (sendable, crosses) depth 60 fits 20000

pub player_part : IsSend (player.the_field).row
player_part = search (frame_send, answer_rows_send, spot_send, sendable, crosses) depth 40 fits 20000

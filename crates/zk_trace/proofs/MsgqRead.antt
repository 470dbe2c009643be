-- The operations and the replies of a message queue are read exactly.
use Rattle.std.proofs.Common.{◌≡◌, ℕ, ◌^◌, ◌<◌, true, Some, List, map, is_none, refl}
use Rattle.std.specs.List.{list_all}
use Rattle.zk_line.specs.declared.types.Decl.{Decl}
use Rattle.zk_line.specs.Objects.{AreNames}
use Rattle.zk_model_wait.specs.declared.msgq.MsgqOp.{MsgqOp}
use Rattle.zk_model_wait.specs.declared.msgq.MsgqOp.TheVariants as ops
use Rattle.zk_model_wait.specs.declared.msgq.MsgqReply.{MsgqReply}
use Rattle.zk_model_wait.specs.declared.msgq.MsgqReply.TheVariants as replies
use Rattle.zk_trace.specs.declared.msgq.Verb.{Verb}
use Rattle.zk_trace.specs.declared.msgq.Verb.TheVariants as verbs
use Rattle.zk_trace.specs.Exact.{IsPlain, IsExactRow, IsSpelled}
use Rattle.zk_trace.specs.Fields.{IsMessage}
use Rattle.zk_trace.specs.Parts.{part_word}
use Rattle.zk_trace.specs.Msgq.{verb_word, said_of, op_words, reply_words}
use Rattle.zk_trace.specs.MsgqRead.{all_verbs, verb_of, op_behind, op_of, FitsOp, fixed_replies, bytes_reply, number_reply, open_reply, IsBytes, IsNumber, FitsOpen, reply_row, reply_of, AnswersTo}
use Rattle.zk_trace.proofs.EntryRead.{IsWorded}
use Rattle.zk_trace.proofs.Fields.{as_row, made, no_row, waits_exact, message_exact}
use Rattle.zk_trace.proofs.NumberWords.{wide_exact, narrow_exact}
use Rattle.zk_trace.proofs.Sayings.{AreRead, SaysOp, bare-says, one-there, one-says, two-there, two-says, is_table, apart_by_reading, service_spelled}

verbs_are : (v : Verb) → (verb_of (verb_word v) ≡ Some v) × IsPlain (verb_word v)
verbs_are verbs.Put = (refl, refl)
verbs_are verb = (refl, refl)

module _ (decls : List Decl) (are : AreNames decls) where
  -- the words of an operation behind its verb
  abbrev args : MsgqOp → List (List ℕ)
  args op = map (part_word decls) (said_of op).1

  abbrev Says : Verb → List (List ℕ) → MsgqOp → Type 0
  Says = SaysOp (λ op. (said_of op).0) args (FitsOp decls)

  there : (op : MsgqOp) → FitsOp decls op → AreRead (op_behind decls (said_of op).0) (args op) op
  there (ops.Put message waits) fits = two-there message_exact waits_exact ops.Put message waits fits tt
  there (ops.PutFront message) fits = one-there message_exact ops.PutFront message fits
  there (ops.PutEnd place) fits = one-there wide_exact ops.PutEnd place fits
  there (ops.PutQuit place) fits = one-there wide_exact ops.PutQuit place fits
  there (ops.Get waits) fits = one-there waits_exact ops.Get waits tt
  there (ops.GetEnd place) fits = one-there wide_exact ops.GetEnd place fits
  there (ops.GetQuit place) fits = one-there wide_exact ops.GetQuit place fits
  there ops.Peek fits = (refl, tt)
  there (ops.PeekAt index) fits = one-there narrow_exact ops.PeekAt index fits
  there ops.Purge fits = (refl, tt)
  there ops.Used fits = (refl, tt)
  there ops.Free fits = (refl, tt)
  there (ops.PollArm waits) fits = one-there waits_exact ops.PollArm waits tt
  there (ops.PollEnd place) fits = one-there wide_exact ops.PollEnd place fits
  there (ops.PollQuit place) fits = one-there wide_exact ops.PollQuit place fits

  says : (v : Verb) (words : List (List ℕ)) (op : MsgqOp) → op_behind decls v words ≡ Some op → Says v words op
  says verbs.Put = two-says message_exact waits_exact ops.Put (Says verbs.Put) (λ message waits fits waits_fit. (refl, refl, fits))
  says verbs.PutFront = one-says message_exact ops.PutFront (Says verbs.PutFront) (λ message fits. (refl, refl, fits))
  says verbs.PutEnd = one-says wide_exact ops.PutEnd (Says verbs.PutEnd) (λ place fits. (refl, refl, fits))
  says verbs.PutQuit = one-says wide_exact ops.PutQuit (Says verbs.PutQuit) (λ place fits. (refl, refl, fits))
  says verbs.Get = one-says waits_exact ops.Get (Says verbs.Get) (λ waits fits. (refl, refl, tt))
  says verbs.GetEnd = one-says wide_exact ops.GetEnd (Says verbs.GetEnd) (λ place fits. (refl, refl, fits))
  says verbs.GetQuit = one-says wide_exact ops.GetQuit (Says verbs.GetQuit) (λ place fits. (refl, refl, fits))
  says verbs.Peek = bare-says ops.Peek (Says verbs.Peek) (refl, refl, tt)
  says verbs.PeekAt = one-says narrow_exact ops.PeekAt (Says verbs.PeekAt) (λ index fits. (refl, refl, fits))
  says verbs.Purge = bare-says ops.Purge (Says verbs.Purge) (refl, refl, tt)
  says verbs.Used = bare-says ops.Used (Says verbs.Used) (refl, refl, tt)
  says verbs.Free = bare-says ops.Free (Says verbs.Free) (refl, refl, tt)
  says verbs.PollArm = one-says waits_exact ops.PollArm (Says verbs.PollArm) (λ waits fits. (refl, refl, tt))
  says verbs.PollEnd = one-says wide_exact ops.PollEnd (Says verbs.PollEnd) (λ place fits. (refl, refl, fits))
  says verbs.PollQuit = one-says wide_exact ops.PollQuit (Says verbs.PollQuit) (λ place fits. (refl, refl, fits))

  table : (v : Verb) → is_table (reply_row decls) (fixed_replies v) ≡ true
  table verbs.Put = refl
  table verb = refl

  a_message : (r : MsgqReply) → IsBytes r → (message : List ℕ) × (replies.Bytes message ≡ r) × IsMessage message
  a_message (replies.Bytes message) fits = (message, refl, fits)
  a_message r fits = absurd fits

  a_number : (r : MsgqReply) → IsNumber r → (n : ℕ) × (replies.Number n ≡ r) × (n < 2 ^ 32)
  a_number (replies.Number n) fits = (n, refl, fits)
  a_number r fits = absurd fits

  bytes_exact : IsExactRow (reply_row decls) IsBytes bytes_reply
  bytes_exact = made (reply_row decls) IsBytes replies.Bytes (λ message. refl) (λ message fits. fits) a_message (as_row message_exact)

  number_exact : IsExactRow (reply_row decls) IsNumber number_reply
  number_exact = made (reply_row decls) IsNumber replies.Number (λ n. refl) (λ n fits. fits) a_number (as_row narrow_exact)

  others : (v : Verb) → IsExactRow (reply_row decls) (FitsOpen decls v) (open_reply decls v)
  others verbs.Get = bytes_exact
  others verbs.GetEnd = bytes_exact
  others verbs.GetQuit = bytes_exact
  others verbs.Peek = bytes_exact
  others verbs.PeekAt = bytes_exact
  others verbs.Used = number_exact
  others verbs.Free = number_exact
  others verb = no_row (reply_row decls)

  unread : (v : Verb) → list_all (λ r. is_none (open_reply decls v (reply_row decls r))) (fixed_replies v) ≡ true
  unread verbs.Put = refl
  unread verb = refl

  -- the operations and the replies of a message queue are read exactly
  pub msgq_spelled : IsSpelled (op_words decls) (reply_words decls) (FitsOp decls) (λ op r. AnswersTo decls (said_of op).0 r) (op_of decls) (λ op row. reply_of decls (said_of op).0 row)
  msgq_spelled =
      service_spelled verb_word all_verbs (λ op. (said_of op).0) args (FitsOp decls) (op_behind decls) (reply_words decls) fixed_replies (FitsOpen decls) (open_reply decls) verbs_are there says
      table others (λ v. apart_by_reading (reply_row decls) (FitsOpen decls v) (open_reply decls v) (fixed_replies v) (others v) (unread v))

-- each reply has a word
pub msgq_worded : (decls : List Decl) (r : MsgqReply) → IsWorded (reply_words decls r)
msgq_worded decls replies.Done = tt
msgq_worded decls r = tt

-- The operations and the replies of a semaphore are read exactly.
use Rattle.std.proofs.Common.{◌≡◌, ℕ, ◌^◌, ◌<◌, true, Some, List, map, is_none, refl}
use Rattle.std.specs.List.{list_all}
use Rattle.zk_line.specs.declared.types.Decl.{Decl}
use Rattle.zk_line.specs.Objects.{AreNames}
use Rattle.zk_model_wait.specs.declared.sem.SemOp.{SemOp}
use Rattle.zk_model_wait.specs.declared.sem.SemOp.TheVariants as ops
use Rattle.zk_model_wait.specs.declared.sem.SemReply.{SemReply}
use Rattle.zk_model_wait.specs.declared.sem.SemReply.TheVariants as replies
use Rattle.zk_trace.specs.declared.sem.Verb.{Verb}
use Rattle.zk_trace.specs.declared.sem.Verb.TheVariants as verbs
use Rattle.zk_trace.specs.Exact.{IsPlain, IsExactRow, IsSpelled}
use Rattle.zk_trace.specs.Parts.{part_word}
use Rattle.zk_trace.specs.Sem.{verb_word, said_of, op_words, reply_words}
use Rattle.zk_trace.specs.SemRead.{all_verbs, verb_of, op_behind, op_of, FitsOp, fixed_replies, open_reply, FitsOpen, reply_row, reply_of, AnswersTo}
use Rattle.zk_trace.proofs.Fields.{as_row, made, no_row, waits_exact}
use Rattle.zk_trace.proofs.NumberWords.{wide_exact, narrow_exact}
use Rattle.zk_trace.proofs.Sayings.{AreRead, SaysOp, bare-says, one-there, one-says, is_table, apart_by_reading, service_spelled}

verbs_are : (v : Verb) → (verb_of (verb_word v) ≡ Some v) × IsPlain (verb_word v)
verbs_are verbs.Take = (refl, refl)
verbs_are verb = (refl, refl)

module _ (decls : List Decl) (are : AreNames decls) where
  -- the words of an operation behind its verb
  abbrev args : SemOp → List (List ℕ)
  args op = map (part_word decls) (said_of op).1

  abbrev Says : Verb → List (List ℕ) → SemOp → Type 0
  Says = SaysOp (λ op. (said_of op).0) args (FitsOp decls)

  there : (op : SemOp) → FitsOp decls op → AreRead (op_behind decls (said_of op).0) (args op) op
  there (ops.Take waits) fits = one-there waits_exact ops.Take waits tt
  there (ops.TakeEnd place) fits = one-there wide_exact ops.TakeEnd place fits
  there (ops.TakeQuit place) fits = one-there wide_exact ops.TakeQuit place fits
  there ops.Give fits = (refl, tt)
  there ops.Reset fits = (refl, tt)
  there ops.Count fits = (refl, tt)
  there (ops.PollArm waits) fits = one-there waits_exact ops.PollArm waits tt
  there (ops.PollEnd place) fits = one-there wide_exact ops.PollEnd place fits
  there (ops.PollQuit place) fits = one-there wide_exact ops.PollQuit place fits

  says : (v : Verb) (words : List (List ℕ)) (op : SemOp) → op_behind decls v words ≡ Some op → Says v words op
  says verbs.Take = one-says waits_exact ops.Take (Says verbs.Take) (λ waits fits. (refl, refl, tt))
  says verbs.TakeEnd = one-says wide_exact ops.TakeEnd (Says verbs.TakeEnd) (λ place fits. (refl, refl, fits))
  says verbs.TakeQuit = one-says wide_exact ops.TakeQuit (Says verbs.TakeQuit) (λ place fits. (refl, refl, fits))
  says verbs.Give = bare-says ops.Give (Says verbs.Give) (refl, refl, tt)
  says verbs.Reset = bare-says ops.Reset (Says verbs.Reset) (refl, refl, tt)
  says verbs.Count = bare-says ops.Count (Says verbs.Count) (refl, refl, tt)
  says verbs.PollArm = one-says waits_exact ops.PollArm (Says verbs.PollArm) (λ waits fits. (refl, refl, tt))
  says verbs.PollEnd = one-says wide_exact ops.PollEnd (Says verbs.PollEnd) (λ place fits. (refl, refl, fits))
  says verbs.PollQuit = one-says wide_exact ops.PollQuit (Says verbs.PollQuit) (λ place fits. (refl, refl, fits))

  table : (v : Verb) → is_table (reply_row decls) (fixed_replies v) ≡ true
  table verbs.Take = refl
  table verb = refl

  a_number : (r : SemReply) → FitsOpen decls verbs.Count r → (n : ℕ) × (replies.Number n ≡ r) × (n < 2 ^ 32)
  a_number (replies.Number n) fits = (n, refl, fits)
  a_number r fits = absurd fits

  others : (v : Verb) → IsExactRow (reply_row decls) (FitsOpen decls v) (open_reply decls v)
  others verbs.Count = made (reply_row decls) (FitsOpen decls verbs.Count) replies.Number (λ n. refl) (λ n fits. fits) a_number (as_row narrow_exact)
  others verb = no_row (reply_row decls)

  unread : (v : Verb) → list_all (λ r. is_none (open_reply decls v (reply_row decls r))) (fixed_replies v) ≡ true
  unread verbs.Take = refl
  unread verb = refl

  -- the operations and the replies of a semaphore are read exactly
  pub sem_spelled : IsSpelled (op_words decls) (reply_words decls) (FitsOp decls) (λ op r. AnswersTo decls (said_of op).0 r) (op_of decls) (λ op row. reply_of decls (said_of op).0 row)
  sem_spelled =
      service_spelled verb_word all_verbs (λ op. (said_of op).0) args (FitsOp decls) (op_behind decls) (reply_words decls) fixed_replies (FitsOpen decls) (open_reply decls) verbs_are there says
      table others (λ v. apart_by_reading (reply_row decls) (FitsOpen decls v) (open_reply decls v) (fixed_replies v) (others v) (unread v))

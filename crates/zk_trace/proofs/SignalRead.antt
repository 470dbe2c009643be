-- The operations and the replies of a signal are read exactly.
use Rattle.std.proofs.Common.{◌≡◌, ℕ, ◌^◌, ◌<◌, Some, List, map, refl}
use Rattle.zk_line.specs.declared.types.Decl.{Decl}
use Rattle.zk_line.specs.Objects.{AreNames}
use Rattle.zk_model_wait.specs.declared.signal.SignalOp.{SignalOp}
use Rattle.zk_model_wait.specs.declared.signal.SignalOp.TheVariants as ops
use Rattle.zk_model_wait.specs.declared.signal.SignalReply.{SignalReply}
use Rattle.zk_model_wait.specs.declared.signal.SignalReply.TheVariants as replies
use Rattle.zk_trace.specs.declared.signal.Verb.{Verb}
use Rattle.zk_trace.specs.declared.signal.Verb.TheVariants as verbs
use Rattle.zk_trace.specs.Exact.{IsPlain, IsExactRow, IsSpelled}
use Rattle.zk_trace.specs.Parts.{part_word}
use Rattle.zk_trace.specs.Signal.{verb_word, said_of, op_words, reply_words}
use Rattle.zk_trace.specs.SignalRead.{all_verbs, verb_of, op_behind, op_of, FitsOp, fixed_replies, open_reply, FitsOpen, reply_row, reply_of, AnswersTo}
use Rattle.zk_trace.proofs.EntryRead.{IsWorded}
use Rattle.zk_trace.proofs.Fields.{as_row, made}
use Rattle.zk_trace.proofs.NumberWords.{short_exact, narrow_exact}
use Rattle.zk_trace.proofs.Sayings.{AreRead, SaysOp, bare-says, one-there, one-says, service_spelled}

verbs_are : (v : Verb) → (verb_of (verb_word v) ≡ Some v) × IsPlain (verb_word v)
verbs_are verbs.Raise = (refl, refl)
verbs_are verbs.Clear = (refl, refl)

module _ (decls : List Decl) (are : AreNames decls) where
  -- the words of an operation behind its verb
  abbrev args : SignalOp → List (List ℕ)
  args op = map (part_word decls) (said_of op).1

  abbrev Says : Verb → List (List ℕ) → SignalOp → Type 0
  Says = SaysOp (λ op. (said_of op).0) args (FitsOp decls)

  there : (op : SignalOp) → FitsOp decls op → AreRead (op_behind decls (said_of op).0) (args op) op
  there (ops.Raise value) fits = one-there short_exact ops.Raise value fits
  there ops.Clear fits = (refl, tt)

  says : (v : Verb) (words : List (List ℕ)) (op : SignalOp) → op_behind decls v words ≡ Some op → Says v words op
  says verbs.Raise = one-says short_exact ops.Raise (Says verbs.Raise) (λ value fits. (refl, refl, fits))
  says verbs.Clear = bare-says ops.Clear (Says verbs.Clear) (refl, refl, tt)

  a_stamp : (v : Verb) (r : SignalReply) → FitsOpen decls v r → (n : ℕ) × (replies.Stamp n ≡ r) × (n < 2 ^ 32)
  a_stamp v (replies.Stamp n) fits = (n, refl, fits)

  others : (v : Verb) → IsExactRow (reply_row decls) (FitsOpen decls v) (open_reply decls v)
  others v = made (reply_row decls) (FitsOpen decls v) replies.Stamp (λ n. refl) (λ n fits. fits) (a_stamp v) (as_row narrow_exact)

  -- the operations and the replies of a signal are read exactly
  pub signal_spelled : IsSpelled (op_words decls) (reply_words decls) (FitsOp decls) (λ op r. AnswersTo decls (said_of op).0 r) (op_of decls) (λ op row. reply_of decls (said_of op).0 row)
  signal_spelled =
      service_spelled verb_word all_verbs (λ op. (said_of op).0) args (FitsOp decls) (op_behind decls) (reply_words decls) fixed_replies (FitsOpen decls) (open_reply decls) verbs_are there says
      (λ v. refl) others (λ v r fits. tt)

-- each reply has a word
pub signal_worded : (decls : List Decl) (r : SignalReply) → IsWorded (reply_words decls r)
signal_worded decls (replies.Stamp stamp) = tt

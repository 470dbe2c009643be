-- The operations and the replies of the object table are read exactly.
use Rattle.std.proofs.Common.{◌≡◌, ℕ, true, Some, List, map, is_none, refl}
use Rattle.std.specs.List.{list_all}
use Rattle.zk_line.specs.declared.types.Decl.{Decl}
use Rattle.zk_line.specs.Objects.{AreNames}
use Rattle.zk_model_bus.specs.declared.table.OopsWhy.{OopsWhy}
use Rattle.zk_model_bus.specs.declared.table.TableOp.{TableOp}
use Rattle.zk_model_bus.specs.declared.table.TableOp.TheVariants as ops
use Rattle.zk_model_bus.specs.declared.table.TableReply.{TableReply}
use Rattle.zk_model_bus.specs.declared.table.TableReply.TheVariants as replies
use Rattle.zk_trace.specs.declared.table.Verb.{Verb}
use Rattle.zk_trace.specs.declared.table.Verb.TheVariants as verbs
use Rattle.zk_trace.specs.Exact.{IsPlain, IsExactRow, IsSpelled}
use Rattle.zk_trace.specs.Parts.{part_word}
use Rattle.zk_trace.specs.Table.{verb_word, said_of, op_words, reply_words}
use Rattle.zk_trace.specs.TableRead.{all_verbs, verb_of, op_behind, op_of, FitsOp, fixed_replies, open_reply, IsOops, FitsOpen, reply_row, reply_of, AnswersTo}
use Rattle.zk_trace.proofs.EntryRead.{IsWorded}
use Rattle.zk_trace.proofs.Fields.{made, no_row, need_exact, oops_exact, checked_exact, thread_exact}
use Rattle.zk_trace.proofs.NameWords.{object_exact}
use Rattle.zk_trace.proofs.Sayings.{AreRead, SaysOp, bare-says, one-there, one-says, two-there, two-says, is_table, apart_by_reading, service_spelled}

verbs_are : (v : Verb) → (verb_of (verb_word v) ≡ Some v) × IsPlain (verb_word v)
verbs_are verbs.Check = (refl, refl)
verbs_are verb = (refl, refl)

module _ (decls : List Decl) (are : AreNames decls) where
  -- the words of an operation behind its verb
  abbrev args : TableOp → List (List ℕ)
  args op = map (part_word decls) (said_of op).1

  abbrev Says : Verb → List (List ℕ) → TableOp → Type 0
  Says = SaysOp (λ op. (said_of op).0) args (FitsOp decls)

  there : (op : TableOp) → FitsOp decls op → AreRead (op_behind decls (said_of op).0) (args op) op
  there (ops.Check object need) fits = two-there (checked_exact decls are) need_exact ops.Check object need fits tt
  there (ops.Grant thread object) fits = two-there (thread_exact decls are) (object_exact decls are) ops.Grant thread object fits.0 fits.1
  there (ops.Revoke thread object) fits = two-there (thread_exact decls are) (object_exact decls are) ops.Revoke thread object fits.0 fits.1
  there (ops.Release object) fits = one-there (object_exact decls are) ops.Release object fits
  there (ops.Public object) fits = one-there (object_exact decls are) ops.Public object fits
  there (ops.Init object) fits = one-there (object_exact decls are) ops.Init object fits
  there ops.EnterUser fits = (refl, tt)

  says : (v : Verb) (words : List (List ℕ)) (op : TableOp) → op_behind decls v words ≡ Some op → Says v words op
  says verbs.Check = two-says (checked_exact decls are) need_exact ops.Check (Says verbs.Check) (λ object need fits need_fits. (refl, refl, fits))
  says verbs.Grant = two-says (thread_exact decls are) (object_exact decls are) ops.Grant (Says verbs.Grant) (λ thread object is there. (refl, refl, (is, there)))
  says verbs.Revoke = two-says (thread_exact decls are) (object_exact decls are) ops.Revoke (Says verbs.Revoke) (λ thread object is there. (refl, refl, (is, there)))
  says verbs.Release = one-says (object_exact decls are) ops.Release (Says verbs.Release) (λ object fits. (refl, refl, fits))
  says verbs.Public = one-says (object_exact decls are) ops.Public (Says verbs.Public) (λ object fits. (refl, refl, fits))
  says verbs.Init = one-says (object_exact decls are) ops.Init (Says verbs.Init) (λ object fits. (refl, refl, fits))
  says verbs.User = bare-says ops.EnterUser (Says verbs.User) (refl, refl, tt)

  table : (v : Verb) → is_table (reply_row decls) (fixed_replies v) ≡ true
  table verbs.Check = refl
  table verb = refl

  a_reason : (r : TableReply) → IsOops r → (why : OopsWhy) × (replies.Oops why ≡ r) × Unit {0}
  a_reason (replies.Oops why) fits = (why, refl, tt)
  a_reason r fits = absurd fits

  others : (v : Verb) → IsExactRow (reply_row decls) (FitsOpen decls v) (open_reply decls v)
  others verbs.Check = made (reply_row decls) IsOops replies.Oops (λ why. refl) (λ why fits. tt) a_reason oops_exact
  others verb = no_row (reply_row decls)

  unread : (v : Verb) → list_all (λ r. is_none (open_reply decls v (reply_row decls r))) (fixed_replies v) ≡ true
  unread verbs.Check = refl
  unread verb = refl

  -- the operations and the replies of the object table are read exactly
  pub table_spelled : IsSpelled (op_words decls) (reply_words decls) (FitsOp decls) (λ op r. AnswersTo decls (said_of op).0 r) (op_of decls) (λ op row. reply_of decls (said_of op).0 row)
  table_spelled =
      service_spelled verb_word all_verbs (λ op. (said_of op).0) args (FitsOp decls) (op_behind decls) (reply_words decls) fixed_replies (FitsOpen decls) (open_reply decls) verbs_are there says
      table others (λ v. apart_by_reading (reply_row decls) (FitsOpen decls v) (open_reply decls v) (fixed_replies v) (others v) (unread v))

-- each reply has a word
pub table_worded : (decls : List Decl) (r : TableReply) → IsWorded (reply_words decls r)
table_worded decls replies.Done = tt
table_worded decls r = tt

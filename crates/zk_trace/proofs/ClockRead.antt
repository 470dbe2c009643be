-- The operations and the replies of the clock are read exactly.
use Rattle.std.proofs.Common.{◌≡◌, ℕ, ◌^◌, ◌<◌, true, Some, List, map, is_none, refl}
use Rattle.std.specs.List.{list_all}
use Rattle.zk_line.specs.declared.types.Decl.{Decl}
use Rattle.zk_line.specs.Objects.{AreNames}
use Rattle.zk_model_wait.specs.declared.clock.ClockOp.{ClockOp}
use Rattle.zk_model_wait.specs.declared.clock.ClockOp.TheVariants as ops
use Rattle.zk_model_wait.specs.declared.clock.ClockReply.{ClockReply}
use Rattle.zk_model_wait.specs.declared.clock.ClockReply.TheVariants as replies
use Rattle.zk_trace.specs.declared.clock.Verb.{Verb}
use Rattle.zk_trace.specs.declared.clock.Verb.TheVariants as verbs
use Rattle.zk_trace.specs.declared.parts.FixedWord.TheVariants.{Now, At}
use Rattle.zk_trace.specs.Clock.{verb_word, said_of, op_words, reply_words}
use Rattle.zk_trace.specs.ClockRead.{all_verbs, verb_of, op_behind, op_of, FitsOp, fixed_replies, open_reply, FitsOpen, reply_row, reply_of, AnswersTo}
use Rattle.zk_trace.specs.Exact.{IsPlain, IsExactRow, IsSpelled}
use Rattle.zk_trace.specs.Parts.{part_word, fixed_word}
use Rattle.zk_trace.proofs.Fields.{no_row}
use Rattle.zk_trace.proofs.NumberWords.{wide_exact, narrow_exact}
use Rattle.zk_trace.proofs.Sayings.{AreRead, SaysOp, one-there, one-says, one_behind, is_table, apart_by_reading, service_spelled}

verbs_are : (v : Verb) → (verb_of (verb_word v) ≡ Some v) × IsPlain (verb_word v)
verbs_are verbs.Announce = (refl, refl)
verbs_are verb = (refl, refl)

module _ (decls : List Decl) (are : AreNames decls) where
  -- the words of an operation behind its verb
  abbrev args : ClockOp → List (List ℕ)
  args op = map (part_word decls) (said_of op).1

  abbrev Says : Verb → List (List ℕ) → ClockOp → Type 0
  Says = SaysOp (λ op. (said_of op).0) args (FitsOp decls)

  there : (op : ClockOp) → FitsOp decls op → AreRead (op_behind decls (said_of op).0) (args op) op
  there (ops.Announce ticks) fits = one-there narrow_exact ops.Announce ticks fits
  there (ops.Alarm ticks) fits = one-there narrow_exact ops.Alarm ticks fits
  there (ops.AlarmEnd moment) fits = one-there wide_exact ops.AlarmEnd moment fits

  says : (v : Verb) (words : List (List ℕ)) (op : ClockOp) → op_behind decls v words ≡ Some op → Says v words op
  says verbs.Announce = one-says narrow_exact ops.Announce (Says verbs.Announce) (λ ticks fits. (refl, refl, fits))
  says verbs.Alarm = one-says narrow_exact ops.Alarm (Says verbs.Alarm) (λ ticks fits. (refl, refl, fits))
  says verbs.AlarmEnd = one-says wide_exact ops.AlarmEnd (Says verbs.AlarmEnd) (λ moment fits. (refl, refl, fits))

  a_now : (r : ClockReply) → FitsOpen decls verbs.Announce r → (time : ℕ) × (replies.Now time ≡ r) × (time < 2 ^ 64)
  a_now (replies.Now time) fits = (time, refl, fits)
  a_now r fits = absurd fits

  an_at : (r : ClockReply) → FitsOpen decls verbs.Alarm r → (moment : ℕ) × (replies.At moment ≡ r) × (moment < 2 ^ 64)
  an_at (replies.At moment) fits = (moment, refl, fits)
  an_at r fits = absurd fits

  others : (v : Verb) → IsExactRow (reply_row decls) (FitsOpen decls v) (open_reply decls v)
  others verbs.Announce =
      one_behind (fixed_word Now) (reply_words decls) (FitsOpen decls verbs.Announce) replies.Now refl (λ time. refl) (λ time fits. fits) a_now wide_exact
  others verbs.Alarm =
      one_behind (fixed_word At) (reply_words decls) (FitsOpen decls verbs.Alarm) replies.At refl (λ moment. refl) (λ moment fits. fits) an_at wide_exact
  others verbs.AlarmEnd = no_row (reply_row decls)

  table : (v : Verb) → is_table (reply_row decls) (fixed_replies v) ≡ true
  table verbs.Announce = refl
  table verb = refl

  unread : (v : Verb) → list_all (λ r. is_none (open_reply decls v (reply_row decls r))) (fixed_replies v) ≡ true
  unread verbs.Announce = refl
  unread verb = refl

  -- the operations and the replies of the clock are read exactly
  pub clock_spelled : IsSpelled (op_words decls) (reply_words decls) (FitsOp decls) (λ op r. AnswersTo decls (said_of op).0 r) (op_of decls) (λ op row. reply_of decls (said_of op).0 row)
  clock_spelled =
      service_spelled verb_word all_verbs (λ op. (said_of op).0) args (FitsOp decls) (op_behind decls) (reply_words decls) fixed_replies (FitsOpen decls) (open_reply decls) verbs_are there says
      table others (λ v. apart_by_reading (reply_row decls) (FitsOpen decls v) (open_reply decls v) (fixed_replies v) (others v) (unread v))

-- The operations and the replies of a channel are read exactly.
use Rattle.std.proofs.Common.{◌≡◌, ℕ, true, Some, List, map, is_none, refl}
use Rattle.std.specs.List.{list_all}
use Rattle.zk_line.specs.declared.types.Decl.{Decl}
use Rattle.zk_line.specs.Objects.{AreNames}
use Rattle.zk_model_bus.specs.declared.channel.ChanOp.{ChanOp}
use Rattle.zk_model_bus.specs.declared.channel.ChanOp.TheVariants as ops
use Rattle.zk_model_bus.specs.declared.channel.ChanReply.{ChanReply}
use Rattle.zk_model_bus.specs.declared.channel.ChanReply.TheVariants as replies
use Rattle.zk_trace.specs.declared.chan.Verb.{Verb}
use Rattle.zk_trace.specs.declared.chan.Verb.TheVariants as verbs
use Rattle.zk_trace.specs.Chan.{verb_word, said_of, op_words, reply_words}
use Rattle.zk_trace.specs.ChanRead.{all_verbs, verb_of, op_behind, op_of, FitsOp, fixed_replies, open_reply, IsTold, IsBytes, FitsOpen, reply_row, reply_of, AnswersTo}
use Rattle.zk_trace.specs.Exact.{IsPlain, IsExactRow, IsSpelled}
use Rattle.zk_trace.specs.Fields.{IsMessage, AreObservers}
use Rattle.zk_trace.specs.Parts.{part_word}
use Rattle.zk_trace.proofs.EntryRead.{IsWorded}
use Rattle.zk_trace.proofs.Fields.{as_row, made, no_row, waits_exact, state_exact, message_exact, observer_exact, observers_exact}
use Rattle.zk_trace.proofs.NumberWords.{wide_exact}
use Rattle.zk_trace.proofs.Sayings.{AreRead, SaysOp, bare-says, one-there, one-says, two-there, two-says, is_table, apart_by_reading, service_spelled}

verbs_are : (v : Verb) → (verb_of (verb_word v) ≡ Some v) × IsPlain (verb_word v)
verbs_are verbs.Offer = (refl, refl)
verbs_are verb = (refl, refl)

module _ (decls : List Decl) (are : AreNames decls) where
  -- the words of an operation behind its verb
  abbrev args : ChanOp → List (List ℕ)
  args op = map (part_word decls) (said_of op).1

  abbrev Says : Verb → List (List ℕ) → ChanOp → Type 0
  Says = SaysOp (λ op. (said_of op).0) args (FitsOp decls)

  there : (op : ChanOp) → FitsOp decls op → AreRead (op_behind decls (said_of op).0) (args op) op
  there (ops.Offer message waits) fits = two-there message_exact waits_exact ops.Offer message waits fits tt
  there (ops.Enter waits) fits = one-there waits_exact ops.Enter waits tt
  there (ops.Claim waits) fits = one-there waits_exact ops.Claim waits tt
  there (ops.ClaimEnd place) fits = one-there wide_exact ops.ClaimEnd place fits
  there (ops.ClaimQuit place) fits = one-there wide_exact ops.ClaimQuit place fits
  there (ops.Set message) fits = one-there message_exact ops.Set message fits
  there ops.List fits = (refl, tt)
  there ops.Get fits = (refl, tt)
  there ops.Free fits = (refl, tt)
  there ops.Finish fits = (refl, tt)
  there (ops.Mask observer on) fits = two-there (observer_exact decls are) state_exact ops.Mask observer on fits tt

  says : (v : Verb) (words : List (List ℕ)) (op : ChanOp) → op_behind decls v words ≡ Some op → Says v words op
  says verbs.Offer = two-says message_exact waits_exact ops.Offer (Says verbs.Offer) (λ message waits fits waits_fit. (refl, refl, fits))
  says verbs.Enter = one-says waits_exact ops.Enter (Says verbs.Enter) (λ waits fits. (refl, refl, tt))
  says verbs.Claim = one-says waits_exact ops.Claim (Says verbs.Claim) (λ waits fits. (refl, refl, tt))
  says verbs.ClaimEnd = one-says wide_exact ops.ClaimEnd (Says verbs.ClaimEnd) (λ place fits. (refl, refl, fits))
  says verbs.ClaimQuit = one-says wide_exact ops.ClaimQuit (Says verbs.ClaimQuit) (λ place fits. (refl, refl, fits))
  says verbs.Set = one-says message_exact ops.Set (Says verbs.Set) (λ message fits. (refl, refl, fits))
  says verbs.List = bare-says ops.List (Says verbs.List) (refl, refl, tt)
  says verbs.Get = bare-says ops.Get (Says verbs.Get) (refl, refl, tt)
  says verbs.Free = bare-says ops.Free (Says verbs.Free) (refl, refl, tt)
  says verbs.Finish = bare-says ops.Finish (Says verbs.Finish) (refl, refl, tt)
  says verbs.Mask = two-says (observer_exact decls are) state_exact ops.Mask (Says verbs.Mask) (λ observer on fits on_fits. (refl, refl, fits))

  table : (v : Verb) → is_table (reply_row decls) (fixed_replies v) ≡ true
  table verbs.Offer = refl
  table verb = refl

  a_list : (r : ChanReply) → IsTold decls r → (told : List ℕ) × (replies.Observers told ≡ r) × AreObservers decls told
  a_list (replies.Observers told) fits = (told, refl, fits)
  a_list r fits = absurd fits

  a_message : (r : ChanReply) → IsBytes r → (message : List ℕ) × (replies.Bytes message ≡ r) × IsMessage message
  a_message (replies.Bytes message) fits = (message, refl, fits)
  a_message r fits = absurd fits

  others : (v : Verb) → IsExactRow (reply_row decls) (FitsOpen decls v) (open_reply decls v)
  others verbs.Set = made (reply_row decls) (IsTold decls) replies.Observers (λ told. refl) (λ told fits. fits) a_list (observers_exact decls are)
  others verbs.List = made (reply_row decls) (IsTold decls) replies.Observers (λ told. refl) (λ told fits. fits) a_list (observers_exact decls are)
  others verbs.Get = made (reply_row decls) IsBytes replies.Bytes (λ message. refl) (λ message fits. fits) a_message (as_row message_exact)
  others verb = no_row (reply_row decls)

  unread : (v : Verb) → list_all (λ r. is_none (open_reply decls v (reply_row decls r))) (fixed_replies v) ≡ true
  unread verbs.Offer = refl
  unread verb = refl

  -- the operations and the replies of a channel are read exactly
  pub chan_spelled : IsSpelled (op_words decls) (reply_words decls) (FitsOp decls) (λ op r. AnswersTo decls (said_of op).0 r) (op_of decls) (λ op row. reply_of decls (said_of op).0 row)
  chan_spelled =
      service_spelled verb_word all_verbs (λ op. (said_of op).0) args (FitsOp decls) (op_behind decls) (reply_words decls) fixed_replies (FitsOpen decls) (open_reply decls) verbs_are there says
      table others (λ v. apart_by_reading (reply_row decls) (FitsOpen decls v) (open_reply decls v) (fixed_replies v) (others v) (unread v))

-- each reply has a word
pub chan_worded : (decls : List Decl) (r : ChanReply) → IsWorded (reply_words decls r)
chan_worded decls replies.Got = tt
chan_worded decls r = tt

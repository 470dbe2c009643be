-- The operations and the replies of an observer are read exactly: no channel has the name of another reply.
use Rattle.std.proofs.Common.{◌≡◌, ℕ, true, false, cond, Some, None, List, [], ◌∷◌, map, is_none, refl, ap}
use Rattle.std.specs.Prelude.{option_map, option_and_then}
use Rattle.std.specs.List.{list_all}
use Rattle.std.proofs.lemmas.Bool.{and_from}
use Rattle.zk_base.specs.Names.{is_name}
use Rattle.zk_line.specs.declared.types.Decl.{Decl}
use Rattle.zk_line.specs.Objects.{AreNames, is_at, is_chan}
use Rattle.zk_model_bus.specs.declared.observer.ObsOp.{ObsOp}
use Rattle.zk_model_bus.specs.declared.observer.ObsOp.TheVariants as ops
use Rattle.zk_model_bus.specs.declared.observer.ObsReply.{ObsReply}
use Rattle.zk_model_bus.specs.declared.observer.ObsReply.TheVariants as replies
use Rattle.zk_trace.specs.declared.obs.Verb.{Verb}
use Rattle.zk_trace.specs.declared.obs.Verb.TheVariants as verbs
use Rattle.zk_trace.specs.Exact.{IsPlain, IsExactRow, IsSpelled}
use Rattle.zk_trace.specs.Fields.{IsOf}
use Rattle.zk_trace.specs.Obs.{verb_word, said_of, op_words, reply_words}
use Rattle.zk_trace.specs.ObsRead.{all_verbs, verb_of, op_behind, op_of, FitsOp, fixed_replies, channel_reply, open_reply, IsChannel, FitsOpen, reply_row, reply_of, AnswersTo}
use Rattle.zk_trace.specs.Parts.{part_word}
use Rattle.zk_trace.proofs.EntryRead.{IsWorded}
use Rattle.zk_trace.proofs.Fields.{as_row, made, no_row, waits_exact, state_exact, chan_exact}
use Rattle.zk_trace.proofs.NameWords.{unnamed}
use Rattle.zk_trace.proofs.NumberWords.{wide_exact}
use Rattle.zk_trace.proofs.Sayings.{AreRead, SaysOp, one-there, one-says, is_table, apart_by_reading, service_spelled}

verbs_are : (v : Verb) → (verb_of (verb_word v) ≡ Some v) × IsPlain (verb_word v)
verbs_are verbs.Visit = (refl, refl)
verbs_are verb = (refl, refl)

module _ (decls : List Decl) (are : AreNames decls) where
  -- the words of an operation behind its verb
  abbrev args : ObsOp → List (List ℕ)
  args op = map (part_word decls) (said_of op).1

  abbrev Says : Verb → List (List ℕ) → ObsOp → Type 0
  Says = SaysOp (λ op. (said_of op).0) args (FitsOp decls)

  there : (op : ObsOp) → FitsOp decls op → AreRead (op_behind decls (said_of op).0) (args op) op
  there (ops.Visit channel) fits = one-there (chan_exact decls are) ops.Visit channel fits
  there (ops.Take waits) fits = one-there waits_exact ops.Take waits tt
  there (ops.TakeEnd place) fits = one-there wide_exact ops.TakeEnd place fits
  there (ops.TakeQuit place) fits = one-there wide_exact ops.TakeQuit place fits
  there (ops.Enable on) fits = one-there state_exact ops.Enable on tt

  says : (v : Verb) (words : List (List ℕ)) (op : ObsOp) → op_behind decls v words ≡ Some op → Says v words op
  says verbs.Visit = one-says (chan_exact decls are) ops.Visit (Says verbs.Visit) (λ channel fits. (refl, refl, fits))
  says verbs.Take = one-says waits_exact ops.Take (Says verbs.Take) (λ waits fits. (refl, refl, tt))
  says verbs.TakeEnd = one-says wide_exact ops.TakeEnd (Says verbs.TakeEnd) (λ place fits. (refl, refl, fits))
  says verbs.TakeQuit = one-says wide_exact ops.TakeQuit (Says verbs.TakeQuit) (λ place fits. (refl, refl, fits))
  says verbs.Enable = one-says state_exact ops.Enable (Says verbs.Enable) (λ on fits. (refl, refl, tt))

  table : (v : Verb) → is_table (reply_row decls) (fixed_replies v) ≡ true
  table verbs.Visit = refl
  table verb = refl

  a_channel : (r : ObsReply) → IsChannel decls r → (channel : ℕ) × (replies.Channel channel ≡ r) × IsOf is_chan decls channel
  a_channel (replies.Channel channel) fits = (channel, refl, fits)
  a_channel r fits = absurd fits

  channel_exact : IsExactRow (reply_row decls) (IsChannel decls) (channel_reply decls)
  channel_exact = made (reply_row decls) (IsChannel decls) replies.Channel (λ channel. refl) (λ channel fits. fits) a_channel (as_row (chan_exact decls are))

  others : (v : Verb) → IsExactRow (reply_row decls) (FitsOpen decls v) (open_reply decls v)
  others verbs.Take = channel_exact
  others verbs.TakeEnd = channel_exact
  others verbs.TakeQuit = channel_exact
  others verb = no_row (reply_row decls)

  -- what is no name is no channel's
  no_channel : (row : List ℕ) → is_name row ≡ false → is_none (channel_reply decls row) ≡ true
  no_channel row no_name =
      ap (λ o. is_none (option_map replies.Channel (option_and_then (λ object. cond (is_at is_chan decls object) (Some object) None) o))) (unnamed decls are row no_name)

  unread : (v : Verb) → list_all (λ r. is_none (open_reply decls v (reply_row decls r))) (fixed_replies v) ≡ true
  unread verbs.Visit = refl
  unread verbs.Take =
      let no_message = no_channel (reply_row decls replies.NoMsg) refl in
      let waits = no_channel (reply_row decls replies.Wait) refl in
      and_from (is_none (channel_reply decls (reply_row decls replies.NoMsg))) (list_all (λ r. is_none (channel_reply decls (reply_row decls r))) (replies.Wait ∷ []))
      no_message (and_from (is_none (channel_reply decls (reply_row decls replies.Wait))) true waits refl)
  unread verbs.TakeEnd = refl
  unread verbs.TakeQuit = and_from (is_none (channel_reply decls (reply_row decls replies.Again))) true (no_channel (reply_row decls replies.Again) refl) refl
  unread verbs.Enable = refl

  -- the operations and the replies of an observer are read exactly
  pub obs_spelled : IsSpelled (op_words decls) (reply_words decls) (FitsOp decls) (λ op r. AnswersTo decls (said_of op).0 r) (op_of decls) (λ op row. reply_of decls (said_of op).0 row)
  obs_spelled =
      service_spelled verb_word all_verbs (λ op. (said_of op).0) args (FitsOp decls) (op_behind decls) (reply_words decls) fixed_replies (FitsOpen decls) (open_reply decls) verbs_are there says
      table others (λ v. apart_by_reading (reply_row decls) (FitsOpen decls v) (open_reply decls v) (fixed_replies v) (others v) (unread v))

-- each reply has a word
pub obs_worded : (decls : List Decl) (r : ObsReply) → IsWorded (reply_words decls r)
obs_worded decls replies.Off = tt
obs_worded decls r = tt

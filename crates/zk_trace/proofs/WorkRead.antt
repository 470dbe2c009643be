-- The operations and the replies of the work service are read exactly.
use Rattle.std.proofs.Common.{◌≡◌, ℕ, ◌^◌, ◌<◌, true, false, not, eqb, Some, List, [], ◌∷◌, map, is_none, refl, ap, subst, ◌∙◌}
use Rattle.std.specs.Prelude.{option_map, option_and_then}
use Rattle.std.specs.Fmt.{decimal}
use Rattle.std.specs.List.{AllByRecursion, list_all}
use Rattle.std.proofs.lemmas.List.{append-nil}
use Rattle.std.proofs.lemmas.Option.{none-some, option_and_then_some}
use Rattle.zk_words.specs.Bytes.{space, line_feed, colon}
use Rattle.zk_words.specs.Pieces.{words_of}
use Rattle.zk_words.specs.Text.{line_text}
use Rattle.zk_line.specs.declared.types.Decl.{Decl}
use Rattle.zk_line.specs.Objects.{AreNames}
use Rattle.zk_line.proofs.Options.{one_part}
use Rattle.zk_model_work.specs.declared.ops.Submitted.{Submitted}
use Rattle.zk_model_work.specs.declared.ops.WorkOp.{WorkOp}
use Rattle.zk_model_work.specs.declared.ops.WorkOp.TheVariants as ops
use Rattle.zk_model_work.specs.declared.ops.WorkReply.{WorkReply}
use Rattle.zk_model_work.specs.declared.ops.WorkReply.TheVariants as replies
use Rattle.zk_trace.specs.declared.parts.FixedWord.TheVariants.{Wait, Now}
use Rattle.zk_trace.specs.declared.work.Verb.{Verb}
use Rattle.zk_trace.specs.declared.work.Verb.TheVariants as verbs
use Rattle.zk_trace.specs.Exact.{is_plain, IsPlain, Lacks, IsExactRow, IsSpelled}
use Rattle.zk_trace.specs.Fields.{two, each_of, said_behind, wide_of, admission_of, item_of}
use Rattle.zk_trace.specs.Parts.{part_word, fixed_word}
use Rattle.zk_trace.specs.Work.{verb_word, said_of, op_words, expiry_word, reply_words}
use Rattle.zk_trace.specs.WorkRead.{all_verbs, verb_of, op_behind, op_of, FitsOp, submitted_words, admitted_of, FitsAdmitted, expiry_of, now_of, fixed_replies, sub_of, number_of, open_reply, FitsSub, FitsNumber, FitsOpen, reply_row, reply_of, AnswersTo}
use Rattle.zk_trace.proofs.Fields.{as_row, made, no_row, each-again, each-spelled, behind-again, flags_exact, plug_exact, target_exact}
use Rattle.zk_trace.proofs.NameWords.{item_exact, queue_exact}
use Rattle.zk_trace.proofs.NumberWords.{wide_exact, narrow_exact, admission_exact}
use Rattle.zk_trace.proofs.PlainWords.{lacks_is, lacks_plain, lacks-join}
use Rattle.zk_trace.proofs.Sayings.{AreRead, SaysOp, one-there, one-says, two-there, two-says, three-there, three-says, behind-says, one_behind, row_exact, plain_row_exact, is_table, apart_by_reading, service_spelled}
use Rattle.zk_trace.proofs.Submissions.{admitted-there, admitted-says, expiry-again, expiry-says, expiries-lack}

verbs_are : (v : Verb) → (verb_of (verb_word v) ≡ Some v) × IsPlain (verb_word v)
verbs_are verbs.Submit = (refl, refl)
verbs_are verb = (refl, refl)

module _ (decls : List Decl) (are : AreNames decls) where
  -- the words of an operation behind its verb
  abbrev args : WorkOp → List (List ℕ)
  args op = map (part_word decls) (said_of op).1

  abbrev Says : Verb → List (List ℕ) → WorkOp → Type 0
  Says = SaysOp (λ op. (said_of op).0) args (FitsOp decls)

  there : (op : WorkOp) → FitsOp decls op → AreRead (op_behind decls (said_of op).0) (args op) op
  there (ops.Submit item queue) fits = two-there (item_exact decls are) (target_exact decls are) ops.Submit item queue fits.0 fits.1
  there (ops.Cancel item) fits = one-there (item_exact decls are) ops.Cancel item fits
  there (ops.CancelStart item) fits = one-there (item_exact decls are) ops.CancelStart item fits
  there (ops.CancelDone place) fits = one-there wide_exact ops.CancelDone place fits
  there (ops.FlushStart item) fits = one-there (item_exact decls are) ops.FlushStart item fits
  there (ops.FlushDone place) fits = one-there wide_exact ops.FlushDone place fits
  there (ops.Schedule item queue delay) fits =
      three-there (item_exact decls are) (queue_exact decls are) narrow_exact ops.Schedule item queue delay fits.0 fits.1 fits.2
  there (ops.Reschedule item queue delay) fits =
      three-there (item_exact decls are) (queue_exact decls are) narrow_exact ops.Reschedule item queue delay fits.0 fits.1 fits.2
  there (ops.Remaining item) fits = one-there (item_exact decls are) ops.Remaining item fits
  there (ops.Start queue) fits = one-there (queue_exact decls are) ops.Start queue fits
  there (ops.DrainStart queue plug) fits = two-there (queue_exact decls are) plug_exact ops.DrainStart queue plug fits tt
  there (ops.DrainDone place) fits = one-there wide_exact ops.DrainDone place fits
  there (ops.Unplug queue) fits = one-there (queue_exact decls are) ops.Unplug queue fits
  there (ops.Stop queue) fits = one-there (queue_exact decls are) ops.Stop queue fits
  there (ops.Announce ticks) fits = one-there narrow_exact ops.Announce ticks fits
  there (ops.Begin queue) fits = one-there (queue_exact decls are) ops.Begin queue fits
  there (ops.End queue) fits = one-there (queue_exact decls are) ops.End queue fits

  says : (v : Verb) (words : List (List ℕ)) (op : WorkOp) → op_behind decls v words ≡ Some op → Says v words op
  says verbs.Submit = two-says (item_exact decls are) (target_exact decls are) ops.Submit (Says verbs.Submit) (λ item queue one two. (refl, refl, (one, two)))
  says verbs.Cancel = one-says (item_exact decls are) ops.Cancel (Says verbs.Cancel) (λ item fits. (refl, refl, fits))
  says verbs.CancelStart = one-says (item_exact decls are) ops.CancelStart (Says verbs.CancelStart) (λ item fits. (refl, refl, fits))
  says verbs.CancelDone = one-says wide_exact ops.CancelDone (Says verbs.CancelDone) (λ place fits. (refl, refl, fits))
  says verbs.FlushStart = one-says (item_exact decls are) ops.FlushStart (Says verbs.FlushStart) (λ item fits. (refl, refl, fits))
  says verbs.FlushDone = one-says wide_exact ops.FlushDone (Says verbs.FlushDone) (λ place fits. (refl, refl, fits))
  says verbs.Schedule =
      three-says (item_exact decls are) (queue_exact decls are) narrow_exact ops.Schedule (Says verbs.Schedule)
      (λ item queue delay one two three. (refl, refl, (one, two, three)))
  says verbs.Reschedule =
      three-says (item_exact decls are) (queue_exact decls are) narrow_exact ops.Reschedule (Says verbs.Reschedule)
      (λ item queue delay one two three. (refl, refl, (one, two, three)))
  says verbs.Remaining = one-says (item_exact decls are) ops.Remaining (Says verbs.Remaining) (λ item fits. (refl, refl, fits))
  says verbs.Start = one-says (queue_exact decls are) ops.Start (Says verbs.Start) (λ queue fits. (refl, refl, fits))
  says verbs.DrainStart = two-says (queue_exact decls are) plug_exact ops.DrainStart (Says verbs.DrainStart) (λ queue plug fits any. (refl, refl, fits))
  says verbs.DrainDone = one-says wide_exact ops.DrainDone (Says verbs.DrainDone) (λ place fits. (refl, refl, fits))
  says verbs.Unplug = one-says (queue_exact decls are) ops.Unplug (Says verbs.Unplug) (λ queue fits. (refl, refl, fits))
  says verbs.Stop = one-says (queue_exact decls are) ops.Stop (Says verbs.Stop) (λ queue fits. (refl, refl, fits))
  says verbs.Announce = one-says narrow_exact ops.Announce (Says verbs.Announce) (λ ticks fits. (refl, refl, fits))
  says verbs.Begin = one-says (queue_exact decls are) ops.Begin (Says verbs.Begin) (λ queue fits. (refl, refl, fits))
  says verbs.End = one-says (queue_exact decls are) ops.End (Says verbs.End) (λ queue fits. (refl, refl, fits))

  -- Replies of one part.

  admitted_row : IsExactRow (λ s. line_text (submitted_words decls s)) (FitsAdmitted decls) (λ row. admitted_of decls (words_of row))
  admitted_row = plain_row_exact (submitted_words decls) (FitsAdmitted decls) (admitted_of decls) refl (admitted-there decls are) (admitted-says decls are)

  a_sub : (r : WorkReply) → FitsSub decls r → (s : Submitted) × (replies.Sub s ≡ r) × FitsAdmitted decls s
  a_sub (replies.Sub s) fits = (s, refl, fits)
  a_sub r fits = absurd fits

  sub_row : IsExactRow (reply_row decls) (FitsSub decls) (sub_of decls)
  sub_row = made (reply_row decls) (FitsSub decls) replies.Sub (λ s. ap line_text (append-nil (submitted_words decls s))) (λ s fits. fits) a_sub admitted_row

  a_number : (r : WorkReply) → FitsNumber r → (n : ℕ) × (replies.Number n ≡ r) × (n < 2 ^ 64)
  a_number (replies.Number n) fits = (n, refl, fits)
  a_number r fits = absurd fits

  number_row : IsExactRow (reply_row decls) FitsNumber number_of
  number_row = made (reply_row decls) FitsNumber replies.Number (λ n. refl) (λ n fits. fits) a_number (as_row wide_exact)

  some_flags : (r : WorkReply) → FitsOpen decls verbs.Cancel r → (f : ℕ) × (replies.Flags f ≡ r) × (f < 32)
  some_flags (replies.Flags f) fits = (f, refl, fits)
  some_flags r fits = absurd fits

  a_wait : (r : WorkReply) → FitsOpen decls verbs.FlushStart r → (a : ℕ) × (replies.WaitFor a ≡ r) × (a < 2 ^ 64)
  a_wait (replies.WaitFor a) fits = (a, refl, fits)
  a_wait r fits = absurd fits

  -- What a worker takes up.

  run-there : (r : WorkReply) → FitsOpen decls verbs.Begin r → AreRead (two replies.Run (item_of decls) admission_of) (reply_words decls r) r
  run-there (replies.Run item admission) fits = two-there (item_exact decls are) admission_exact replies.Run item admission fits.0 fits.1
  run-there r fits = absurd fits

  run-says : (words : List (List ℕ)) (r : WorkReply) → two replies.Run (item_of decls) admission_of words ≡ Some r → (words ≡ reply_words decls r) × FitsOpen decls verbs.Begin r
  run-says =
      two-says (item_exact decls are) admission_exact replies.Run (λ words r. (words ≡ reply_words decls r) × FitsOpen decls verbs.Begin r)
      (λ item admission one two. (refl, (one, two)))

  -- The time, and the delays that ended.

  abbrev Tells : List (List ℕ) → WorkReply → Type 0
  Tells words r = (words ≡ reply_words decls r) × FitsOpen decls verbs.Announce r

  now-again : (r : WorkReply) → FitsOpen decls verbs.Announce r → said_behind (fixed_word Now) (now_of decls) (reply_words decls r) ≡ Some r
  now-again (replies.Now time ended) fits =
      ap (option_and_then (now_of decls)) (behind-again (fixed_word Now) (decimal time ∷ map (expiry_word decls) ended))
      ∙ ap (option_and_then (λ t. option_map (λ es. replies.Now t es) (each_of (expiry_of decls) (map (expiry_word decls) ended)))) (wide_exact.again time fits.0)
      ∙ ap (option_map (λ es. replies.Now time es)) (each-again (expiry-again decls are) (expiry-says decls are) ended fits.1)
  now-again r fits = absurd fits

  now-says : (words : List (List ℕ)) (r : WorkReply) → now_of decls words ≡ Some r → Tells (fixed_word Now ∷ words) r
  now-says [] r said = absurd (none-some r said)
  now-says (time ∷ words) r said = option_and_then_some (λ t. option_map (λ es. replies.Now t es) (each_of (expiry_of decls) words)) (wide_of time) r said
      (λ t is more.
      let ended = one_part (λ es. replies.Now t es) (each_of (expiry_of decls) words) r more in
      let number = wide_exact.spelled time t is in
      let each = each-spelled (expiry-again decls are) (expiry-says decls are) words ended.0 ended.1 in
      subst (Tells (fixed_word Now ∷ time ∷ words)) ended.2
      (ap (λ w. fixed_word Now ∷ w ∷ words) number.0 ∙ ap (λ ws. fixed_word Now ∷ decimal t ∷ ws) each.0, (number.1, each.1)))

  now-lacks : (c : ℕ) → list_all (λ b. not (eqb b c)) (fixed_word Now) ≡ true → is_plain c ≡ false → eqb colon c ≡ false → (r : WorkReply) → FitsOpen decls verbs.Announce r → AllByRecursion (Lacks c) (reply_words decls r)
  now-lacks c none fails differ (replies.Now time ended) fits = (
    lacks_is c (fixed_word Now) none,
    (lacks_plain c fails (decimal time) (wide_exact.plain time fits.0), expiries-lack decls are c fails differ ended fits.1),
  )
  now-lacks c none fails differ r fits = absurd fits

  others : (v : Verb) → IsExactRow (reply_row decls) (FitsOpen decls v) (open_reply decls v)
  others verbs.Submit = sub_row
  others verbs.Cancel = made (reply_row decls) (FitsOpen decls verbs.Cancel) replies.Flags (λ f. refl) (λ f fits. fits) some_flags (as_row flags_exact)
  others verbs.FlushStart =
      one_behind (fixed_word Wait) (reply_words decls) (FitsOpen decls verbs.FlushStart) replies.WaitFor refl (λ a. refl) (λ a fits. fits) a_wait admission_exact
  others verbs.Schedule = sub_row
  others verbs.Reschedule = sub_row
  others verbs.Remaining = number_row
  others verbs.DrainStart = number_row
  others verbs.DrainDone = number_row
  others verbs.Announce =
      row_exact (reply_words decls) (FitsOpen decls verbs.Announce) (said_behind (fixed_word Now) (now_of decls)) refl now-again
      (behind-says (fixed_word Now) (now_of decls) Tells now-says) (now-lacks space refl refl refl)
      (λ r fits. lacks-join line_feed space refl (reply_words decls r) (now-lacks line_feed refl refl refl r fits))
  others verbs.Begin = plain_row_exact (reply_words decls) (FitsOpen decls verbs.Begin) (two replies.Run (item_of decls) admission_of) refl run-there run-says
  others verb = no_row (reply_row decls)

  table : (v : Verb) → is_table (reply_row decls) (fixed_replies v) ≡ true
  table verbs.Submit = refl
  table verb = refl

  unread : (v : Verb) → list_all (λ r. is_none (open_reply decls v (reply_row decls r))) (fixed_replies v) ≡ true
  unread verbs.Submit = refl
  unread verb = refl

  -- the operations and the replies of the work service are read exactly
  pub work_spelled : IsSpelled (op_words decls) (reply_words decls) (FitsOp decls) (λ op r. AnswersTo decls (said_of op).0 r) (op_of decls) (λ op row. reply_of decls (said_of op).0 row)
  work_spelled =
      service_spelled verb_word all_verbs (λ op. (said_of op).0) args (FitsOp decls) (op_behind decls) (reply_words decls) fixed_replies (FitsOpen decls) (open_reply decls) verbs_are there says
      table others (λ v. apart_by_reading (reply_row decls) (FitsOpen decls v) (open_reply decls v) (fixed_replies v) (others v) (unread v))

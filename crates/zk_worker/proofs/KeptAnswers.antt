-- Answered calls that are kept as rows, with their messages and positions apart, are what they were.
use Rattle.std.proofs.Common.{◌≡◌, ℕ, ◌+◌, ◌≤◌, ◌<◌, List, [], ◌∷◌, ◌++◌, length, map, All, refl, sym, ap, subst, ◌∙◌, arith}
use Rattle.std.proofs.lemmas.List.{map-append, length-append}
use Rattle.std.proofs.lemmas.List.Elements.{All-nil, All-cons, All-head, All-tail, All-append, All-weaker}
use Rattle.zk_words.specs.declared.word.Word.{Word}
use Rattle.zk_worker.specs.declared.answers.Answer.{Answer}
use Rattle.zk_worker.specs.declared.answers.Answer.TheVariants as answers
use Rattle.zk_worker.specs.declared.answers.Answered.{Answered}
use Rattle.zk_worker.specs.declared.answer_rows.AnswerRow.{AnswerRow}
use Rattle.zk_worker.specs.declared.answer_rows.Brief.{Brief}
use Rattle.zk_worker.specs.declared.answer_rows.Brief.TheVariants as briefs
use Rattle.zk_worker.specs.KeptAnswers.{message_of, positions_of, whole, told, brief_by, messages_in, ready_in, IsApart, AreKept}
use Rattle.zk_worker.proofs.Lists.{at-front, there-behind}

abbrev answered : ℕ → Word → Answer → Answered
answered step word answer = record { step = step; word = word; answer = answer }

module _ (messages more ready also : List (List ℕ)) where
  -- further messages and positions leave what a row answers
  whole-longer : (brief : Brief) → IsApart (length messages) (length ready) brief →
      whole (messages ++ more) (ready ++ also) brief ≡ whole messages ready brief
  whole-longer (briefs.Number number) there = refl
  whole-longer (briefs.Flags flags) there = refl
  whole-longer (briefs.Truth truth) there = refl
  whole-longer (briefs.Refused errno) there = refl
  whole-longer (briefs.Bytes place) there = ap message_of (at-front messages more place there)
  whole-longer (briefs.Signal raised result) there = refl
  whole-longer (briefs.Ready place) there = ap positions_of (at-front ready also place there)
  whole-longer (briefs.Channel object) there = refl
  whole-longer (briefs.Oops why) there = refl

  has-longer : (brief : Brief) → IsApart (length messages) (length ready) brief →
      IsApart (length (messages ++ more)) (length (ready ++ also)) brief
  has-longer (briefs.Number number) there = tt
  has-longer (briefs.Flags flags) there = tt
  has-longer (briefs.Truth truth) there = tt
  has-longer (briefs.Refused errno) there = tt
  has-longer (briefs.Bytes place) there = let long = length-append messages more in omega arith
  has-longer (briefs.Signal raised result) there = tt
  has-longer (briefs.Ready place) there = let long = length-append ready also in omega arith
  has-longer (briefs.Channel object) there = tt
  has-longer (briefs.Oops why) there = tt

  told-longer : (rows : List AnswerRow) → All (λ row. IsApart (length messages) (length ready) row.brief) rows →
      map (told (messages ++ more) (ready ++ also)) rows ≡ map (told messages ready) rows
  told-longer [] there = refl
  told-longer (row ∷ rows) there =
      let here = ap (answered row.step row.word)
      (whole-longer row.brief (All-head (λ (r : AnswerRow). IsApart (length messages) (length ready) r.brief) row rows there)) in
      let behind = told-longer rows (All-tail (λ (r : AnswerRow). IsApart (length messages) (length ready) r.brief) row rows there) in
      ap (λ (a : Answered). a ∷ map (told (messages ++ more) (ready ++ also)) rows) here ∙ ap (λ (rest : List Answered). told messages ready row ∷ rest) behind

-- an answer is what its row and what it has apart answer
whole-brief : (messages ready : List (List ℕ)) (answer : Answer) →
    whole (messages ++ messages_in answer) (ready ++ ready_in answer) (brief_by (length messages) (length ready) answer) ≡ answer
whole-brief messages ready (answers.Number number) = refl
whole-brief messages ready (answers.Flags flags) = refl
whole-brief messages ready (answers.Truth truth) = refl
whole-brief messages ready (answers.Refused errno) = refl
whole-brief messages ready (answers.Bytes message) = ap message_of (there-behind messages message)
whole-brief messages ready (answers.Signal raised result) = refl
whole-brief messages ready (answers.Ready positions) = ap positions_of (there-behind ready positions)
whole-brief messages ready (answers.Channel object) = refl
whole-brief messages ready (answers.Oops why) = refl

has-brief : (messages ready : List (List ℕ)) (answer : Answer) →
    IsApart (length (messages ++ messages_in answer)) (length (ready ++ ready_in answer)) (brief_by (length messages) (length ready) answer)
has-brief messages ready (answers.Number number) = tt
has-brief messages ready (answers.Flags flags) = tt
has-brief messages ready (answers.Truth truth) = tt
has-brief messages ready (answers.Refused errno) = tt
has-brief messages ready (answers.Bytes message) = let long = length-append messages (message ∷ []) in omega arith
has-brief messages ready (answers.Signal raised result) = tt
has-brief messages ready (answers.Ready positions) = let long = length-append ready (positions ∷ []) in omega arith
has-brief messages ready (answers.Channel object) = tt
has-brief messages ready (answers.Oops why) = tt

few-brief : (answer : Answer) → length (messages_in answer) + length (ready_in answer) ≤ 1
few-brief (answers.Number number) = omega arith
few-brief (answers.Flags flags) = omega arith
few-brief (answers.Truth truth) = omega arith
few-brief (answers.Refused errno) = omega arith
few-brief (answers.Bytes message) = omega arith
few-brief (answers.Signal raised result) = omega arith
few-brief (answers.Ready positions) = omega arith
few-brief (answers.Channel object) = omega arith
few-brief (answers.Oops why) = omega arith

module _ (messages ready : List (List ℕ)) (rows : List AnswerRow) (step : ℕ) (word : Word) (answer : Answer) (kept : AreKept messages ready rows) where
  abbrev pub row : AnswerRow
  row = record { step = step; word = word; brief = brief_by (length messages) (length ready) answer }

  -- with one answered call more
  pub kept-pushed : AreKept (messages ++ messages_in answer) (ready ++ ready_in answer) (rows ++ row ∷ [])
  kept-pushed =
      let P : AnswerRow → Type 0 = λ (r : AnswerRow). IsApart (length (messages ++ messages_in answer)) (length (ready ++ ready_in answer)) r.brief in
      let longer = length-append rows (row ∷ []) in
      let one = few-brief answer in
      record {
        there = All-append P rows (row ∷ [])
            (All-weaker (λ (r : AnswerRow). IsApart (length messages) (length ready) r.brief) P (λ r has. has-longer messages (messages_in answer) ready (ready_in answer) r.brief has) rows kept.there)
            (All-cons P row [] (has-brief messages ready answer) (All-nil P));
        few = let long = length-append messages (messages_in answer) in let few = kept.few in omega arith;
        few_ready = let long = length-append ready (ready_in answer) in let few = kept.few_ready in omega arith;
      }

  told-pushed : map (told (messages ++ messages_in answer) (ready ++ ready_in answer)) (rows ++ row ∷ [])
      ≡ map (told messages ready) rows ++ record { step = step; word = word; answer = answer } ∷ []
  told-pushed =
      let now : AnswerRow → Answered = told (messages ++ messages_in answer) (ready ++ ready_in answer) in
      let last = ap (answered step word) (whole-brief messages ready answer) in
      map-append now rows (row ∷ [])
      ∙ ap (λ (front : List Answered). front ++ now row ∷ []) (told-longer messages (messages_in answer) ready (ready_in answer) rows kept.there)
      ∙ ap (λ (a : Answered). map (told messages ready) rows ++ a ∷ []) last

  -- and where they came to lists that are these
  pub kept-now : (messages' ready' : List (List ℕ)) (rows' : List AnswerRow) → messages' ≡ messages ++ messages_in answer →
      ready' ≡ ready ++ ready_in answer → rows' ≡ rows ++ row ∷ [] → AreKept messages' ready' rows'
  kept-now messages' ready' rows' messages_are ready_are rows_are =
      subst (λ (ms : List (List ℕ)). AreKept ms ready' rows') (sym messages_are)
      (subst (λ (ps : List (List ℕ)). AreKept (messages ++ messages_in answer) ps rows') (sym ready_are)
      (subst (λ (rs : List AnswerRow). AreKept (messages ++ messages_in answer) (ready ++ ready_in answer) rs) (sym rows_are) kept-pushed))

  pub told-now : (messages' ready' : List (List ℕ)) (rows' : List AnswerRow) (before : List Answered) →
      messages' ≡ messages ++ messages_in answer → ready' ≡ ready ++ ready_in answer → rows' ≡ rows ++ row ∷ [] →
      map (told messages ready) rows ≡ before →
      map (told messages' ready') rows' ≡ before ++ record { step = step; word = word; answer = answer } ∷ []
  told-now messages' ready' rows' before messages_are ready_are rows_are view =
      ap (λ (ms : List (List ℕ)). map (told ms ready') rows') messages_are
      ∙ ap (λ (ps : List (List ℕ)). map (told (messages ++ messages_in answer) ps) rows') ready_are
      ∙ ap (λ (rs : List AnswerRow). map (told (messages ++ messages_in answer) (ready ++ ready_in answer)) rs) rows_are
      ∙ told-pushed
      ∙ ap (λ (front : List Answered). front ++ answered step word answer ∷ []) view

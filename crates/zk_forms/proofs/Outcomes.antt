-- What each way of a call comes to.
use Rattle.std.proofs.Common.{◌≡◌, ℕ, ◌+◌, ◌<◌, ◌⊎◌, Bool, true, false, cond, Option, Some, None, Ok, Err, List, [], ◌∷◌, Vec, Global, length, take, refl, sym, ap, ◌∙◌, subst, inl, inr, arith}
use Rattle.std.specs.Prelude.{Result, IfOk, IfSome, codes}
use Rattle.std.specs.Str.{bytes_eq}
use Rattle.zk_words.specs.Numbers.{number_in}
use Rattle.std.specs.Option.{option_map}
use Rattle.std.proofs.lemmas.Bool.{lt-ltb, cases_lt}
use Rattle.std.proofs.lemmas.Option.{same_Some, none-some}
use Rattle.std.proofs.lemmas.List.{take_all, length-take-le}
use Rattle.std.specs.Io.KnownBytes.{Appends, Keeps}
use Rattle.zk_base.specs.Causes.{Rose}
use Rattle.zk_base.specs.declared.errors.Status.{Status}
use Rattle.zk_base.specs.declared.errors.Status.TheVariants.{Success, Words, Refused, Stuck, Spent, ReadFault, WriteFault, NoMemory, Unlawful}
use Rattle.zk_scenario.specs.Content.{Content}
use Rattle.zk_scenario.specs.declared.refused.Why.TheVariants as why
use Rattle.zk_scenario.specs.declared.refused.ScenarioRefused.{ScenarioRefused}
use Rattle.zk_scenario.specs.declared.refused.ScenarioRefused.TheVariants as refusals
use Rattle.zk_scenario.specs.declared.limits.TheConstants.{LONGEST_SCENARIO}
use Rattle.zk_scenario.specs.Grammar.{scenario_of, read_pieces, pieces_of}
use Rattle.zk_trace.specs.declared.format.Format.TheVariants.{One}
use Rattle.zk_trace.specs.declared.format.Formats.{Formats}
use Rattle.zk_trace.specs.declared.format.Formats.TheVariants.{Both, First}
use Rattle.zk_trace.specs.declared.trace.Ending.{Ending}
use Rattle.zk_trace.specs.declared.trace.Ending.TheVariants as endings
use Rattle.zk_trace.specs.declared.trace.Trace.{Trace}
use Rattle.zk_trace.specs.Lawful.{IsLawful}
use Rattle.zk_replay.specs.Replay.{IsReplay}
use Rattle.zk_side.specs.Script.{script_of}
use Rattle.zk_trigger_script.specs.Output.{trigger_stage}
use Rattle.zk_event_script.specs.Output.{event_stage}
use Rattle.zk_forms.specs.declared.form.Form.{Form}
use Rattle.zk_forms.specs.declared.form.Form.TheVariants.{Replay, Check, Migrate, Trigger, Event, Soak, Run, Feed}
use Rattle.zk_forms.specs.declared.form.TheConstants.{LONGEST_TRACE, MOST_SOAK}
use Rattle.zk_forms.specs.Input.{HasRead, GaveAtMost}
use Rattle.zk_forms.specs.Output.{AppendsFront}
use Rattle.zk_base.specs.declared.errors.NoMemory.{NoMemory as Want}
use Rattle.zk_forms.specs.Answer.{IsPrinted, IsRun, IsRefusal, IsOutput, status_of}
use Rattle.zk_forms.specs.CheckAnswer.{IsRefusedSo, too_long, no_scenario, no_trace, IsCheckOutput, IsMigrateOutput}
use Rattle.zk_feed.specs.declared.size.FeedSize.{FeedSize}
use Rattle.zk_forms.specs.FeedAnswer.{IsFeedAnswer}
use Rattle.zk_forms.specs.SoakAnswer.{IsSoakOutput}
use Rattle.zk_forms.specs.Top.{form_of, limit_of, Reads, input_of, HasGiven, IsOutputOf, words_refused, Prints, PrintsFront, HasReadAll, IsAnswer, HasInput, MayRun, MayEnd, Answered, answered, cut_short, unmade, most_taken, CallOutcome, no_form, no_form_cut, unread, no_memory, printed, cut}
use Rattle.zk_forms.proofs.SideOutcomes.{side-front, IsAnswer-side}

-- what was not written to stays
pub Keeps-same : (held : Option (List ℕ)) → Keeps held held
Keeps-same None = tt
Keeps-same (Some xs) = refl

-- a text above the limit is refused for its length
scenario_of-long : (text : List ℕ) → LONGEST_SCENARIO < length text → scenario_of text ≡ Err (refusals.At 0 why.Length)
scenario_of-long text long = ap (λ b. cond b (Err (refusals.At 0 why.Length)) (read_pieces (pieces_of text))) (lt-ltb LONGEST_SCENARIO (length text) long)

-- a run is the answer of the status that its ending has
pub output-run : (Made : Content → Trace → Type 0) (ending : Ending) (input output : List ℕ) → IsRun Made ending input output → IsOutput Made (status_of ending) input output
output-run Made endings.Ended input output run = run
output-run Made endings.Stuck input output run = run
output-run Made endings.Spent input output run = run

-- and so is one that was printed
pub output-printed : (Made : Content → Trace → Type 0) (s : Content) (t : Trace) (input : List ℕ) (result : Result (Vec ℕ Global × Status) Want) → Made s t →
    IfOk result (λ made. made.1 ≡ status_of t.ending) → IfOk result (λ made. IsPrinted s t input made.0.items) → IfOk result (λ made. IsOutput Made made.1 input made.0.items)
output-printed Made s t input (Err e) made status prints = tt
output-printed Made s t input (Ok (output, which)) made status prints =
    subst (λ (x : Status). IsOutput Made x input output.items) (sym status)
    (output-run Made t.ending input output.items (record { scenario = s; trace = t; made = made; prints = prints; ends = refl }))

-- a status that has an output is one that prints
pub IsAnswer-output : (Made : Content → Trace → Type 0) (status : Status) (input output : List ℕ) → IsOutput Made status input output → IsAnswer status
IsAnswer-output Made Success input output is = tt
IsAnswer-output Made Stuck input output is = tt
IsAnswer-output Made Spent input output is = tt
IsAnswer-output Made Refused input output is = tt
IsAnswer-output Made Words input output is = absurd is
IsAnswer-output Made ReadFault input output is = absurd is
IsAnswer-output Made WriteFault input output is = absurd is
IsAnswer-output Made NoMemory input output is = absurd is
IsAnswer-output Made Unlawful input output is = absurd is

never_read : (Made : Content → Trace → Type 0) (e : ScenarioRefused) (ending : Ending) (input output : List ℕ) → scenario_of input ≡ Err e → IsRun Made ending input output → ⊥
never_read Made e ending input output refused run = let read = run.prints.read in absurd (cc)

long_output : (Made : Content → Trace → Type 0) (status : Status) (front input output : List ℕ) (e : ScenarioRefused) → scenario_of front ≡ Err e → scenario_of input ≡ Err e → IsOutput Made status front output → IsOutput Made status input output
long_output Made Success front input output e short long is = absurd (never_read Made e _ front output short is)
long_output Made Stuck front input output e short long is = absurd (never_read Made e _ front output short is)
long_output Made Spent front input output e short long is = absurd (never_read Made e _ front output short is)
long_output Made Refused front input output e short long is = subst (λ (r : Result Content ScenarioRefused). IsRefusal r output) (short ∙ sym long) is
long_output Made Words front input output e short long is = absurd is
long_output Made ReadFault front input output e short long is = absurd is
long_output Made WriteFault front input output e short long is = absurd is
long_output Made NoMemory front input output e short long is = absurd is
long_output Made Unlawful front input output e short long is = absurd is

-- one byte above the limit says as much of a scenario as all of it
run-front : (Made : Content → Trace → Type 0) (status : Status) (n : ℕ) (input output : List ℕ) → n ≡ LONGEST_SCENARIO + 1 → IsOutput Made status (take n input) output → IsOutput Made status input output
run-front Made status n input output is out = elim (cases_lt n (length input)) [
  | inr within ↦ subst (λ (i : List ℕ). IsOutput Made status i output) (take_all n input within) out
  | inl above ↦
      let sized = length-take-le n input (omega arith) in
      let long : LONGEST_SCENARIO < length input = omega arith in
      let front : LONGEST_SCENARIO < length (take n input) = omega arith in
      long_output Made status (take n input) input output (refusals.At 0 why.Length) (scenario_of-long (take n input) front) (scenario_of-long input long) out
]

-- and of the input of a check
too-long : (formats : Formats) (front input output : List ℕ) → LONGEST_TRACE < length front → LONGEST_TRACE < length input → IsRefusedSo formats front output → IsRefusedSo formats input output
too-long formats front input output long more (too_long above says) = too_long more says
too-long formats front input output long more (no_scenario f t within parts says) = absurd (omega (arith, long, within))
too-long formats front input output long more (no_trace f t s line within parts read refused says) = absurd (omega (arith, long, within))

long_check : (status : Status) (front input output : List ℕ) → LONGEST_TRACE < length front → LONGEST_TRACE < length input → IsCheckOutput status front output → IsCheckOutput status input output
long_check Success front input output long more is = absurd (omega (arith, long, is.given.short))
long_check Unlawful front input output long more is = absurd (omega (arith, long, is.given.short))
long_check Refused front input output long more is = record {
  never = λ f s t given. absurd (omega (arith, more, given.short));
  why_so = too-long Both front input output long more is.why_so;
}
long_check Stuck front input output long more is = absurd is
long_check Spent front input output long more is = absurd is
long_check Words front input output long more is = absurd is
long_check ReadFault front input output long more is = absurd is
long_check WriteFault front input output long more is = absurd is
long_check NoMemory front input output long more is = absurd is

check-front : (status : Status) (n : ℕ) (input output : List ℕ) → n ≡ LONGEST_TRACE + 1 → IsCheckOutput status (take n input) output → IsCheckOutput status input output
check-front status n input output is out = elim (cases_lt n (length input)) [
  | inr within ↦ subst (λ (i : List ℕ). IsCheckOutput status i output) (take_all n input within) out
  | inl above ↦
      let sized = length-take-le n input (omega arith) in
      long_check status (take n input) input output (omega arith) (omega arith) out
]

-- and of `migrate`
long_migrate : (status : Status) (front input output : List ℕ) → LONGEST_TRACE < length front → LONGEST_TRACE < length input → IsMigrateOutput status front output →
    IsMigrateOutput status input output
long_migrate Success front input output long more is = absurd (omega (arith, long, is.given.short))
long_migrate Refused front input output long more is = record {
  never = λ f s t given. absurd (omega (arith, more, given.short));
  why_so = too-long First front input output long more is.why_so;
}
long_migrate Unlawful front input output long more is = absurd is
long_migrate Stuck front input output long more is = absurd is
long_migrate Spent front input output long more is = absurd is
long_migrate Words front input output long more is = absurd is
long_migrate ReadFault front input output long more is = absurd is
long_migrate WriteFault front input output long more is = absurd is
long_migrate NoMemory front input output long more is = absurd is

migrate-front : (status : Status) (n : ℕ) (input output : List ℕ) → n ≡ LONGEST_TRACE + 1 → IsMigrateOutput status (take n input) output → IsMigrateOutput status input output
migrate-front status n input output is out = elim (cases_lt n (length input)) [
  | inr within ↦ subst (λ (i : List ℕ). IsMigrateOutput status i output) (take_all n input within) out
  | inl above ↦
      let sized = length-take-le n input (omega arith) in
      long_migrate status (take n input) input output (omega arith) (omega arith) out
]

IsOutput-front : (form : Form) → Reads form → (status : Status) (n : ℕ) (input output : List ℕ) → n ≡ limit_of form + 1 → IsOutputOf form status (take n input) output →
    IsOutputOf form status input output
IsOutput-front Replay reads status n input output is out = run-front IsReplay status n input output is out
IsOutput-front (Run cores) reads status n input output is out = run-front IsLawful status n input output is out
IsOutput-front Check reads status n input output is out = check-front status n input output is out
IsOutput-front Migrate reads status n input output is out = migrate-front status n input output is out
IsOutput-front Trigger reads status n input output is out = side-front trigger_stage status n input output is out
IsOutput-front Event reads status n input output is out = side-front event_stage status n input output is out
IsOutput-front (Soak number) reads status n input output is out = absurd reads
IsOutput-front (Feed size) reads status n input output is out = absurd reads

-- a status that has an output of a check is one that prints
IsAnswer-check : (status : Status) (input output : List ℕ) → IsCheckOutput status input output → IsAnswer status
IsAnswer-check Success input output is = tt
IsAnswer-check Unlawful input output is = tt
IsAnswer-check Refused input output is = tt
IsAnswer-check Stuck input output is = absurd is
IsAnswer-check Spent input output is = absurd is
IsAnswer-check Words input output is = absurd is
IsAnswer-check ReadFault input output is = absurd is
IsAnswer-check WriteFault input output is = absurd is
IsAnswer-check NoMemory input output is = absurd is

-- and of `migrate`
IsAnswer-migrate : (status : Status) (input output : List ℕ) → IsMigrateOutput status input output → IsAnswer status
IsAnswer-migrate Success input output is = tt
IsAnswer-migrate Refused input output is = tt
IsAnswer-migrate Unlawful input output is = absurd is
IsAnswer-migrate Stuck input output is = absurd is
IsAnswer-migrate Spent input output is = absurd is
IsAnswer-migrate Words input output is = absurd is
IsAnswer-migrate ReadFault input output is = absurd is
IsAnswer-migrate WriteFault input output is = absurd is
IsAnswer-migrate NoMemory input output is = absurd is

-- and so is one that has an output of a soak
IsAnswer-soak : (number : ℕ) (status : Status) (output : List ℕ) → IsSoakOutput number status output → IsAnswer status
IsAnswer-soak number Success output is = tt
IsAnswer-soak number Stuck output is = tt
IsAnswer-soak number Spent output is = tt
IsAnswer-soak number Refused output is = absurd is
IsAnswer-soak number Words output is = absurd is
IsAnswer-soak number ReadFault output is = absurd is
IsAnswer-soak number WriteFault output is = absurd is
IsAnswer-soak number NoMemory output is = absurd is
IsAnswer-soak number Unlawful output is = absurd is

-- and of a feed
IsAnswer-feed : (size : FeedSize) (status : Status) (output : List ℕ) → IsFeedAnswer size status output → IsAnswer status
IsAnswer-feed size Success output is = tt
IsAnswer-feed size Stuck output is = absurd is
IsAnswer-feed size Spent output is = absurd is
IsAnswer-feed size Refused output is = absurd is
IsAnswer-feed size Words output is = absurd is
IsAnswer-feed size ReadFault output is = absurd is
IsAnswer-feed size WriteFault output is = absurd is
IsAnswer-feed size NoMemory output is = absurd is
IsAnswer-feed size Unlawful output is = absurd is

IsAnswer-of : (form : Form) (status : Status) (input output : List ℕ) → IsOutputOf form status input output → IsAnswer status
IsAnswer-of Replay status input output is = IsAnswer-output IsReplay status input output is
IsAnswer-of (Run cores) status input output is = IsAnswer-output IsLawful status input output is
IsAnswer-of Check status input output is = IsAnswer-check status input output is
IsAnswer-of Migrate status input output is = IsAnswer-migrate status input output is
IsAnswer-of Trigger status input output is = IsAnswer-side trigger_stage (script_of trigger_stage.op_of input) output status is
IsAnswer-of Event status input output is = IsAnswer-side event_stage (script_of event_stage.op_of input) output status is
IsAnswer-of (Soak number) status input output is = IsAnswer-soak number status output is
IsAnswer-of (Feed size) status input output is = IsAnswer-feed size status output is

given : (many : ℕ) (left left' : Option (List ℕ)) (read : List ℕ) → HasRead many left left' read → HasGiven (many + 1) left left'
given many None left' read has = tt
given many (Some input) None read has = absurd has
given many (Some input) (Some rest) read has = ap Some has.1

HasReadAll-read : (form : Form) → Reads form → (left left' : Option (List ℕ)) (read : List ℕ) → HasRead (limit_of form) left left' read → HasReadAll form left left'
HasReadAll-read Replay reads left left' read has = given (limit_of Replay) left left' read has
HasReadAll-read Check reads left left' read has = given (limit_of Check) left left' read has
HasReadAll-read Migrate reads left left' read has = given (limit_of Migrate) left left' read has
HasReadAll-read Trigger reads left left' read has = given (limit_of Trigger) left left' read has
HasReadAll-read Event reads left left' read has = given (limit_of Event) left left' read has
HasReadAll-read (Run cores) reads left left' read has = given (limit_of (Run cores)) left left' read has
HasReadAll-read (Soak number) reads left left' read has = absurd reads
HasReadAll-read (Feed size) reads left left' read has = absurd reads

-- a form that reads has what is left as its input
input-left : (form : Form) → Reads form → (left : Option (List ℕ)) → input_of form left ≡ left
input-left Replay reads left = refl
input-left Check reads left = refl
input-left Migrate reads left = refl
input-left Trigger reads left = refl
input-left Event reads left = refl
input-left (Run cores) reads left = refl
input-left (Soak number) reads left = absurd reads
input-left (Feed size) reads left = absurd reads

Prints-read : (form : Form) → Reads form → (left left' old new : Option (List ℕ)) (read : List ℕ) (status : Status) (output : List ℕ) →
    HasRead (limit_of form) left left' read → IsOutputOf form status read output → Appends old new output → Prints left old new (IsOutputOf form status)
Prints-read form reads None left' old new read status output has is wrote = tt
Prints-read form reads (Some input) None old new read status output has is wrote = absurd has
Prints-read form reads (Some input) (Some rest) old new read status output has is wrote =
    (output, IsOutput-front form reads status (limit_of form + 1) input output refl (subst (λ (i : List ℕ). IsOutputOf form status i output) has.0 is), wrote)

PrintsFront-read : (form : Form) → Reads form → (left left' old new : Option (List ℕ)) (read : List ℕ) (status : Status) (output : List ℕ) →
    HasRead (limit_of form) left left' read → IsOutputOf form status read output → AppendsFront old new output →
    IfSome left (λ (input : List ℕ). (status : Status) × (output : List ℕ) × IsOutputOf form status input output × AppendsFront old new output)
PrintsFront-read form reads None left' old new read status output has is wrote = tt
PrintsFront-read form reads (Some input) None old new read status output has is wrote = absurd has
PrintsFront-read form reads (Some input) (Some rest) old new read status output has is wrote =
    (status, output, IsOutput-front form reads status (limit_of form + 1) input output refl (subst (λ (i : List ℕ). IsOutputOf form status i output) has.0 is), wrote)

-- an input that was read and answered
pub Went-answered : (wanted : Option Form) (left left' old new : Option (List ℕ)) (reads reads' writes writes' : ℕ) (status : Status) (form : Form) → Reads form → (read : List ℕ) →
    wanted ≡ Some form → HasRead (limit_of form) left left' read → Answered form read old new writes writes' status → CallOutcome wanted left left' old new reads reads' writes writes' status
Went-answered wanted left left' old new reads reads' writes writes' status form does read asked has (answered status' output is wrote) =
    printed form status' asked (IsAnswer-of form status' read output is) (HasReadAll-read form does left left' read has)
    (subst (λ (x : Option (List ℕ)). Prints x old new (IsOutputOf form status')) (sym (input-left form does left)) (Prints-read form does left left' old new read status' output has is wrote))
Went-answered wanted left left' old new reads reads' writes writes' status form does read asked has (cut_short status' output is wrote rose) =
    cut form asked (HasReadAll-read form does left left' read has)
    (subst (λ (x : Option (List ℕ)). IfSome x (λ (input : List ℕ). (s : Status) × (o : List ℕ) × IsOutputOf form s input o × AppendsFront old new o)) (sym (input-left form does left))
    (PrintsFront-read form does left left' old new read status' output has is wrote)) rose
Went-answered wanted left left' old new reads reads' writes writes' status form does read asked has (unmade keeps) = no_memory form asked keeps

-- a soak that was answered
pub Went-soaked : (wanted : Option Form) (left old new : Option (List ℕ)) (reads writes writes' : ℕ) (status : Status) (number : ℕ) (input : List ℕ) →
    wanted ≡ Some (Soak number) → Answered (Soak number) input old new writes writes' status → CallOutcome wanted left left old new reads reads writes writes' status
Went-soaked wanted left old new reads writes writes' status number input asked (answered status' output is wrote) =
    printed (Soak number) status' asked (IsAnswer-soak number status' output is) refl (output, is, wrote)
Went-soaked wanted left old new reads writes writes' status number input asked (cut_short status' output is wrote rose) =
    cut (Soak number) asked refl (status', output, is, wrote) rose
Went-soaked wanted left old new reads writes writes' status number input asked (unmade keeps) = no_memory (Soak number) asked keeps

-- a feed that was answered
pub Went-fed : (wanted : Option Form) (left old new : Option (List ℕ)) (reads writes writes' : ℕ) (status : Status) (size : FeedSize) (input : List ℕ) →
    wanted ≡ Some (Feed size) → Answered (Feed size) input old new writes writes' status → CallOutcome wanted left left old new reads reads writes writes' status
Went-fed wanted left old new reads writes writes' status size input asked (answered status' output is wrote) =
    printed (Feed size) status' asked (IsAnswer-feed size status' output is) refl (output, is, wrote)
Went-fed wanted left old new reads writes writes' status size input asked (cut_short status' output is wrote rose) =
    cut (Feed size) asked refl (status', output, is, wrote) rose
Went-fed wanted left old new reads writes writes' status size input asked (unmade keeps) = no_memory (Feed size) asked keeps

-- words that are no form
pub Went-refused : (wanted : Option Form) (left left' old new : Option (List ℕ)) (reads reads' writes writes' : ℕ) (status : Status) →
    wanted ≡ None → ((status ≡ Words) × Appends old new words_refused) ⊎ ((status ≡ WriteFault) × AppendsFront old new words_refused × Rose writes writes') → CallOutcome wanted left left' old new reads reads' writes writes' status
Went-refused wanted left left' old new reads reads' writes writes' status other refused =
    let W : Status → Type 0 = λ s. CallOutcome wanted left left' old new reads reads' writes writes' s in
    elim refused [ inl all ↦ subst W (sym all.0) (no_form other all.1) | inr short ↦ subst W (sym short.0) (no_form_cut other short.1 short.2) ]

-- a call that asked for this form went so
pub Went-for : (wanted given : Option Form) (left left' old new : Option (List ℕ)) (reads reads' writes writes' : ℕ) (status : Status) →
    wanted ≡ given → CallOutcome given left left' old new reads reads' writes writes' status → CallOutcome wanted left left' old new reads reads' writes writes' status
Went-for wanted given left left' old new reads reads' writes writes' status same went =
    subst (λ (w : Option Form). CallOutcome w left left' old new reads reads' writes writes' status) (sym same) went

-- and took so much
pub taken-for : (wanted given : Option Form) (left left' : Option (List ℕ)) → wanted ≡ given → GaveAtMost (most_taken given) left left' → GaveAtMost (most_taken wanted) left left'
taken-for wanted given left left' same gave = subst (λ (w : Option Form). GaveAtMost (most_taken w) left left') (sym same) gave

-- where nothing is read nothing is taken
pub taken-none : (most : ℕ) (left : Option (List ℕ)) → GaveAtMost most left left
taken-none most None = ([], omega arith, tt)
taken-none most (Some input) = ([], omega arith, refl)

-- no words of a form on one thread ask for cores
pub never-cores : (words : List (List ℕ)) (cores : ℕ) → form_of words ≡ Some (Run cores) → ⊥
never-cores [] cores is = absurd (cc)
never-cores (word ∷ []) cores is =
    by (bytes_eq word (codes "replay")) (bytes_eq word (codes "check")) (bytes_eq word (codes "migrate")) (bytes_eq word (codes "trigger"))
    (bytes_eq word (codes "event")) is
  where
    by : (a b c d e : Bool) → cond a (Some Replay) (cond b (Some Check) (cond c (Some Migrate) (cond d (Some Trigger) (cond e (Some Event) None)))) ≡ Some (Run cores) → ⊥
    by true b c d e is = absurd (cc)
    by false true c d e is = absurd (cc)
    by false false true d e is = absurd (cc)
    by false false false true e is = absurd (cc)
    by false false false false true is = absurd (cc)
    by false false false false false is = absurd (cc)
never-cores (word ∷ number ∷ []) cores is = by (bytes_eq word (codes "soak")) (number_in 0 MOST_SOAK number) is
  where
    by : (a : Bool) (o : Option ℕ) → cond a (option_map Soak o) None ≡ Some (Run cores) → ⊥
    by true None is = absurd (cc)
    by true (Some n) is = absurd (cc)
    by false o is = absurd (cc)
never-cores (word ∷ number ∷ other ∷ words) cores is = absurd (cc)

-- the words ask for one form
one-form : {a b : Form} (asked : Option Form) → asked ≡ Some a → asked ≡ Some b → a ≡ b
one-form {a} {b} asked one other = same_Some a b (sym one ∙ other)

no-form : {a : Form} (asked : Option Form) → asked ≡ None → asked ≡ Some a → ⊥
no-form {a} asked none some = none-some a (sym none ∙ some)

module _ (wanted : Option Form) (left left' old new : Option (List ℕ)) (reads reads' writes writes' : ℕ) where
  abbrev Went : Status → Type 0
  Went status = CallOutcome wanted left left' old new reads reads' writes writes' status

  -- a status that prints goes with its output
  pub Went-prints : (form : Form) (status which : Status) → Went status → wanted ≡ Some form → IsAnswer which → status ≡ which →
      Prints (input_of form left) old new (IsOutputOf form which)
  Went-prints form status which (no_form other wrote) asked is same = absurd (no-form (wanted) other asked)
  Went-prints form status which (no_form_cut other front rose) asked is same = absurd (no-form (wanted) other asked)
  Went-prints form status which (unread f does asked' rose keeps) asked is same = absurd (subst IsAnswer (sym same) is)
  Went-prints form status which (no_memory f asked' keeps) asked is same = absurd (subst IsAnswer (sym same) is)
  Went-prints form status which (printed f said asked' is' all prints) asked is same =
      subst (λ (s : Status). Prints (input_of form left) old new (IsOutputOf form s)) same
      (subst (λ (f : Form). Prints (input_of f left) old new (IsOutputOf f said)) (one-form (wanted) asked' asked) prints)
  Went-prints form status which (cut f asked' all prints rose) asked is same = absurd (subst IsAnswer (sym same) is)

  -- status 1 comes only for words that are no form, and says so
  pub Went-words : (status : Status) → Went status → status ≡ Words → (wanted ≡ None) × Appends old new words_refused
  Went-words status (no_form other wrote) same = (other, wrote)
  Went-words status (no_form_cut other front rose) same = absurd (cc)
  Went-words status (unread f does asked rose keeps) same = absurd (cc)
  Went-words status (no_memory f asked keeps) same = absurd (cc)
  Went-words status (printed f said asked is all prints) same = absurd (subst IsAnswer same is)
  Went-words status (cut f asked all prints rose) same = absurd (cc)

  -- words that are no form are told so, unless the sink fails
  pub Went-no_form : (status : Status) → Went status → wanted ≡ None → (status ≡ Words) ⊎ (status ≡ WriteFault)
  Went-no_form status (no_form other wrote) not = inl refl
  Went-no_form status (no_form_cut other front rose) not = inr refl
  Went-no_form status (unread f does asked rose keeps) not = absurd (no-form (wanted) not asked)
  Went-no_form status (no_memory f asked keeps) not = absurd (no-form (wanted) not asked)
  Went-no_form status (printed f said asked is all prints) not = absurd (no-form (wanted) not asked)
  Went-no_form status (cut f asked all prints rose) not = inr refl

  -- a fault of reading comes only where the count of the source rose
  pub Went-read_fault : (status : Status) → Went status → status ≡ ReadFault → Rose reads reads'
  Went-read_fault status (no_form other wrote) same = absurd (cc)
  Went-read_fault status (no_form_cut other front rose) same = absurd (cc)
  Went-read_fault status (unread f does asked rose keeps) same = rose
  Went-read_fault status (no_memory f asked keeps) same = absurd (cc)
  Went-read_fault status (printed f said asked is all prints) same = absurd (subst IsAnswer same is)
  Went-read_fault status (cut f asked all prints rose) same = absurd (cc)

  -- a fault of writing comes only where the count of the sink rose
  pub Went-write_fault : (status : Status) → Went status → status ≡ WriteFault → Rose writes writes'
  Went-write_fault status (no_form other wrote) same = absurd (cc)
  Went-write_fault status (no_form_cut other front rose) same = rose
  Went-write_fault status (unread f does asked rose keeps) same = absurd (cc)
  Went-write_fault status (no_memory f asked keeps) same = absurd (cc)
  Went-write_fault status (printed f said asked is all prints) same = absurd (subst IsAnswer same is)
  Went-write_fault status (cut f asked all prints rose) same = rose

  -- nothing is written where nothing was read, and where there was no memory
  pub Went-nothing : (status : Status) → Went status → (status ≡ ReadFault) ⊎ (status ≡ NoMemory) → Keeps old new
  Went-nothing status (no_form other wrote) which = elim which [ inl same ↦ absurd (cc) | inr same ↦ absurd (cc) ]
  Went-nothing status (no_form_cut other front rose) which = elim which [ inl same ↦ absurd (cc) | inr same ↦ absurd (cc) ]
  Went-nothing status (unread f does asked rose keeps) which = keeps
  Went-nothing status (no_memory f asked keeps) which = keeps
  Went-nothing status (printed f said asked is all prints) which = elim which [ inl same ↦ absurd (subst IsAnswer same is) | inr same ↦ absurd (subst IsAnswer same is) ]
  Went-nothing status (cut f asked all prints rose) which = elim which [ inl same ↦ absurd (cc) | inr same ↦ absurd (cc) ]

  -- after a fault of writing the sink has a front of the output
  pub Went-front : (form : Form) (status : Status) → Went status → wanted ≡ Some form → status ≡ WriteFault → PrintsFront form left old new
  Went-front form status (no_form other wrote) asked same = absurd (cc)
  Went-front form status (no_form_cut other front rose) asked same = absurd (no-form (wanted) other asked)
  Went-front form status (unread f does asked' rose keeps) asked same = absurd (cc)
  Went-front form status (no_memory f asked' keeps) asked same = absurd (cc)
  Went-front form status (printed f said asked' is all prints) asked same = absurd (subst IsAnswer same is)
  Went-front form status (cut f asked' all prints rose) asked same = subst (λ (f : Form). PrintsFront f left old new) (one-form (wanted) asked' asked) prints

  -- and of the line that refuses the words, where they are no form
  pub Went-words_front : (status : Status) → Went status → wanted ≡ None → status ≡ WriteFault → AppendsFront old new words_refused
  Went-words_front status (no_form other wrote) not same = absurd (cc)
  Went-words_front status (no_form_cut other front rose) not same = front
  Went-words_front status (unread f does asked rose keeps) not same = absurd (cc)
  Went-words_front status (no_memory f asked keeps) not same = absurd (cc)
  Went-words_front status (printed f said asked is all prints) not same = absurd (no-form (wanted) not asked)
  Went-words_front status (cut f asked all prints rose) not same = absurd (no-form (wanted) not asked)

  -- the input was read where its output was written
  pub Went-read : (form : Form) (status : Status) → Went status → wanted ≡ Some form → HasInput status → HasReadAll form left left'
  Went-read form status (no_form other wrote) asked has = absurd has
  Went-read form status (no_form_cut other front rose) asked has = absurd (no-form (wanted) other asked)
  Went-read form status (unread f does asked' rose keeps) asked has = absurd has
  Went-read form status (no_memory f asked' keeps) asked has = absurd has
  Went-read form status (printed f said asked' is all prints) asked has = subst (λ (f : Form). HasReadAll f left left') (one-form (wanted) asked' asked) all
  Went-read form status (cut f asked' all prints rose) asked has = subst (λ (f : Form). HasReadAll f left left') (one-form (wanted) asked' asked) all

-- Which statuses can come for an input.

MayRun-ok : (said : Result Content ScenarioRefused) (s : Content) (status : Status) → said ≡ Ok s → MayRun (Ok s) status → MayRun said status
MayRun-ok said s status is may = subst (λ (r : Result Content ScenarioRefused). MayRun r status) (sym is) may

MayRun-refused : (said : Result Content ScenarioRefused) (output : List ℕ) → IsRefusal said output → MayRun said Refused
MayRun-refused (Ok s) output is = absurd is
MayRun-refused (Err e) output is = tt

MayRun-output : (Made : Content → Trace → Type 0) (status : Status) (input output : List ℕ) → IsOutput Made status input output → MayRun (scenario_of input) status
MayRun-output Made Success input output is = MayRun-ok (scenario_of input) is.scenario Success is.prints.read tt
MayRun-output Made Stuck input output is = MayRun-ok (scenario_of input) is.scenario Stuck is.prints.read tt
MayRun-output Made Spent input output is = MayRun-ok (scenario_of input) is.scenario Spent is.prints.read tt
MayRun-output Made Refused input output is = MayRun-refused (scenario_of input) output is
MayRun-output Made Words input output is = absurd is
MayRun-output Made ReadFault input output is = absurd is
MayRun-output Made WriteFault input output is = absurd is
MayRun-output Made NoMemory input output is = absurd is
MayRun-output Made Unlawful input output is = absurd is

MayEnd-output : (form : Form) (status : Status) (input output : List ℕ) → IsOutputOf form status input output → MayEnd form input status
MayEnd-output Replay Success input output is = MayRun-output IsReplay Success input output is
MayEnd-output Replay Stuck input output is = MayRun-output IsReplay Stuck input output is
MayEnd-output Replay Spent input output is = MayRun-output IsReplay Spent input output is
MayEnd-output Replay Refused input output is = MayRun-output IsReplay Refused input output is
MayEnd-output Replay Unlawful input output is = MayRun-output IsReplay Unlawful input output is
MayEnd-output Replay Words input output is = MayRun-output IsReplay Words input output is
MayEnd-output Replay ReadFault input output is = absurd is
MayEnd-output Replay WriteFault input output is = absurd is
MayEnd-output Replay NoMemory input output is = absurd is
MayEnd-output (Run cores) Success input output is = MayRun-output IsLawful Success input output is
MayEnd-output (Run cores) Stuck input output is = MayRun-output IsLawful Stuck input output is
MayEnd-output (Run cores) Spent input output is = MayRun-output IsLawful Spent input output is
MayEnd-output (Run cores) Refused input output is = MayRun-output IsLawful Refused input output is
MayEnd-output (Run cores) Unlawful input output is = MayRun-output IsLawful Unlawful input output is
MayEnd-output (Run cores) Words input output is = MayRun-output IsLawful Words input output is
MayEnd-output (Run cores) ReadFault input output is = absurd is
MayEnd-output (Run cores) WriteFault input output is = absurd is
MayEnd-output (Run cores) NoMemory input output is = absurd is
MayEnd-output Check Success input output is = (is.f, is.s, is.t, is.given)
MayEnd-output Check Unlawful input output is = (is.f, is.s, is.t, is.given)
MayEnd-output Check Refused input output is = λ trace. is.never trace.0 trace.1 trace.2 trace.3
MayEnd-output Check Stuck input output is = absurd is
MayEnd-output Check Spent input output is = absurd is
MayEnd-output Check Words input output is = absurd is
MayEnd-output Check ReadFault input output is = absurd is
MayEnd-output Check WriteFault input output is = absurd is
MayEnd-output Check NoMemory input output is = absurd is
MayEnd-output Migrate Success input output is = (One, is.s, is.t, is.given)
MayEnd-output Migrate Refused input output is = λ trace. is.never trace.0 trace.1 trace.2 trace.3
MayEnd-output Migrate Unlawful input output is = absurd is
MayEnd-output Migrate Stuck input output is = absurd is
MayEnd-output Migrate Spent input output is = absurd is
MayEnd-output Migrate Words input output is = absurd is
MayEnd-output Migrate ReadFault input output is = absurd is
MayEnd-output Migrate WriteFault input output is = absurd is
MayEnd-output Migrate NoMemory input output is = absurd is
MayEnd-output Trigger Success input output is = ap (λ (p : List ℕ × Status). p.1) is
MayEnd-output Trigger Refused input output is = ap (λ (p : List ℕ × Status). p.1) is
MayEnd-output Trigger Unlawful input output is = ap (λ (p : List ℕ × Status). p.1) is
MayEnd-output Trigger Stuck input output is = ap (λ (p : List ℕ × Status). p.1) is
MayEnd-output Trigger Spent input output is = ap (λ (p : List ℕ × Status). p.1) is
MayEnd-output Trigger Words input output is = ap (λ (p : List ℕ × Status). p.1) is
MayEnd-output Trigger ReadFault input output is = tt
MayEnd-output Trigger WriteFault input output is = tt
MayEnd-output Trigger NoMemory input output is = tt
MayEnd-output Event Success input output is = ap (λ (p : List ℕ × Status). p.1) is
MayEnd-output Event Refused input output is = ap (λ (p : List ℕ × Status). p.1) is
MayEnd-output Event Unlawful input output is = ap (λ (p : List ℕ × Status). p.1) is
MayEnd-output Event Stuck input output is = ap (λ (p : List ℕ × Status). p.1) is
MayEnd-output Event Spent input output is = ap (λ (p : List ℕ × Status). p.1) is
MayEnd-output Event Words input output is = ap (λ (p : List ℕ × Status). p.1) is
MayEnd-output Event ReadFault input output is = tt
MayEnd-output Event WriteFault input output is = tt
MayEnd-output Event NoMemory input output is = tt
MayEnd-output (Soak number) Success input output is = tt
MayEnd-output (Soak number) Stuck input output is = tt
MayEnd-output (Soak number) Spent input output is = tt
MayEnd-output (Soak number) Refused input output is = absurd is
MayEnd-output (Soak number) Words input output is = absurd is
MayEnd-output (Soak number) ReadFault input output is = absurd is
MayEnd-output (Soak number) WriteFault input output is = absurd is
MayEnd-output (Soak number) NoMemory input output is = absurd is
MayEnd-output (Soak number) Unlawful input output is = absurd is
MayEnd-output (Feed size) Success input output is = tt
MayEnd-output (Feed size) Stuck input output is = absurd is
MayEnd-output (Feed size) Spent input output is = absurd is
MayEnd-output (Feed size) Refused input output is = absurd is
MayEnd-output (Feed size) Words input output is = absurd is
MayEnd-output (Feed size) ReadFault input output is = absurd is
MayEnd-output (Feed size) WriteFault input output is = absurd is
MayEnd-output (Feed size) NoMemory input output is = absurd is
MayEnd-output (Feed size) Unlawful input output is = absurd is

MayEnd-always : (form : Form) (status : Status) → ((input : List ℕ) → MayEnd form input status) → (left : Option (List ℕ)) → IfSome left (λ input. MayEnd form input status)
MayEnd-always form status may None = tt
MayEnd-always form status may (Some input) = may input

MayEnd-prints : (form : Form) (status : Status) (left old new : Option (List ℕ)) → Prints left old new (IsOutputOf form status) → IfSome left (λ input. MayEnd form input status)
MayEnd-prints form status None old new prints = tt
MayEnd-prints form status (Some input) old new prints = MayEnd-output form status input prints.0 prints.1

may-unread : (form : Form) → Reads form → (input : List ℕ) → MayEnd form input ReadFault
may-unread Replay does input = tt
may-unread Check does input = tt
may-unread Migrate does input = tt
may-unread Trigger does input = tt
may-unread Event does input = tt
may-unread (Run cores) does input = tt
may-unread (Soak number) does input = absurd does
may-unread (Feed size) does input = absurd does

may-want : (form : Form) (input : List ℕ) → MayEnd form input NoMemory
may-want Replay input = tt
may-want Check input = tt
may-want Migrate input = tt
may-want Trigger input = tt
may-want Event input = tt
may-want (Run cores) input = tt
may-want (Soak number) input = tt
may-want (Feed size) input = tt

may-cut : (form : Form) (input : List ℕ) → MayEnd form input WriteFault
may-cut Replay input = tt
may-cut Check input = tt
may-cut Migrate input = tt
may-cut Trigger input = tt
may-cut Event input = tt
may-cut (Run cores) input = tt
may-cut (Soak number) input = tt
may-cut (Feed size) input = tt

pub Went-complete : (wanted : Option Form) (left left' old new : Option (List ℕ)) (reads reads' writes writes' : ℕ) (form : Form) (status : Status) →
    CallOutcome wanted left left' old new reads reads' writes writes' status → wanted ≡ Some form → IfSome (input_of form left) (λ input. MayEnd form input status)
Went-complete wanted left left' old new reads reads' writes writes' form status (no_form other wrote) asked = absurd (no-form (wanted) other asked)
Went-complete wanted left left' old new reads reads' writes writes' form status (no_form_cut other front rose) asked = absurd (no-form (wanted) other asked)
Went-complete wanted left left' old new reads reads' writes writes' form status (unread f does asked' rose keeps) asked =
    MayEnd-always form ReadFault (may-unread form (subst Reads (one-form (wanted) asked' asked) does)) (input_of form left)
Went-complete wanted left left' old new reads reads' writes writes' form status (no_memory f asked' keeps) asked = MayEnd-always form NoMemory (may-want form) (input_of form left)
Went-complete wanted left left' old new reads reads' writes writes' form status (printed f said asked' is all prints) asked =
    subst (λ (f : Form). IfSome (input_of f left) (λ input. MayEnd f input said)) (one-form (wanted) asked' asked) (MayEnd-prints f said (input_of f left) old new prints)
Went-complete wanted left left' old new reads reads' writes writes' form status (cut f asked' all prints rose) asked = MayEnd-always form WriteFault (may-cut form) (input_of form left)

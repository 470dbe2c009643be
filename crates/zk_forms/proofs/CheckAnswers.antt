-- What the answers of a check come to.
use Rattle.std.proofs.Common.{◌≡◌, ℕ, ◌+◌, ◌<◌, ◌≤◌, Ok, Err, List, ◌++◌, length, length-append, eqb, arith, refl, sym, ap, subst, ◌∙◌}
use Rattle.std.specs.Prelude.{Result, ◌↔◌}
use Rattle.std.proofs.lemmas.Bool.{false≢true}
use Rattle.std.proofs.lemmas.List.Sums.{count_by-le-length}
use Rattle.zk_base.specs.declared.errors.Status.{Status}
use Rattle.zk_words.specs.Bytes.{line_feed}
use Rattle.zk_scenario.specs.Content.{Content}
use Rattle.zk_scenario.specs.declared.refused.ScenarioRefused.{ScenarioRefused}
use Rattle.zk_scenario.specs.declared.refused.Why.TheVariants as why
use Rattle.zk_scenario.specs.Grammar.{scenario_of}
use Rattle.zk_scenario.specs.Spelling.{text_of}
use Rattle.zk_trace.specs.declared.format.Format.{Format}
use Rattle.zk_trace.specs.declared.format.Format.TheVariants.{One, Two}
use Rattle.zk_trace.specs.declared.format.Formats.{Formats}
use Rattle.zk_trace.specs.declared.format.Formats.TheVariants.{Both, First}
use Rattle.zk_trace.specs.declared.trace.Ending.{Ending}
use Rattle.zk_trace.specs.declared.trace.Ending.TheVariants as endings
use Rattle.zk_trace.specs.declared.trace.Trace.{Trace}
use Rattle.zk_trace.specs.Feeds.{lines_in}
use Rattle.zk_trace.specs.Form.{IsInForm}
use Rattle.zk_trace.specs.Lawful.{IsLawful}
use Rattle.zk_trace.specs.Parting.{AreParts}
use Rattle.zk_trace.specs.Text.{trace_text}
use Rattle.zk_trace.specs.TraceRead.{IsReadIn, IsWritten, HasText, IsRefusedAt}
use Rattle.zk_trace.proofs.Feeds.{lines-count}
use Rattle.zk_trace.proofs.ShortText.{short-told}
use Rattle.zk_trace.proofs.TraceParts.{one-parting, run-parts}
use Rattle.zk_trace.proofs.TraceRead.{one_trace}
use Rattle.zk_scenario.proofs.ReadIsValid.{IsValid-read}
use Rattle.zk_check.specs.declared.verdict.Checked.{Checked}
use Rattle.zk_check.specs.declared.verdict.Checked.TheVariants.{Lawful, Not}
use Rattle.zk_check.specs.Checking.{IfNot, IsNamed}
use Rattle.zk_forms.specs.declared.form.TheConstants.{LONGEST_TRACE}
use Rattle.zk_forms.specs.Answer.{IsRefusal, status_of}
use Rattle.zk_forms.specs.CheckAnswer.{IsTraceOf, IsTraceRefusal, too_long, no_scenario, no_trace, trace_refused, unlawful_text, IsCheckOutput, Says}
use Rattle.zk_forms.specs.Refusal.{refusal_text}
use Rattle.zk_forms.specs.SoakAnswer.{IsSoak, IsSoakOutput}

same-scenario : {s t : Content} {said : Result Content ScenarioRefused} → said ≡ Ok s → said ≡ Ok t → s ≡ t
same-scenario one other = let both = sym one ∙ other in cc

-- what was read of the two parts is of the whole
pub trace-of : (formats : Formats) (f : Format) (s : Content) (t : Trace) (front trace : List ℕ) → scenario_of front ≡ Ok s → front ≡ text_of s → IsWritten formats s f t →
    trace ≡ trace_text f s t → length (front ++ trace) ≤ LONGEST_TRACE → IsTraceOf formats f (front ++ trace) s t
trace-of formats f s t front trace read spelled written same short = record {
  scenario = subst (λ (x : List ℕ). scenario_of x ≡ Ok s) spelled read;
  read = written.read;
  form = written.form;
  text = ap (λ x. x ++ trace) spelled ∙ ap (λ l. text_of s ++ l) same;
  short = short;
}

-- where format 1 alone is read it is in that one
first-is : (s : Content) (f : Format) → IsReadIn First s f → f ≡ One
first-is s One read = refl
first-is s Two read = absurd (false≢true read)

-- what was read of the two parts, in format 1, is of the whole
pub old-trace : (s : Content) (t : Trace) (front trace : List ℕ) → scenario_of front ≡ Ok s → front ≡ text_of s → HasText First s t trace →
    length (front ++ trace) ≤ LONGEST_TRACE → IsTraceOf First One (front ++ trace) s t
old-trace s t front trace read spelled has short =
    subst (λ (f : Format). IsTraceOf First f (front ++ trace) s t) (first-is s has.0 has.1.read) (trace-of First has.0 s t front trace read spelled has.1 has.2 short)

-- what is said of a check is its output
pub said-output : (input : List ℕ) (f : Format) (s : Content) (t : Trace) → IsTraceOf Both f input s t → (checked : Checked) → ((checked ≡ Lawful) ↔ IsLawful s t) → IfNot checked (IsNamed s t) →
    (status : Status) (output : List ℕ) → Says checked status output → IsCheckOutput status input output
said-output input f s t given Lawful exact named status output says =
    subst (λ (x : Status). IsCheckOutput x input output) (sym says.0) (record { f = f; s = s; t = t; given = given; lawful = exact.0 refl; printed = says.1 })
said-output input f s t given (Not line fail) exact named status output says =
    subst (λ (x : Status). IsCheckOutput x input output) (sym says.0) (record {
      f = f;
      s = s;
      t = t;
      given = given;
      unlawful = λ lawful. let isnt = exact.1 lawful in absurd (cc);
      fail = fail;
      site = named.site;
      failure = named.failure;
      printed = says.1 ∙ ap (λ (n : ℕ). unlawful_text n fail) named.at;
    })

-- a whole whose parts are known is of no other scenario and trace
one-run : (formats : Formats) (f : Format) (front trace : List ℕ) → AreParts (front ++ trace) front trace → (s : Content) (t : Trace) → IsTraceOf formats f (front ++ trace) s t →
    (front ≡ text_of s) × (trace ≡ trace_text f s t)
one-run formats f front trace parts s t given =
    one-parting (front ++ trace) front trace (text_of s) (trace_text f s t) parts
    (subst (λ (x : List ℕ). AreParts x (text_of s) (trace_text f s t)) (sym given.text) (run-parts f s t given.scenario))

-- the trace part of an input isn't longer than it
written : (formats : Formats) (f : Format) (input : List ℕ) (s : Content) (t : Trace) → IsTraceOf formats f input s t → IsWritten formats s f t
written formats f input s t given = record {
  read = given.read;
  form = given.form;
  told = short-told f s t given.form (omega (arith, given.short, ap length given.text, length-append (text_of s) (trace_text f s t)));
}

-- an input is of one scenario and one trace, in one format
pub one-meaning : (input : List ℕ) (f g : Format) (s other : Content) (t another : Trace) → IsTraceOf Both f input s t → IsTraceOf Both g input other another →
    (f ≡ g) × (s ≡ other) × (t ≡ another)
one-meaning input f g s other t another one two =
    let parts = run-parts f s t one.scenario in
    let same = one-run Both g (text_of s) (trace_text f s t) parts other another
    (subst (λ (i : List ℕ). IsTraceOf Both g i other another) one.text two) in
    let which : s ≡ other = same-scenario one.scenario (ap scenario_of same.0 ∙ two.scenario) in
    let is : IsWritten Both s g another = subst (λ (x : Content). IsWritten Both x g another) (sym which) (written Both g input other another two) in
    let text : trace_text f s t ≡ trace_text g s another = same.1 ∙ ap (λ (x : Content). trace_text g x another) (sym which) in
    let both = one_trace Both s (IsValid-read (text_of s) s one.scenario).named f g t another (written Both f input s t one) is text in
    (ap (λ (w : Format × Trace). w.0) both, which, ap (λ (w : Format × Trace). w.1) both)

-- a trace part that was refused
pub trace-refused : (formats : Formats) (front trace output : List ℕ) (s : Content) (line : ℕ) → scenario_of front ≡ Ok s → AreParts (front ++ trace) front trace →
    length (front ++ trace) ≤ LONGEST_TRACE → ((f : Format) (t : Trace) → IsReadIn formats s f → IsInForm s t → trace ≡ trace_text f s t → ⊥) →
    IsRefusedAt formats s trace (1 + length (lines_in front)) line → output ≡ trace_refused line → IsTraceRefusal formats (front ++ trace) output
trace-refused formats front trace output s line read parts short none refused says = record {
  never = λ f other t given.
      let same = one-run formats f front trace parts other t given in
      let one : s ≡ other = same-scenario read (ap scenario_of same.0 ∙ given.scenario) in
      none f t (subst (λ (x : Content). IsReadIn formats x f) (sym one) given.read) (subst (λ (x : Content). IsInForm x t) (sym one) given.form)
      (same.1 ∙ ap (λ (x : Content). trace_text f x t) (sym one));
  why_so = no_trace front trace s line short parts read refused says;
}

-- a scenario's text that was refused
pub scenario-refused : (formats : Formats) (front trace output : List ℕ) (e : ScenarioRefused) → scenario_of front ≡ Err e → AreParts (front ++ trace) front trace →
    length (front ++ trace) ≤ LONGEST_TRACE → IsRefusal (scenario_of front) output → IsTraceRefusal formats (front ++ trace) output
scenario-refused formats front trace output e read parts short says = record {
  never = λ f s t given.
      let same = one-run formats f front trace parts s t given in
      let good = ap scenario_of same.0 ∙ given.scenario in
      let both = sym read ∙ good in
      absurd (cc);
  why_so = no_scenario front trace short parts says;
}

-- an input above the limit
pub length-refused : (formats : Formats) (input output : List ℕ) → LONGEST_TRACE < length input → output ≡ refusal_text 0 why.Length → IsTraceRefusal formats input output
length-refused formats input output long says = record {
  never = λ f s t given. absurd (omega (arith, long, given.short));
  why_so = too_long long says;
}

-- how many lines a part of an input has
pub lines-few : (front trace : List ℕ) → length (front ++ trace) ≤ LONGEST_TRACE → length (lines_in front) ≤ LONGEST_TRACE
lines-few front trace short =
    omega (arith, lines-count front, count_by-le-length (λ b. eqb b line_feed) front, length-append front trace, short)

-- a soak is the answer of the status that its ending has
pub soak-output : (ending : Ending) (number : ℕ) (output : List ℕ) → IsSoak ending number output → IsSoakOutput number (status_of ending) output
soak-output endings.Ended number output soak = soak
soak-output endings.Stuck number output soak = soak
soak-output endings.Spent number output soak = soak

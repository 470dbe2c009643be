-- What each way of a call comes to.
use Rattle.std.proofs.Common.{◌≡◌, ◌≢◌, ℕ, ◌+◌, ◌<◌, ◌⊎◌, Option, Some, None, List, length, take, refl, sym, subst, ◌∙◌, true, false, inl, inr, arith}
use Rattle.std.proofs.lemmas.Bool.{cases_lt}
use Rattle.std.proofs.lemmas.List.{take_all, length-take-le}
use Rattle.std.specs.Io.KnownBytes.{Appends, Keeps}
use Rattle.zk_base.specs.Causes.{Rose}
use Rattle.zk_base.specs.declared.errors.Status.{Status}
use Rattle.zk_base.specs.declared.errors.Status.TheVariants.{Success, Words, Refused, Stuck, Spent, ReadFault, WriteFault, NoMemory, Unlawful}
use Rattle.zk_scenario.specs.Content.{Content}
use Rattle.zk_trace.specs.declared.format.Format.{Format}
use Rattle.zk_trace.specs.declared.trace.Trace.{Trace}
use Rattle.zk_forms.specs.declared.form.TheConstants.{LONGEST_TRACE}
use Rattle.zk_forms.specs.Input.{HasRead}
use Rattle.zk_forms.specs.Output.{AppendsFront}
use Rattle.zk_forms.specs.Top.{Prints}
use Rattle.zk_show_view.specs.declared.view.View.{View}
use Rattle.zk_show_view.specs.Shown.{IsRunOf, traced, played, IsToldWhy, too_long, no_scenario, no_trace, IsShown, IsSaid, MayCome, PrintsFront, Shows, shown, cut_short, unmade, Went, printed, cut, unread, no_memory, ShowsTo, shows_out, shows_err, WentTo, went_out, went_err, PrintsFrontTo, IsTold, is_refused}

-- what was not written to stays
pub keeps-same : (held : Option (List ℕ)) → Keeps held held
keeps-same None = tt
keeps-same (Some xs) = refl

-- a status with an output is one of those that come with one
said : (view : View) (status : Status) (input output : List ℕ) → IsShown view status input output → IsSaid status
said view Success input output is = tt
said view Refused input output is = tt
said view Words input output is = absurd is
said view Stuck input output is = absurd is
said view Spent input output is = absurd is
said view ReadFault input output is = absurd is
said view WriteFault input output is = absurd is
said view NoMemory input output is = absurd is
said view Unlawful input output is = tt

-- an input above the limit has no run
pub never-long : (front : List ℕ) (f : Format) (s : Content) (t : Trace) → LONGEST_TRACE < length front → IsRunOf front s t f → ⊥
never-long front f s t long (traced g given) = absurd (omega (arith, long, given.short))
never-long front f s t long (played short read run) = absurd (omega (arith, long, short))

told-long : (front input output : List ℕ) → LONGEST_TRACE < length front → LONGEST_TRACE < length input → IsToldWhy front output → IsToldWhy input output
told-long front input output long more (too_long above says) = too_long more says
told-long front input output long more (no_scenario f t line why within parts read says) = absurd (omega (arith, long, within))
told-long front input output long more (no_trace f t s line within parts behind read refused says) = absurd (omega (arith, long, within))

shown-long : (view : View) (status : Status) (front input output : List ℕ) → LONGEST_TRACE < length front → LONGEST_TRACE < length input → IsShown view status front output →
    IsShown view status input output
shown-long view Success front input output long more is = absurd (never-long front is.f is.s is.t long is.run)
shown-long view Refused front input output long more is = record {
  never = λ f s t run. never-long input f s t more run;
  why_so = told-long front input output long more is.why_so;
}
shown-long view Words front input output long more is = absurd is
shown-long view Stuck front input output long more is = absurd is
shown-long view Spent front input output long more is = absurd is
shown-long view ReadFault front input output long more is = absurd is
shown-long view WriteFault front input output long more is = absurd is
shown-long view NoMemory front input output long more is = absurd is
shown-long view Unlawful front input output long more is = absurd (never-long front is.f is.s is.t long is.run)

-- one byte above the limit says as much of an input as all of it
shown-front : (view : View) (status : Status) (n : ℕ) (input output : List ℕ) → n ≡ LONGEST_TRACE + 1 → IsShown view status (take n input) output → IsShown view status input output
shown-front view status n input output is out = elim (cases_lt n (length input)) [
  | inr within ↦ subst (λ (i : List ℕ). IsShown view status i output) (take_all n input within) out
  | inl above ↦
      let sized = length-take-le n input (omega arith) in
      shown-long view status (take n input) input output (omega arith) (omega arith) out
]

-- no status of a fault comes with an output
never-fault : (view : View) (status : Status) (input output : List ℕ) → IsShown view status input output → status ≡ WriteFault → ⊥
never-fault view status input output is same = subst (λ (s : Status). IsShown view s input output) same is

-- an output that was made was written, or its front was
pub written : (view : View) (input : List ℕ) (old new : Option (List ℕ)) (faults faults' : ℕ) (output : List ℕ) (status result : Status) → IsShown view status input output →
    (result ≢ WriteFault → (result ≡ status) × Appends old new output) → AppendsFront old new output → (result ≡ WriteFault → (status ≡ WriteFault) ⊎ Rose faults faults') →
    Shows view input old new faults faults' result
written view input old new faults faults' output status result is whole front fault = by result refl
  where
    all : result ≢ WriteFault → Shows view input old new faults faults' result
    all other =
        let did = whole other in
        subst (λ (s : Status). Shows view input old new faults faults' s) (sym did.0) (shown status output is did.1)

    cut_off : result ≡ WriteFault → Shows view input old new faults faults' result
    cut_off same = elim (fault same) [
      | inl its ↦ absurd (never-fault view status input output is its)
      | inr rose ↦ subst (λ (s : Status). Shows view input old new faults faults' s) (sym same) (cut_short status output is front rose)
    ]

    by : (r : Status) → result ≡ r → Shows view input old new faults faults' result
    by WriteFault same = cut_off same
    by Success same = all (λ also. absurd (cc))
    by Words same = all (λ also. absurd (cc))
    by Refused same = all (λ also. absurd (cc))
    by Stuck same = all (λ also. absurd (cc))
    by Spent same = all (λ also. absurd (cc))
    by ReadFault same = all (λ also. absurd (cc))
    by NoMemory same = all (λ also. absurd (cc))
    by Unlawful same = all (λ also. absurd (cc))

module _ (view : View) (left left' old new : Option (List ℕ)) (reads reads' writes writes' : ℕ) where
  W : Status → Type 0
  W status = Went view left old new reads reads' writes writes' status

  all-printed : (left left' : Option (List ℕ)) (read output : List ℕ) (status : Status) → HasRead LONGEST_TRACE left left' read → IsShown view status read output → Appends old new output →
      Prints left old new (IsShown view status)
  all-printed None left' read output status has is wrote = tt
  all-printed (Some input) None read output status has is wrote = absurd has
  all-printed (Some input) (Some rest) read output status has is wrote =
      (output, shown-front view status (LONGEST_TRACE + 1) input output refl (subst (λ (i : List ℕ). IsShown view status i output) has.0 is), wrote)

  front-printed : (left left' : Option (List ℕ)) (read output : List ℕ) (status : Status) → HasRead LONGEST_TRACE left left' read → IsShown view status read output → AppendsFront old new output →
      PrintsFront view left old new
  front-printed None left' read output status has is wrote = tt
  front-printed (Some input) None read output status has is wrote = absurd has
  front-printed (Some input) (Some rest) read output status has is wrote =
      (status, output, shown-front view status (LONGEST_TRACE + 1) input output refl (subst (λ (i : List ℕ). IsShown view status i output) has.0 is), wrote)

  -- an input that was read and shown
  pub went-shows : (read : List ℕ) (status : Status) → HasRead LONGEST_TRACE left left' read → Shows view read old new writes writes' status → Went view left old new reads reads' writes writes' status
  went-shows read status has (shown status' output is wrote) = printed status' (said view status' read output is) (all-printed left left' read output status' has is wrote)
  went-shows read status has (cut_short status' output is wrote rose) = cut (front-printed left left' read output status' has is wrote) rose
  went-shows read status has (unmade keeps) = no_memory keeps

-- what a call that went so says of its status
module _ (view : View) (left old new : Option (List ℕ)) (reads reads' writes writes' : ℕ) where
  pub went-prints : (status wanted : Status) → Went view left old new reads reads' writes writes' status → status ≡ wanted → IsSaid wanted → Prints left old new (IsShown view wanted)
  went-prints status wanted (printed status' is prints) same says = subst (λ (s : Status). Prints left old new (IsShown view s)) same prints
  went-prints status wanted (cut front rose) same says = absurd (subst IsSaid (sym same) says)
  went-prints status wanted (unread rose keeps) same says = absurd (subst IsSaid (sym same) says)
  went-prints status wanted (no_memory keeps) same says = absurd (subst IsSaid (sym same) says)

  pub went-comes : (status : Status) → Went view left old new reads reads' writes writes' status → MayCome status
  went-comes status (printed status' is prints) = comes status' is
    where
      comes : (s : Status) → IsSaid s → MayCome s
      comes Success is = tt
      comes Refused is = tt
      comes Words is = tt
      comes Stuck is = absurd is
      comes Spent is = absurd is
      comes ReadFault is = tt
      comes WriteFault is = tt
      comes NoMemory is = tt
      comes Unlawful is = tt
  went-comes status (cut front rose) = tt
  went-comes status (unread rose keeps) = tt
  went-comes status (no_memory keeps) = tt

  pub went-words : (status : Status) → Went view left old new reads reads' writes writes' status → status ≡ Words → ⊥
  went-words status (printed status' is prints) same = absurd (subst IsSaid same is)
  went-words status (cut front rose) same = absurd (cc)
  went-words status (unread rose keeps) same = absurd (cc)
  went-words status (no_memory keeps) same = absurd (cc)

  pub went-read_fault : (status : Status) → Went view left old new reads reads' writes writes' status → status ≡ ReadFault → Rose reads reads'
  went-read_fault status (printed status' is prints) same = absurd (subst IsSaid same is)
  went-read_fault status (cut front rose) same = absurd (cc)
  went-read_fault status (unread rose keeps) same = rose
  went-read_fault status (no_memory keeps) same = absurd (cc)

  pub went-write_fault : (status : Status) → Went view left old new reads reads' writes writes' status → status ≡ WriteFault → Rose writes writes'
  went-write_fault status (printed status' is prints) same = absurd (subst IsSaid same is)
  went-write_fault status (cut front rose) same = rose
  went-write_fault status (unread rose keeps) same = absurd (cc)
  went-write_fault status (no_memory keeps) same = absurd (cc)

  pub went-front : (status : Status) → Went view left old new reads reads' writes writes' status → status ≡ WriteFault → PrintsFront view left old new
  went-front status (printed status' is prints) same = absurd (subst IsSaid same is)
  went-front status (cut front rose) same = front
  went-front status (unread rose keeps) same = absurd (cc)
  went-front status (no_memory keeps) same = absurd (cc)

  pub went-nothing : (status : Status) → Went view left old new reads reads' writes writes' status → (status ≡ ReadFault) ⊎ (status ≡ NoMemory) → Keeps old new
  went-nothing status (printed status' is prints) which = elim which [ inl same ↦ absurd (subst IsSaid same is) | inr same ↦ absurd (subst IsSaid same is) ]
  went-nothing status (cut front rose) which = elim which [ inl same ↦ absurd (cc) | inr same ↦ absurd (cc) ]
  went-nothing status (unread rose keeps) which = keeps
  went-nothing status (no_memory keeps) which = keeps

-- what is refused is told on the second sink
pub refused-told : (status result : Status) → status ≡ Refused → (result ≢ WriteFault → result ≡ status) → IsTold result
refused-told status WriteFault same whole = tt
refused-told status Refused same whole = tt
refused-told status Success same whole = let both = whole (λ also. absurd (cc)) ∙ same in absurd (cc)
refused-told status Words same whole = let both = whole (λ also. absurd (cc)) ∙ same in absurd (cc)
refused-told status Stuck same whole = let both = whole (λ also. absurd (cc)) ∙ same in absurd (cc)
refused-told status Spent same whole = let both = whole (λ also. absurd (cc)) ∙ same in absurd (cc)
refused-told status ReadFault same whole = let both = whole (λ also. absurd (cc)) ∙ same in absurd (cc)
refused-told status NoMemory same whole = let both = whole (λ also. absurd (cc)) ∙ same in absurd (cc)
refused-told status Unlawful same whole = let both = whole (λ also. absurd (cc)) ∙ same in absurd (cc)

-- and what isn't refused isn't
pub other-result : (status result : Status) → (status ≡ Refused → ⊥) → (result ≢ WriteFault → result ≡ status) → result ≡ Refused → ⊥
other-result status result other whole same =
    let given : result ≡ status = whole (λ also. let both = sym also ∙ same in absurd (cc)) in other (sym given ∙ same)

-- by the test
pub refused-is : (status : Status) → is_refused status ≡ true → status ≡ Refused
refused-is Success test = absurd (cc)
refused-is Words test = absurd (cc)
refused-is Refused test = refl
refused-is Stuck test = absurd (cc)
refused-is Spent test = absurd (cc)
refused-is ReadFault test = absurd (cc)
refused-is WriteFault test = absurd (cc)
refused-is NoMemory test = absurd (cc)
refused-is Unlawful test = absurd (cc)

pub refused-not : (status : Status) → is_refused status ≡ false → status ≡ Refused → ⊥
refused-not Success test same = absurd (cc)
refused-not Words test same = absurd (cc)
refused-not Refused test same = absurd (cc)
refused-not Stuck test same = absurd (cc)
refused-not Spent test same = absurd (cc)
refused-not ReadFault test same = absurd (cc)
refused-not WriteFault test same = absurd (cc)
refused-not NoMemory test same = absurd (cc)
refused-not Unlawful test same = absurd (cc)

-- the same of both sinks
module _ (view : View) (left left' old new told told' : Option (List ℕ)) (reads reads' writes writes' tells tells' : ℕ) where
  pub went-shows-to : (read : List ℕ) (status : Status) → HasRead LONGEST_TRACE left left' read →
      ShowsTo view read old new told told' writes writes' tells tells' status →
      WentTo view left old new told told' reads reads' writes writes' tells tells' status
  went-shows-to read status has (shows_out shows other same kept) =
      went_out (went-shows view left left' old new reads reads' writes writes' read status has shows) other same kept
  went-shows-to read status has (shows_err shows is same kept) =
      went_err (went-shows view left left' told told' reads reads' tells tells' read status has shows) is same kept

-- what a call that went so says of its status, of both sinks
module _ (view : View) (left old new told told' : Option (List ℕ)) (reads reads' writes writes' tells tells' : ℕ) where
  abbrev pub To : Status → Type 0
  To status = WentTo view left old new told told' reads reads' writes writes' tells tells' status

  to-out : (status wanted : Status) → To status → status ≡ wanted → IsSaid wanted → (IsTold wanted → ⊥) →
      Prints left old new (IsShown view wanted) × (told' ≡ told)
  to-out status wanted (went_out went other same kept) it says not =
      (went-prints view left old new reads reads' writes writes' status wanted went it says, same)
  to-out status wanted (went_err went is same kept) it says not = absurd (not (subst IsTold it is))

  pub to-success : (status : Status) → To status → status ≡ Success → Prints left old new (IsShown view Success) × (told' ≡ told)
  to-success status went it = to-out status Success went it tt (λ is. is)

  pub to-unlawful : (status : Status) → To status → status ≡ Unlawful →
      Prints left old new (IsShown view Unlawful) × (told' ≡ told)
  to-unlawful status went it = to-out status Unlawful went it tt (λ is. is)

  pub to-err : (status : Status) → To status → status ≡ Refused → Prints left told told' (IsShown view Refused) × (new ≡ old)
  to-err status (went_out went other same kept) it = absurd (other it)
  to-err status (went_err went is same kept) it =
      (went-prints view left told told' reads reads' tells tells' status Refused went it tt, same)

  pub to-comes : (status : Status) → To status → MayCome status
  to-comes status (went_out went other same kept) = went-comes view left old new reads reads' writes writes' status went
  to-comes status (went_err went is same kept) = went-comes view left told told' reads reads' tells tells' status went

  pub to-words : (status : Status) → To status → status ≡ Words → ⊥
  to-words status (went_out went other same kept) it = went-words view left old new reads reads' writes writes' status went it
  to-words status (went_err went is same kept) it = went-words view left told told' reads reads' tells tells' status went it

  pub to-read_fault : (status : Status) → To status → status ≡ ReadFault → Rose reads reads'
  to-read_fault status (went_out went other same kept) it =
      went-read_fault view left old new reads reads' writes writes' status went it
  to-read_fault status (went_err went is same kept) it =
      went-read_fault view left told told' reads reads' tells tells' status went it

  pub to-write_fault : (status : Status) → To status → status ≡ WriteFault → Rose writes writes' ⊎ Rose tells tells'
  to-write_fault status (went_out went other same kept) it =
      inl (went-write_fault view left old new reads reads' writes writes' status went it)
  to-write_fault status (went_err went is same kept) it =
      inr (went-write_fault view left told told' reads reads' tells tells' status went it)

  pub to-front : (status : Status) → To status → status ≡ WriteFault → PrintsFrontTo view left old new told told'
  to-front status (went_out went other same kept) it =
      inl (went-front view left old new reads reads' writes writes' status went it, same)
  to-front status (went_err went is same kept) it =
      inr (went-front view left told told' reads reads' tells tells' status went it, same)

  pub to-nothing : (status : Status) → To status → (status ≡ ReadFault) ⊎ (status ≡ NoMemory) → Keeps old new × Keeps told told'
  to-nothing status (went_out went other same kept) which = (
    went-nothing view left old new reads reads' writes writes' status went which,
    subst (λ (held : Option (List ℕ)). Keeps told held) (sym same) (keeps-same told),
  )
  to-nothing status (went_err went is same kept) which = (
    subst (λ (held : Option (List ℕ)). Keeps old held) (sym same) (keeps-same old),
    went-nothing view left told told' reads reads' tells tells' status went which,
  )

-- A look at a signal, as an attempt.
use Rattle.std.proofs.Common.{◌≡◌, ◌≢◌, ℕ, ◌+◌, ◌-◌, ◌^◌, ◌<◌, Bool, true, false, not, ◌&&◌, cond, Option, Some, None, Ok, List, [], ◌∷◌, length, set, refl, sym, ap, subst, ◌∙◌, arith}
use Rattle.std.specs.List.{slice_get, AllZip}
use Rattle.std.specs.Option.{option_map, option_map_or, option_and_then}
use Rattle.std.proofs.lemmas.List.{length-append, map-set, set-set}
use Rattle.std.proofs.lemmas.List.Elements.{All-weaker}
use Rattle.std.proofs.lemmas.Option.{same_Some}
use Rattle.zk_base.specs.declared.ids.Who.{Who}
use Rattle.zk_base.specs.declared.seen.Seen.{Seen}
use Rattle.zk_signal.specs.declared.pass.SigPass.{SigPass}
use Rattle.zk_signal.specs.declared.signal.SharedSignal.{SharedSignal}
use Rattle.zk_signal.specs.Passes.{pass_top, pass_looks}
use Rattle.zk_worker.specs.declared.steps.Step.TheVariants as steps
use Rattle.zk_worker.specs.declared.steps.StepReply.{StepReply}
use Rattle.zk_worker.specs.declared.steps.StepReply.TheVariants as step_replies
use Rattle.zk_worker.specs.Attempt.{Attempted, ReadsAt, KeepsElsewhere}
use Rattle.zk_worker.specs.Families.{EachGrew}
use Rattle.zk_worker.specs.Looks.{Longer, last_of, look_reply, look_at, looks_at, found_by}
use Rattle.zk_worker.specs.Machines.{Machines}
use Rattle.zk_worker.specs.Shown.{Shown, AllGrew}
use Rattle.zk_cells.specs.declared.notes.Note.{Note}
use Rattle.zk_cells.specs.Notes.{Write, stamp_of, writes_at, writes_to}
use Rattle.zk_cells.specs.Quick.{FoundClear}
use Rattle.zk_cells.specs.Signals.{signals_by, looks_by, all_looks, looks_in, IsOwnAt, HaveOwn, AreNoted, IsShownIn, HasFound}
use Rattle.zk_cells.proofs.Noted.{long-to, others-up}
use Rattle.zk_cells.proofs.Shares.{own-in, own-set, shown-there, shown-set, there-set, else-set, grew-set, longer-set, entry-still, last-push, looks-there, looks-number, own-found}
use Rattle.zk_cells.proofs.SignalSteps.{shows, grows-shown}

-- what a look is answered that has to find the signal raised
answered-none : (b : Bool) (seen : Seen) → cond b None (Some (step_replies.Seen seen)) ≡ None → b ≡ true
answered-none true seen is = refl
answered-none false seen is = absurd (cc)

answered-seen : (b : Bool) (seen : Seen) (reply : StepReply) → cond b None (Some (step_replies.Seen seen)) ≡ Some reply → step_replies.Seen seen ≡ reply
answered-seen true seen reply is = absurd (cc)
answered-seen false seen reply is = same_Some (step_replies.Seen seen) reply is

not-true : (b : Bool) → not b ≡ true → b ≡ false
not-true true is = absurd (cc)
not-true false is = refl

-- a look
module _ (m : Machines) (who : Who) (number object : ℕ) (must : Bool) (seen : Seen) (base : Shown) (signals : List (Option SharedSignal)) (passes : List (Option SigPass)) (notes : List Note)
    (few : who.number < 2 ^ 32) (have : HaveOwn who (writes_at notes) signals passes)
    (s : SharedSignal) (p p' : SigPass) (there : slice_get signals object ≡ Some (Some s)) (was : slice_get passes object ≡ Some (Some p)) (found : HasFound s p seen p') where
  abbrev own : List Write
  own = writes_at notes object

  abbrev passes' : List (Option SigPass)
  passes' = set passes object (Some p')

  abbrev hs : List (List Write)
  hs = signals_by (writes_at notes) passes

  abbrev hs' : List (List Write)
  hs' = signals_by (writes_at notes) passes'

  abbrev old : Shown
  old = shows base hs (all_looks passes)

  abbrev new : Shown
  new = shows base hs' (all_looks passes')

  own-at : IsOwnAt s who own p
  own-at = own-in who (writes_at notes) signals passes object (Some s) (Some p) have there was

  there' : slice_get passes' object ≡ Some (Some p')
  there' = there-set passes object (Some p) (Some p') was

  grew : EachGrew who.number hs hs'
  grew =
      let top = found.looked.top in
      let not_older = found.not_older in
      subst (EachGrew who.number hs) (sym (shown-set (writes_at notes) (writes_at notes) passes object (Some p') (λ k differ. refl)))
      (grew-set who.number hs object (writes_to own (pass_top p)) (writes_to own (pass_top p')) (shown-there (writes_at notes) passes object (Some p) was)
      (others-up who.number own (pass_top p) (pass_top p') few own-at.below (omega arith)))

  longer : AllZip Longer (all_looks passes) (all_looks passes')
  longer =
      subst (AllZip Longer (all_looks passes)) (sym (map-set looks_by passes object (Some p')))
      (longer-set (all_looks passes) object (pass_looks p) (pass_looks p') (looks-there passes object (Some p) was) (seen ∷ [], found.looked.looks))

  since : AllGrew who.number old new
  since = grows-shown who.number base hs hs' (all_looks passes) (all_looks passes') grew longer

  others-same : set hs' object [] ≡ set hs object []
  others-same =
      ap (λ (hs : List (List Write)). set hs object []) (shown-set (writes_at notes) (writes_at notes) passes object (Some p') (λ k differ. refl))
      ∙ set-set hs object (writes_to own (pass_top p')) []

  other-looks-same : set (all_looks passes') object [] ≡ set (all_looks passes) object []
  other-looks-same =
      ap (λ (ls : List (List Seen)). set ls object []) (map-set looks_by passes object (Some p')) ∙ set-set (all_looks passes) object (looks_by (Some p')) []

  shown-now : slice_get hs' object ≡ Some (writes_to own (pass_top p'))
  shown-now = shown-there (writes_at notes) passes' object (Some p') there'

  looks-now : looks_at new.looks object ≡ Some (pass_looks p')
  looks-now = looks-there passes' object (Some p') there'

  answered : look_at new.looks new.signals object must ≡ look_reply must seen
  answered =
      ap (λ (o : Option (List Write)). option_and_then (λ h. option_and_then (look_reply must) (found_by (looks_at new.looks object) h)) o) shown-now
      ∙ ap (λ (o : Option (List Seen)). option_and_then (look_reply must) (found_by o (writes_to own (pass_top p')))) looks-now
      ∙ ap (λ (l : List Seen). option_and_then (look_reply must) (last_of l)) found.looked.looks
      ∙ ap (option_and_then (look_reply must)) (last-push (pass_looks p) seen)

  pub attempted-look : (told : Option StepReply) → told ≡ look_reply must seen → Attempted false m who number (steps.LookSignal object must) old new (Ok told)
  attempted-look None tells = (since, answered ∙ sym tells)
  attempted-look (Some reply) tells = record {
    found = new;
    since = since;
    replied = answered ∙ sym tells;
    read_at = subst (λ (r : StepReply). ReadsAt new (steps.LookSignal object must) r) (answered-seen (must && not seen.raised) seen reply (sym tells))
        (ap (option_map length) shown-now ∙ ap (λ (n : ℕ). Some n) (long-to own (pass_top p') ∙ found.looked.top));
    shown = refl;
  }

  pub elsewhere-look : KeepsElsewhere (steps.LookSignal object must) old new
  elsewhere-look = λ i. shows base (others-same i) (other-looks-same i)

  pub found-clear : (told : Option StepReply) → told ≡ look_reply must seen → told ≡ None → FoundClear (steps.LookSignal object must) old new
  found-clear told tells none = by must (sym tells ∙ none)
    where
      by : (b : Bool) → look_reply b seen ≡ None → FoundClear (steps.LookSignal object b) old new
      by true is = (
        pass_looks p,
        seen,
        looks-there passes object (Some p) was,
        looks-now ∙ ap (λ (l : List Seen). Some l) found.looked.looks,
        not-true seen.raised (answered-none (not seen.raised) seen is),
      )
      by false is = absurd (cc)

  -- the passes are its player's own still
  pub have-look : HaveOwn who (writes_at notes) signals passes'
  have-look = own-set who (writes_at notes) (writes_at notes) signals passes object s p' have there (own-found s who own p p' seen own-at found) (λ k differ. refl)

  pub noted-look : AreNoted who notes hs → AreNoted who notes hs'
  noted-look noted =
      let O : Note → Type 0 = IsShownIn hs in
      let Q : Note → Type 0 = IsShownIn hs' in
      let on : (x : Note) → O x → Q x = λ x is. entry-still who.number hs hs' x.signal (stamp_of x.entry - 1) x.entry grew is in
      record { own = noted.own; rise = noted.rise; shown = All-weaker O Q on notes noted.shown }

  -- one look more there
  pub looks-look : looks_in passes' object ≡ looks_in passes object + 1
  looks-look =
      let one = length-append (pass_looks p) (seen ∷ []) in
      ap length (looks-number passes' object (Some p') there' ∙ found.looked.looks) ∙ one ∙ ap (λ (l : List Seen). length l + 1) (sym (looks-number passes object (Some p) was))

  pub looks-else : (k : ℕ) → k ≢ object → looks_in passes' k ≡ looks_in passes k
  looks-else k differ = ap (λ (o : Option (Option SigPass)). length (option_map_or looks_by o [])) (else-set passes object k (Some p') differ)

-- The polls of a lawful trace keep their laws.
use Rattle.std.proofs.Common.{◌≡◌, ℕ, zero, suc, ◌≤◌, true, false, Option, Some, None, List, [], ◌∷◌, All, refl, sym, ap, subst, ◌∙◌, arith}
use Rattle.std.specs.List.{AllZip, slice_get, list_all}
use Rattle.std.specs.Option.{option_and_then}
use Rattle.zk_base.specs.declared.ids.Entry.{Entry}
use Rattle.zk_base.specs.Legal.{Machine, IsLegal}
use Rattle.zk_base.proofs.Histories.{IsLegal-nil}
use Rattle.zk_model_wait.specs.Msgq.{Msgq, new_msgq, msgq_machine}
use Rattle.zk_model_wait.specs.MsgqLaws.{MsgqHistory}
use Rattle.zk_model_wait.specs.Sem.{Sem, new_sem, sem_machine}
use Rattle.zk_model_wait.specs.SemLaws.{SemHistory}
use Rattle.zk_words.specs.declared.word.Word.TheVariants as words
use Rattle.zk_line.specs.Fits.{decl_fits}
use Rattle.zk_scenario.specs.Content.{Content}
use Rattle.zk_scenario.specs.Valid.{IsValid}
use Rattle.zk_worker.specs.declared.answers.Answered.{Answered}
use Rattle.zk_worker.specs.declared.log.Log.{Log}
use Rattle.zk_worker.specs.declared.steps.Spot.{Spot}
use Rattle.zk_worker.specs.Follows.{Stands}
use Rattle.zk_worker.specs.Machines.{machines_of}
use Rattle.zk_worker.specs.Checks.{is_oops}
use Rattle.zk_player_laws.specs.PollLogs.{ShowsLegal, IsLawfulPollOf}
use Rattle.zk_worker.specs.Shown.{ShowsLog}
use Rattle.zk_player_laws.proofs.OpenPolls.{each_open_poll_goes_on}
use Rattle.zk_player_laws.proofs.PollServed.{each_poll_keeps_its_laws}
use Rattle.zk_trace.specs.declared.trace.Trace.{Trace}
use Rattle.zk_trace.proofs.LegalHistories.{IsLegalAt, LegalHistories, histories-legal}
use Rattle.zk_trace.specs.Lawful.{IsLawful}
use Rattle.zk_trace.specs.Place.{IsPlaced}
use Rattle.zk_trace.specs.Shown.{trace_shown}
use Rattle.zk_forms.specs.Polls.{EachKeepsPolls}
use Rattle.zk_forms.proofs.Starts.{sem-starts, msgq-starts}

-- a trace shows of each player just its log
pub shows-log : (s : Content) (t : Trace) (number : ℕ) (log : Log) → IsPlaced s t → slice_get t.logs number ≡ Some log →
    ShowsLog (trace_shown t) number log.steps
shows-log s t number log placed is = record {
  each = λ step spot there no_look. placed.stands number step spot log is there no_look;
  no_other = λ step spot shown.
      sym (ap (option_and_then (λ (l : Log). slice_get l.steps step)) is) ∙ placed.each spot number step shown;
  looked = tt;
}

-- the history of an object is legal from where that object starts, if it does
pub object-legal : {S O R : Type 0} (m : Machine S O R) (starts : List (Option S)) (hs : List (List (Entry O R))) (object : ℕ) (h : List (Entry O R)) →
    AllZip (IsLegalAt m) starts hs → slice_get hs object ≡ Some h →
    (start : Option S) × (slice_get starts object ≡ Some start) × IsLegalAt m start h
object-legal m [] [] object h all there = absurd (cc)
object-legal m [] (g ∷ gs) object h all there = absurd all
object-legal m (s ∷ ss) [] object h all there = absurd all
object-legal m (s ∷ ss) (g ∷ gs) zero h all there = let same : g ≡ h = cc in (s, refl, subst (IsLegalAt m s) same all.0)
object-legal m (s ∷ ss) (g ∷ gs) (suc object) h all there = object-legal m ss gs object h all.1 there

module _ (s : Content) (fit : list_all decl_fits s.decls ≡ true) where
  sem-legal : (object : ℕ) (h : SemHistory) (start : Option Sem) → slice_get (machines_of s).sems.starts object ≡ Some start → IsLegalAt sem_machine start h →
      (initial : ℕ) × (limit : ℕ) × (initial ≤ limit) × IsLegal sem_machine (new_sem initial limit) h
  sem-legal object h None is none =
      (0, 0, omega arith, subst (IsLegal sem_machine (new_sem 0 0)) (sym none) (IsLegal-nil sem_machine (new_sem 0 0)))
  sem-legal object h (Some start) is legal =
      let from = sem-starts s.decls object start fit (ap (option_and_then (λ (o : Option Sem). o)) is) in
      (from.initial, from.limit, from.within, subst (λ (x : Sem). IsLegal sem_machine x h) from.is_new legal)

  msgq-legal : (object : ℕ) (h : MsgqHistory) (start : Option Msgq) → slice_get (machines_of s).msgqs.starts object ≡ Some start → IsLegalAt msgq_machine start h →
      (most : ℕ) × IsLegal msgq_machine (new_msgq most) h
  msgq-legal object h None is none =
      (0, subst (IsLegal msgq_machine (new_msgq 0)) (sym none) (IsLegal-nil msgq_machine (new_msgq 0)))
  msgq-legal object h (Some start) is legal =
      let from = msgq-starts s.decls object start (ap (option_and_then (λ (o : Option Msgq). o)) is) in
      (from.most, subst (λ (x : Msgq). IsLegal msgq_machine x h) from.is_new legal)

  -- a trace with legal histories shows them
  shows-legal : (t : Trace) → LegalHistories s t → ShowsLegal (trace_shown t)
  shows-legal t legal = record {
    clock = legal.clock;
    sems = λ object h there.
        let at = object-legal sem_machine (machines_of s).sems.starts t.sems object h legal.sems there in
        sem-legal object h at.0 at.1 at.2;
    msgqs = λ object h there.
        let at = object-legal msgq_machine (machines_of s).msgqs.starts t.msgqs object h legal.msgqs there in
        msgq-legal object h at.0 at.1 at.2;
  }

-- each log of a lawful trace keeps the laws of polls
pub polls-kept : (s : Content) (t : Trace) → IsValid s → IsLawful s t → EachKeepsPolls s t
polls-kept s t valid lawful number log is =
    let follows = lawful.log.follow number log is in
    let steps : follows.end.spots ≡ log.steps = ap (λ (l : Log). l.steps) follows.logged in
    let shows = subst (ShowsLog (trace_shown t) number) (sym steps) (shows-log s t number log lawful.place is) in
    let legal = shows-legal s valid.in_range t (histories-legal s t lawful.place.rises lawful.history) in
    let all = each_poll_keeps_its_laws s number (trace_shown t) follows.end follows.led valid shows legal in
    record {
      start = follows.led.start;
      starts = follows.led.starts;
      made = follows.led.made;
      stands = subst (λ (x : List Spot). AllZip (Stands (trace_shown t)) x follows.led.made) steps follows.led.stands;
      end = follows.end;
      led = follows.led.played;
      logged = follows.logged;
      polls = subst (All (λ (a : Answered). a.word ≡ words.Poll → is_oops a.answer ≡ false → IsLawfulPollOf s number follows.led.made a)) (ap (λ (l : Log). l.answers) follows.logged) all;
      goes_on = each_open_poll_goes_on s number (trace_shown t) follows.end follows.led valid shows legal;
    }

-- A call that has come to its end and isn't answered: nothing comes next of it, be it at the last step that its player may make.
use Rattle.std.proofs.Common.{◌≡◌, ℕ, false, Some, None, List, [], ◌∷◌, ap, sym, ◌∙◌, ⊎_elim}
use Rattle.zk_words.specs.declared.timeout.Timeout.TheVariants.{No}
use Rattle.zk_words.specs.declared.word.Word.{Word}
use Rattle.zk_worker.specs.declared.frames.Plan.TheVariants.{One, Wait}
use Rattle.zk_worker.specs.declared.frames.Waiting.{Waiting}
use Rattle.zk_worker.specs.declared.steps.Step.{Step}
use Rattle.zk_worker.specs.declared.steps.StepReply.{StepReply}
use Rattle.zk_worker.specs.Follows.{StepMade}
use Rattle.zk_worker.specs.Waits.{open_step, end_step}
use Rattle.zk_player_laws.specs.AttemptLaws.{ComeOf}
use Rattle.zk_player_laws.specs.CallLaws.{waits_at}

-- what the first of these steps was replied
abbrev reply_in : StepReply → List StepMade → StepReply
reply_in other [] = other
reply_in other (made ∷ more) = made.1

-- of one step
pub one_unanswered-refused : (word : Word) (first : Step) (made : StepMade) (more : List StepMade) (next : List Step) →
    ComeOf word (One first) (made ∷ more) next → ⊥
one_unanswered-refused word first made more next (none, is) = cc

-- of a wait with `no`, whose step isn't told to wait
pub wait_unanswered-refused : (word : Word) (waiting : Waiting) (step : Step) (reply : StepReply) (next : List Step) →
    waits_at reply ≡ None → ComeOf word (Wait waiting No) ((step, reply) ∷ []) next → ⊥
wait_unanswered-refused word waiting step reply next told come = ⊎_elim
    (λ (first : ((step, reply) ∷ [] ≡ []) × (next ≡ open_step waiting false ∷ [])). let none = first.0 in cc)
    (λ (later : (waited : StepReply) × (place : ℕ) × (waits_at waited ≡ Some place)
    × ((step, reply) ∷ [] ≡ (open_step waiting false, waited) ∷ []) × (next ≡ end_step waiting place ∷ [])).
    let same : reply ≡ later.0 = ap (reply_in reply) later.3 in
    let both : None ≡ Some later.1 = sym told ∙ ap waits_at same ∙ later.2 in cc)
    come

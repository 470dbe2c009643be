-- What is told of a trace that isn't lawful.
use Rattle.std.specs.Prelude.{◌≡◌, ℕ, List, ◌++◌, codes}
use Rattle.zk_scenario.specs.Content.{Content}
use Rattle.zk_trace.specs.declared.trace.Trace.{Trace}
use Rattle.zk_failures.specs.declared.site.Fail.{Fail}
use Rattle.zk_failures.specs.declared.site.Fail.TheVariants as fails
use Rattle.zk_failures.specs.declared.site.Site.{Site}
use Rattle.zk_failures.specs.Failure.{IsFailure}
use Rattle.zk_failures.specs.Lines.{line_at}
use Rattle.zk_forms.specs.CheckAnswer.{unlawful_text}

-- why a trace isn't lawful, in a sentence
abbrev pub fail_sentence : Fail → List ℕ
fail_sentence fails.Place = codes "The steps of that player aren't 0, 1, 2 and on, each once, or don't rise there.\n"
fail_sentence fails.History = codes "That isn't what the service answers behind the entries before it.\n"
fail_sentence fails.Log = codes "That isn't what the player does or is answered by its script, or how it ends.\n"
fail_sentence fails.Look = codes "That isn't what there was to see then, or is older than what its player has seen.\n"
fail_sentence fails.Ending = codes "The run doesn't end so.\n"

-- the line that `check` prints, and that
abbrev pub verdict_text : ℕ → Fail → List ℕ
verdict_text line fail = unlawful_text line fail ++ fail_sentence fail

-- a trace isn't lawful, and the first reason is told with the line where it fails
pub record IsVerdict (s : Content) (t : Trace) (told : List ℕ) : Type 0 where
  pub fail : Fail
  pub site : Site
  pub failure : IsFailure s t fail site
  pub says : told ≡ verdict_text (line_at s t site) fail

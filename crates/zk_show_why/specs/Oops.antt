-- Which check has ended a player, by the trace alone.
use Rattle.std.specs.Prelude.{ℕ, ◌-◌, Option, Some, None, List, [], ◌++◌, codes, decimal, length, slice_get, option_and_then}
use Rattle.std.specs.Option.{option_map_or}
use Rattle.zk_line.specs.declared.types.Decl.{Decl}
use Rattle.zk_model_bus.specs.declared.table.OopsWhy.{OopsWhy}
use Rattle.zk_model_bus.specs.declared.table.OopsWhy.TheVariants.{NoObject, WrongKind, NotGranted, NotInit}
use Rattle.zk_model_bus.specs.declared.table.TableOp.{TableOp}
use Rattle.zk_model_bus.specs.declared.table.TableOp.TheVariants.{Check}
use Rattle.zk_model_bus.specs.declared.table.TableReply.{TableReply}
use Rattle.zk_model_bus.specs.declared.table.TableReply.TheVariants.{Oops}
use Rattle.zk_worker.specs.declared.log.Log.{Log}
use Rattle.zk_worker.specs.declared.steps.Spot.{Spot}
use Rattle.zk_worker.specs.declared.steps.Spot.TheVariants.{Table}
use Rattle.zk_trace.specs.declared.trace.Trace.{Trace}
use Rattle.zk_show_why.specs.Players.{name_of_object}
use Rattle.zk_show_why.specs.declared.failed.FailedCheck.{FailedCheck}

-- the check that an entry is, if it failed
abbrev pub check_failed : TableOp → TableReply → Option FailedCheck
check_failed (Check object need) (Oops why) = Some (record { object = object; need = need; why = why })
check_failed op reply = None

-- the check that a step made that stands there, if it failed
abbrev pub failed_at : Trace → Spot → Option FailedCheck
failed_at t (Table place) = option_and_then (λ e. check_failed e.op e.reply) (slice_get t.table place)
failed_at t spot = None

-- the check that a log's last step made, if it failed
abbrev pub failed_in : Trace → Log → Option FailedCheck
failed_in t log = option_and_then (λ spot. failed_at t spot) (slice_get log.steps (length log.steps - 1))

-- what an object lacks, in words
abbrev pub why_words : OopsWhy → List ℕ
why_words NoObject = codes " isn't there"
why_words WrongKind = codes " is of another kind"
why_words NotGranted = codes " isn't granted to it"
why_words NotInit = codes " isn't initialised"

-- why a check of an object failed, in words
abbrev pub failed_words : List Decl → Option ℕ → OopsWhy → List ℕ
failed_words decls (Some object) why = codes ": " ++ name_of_object decls object ++ why_words why
failed_words decls None why = codes ": no object has the name that it says"

-- at which step it was made, in words
abbrev pub step_words : ℕ → List ℕ
step_words step = codes "at its step " ++ decimal step

-- at which step a check failed, and why, in words
abbrev pub told_failure : List Decl → ℕ → FailedCheck → List ℕ
told_failure decls step failed = step_words step ++ failed_words decls failed.object failed.why

-- the same, of a player with this log
abbrev pub log_oops : List Decl → Trace → Log → List ℕ
log_oops decls t log = option_map_or (λ failed. told_failure decls (length log.steps - 1) failed) (failed_in t log) []

-- the same, of the player of a number
abbrev pub oops_words : List Decl → Trace → ℕ → List ℕ
oops_words decls t player = option_map_or (λ log. log_oops decls t log) (slice_get t.logs player) []

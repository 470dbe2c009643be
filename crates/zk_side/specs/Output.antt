use Rattle.std.specs.Prelude.{◌≡◌, ℕ, Result, Ok, Err, List, [], ◌++◌, codes, decimal}
use Rattle.zk_base.specs.declared.errors.Status.{Status}
use Rattle.zk_base.specs.declared.errors.Status.TheVariants.{Success, Refused}
use Rattle.zk_side.specs.declared.refusal.Refusal.{Refusal}
use Rattle.zk_side.specs.declared.refusal.Refusal.TheVariants.{Length, Header, Line}
use Rattle.zk_side.specs.Script.{Asked, script_of}
use Rattle.zk_side.specs.Played.{Stage, played}

-- the line of a refusal
abbrev pub refusal_text : Refusal → List ℕ
refusal_text Length = codes "refused 0 length\n"
refusal_text Header = codes "refused 1 header\n"
refusal_text (Line n) = codes "refused " ++ decimal n ++ codes " line\n"

-- the output for what was read, and its status
abbrev pub output_for : {S O R : Type 0} → Stage S O R → Result (List (Asked O)) Refusal → List ℕ × Status
output_for stage (Ok lines) = (codes "zx 1\n" ++ played stage [] lines, Success)
output_for stage (Err refusal) = (refusal_text refusal, Refused)

-- the whole output for an input, and its status
abbrev pub side_output : {S O R : Type 0} → Stage S O R → List ℕ → List ℕ × Status
side_output stage input = output_for stage (script_of stage.op_of input)

-- the whole output that goes with a status, for an input
abbrev pub IsSideOutput : {S O R : Type 0} → Stage S O R → Status → List ℕ → List ℕ → Type 0
IsSideOutput stage status input output = side_output stage input ≡ (output, status)

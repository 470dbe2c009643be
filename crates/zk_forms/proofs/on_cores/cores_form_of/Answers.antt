use Rattle.std.proofs.Common.{map, string_bytes, arith}
use Rattle.std.proofs.lemmas.List.{length-map}
use Rattle.zk_forms.proofs.OnCores.{other-words}
use Rattle.zk_forms.proofs.on_cores.cores_form_of.Goals as goal

pub returns-in_default : goal.returns-in_default
returns-in_default c =
    let long = length-map c.args.words.now string_bytes in
    let below = c.in_default.len_below in
    other-words (map string_bytes c.args.words.now) (λ two. omega arith) (λ four. omega arith)

pub returns-in_default-3 : goal.returns-in_default-3
returns-in_default-3 c =
    let long = length-map c.args.words.now string_bytes in
    let below = c.in_default.len_below in
    let least = c.in_default.len_at_least in
    other-words (map string_bytes c.args.words.now) (λ two. omega arith) (λ four. omega arith)

pub returns-in_default-5 : goal.returns-in_default-5
returns-in_default-5 c =
    let long = length-map c.args.words.now string_bytes in
    let least = c.in_default.len_at_least in
    other-words (map string_bytes c.args.words.now) (λ two. omega arith) (λ four. omega arith)

use Rattle.std.proofs.Common.{◌≡◌, ◌+◌, ◌*◌, ◌++◌, true, length, take}
use Rattle.std.specs.List.{list_all}
use Rattle.zk_base.specs.Limits.{longest_message}
use Rattle.zk_words.specs.Hex.{is_digit, bytes_of}
use Rattle.zk_words.proofs.hex.msg_of.Given as goal

abbrev pub invariant-loop-digits : goal.invariant-loop-digits
invariant-loop-digits l =
    (length l.bytes ≡ longest_message)
    × (list_all is_digit l.digits ≡ true)
    × (2 * l.len + length l.digits ≡ length l.word)
    × (take l.len l.bytes ++ bytes_of l.digits ≡ bytes_of l.word)

abbrev pub decreases-loop-digits : goal.decreases-loop-digits
decreases-loop-digits l = length l.digits

use Rattle.std.proofs.Common.{◌≡◌, ◌++◌, take}
use Rattle.zk_words.specs.Hex.{hex_text}
use Rattle.zk_feed.proofs.printing.print_hex.Given as goal

abbrev pub invariant-loop-byte : goal.invariant-loop-byte
invariant-loop-byte l =
    (l.paper.front ≡ l.fn.paper.front) × (l.paper.put ≡ l.fn.paper.put ++ hex_text (take l.byte-index l.bytes))

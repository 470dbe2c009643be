use Rattle.std.proofs.Common.{◌≡◌, ◌++◌, take}
use Rattle.zk_words.specs.Hex.{hex_text}
use Rattle.zk_trace.proofs.hex.put_hex.Given as goal

abbrev pub invariant-loop-byte : goal.invariant-loop-byte
invariant-loop-byte l = record {
  text : l.out.put ≡ l.initial.out.put ++ hex_text (take l.byte-index l.bytes);
  front : l.out.front ≡ l.initial.out.front;
}

use Rattle.std.proofs.Common.{◌≡◌, ◌++◌, take}
use Rattle.zk_base.specs.Fronts.{StaysInFront}
use Rattle.zk_words.specs.Hex.{hex_text}
use Rattle.zk_words.proofs.hex.put_hex.Given as goal

abbrev pub invariant-loop-byte : goal.invariant-loop-byte
invariant-loop-byte l = record {
  text : l.out.items ≡ l.initial.out.items ++ hex_text (take l.byte-index l.bytes);
  kept : StaysInFront l.initial.out.items l.out.items;
}

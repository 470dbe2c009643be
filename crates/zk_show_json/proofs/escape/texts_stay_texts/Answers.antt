use Rattle.zk_show_json.proofs.Escaping.{escaped_harmless}
use Rattle.zk_show_json.proofs.escape.texts_stay_texts.Goals as goal

pub returns : goal.returns
returns c = λ text bytes. escaped_harmless text bytes

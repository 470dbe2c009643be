use Rattle.zk_show_svg.proofs.Escaping.{escaped_harmless}
use Rattle.zk_show_svg.proofs.escape.texts_stay_texts.Goals as goal

pub returns : goal.returns
returns c = λ text. escaped_harmless text

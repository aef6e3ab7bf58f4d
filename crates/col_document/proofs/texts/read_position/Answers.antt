use Rattle.std.proofs.Common.{None, lit<, sym}
use Rattle.std.proofs.lemmas.Str.Pattern.{strip_prefix_char}
use Rattle.col_document.proofs.NumberTextLemmas.{position_named-other}
use Rattle.col_document.proofs.texts.read_position.Goals as goal

pub returns-in-None : goal.returns-in-None
returns-in-None c =
    sym (position_named-other c.args.text.now
    (strip_prefix_char 99 c.args.text.now None c.in-None.ensures.cases (lit< tt)))

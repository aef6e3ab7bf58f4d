-- The bits of the bytes from a byte on are bits of all bytes.
use Rattle.std.proofs.Common.{◌∙◌}
use Rattle.col_buf.proofs.BitLemmas.{word_from}
use Rattle.col_buf.proofs.bitmap.word_at.Goals as goal

pub returns-then-bytes-at-ge8 : goal.returns-then-bytes-at-ge8
returns-then-bytes-at-ge8 c = c.whole_word.ensures ∙ word_from c.args.bytes.now c.args.at

pub returns-else-bytes-at-ge8 : goal.returns-else-bytes-at-ge8
returns-else-bytes-at-ge8 c = c.last_word.ensures ∙ word_from c.args.bytes.now c.args.at

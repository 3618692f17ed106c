-- `encoder::text_words` meets its contract: each word is the field that it is read from.
use Rattle.encoder.specs.Words.{text_words}
use Rattle.encoder.proofs.text_words.Goals as goal

pub returns : goal.returns
unfolding text_words
returns c =
    rw (
      c.pi.ensures,
      c.word2.ensures,
      c.text_pair.ensures,
      c.text_pair-2.ensures,
    )

-- `encoder::name_words` meets its contract: each word is the field that it is read from.
use Rattle.encoder.specs.Words.{name_words}
use Rattle.encoder.proofs.name_words.Goals as goal

pub returns : goal.returns
unfolding name_words
returns c = rw (c.pi.ensures, c.word2.ensures, c.name_pair.ensures)

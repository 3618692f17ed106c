-- `encoder::words_at` meets its contract: a name address has the words of 0A, any other those of 2A.
use mathlib.Core.Path.{sym, ◌∙◌}
use native.Mathlib.Omega.{arith}
use Rattle.encoder.proofs.WordLaws.{words_name, words_text}
use Rattle.encoder.proofs.words_at.Goals as goal

pub returns-then-address-lt-NAME_ADDRESSES : goal.returns-then-address-lt-NAME_ADDRESSES
returns-then-address-lt-NAME_ADDRESSES c =
    c.name_words.ensures ∙ sym (words_name c.args.key.bytes c.args.address (omega arith))

pub returns-else-address-lt-NAME_ADDRESSES : goal.returns-else-address-lt-NAME_ADDRESSES
returns-else-address-lt-NAME_ADDRESSES c =
    c.text_words.ensures ∙ sym (words_text c.args.key.bytes c.args.address (omega arith))

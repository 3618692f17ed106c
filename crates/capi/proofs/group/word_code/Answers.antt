-- `word_code` gives the number that `word_code` says, by whether the word was good.
use Rattle.capi.specs.Groups.{word_code}
use mathlib.Core.Path.{sym, ◌∙◌}
use Rattle.capi.proofs.group.word_code.Goals as goal

pub returns-then-good : goal.returns-then-good
unfolding word_code
returns-then-good c = rw (sym c.good.ensures ∙ c.if-good.true, c.from-word.ensures, c.word.ensures)

pub returns : goal.returns
unfolding word_code
returns c = rw (sym c.good.ensures ∙ c.if-good.false, c.from-word.ensures, c.word.ensures)

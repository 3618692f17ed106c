-- `telling::held::mark` meets its promise: by whether the pair was seen.
use Rattle.letters.specs.Letters.{character_text}
use Rattle.telling.proofs.held.mark.Goals as goal

pub returns-then-seen-clause-text : goal.returns-then-seen-clause-text
unfolding character_text
returns-then-seen-clause-text c = rw c.if-seen.true

pub returns-else-seen-clause-text : goal.returns-else-seen-clause-text
unfolding character_text
returns-else-seen-clause-text c = rw c.if-seen.false

-- `groups::fields::switches_of` meets its promise: by type 0.
use borrow.Author.Tests.{eq-eqb, ne_eqb}
use Rattle.groups.specs.Header.{type_of}
use Rattle.groups.specs.Content.{carried_of}
use Rattle.groups.proofs.fields.switches_of.Goals as goal

pub returns-then-word2-eq0 : goal.returns-then-word2-eq0
unfolding carried_of
returns-then-word2-eq0 c = rw (
  c.switches_from.ensures,
  ← c.word-word2.ensures,
  eq-eqb
      (type_of c.word-word2.result) 0 c.if-word2-eq0.true,
)

pub returns-else-word2-eq0 : goal.returns-else-word2-eq0
unfolding carried_of
returns-else-word2-eq0 c = rw (← c.word-word2.ensures, ne_eqb (type_of c.word-word2.result) 0 c.if-word2-eq0.false)

-- `groups::third_kind` meets its promise: by the version bit of word 2.
use borrow.Author.Tests.{eq-eqb, ne_eqb}
use Rattle.groups.specs.Header.{version_of, third_kind}
use Rattle.groups.proofs.third_kind.Goals as goal

pub returns-then-word2-eq0 : goal.returns-then-word2-eq0
unfolding third_kind
returns-then-word2-eq0 c = rw (eq-eqb (version_of c.args.word2) 0 c.if-word2-eq0.true)

pub returns-else-word2-eq0 : goal.returns-else-word2-eq0
unfolding third_kind
returns-else-word2-eq0 c = rw (ne_eqb (version_of c.args.word2) 0 c.if-word2-eq0.false)

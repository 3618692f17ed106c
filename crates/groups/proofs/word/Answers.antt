-- `groups::word` meets its promise: by whether there is such a place.
use native.Mathlib.Omega.{arith}
use borrow.Author.Tests.{le-leb, lt-leb}
use Rattle.groups.specs.Group.{places, word_of}
use Rattle.groups.proofs.word.Goals as goal

pub returns-then-place-ge-PLACES : goal.returns-then-place-ge-PLACES
unfolding word_of
returns-then-place-ge-PLACES c = rw (le-leb places c.args.place (omega arith))

pub returns : goal.returns
unfolding word_of
returns c = rw (lt-leb places c.args.place (omega arith))

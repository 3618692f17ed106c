-- `clock::write` meets its contract: the tests say which answer is given.
use mathlib.Core.Path.{sym, ◌∙◌}
use native.Mathlib.Omega.{arith}
use Rattle.std.proofs.lemmas.Grind.{common_steps}
use Rattle.clock.specs.Words.{write_refused, write_of}
use Rattle.clock.proofs.Ranges.{in_range_true}
use Rattle.clock.proofs.write.Goals as goal

pub returns-then-pty-gt-LAST_PTY : goal.returns-then-pty-gt-LAST_PTY
unfolding write_of write_refused
returns-then-pty-gt-LAST_PTY c = grind (arith, common_steps)

pub words-requires : goal.words-requires
words-requires c = (in_range_true _ (sym c.in_range.ensures ∙ c.if-not-in_range.false), omega arith)

pub returns : goal.returns
unfolding write_of write_refused
returns c = grind (arith, common_steps)

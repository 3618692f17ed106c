-- `clock::words` meets its contract: each word is the sum of the fields at their places.
use native.Mathlib.Omega.{arith}
use Rattle.clock.specs.Words.{word2_of, word3_of, word4_of}
use Rattle.clock.proofs.Parts.{flag_number}
use Rattle.clock.proofs.words.Goals as goal

pub returns : goal.returns
unfolding word2_of word3_of word4_of
returns c = grind (arith, flag_number)

-- `telling::held::put_characters` meets its promise: before each turn the characters so far are written.
use native.Mathlib.Omega.{arith}
use Rattle.letters.specs.Letters.{character_text}
use Rattle.telling.proofs.Joined.{turn_next}
use Rattle.telling.proofs.held.put_characters.Goals as goal

pub loop-character-preserved : goal.loop-character-preserved
loop-character-preserved c = (
  turn_next character_text c.args.characters.now c.args.page.now 0 (omega arith) c.loop-character.invariant.0
      c.put.ensures.text,
  omega (arith, c.put.ensures.most),
)

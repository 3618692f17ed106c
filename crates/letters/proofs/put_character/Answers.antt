-- `letters::put_character` meets its promise: by whether it is shown as it is.
use Rattle.letters.specs.Letters.{character_text}
use Rattle.letters.proofs.put_character.Goals as goal

pub returns-then-is_shown : goal.returns-then-is_shown
unfolding character_text
returns-then-is_shown c = rw (← c.is_shown.ensures, c.if-is_shown.true) c.put_byte.ensures

pub returns : goal.returns
unfolding character_text
returns c =
    rw (← c.is_shown.ensures, c.if-is_shown.false)
    (rw (c.hex_digit.ensures, c.hex_digit-2.ensures) at c.put.ensures)

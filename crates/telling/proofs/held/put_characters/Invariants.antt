-- The invariant of `telling::held::put_characters`: before each turn the characters so far are written.
use Prim.Native.Nat.{◌+◌, ◌*◌, ◌≤◌}
use mathlib.Core.Path.{◌≡◌}
use mathlib.Core.List.{◌++◌}
use lib.ListN.{length, take}
use Rattle.letters.specs.Letters.{joined, character_text}
use Rattle.telling.proofs.held.put_characters.Given as goal

abbrev pub invariant-loop-character : goal.invariant-loop-character
invariant-loop-character l =
    (l.page ≡ l.initial.page ++ joined character_text (take l.character-index l.characters))
    × (length l.page ≤ length l.initial.page + 4 * l.character-index)

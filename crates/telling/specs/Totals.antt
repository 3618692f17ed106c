-- The lines of the counts of a recording.
use Rattle.std.specs.Prelude.{List, [], ◌∷◌}
use Rattle.counts.specs.declared.Counts.{Counts}
use Rattle.letters.specs.Letters.{codes}
use Rattle.telling.specs.Pieces.{Piece, Word, Number}
use Rattle.telling.specs.Lines.{end}

abbrev pub counts_line : Counts → List Piece
counts_line c =
    Word (codes "groups ") ∷ Number c.groups ∷ Word (codes "\nbad groups ") ∷ Number c.bad
    ∷ Word (codes "\nlocks ") ∷ Number c.locks ∷ Word (codes "\nlosses ") ∷ Number c.losses ∷ end ∷ []

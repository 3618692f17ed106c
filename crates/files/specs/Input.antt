-- What is open for reading.
use Rattle.std.specs.Prelude.{ℕ, List, Option, IsSomeAnd}
use Rattle.files.specs.declared.input.Source.{Source}
use Rattle.files.specs.declared.input.Source.TheVariants.{Standard, File}

-- what reads will give from here on, by what it is
abbrev pub remaining_of : {S F : Type 0} → (S → Option (List ℕ)) → (F → Option (List ℕ)) → Source S F → Option (List ℕ)
remaining_of standard files (Standard input) = standard input
remaining_of standard files (File file) = files file

-- standard input, and no file
abbrev pub IsStandard : {S F : Type 0} → Source S F → Type 0
IsStandard (Standard input) = Unit {0}
IsStandard (File file) = ⊥

-- standard input is open
abbrev pub OpensStandard : {S F : Type 0} → Option (Source S F) → Type 0
OpensStandard opened = IsSomeAnd opened IsStandard

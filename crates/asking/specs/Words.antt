-- The words that a program knows among its arguments, and what `listen` is asked by them.
use Rattle.std.specs.Prelude.{ℕ, List, Bool, true, false, cond, ◌&&◌, eqb, leb, Option, Some, None, bytes_eq}
use Rattle.letters.specs.Letters.{codes}
use Rattle.asking.specs.declared.ListenAsked.{ListenAsked}

-- `-` names standard input
abbrev pub is_standard : List ℕ → Bool
is_standard name = bytes_eq name (codes "-")

-- `-s` asks for the summary alone
abbrev pub is_summary : List ℕ → Bool
is_summary argument = bytes_eq argument (codes "-s")

-- all that is in the file that an argument names, none being standard input; and its summary alone
abbrev pub all_of : Option ℕ → Option ListenAsked
all_of argument = Some (record { argument = argument; summary = false })

abbrev pub summary_of : Option ℕ → Option ListenAsked
summary_of argument = Some (record { argument = argument; summary = true })

-- what `listen` is asked with so many arguments, its own name among them, and whether the first behind it is `-s`
unfoldable pub listen_of : ℕ → Bool → Option ListenAsked
listen_of count summary =
    cond (leb count 1) (all_of None)
    (cond (eqb count 2) (cond summary (summary_of None) (all_of (Some 1)))
    (cond (eqb count 3 && summary) (summary_of (Some 2)) None))

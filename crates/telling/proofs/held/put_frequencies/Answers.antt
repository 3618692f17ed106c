-- `telling::held::put_frequencies` meets its promise: before turn i the first i frequencies are written.
use mathlib.Core.Path.{sym, ap, ◌∙◌}
use mathlib.Core.List.{List, [], ◌∷◌, ◌++◌, append_assoc, append-nil}
use Prim.Native.Nat.{ℕ}
use native.Mathlib.Omega.{arith}
use native.Mathlib.Numerals.{add-one}
use Rattle.letters.specs.Letters.{character_text, decimal_of}
use Rattle.frequencies.specs.AfList.{at_of}
use Rattle.telling.specs.Station.{frequencies_to}
use Rattle.telling.proofs.held.put_frequencies.Goals as goal

pub loop-i-init : goal.loop-i-init
unfolding frequencies_to
loop-i-init c = (sym (append-nil c.args.page.now), omega arith)

pub loop-i-preserved : goal.loop-i-preserved
unfolding frequencies_to character_text
loop-i-preserved c =
    let turn = c.loop-i in
    let front = frequencies_to c.args.list turn.i in
    let khz = decimal_of (at_of c.args.list turn.i) in
    let number = rw (c.from.ensures, c.at.ensures) at c.put-in-loop-i.ensures.text in (
      rw (add-one turn.i) (number
          ∙ ap (λ (l : List ℕ). l ++ khz) (c.put.ensures.text ∙ ap (λ (l : List ℕ). l ++ 32 ∷ []) turn.invariant.0)
          ∙ append_assoc (c.args.page.now ++ front) (32 ∷ []) khz ∙ append_assoc c.args.page.now front (32 ∷ khz)),
      omega (arith, c.put.ensures.most, c.put-in-loop-i.ensures.most),
    )

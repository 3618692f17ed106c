-- `list_of` is the list that `list_in` says: after so many pairs it is the list after as many words.
use Prim.Native.Nat.{ℕ, ◌+◌, ◌*◌, ◌/◌, ◌<◌}
use mathlib.Core.Path.{◌≡◌, sym, ap, ◌∙◌}
use mathlib.Core.List.{List, [], ◌∷◌, ◌++◌}
use native.Mathlib.Numerals.{add-one}
use native.Mathlib.Omega.{arith}
use lib.ListN.{length, get_or, drop}
use Rattle.std.proofs.lemmas.List.{length-drop, length-append}
use Rattle.capi.specs.Frequencies.{word_at, list_after, list_in}
use Rattle.capi.proofs.Chunks.{after_chunk, in_chunk, one_more}
use Rattle.capi.proofs.af.list_of.Goals as goal

-- a pair is the next word
next-word :
    (s x t : List ℕ) (n : ℕ) →
    drop (2 * n) s ≡ x ++ t →
    length x ≡ 2 →
    get_or x 0 0 * 256 + get_or x 1 0 ≡ word_at s n
next-word s x t n e two =
    let high : get_or x 0 0 ≡ get_or s (2 * n) 0 =
    in_chunk 2 s x t n e two 0 (omega arith) ∙ ap (λ (k : ℕ). get_or s k 0) (omega arith) in
    rw (high, in_chunk 2 s x t n e two 1 (omega arith))

pub loop-pair-init : goal.loop-pair-init
unfolding list_after
loop-pair-init c = grind arith

pub loop-pair-preserved : goal.loop-pair-preserved
unfolding list_after
loop-pair-preserved c =
    let s = c.args.bytes.now in
    let l = c.loop-pair in
    let n = length l.yielded in
    let pair = c.in-Some.pair.now in
    let left = c.next.new.self.rest.now in
    let steps = c.in-Some.ensures.steps in
    let e : drop (2 * n) s ≡ pair ++ left = sym l.invariant.1 ∙ steps.1.0 in
    let two : length pair ≡ 2 = steps.1.1 ∙ l.invariant.2 in
    let more : length (l.yielded ++ c.in-Some.pair ∷ []) ≡ n + 1 = length-append l.yielded (c.in-Some.pair ∷ []) in
    rw (more, add-one n) (
      c.taken-list.ensures
          ∙ rw (l.invariant.0, c.word_of.ensures, next-word s pair left n e two),
      rw (← add-one n) (after_chunk 2 s pair left n e two),
      steps.0 ∙ l.invariant.2,
      rw (← add-one n) (one_more 2 s pair left n e two (omega arith)),
    )

pub returns : goal.returns
unfolding list_in
returns c =
    let s = c.args.bytes.now in
    let l = c.loop-pair in
    let n = length l.yielded in
    let steps = c.in-None.ensures.steps in
    let few : length s < 2 * n + 2 =
    omega (arith, steps.1.0, l.invariant.2, ap length l.invariant.1, length-drop (2 * n) s) in
    let all : n ≡ length s / 2 = omega (arith, l.invariant.3) in
    l.invariant.0 ∙ ap (list_after s) all

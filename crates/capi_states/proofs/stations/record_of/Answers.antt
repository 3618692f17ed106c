-- `record_of` is the record that `record_in` says: after so many groups it is the record after them.
use Prim.Native.Nat.{ℕ, ◌+◌, ◌*◌, ◌/◌, ◌<◌}
use mathlib.Core.Path.{◌≡◌, sym, ap, ◌∙◌}
use mathlib.Core.List.{List, [], ◌∷◌, ◌++◌}
use native.Mathlib.Numerals.{add-one}
use native.Mathlib.Omega.{arith}
use lib.ListN.{length, get_or, drop}
use Rattle.std.proofs.lemmas.List.{length-drop, length-append}
use Rattle.capi_states.specs.Stations.{pair_at, group_at, record_after, record_in}
use Rattle.capi.proofs.Chunks.{after_chunk, in_chunk, one_more}
use Rattle.capi_states.proofs.stations.record_of.Goals as goal

-- nine bytes are the next group
module _ (s x t : List ℕ) (n : ℕ) (next : drop (9 * n) s ≡ x ++ t) (nine : length x ≡ 9) where
  byte_in : (i : ℕ) → i < 9 → get_or x i 0 ≡ get_or s (9 * n + i) 0
  byte_in = in_chunk 9 s x t n next nine

  pair_in : (i : ℕ) → i < 8 → pair_at x i ≡ pair_at s (9 * n + i)
  pair_in i below =
      let low : get_or x (i + 1) 0 ≡ get_or s (9 * n + i + 1) 0 =
      byte_in (i + 1) (omega arith) ∙ ap (λ (k : ℕ). get_or s k 0) (omega arith) in
      rw (byte_in i (omega arith), low)

  next_group : group_at x 0 ≡ group_at s (9 * n)
  unfolding group_at
  next_group =
      let first : pair_at x 0 ≡ pair_at s (9 * n) = pair_in 0 (omega arith) ∙ ap (pair_at s) (omega arith) in
      rw (
        byte_in 8 (omega arith),
        first,
        pair_in 2 (omega arith),
        pair_in 4 (omega arith),
        pair_in 6 (omega arith),
      )

pub loop-group-init : goal.loop-group-init
unfolding record_after
loop-group-init c = grind arith

pub loop-group-preserved : goal.loop-group-preserved
unfolding record_after
loop-group-preserved c =
    let s = c.args.bytes.now in
    let l = c.loop-group in
    let n = length l.yielded in
    let group = c.in-Some.group.now in
    let left = c.next.new.self.rest.now in
    let steps = c.in-Some.ensures.steps in
    let e : drop (9 * n) s ≡ group ++ left = sym l.invariant.1 ∙ steps.1.0 in
    let nine : length group ≡ 9 = steps.1.1 ∙ l.invariant.2 in
    let more : length (l.yielded ++ c.in-Some.group ∷ []) ≡ n + 1 = length-append l.yielded (c.in-Some.group ∷ []) in
    rw (more, add-one n) (
      c.taken-station.ensures
          ∙ rw (l.invariant.0, c.group_at.ensures, next_group s group left n e nine),
      rw (← add-one n) (after_chunk 9 s group left n e nine),
      steps.0 ∙ l.invariant.2,
      rw (← add-one n) (one_more 9 s group left n e nine (omega arith)),
    )

pub returns : goal.returns
unfolding record_in
returns c =
    let s = c.args.bytes.now in
    let l = c.loop-group in
    let n = length l.yielded in
    let steps = c.in-None.ensures.steps in
    let few : length s < 9 * n + 9 =
    omega (arith, steps.1.0, l.invariant.2, ap length l.invariant.1, length-drop (9 * n) s) in
    let all : n ≡ length s / 9 = omega (arith, l.invariant.3) in
    l.invariant.0 ∙ ap (record_after s) all

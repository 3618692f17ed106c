-- A slice in chunks of the same size, one after the other: what a chunk is of the whole, and what comes after it.
use Prim.Native.Nat.{ℕ, ◌+◌, ◌*◌, ◌≤◌, ◌<◌}
use mathlib.Core.Path.{◌≡◌, sym, ap, ◌∙◌}
use mathlib.Core.List.{List, ◌++◌}
use native.Mathlib.Omega.{arith}
use lib.ListN.{length, get_or, drop}
use Rattle.std.proofs.lemmas.Grind.{common_steps}
use Rattle.std.proofs.lemmas.List.{drop-drop, drop_at, length-drop, length-append}

module _ (size : ℕ) (s x t : List ℕ) (n : ℕ) (next : drop (size * n) s ≡ x ++ t) (full : length x ≡ size) where
  -- what comes after the next chunk
  pub after_chunk : t ≡ drop (size * (n + 1)) s
  after_chunk =
      sym (drop_at x t size full)
      ∙ ap (drop size) (sym next)
      ∙ drop-drop size (size * n) s
      ∙ ap (λ (k : ℕ). drop k s) (omega arith)

  -- element i of the chunk
  pub in_chunk : (i : ℕ) → i < size → get_or x i 0 ≡ get_or s (size * n + i) 0
  in_chunk i below = grind (arith, common_steps)

  -- one chunk more lies within the whole
  pub one_more : 0 < size → size * (n + 1) ≤ length s
  one_more some =
      let more : size * (n + 1) ≡ size * n + size = omega arith in
      omega (arith, length-drop (size * n) s, ap length next, length-append x t)

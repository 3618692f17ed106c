-- Texts in a buffer: one behind the other they are the joined text, and the buffer keeps its length.
use Prim.Native.Nat.{ℕ, zero, suc, ◌+◌, ◌<◌, ◌≤◌}
use mathlib.Core.Path.{◌≡◌, sym, ap, ◌∙◌}
use mathlib.Core.List.{List, [], ◌∷◌, ◌++◌, append_assoc, append-nil}
use native.Mathlib.Omega.{arith}
use lib.ListN.{length, get_or, take, drop, length-append, length-drop, take-append-drop}
use lib.Seq.{take_at, drop-append-add, drop-drop, length-take-le}
use Rattle.letters.specs.Letters.{joined, written, Wrote}

module _ (out : List ℕ) (at : ℕ) where
  -- the head of the buffer with a text behind it ends where the text ends
  length-head : (text : List ℕ) → at ≤ length out → length (take at out ++ text) ≡ at + length text
  length-head text h = rw (length-append, length-take-le at out h)

  pub length_written : (text : List ℕ) → at + length text ≤ length out → length (written out at text) ≡ length out
  unfolding written
  length_written text h =
      simp (length-append, length-drop, length-take-le at out (omega arith)) (omega arith)

  -- what stands before and behind a text
  take-written : (text : List ℕ) → at ≤ length out → take (at + length text) (written out at text) ≡ take at out ++ text
  unfolding written
  take-written text h =
      take_at (take at out ++ text) (drop (at + length text) out) (at + length text) (length-head text h)

  drop-written : (text : List ℕ) (n : ℕ) → at ≤ length out
      → drop (at + length text + n) (written out at text) ≡ drop (at + length text + n) out
  unfolding written
  drop-written text n h =
      ap (λ (k : ℕ). drop (k + n) (take at out ++ text ++ drop (at + length text) out)) (sym (length-head text h))
      ∙ drop-append-add (take at out ++ text) (drop (at + length text) out) n
      ∙ drop-drop n (at + length text) out

  -- two texts, one behind the other
  written-two : (t u : List ℕ) → at ≤ length out
      → written (written out at t) (at + length t) u ≡ written out at (t ++ u)
  unfolding written
  written-two t u h =
      let more : at + length t + length u ≡ at + length (t ++ u) = rw length-append (omega arith) in
      ap (λ (front : List ℕ). front ++ u ++ drop (at + length t + length u) (written out at t)) (take-written t h)
      ∙ ap (λ (rest : List ℕ). take at out ++ t ++ u ++ rest) (drop-written t (length u) h)
      ∙ ap (λ (front : List ℕ). front ++ drop (at + length t + length u) out) (append_assoc (take at out) t u)
      ∙ ap (λ (n : ℕ). take at out ++ (t ++ u) ++ drop n out) more

  pub wrote_two : {t u mid after : List ℕ} {m r : ℕ} → at ≤ length out → Wrote out at t mid m → Wrote mid m u after r
      → Wrote out at (t ++ u) after r
  wrote_two {t} {u} {mid} {after} {m} {r} h one two =
      record {
        over = two.over ∙ ap (λ (l : List ℕ). written l m u) one.over
            ∙ ap (λ (n : ℕ). written (written out at t) n u) one.to ∙ written-two t u h;
        to = two.to ∙ rw (one.to, length-append) (omega arith);
      }

  -- the buffer up to the end of the text
  pub wrote_take : {text after : List ℕ} {end : ℕ} → at ≤ length out → Wrote out at text after end
      → take end after ≡ take at out ++ text
  wrote_take {text} h wrote = rw (wrote.over, wrote.to) (take-written text h)

  -- nothing
  pub wrote_none : Wrote out at [] out at
  unfolding written
  wrote_none =
      record {
        over = let e : at + 0 ≡ at = omega arith in sym (rw (e, append-nil (take at out)) (take-append-drop at out));
        to = omega arith;
      }

-- ---- the texts of the elements of a list

-- the texts of the first elements, with the next
pub joined_next : {A : Type 0} (text : A → List ℕ) (xs : List A) (i : ℕ) (d : A) → i < length xs
    → joined text (take (i + 1) xs) ≡ joined text (take i xs) ++ text (get_or xs i d)
joined_next text [] i d h = absurd (omega arith)
joined_next text (x ∷ xs) zero d h = rw append-nil
joined_next text (x ∷ xs) (suc i) d h =
    let e : suc i + 1 ≡ suc (i + 1) = omega arith in
    rw (e, append_assoc, joined_next text xs i d (omega arith))

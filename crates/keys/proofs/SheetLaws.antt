-- The sheet has exercise n exactly if the test of answer 1 says no; and the key of n is its 80 bytes from 80 n on.
-- Each test of `no_key` is turned into its fact about the length, and linear arithmetic joins these to whole records.
use Prim.Native.Nat.{ℕ, ◌+◌, ◌*◌, ◌/◌, ◌%◌, ◌≤◌, ◌<◌}
use mathlib.Core.Path.{◌≡◌, ◌∙◌}
use mathlib.Core.List.{List}
use mathlib.Core.Bool.{false, not}
use mathlib.Mathlib.Data.Bool.Basic.{or-eq-false-eq-eq-false-and-eq-false as or-none}
use native.Mathlib.Decide.{dec_lt}
use native.Mathlib.Omega.{arith}
use lib.ListN.{length, get_or, take, drop, length-drop, length-take, get_or-eq_default}
use lib.Seq.{length-take-le, get_or-take, get_or-drop}
use lib.Dec.{eqb, ltb}
use borrow.Author.Tests.{eqb-true, eqb-false, ltb-false, leb-false, not-false, ne_eqb, eq-eqb, le-ltb, lt-leb}
use Rattle.bits.specs.Bytes.{Bytes}
use Rattle.keys.specs.Sheet.{record_size, sheet_limit, HasExercise, no_key, key_at}

module _ (sheet : List ℕ) (n : ℕ) where
  pub has_exercise : no_key sheet n ≡ false → HasExercise sheet n
  unfolding no_key
  has_exercise e =
      let a = (or-none (eqb (length sheet) 0) _).0 e in
      let b = (or-none (not (eqb (length sheet % record_size) 0)) _).0 a.1 in
      let d = (or-none (ltb sheet_limit (length sheet)) _).0 b.1 in
      let some : length sheet ≡ 0 → ⊥ = eqb-false (length sheet) 0 a.0 in
      let whole : length sheet % record_size ≡ 0 = eqb-true (length sheet % record_size) 0 (not-false _ b.0) in
      let few : length sheet ≤ sheet_limit = ltb-false sheet_limit (length sheet) d.0 in
      let there : n < length sheet / record_size = leb-false (length sheet / record_size) n d.1 in
      record {
        records = length sheet / record_size;
        whole = omega arith;
        some = omega arith;
        few = omega arith;
        there = there;
      }

  pub exercise_has : HasExercise sheet n → no_key sheet n ≡ false
  unfolding no_key
  exercise_has h =
      rw (
        ne_eqb (length sheet) 0 (λ z. omega arith),
        eq-eqb (length sheet % record_size) 0 (omega arith),
        le-ltb sheet_limit (length sheet) (omega arith),
        lt-leb (length sheet / record_size) n (omega arith),
      )

  -- the record lies whole in the sheet
  pub record_whole : HasExercise sheet n → record_size * n + record_size ≤ length sheet
  record_whole h = omega arith

  pub key_length : HasExercise sheet n → length (key_at sheet n) ≡ record_size
  unfolding key_at
  key_length h =
      length-take-le record_size (drop (record_size * n) sheet) (rw length-drop (omega (arith, record_whole h)))

  -- byte i of exercise n is the sheet's byte 80 n + i
  pub key_byte : (i : ℕ) → i < record_size → get_or (key_at sheet n) i 0 ≡ get_or sheet (record_size * n + i) 0
  unfolding key_at
  key_byte i l = get_or-take record_size (drop (record_size * n) sheet) i 0 l ∙ get_or-drop (record_size * n) sheet i 0

  -- a key has no byte past its 80
  key-end : (i : ℕ) → record_size ≤ i → get_or (key_at sheet n) i 0 ≡ 0
  unfolding key_at
  key-end i l = get_or-eq_default (take record_size (drop (record_size * n) sheet)) 0 (rw length-take (omega arith))

  pub key_bytes : Bytes sheet → Bytes (key_at sheet n)
  key_bytes bytes i = split (dec_lt i record_size)
    where
      split : Dec (i < record_size) → get_or (key_at sheet n) i 0 < 256
      split (yes l) = rw (key_byte i l) (bytes (record_size * n + i))
      split (no f) = rw (key-end i (omega arith)) (omega arith)

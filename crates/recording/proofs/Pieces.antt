-- A recording is heard alike in whatever pieces it comes.
use Rattle.std.proofs.Common.{◌≡◌, ℕ, zero, suc, ◌+◌, ◌-◌, ◌*◌, ◌/◌, ◌%◌, ◌^◌, ◌<◌, ◌≤◌, List, ◌++◌, length, sym, refl, ap, ◌∙◌, ap₂, arith, length-append, get_or-append-add}
use lib.ListN.{get_or-append}
use Rattle.bits.specs.Bytes.{bit_at}
use Rattle.recording.specs.declared.Ear.{Ear}
use Rattle.recording.specs.Ear.{took_of, took_from, hear_of}

-- ---- the bits of two pieces

module _ (p r : List ℕ) where
  bit-front : (i : ℕ) → i < 8 * length p → bit_at (p ++ r) i ≡ bit_at p i
  unfolding bit_at
  bit-front i h = ap (λ (byte : ℕ). byte / 2 ^ (7 - i % 8) % 2) (get_or-append p r 0 (i / 8) (omega arith))

  bit-back : (i : ℕ) → bit_at (p ++ r) (8 * length p + i) ≡ bit_at r i
  unfolding bit_at
  bit-back i =
      let byte : (8 * length p + i) / 8 ≡ length p + i / 8 = omega arith in
      let bit : (8 * length p + i) % 8 ≡ i % 8 = omega arith in
      rw (byte, bit, get_or-append-add p r (i / 8) 0)

  -- ---- what is heard of them

  took-front : (n i : ℕ) (ear : Ear) → i + n ≤ 8 * length p → took_from ear (p ++ r) i n ≡ took_from ear p i n
  unfolding took_from
  took-front zero i ear h = refl
  took-front (suc n) i ear h =
      ap (λ (bit : ℕ). took_from (took_of ear bit) (p ++ r) (i + 1) n) (bit-front i (omega arith))
      ∙ took-front n (i + 1) (took_of ear (bit_at p i)) (omega arith)

  took-back : (n i : ℕ) (ear : Ear) → took_from ear (p ++ r) (8 * length p + i) n ≡ took_from ear r i n
  unfolding took_from
  took-back zero i ear = refl
  took-back (suc n) i ear =
      let on : 8 * length p + i + 1 ≡ 8 * length p + (i + 1) = omega arith in
      ap₂ (λ (bit next : ℕ). took_from (took_of ear bit) (p ++ r) next n) (bit-back i) on
      ∙ took-back n (i + 1) (took_of ear (bit_at r i))

-- some bits, and then more
took_more : (n m i : ℕ) (ear : Ear) (s : List ℕ) → took_from ear s i (n + m) ≡ took_from (took_from ear s i n) s (i + n) m
unfolding took_from
took_more zero m i ear s =
    let none : 0 + m ≡ m = omega arith in
    let here : i + 0 ≡ i = omega arith in rw (none, here)
took_more (suc n) m i ear s =
    let more : suc n + m ≡ suc (n + m) = omega arith in
    let on : i + suc n ≡ i + 1 + n = omega arith in
    rw (more, on) (took_more n m (i + 1) (took_of ear (bit_at s i)) s)

-- one piece and then another are the two as one
pub hear_pieces : (ear : Ear) (p r : List ℕ) → hear_of (hear_of ear p) r ≡ hear_of ear (p ++ r)
unfolding hear_of
hear_pieces ear p r =
    let all : 8 * length (p ++ r) ≡ 8 * length p + 8 * length r = rw length-append (omega arith) in
    let start : 0 + 8 * length p ≡ 8 * length p + 0 = omega arith in
    sym (rw all (took_more (8 * length p) (8 * length r) 0 ear (p ++ r)
    ∙ ap (λ (i : ℕ). took_from (took_from ear (p ++ r) 0 (8 * length p)) (p ++ r) i (8 * length r)) start
    ∙ took-back p r (8 * length r) 0 (took_from ear (p ++ r) 0 (8 * length p))
    ∙ ap (λ (now : Ear). took_from now r 0 (8 * length r)) (took-front p r (8 * length p) 0 ear (omega arith))))

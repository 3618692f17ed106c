-- The bits of a source, fed one after the other: their list, its blocks, and what has come after one bit more.
use Prim.Native.Nat.{ℕ, zero, suc, ◌+◌, ◌*◌, ◌^◌, ◌<◌, ◌≤◌}
use mathlib.Core.Path.{◌≡◌, refl, ◌∙◌}
use mathlib.Core.List.{List, [], ◌∷◌, ◌++◌}
use mathlib.Core.Logic.{⊎_elim}
use native.Mathlib.Nat.{eq-or-lt_of_le, pow-suc}
use native.Mathlib.Numerals.{add-one}
use native.Mathlib.Omega.{arith}
use lib.ListN.{length, take, get_or-append}
use lib.Seq.{get_or_at, take-suc}
use Rattle.bits.specs.Spell.{spell, listed}
use Rattle.bits.proofs.Spelling.{spell_cong, spell-moved}
use Rattle.history.specs.Locked.{block_of}
use Rattle.history.specs.Heard.{Phase, heard_in, phase_after}
use Rattle.history.specs.Streams.{bits_from, sent_block}
use Rattle.history.proofs.Growing.{length_more}

-- ---- the list

pub length_from : (f : ℕ → ℕ) (i n : ℕ) → length (bits_from f i n) ≡ n
unfolding bits_from
length_from f i zero = refl
length_from f i (suc n) = length_more (bits_from f i n) (f (i + n)) ∙ rw (length_from f i n, add-one n)

pub listed_from : (f : ℕ → ℕ) (i n j : ℕ) → j < n → listed (bits_from f i n) j ≡ f (i + j)
unfolding bits_from
listed_from f i zero j h = absurd (omega arith)
listed_from f i (suc n) j h =
    ⊎_elim (λ e. rw e (get_or_at (bits_from f i n) (f (i + n)) [] 0 n (length_from f i n)))
    (λ l. get_or-append (bits_from f i n) (f (i + n) ∷ []) 0 j (rw (length_from f i n) l) ∙ listed_from f i n j l)
    (eq-or-lt_of_le {n = j} {m = n} (omega arith))

-- the first bits of a list
pub take_from : (bits : List ℕ) (n : ℕ) → n ≤ length bits → take n bits ≡ bits_from (listed bits) 0 n
unfolding bits_from
take_from bits zero h = refl
take_from bits (suc n) h =
    let start : 0 + n ≡ n = omega arith in
    take-suc bits n 0 (omega arith) ∙ rw (take_from bits n (omega arith), start)

-- ---- what it spells

pub spell-fed : (f : ℕ → ℕ) (i n j c : ℕ) → j + c ≤ n → spell (listed (bits_from f i n)) j c ≡ spell f (i + j) c
spell-fed f i n j c h =
    spell_cong (listed (bits_from f i n)) (λ k. f (i + k)) j c (λ k _ l. listed_from f i n k (omega arith))
    ∙ spell-moved f i j c

-- the blocks of a stream that is fed from block s on
pub block-fed : (f : ℕ → ℕ) (s n k : ℕ) → 26 * k + 26 ≤ n → block_of (bits_from f (26 * s) n) k ≡ sent_block f (s + k)
block-fed f s n k h =
    let start : 26 * s + 26 * k ≡ 26 * (s + k) = omega arith in rw start at (spell-fed f (26 * s) n (26 * k) 26 h)

-- so many bits spell no more, whatever stands around them
pub spell_few : (f : ℕ → ℕ) (i n : ℕ) → ((j : ℕ) → i ≤ j → j < i + n → f j < 2) → spell f i n < 2 ^ n
unfolding spell
spell_few f i zero small = omega arith
spell_few f i (suc n) small =
    rw (pow-suc 2 n)
    (omega (arith, spell_few f i n (λ j p q. small j p (omega arith)), small (i + n) (omega arith) (omega arith)))

-- ---- what has come

pub phase-more : (phase : Phase) (bits : List ℕ) (bit : ℕ)
    → phase_after phase (bits ++ bit ∷ []) ≡ (heard_in (phase_after phase bits) bit).phase
unfolding phase_after
phase-more phase [] bit = refl
phase-more phase (b ∷ bits) bit = phase-more (heard_in phase b).phase bits bit

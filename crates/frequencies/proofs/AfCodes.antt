-- What each AF code means and what a word means, in the numbers of the rules.
use Prim.Native.Nat.{ℕ, ◌+◌, ◌-◌, ◌*◌, ◌/◌, ◌%◌, ◌≤◌, ◌<◌}
use mathlib.Core.Bool.{or-true, and-false}
use mathlib.Core.Path.{◌≡◌, refl}
use native.Mathlib.Omega.{arith}
use borrow.Author.Tests.{le-leb, lt-leb, lt-ltb, le-ltb}
use Rattle.frequencies.specs.Frequency.{first_code, last_code}
use Rattle.frequencies.specs.AfList.{none_expected, last_count, af_code, af_word}
use Rattle.frequencies.specs.declared.Meaning.TheVariants.{Count, Frequency, NoChange}

module _ (c : ℕ) where
  -- 224 to 249: the list is emptied, code minus 224 are expected
  pub count_code : 224 ≤ c → c ≤ 249 → af_code c ≡ Count (c - 224)
  unfolding af_code
  count_code lo hi = simp (le-leb none_expected c (omega arith), le-leb c last_count (omega arith))

  -- 1 to 204: frequency 87,500 + 100 × code kHz
  pub frequency_code_lem : 1 ≤ c → c ≤ 204 → af_code c ≡ Frequency (87500 + 100 * c)
  unfolding af_code
  frequency_code_lem lo hi =
      simp (
        lt-leb none_expected c (omega arith),
        le-ltb c first_code (omega arith),
        le-ltb last_code c (omega arith),
      )

  -- 205 to 223: no change
  pub filler_code : 205 ≤ c → c ≤ 223 → af_code c ≡ NoChange
  unfolding af_code
  filler_code lo hi = simp (lt-leb none_expected c (omega arith), lt-ltb last_code c (omega arith), or-true)

  -- 250 to 255, or any number above: no change
  pub high_code : 250 ≤ c → af_code c ≡ NoChange
  unfolding af_code
  high_code lo = simp (lt-leb c last_count (omega arith), and-false, lt-ltb last_code c (omega arith), or-true)

-- 0: no change
pub zero-code : af_code 0 ≡ NoChange
unfolding af_code
zero-code = refl

-- 224: emptied, none expected
pub none-code : af_code 224 ≡ Count 0
unfolding af_code
none-code = refl

-- a word is its two codes, high byte first
pub word-codes : (h l : ℕ) → l < 256 → af_word (256 * h + l) ≡ record { first = af_code h; second = af_code l }
unfolding af_word
word-codes h l below =
    let e : (256 * h + l) / 256 ≡ h = omega arith in
    let f : (256 * h + l) % 256 ≡ l = omega arith in
    rw (e, f)

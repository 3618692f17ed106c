-- Words: the letters that spell a word's number are the word's letters again.
use Prim.Native.Nat.{ℕ, ◌+◌, ◌*◌, ◌/◌, ◌%◌, ◌<◌, ◌≤◌}
use mathlib.Core.Path.{◌≡◌, sym, ap, ap₂, ◌∙◌}
use mathlib.Core.List.{List, [], ◌∷◌, ◌++◌, append-nil}
use native.Mathlib.Omega.{arith}
use lib.Seq.{append_snoc}
use Rattle.letters.specs.Letters.{spelling, letters_of}
use Rattle.letters.proofs.Digits.{digits_small, digits_large}

-- codes of a byte each
abbrev pub Bytes : List ℕ → Type 0
Bytes [] = Unit {0}
Bytes (c ∷ cs) = (c < 256) × Bytes cs

-- one letter more
next_letter : (high c : ℕ) → 1 ≤ high → c < 256 → letters_of (256 * high + c) ≡ letters_of high ++ c ∷ []
next_letter high c h b =
    let quotient : (256 * high + c) / 256 ≡ high = omega arith in
    let rest : 0 + (256 * high + c) % 256 ≡ c = omega arith in
    digits_large 256 0 (omega arith) (256 * high + c) (omega arith)
    ∙ ap₂ (λ (front : ℕ) (last : ℕ). letters_of front ++ last ∷ []) quotient rest

one_letter : (c : ℕ) → c < 256 → letters_of c ≡ c ∷ []
one_letter c b =
    let alone : 0 + c ≡ c = omega arith in
    digits_small 256 0 (omega arith) c b ∙ ap (λ (last : ℕ). last ∷ []) alone

-- letters behind a number that is not 0
behind : (cs : List ℕ) (high : ℕ) → 1 ≤ high → Bytes cs → letters_of (spelling cs high) ≡ letters_of high ++ cs
behind [] high h b = sym (append-nil (letters_of high))
behind (c ∷ cs) high h b =
    behind cs (256 * high + c) (omega arith) b.1
    ∙ ap (λ (l : List ℕ). l ++ cs) (next_letter high c h b.0) ∙ append_snoc (letters_of high) c cs

-- a word whose first letter is not 0 is shown as its letters
pub letters-spelling : (c : ℕ) (cs : List ℕ) → 1 ≤ c → Bytes (c ∷ cs) → letters_of (spelling (c ∷ cs) 0) ≡ c ∷ cs
letters-spelling c cs h b =
    let alone : 256 * 0 + c ≡ c = omega arith in
    ap (λ (n : ℕ). letters_of (spelling cs n)) alone ∙ behind cs c h b.1
    ∙ ap (λ (l : List ℕ). l ++ cs) (one_letter c b.0)

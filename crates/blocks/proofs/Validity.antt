-- What validity is: the test and the rule's words agree, a valid block leaves just the offset of its kind, at most
-- one kind fits.
use Prim.Native.Nat.{ℕ, ◌+◌, ◌*◌, ◌/◌, ◌%◌, ◌<◌}
use mathlib.Core.Path.{◌≡◌, refl, sym, ap, ◌∙◌}
use mathlib.Core.Bool.{true, false, cond}
use native.Mathlib.Nat.{div-add-mod'}
use native.Mathlib.Decide.{ℕ_discrete}
use native.Mathlib.Omega.{arith}
use lib.Dec.{eqb, lit<}
use lib.Bits.{bit_xor, xor_self, xor_lt, xor_shifted}
use borrow.Author.Tests.{eq-eqb, ne_eqb, eqb-true}
use Rattle.bits.proofs.Xor.{xor_equal, xor_front}
use Rattle.blocks.specs.Divide.{remainder}
use Rattle.blocks.specs.Block.{offset_of, check_of, write_of, Valid, valid, word_of, limit}
use Rattle.blocks.specs.declared.Kind.{Kind}
use Rattle.blocks.specs.declared.Kind.TheVariants.{A, B, C, CPrime, D}
use Rattle.blocks.proofs.Division.{
  remainder-xor,
  remainder_small,
  remainder-lt,
  zero_of_multiple,
  multiple_of-zero,
}
use Rattle.blocks.proofs.Rows.{remainder-word}

-- what holds of each of the five holds of any
pub each-kind : (P : Kind → Type 0) → P A → P B → P C → P CPrime → P D → (k : Kind) → P k
each-kind P a b c c' d A = a
each-kind P a b c c' d B = b
each-kind P a b c c' d C = c
each-kind P a b c c' d CPrime = c'
each-kind P a b c c' d D = d

-- ---- the offsets

-- each has ten bits
pub offset-lt : (k : Kind) → offset_of k < 1024
offset-lt A = lit< tt
offset-lt B = lit< tt
offset-lt C = lit< tt
offset-lt CPrime = lit< tt
offset-lt D = lit< tt

-- the kind that has an offset
kind_with : ℕ → Kind
kind_with r = cond (eqb r (offset_of A)) A (cond (eqb r (offset_of B)) B
    (cond (eqb r (offset_of C)) C (cond (eqb r (offset_of CPrime)) CPrime D)))

kind_with_lem : (k : Kind) → kind_with (offset_of k) ≡ k
unfolding kind_with
kind_with_lem A = refl
kind_with_lem B = refl
kind_with_lem C = refl
kind_with_lem CPrime = refl
kind_with_lem D = refl

-- no two kinds have the same
pub offset_injective : (k l : Kind) → offset_of k ≡ offset_of l → k ≡ l
offset_injective k l e = sym (kind_with_lem k) ∙ ap kind_with e ∙ kind_with_lem l

-- ---- what a valid block leaves

-- taking the offset off the number takes it off the remainder
remainder_off : (k : Kind) (n : ℕ) → remainder (bit_xor n (offset_of k)) ≡ bit_xor (remainder n) (offset_of k)
remainder_off k n = remainder-xor n (offset_of k) ∙ ap (bit_xor (remainder n))
    (remainder_small (offset_of k) (offset-lt k))

-- the remainder of a valid block is the offset of its kind
pub valid-left : (k : Kind) (n : ℕ) → Valid k n → remainder n ≡ offset_of k
valid-left k n v =
    xor_equal (remainder n) (offset_of k) (sym (remainder_off k n) ∙ zero_of_multiple (bit_xor n (offset_of k)) v)

pub left-valid : (k : Kind) (n : ℕ) → remainder n ≡ offset_of k → Valid k n
left-valid k n e =
    multiple_of-zero (bit_xor n (offset_of k))
    (remainder_off k n ∙ ap (λ (r : ℕ). bit_xor r (offset_of k)) e ∙ xor_self (offset_of k))

-- the test asks just this
pub valid-eqb : (k : Kind) (n : ℕ) → valid k n ≡ eqb (remainder n) (offset_of k)
unfolding valid
valid-eqb k n = told (ℕ_discrete (remainder n) (offset_of k))
  where
    told : Dec (remainder n ≡ offset_of k) → eqb (remainder (bit_xor n (offset_of k))) 0 ≡ eqb (remainder n) (offset_of k)
    told (yes e) =
        eq-eqb (remainder (bit_xor n (offset_of k))) 0 (zero_of_multiple (bit_xor n (offset_of k)) (left-valid k n e))
        ∙ sym (eq-eqb (remainder n) (offset_of k) e)
    told (no d) =
        ne_eqb (remainder (bit_xor n (offset_of k))) 0 (λ z. d
        (valid-left k n (multiple_of-zero (bit_xor n (offset_of k)) z)))
        ∙ sym (ne_eqb (remainder n) (offset_of k) d)

-- the test is passed exactly by what is valid
pub valid_true : (k : Kind) (n : ℕ) → Valid k n → valid k n ≡ true
valid_true k n v = valid-eqb k n ∙ eq-eqb (remainder n) (offset_of k) (valid-left k n v)

pub true-valid : (k : Kind) (n : ℕ) → valid k n ≡ true → Valid k n
true-valid k n t = left-valid k n (eqb-true (remainder n) (offset_of k) (sym (valid-eqb k n) ∙ t))

pub valid_false : (k : Kind) (n : ℕ) → (Valid k n → ⊥) → valid k n ≡ false
valid_false k n v = valid-eqb k n ∙ ne_eqb (remainder n) (offset_of k) (λ e. v (left-valid k n e))

-- at most one kind fits
pub one-kind : (k l : Kind) (n : ℕ) → Valid k n → Valid l n → k ≡ l
one-kind k l n v w = offset_injective k l (sym (valid-left k n v) ∙ valid-left l n w)

-- ---- what is written

-- the check has ten bits
pub check-lt : (w : ℕ) (k : Kind) → check_of w k < 1024
unfolding check_of
check-lt w k = xor_lt 10 (remainder (w * 1024)) (offset_of k) (remainder-lt (w * 1024)) (offset-lt k)

pub write-lt : (w : ℕ) (k : Kind) → w < 65536 → write_of w k < limit
unfolding write_of
write-lt w k h = omega (arith, check-lt w k)

-- the word stands above the check
pub write_word : (w : ℕ) (k : Kind) → word_of (write_of w k) ≡ w
unfolding write_of
write_word w k = omega (arith, check-lt w k)

-- a block as it is written leaves its offset
write-left : (w : ℕ) (k : Kind) → remainder (write_of w k) ≡ offset_of k
unfolding write_of check_of
write-left w k =
    ap remainder (sym (xor_shifted w 10 (check_of w k) (check-lt w k))) ∙ remainder-xor (w * 1024) (check_of w k)
    ∙ ap (bit_xor (remainder (w * 1024))) (remainder_small (check_of w k) (check-lt w k))
    ∙ xor_front (remainder (w * 1024)) (offset_of k)

-- what is written as a kind is valid as that kind
pub write-valid : (w : ℕ) (k : Kind) → Valid k (write_of w k)
write-valid w k = left-valid k (write_of w k) (write-left w k)

-- what is valid as a kind is what writing its word as that kind gives
pub valid-write : (k : Kind) (n : ℕ) → Valid k n → write_of (word_of n) k ≡ n
unfolding write_of check_of
valid-write k n v =
    let upper : ℕ = remainder (n / 1024 * 1024) in
    ap (λ (x : ℕ). n / 1024 * 1024 + x)
    (ap (bit_xor upper) (sym (remainder-word n ∙ valid-left k n v)) ∙ xor_front upper (n % 1024))
    ∙ div-add-mod' n 1024

-- The machine's places against place numbers: what each table of the machine says, by (p + 1) % 4.
-- Four cases each; of a third place it does not matter which of the three it is.
use Prim.Native.Nat.{ℕ, zero, suc, ◌+◌, ◌%◌, ◌<◌}
use mathlib.Core.Path.{◌≡◌, refl, sym}
use mathlib.Core.Bool.{Bool, true, false, cond, ◌&&◌}
use native.Mathlib.Numerals.{add-one}
use native.Mathlib.Omega.{arith}
use lib.Dec.{eqb, leb, leb-zero, leb-suc-suc}
use Rattle.blocks.specs.Block.{Judged, judge_of}
use Rattle.blocks.specs.declared.Kind.{Kind}
use Rattle.blocks.specs.declared.Kind.TheVariants.{A, B, C, CPrime, D}
use Rattle.std.specs.Prelude.{Ok, Err}
use Rattle.groups.specs.declared.Group.{Group}
use Rattle.groups.specs.Group.{empty_of}
use Rattle.groups.specs.Header.{version_of, third_kind}
use Rattle.receiver.specs.declared.Place.{Place}
use Rattle.receiver.specs.declared.Place.TheVariants.{First, Second, ThirdC, ThirdCPrime, ThirdBad, Fourth}
use Rattle.receiver.specs.Rules.{third_of, judged_at}
use Rattle.receiver.specs.Machine.{place_of, third_place_of, is_hunting_of, index_of, judge_at_of}
use Rattle.receiver.specs.Machine.{after_of, completes_of, held_of, hand_of}

-- the machine's place at place p, the third by how the second block was judged
abbrev pub place_for : ℕ → Judged → Place
place_for zero second = First
place_for (suc zero) second = Second
place_for (suc (suc zero)) second = third_place_of second
place_for (suc (suc (suc p))) second = Fourth

-- ---- a third place is one of three

-- what holds of C and of C' holds of a third kind
pub third-kind : (P : Kind → Type 0) → P C → P CPrime → (word2 : ℕ) → P (third_kind word2)
unfolding third_kind
third-kind P c c' word2 = told (eqb (version_of word2) 0)
  where
    told : (t : Bool) → P (cond t C CPrime)
    told true = c
    told false = c'

third-place : (P : Place → Type 0) → P ThirdC → P ThirdCPrime → P ThirdBad → (second : Judged) → P (third_place_of second)
third-place P c c' bad (Ok word2) = third-kind (λ kind. P (place_of kind)) c c' word2
third-place P c c' bad (Err error) = bad

-- ---- the tables

pub place-locked : (p : ℕ) (second : Judged) → is_hunting_of (place_for p second) ≡ false
place-locked zero second = refl
place-locked (suc zero) second = refl
place-locked (suc (suc zero)) second = third-place (λ place. is_hunting_of place ≡ false) refl refl refl second
place-locked (suc (suc (suc p))) second = refl

pub place-index : (p : ℕ) (second : Judged) → p < 4 → index_of (place_for p second) ≡ p
place-index zero second h = refl
place-index (suc zero) second h = refl
place-index (suc (suc zero)) second h = third-place (λ place. index_of place ≡ 2) refl refl refl second
place-index (suc (suc (suc zero))) second h = refl
place-index (suc (suc (suc (suc p)))) second h = absurd (omega arith)

-- the block that is expected there is judged as the rules say
judge-kind : (kind : Kind) (n : ℕ) → judge_at_of (place_of kind) n ≡ judge_of n kind
judge-kind A n = refl
judge-kind B n = refl
judge-kind C n = refl
judge-kind CPrime n = refl
judge-kind D n = refl

judge_third : (second : Judged) (n : ℕ) → judge_at_of (third_place_of second) n ≡ third_of second n
judge_third (Ok word2) n = judge-kind (third_kind word2) n
judge_third (Err error) n = refl

pub place-judge : (p : ℕ) (second : Judged) (n : ℕ) → judge_at_of (place_for p second) n ≡ judged_at p second n
place-judge zero second n = refl
place-judge (suc zero) second n = refl
place-judge (suc (suc zero)) second n = judge_third second n
place-judge (suc (suc (suc p))) second n = refl

pub place_after : (p : ℕ) (second : Judged) (n : ℕ) → p < 4
    → after_of (place_for p second) (judged_at p second n) ≡ place_for ((p + 1) % 4) (judge_of n B)
place_after zero second n h = refl
place_after (suc zero) second n h = refl
place_after (suc (suc zero)) second n h =
    third-place (λ place. after_of place (third_of second n) ≡ Fourth) refl refl refl second
place_after (suc (suc (suc zero))) second n h = refl
place_after (suc (suc (suc (suc p)))) second n h = absurd (omega arith)

pub place_completes : (p : ℕ) (second : Judged) (held : Bool) → p < 4
    → completes_of (place_for p second) held ≡ (eqb ((p + 1) % 4) 0 && held)
place_completes zero second held h = refl
place_completes (suc zero) second held h = refl
place_completes (suc (suc zero)) second held h =
    third-place (λ place. completes_of place held ≡ false) refl refl refl second
place_completes (suc (suc (suc zero))) second held h = refl
place_completes (suc (suc (suc (suc p)))) second held h = absurd (omega arith)

leb-more : (p m : ℕ) → leb p m ≡ leb (suc p) (m + 1)
leb-more p m = rw (add-one m) (sym (leb-suc-suc p m))

-- the group is in hand where as many blocks have come as its place says
pub place-held : (p : ℕ) (second : Judged) (m : ℕ) → p < 4
    → held_of (place_for p second) (leb p m) ≡ leb ((p + 1) % 4) (m + 1)
place-held zero second m h = leb-more 0 m
place-held (suc zero) second m h = leb-more 1 m
place-held (suc (suc zero)) second m h =
    third-place (λ place. held_of place (leb 2 m) ≡ leb 3 (m + 1)) (leb-more 2 m) (leb-more 2 m) (leb-more 2 m) second
place-held (suc (suc (suc zero))) second m h = sym (leb-zero (m + 1))
place-held (suc (suc (suc (suc p)))) second m h = absurd (omega arith)

pub place_hand : (p : ℕ) (second : Judged) (hand : Group) → p < 4
    → hand_of (place_for p second) hand ≡ cond (eqb ((p + 1) % 4) 0) empty_of hand
place_hand zero second hand h = refl
place_hand (suc zero) second hand h = refl
place_hand (suc (suc zero)) second hand h = third-place (λ place. hand_of place hand ≡ hand) refl refl refl second
place_hand (suc (suc (suc zero))) second hand h = refl
place_hand (suc (suc (suc (suc p)))) second hand h = absurd (omega arith)

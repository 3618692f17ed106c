-- What stands at the front of the encoder's buffer is what goes to standard output.
use Prim.Native.Nat.{ℕ, ◌≤◌}
use mathlib.Core.Path.{◌≡◌, refl, ap, sym, ◌∙◌}
use mathlib.Core.List.{List, ◌++◌}
use native.Mathlib.Omega.{arith}
use lib.ListN.{length, take, drop}
use lib.Seq.{take_at}
use Rattle.keys.specs.Sheet.{key_at}
use Rattle.std.specs.Prelude.{Result, Ok, Err}
use Rattle.encoder.specs.declared.EncodeError.{EncodeError}
use Rattle.encoder.specs.declared.EncodeError.TheVariants.{NoKey, BadKey, TooShort}
use Rattle.encoder.specs.Encoding.{encoding, sent_of, size_of}
use Rattle.encoder.specs.Answer.{Says, encode_of, out_of}
use Rattle.encoder.proofs.SizeLaws.{size_most}
use Rattle.encoder.proofs.AnswerLaws.{answer_says}
use Rattle.encoder.proofs.BufferLaws.{written_out}
use Rattle.answers.specs.Encoded.{output_text, written_of, output_room}

module _ (sheet : List ℕ) (n : ℕ) where
  -- so many bytes at most
  pub written_most : (room : ℕ) → written_of (encode_of sheet n room) ≤ output_room
  written_most room = by_answer (encode_of sheet n room) (answer_says sheet n room)
    where
      by_answer : (r : Result ℕ EncodeError) → Says sheet n room r → written_of r ≤ output_room
      by_answer (Ok count) says = omega (arith, size_most (key_at sheet n), says.3)
      by_answer (Err NoKey) says = omega arith
      by_answer (Err BadKey) says = omega arith
      by_answer (Err TooShort) says = omega arith

  -- and these are the encoding, or none
  pub written_front : (out : List ℕ)
      → take (written_of (encode_of sheet n (length out))) (out_of sheet n out)
      ≡ output_text (encode_of sheet n (length out)) (key_at sheet n)
  unfolding size_of
  written_front out = by_answer (encode_of sheet n (length out)) (answer_says sheet n (length out))
    where
      front : (count : ℕ) → count ≡ size_of (key_at sheet n)
          → out_of sheet n out ≡ encoding (key_at sheet n) (sent_of (key_at sheet n)) ++ drop (size_of (key_at sheet n)) out
          → take count (out_of sheet n out) ≡ encoding (key_at sheet n) (sent_of (key_at sheet n))
      front count e whole =
          ap (take count) whole
          ∙ take_at (encoding (key_at sheet n) (sent_of (key_at sheet n))) (drop (size_of (key_at sheet n)) out) count
          (sym e)

      by_answer : (r : Result ℕ EncodeError) → Says sheet n (length out) r
          → take (written_of r) (out_of sheet n out) ≡ output_text r (key_at sheet n)
      by_answer (Ok count) says =
          front count says.3 (written_out sheet n out says.0 says.1 says.2)
      by_answer (Err NoKey) says = refl
      by_answer (Err BadKey) says = refl
      by_answer (Err TooShort) says = refl

  -- the length of what goes to standard output
  pub output_most : length (output_text (encode_of sheet n output_room) (key_at sheet n)) ≤ output_room
  unfolding size_of
  output_most = by_answer (encode_of sheet n output_room)
    where
      by_answer : (r : Result ℕ EncodeError) → length (output_text r (key_at sheet n)) ≤ output_room
      by_answer (Ok count) = size_most (key_at sheet n)
      by_answer (Err error) = omega arith

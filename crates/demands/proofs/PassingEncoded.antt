-- What the encoder writes passes: what it leaves in the buffer begins with the encoding, which the marker's law passes.
use Prim.Native.Nat.{ℕ}
use mathlib.Core.Path.{◌≡◌, refl, sym, ap, subst, ◌∙◌}
use mathlib.Core.List.{List, ◌++◌}
use lib.ListN.{length, take, drop}
use lib.Seq.{take_at}
use Rattle.keys.specs.Sheet.{key_at}
use Rattle.encoder.specs.Encoding.{encoding, sent_of, size_of}
use Rattle.encoder.specs.Answer.{out_of}
use Rattle.encoder.proofs.AnswerLaws.{answer_written}
use Rattle.encoder.proofs.BufferLaws.{written_out}
use Rattle.marker.proofs.EncodedLaws.{encoding_passes}
use Rattle.demands.specs.Passing.{IsPassed, EncodedPasses}
use Rattle.demands.proofs.PassingExactly.{is_passed}

-- the front of what is left in the buffer
front : (k rest out : List ℕ) → out ≡ encoding k (sent_of k) ++ rest → take (size_of k) out ≡ encoding k (sent_of k)
unfolding size_of
front k rest out e = ap (take (size_of k)) e ∙ take_at (encoding k (sent_of k)) rest (size_of k) refl

pub encoded_passes : EncodedPasses
encoded_passes sheet n out bytes (there, good) room =
    let k : List ℕ = key_at sheet n in
    let written : take (size_of k) (out_of sheet n out) ≡ encoding k (sent_of k) =
    front k (drop (size_of k) out) (out_of sheet n out) (written_out sheet n out there good room) in (
      size_of k,
      answer_written sheet n (length out) there good room,
      subst (IsPassed sheet n) (sym written)
          (is_passed sheet n (encoding k (sent_of k)) (encoding_passes sheet n bytes there good)),
    )

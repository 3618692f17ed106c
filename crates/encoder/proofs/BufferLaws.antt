-- What a buffer holds while groups are put into it one after the other, and at the end.
use Prim.Native.Nat.{ℕ, ◌+◌, ◌*◌, ◌<◌, ◌≤◌}
use mathlib.Core.Path.{◌≡◌, refl, sym, ap, ◌∙◌}
use mathlib.Core.List.{List, [], ◌∷◌, ◌++◌}
use mathlib.Core.Bool.{cond}
use native.Mathlib.Numerals.{add-one}
use native.Mathlib.Omega.{arith}
use lib.ListN.{length, drop, length-append, length-drop}
use lib.Seq.{take_at, drop-append-add, drop-drop}
use borrow.Author.Tests.{lt-ltb, le-ltb}
use Rattle.groups.specs.Written.{group_size, no_room, buffer_of}
use Rattle.keys.specs.Sheet.{HasExercise, key_at}
use Rattle.keys.specs.Good.{GoodKey}
use Rattle.keys.specs.Wanted.{addresses_of}
use Rattle.encoder.specs.Words.{words_at}
use Rattle.encoder.specs.Encoding.{encoding, below, sent_of, size_of}
use Rattle.encoder.specs.Answer.{encoded_number, too_short, encode_of, after_of, out_of}
use Rattle.std.specs.Prelude.{Result, Ok, Err}
use Rattle.encoder.specs.declared.EncodeError.{EncodeError}
use Rattle.encoder.specs.declared.EncodeError.TheVariants.{TooShort}
use Rattle.encoder.proofs.EncodingLaws.{length_encoding, encoding_next}
use Rattle.encoder.proofs.SentLaws.{length-below, length_sent}
use Rattle.encoder.proofs.SizeLaws.{size_sent}
use Rattle.encoder.proofs.AnswerLaws.{answer_written}

module _ (k d : List ℕ) where
  -- the encoding of a list of addresses over the front of d
  abbrev pub over_front : List ℕ → List ℕ
  over_front list = encoding k list ++ drop (group_size * length list) d

  -- it is as long as d
  pub length_front : (list : List ℕ) → group_size * length list ≤ length d → length (over_front list) ≡ length d
  length_front list h =
      length-append (encoding k list) (drop (group_size * length list) d)
      ∙ rw (length_encoding k list, length-drop (group_size * length list) d) (omega arith)

  -- one group put behind it
  pub put_next : (list : List ℕ) (a : ℕ) → group_size * length list + group_size ≤ length d
      → buffer_of (words_at k a) (over_front list) (group_size * length list) ≡ over_front (list ++ a ∷ [])
  unfolding buffer_of no_room
  put_next list a h =
      let at : ℕ = group_size * length list in
      let long : length (encoding k list) ≡ at = length_encoding k list in
      let room : at + group_size ≤ length (over_front list) = rw (length_front list (omega arith)) h in
      let more : group_size * length (list ++ a ∷ []) ≡ at + group_size =
      rw (length-append list (a ∷ [])) (omega arith) in
      let behind : drop (at + group_size) (over_front list) ≡ drop (at + group_size) d =
      ap (λ (n : ℕ). drop (n + group_size) (over_front list)) (sym long)
      ∙ drop-append-add (encoding k list) (drop at d) group_size
      ∙ drop-drop group_size at d in
      rw (
        le-ltb (length (over_front list)) (at + group_size) room,
        take_at (encoding k list) (drop at d) at long,
        behind,
        more,
        encoding_next k list a,
      )

  -- the buffer before address a, and after its group
  pub put_turn : (a : ℕ) (words out after : List ℕ) → out ≡ over_front (below a) → group_size * a + group_size ≤ length d
      → words ≡ words_at k a → after ≡ buffer_of words out (group_size * a) → after ≡ over_front (below (a + 1))
  unfolding below
  put_turn a words out after e h w f =
      let n : length (below a) ≡ a = length-below a in
      let more : below (a + 1) ≡ below a ++ a ∷ [] = rw (add-one a) in
      let place : group_size * a ≡ group_size * length (below a) = rw n in
      f ∙ rw (w, e, place, more) (put_next (below a) a (rw n h))

  -- after the last one
  pub put_end : (a count : ℕ) (out : List ℕ) → out ≡ over_front (below a) → a ≤ count → count ≤ a
      → count ≡ length (sent_of k) → out ≡ after_of (Ok (size_of k)) k d
  unfolding sent_of
  put_end a count out e most least sent =
      let all : a ≡ addresses_of k = omega (arith, length_sent k) in
      e ∙ rw (all, size_sent k)

  -- ---- a key's answer, by the room

  pub key_short : length d < size_of k
      → (Err TooShort ≡ cond (too_short k (length d)) (Err TooShort) (Ok (size_of k)))
      × (d ≡ after_of (Err TooShort) k d)
  unfolding too_short
  key_short l = (rw (lt-ltb (length d) (size_of k) l), refl)

  pub key_written : (size : ℕ) (after : List ℕ) → size ≡ size_of k → size ≤ length d
      → after ≡ after_of (Ok (size_of k)) k d
      → (Ok size ≡ cond (too_short k (length d)) (Err TooShort) (Ok (size_of k)))
      × (after ≡ after_of (Ok size) k d)
  unfolding too_short
  key_written size after e l f =
      let room : size_of k ≤ length d = omega arith in
      (rw (le-ltb (length d) (size_of k) room) (ap Ok e), f ∙ ap (λ (m : ℕ). after_of (Ok m) k d) (sym e))

-- ---- the whole of it at the end

module _ (sheet : List ℕ) (n : ℕ) (out : List ℕ) where
  -- every refusal leaves the buffer unchanged
  pub refused-same : (encoded_number (encode_of sheet n (length out)) ≡ 0 → ⊥) → out_of sheet n out ≡ out
  unfolding out_of
  refused-same f = told (encode_of sheet n (length out)) f
    where
      told : (r : Result ℕ EncodeError) → (encoded_number r ≡ 0 → ⊥) → after_of r (key_at sheet n) out ≡ out
      told (Ok count) f = absurd (f refl)
      told (Err error) f = refl

  -- else it is the encoding, and the bytes beyond as they were
  pub written_out : HasExercise sheet n → GoodKey (key_at sheet n) → size_of (key_at sheet n) ≤ length out
      → out_of sheet n out ≡ encoding (key_at sheet n) (sent_of (key_at sheet n)) ++ drop (size_of (key_at sheet n)) out
  unfolding out_of
  written_out h g l = rw (answer_written sheet n (length out) h g l)

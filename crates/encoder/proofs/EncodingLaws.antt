-- What an encoding of any list of addresses holds: 13 bytes for each, and at its place the group that brings it, block
-- by block and word by word. The bytes before group g are dropped, those behind it are not read.
use Prim.Native.Nat.{ℕ, zero, suc, ◌+◌, ◌*◌, ◌<◌, ◌≤◌}
use mathlib.Core.Path.{◌≡◌, refl, sym, ap, ap₂, ◌∙◌}
use mathlib.Core.List.{List, [], ◌∷◌, ◌++◌, append_assoc, append-nil}
use native.Mathlib.Omega.{arith}
use lib.ListN.{length, get_or, take, drop, length-append}
use lib.Seq.{take_at, drop-append-add, drop-cons}
use Rattle.bits.specs.Bytes.{Bytes}
use Rattle.bits.proofs.ByteBits.{spell_front, bytes_of_lt}
use Rattle.groups.specs.Written.{group_size, group_bytes, block_of, block_in, word_in}
use Rattle.groups.proofs.RoomLaws.{length-group}
use Rattle.groups.proofs.BlocksInBytes.{block_in-drop, word_in-drop}
use Rattle.groups.proofs.RoundTrip.{block_in_group, word_in_group}
use Rattle.blocks.specs.Block.{judge_of}
use Rattle.std.specs.Prelude.{Ok}
use Rattle.blocks.proofs.Reading.{judge-write}
use Rattle.groups.specs.Header.{expected_of}
use Rattle.keys.specs.Wanted.{all_addresses}
use Rattle.encoder.specs.Words.{words_at}
use Rattle.encoder.specs.Encoding.{encoding}
use Rattle.encoder.proofs.WordLaws.{words-lt}

-- a group's bytes are bytes
group_bytes_lem : (words : List ℕ) → Bytes (group_bytes words)
unfolding group_bytes
group_bytes_lem words = bytes_of_lt group_size _

-- and so are the bytes of two lists of them
append_bytes : (s t : List ℕ) → Bytes s → Bytes t → Bytes (s ++ t)
append_bytes [] t p q i = q i
append_bytes (x ∷ s) t p q zero = p 0
append_bytes (x ∷ s) t p q (suc i) = append_bytes s t (λ j. p (suc j)) q i

-- a front that is long enough is all that is read
block_front : (s t : List ℕ) (i : ℕ) → 26 * i + 26 ≤ 8 * length s → block_in (s ++ t) i ≡ block_in s i
unfolding block_in
block_front s t i h = spell_front s t (26 * i) 26 h

word_front : (s t : List ℕ) (i : ℕ) → 26 * i + 16 ≤ 8 * length s → word_in (s ++ t) i ≡ word_in s i
unfolding word_in
word_front s t i h = spell_front s t (26 * i) 16 h

module _ (k : List ℕ) where
  -- ---- the whole

  pub length_encoding : (list : List ℕ) → length (encoding k list) ≡ group_size * length list
  unfolding encoding
  length_encoding [] = refl
  length_encoding (a ∷ rest) =
      length-append (group_bytes (words_at k a)) (encoding k rest)
      ∙ rw (length-group (words_at k a), length_encoding rest) (omega arith)

  pub encoding_bytes : (list : List ℕ) → Bytes (encoding k list)
  unfolding encoding
  encoding_bytes [] i = omega arith
  encoding_bytes (a ∷ rest) i =
      append_bytes (group_bytes (words_at k a)) (encoding k rest) (group_bytes_lem (words_at k a)) (encoding_bytes rest) i

  pub encoding_append : (list more : List ℕ) → encoding k (list ++ more) ≡ encoding k list ++ encoding k more
  unfolding encoding
  encoding_append [] more = refl
  encoding_append (a ∷ rest) more =
      rw (encoding_append rest more) (sym (append_assoc (group_bytes (words_at k a)) (encoding k rest) (encoding k more)))

  -- one address more is one group more
  pub encoding_next : (list : List ℕ) (a : ℕ)
      → encoding k (list ++ a ∷ []) ≡ encoding k list ++ group_bytes (words_at k a)
  unfolding encoding
  encoding_next list a =
      encoding_append list (a ∷ []) ∙ ap (λ (s : List ℕ). encoding k list ++ s) (append-nil (group_bytes (words_at k a)))

  -- ---- group g

  -- without its first g groups it is the encoding of the later addresses
  pub drop_groups : (g : ℕ) (list : List ℕ) → g ≤ length list
      → drop (group_size * g) (encoding k list) ≡ encoding k (drop g list)
  unfolding encoding
  drop_groups zero list h = refl
  drop_groups (suc g) [] h = absurd (omega arith)
  drop_groups (suc g) (a ∷ rest) h =
      let e : group_size * suc g ≡ length (group_bytes (words_at k a)) + group_size * g =
      rw (length-group (words_at k a)) (omega arith) in
      rw (e, drop-append-add (group_bytes (words_at k a)) (encoding k rest) (group_size * g))
      (drop_groups g rest (omega arith))

  module _ (list : List ℕ) (g : ℕ) (there : g < length list) where
    pub encoding_from : drop (group_size * g) (encoding k list)
        ≡ group_bytes (words_at k (get_or list g 0)) ++ encoding k (drop (suc g) list)
    unfolding encoding
    encoding_from = drop_groups g list (omega arith) ∙ ap (encoding k) (drop-cons list g 0 there)

    pub group_at : take group_size (drop (group_size * g) (encoding k list)) ≡ group_bytes (words_at k (get_or list g 0))
    group_at =
        ap (take group_size) encoding_from
        ∙ take_at (group_bytes (words_at k (get_or list g 0))) (encoding k (drop (suc g) list)) group_size
        (length-group (words_at k (get_or list g 0)))

    -- its blocks and words, for a key of bytes and an address of name or text
    module _ (bytes : Bytes k) (address : get_or list g 0 < all_addresses) where
      pub block_at : (p : ℕ) → p < 4 → block_in (encoding k list) (4 * g + p) ≡ block_of (words_at k (get_or list g 0)) p
      block_at p h =
          sym (block_in-drop (encoding k list) g p)
          ∙ ap (λ (s : List ℕ). block_in s p) encoding_from
          ∙ block_front (group_bytes words) (encoding k (drop (suc g) list)) p (rw (length-group words) (omega arith))
          ∙ block_in_group words (words-lt k bytes (get_or list g 0) address) p h
        where
          words : List ℕ
          words = words_at k (get_or list g 0)

      pub word_at_lem : (p : ℕ) → p < 4 → word_in (encoding k list) (4 * g + p) ≡ get_or (words_at k (get_or list g 0)) p 0
      word_at_lem p h =
          sym (word_in-drop (encoding k list) g p)
          ∙ ap (λ (s : List ℕ). word_in s p) encoding_from
          ∙ word_front (group_bytes words) (encoding k (drop (suc g) list)) p (rw (length-group words) (omega arith))
          ∙ word_in_group words (words-lt k bytes (get_or list g 0) address) p h
        where
          words : List ℕ
          words = words_at k (get_or list g 0)

      -- each block is good at its place
      pub judged_at_lem : (p : ℕ) → p < 4
          → judge_of (block_in (encoding k list) (4 * g + p)) (expected_of p (word_in (encoding k list) (4 * g + 1)))
          ≡ Ok (get_or (words_at k (get_or list g 0)) p 0)
      judged_at_lem p h =
          ap₂ (λ (n w : ℕ). judge_of n (expected_of p w)) (block_at p h) (word_at_lem 1 (omega arith))
          ∙ judge-write (get_or words p 0) (expected_of p (get_or words 1 0)) (words-lt k bytes (get_or list g 0) address p)
        where
          words : List ℕ
          words = words_at k (get_or list g 0)

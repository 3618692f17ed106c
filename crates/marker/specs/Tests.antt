-- The tests of the answers 3 to 7, each where the table's column "When" is true.
use Rattle.std.specs.Prelude.{ℕ, zero, suc, ◌+◌, ◌*◌, ◌%◌, List, Bool, true, false, not, ◌&&◌, ◌||◌, length, eqb, ltb}
use Rattle.std.specs.Prelude.{Option, Some, None}
use Rattle.std.specs.Bool.{beq}
use Rattle.blocks.specs.Block.{valid}
use Rattle.groups.specs.Header.{type_of, version_of, tp_of as tp_in, pty_of as pty_in}
use Rattle.groups.specs.Content.{text_flag}
use Rattle.groups.specs.Written.{group_size, block_in}
use Rattle.groups.specs.declared.fields.Content.{Content}
use Rattle.groups.specs.declared.fields.Content.TheVariants.{Name0A, Name0B, Text2A, Text2B, Clock4A, Other}
use Rattle.keys.specs.Fields.{pi_of, pty_of, tp_of, name_pair_of, text_pair_of}
use Rattle.keys.specs.Wanted.{name_addresses, wanted_address}
use Rattle.marker.specs.First.{first, on_found}
use Rattle.marker.specs.Submission.{word_at, kind_at, content_at}

-- the length of a submission that is empty
abbrev pub empty_length : ℕ
empty_length = 0

-- bytes of the longest submission
abbrev pub submission_limit : ℕ
submission_limit = 13312

-- 3: submission length 0, no multiple of 13, or over 13,312
unfoldable pub length_wrong : List ℕ → Bool
length_wrong s =
    eqb (length s) empty_length || (not (eqb (length s % group_size) 0) || ltb submission_limit (length s))

-- 4: a block not valid as its kind
unfoldable pub block_wrong : List ℕ → ℕ → Bool
block_wrong s j = not (valid (kind_at s j) (block_in s j))

-- ---- 5, by the first three words of a group

-- PI, TP or PTY not the key's, or version 1 and third word not the key's PI
unfoldable pub header_wrong : List ℕ → ℕ → ℕ → ℕ → Bool
header_wrong k word1 word2 word3 =
    not (eqb word1 (pi_of k))
    || (not (beq (eqb (tp_in word2) 1) (tp_of k))
    || (not (eqb (pty_in word2) (pty_of k)) || eqb (version_of word2) 1 && not (eqb word3 (pi_of k))))

-- ---- 6, by what a group carries

-- text address a comes after the name's
abbrev pub text_at : ℕ → ℕ
text_at a = name_addresses + a

-- a flag is unlike the first 2A's
unfoldable pub unlike : Option Bool → Bool → Bool
unlike None flag = false
unlike (Some held) flag = not (beq flag held)

-- name pair not the key's
unfoldable pub name_wrong : List ℕ → ℕ → ℕ → Bool
name_wrong k a pair = not (eqb pair (name_pair_of k a))

-- 2A when it is not wanted, or text not the key's, or flag unlike the first 2A's
unfoldable pub text_wrong : List ℕ → Option Bool → Bool → ℕ → ℕ → ℕ → Bool
text_wrong k held flag a one two =
    not (wanted_address k (text_at a))
    || (not (eqb one (text_pair_of k (2 * a))) || (not (eqb two (text_pair_of k (2 * a + 1))) || unlike held flag))

-- name pair or 2A text not the key's; 2A flag unlike the first 2A's; 2B at all; 2A when no text is wanted
unfoldable pub content_wrong : List ℕ → Option Bool → Content → Bool
content_wrong k held (Name0A switches a af pair) = name_wrong k a pair
content_wrong k held (Name0B switches a pair) = name_wrong k a pair
content_wrong k held (Text2A flag a one two) = text_wrong k held flag a one two
content_wrong k held (Text2B flag a pair) = true
content_wrong k held Clock4A = false
content_wrong k held Other = false

-- ---- 5 and 6, by group

-- group g is a 2A
unfoldable pub is_2a : List ℕ → ℕ → Bool
is_2a s g = eqb (type_of (word_at s g 1)) 2 && eqb (version_of (word_at s g 1)) 0

-- the flag of the first 2A among the first g groups
unfoldable pub first_flag : List ℕ → ℕ → Option Bool
first_flag s g = on_found (first (is_2a s) 0 g) (λ h. Some (text_flag (word_at s h 1))) None

-- 5: the header of group g is wrong
abbrev pub header_wrong_at : List ℕ → List ℕ → ℕ → Bool
header_wrong_at k s g = header_wrong k (word_at s g 0) (word_at s g 1) (word_at s g 2)

-- 6: the content of group g is wrong
abbrev pub content_wrong_at : List ℕ → List ℕ → ℕ → Bool
content_wrong_at k s g = content_wrong k (first_flag s g) (content_at s g)

-- 5 or 6
unfoldable pub group_wrong : List ℕ → List ℕ → ℕ → Bool
group_wrong k s g = header_wrong_at k s g || content_wrong_at k s g

-- ---- 7

-- what a group carries brings address a: 0 to 3 name, 4 to 19 text
unfoldable pub brings : Content → ℕ → Bool
brings (Name0A switches b af pair) a = eqb b a
brings (Name0B switches b pair) a = eqb b a
brings (Text2A flag b one two) a = eqb (text_at b) a
brings (Text2B flag b pair) a = false
brings Clock4A a = false
brings Other a = false

-- address a came among the first g groups
unfoldable pub came : List ℕ → ℕ → ℕ → Bool
came s zero a = false
came s (suc g) a = came s g a || brings (content_at s g) a

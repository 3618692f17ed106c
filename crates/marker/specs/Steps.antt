-- How the marker goes through the groups: what it makes of one, and what it holds between them, which is the flag of
-- the first 2A and a mask of the addresses that came, bit a for address a. The table does not speak of these.
use Rattle.std.specs.Prelude.{ℕ, ◌/◌, ◌%◌, ◌^◌, List, Bool, not, cond, eqb, Option, Some, None, Result, Ok, Err}
use Rattle.groups.specs.Content.{content_of}
use Rattle.groups.specs.declared.fields.Content.{Content}
use Rattle.groups.specs.declared.fields.Content.TheVariants.{Name0A, Name0B, Text2A, Text2B, Clock4A, Other}
use Rattle.keys.specs.Wanted.{addresses_of}
use Rattle.marker.specs.declared.Verdict.{Verdict}
use Rattle.marker.specs.declared.Verdict.TheVariants.{Passed, BadHeader, BadContent, Missing}
use Rattle.marker.specs.First.{first, on_found}
use Rattle.marker.specs.Submission.{content_at}
use Rattle.marker.specs.Tests.{header_wrong, header_wrong_at, content_wrong}

-- reading a header
unfoldable pub heading_of : List ℕ → ℕ → ℕ → ℕ → ℕ → Option Content
heading_of k word1 word2 word3 word4 =
    cond (header_wrong k word1 word2 word3) None (Some (content_of word2 word3 word4))

-- a group whose header is wrong is not looked at further
unfoldable pub step_of : List ℕ → List ℕ → ℕ → Option Bool → Result Content Verdict
step_of k s g held =
    cond (header_wrong_at k s g) (Err (BadHeader g))
    (cond (content_wrong k held (content_at s g)) (Err (BadContent g)) (Ok (content_at s g)))

-- the flag held after a group: that of the first 2A stays
unfoldable pub held_after : Option Bool → Content → Option Bool
held_after (Some held) content = Some held
held_after None (Name0A switches address af pair) = None
held_after None (Name0B switches address pair) = None
held_after None (Text2A flag address one two) = Some flag
held_after None (Text2B flag address pair) = None
held_after None Clock4A = None
held_after None Other = None

-- how many bits a mask has
abbrev pub mask_bits : ℕ
mask_bits = 32

-- the mask has address a
unfoldable pub has : ℕ → ℕ → Bool
has mask a = eqb (mask / 2 ^ a % 2) 1

-- answer 7 by the mask
unfoldable pub missing_in : List ℕ → ℕ → Verdict
missing_in k mask = on_found (first (λ a. not (has mask a)) 0 (addresses_of k)) Missing Passed

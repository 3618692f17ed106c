-- The table of the marking: which answer is given when, top to bottom. Its columns "No." and "Place" stand behind it.
use Rattle.std.specs.Prelude.{ℕ, List, not, cond, Option}
use Rattle.keys.specs.Sheet.{no_key, key_at}
use Rattle.keys.specs.Good.{key_good}
use Rattle.keys.specs.Wanted.{addresses_of}
use Rattle.marker.specs.declared.Verdict.{Verdict}
use Rattle.marker.specs.declared.Verdict.TheVariants.{Passed, NoKey, BadKey, BadLength, BadBlock, BadHeader}
use Rattle.marker.specs.declared.Verdict.TheVariants.{BadContent, Missing}
use Rattle.marker.specs.First.{first, on_found}
use Rattle.marker.specs.Submission.{groups_in, blocks_in}
use Rattle.marker.specs.Tests.{length_wrong, block_wrong, header_wrong_at, group_wrong, came}

-- ---- the places

-- of 4: first such block
unfoldable pub first_bad_block : List ℕ → Option ℕ
first_bad_block s = first (block_wrong s) 0 (blocks_in s)

-- of 5 and 6: group by group
unfoldable pub first_bad_group : List ℕ → List ℕ → Option ℕ
first_bad_group k s = first (group_wrong k s) 0 (groups_in s)

-- of 7: the lowest address that never came
unfoldable pub first_missing : List ℕ → List ℕ → Option ℕ
first_missing k s = first (λ a. not (came s (groups_in s) a)) 0 (addresses_of k)

-- ---- the answers

-- within a group 5 comes before 6
unfoldable pub group_mark : List ℕ → List ℕ → ℕ → Verdict
group_mark k s g = cond (header_wrong_at k s g) (BadHeader g) (BadContent g)

-- the content: 5 and 6 group by group, then 7
unfoldable pub content_mark : List ℕ → List ℕ → Verdict
content_mark k s = on_found (first_bad_group k s) (group_mark k s) (on_found (first_missing k s) Missing Passed)

-- a submission against a good key: 3, then 4 over the whole submission, then the content
unfoldable pub submission_mark : List ℕ → List ℕ → Verdict
submission_mark k s = cond (length_wrong s) BadLength (on_found (first_bad_block s) BadBlock (content_mark k s))

-- the whole table: 1, 2, then the submission
unfoldable pub mark_of : List ℕ → ℕ → List ℕ → Verdict
mark_of sheet n s =
    cond (no_key sheet n) NoKey
    (cond (not (key_good (key_at sheet n))) BadKey (submission_mark (key_at sheet n) s))

-- ---- the columns

-- No.
unfoldable pub mark_number : List ℕ → ℕ → List ℕ → ℕ
mark_number sheet n s =
    cond (no_key sheet n) 1
    (cond (not (key_good (key_at sheet n))) 2
    (cond (length_wrong s) 3
    (on_found (first_bad_block s) (λ block. 4)
    (on_found (first_bad_group (key_at sheet n) s) (λ group. cond (header_wrong_at (key_at sheet n) s group) 5 6)
    (on_found (first_missing (key_at sheet n) s) (λ address. 7) 0)))))

-- Place
unfoldable pub mark_place : List ℕ → ℕ → List ℕ → ℕ
mark_place sheet n s =
    cond (no_key sheet n) 0
    (cond (not (key_good (key_at sheet n))) 0
    (cond (length_wrong s) 0
    (on_found (first_bad_block s) (λ block. block)
    (on_found (first_bad_group (key_at sheet n) s) (λ group. group)
    (on_found (first_missing (key_at sheet n) s) (λ address. address) 0)))))

-- What an AF code means to a list, what the two codes of a word mean together, and the list after a word.
use Rattle.std.specs.Prelude.{ℕ, ◌+◌, ◌-◌, ◌/◌, ◌%◌, Bool, false, cond, ◌&&◌, ◌||◌, List, [], ◌∷◌, eqb, leb, get_or, take, set, replicate}
use Rattle.frequencies.specs.Frequency.{khz_of, no_frequency}
use Rattle.frequencies.specs.declared.Meaning.{Meaning}
use Rattle.frequencies.specs.declared.Meaning.TheVariants.{Count, Frequency, NoChange}
use Rattle.frequencies.specs.declared.WordMeaning.{WordMeaning}
use Rattle.frequencies.specs.declared.AfList.{AfList}

-- 224: emptied, none expected
abbrev pub none_expected : ℕ
none_expected = 224

-- 225 to 249: emptied, 1 to 25 expected (code minus 224)
abbrev pub last_count : ℕ
last_count = 249

-- a list has 25 slots, as many as can be expected
abbrev pub slots : ℕ
slots = 25

-- the count codes: 224, and 225 to 249
abbrev pub is_count : ℕ → Bool
is_count code = leb none_expected code && leb code last_count

-- what a code means: a count code empties and expects code minus 224, 1 to 204 is a frequency, others change nothing
unfoldable pub af_code : ℕ → Meaning
af_code code =
    cond (is_count code) (Count (code - none_expected)) (cond (no_frequency code) NoChange (Frequency (khz_of code)))

-- what the two codes of a word mean together: each by itself, high byte first
unfoldable pub af_word : ℕ → WordMeaning
af_word word = record { first = af_code (word / 256); second = af_code (word % 256) }

-- whether a frequency is among some
unfoldable pub is_in : ℕ → List ℕ → Bool
is_in khz [] = false
is_in khz (k ∷ ks) = eqb k khz || is_in khz ks

-- the list emptied, with so many expected
abbrev pub expecting : ℕ → AfList
expecting count = record { khz = replicate slots 0; held = 0; expected = count }

-- as many are held as expected
abbrev pub enough : AfList → Bool
enough list = leb list.expected list.held

-- no slot is left; in a list that words give, enough are held before
abbrev pub full : AfList → Bool
full list = leb slots list.held

-- the frequency is in the list
abbrev pub in_list : ℕ → AfList → Bool
in_list k list = is_in k (take list.held list.khz)

-- a frequency is appended if not in the list and fewer are held than expected
unfoldable pub appended_of : AfList → ℕ → AfList
appended_of list k =
    cond (enough list || full list || in_list k list)
    list
    (record { khz = set list.khz list.held k; held = list.held + 1; expected = list.expected })

-- the list after one meaning
unfoldable pub told_of : AfList → Meaning → AfList
told_of list (Count n) = expecting n
told_of list (Frequency k) = appended_of list k
told_of list NoChange = list

-- fresh: none held, none expected
abbrev pub empty_of : AfList
empty_of = expecting 0

-- the list after a word
unfoldable pub taken_of : AfList → ℕ → AfList
taken_of list word = told_of (told_of list (af_word word).first) (af_word word).second

-- how many are held
abbrev pub held_of : AfList → ℕ
held_of list = list.held

-- how many are expected
abbrev pub expected_of : AfList → ℕ
expected_of list = list.expected

-- frequency i of those held, from 0; 0 where there is none
abbrev pub at_of : AfList → ℕ → ℕ
at_of list i = cond (leb list.held i) 0 (get_or list.khz i 0)

-- The list of alternative frequencies, said of all words that came: since the last count code, the first different
-- frequencies in order, as many as that code expects.
use Rattle.std.specs.Prelude.{ℕ, ◌-◌, Bool, true, false, cond, List, [], ◌∷◌, ◌++◌, eqb, length, take, replicate}
use Rattle.frequencies.specs.AfList.{af_word, slots, taken_of}
use Rattle.frequencies.specs.declared.Meaning.{Meaning}
use Rattle.frequencies.specs.declared.Meaning.TheVariants.{Count, Frequency, NoChange}
use Rattle.frequencies.specs.declared.AfList.{AfList}

-- what all codes mean that came, in order, both places of each word
unfoldable pub meanings : List ℕ → List Meaning
meanings [] = []
meanings (w ∷ ws) = (af_word w).first ∷ (af_word w).second ∷ meanings ws

-- whether a count code is among them
unfoldable pub counted : List Meaning → Bool
counted [] = false
counted (Count n ∷ ms) = true
counted (Frequency k ∷ ms) = counted ms
counted (NoChange ∷ ms) = counted ms

-- the number of the last count code; none expected where none came
unfoldable pub last_number : List Meaning → ℕ
last_number [] = 0
last_number (Count n ∷ ms) = cond (counted ms) (last_number ms) n
last_number (Frequency k ∷ ms) = last_number ms
last_number (NoChange ∷ ms) = last_number ms

-- the frequencies that came, in order, each as often as it came
unfoldable pub frequencies : List Meaning → List ℕ
frequencies [] = []
frequencies (Count n ∷ ms) = frequencies ms
frequencies (Frequency k ∷ ms) = k ∷ frequencies ms
frequencies (NoChange ∷ ms) = frequencies ms

-- what came since the last count code; nothing where none came
unfoldable pub since_count : List Meaning → List Meaning
since_count [] = []
since_count (Count n ∷ ms) = cond (counted ms) (since_count ms) ms
since_count (Frequency k ∷ ms) = since_count ms
since_count (NoChange ∷ ms) = since_count ms

-- frequencies other than this one
unfoldable pub without : ℕ → List ℕ → List ℕ
without k [] = []
without k (x ∷ xs) = cond (eqb x k) (without k xs) (x ∷ without k xs)

-- the different ones, each where it came first
unfoldable pub different : List ℕ → List ℕ
different [] = []
different (k ∷ ks) = k ∷ without k (different ks)

-- the first e different frequencies since the last count code, e its number
unfoldable pub held_after : List Meaning → List ℕ
held_after ms = take (last_number ms) (different (frequencies (since_count ms)))

-- a list that holds these frequencies, with 0 in every slot beyond, and expects so many
abbrev pub holding : List ℕ → ℕ → AfList
holding ks e = record { khz = ks ++ replicate (slots - length ks) 0; held = length ks; expected = e }

-- the list after all words that came
unfoldable pub af_after : List ℕ → AfList
af_after words = holding (held_after (meanings words)) (last_number (meanings words))

-- the words taken one by one, each into the list that the words before it gave
unfoldable pub taken_all : AfList → List ℕ → AfList
taken_all list [] = list
taken_all list (w ∷ ws) = taken_all (taken_of list w) ws

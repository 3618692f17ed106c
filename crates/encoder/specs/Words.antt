-- The group that brings an address of a key: 0A for a name address (0 to 3), 2A for a text address (4 to 19).
use Rattle.std.specs.Prelude.{ℕ, ◌+◌, ◌*◌, ◌-◌, ◌^◌, List, [], ◌∷◌, cond, ltb}
use Rattle.keys.specs.Fields.{pi_of, pty_of, tp_of, name_pair_of, text_pair_of}
use Rattle.keys.specs.Wanted.{name_addresses}

-- the type of 0A
abbrev pub name_type : ℕ
name_type = 0

-- the type of 2A
abbrev pub text_type : ℕ
text_type = 2

-- word 3 of 0A: no AF
abbrev pub no_frequencies : ℕ
no_frequencies = 0xE0CD

-- TP as a bit
abbrev pub tp_bit : List ℕ → ℕ
tp_bit k = cond (tp_of k) 1 0

-- word 2 from the top: type, version 0, TP, PTY, five bits by type
unfoldable pub word2_of : ℕ → List ℕ → ℕ → ℕ
word2_of type k low = type * 2 ^ 12 + tp_bit k * 2 ^ 10 + pty_of k * 2 ^ 5 + low

-- 0A at address a: TA, M/S, DI 0; word 4 has name characters 2a and 2a + 1
unfoldable pub name_words : List ℕ → ℕ → List ℕ
name_words k a = pi_of k ∷ word2_of name_type k a ∷ no_frequencies ∷ name_pair_of k a ∷ []

-- 2A at address a, with flag 0: words 3 and 4 have text characters 4a to 4a + 3
unfoldable pub text_words : List ℕ → ℕ → List ℕ
text_words k a = pi_of k ∷ word2_of text_type k a ∷ text_pair_of k (2 * a) ∷ text_pair_of k (2 * a + 1) ∷ []

-- the four words that bring address a of the key: 0 to 3 are 0A at 0 to 3, 4 to 19 are 2A at 0 to 15
unfoldable pub words_at : List ℕ → ℕ → List ℕ
words_at k a = cond (ltb a name_addresses) (name_words k a) (text_words k (a - name_addresses))

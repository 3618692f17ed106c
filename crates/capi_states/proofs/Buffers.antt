-- A buffer that is filled from the front, byte by byte.
use Prim.Native.Nat.{ℕ, zero, suc, ◌+◌, ◌<◌}
use mathlib.Core.Path.{◌≡◌, refl, sym, ap, ◌∙◌}
use mathlib.Core.List.{List, [], ◌∷◌, ◌++◌, append_assoc}
use native.Mathlib.Numerals.{add-one}
use lib.ListN.{length, get_or, set, drop, length-append}
use lib.Seq.{drop-cons, set_at}
use Rattle.station.specs.declared.Record.{Record}
use Rattle.capi_states.specs.Stations.{byte_of, bytes_to}

-- one byte more
pub fill_next : (front out : List ℕ) (i x : ℕ) → length front ≡ i → i < length out
    → set (front ++ drop i out) i x ≡ (front ++ x ∷ []) ++ drop (i + 1) out
fill_next front out i x e l =
    rw (drop-cons out i 0 l, set_at front (get_or out i 0) (drop (suc i) out) x i e) (sym (rw (add-one i, append_assoc)))

-- the first n bytes of a record are n
pub length-bytes_to : (station : Record) (n : ℕ) → length (bytes_to station n) ≡ n
unfolding bytes_to
length-bytes_to station zero = refl
length-bytes_to station (suc n) =
    length-append (bytes_to station n) (byte_of station n ∷ []) ∙ ap (λ (k : ℕ). k + 1) (length-bytes_to station n)
    ∙ add-one n

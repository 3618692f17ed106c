-- `append` leaves the list that `appended_of` says: each test is one law.
use Prim.Native.Nat.{ℕ}
use mathlib.Core.Bool.{Bool}
use mathlib.Core.List.{List}
use mathlib.Core.Path.{◌≡◌, sym, ap, ◌∙◌}
use native.Mathlib.Omega.{arith}
use lib.Dec.{eqb}
use lib.ListN.{take}
use Rattle.std.specs.List.{list_any}
use Rattle.frequencies.specs.AfList.{is_in}
use Rattle.frequencies.proofs.AfLists.{is_in_any, append_enough, append_full, append_known, append_new}
use Rattle.frequencies.proofs.append.Goals as goal
use Rattle.frequencies.proofs.append.Goals.{then-list-via-then-list}
use Rattle.frequencies.proofs.append.Goals.{then-list-via-else-list+then-at-ge-SLOTS}
use Rattle.frequencies.proofs.append.Goals.{then-list-via-else-list+else-at-ge-SLOTS+then-contains}

-- what the search through the slots that are held tells
searched : (k : ℕ) (slots : List ℕ) {at held : ℕ} (found : Bool) →
    at ≡ held → found ≡ list_any (λ x. eqb x k) (take at slots) → is_in k (take held slots) ≡ found
searched k slots {at} found e f =
    ap (λ (n : ℕ). is_in k (take n slots)) (sym e) ∙ sym (is_in_any k (take at slots)) ∙ sym f

pub returns-then-list : goal.returns-then-list
returns-then-list c =
    let args = c.args in
    elim c.then-list.branch [
      | then-list-via-then-list w ↦ sym (append_enough args.list.now args.khz (omega arith))
      | then-list-via-else-list+then-at-ge-SLOTS w ↦ sym (append_full args.list.now args.khz (omega arith))
      | then-list-via-else-list+else-at-ge-SLOTS+then-contains w ↦
          let found = searched args.khz args.list.now.khz _ c.from-at.ensures w.contains.ensures.value in
          sym (append_known args.list.now args.khz (found ∙ w.if-contains.true))
    ]

pub returns : goal.returns
returns c = grind (arith, searched, append_new)

-- `keys::key_of` meets its contract: at each `return` the two tests say which case of `key_of` holds, and the number
-- follows from the answer.
use Rattle.std.proofs.Common.{◌≡◌, sym, ap, ◌∙◌, true, false}
use Rattle.keys.specs.Sheet.{no_key, key_at}
use Rattle.keys.specs.Good.{key_good}
use Rattle.keys.specs.Asked.{key_number_of, given}
use Rattle.keys.proofs.SheetLaws.{has_exercise, record_whole}
use Rattle.keys.proofs.AnswerLaws.{asked_none, asked_bad, asked_good, key_number}
use Rattle.keys.proofs.key_of.Goals as goal

pub returns-then-no_key : goal.returns-then-no_key
returns-then-no_key c =
    let sheet = c.args.sheet.now in
    let n = c.args.exercise in
    let e = sym (asked_none sheet n (sym c.no_key.ensures ∙ c.if-no_key.true)) in
    (e, ap key_number_of e ∙ key_number sheet n)

-- past the first test the sheet has the exercise
pub key_at-key-requires : goal.key_at-key-requires
key_at-key-requires c =
    let sheet = c.args.sheet.now in
    let n = c.args.exercise in
    record_whole sheet n (has_exercise sheet n (sym c.no_key.ensures ∙ c.if-no_key.false))

pub returns-then-not-key_good : goal.returns-then-not-key_good
returns-then-not-key_good c =
    let sheet = c.args.sheet.now in
    let n = c.args.exercise in
    let there : no_key sheet n ≡ false = sym c.no_key.ensures ∙ c.if-no_key.false in
    let bad : key_good (key_at sheet n) ≡ false =
    sym (ap key_good c.key_at-key.ensures) ∙ sym c.key_good.ensures ∙ c.if-not-key_good.true in
    let e = sym (asked_bad sheet n there bad) in
    (e, ap key_number_of e ∙ key_number sheet n)

pub returns : goal.returns
returns c =
    let sheet = c.args.sheet.now in
    let n = c.args.exercise in
    let there : no_key sheet n ≡ false = sym c.no_key.ensures ∙ c.if-no_key.false in
    let good : key_good (key_at sheet n) ≡ true =
    sym (ap key_good c.key_at-key.ensures) ∙ sym c.key_good.ensures ∙ c.if-not-key_good.false in
    let e = ap given c.key_at-key.ensures ∙ sym (asked_good sheet n there good) in
    (e, ap key_number_of e ∙ key_number sheet n)

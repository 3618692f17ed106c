-- `keys::all_good` meets its contract: what `all` says of the slice's bytes is said of the bytes from the place on.
use Rattle.std.proofs.Common.{arith, rules, ◌≡◌, ◌+◌, ◌-◌, true, false, take, drop}
use Rattle.std.proofs.lemmas.Iterator.{cases_from_all, YieldsList-from_slice}
use borrow.Author.Tests.{tests}
use Rattle.keys.specs.Good.{byte_good}
use Rattle.keys.proofs.GoodLaws.{all_good_slice}
use Rattle.keys.proofs.all_good.Goals as goal

pub returns : goal.returns
returns c =
    let k = c.args.bytes.now in
    let at = c.args.at in
    let shown = c.args.shown in
    let size : at + c.args.count - at ≡ c.args.count = omega arith in
    all_good_slice shown k at c.args.count c.all.result (omega arith)
    (cases_from_all _ _ _ (λ x. byte_good shown x ≡ true) (λ x. byte_good shown x ≡ false) c.all.ensures.ran
    (YieldsList-from_slice (take c.args.count (drop at k)) (rw size at c.iter.ensures.rest))
    (λ x q k. search (rules, tests)) (λ x q k. search (rules, tests)))

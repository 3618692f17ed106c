-- `encoder::encode` meets its contract: by what `key_of` answers.
use Rattle.std.proofs.Common.{sym, ◌∙◌}
use Rattle.std.proofs.lemmas.Result.{err_from_is_err_and}
use Rattle.encoder.proofs.PromiseLaws.{promise_refused, promise_good}
use Rattle.encoder.proofs.encode.Goals as goal

pub returns-in_err-key : goal.returns-in_err-key
returns-in_err-key c =
    let p = err_from_is_err_and c.from_residual.result c.from_residual.ensures.1 in
    rw (p.1, p.2)
    (promise_refused c.args.sheet.now c.args.exercise c.args.out.now _ (sym c.in_err-key.was ∙ c.key_of.ensures.0))

pub returns : goal.returns
returns c =
    promise_good c.args.sheet.now c.args.exercise c.args.out.now _ (sym c.in_ok-key.was ∙ c.key_of.ensures.0)
    _ _ c.encode_key.ensures.0 c.encode_key.ensures.1

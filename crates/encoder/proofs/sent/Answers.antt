-- `encoder::sent` meets its contract: as many addresses are sent as are wanted.
use mathlib.Core.Path.{sym, ◌∙◌}
use native.Mathlib.Omega.{arith}
use Rattle.keys.proofs.WantedLaws.{addresses_most}
use Rattle.encoder.proofs.SentLaws.{length_sent}
use Rattle.encoder.proofs.sent.Goals as goal

pub returns : goal.returns
returns c =
    let k = c.args.key.bytes in
    (c.addresses.ensures ∙ sym (length_sent k), omega (arith, addresses_most k))

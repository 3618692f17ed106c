-- `marker::seen::with_address` meets its promise: the bit of the address is added.
use Rattle.marker.proofs.MaskLaws.{has-shifted}
use Rattle.marker.proofs.seen.with_address.Goals as goal

pub returns : goal.returns
returns c = has-shifted _ _ c.if-address-ge-MASK.false

-- `encoder::encode_key` meets its contract: by whether the buffer has room for the 13 bytes of each address sent.
use native.Mathlib.Omega.{arith}
use Rattle.encoder.proofs.SizeLaws.{size_sent}
use Rattle.encoder.proofs.BufferLaws.{key_short, key_written}
use Rattle.encoder.proofs.encode_key.Goals as goal

pub returns-then-out-size : goal.returns-then-out-size
returns-then-out-size c =
    let k = c.args.key.bytes in
    key_short k c.args.out.now (omega (arith, size_sent k))

pub put_groups-requires : goal.put_groups-requires
put_groups-requires c = omega (arith, size_sent c.args.key.bytes)

pub returns : goal.returns
returns c =
    let k = c.args.key.bytes in
    key_written k c.args.out.now _ _ (omega (arith, size_sent k)) (omega (arith, size_sent k))
    c.put_groups.ensures

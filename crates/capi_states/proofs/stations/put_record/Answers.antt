-- `put_record` fills the buffer from the front: before byte i it has the first i bytes, and then its own.
use Rattle.capi_states.proofs.Buffers.{fill_next, length-bytes_to}
use Rattle.capi_states.specs.Stations.{record_size, byte_of, bytes_to, record_buffer}
use borrow.Author.Tests.{le-ltb}
use lib.ListN.{length}
use native.Mathlib.Numerals.{add-one}
use native.Mathlib.Omega.{arith}
use mathlib.Core.Path.{◌≡◌, refl}
use Rattle.capi_states.proofs.stations.put_record.Goals as goal

pub loop-i-init : goal.loop-i-init
unfolding bytes_to
loop-i-init c = refl

pub loop-i-preserved : goal.loop-i-preserved
unfolding bytes_to
loop-i-preserved c =
    let l = c.loop-i in
    let start = c.args in
    let front = bytes_to start.station l.i in
    let next =
    fill_next front start.out.now l.i (byte_of start.station l.i) (length-bytes_to start.station l.i) (omega arith) in
    rw (l.invariant, c.byte.ensures, add-one l.i) (rw (add-one l.i) at next)

pub returns : goal.returns
unfolding record_buffer
returns c =
    let l = c.loop-i in
    let all : l.i ≡ record_size = omega arith in
    rw (le-ltb (length c.args.out.now) record_size (omega arith)) (rw all at l.invariant)

-- `encoder::put_groups` meets its contract: each address puts its group behind those before it, and there is room for it.
use Rattle.std.proofs.Common.{arith, refl, ap, ◌∙◌, ◌≡◌, ◌*◌, length}
use Rattle.groups.proofs.RoomLaws.{put_room}
use Rattle.encoder.specs.Encoding.{encoding, below}
use Rattle.encoder.proofs.SentLaws.{length-below}
use Rattle.encoder.proofs.SizeLaws.{size_sent}
use Rattle.encoder.proofs.BufferLaws.{length_front, put_turn, put_end}
use Rattle.encoder.proofs.put_groups.Goals as goal

pub loop-address-init : goal.loop-address-init
unfolding encoding below
loop-address-init c = refl

pub loop-address-preserved : goal.loop-address-preserved
loop-address-preserved c =
    let k = c.args.key.bytes in
    let put = rw c.from.ensures at c.put_at.ensures.2 in
    put_turn k c.args.out.now c.loop-address.address _ c.loop-address.out _ c.loop-address.invariant
    (omega (arith, size_sent k)) c.words_at.ensures put

-- there is room for each group
pub unwrap-requires : goal.unwrap-requires
unwrap-requires c =
    let k = c.args.key.bytes in
    let l = c.loop-address in
    let long : length l.out ≡ length c.args.out.now =
    ap length l.invariant
    ∙ length_front k c.args.out.now (below l.address) (rw (length-below l.address) (omega (arith, size_sent k))) in
    rw (c.put_at.ensures.0, c.from.ensures)
    (put_room l.out (13 * l.address) (omega (arith, size_sent k, c.sent-address-end.ensures.0)))

pub returns : goal.returns
returns c =
    put_end c.args.key.bytes c.args.out.now c.loop-address.address
    c.sent-address-end.result c.loop-address.out c.loop-address.invariant
    (omega arith) (omega arith) c.sent-address-end.ensures.0

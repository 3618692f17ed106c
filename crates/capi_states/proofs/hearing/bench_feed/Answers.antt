-- `bench_feed` feeds the state that the bytes hold: each way out is one law.
use lib.ListN.{length}
use Rattle.saving.proofs.Saves.{save-room}
use Rattle.capi_states.proofs.Rooms.{told_room, state_room, feed_short, feed_done}
use Rattle.receiver.specs.Feeding.{advance_of}
use Rattle.receiver.specs.declared.Receiver.{Receiver}
use mathlib.Core.Path.{sym, ap, ◌∙◌}
use Rattle.capi_states.proofs.hearing.bench_feed.Goals as goal

pub returns-then-no_room : goal.returns-then-no_room
returns-then-no_room c =
    let args = c.args in
    feed_short args.state.now args.bytes.now args.byte args.bit args.told.now
    (sym c.no_room.ensures ∙ c.if-no_room.true)

pub unwrap-requires : goal.unwrap-requires
unwrap-requires c =
    let args = c.args in
    rw c.save.ensures.0
    (save-room args.state.now
    (state_room (length args.state.now) (length args.told.now) (sym c.no_room.ensures ∙ c.if-no_room.false)))

pub put_told-requires : goal.put_told-requires
put_told-requires c =
    let args = c.args in
    told_room (length args.state.now) (length args.told.now)
    (sym c.no_room.ensures ∙ c.if-no_room.false)

pub returns : goal.returns
returns c =
    let args = c.args in
    let came =
    ap (λ (r : Receiver). advance_of r args.bytes.now args.byte args.bit) c.restore.ensures in
    feed_done args.state.now args.bytes.now args.byte args.bit args.told.now _ _ _
    (sym c.no_room.ensures ∙ c.if-no_room.false)
    (c.advance-came.ensures.0 ∙ came) c.save.ensures.2 c.put_told.ensures

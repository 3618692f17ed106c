-- `bench_take_bit` steps the state that the bytes hold: each way out is one law.
use lib.ListN.{length}
use Rattle.saving.proofs.Saves.{save-room}
use Rattle.capi_states.proofs.Rooms.{told_room, state_room, bit_short, bit_refused_lem, bit_taken}
use Rattle.receiver.specs.Machine.{step_of}
use Rattle.receiver.specs.declared.Receiver.{Receiver}
use native.Mathlib.Omega.{arith}
use mathlib.Core.Path.{sym, ap, ◌∙◌}
use Rattle.capi_states.proofs.hearing.bench_take_bit.Goals as goal

pub returns-then-no_room : goal.returns-then-no_room
returns-then-no_room c =
    let args = c.args in
    bit_short args.state.now args.bit args.told.now (sym c.no_room.ensures ∙ c.if-no_room.true)

pub returns-then-bit-gt1 : goal.returns-then-bit-gt1
returns-then-bit-gt1 c =
    let args = c.args in
    bit_refused_lem args.state.now args.bit args.told.now
    (sym c.no_room.ensures ∙ c.if-no_room.false) (omega arith)

pub unwrap-requires : goal.unwrap-requires
unwrap-requires c =
    let args = c.args in
    rw c.save.ensures.0
    (save-room args.state.now
    (state_room (length args.state.now) (length args.told.now) (sym c.no_room.ensures ∙ c.if-no_room.false)))

pub put_told-requires : goal.put_told-requires
put_told-requires c =
    let args = c.args in
    told_room (length args.state.now) (length args.told.now)
    (sym c.no_room.ensures ∙ c.if-no_room.false)

pub returns : goal.returns
returns c =
    let args = c.args in
    let step = ap (λ (r : Receiver). step_of r args.bit) c.restore.ensures in
    bit_taken args.state.now args.bit args.told.now _ _ _
    (sym c.no_room.ensures ∙ c.if-no_room.false) (omega arith)
    (c.step-step.ensures.0 ∙ step) c.save.ensures.2 c.put_told.ensures

-- `answers::encode_output` meets its promise: what the encoder has written into a buffer of our own is handed over.
use mathlib.Core.Path.{sym, ap, ap₂, ◌∙◌}
use native.Mathlib.Omega.{arith}
use lib.ListN.{take, replicate}
use lib.Seq.{length-take-le}
use Rattle.answers.specs.Encoded.{written_of, output_of, output_room}
use Rattle.letters.proofs.Handing.{tells_short-enough}
use Rattle.answers.proofs.Encodings.{written_most, written_front, output_most}
use Rattle.answers.proofs.encode_output.Goals as goal

pub slice_bounds-own-end : goal.slice_bounds-own-end
slice_bounds-own-end c =
    let count = c.written-length.ensures ∙ ap written_of c.encode.ensures.0 in
    omega (arith, count, written_most c.args.sheet.now c.exercise_in.result output_room)

pub slice_bounds-tell-end : goal.slice_bounds-tell-end
slice_bounds-tell-end c =
    let count = c.written-length.ensures ∙ ap written_of c.encode.ensures.0 in
    let room = written_most c.args.sheet.now c.exercise_in.result output_room in
    sym (length-take-le _ _ (omega arith))

pub returns : goal.returns
unfolding output_of
returns c =
    let sheet = c.args.sheet.now in
    let exercise = c.exercise_in.result in
    let encoded = c.encode in
    let front = ap₂ take (c.written-length.ensures ∙ ap written_of encoded.ensures.0) encoded.ensures.3
    ∙ written_front sheet exercise (replicate output_room 0) in
    let input = c.exercise_in.ensures in
    rw (← input)
    (tells_short-enough output_room (output_most sheet exercise) (rw front at c.tell.ensures))

-- `answers::encode_error` meets its promise: the line is written into a buffer of our own, and handed over.
use mathlib.Core.Path.{ap, ◌∙◌}
use native.Mathlib.Omega.{arith}
use Rattle.encoder.specs.Answer.{encoded_number}
use Rattle.answers.specs.Encoded.{error_text, error_of, error_room}
use Rattle.letters.proofs.Handing.{count_front, tells_within}
use Rattle.answers.proofs.encode_error.Goals as goal

pub slice_bounds-tell-end : goal.slice_bounds-tell-end
slice_bounds-tell-end c = count_front _ _ c.put_error-length.ensures.0

pub returns : goal.returns
unfolding error_of
returns c =
    let answered = rw c.exercise_in.ensures at c.encode.ensures.0 in
    tells_within error_room c.put_error-length.ensures.0
    (ap error_text (c.number-answer.ensures ∙ ap encoded_number answered))
    (omega (arith, c.put_error-length.ensures.1)) c.tell.ensures

-- `saving::state_bytes` meets its promise: byte by byte.
use mathlib.Core.Path.{◌∙◌}
use Rattle.bits.proofs.Flags.{flag_number}
use Rattle.saving.proofs.Saves.{state_bytes_are}
use Rattle.saving.proofs.state_bytes.Goals as goal

pub returns : goal.returns
returns c =
    rw (
      c.to_be_bytes-window.ensures,
      c.to_be_bytes-one.ensures,
      c.to_be_bytes-two.ensures,
      c.to_be_bytes-three.ensures,
      c.to_be_bytes-four.ensures,
    )
    (state_bytes_are
    c.args.receiver _ _ _ _ _ _
    c.place_number.ensures
    (c.from.ensures ∙ flag_number _)
    (c.from-2.ensures ∙ flag_number _) (c.from-3.ensures ∙ flag_number _) (c.from-4.ensures ∙ flag_number _)
    (c.from-5.ensures ∙ flag_number _))

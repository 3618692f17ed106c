-- `saving::restore` meets its promise: field by field.
use Rattle.saving.specs.Saving.{restore_of}
use Rattle.saving.proofs.restore.Goals as goal

pub returns : goal.returns
unfolding restore_of
returns c = rw (
  c.byte_at-5.ensures,
  c.byte_at-4.ensures,
  c.saved_hand.ensures,
  c.byte_at-3.ensures,
  c.place_numbered.ensures,
  c.byte_at-2.ensures,
  c.byte_at.ensures,
  c.number_at.ensures,
)

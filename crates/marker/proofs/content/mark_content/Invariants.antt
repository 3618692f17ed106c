-- The invariant of `marker::content::mark_content`: the groups so far are right, the flag held is the first 2A's among
-- them, and the mask has the addresses that came.
use Rattle.std.proofs.Common.{ℕ, ◌≡◌, ◌<◌, false}
use Rattle.marker.specs.Tests.{first_flag, group_wrong, came}
use Rattle.marker.specs.Steps.{has, mask_bits}
use Rattle.marker.proofs.content.mark_content.Given as goal

abbrev pub invariant-loop-group : goal.invariant-loop-group
invariant-loop-group l = record {
  right : (h : ℕ) → h < l.group → group_wrong l.key.bytes l.submission h ≡ false;
  flag : l.held ≡ first_flag l.submission l.group;
  seen : (a : ℕ) → a < mask_bits → has l.mask a ≡ came l.submission l.group a;
}

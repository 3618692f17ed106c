-- `receiver::feeding::run_on` meets its promise: by whether it hunts.
use Rattle.receiver.proofs.Quiet.{hunting_bare, taken-hunting, taken_inside}
use Rattle.receiver.proofs.Same.{same-hunting}
use mathlib.Core.Path.{sym, ◌∙◌}
use Rattle.receiver.proofs.feeding.run_on.Goals as goal

pub returns-then-eq : goal.returns-then-eq
returns-then-eq c = let a = c.args in
    let h = sym (same-hunting a.receiver.place) ∙ sym c.eq.ensures ∙ c.if-eq.true in
    let t = c.hunt_on.result in
    record {
      whole = hunting_bare a.receiver a.bytes.now a.from.byte a.from.bit c.requires.0 c.requires.1 h
          ∙ c.hunt_on.ensures.whole ∙ rw (taken-hunting a.receiver t.window t.count h);
      moved = c.hunt_on.ensures.moved;
      within = c.hunt_on.ensures.within;
    }

pub returns-else-eq : goal.returns-else-eq
returns-else-eq c = let a = c.args in
    let h = sym (same-hunting a.receiver.place) ∙ sym c.eq.ensures ∙ c.if-eq.false in
    let t = c.fill.result in
    record {
      whole = c.fill.ensures.whole a.receiver h ∙ rw (taken_inside a.receiver t.window t.count h);
      moved = c.fill.ensures.moved;
      within = c.fill.ensures.within;
    }

-- What decides: whether a group counts, the PI held, which record it goes into, and the text flag held, which text.
use Prim.Native.Nat.{ℕ}
use mathlib.Core.Path.{◌≡◌, refl, sym, ap, ◌∙◌}
use mathlib.Core.Bool.{Bool, true, false, cond, not, beq}
use borrow.Author.Tests.{eq-eqb, ne_eqb}
use Rattle.std.specs.Prelude.{Option, Some, None}
use Rattle.groups.specs.declared.Group.{Group}
use Rattle.groups.specs.Group.{word_of, counts_of}
use Rattle.station.specs.declared.Text.{Text}
use Rattle.station.specs.declared.Record.{Record}
use Rattle.station.specs.Record.{no_text, fresh_with}
use Rattle.station.specs.Update.{holds_pi, held_for, holds_other, with_flag, text_for, filled_of, updated_of}

-- ---- the record after a group that counts, and after another

module _ (station : Record) (group : Group) where
  pub updated_counted : counts_of group ≡ true →
      updated_of station group ≡ filled_of (held_for station (word_of group 0)) group
  unfolding updated_of
  updated_counted e = ap (λ (t : Bool). cond t (filled_of (held_for station (word_of group 0)) group) station) e

  pub updated_kept : counts_of group ≡ false → updated_of station group ≡ station
  unfolding updated_of
  updated_kept e = ap (λ (t : Bool). cond t (filled_of (held_for station (word_of group 0)) group) station) e

-- ---- the record that a group goes into

module _ (station : Record) (pi : ℕ) where
  pub held_as : holds_pi station.pi pi ≡ true → held_for station pi ≡ station
  unfolding held_for
  held_as e = ap (λ (t : Bool). cond t station (fresh_with (Some pi))) e

  pub held_anew : holds_pi station.pi pi ≡ false → held_for station pi ≡ fresh_with (Some pi)
  unfolding held_for
  held_anew e = ap (λ (t : Bool). cond t station (fresh_with (Some pi))) e

  pub held_same : (held : ℕ) → station.pi ≡ Some held → held ≡ pi → held_for station pi ≡ station
  unfolding holds_pi
  held_same held e same = held_as (ap (λ (p : Option ℕ). holds_pi p pi) e ∙ eq-eqb held pi same)

  pub held_other : (held : ℕ) → station.pi ≡ Some held → (held ≡ pi → ⊥) → held_for station pi ≡ fresh_with (Some pi)
  unfolding holds_pi
  held_other held e other = held_anew (ap (λ (p : Option ℕ). holds_pi p pi) e ∙ ne_eqb held pi other)

  pub held_none : station.pi ≡ None → held_for station pi ≡ fresh_with (Some pi)
  unfolding holds_pi
  held_none e = held_anew (ap (λ (p : Option ℕ). holds_pi p pi) e)

-- ---- the text that a group goes into

-- two flags that are told the same are the same
pub beq_same : (a b : Bool) → beq a b ≡ true → a ≡ b
beq_same true true e = refl
beq_same true false e = sym e
beq_same false true e = e
beq_same false false e = refl

module _ (text : Text) (flag : Bool) where
  pub text_on : holds_other text.flag flag ≡ false → text_for text flag ≡ with_flag text (Some flag)
  unfolding text_for
  text_on e = ap (λ (t : Bool). cond t (no_text (Some flag)) (with_flag text (Some flag))) e

  pub text_anew : holds_other text.flag flag ≡ true → text_for text flag ≡ no_text (Some flag)
  unfolding text_for
  text_anew e = ap (λ (t : Bool). cond t (no_text (Some flag)) (with_flag text (Some flag))) e

  pub text_kept :
      (held : Bool) → text.flag ≡ Some held → beq held flag ≡ true → text_for text flag ≡ with_flag text (Some flag)
  unfolding holds_other
  text_kept held e same = text_on (ap (λ (f : Option Bool). holds_other f flag) e ∙ ap not same)

  pub text_other :
      (held : Bool) → text.flag ≡ Some held → beq held flag ≡ false → text_for text flag ≡ no_text (Some flag)
  unfolding holds_other
  text_other held e other = text_anew (ap (λ (f : Option Bool). holds_other f flag) e ∙ ap not other)

  pub text_none : text.flag ≡ None → text_for text flag ≡ with_flag text (Some flag)
  unfolding holds_other
  text_none e = text_on (ap (λ (f : Option Bool). holds_other f flag) e)

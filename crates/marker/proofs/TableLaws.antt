-- The table over the rules: the answer that is given is the one whose conditions hold, and no other answer's do. Each
-- test is decided; where it says no its rule holds, and where it says yes the rule fails at the first place found.
use Rattle.std.specs.Prelude.{Option, Some, None}
use Prim.Native.Nat.{ℕ, zero, suc, ◌+◌, ◌*◌, ◌<◌, ◌≤◌}
use mathlib.Core.Path.{◌≡◌, refl, sym, ap, ap₂, subst, ◌∙◌}
use mathlib.Core.List.{List, []}
use mathlib.Core.Bool.{Bool, true, false, not, true≢false}
use mathlib.Core.Logic.{⊎_elim}
use native.Mathlib.Omega.{arith}
use lib.ListN.{get_or}
use borrow.Author.Tests.{not-true, not-false}
use Rattle.bits.proofs.Order.{lt-or-le}
use Rattle.keys.specs.Sheet.{HasExercise, no_key, key_at}
use Rattle.keys.specs.Good.{GoodKey, key_good}
use Rattle.keys.specs.Wanted.{addresses_of, wanted_address}
use Rattle.keys.proofs.SheetLaws.{has_exercise, exercise_has, key_byte}
use Rattle.keys.proofs.GoodLaws.{good_key, key_good_lem}
use Rattle.keys.proofs.AnswerLaws.{exercise_dec, good_dec}
use Rattle.keys.proofs.WantedLaws.{address_wanted, wanted_address_lem}
use Rattle.marker.specs.declared.Verdict.{Verdict}
use Rattle.marker.specs.declared.Verdict.TheVariants.{Passed, NoKey, BadKey, BadLength, BadBlock, BadHeader}
use Rattle.marker.specs.declared.Verdict.TheVariants.{BadContent, Missing}
use Rattle.marker.specs.Verdict.{number_of, place_of}
use Rattle.marker.specs.First.{first}
use Rattle.marker.specs.Submission.{groups_in, blocks_in}
use Rattle.marker.specs.Tests.{length_wrong, block_wrong, header_wrong_at, is_2a, group_wrong, came}
use Rattle.marker.specs.Mark.{first_bad_block, first_bad_group, first_missing, group_mark, content_mark}
use Rattle.marker.specs.Mark.{submission_mark, mark_of}
use Rattle.marker.specs.Rules.{GoodLength, BlockRight, BlocksRight, Is2A, First2A, HeaderRight}
use Rattle.marker.specs.Rules.{SameFlag, GroupRight, GroupsRight}
use Rattle.marker.specs.Rules.{Came, Rules, KeyGood, Told}
use Rattle.marker.proofs.FirstLaws.{first_at, first_none, at_first, none_first}
use Rattle.marker.proofs.RuleLaws.{length_right, right-length, block_right, right_block, header_right}
use Rattle.marker.proofs.RuleLaws.{right_header}
use Rattle.marker.proofs.RuleLaws.{group_right, right_group, is_2A, not_2A, came-some}
use Rattle.marker.proofs.RuleLaws.{some-came}

-- a test that says yes is not one that says no
yes_no : (b : Bool) → b ≡ true → b ≡ false → ⊥
yes_no b t f = true≢false (sym t ∙ f)

-- a test that would say no if its rule held says yes where the rule fails
fails : (P : Type 0) (b : Bool) → (b ≡ false → P) → (P → ⊥) → b ≡ true
fails P true right f = refl
fails P false right f = absurd (f (right refl))

-- ---- any two flags

module _ (s : List ℕ) (n : ℕ) where
  pub flags_alike : ((g : ℕ) → g < n → Is2A s g → (h : ℕ) → First2A s h → SameFlag s g h)
      → (g h : ℕ) → g < n → h < n → Is2A s g → Is2A s h → SameFlag s g h
  flags_alike right g h l m t u = told (first (is_2a s) 0 n) refl
    where
      told : (f : Option ℕ) → first (is_2a s) 0 n ≡ f → SameFlag s g h
      told (Some i) e =
          let spot = at_first (is_2a s) 0 n i e in
          let f : First2A s i = (is_2A s i spot.here, λ q b. not_2A s q (spot.before q (omega arith) b)) in
          right g l t i f ∙ sym (right h m u i f)
      told None e = absurd (not_2A s g (none_first (is_2a s) 0 n e g (omega arith) (omega arith)) t)

  pub alike_flags : ((g h : ℕ) → g < n → h < n → Is2A s g → Is2A s h → SameFlag s g h)
      → (g : ℕ) → g < n → Is2A s g → (h : ℕ) → First2A s h → SameFlag s g h
  alike_flags alike g l t h f =
      ⊎_elim (λ m. alike g h l m t f.0) (λ m. absurd (f.1 g (omega arith) t)) (lt-or-le h n)

module _ (sheet : List ℕ) (n : ℕ) (s : List ℕ) where
  abbrev k : List ℕ
  k = key_at sheet n

  -- ---- the answer by its tests

  module _ (there : no_key sheet n ≡ false) (good : key_good k ≡ true) where
    is-length : length_wrong s ≡ true → mark_of sheet n s ≡ BadLength
    unfolding mark_of submission_mark
    is-length e = rw (there, good, e)

    module _ (long : length_wrong s ≡ false) where
      is_block : (j : ℕ) → first_bad_block s ≡ Some j → mark_of sheet n s ≡ BadBlock j
      unfolding mark_of submission_mark
      is_block j e = rw (there, good, long, e)

      module _ (valid : first_bad_block s ≡ None) where
        is-header : (g : ℕ) → first_bad_group k s ≡ Some g → header_wrong_at k s g ≡ true → mark_of sheet n s ≡ BadHeader g
        unfolding mark_of submission_mark content_mark group_mark
        is-header g e h = rw (there, good, long, valid, e, h)

        is-content : (g : ℕ) → first_bad_group k s ≡ Some g → header_wrong_at k s g ≡ false → mark_of sheet n s ≡ BadContent g
        unfolding mark_of submission_mark content_mark group_mark
        is-content g e h = rw (there, good, long, valid, e, h)

        is-missing : first_bad_group k s ≡ None → (a : ℕ) → first_missing k s ≡ Some a → mark_of sheet n s ≡ Missing a
        unfolding mark_of submission_mark content_mark
        is-missing e a f = rw (there, good, long, valid, e, f)

        is_passed : first_bad_group k s ≡ None → first_missing k s ≡ None → mark_of sheet n s ≡ Passed
        unfolding mark_of submission_mark content_mark
        is_passed e f = rw (there, good, long, valid, e, f)

  -- ---- the searches over the rules

  blocks-right : first_bad_block s ≡ None → BlocksRight s
  unfolding first_bad_block
  blocks-right e j l = block_right s j (none_first (block_wrong s) 0 (blocks_in s) e j (omega arith) (omega arith))

  right-blocks : BlocksRight s → first_bad_block s ≡ None
  unfolding first_bad_block
  right-blocks r = first_none (block_wrong s) 0 (blocks_in s) (λ j _ l. right_block s j (r j (omega arith)))

  groups-right : first_bad_group k s ≡ None → GroupsRight k s
  unfolding first_bad_group
  groups-right e g l = group_right k s g (none_first (group_wrong k s) 0 (groups_in s) e g (omega arith) (omega arith))

  right-groups : GroupsRight k s → first_bad_group k s ≡ None
  unfolding first_bad_group
  right-groups r = first_none (group_wrong k s) 0 (groups_in s) (λ g _ l. right_group k s g (r g (omega arith)))

  all-came : first_missing k s ≡ None → (a : ℕ) → wanted_address k a ≡ true → Came s a
  unfolding first_missing
  all-came e a w =
      came-some s (groups_in s) a
      (not-false _ (none_first (λ a. not (came s (groups_in s) a)) 0 (addresses_of k) e a (omega arith)
      (omega (arith, wanted_address_lem k a w))))

  came-all : ((a : ℕ) → wanted_address k a ≡ true → Came s a) → first_missing k s ≡ None
  unfolding first_missing
  came-all r =
      first_none (λ a. not (came s (groups_in s) a)) 0 (addresses_of k)
      (λ a _ l. let c = r a (address_wanted k a (omega arith)) in ap not
      (some-came s (groups_in s) a c.0 c.1 c.2))

  -- ---- the groups' rules one by one

  rules-of : BlocksRight s → GroupsRight k s → ((a : ℕ) → wanted_address k a ≡ true → Came s a) → Rules k s
  rules-of valid right all =
      record {
        blocks = valid;
        headers = λ g l. (right g l).0;
        names = λ g l. (right g l).1.name;
        texts = λ g l. (right g l).1.text;
        wanted = λ g l. (right g l).1.wanted;
        no_2B = λ g l. (right g l).1.no_2B;
        flags = flags_alike s (groups_in s) (λ g l. (right g l).1.flag);
        came = all;
      }

  groups_of : Rules k s → GroupsRight k s
  groups_of r g l = (
    r.headers g l,
    record {
      name = r.names g l;
      text = r.texts g l;
      wanted = r.wanted g l;
      no_2B = r.no_2B g l;
      flag = alike_flags s (groups_in s) r.flags g l;
    },
  )

  -- ---- the answer that is given is one whose conditions hold

  given : (v : Verdict) → mark_of sheet n s ≡ v → Told sheet n s v → Told sheet n s (mark_of sheet n s)
  given v e t = subst (Told sheet n s) (sym e) t

  module _ (there : no_key sheet n ≡ false) (good : key_good k ≡ true) where
    key : KeyGood sheet n
    key = (has_exercise sheet n there, good_key k good)

    module _ (long : length_wrong s ≡ false) (valid : first_bad_block s ≡ None) where
      told-address : (f : Option ℕ) → first_bad_group k s ≡ None → first_missing k s ≡ f → Told sheet n s
          (mark_of sheet n s)
      unfolding Told first_missing
      told-address (Some a) e f =
          let spot = at_first (λ a. not (came s (groups_in s) a)) 0 (addresses_of k) a f in
          given (Missing a) (is-missing there good long valid e a f) (
            key,
            length_right s long,
            blocks-right valid,
            groups-right e,
            address_wanted k a
                (omega (arith, spot.below)),
            λ c. yes_no _ (some-came s (groups_in s) a c.0 c.1 c.2) (not-true _ spot.here),
            λ b l w. came-some s (groups_in s) b (not-false _ (spot.before b (omega arith) l)),
          )
      told-address None e f =
          given Passed (is_passed there good long valid e f)
          (key, length_right s long, rules-of (blocks-right valid) (groups-right e) (all-came f))

      told-group : (f : Option ℕ) → first_bad_group k s ≡ f → Told sheet n s (mark_of sheet n s)
      unfolding Told first_bad_group
      told-group (Some g) e =
          let spot = at_first (group_wrong k s) 0 (groups_in s) g e in
          let earlier : (h : ℕ) → h < g → GroupRight k s h = λ h l. group_right k s h
          (spot.before h (omega arith) l) in
          let within : g < groups_in s = omega (arith, spot.below) in
          header within earlier (λ r. yes_no _ spot.here (right_group k s g r)) (header_wrong_at k s g) refl
        where
          header : g < groups_in s → ((h : ℕ) → h < g → GroupRight k s h) → (GroupRight k s g → ⊥)
              → (b : Bool) → header_wrong_at k s g ≡ b → Told sheet n s (mark_of sheet n s)
          header within earlier wrong true h =
              given (BadHeader g) (is-header there good long valid g e h)
              (key, length_right s long, blocks-right valid, within, (λ r. yes_no _ h (right_header k s g r)), earlier)
          header within earlier wrong false h =
              given (BadContent g) (is-content there good long valid g e h) (
                key,
                length_right s long,
                blocks-right valid,
                within,
                header_right k s g h,
                (λ r. wrong (header_right k s g h, r)),
                earlier,
              )
      told-group None e = told-address (first_missing k s) e refl

    told-block : length_wrong s ≡ false → (f : Option ℕ) → first_bad_block s ≡ f → Told sheet n s (mark_of sheet n s)
    unfolding Told first_bad_block
    told-block long (Some j) e =
        let spot = at_first (block_wrong s) 0 (blocks_in s) j e in
        given (BadBlock j) (is_block there good long j e) (
          key,
          length_right s long,
          omega (arith, spot.below),
          (λ r. yes_no _ spot.here (right_block s j r)),
          λ i l. block_right s i (spot.before i (omega arith) l),
        )
    told-block long None e = told-group long e (first_bad_group k s) refl

    told-length : (b : Bool) → length_wrong s ≡ b → Told sheet n s (mark_of sheet n s)
    unfolding Told
    told-length true e =
        given BadLength (is-length there good e) (key, λ r. yes_no _ e (right-length s r))
    told-length false e = told-block e (first_bad_block s) refl

  pub mark_told : Told sheet n s (mark_of sheet n s)
  unfolding Told mark_of
  mark_told = sheet-told (no_key sheet n) refl
    where
      key-told : no_key sheet n ≡ false → (b : Bool) → key_good k ≡ b → Told sheet n s (mark_of sheet n s)
      key-told there false e =
          given BadKey (rw (there, e)) (has_exercise sheet n there, λ g. yes_no _ (key_good_lem k g) e)
      key-told there true e = told-length there e (length_wrong s) refl

      sheet-told : (b : Bool) → no_key sheet n ≡ b → Told sheet n s (mark_of sheet n s)
      sheet-told true e = given NoKey (rw e) (λ h. yes_no _ e (exercise_has sheet n h))
      sheet-told false e = key-told e (key_good k) refl

  -- ---- and it is the only one

  module _ (h : KeyGood sheet n) where
    there-is : no_key sheet n ≡ false
    there-is = exercise_has sheet n h.0

    good-is : key_good k ≡ true
    good-is = key_good_lem k h.1

  first_group : (g : ℕ) → g < groups_in s → (GroupRight k s g → ⊥) → ((h : ℕ) → h < g → GroupRight k s h)
      → first_bad_group k s ≡ Some g
  unfolding first_bad_group
  first_group g l wrong earlier =
      first_at (group_wrong k s) 0 (groups_in s) g
      (record {
        from = omega arith;
        below = omega arith;
        here = fails (GroupRight k s g) (group_wrong k s g) (group_right k s g) wrong;
        before = λ h _ m. right_group k s h (earlier h m);
      })

  pub told_mark : (v : Verdict) → Told sheet n s v → mark_of sheet n s ≡ v
  unfolding Told mark_of first_bad_block first_missing
  told_mark NoKey f = rw (fails (HasExercise sheet n) (no_key sheet n) (has_exercise sheet n) f)
  told_mark BadKey (h, f) =
      rw (
        exercise_has sheet n h,
        not-true (key_good k)
            (fails (GoodKey k) (not (key_good k)) (λ e. good_key k (not-false _ e)) f),
      )
  told_mark BadLength (h, f) =
      is-length (there-is h) (good-is h) (fails (GoodLength s) (length_wrong s) (length_right s) f)
  told_mark (BadBlock j) (h, r, l, f, earlier) =
      is_block (there-is h) (good-is h) (right-length s r) j
      (first_at (block_wrong s) 0 (blocks_in s) j
      (record {
        from = omega arith;
        below = omega arith;
        here = fails (BlockRight s j) (block_wrong s j) (block_right s j) f;
        before = λ i _ m. right_block s i (earlier i m);
      }))
  told_mark (BadHeader g) (h, r, valid, l, f, earlier) =
      is-header (there-is h) (good-is h) (right-length s r) (right-blocks valid) g
      (first_group g l (λ x. f x.0) earlier) (fails (HeaderRight k s g) (header_wrong_at k s g) (header_right k s g) f)
  told_mark (BadContent g) (h, r, valid, l, x, f, earlier) =
      is-content (there-is h) (good-is h) (right-length s r) (right-blocks valid) g
      (first_group g l (λ y. f y.1) earlier) (right_header k s g x)
  told_mark (Missing a) (h, r, valid, groups, w, f, earlier) =
      is-missing (there-is h) (good-is h) (right-length s r) (right-blocks valid) (right-groups groups) a
      (first_at (λ a. not (came s (groups_in s) a)) 0 (addresses_of k) a
      (record {
        from = omega arith;
        below = omega (arith, wanted_address_lem k a w);
        here = fails (Came s a) (not (came s (groups_in s) a)) (λ e. came-some s (groups_in s) a (not-false _ e)) f;
        before = λ b _ m.
            let c = earlier b m (address_wanted k b (omega (arith, wanted_address_lem k a w))) in
            ap not (some-came s (groups_in s) b c.0 c.1 c.2);
      }))
  told_mark Passed (h, r, rules) =
      is_passed (there-is h) (good-is h) (right-length s r) (right-blocks rules.blocks)
      (right-groups (groups_of rules))
      (came-all rules.came)

-- ---- by number and place

-- the answer with a number and a place
unfoldable verdict_of : ℕ → ℕ → Verdict
verdict_of zero p = Passed
verdict_of (suc zero) p = NoKey
verdict_of (suc (suc zero)) p = BadKey
verdict_of (suc (suc (suc zero))) p = BadLength
verdict_of (suc (suc (suc (suc zero)))) p = BadBlock p
verdict_of (suc (suc (suc (suc (suc zero))))) p = BadHeader p
verdict_of (suc (suc (suc (suc (suc (suc zero)))))) p = BadContent p
verdict_of (suc (suc (suc (suc (suc (suc (suc n))))))) p = Missing p

verdict_of_lem : (v : Verdict) → verdict_of (number_of v) (place_of v) ≡ v
unfolding verdict_of
verdict_of_lem Passed = refl
verdict_of_lem NoKey = refl
verdict_of_lem BadKey = refl
verdict_of_lem BadLength = refl
verdict_of_lem (BadBlock block) = refl
verdict_of_lem (BadHeader group) = refl
verdict_of_lem (BadContent group) = refl
verdict_of_lem (Missing address) = refl

-- an answer is its number and its place
pub number-place : (v w : Verdict) → number_of v ≡ number_of w → place_of v ≡ place_of w → v ≡ w
number-place v w e f = sym (verdict_of_lem v) ∙ ap₂ verdict_of e f ∙ verdict_of_lem w

-- a number with its place is answered exactly if the conditions of that answer hold
module _ (sheet : List ℕ) (n : ℕ) (s : List ℕ) (v : Verdict) where
  pub number_told : number_of (mark_of sheet n s) ≡ number_of v → place_of (mark_of sheet n s) ≡ place_of v → Told sheet n s v
  number_told e f = subst (Told sheet n s) (number-place (mark_of sheet n s) v e f) (mark_told sheet n s)

  pub told_number_lem : Told sheet n s v → (number_of (mark_of sheet n s) ≡ number_of v) ×
      (place_of (mark_of sheet n s) ≡ place_of v)
  told_number_lem t = (ap number_of (told_mark sheet n s v t), ap place_of (told_mark sheet n s v t))

-- ---- passed, exactly if the key is there and good, the length is right and all rules hold

module _ (sheet : List ℕ) (n : ℕ) (s : List ℕ) where
  pub passed_rules : mark_of sheet n s ≡ Passed → KeyGood sheet n × GoodLength s × Rules (key_at sheet n) s
  unfolding Told
  passed_rules e = subst (Told sheet n s) e (mark_told sheet n s)

  pub rules_passed : KeyGood sheet n × GoodLength s × Rules (key_at sheet n) s → mark_of sheet n s ≡ Passed
  unfolding Told
  rules_passed r = told_mark sheet n s Passed r

-- ---- what never passes

-- a sheet that did not load
pub no-sheet : (n : ℕ) (s : List ℕ) → mark_of [] n s ≡ NoKey
unfolding mark_of no_key
no-sheet n s = refl

-- a sheet that has no such exercise
pub no_exercise : (sheet : List ℕ) (n : ℕ) (s : List ℕ) → (HasExercise sheet n → ⊥) → mark_of sheet n s ≡ NoKey
unfolding Told
no_exercise sheet n s f = told_mark sheet n s NoKey f

-- a sheet of zeros
pub zero-sheet : (sheet : List ℕ) (n : ℕ) (s : List ℕ) → ((i : ℕ) → get_or sheet i 0 ≡ 0) → mark_of sheet n s ≡ Passed → ⊥
zero-sheet sheet n s zeros e =
    let good = (passed_rules sheet n s e).0.1 in
    let shown : 32 ≤ get_or (key_at sheet n) 4 0 = good.name_shown 0 (omega arith) in
    omega (arith, shown, key_byte sheet n 4 (omega arith), zeros (80 * n + 4))

-- an empty submission
pub no_submission : (sheet : List ℕ) (n : ℕ) → mark_of sheet n [] ≡ Passed → ⊥
no_submission sheet n e =
    let long = (passed_rules sheet n [] e).1 in
    let none : ◌≡◌ {A = ℕ} 0 (13 * long.groups) = long.whole in
    omega (arith, none, long.some)

-- a block that is not valid as its kind
pub damaged : (sheet : List ℕ) (n : ℕ) (s : List ℕ) (j : ℕ) → j < blocks_in s → (BlockRight s j → ⊥)
    → mark_of sheet n s ≡ Passed → ⊥
damaged sheet n s j l f e = f ((passed_rules sheet n s e).2.blocks j l)

-- ---- submissions of a wrong length are answered alike, whatever their bytes are

pub wrong-length : (sheet : List ℕ) (n : ℕ) (s t : List ℕ) → (GoodLength s → ⊥) → (GoodLength t → ⊥)
    → mark_of sheet n s ≡ mark_of sheet n t
unfolding Told
wrong-length sheet n s t wrong wrong' = by-exercise (exercise_dec sheet n) (good_dec (key_at sheet n))
  where
    by-exercise : Dec (HasExercise sheet n) → Dec (GoodKey (key_at sheet n)) → mark_of sheet n s ≡ mark_of sheet n t
    by-exercise (no f) good = told_mark sheet n s NoKey f ∙ sym (told_mark sheet n t NoKey f)
    by-exercise (yes h) (no f) = told_mark sheet n s BadKey (h, f) ∙ sym (told_mark sheet n t BadKey (h, f))
    by-exercise (yes h) (yes g) =
        told_mark sheet n s BadLength ((h, g), wrong) ∙ sym (told_mark sheet n t BadLength ((h, g), wrong'))

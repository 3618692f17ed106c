-- The counts of a recording: groups, bad groups, locks and losses.
use Rattle.std.specs.Prelude.{ℕ, ◌+◌, ◌-◌, ◌^◌, cond, ltb}
use Rattle.groups.specs.Group.{is_all_good_of}
use Rattle.groups.specs.declared.Group.{Group}
use Rattle.receiver.specs.declared.Answer.{Answer}
use Rattle.receiver.specs.declared.Answer.TheVariants as answer
use Rattle.counts.specs.declared.Counts.{Counts}

-- nothing has come
abbrev pub no_counts : Counts
no_counts = record { groups = 0; bad = 0; locks = 0; losses = 0 }

-- one more; the largest u64 stays
abbrev pub more_of : ℕ → ℕ
more_of n = cond (ltb n (2 ^ 64 - 1)) (n + 1) n

-- a lock, a loss
abbrev pub with_lock : Counts → Counts
with_lock c = record { groups = c.groups; bad = c.bad; locks = more_of c.locks; losses = c.losses }

abbrev pub with_loss : Counts → Counts
with_loss c = record { groups = c.groups; bad = c.bad; locks = c.locks; losses = more_of c.losses }

-- a group, bad unless all its blocks were good
abbrev pub with_group : Counts → Group → Counts
with_group c group =
    record {
      groups = more_of c.groups;
      bad = cond (is_all_good_of group) c.bad (more_of c.bad);
      locks = c.locks;
      losses = c.losses;
    }

-- the counts after an answer of the receiver
abbrev pub counted_of : Counts → Answer → Counts
counted_of c answer.Nothing = c
counted_of c answer.Locked = with_lock c
counted_of c (answer.Group group) = with_group c group
counted_of c answer.Lost = with_loss c
counted_of c (answer.GroupAndLost group) = with_loss (with_group c group)
counted_of c answer.Refused = c

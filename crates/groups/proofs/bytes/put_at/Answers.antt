-- `groups::bytes::put_at` meets its promise: by whether there is room.
use mathlib.Core.Path.{sym}
use native.Mathlib.Omega.{arith}
use Rattle.std.proofs.lemmas.Slice.{put_mid-paste}
use Rattle.groups.proofs.RoomLaws.{length-group, put_short, put_done}
use Rattle.groups.proofs.bytes.put_at.Goals as goal

pub returns-then-saturating_sub-lt-SIZE : goal.returns-then-saturating_sub-lt-SIZE
returns-then-saturating_sub-lt-SIZE c = put_short c.args.words c.args.out.now
    c.args.at (omega arith)

pub returns : goal.returns
returns c = put_done c.args.words
    c.args.out.now _ _
    c.args.at (omega arith)
    c.bytes_of.ensures
    (put_mid-paste c.args.at _ c.args.out.now _ c.bytes_of.result 13 c.copy_from_slice.ensures.after (omega arith)
    (rw c.bytes_of.ensures (sym (length-group c.args.words))))

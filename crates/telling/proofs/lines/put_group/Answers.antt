-- `telling::lines::put_group` meets its promise: the group's line, and by whether all blocks are good what it carries.
use mathlib.Core.Path.{sym, ap, ◌∙◌}
use mathlib.Core.List.{List, [], ◌∷◌, ◌++◌, append-nil}
use Prim.Native.Nat.{ℕ}
use Rattle.telling.specs.Pieces.{line_text}
use Rattle.telling.specs.Lines.{content_line, closing_line, content_in, clock_of, end, head_line, group_text}
use Rattle.telling.proofs.lines.put_group.Goals as goal

pub returns-then-is_all_good : goal.returns-then-is_all_good
unfolding group_text
returns-then-is_all_good c =
    let content = line_text (content_line (content_in c.args.group) (clock_of c.args.group)) in
    let closing = line_text (closing_line (content_in c.args.group) (clock_of c.args.group)) in
    let one = rw (c.head.ensures, c.requires) at c.put_line.ensures.text in
    let two = rw (c.content_of-content.ensures, c.clock_of-held.ensures) at c.put_content.ensures.text in
    let three = rw (c.content_of-content.ensures, c.clock_of-held.ensures) at c.put_closing.ensures.text in
    rw (← c.is_all_good.ensures, c.if-is_all_good.true)
    (three ∙ ap (λ (l : List ℕ). l ++ closing) (two ∙ ap (λ (l : List ℕ). l ++ content) one))

pub returns-else-is_all_good : goal.returns-else-is_all_good
unfolding group_text
returns-else-is_all_good c =
    let head = line_text (head_line c.args.number c.args.group) in
    let one = rw (c.head.ensures, c.requires) at c.put_line.ensures.text in
    rw (← c.is_all_good.ensures, c.if-is_all_good.false)
    (c.put_line-else-is_all_good.ensures.text
    ∙ ap (λ (l : List ℕ). l ++ line_text (end ∷ [])) (one ∙ sym (append-nil head)))

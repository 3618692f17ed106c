-- `groups::fields::content_from` meets its promise: each arm is one type with its version.
use native.Mathlib.Omega.{arith}
use mathlib.Core.Path.{sym}
use Rattle.groups.proofs.Contents.{content_0A, content_0B, content_2A, content_2B, content_4A, content_other}
use Rattle.groups.proofs.fields.content_from.Goals as goal

pub returns-in-0 : goal.returns-in-0
returns-in-0 c =
    rw (c.name_address.ensures, c.switches_from.ensures)
    (sym (content_0A c.args.word2 c.args.word3
    c.args.word4 c.in-0.is))

pub returns-in-1 : goal.returns-in-1
returns-in-1 c =
    rw (c.name_address-in-1.ensures, c.switches_from-in-1.ensures)
    (sym (content_0B c.args.word2 c.args.word3
    c.args.word4 c.in-1.is))

pub returns-in-4 : goal.returns-in-4
returns-in-4 c =
    rw (c.text_address.ensures, c.text_flag.ensures)
    (sym (content_2A c.args.word2 c.args.word3
    c.args.word4 c.in-4.is))

pub returns-in-5 : goal.returns-in-5
returns-in-5 c =
    rw (c.text_address-in-5.ensures, c.text_flag-in-5.ensures)
    (sym (content_2B c.args.word2 c.args.word3
    c.args.word4 c.in-5.is))

pub returns-in-8 : goal.returns-in-8
returns-in-8 c = sym (content_4A c.args.word2 c.args.word3 c.args.word4
    c.in-8.is)

pub returns-in_default : goal.returns-in_default
returns-in_default c =
    sym
    (content_other c.args.word2 c.args.word3 c.args.word4
    (λ e. omega arith) (λ e. omega arith) (λ e. omega arith) (λ e. omega arith) (λ e. omega arith))

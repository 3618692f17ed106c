-- `telling::pieces::put_piece` meets its promise: by what the piece is.
use Prim.Native.Nat.{◌≤◌, ◌+◌, min}
use mathlib.Core.Path.{◌≡◌}
use native.Mathlib.Omega.{arith}
use lib.ListN.{length, take, length-take}
use Rattle.std.proofs.lemmas.List.{take_min}
use Rattle.letters.proofs.Buffers.{wrote_none}
use Rattle.letters.proofs.Puts.{put_wrote}
use Rattle.letters.proofs.Sizes.{hex_most, character_most}
use Rattle.telling.proofs.pieces.put_piece.Goals as goal

pub returns-in-Word : goal.returns-in-Word
returns-in-Word c =
    let room : c.args.at + 20 ≤ length c.args.out.now = rw c.in-Word.is at c.requires in
    let least : c.min.result ≡ min 20 (length c.in-Word.word.now) = omega arith in
    let told = rw (least, take_min 20 c.in-Word.word.now) at c.put.ensures in
    let most : length (take 20 c.in-Word.word.now) ≤ 20 = omega (arith, length-take 20 c.in-Word.word.now) in
    let wrote = put_wrote (omega arith) told in
    rw c.in-Word.is (wrote, omega arith)

pub returns-in-Number : goal.returns-in-Number
returns-in-Number c = rw c.in-Number.is c.put_number.ensures

pub returns-in-Two : goal.returns-in-Two
returns-in-Two c =
    let room : c.args.at + 2 ≤ length c.args.out.now = rw c.in-Two.is at c.requires in
    let wrote = put_wrote (omega arith) c.put_last_two.ensures in
    rw c.in-Two.is (wrote, omega arith)

pub returns-in-Hex : goal.returns-in-Hex
returns-in-Hex c =
    let room : c.args.at + 4 ≤ length c.args.out.now = rw c.in-Hex.is at c.requires in
    let most = hex_most c.in-Hex.word in
    let wrote = put_wrote (omega arith) c.put_hex.ensures in
    rw c.in-Hex.is (wrote, omega arith)

pub returns-in-Character : goal.returns-in-Character
returns-in-Character c =
    let room : c.args.at + 4 ≤ length c.args.out.now = rw c.in-Character.is at c.requires in
    let most = character_most c.in-Character.character in
    let wrote = put_wrote (omega arith) c.put_character.ensures in
    rw c.in-Character.is (wrote, omega arith)

pub returns-in-Silent : goal.returns-in-Silent
returns-in-Silent c = rw c.in-Silent.is (wrote_none c.args.out.now c.args.at, omega arith)

-- No second answer: each public function asks nothing of its arguments, two answers that meet its promise are equal,
-- and where something is lent, so is the whole of it at the two exits. What is asked and promised is the function's own
-- contract, as a caller meets and learns it (`Asked` and `Learnt`, which are made from the `requires` and `ensures` in
-- src/); nothing of it is written again here. Of a crate or module NAME, `NAME_said` has the signatures of its functions,
-- and `NAME` what is asked and learnt of them.
use Rattle.std.specs.Prelude.{ℕ, ◌^◌, ◌<◌, ◌≡◌}
use contract.Lifetimes.{Lfts}
use denote.Triple.Entry.{Args, Res}
use denote.Triple.Clauses.{Ended, AtExit}
use Rattle.blocks.specs.contracts as blocks_said
use Rattle.blocks.proofs as blocks
use Rattle.groups.specs.contracts as groups_said
use Rattle.groups.proofs as groups
use Rattle.groups.specs.contracts.fields as fields_said
use Rattle.groups.proofs.fields as fields
use Rattle.groups.specs.contracts.bytes as bytes_said
use Rattle.groups.proofs.bytes as bytes
use Rattle.frequencies.specs.contracts as frequencies_said
use Rattle.frequencies.proofs as frequencies
use Rattle.clock.specs.contracts as clock_said
use Rattle.clock.proofs as clock
use Rattle.receiver.specs.contracts.Answer as answer_said
use Rattle.receiver.specs.contracts.Receiver as receiver_said
use Rattle.receiver.proofs.Answer as answer
use Rattle.receiver.proofs.Receiver as receiver
use Rattle.saving.specs.contracts as saving_said
use Rattle.saving.proofs as saving
use Rattle.station.specs.contracts as station_said
use Rattle.station.proofs as station
use Rattle.station.specs.contracts.read as held_said
use Rattle.station.proofs.read as held
use Rattle.counts.specs.contracts as counts_said
use Rattle.counts.proofs as counts
use Rattle.letters.specs.contracts as letters_said
use Rattle.letters.proofs as letters
use Rattle.telling.specs.contracts as telling_said
use Rattle.telling.proofs as telling
use Rattle.recording.specs.contracts as recording_said
use Rattle.recording.proofs as recording
use Rattle.asking.specs.contracts as asking_said
use Rattle.asking.proofs as asking
use Rattle.asking.specs.contracts.exercise as exercise_said
use Rattle.asking.proofs.exercise as exercise
use Rattle.asking.specs.contracts.reading as reading_said
use Rattle.asking.proofs.reading as reading
use Rattle.keys.specs.contracts as keys_said
use Rattle.keys.proofs as keys
use Rattle.encoder.specs.contracts as encoder_said
use Rattle.encoder.proofs as encoder
use Rattle.marker.specs.Steps.{mask_bits, has}
use Rattle.marker.specs.contracts as marker_said
use Rattle.marker.proofs as marker
use Rattle.answers.specs.contracts as answers_said
use Rattle.answers.proofs as answers

-- ---- what is claimed of a function

-- what is asked: a statement of the arguments
abbrev pub Request : Ended → Type 1
Request T = (κs : Lfts T.signature.lifetimes) → Args T.signature κs → Type 0

-- what is promised: a statement of the arguments, the answer, and the parameters at exit
abbrev pub Promise : Ended → Type 1
Promise T =
    (κs : Lfts T.signature.lifetimes) → Args T.signature κs → Res T.signature κs → AtExit T κs → Type 0

-- of a function that is lent nothing: any arguments a will do, and two answers r and r' that meet the promise are equal
abbrev pub OneAnswer : (T : Ended) → Request T → Promise T → Type 0
OneAnswer T Asked Promised =
    (κs : Lfts T.signature.lifetimes) (a : Args T.signature κs)
    → Asked κs a
    × ((r r' : Res T.signature κs) (e e' : AtExit T κs) → Promised κs a r e → Promised κs a r' e' → r ≡ r')

-- of one that is lent something, `lent` of its parameters at exit: so is the whole of that at the exits e and e'
abbrev pub OneExit : (T : Ended) {A : Type 0} → ((κs : Lfts T.signature.lifetimes) → AtExit T κs → A)
    → Request T → Promise T → Type 0
OneExit T lent Asked Promised =
    (κs : Lfts T.signature.lifetimes) (a : Args T.signature κs)
    → Asked κs a
    × ((r r' : Res T.signature κs) (e e' : AtExit T κs) → Promised κs a r e → Promised κs a r' e'
    → (r ≡ r') × (lent κs e ≡ lent κs e'))

-- ---- the functions

-- blocks: writing, reading and judging a block
pub record Blocks : Type 0 where
  pub offset : OneAnswer blocks_said.offset.ended blocks.offset.Reads.Asked blocks.offset.Reads.Learnt
  pub check : OneAnswer blocks_said.check.ended blocks.check.Reads.Asked blocks.check.Reads.Learnt
  pub write : OneAnswer blocks_said.write.ended blocks.write.Reads.Asked blocks.write.Reads.Learnt
  pub read : OneAnswer blocks_said.read.ended blocks.read.Reads.Asked blocks.read.Reads.Learnt
  pub judge : OneAnswer blocks_said.judge.ended blocks.judge.Reads.Asked blocks.judge.Reads.Learnt

-- groups: the four words and the mask, and the kind that a place expects
pub record Groups : Type 0 where
  pub empty : OneAnswer groups_said.empty.ended groups.empty.Reads.Asked groups.empty.Reads.Learnt
  pub with_block : OneAnswer groups_said.with_block.ended groups.with_block.Reads.Asked groups.with_block.Reads.Learnt
  pub all_good : OneAnswer groups_said.all_good.ended groups.all_good.Reads.Asked groups.all_good.Reads.Learnt
  pub word : OneAnswer groups_said.word.ended groups.word.Reads.Asked groups.word.Reads.Learnt
  pub good : OneAnswer groups_said.good.ended groups.good.Reads.Asked groups.good.Reads.Learnt
  pub is_all_good : OneAnswer groups_said.is_all_good.ended groups.is_all_good.Reads.Asked
      groups.is_all_good.Reads.Learnt
  pub counts : OneAnswer groups_said.counts.ended groups.counts.Reads.Asked groups.counts.Reads.Learnt
  pub third_kind : OneAnswer groups_said.third_kind.ended groups.third_kind.Reads.Asked groups.third_kind.Reads.Learnt
  pub expected : OneAnswer groups_said.expected.ended groups.expected.Reads.Asked groups.expected.Reads.Learnt

-- .. what they say
pub record Fields : Type 0 where
  pub header_of : OneAnswer fields_said.header_of.ended fields.header_of.Reads.Asked fields.header_of.Reads.Learnt
  pub header_from : OneAnswer fields_said.header_from.ended fields.header_from.Reads.Asked
      fields.header_from.Reads.Learnt
  pub content_from : OneAnswer fields_said.content_from.ended fields.content_from.Reads.Asked
      fields.content_from.Reads.Learnt
  pub content_of : OneAnswer fields_said.content_of.ended fields.content_of.Reads.Asked fields.content_of.Reads.Learnt
  pub switches_of : OneAnswer fields_said.switches_of.ended fields.switches_of.Reads.Asked
      fields.switches_of.Reads.Learnt
  pub first : OneAnswer fields_said.first.ended fields.first.Reads.Asked fields.first.Reads.Learnt
  pub second : OneAnswer fields_said.second.ended fields.second.Reads.Asked fields.second.Reads.Learnt

-- .. and as they are sent; `put_at` is lent a buffer
pub record Bytes : Type 0 where
  pub blocks_of : OneAnswer bytes_said.blocks_of.ended bytes.blocks_of.Reads.Asked bytes.blocks_of.Reads.Learnt
  pub bytes_of : OneAnswer bytes_said.bytes_of.ended bytes.bytes_of.Reads.Asked bytes.bytes_of.Reads.Learnt
  pub put_at : OneExit bytes_said.put_at.ended (λ κs e. e.1.0.now) bytes.put_at.Reads.Asked
      bytes.put_at.Reads.Learnt
  pub byte_at : OneAnswer bytes_said.byte_at.ended bytes.byte_at.Reads.Asked bytes.byte_at.Reads.Learnt
  pub block_at : OneAnswer bytes_said.block_at.ended bytes.block_at.Reads.Asked bytes.block_at.Reads.Learnt
  pub word_at : OneAnswer bytes_said.word_at.ended bytes.word_at.Reads.Asked bytes.word_at.Reads.Learnt
  pub group_of : OneAnswer bytes_said.group_of.ended bytes.group_of.Reads.Asked bytes.group_of.Reads.Learnt

-- frequencies: codes, kHz and the AF list
pub record Frequencies : Type 0 where
  pub frequency : OneAnswer frequencies_said.frequency.ended frequencies.frequency.Reads.Asked
      frequencies.frequency.Reads.Learnt
  pub code : OneAnswer frequencies_said.code.ended frequencies.code.Reads.Asked frequencies.code.Reads.Learnt
  pub empty : OneAnswer frequencies_said.empty.ended frequencies.empty.Reads.Asked frequencies.empty.Reads.Learnt
  pub taken : OneAnswer frequencies_said.taken.ended frequencies.taken.Reads.Asked frequencies.taken.Reads.Learnt
  pub held : OneAnswer frequencies_said.held.ended frequencies.held.Reads.Asked frequencies.held.Reads.Learnt
  pub expected : OneAnswer frequencies_said.expected.ended frequencies.expected.Reads.Asked frequencies.expected.Reads.Learnt
  pub at : OneAnswer frequencies_said.at.ended frequencies.at.Reads.Asked frequencies.at.Reads.Learnt

-- clock: the words of a 4A, and the local date
pub record Clock : Type 0 where
  pub read : OneAnswer clock_said.read.ended clock.read.Reads.Asked clock.read.Reads.Learnt
  pub write : OneAnswer clock_said.write.ended clock.write.Reads.Asked clock.write.Reads.Learnt
  pub local_date : OneAnswer clock_said.local_date.ended clock.local_date.Reads.Asked clock.local_date.Reads.Learnt

-- receiver: a fresh one, one bit, and on to the next answer; the state comes and goes by value. And an answer's group
pub record Receiver : Type 0 where
  pub new : OneAnswer receiver_said.new.ended receiver.new.Reads.Asked receiver.new.Reads.Learnt
  pub step : OneAnswer receiver_said.step.ended receiver.step.Reads.Asked receiver.step.Reads.Learnt
  pub advance : OneAnswer receiver_said.advance.ended receiver.advance.Reads.Asked receiver.advance.Reads.Learnt
  pub group : OneAnswer answer_said.group.ended answer.group.Reads.Asked answer.group.Reads.Learnt

-- saving: the receiver's state as bytes, and back; `save` is lent a buffer
pub record Saving : Type 0 where
  pub save : OneExit saving_said.save.ended (λ κs e. e.1.0.now) saving.save.Reads.Asked saving.save.Reads.Learnt
  pub restore : OneAnswer saving_said.restore.ended saving.restore.Reads.Asked saving.restore.Reads.Learnt

-- station: the record after a group; `take_in` is lent the record
pub record Station : Type 0 where
  pub fresh : OneAnswer station_said.fresh.ended station.fresh.Reads.Asked station.fresh.Reads.Learnt
  pub updated : OneAnswer station_said.updated.ended station.updated.Reads.Asked station.updated.Reads.Learnt
  pub take_in : OneExit station_said.take_in.ended (λ κs e. e.0.now) station.take_in.Reads.Asked station.take_in.Reads.Learnt
  pub taken : OneAnswer station_said.taken.ended station.taken.Reads.Asked station.taken.Reads.Learnt

-- .. and what it holds
pub record Held : Type 0 where
  pub pi : OneAnswer held_said.pi.ended held.pi.Reads.Asked held.pi.Reads.Learnt
  pub pty : OneAnswer held_said.pty.ended held.pty.Reads.Asked held.pty.Reads.Learnt
  pub tp : OneAnswer held_said.tp.ended held.tp.Reads.Asked held.tp.Reads.Learnt
  pub name_characters : OneAnswer held_said.name_characters.ended held.name_characters.Reads.Asked
      held.name_characters.Reads.Learnt
  pub name_seen : OneAnswer held_said.name_seen.ended held.name_seen.Reads.Asked held.name_seen.Reads.Learnt
  pub text_characters : OneAnswer held_said.text_characters.ended held.text_characters.Reads.Asked
      held.text_characters.Reads.Learnt
  pub text_seen : OneAnswer held_said.text_seen.ended held.text_seen.Reads.Asked held.text_seen.Reads.Learnt
  pub text_flag : OneAnswer held_said.text_flag.ended held.text_flag.Reads.Asked held.text_flag.Reads.Learnt
  pub af_list : OneAnswer held_said.af_list.ended held.af_list.Reads.Asked held.af_list.Reads.Learnt
  pub held_clock : OneAnswer held_said.held_clock.ended held.held_clock.Reads.Asked held.held_clock.Reads.Learnt
  pub local_date : OneAnswer held_said.local_date.ended held.local_date.Reads.Asked held.local_date.Reads.Learnt

-- keys: the key of an exercise, and its fields
pub record Keys : Type 0 where
  pub key_of : OneAnswer keys_said.key_of.ended keys.key_of.Reads.Asked keys.key_of.Reads.Learnt
  pub pi : OneAnswer keys_said.pi.ended keys.pi.Reads.Asked keys.pi.Reads.Learnt
  pub pty : OneAnswer keys_said.pty.ended keys.pty.Reads.Asked keys.pty.Reads.Learnt
  pub tp : OneAnswer keys_said.tp.ended keys.tp.Reads.Asked keys.tp.Reads.Learnt
  pub wanted : OneAnswer keys_said.wanted.ended keys.wanted.Reads.Asked keys.wanted.Reads.Learnt
  pub name_pair : OneAnswer keys_said.name_pair.ended keys.name_pair.Reads.Asked keys.name_pair.Reads.Learnt
  pub text_pair : OneAnswer keys_said.text_pair.ended keys.text_pair.Reads.Asked keys.text_pair.Reads.Learnt
  pub addresses : OneAnswer keys_said.addresses.ended keys.addresses.Reads.Asked keys.addresses.Reads.Learnt
  pub text_length : OneAnswer keys_said.text_length.ended keys.text_length.Reads.Asked keys.text_length.Reads.Learnt

-- encoder: `encode` is lent a buffer
pub record Encoder : Type 0 where
  pub encode : OneExit encoder_said.encode.ended (λ κs e. e.1.1.0.now) encoder.encode.Reads.Asked
      encoder.encode.Reads.Learnt

-- marker: the answer, its number and its place
pub record Marker : Type 0 where
  pub mark : OneAnswer marker_said.mark.ended marker.mark.Reads.Asked marker.mark.Reads.Learnt
  pub number : OneAnswer marker_said.number.ended marker.number.Reads.Asked marker.number.Reads.Learnt
  pub place : OneAnswer marker_said.place.ended marker.place.Reads.Asked marker.place.Reads.Learnt

-- `seen_after` is known inside the marker only, and its promise is no equation: of each of the 32 bits of the mask that
-- it answers it says whether it is set. Two masks of 32 bits that agree in each are equal.
abbrev pub OneMask : Type 0
OneMask =
    (mask mask' : ℕ) → mask < 2 ^ mask_bits → mask' < 2 ^ mask_bits
    → ((a : ℕ) → a < mask_bits → has mask a ≡ has mask' a) → mask ≡ mask'

-- letters: texts, numbers and characters, into a buffer that is lent
pub record Letters : Type 0 where
  pub tell : OneExit letters_said.tell.ended (λ κs e. e.1.0.now) letters.tell.Reads.Asked letters.tell.Reads.Learnt
  pub written : OneAnswer letters_said.written.ended letters.written.Reads.Asked letters.written.Reads.Learnt
  pub put : OneExit letters_said.put.ended (λ κs e. e.1.0.now) letters.put.Reads.Asked letters.put.Reads.Learnt
  pub put_byte : OneExit letters_said.put_byte.ended (λ κs e. e.1.0.now) letters.put_byte.Reads.Asked
      letters.put_byte.Reads.Learnt
  pub put_number : OneExit letters_said.put_number.ended (λ κs e. e.1.0.now) letters.put_number.Reads.Asked
      letters.put_number.Reads.Learnt
  pub put_word : OneExit letters_said.put_word.ended (λ κs e. e.1.0.now) letters.put_word.Reads.Asked
      letters.put_word.Reads.Learnt
  pub put_hex : OneExit letters_said.put_hex.ended (λ κs e. e.1.0.now) letters.put_hex.Reads.Asked
      letters.put_hex.Reads.Learnt
  pub put_last_two : OneExit letters_said.put_last_two.ended (λ κs e. e.1.0.now) letters.put_last_two.Reads.Asked
      letters.put_last_two.Reads.Learnt
  pub put_character : OneExit letters_said.put_character.ended (λ κs e. e.1.0.now) letters.put_character.Reads.Asked
      letters.put_character.Reads.Learnt

-- telling: the lines of a recording, likewise, and the counts
pub record Telling : Type 0 where
  pub lock : OneExit telling_said.lock.ended (λ κs e. e.1.0.now) telling.lock.Reads.Asked telling.lock.Reads.Learnt
  pub lost : OneExit telling_said.lost.ended (λ κs e. e.1.0.now) telling.lost.Reads.Asked telling.lost.Reads.Learnt
  pub group : OneExit telling_said.group.ended (λ κs e. e.1.1.0.now) telling.group.Reads.Asked
      telling.group.Reads.Learnt
  pub record_lines : OneExit telling_said.record_lines.ended (λ κs e. e.1.0.now) telling.record_lines.Reads.Asked
      telling.record_lines.Reads.Learnt
  pub count_lines : OneExit telling_said.count_lines.ended (λ κs e. e.1.0.now) telling.count_lines.Reads.Asked
      telling.count_lines.Reads.Learnt
  pub none : OneAnswer counts_said.none.ended counts.none.Reads.Asked counts.none.Reads.Learnt
  pub counted : OneAnswer counts_said.counted.ended counts.counted.Reads.Asked counts.counted.Reads.Learnt

-- recording: what is heard, and its lines, into buffers that always have room
pub record Recording : Type 0 where
  pub fresh : OneAnswer recording_said.fresh.ended recording.fresh.Reads.Asked recording.fresh.Reads.Learnt
  pub heard : OneAnswer recording_said.heard.ended recording.heard.Reads.Asked recording.heard.Reads.Learnt
  pub bits_after : OneAnswer recording_said.bits_after.ended recording.bits_after.Reads.Asked
      recording.bits_after.Reads.Learnt
  pub group_line : OneExit recording_said.group_line.ended (λ κs e. e.1.1.1.0.now) recording.group_line.Reads.Asked
      recording.group_line.Reads.Learnt
  pub lock_line : OneExit recording_said.lock_line.ended (λ κs e. e.1.1.1.0.now) recording.lock_line.Reads.Asked
      recording.lock_line.Reads.Learnt
  pub record_lines : OneExit recording_said.record_lines.ended (λ κs e. e.1.0.now) recording.record_lines.Reads.Asked
      recording.record_lines.Reads.Learnt
  pub count_lines : OneExit recording_said.count_lines.ended (λ κs e. e.1.0.now) recording.count_lines.Reads.Asked
      recording.count_lines.Reads.Learnt

-- asking: the arguments of a program, and reading call by call
pub record Asking : Type 0 where
  pub named : OneAnswer exercise_said.named.ended exercise.named.Reads.Asked exercise.named.Reads.Learnt
  pub is_standard : OneAnswer asking_said.is_standard.ended asking.is_standard.Reads.Asked
      asking.is_standard.Reads.Learnt
  pub is_summary : OneAnswer asking_said.is_summary.ended asking.is_summary.Reads.Asked
      asking.is_summary.Reads.Learnt
  pub listen_asked : OneAnswer asking_said.listen_asked.ended asking.listen_asked.Reads.Asked
      asking.listen_asked.Reads.Learnt
  pub after : OneAnswer reading_said.after.ended reading.after.Reads.Asked reading.after.Reads.Learnt
  pub there : OneAnswer reading_said.there.ended reading.there.Reads.Asked reading.there.Reads.Learnt
  pub goes_on : OneAnswer reading_said.goes_on.ended reading.goes_on.Reads.Asked reading.goes_on.Reads.Learnt
  pub failed : OneAnswer reading_said.failed.ended reading.failed.Reads.Asked reading.failed.Reads.Learnt

-- answers: what `mark` and `encode` write, and the buffers for what they read
pub record Answers : Type 0 where
  pub sheet_buffer : OneAnswer answers_said.sheet_buffer.ended answers.sheet_buffer.Reads.Asked
      answers.sheet_buffer.Reads.Learnt
  pub input_buffer : OneAnswer answers_said.input_buffer.ended answers.input_buffer.Reads.Asked
      answers.input_buffer.Reads.Learnt
  pub marked : OneAnswer answers_said.marked.ended answers.marked.Reads.Asked answers.marked.Reads.Learnt
  pub mark_line : OneExit answers_said.mark_line.ended (λ κs e. e.1.1.0.now) answers.mark_line.Reads.Asked
      answers.mark_line.Reads.Learnt
  pub encode_output : OneExit answers_said.encode_output.ended (λ κs e. e.1.1.0.now)
      answers.encode_output.Reads.Asked
      answers.encode_output.Reads.Learnt
  pub encode_error : OneExit answers_said.encode_error.ended (λ κs e. e.1.1.0.now) answers.encode_error.Reads.Asked
      answers.encode_error.Reads.Learnt
  pub whole_line : OneExit answers_said.whole_line.ended (λ κs e. e.1.1.0.now) answers.whole_line.Reads.Asked
      answers.whole_line.Reads.Learnt
  pub whole_output : OneExit answers_said.whole_output.ended (λ κs e. e.1.1.0.now) answers.whole_output.Reads.Asked
      answers.whole_output.Reads.Learnt
  pub whole_error : OneExit answers_said.whole_error.ended (λ κs e. e.1.1.0.now) answers.whole_error.Reads.Asked
      answers.whole_error.Reads.Learnt

-- all of them
pub record NoSecondAnswer : Type 0 where
  pub blocks : Blocks
  pub groups : Groups
  pub fields : Fields
  pub bytes : Bytes
  pub frequencies : Frequencies
  pub clock : Clock
  pub receiver : Receiver
  pub saving : Saving
  pub station : Station
  pub held : Held
  pub keys : Keys
  pub encoder : Encoder
  pub marker : Marker
  pub seen_after : OneMask
  pub letters : Letters
  pub telling : Telling
  pub recording : Recording
  pub asking : Asking
  pub answers : Answers

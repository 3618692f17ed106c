-- No second answer: each public function of `capi` and `capi_states` asks nothing of its arguments, two answers that
-- meet its promise are equal, and so is the whole of each buffer that was lent, at the two exits. Of a module NAME,
-- `NAME_said` has the signatures of its functions, and `NAME` what is asked and learnt of them.
use Rattle.demands.specs.OneAnswer.{OneAnswer, OneExit}
use Rattle.capi.specs.contracts.block as block_said
use Rattle.capi.proofs.block as block
use Rattle.capi.specs.contracts.group as group_said
use Rattle.capi.proofs.group as group
use Rattle.capi.specs.contracts.times as times_said
use Rattle.capi.proofs.times as times
use Rattle.capi.specs.contracts.af as af_said
use Rattle.capi.proofs.af as af
use Rattle.capi.specs.contracts.marking as marking_said
use Rattle.capi.proofs.marking as marking
use Rattle.capi_states.specs.contracts.hearing as hearing_said
use Rattle.capi_states.proofs.hearing as hearing
use Rattle.capi_states.specs.contracts.stations as stations_said
use Rattle.capi_states.proofs.stations as stations

-- blocks
pub record Blocks : Type 0 where
  pub write_block : OneAnswer block_said.bench_write_block.ended block.bench_write_block.Reads.Asked
      block.bench_write_block.Reads.Learnt
  pub read_block : OneAnswer block_said.bench_read_block.ended block.bench_read_block.Reads.Asked
      block.bench_read_block.Reads.Learnt
  pub judge_block : OneAnswer block_said.bench_judge_block.ended block.bench_judge_block.Reads.Asked
      block.bench_judge_block.Reads.Learnt

-- groups; `bench_put_group` is lent a buffer
pub record Groups : Type 0 where
  pub put_group : OneExit group_said.bench_put_group.ended (λ κs e. e.1.1.1.1.0.now)
      group.bench_put_group.Reads.Asked group.bench_put_group.Reads.Learnt
  pub read_word : OneAnswer group_said.bench_read_word.ended group.bench_read_word.Reads.Asked
      group.bench_read_word.Reads.Learnt
  pub switches : OneAnswer group_said.bench_switches.ended group.bench_switches.Reads.Asked
      group.bench_switches.Reads.Learnt

-- the clock and the local date
pub record Times : Type 0 where
  pub read_clock : OneAnswer times_said.bench_read_clock.ended times.bench_read_clock.Reads.Asked
      times.bench_read_clock.Reads.Learnt
  pub write_clock : OneAnswer times_said.bench_write_clock.ended times.bench_write_clock.Reads.Asked
      times.bench_write_clock.Reads.Learnt
  pub local_date : OneAnswer times_said.bench_local_date.ended times.bench_local_date.Reads.Asked
      times.bench_local_date.Reads.Learnt
  pub held_code : OneAnswer times_said.held_code.ended times.held_code.Reads.Asked
      times.held_code.Reads.Learnt
  pub local_code : OneAnswer times_said.local_code.ended times.local_code.Reads.Asked
      times.local_code.Reads.Learnt

-- AF codes, kHz and lists
pub record Frequencies : Type 0 where
  pub frequency : OneAnswer af_said.bench_frequency.ended af.bench_frequency.Reads.Asked
      af.bench_frequency.Reads.Learnt
  pub code : OneAnswer af_said.bench_code.ended af.bench_code.Reads.Asked
      af.bench_code.Reads.Learnt
  pub af_list : OneAnswer af_said.bench_af_list.ended af.bench_af_list.Reads.Asked
      af.bench_af_list.Reads.Learnt
  pub list_code : OneAnswer af_said.list_code.ended af.list_code.Reads.Asked
      af.list_code.Reads.Learnt
  pub word_of : OneAnswer af_said.word_of.ended af.word_of.Reads.Asked
      af.word_of.Reads.Learnt

-- the encoder, which is lent a buffer, and the marker
pub record Marking : Type 0 where
  pub encode : OneExit marking_said.bench_encode.ended (λ κs e. e.1.1.0.now) marking.bench_encode.Reads.Asked
      marking.bench_encode.Reads.Learnt
  pub mark : OneAnswer marking_said.bench_mark.ended marking.bench_mark.Reads.Asked
      marking.bench_mark.Reads.Learnt
  pub mark_place : OneAnswer marking_said.bench_mark_place.ended marking.bench_mark_place.Reads.Asked
      marking.bench_mark_place.Reads.Learnt

-- the receiver, which is lent its state and, but for `bench_fresh`, what is told: a line for each of the two
pub record Hearing : Type 0 where
  pub fresh : OneExit hearing_said.bench_fresh.ended (λ κs e. e.0.now) hearing.bench_fresh.Reads.Asked
      hearing.bench_fresh.Reads.Learnt
  pub take_bit_state : OneExit hearing_said.bench_take_bit.ended (λ κs e. e.0.now) hearing.bench_take_bit.Reads.Asked
      hearing.bench_take_bit.Reads.Learnt
  pub take_bit_told : OneExit hearing_said.bench_take_bit.ended (λ κs e. e.1.1.0.now)
      hearing.bench_take_bit.Reads.Asked hearing.bench_take_bit.Reads.Learnt
  pub feed_state : OneExit hearing_said.bench_feed.ended (λ κs e. e.0.now) hearing.bench_feed.Reads.Asked
      hearing.bench_feed.Reads.Learnt
  pub feed_told : OneExit hearing_said.bench_feed.ended (λ κs e. e.1.1.1.1.0.now) hearing.bench_feed.Reads.Asked
      hearing.bench_feed.Reads.Learnt

-- the record, which is lent a buffer
pub record Stations : Type 0 where
  pub station_record : OneExit stations_said.bench_record.ended (λ κs e. e.1.0.now) stations.bench_record.Reads.Asked
      stations.bench_record.Reads.Learnt

-- all of them
pub record NoSecondAnswer : Type 0 where
  pub blocks : Blocks
  pub groups : Groups
  pub times : Times
  pub frequencies : Frequencies
  pub marking : Marking
  pub hearing : Hearing
  pub stations : Stations

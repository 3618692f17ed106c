-- No second answer: nothing is asked, and each promise says that the answer is equal to a definition at the arguments,
-- and what was lent to another. Two things that are equal to a third are equal.
use Rattle.demands.proofs.OneAnswer.{equation_settles}
use Rattle.capi_claims.specs.OneAnswer.{Blocks, Groups, Times, Frequencies, Marking, Hearing, Stations}
use Rattle.capi_claims.specs.OneAnswer.{NoSecondAnswer}

blocks : Blocks
blocks =
    record {
      write_block = λ κs a. (tt, λ r r' e e' p q. equation_settles p q);
      read_block = λ κs a. (tt, λ r r' e e' p q. equation_settles p q);
      judge_block = λ κs a. (tt, λ r r' e e' p q. equation_settles p q);
    }

groups : Groups
groups =
    record {
      put_group = λ κs a. (tt, λ r r' e e' p q. (equation_settles p.0 q.0, equation_settles p.1 q.1));
      read_word = λ κs a. (tt, λ r r' e e' p q. equation_settles p q);
      switches = λ κs a. (tt, λ r r' e e' p q. equation_settles p q);
    }

times : Times
times =
    record {
      read_clock = λ κs a. (tt, λ r r' e e' p q. equation_settles p q);
      write_clock = λ κs a. (tt, λ r r' e e' p q. equation_settles p q);
      local_date = λ κs a. (tt, λ r r' e e' p q. equation_settles p q);
      held_code = λ κs a. (tt, λ r r' e e' p q. equation_settles p q);
      local_code = λ κs a. (tt, λ r r' e e' p q. equation_settles p q);
    }

frequencies : Frequencies
frequencies =
    record {
      frequency = λ κs a. (tt, λ r r' e e' p q. equation_settles p q);
      code = λ κs a. (tt, λ r r' e e' p q. equation_settles p q);
      af_list = λ κs a. (tt, λ r r' e e' p q. equation_settles p q);
      list_code = λ κs a. (tt, λ r r' e e' p q. equation_settles p q);
      word_of = λ κs a. (tt, λ r r' e e' p q. equation_settles p q);
    }

marking : Marking
marking =
    record {
      encode = λ κs a. (tt, λ r r' e e' p q. (equation_settles p.0 q.0, equation_settles p.1 q.1));
      mark = λ κs a. (tt, λ r r' e e' p q. equation_settles p q);
      mark_place = λ κs a. (tt, λ r r' e e' p q. equation_settles p q);
    }

hearing : Hearing
hearing =
    record {
      fresh = λ κs a. (tt, λ r r' e e' p q. (equation_settles p.0 q.0, equation_settles p.1 q.1));
      take_bit_state = λ κs a. (tt, λ r r' e e' p q. (equation_settles p.0 q.0, equation_settles p.1 q.1));
      take_bit_told = λ κs a. (tt, λ r r' e e' p q. (equation_settles p.0 q.0, equation_settles p.2 q.2));
      feed_state = λ κs a. (tt, λ r r' e e' p q. (equation_settles p.0 q.0, equation_settles p.1 q.1));
      feed_told = λ κs a. (tt, λ r r' e e' p q. (equation_settles p.0 q.0, equation_settles p.2 q.2));
    }

stations : Stations
stations =
    record {
      station_record = λ κs a. (tt, λ r r' e e' p q. (equation_settles p.0 q.0, equation_settles p.1 q.1));
    }

pub no-second-answer : NoSecondAnswer
no-second-answer =
    record {
      blocks = blocks;
      groups = groups;
      times = times;
      frequencies = frequencies;
      marking = marking;
      hearing = hearing;
      stations = stations;
    }

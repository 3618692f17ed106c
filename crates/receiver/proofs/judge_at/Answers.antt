-- `receiver::judge_at` meets its promise: place by place.
use Rattle.receiver.proofs.judge_at.Goals as goal

pub returns-in-First : goal.returns-in-First
returns-in-First c = rw (c.in-First.is, c.judge.ensures.0)

pub returns-in-Second : goal.returns-in-Second
returns-in-Second c = rw (c.in-Second.is, c.judge-in-Second.ensures.0)

pub returns-in-ThirdC : goal.returns-in-ThirdC
returns-in-ThirdC c = rw (c.in-ThirdC.is, c.judge-in-ThirdC.ensures.0)

pub returns-in-ThirdCPrime : goal.returns-in-ThirdCPrime
returns-in-ThirdCPrime c = rw (c.in-ThirdCPrime.is, c.judge-in-ThirdCPrime.ensures.0)

pub returns-in-Fourth : goal.returns-in-Fourth
returns-in-Fourth c = rw (c.in-Fourth.is, c.judge-in-Fourth.ensures.0)

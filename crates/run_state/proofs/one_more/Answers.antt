-- one_more: one line a need; the laws are in Counting.
use Rattle.run_state.proofs.Counting as counting
use Rattle.run_state.proofs.one_more.Goals as goal

pub returns-then-a-lt65535 : goal.returns-then-a-lt65535
returns-then-a-lt65535 c = search counting.more_low

pub returns-then-a-lt65535-2 : goal.returns-then-a-lt65535-2
returns-then-a-lt65535-2 c = search counting.more_high

pub returns-else-a-lt65535-2 : goal.returns-else-a-lt65535-2
returns-else-a-lt65535-2 c = search counting.more_full

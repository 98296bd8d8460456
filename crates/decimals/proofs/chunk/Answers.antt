-- `decimals::chunk` meets its contract. The invariant: n is what the digits from at to i say. Assumes nothing.
use Rattle.decimals.proofs.DigitLaws as laws
use Rattle.decimals.proofs.chunk.Goals as goal

pub overflow_mul-n : goal.overflow_mul-n
overflow_mul-n c = search laws.chunk_times

pub overflow_sub-w : goal.overflow_sub-w
overflow_sub-w c = search laws.chunk_low

pub overflow_add-n : goal.overflow_add-n
overflow_add-n c = search (laws.chunk_plus, laws.chunk_digit)

pub loop-i-preserved : goal.loop-i-preserved
loop-i-preserved c = search (laws.chunk_turn, laws.chunk_digit)

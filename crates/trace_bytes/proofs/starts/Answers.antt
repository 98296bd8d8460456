-- starts: one line a need; the laws are in Taking. Assumes nothing.
use Rattle.std.proofs.Common.{◌∙◌, take}
use Rattle.meaning.specs.Trace.{trace_start}
use Rattle.trace_bytes.proofs.Taking as laws
use Rattle.trace_bytes.proofs.starts.Goals as goal

pub returns : goal.returns
returns c = c.starts_with.ensures.value ∙ laws.starts_are (take 5 c.args.trace.now) trace_start

-- next_line: an answer for each need; what carries weight stands in the laws.
use Prim.Native.Nat.{◌≤◌, ◌<◌}
use mathlib.Core.Path.{◌≡◌}
use lib.ListN.{length}
use Rattle.std.specs.Prelude.{IfSome}
use Rattle.io.specs.Counts.{IsPrefixLen}
use Rattle.lines.specs.Text.{Waits}
use Rattle.lines.proofs.read.next_line.Given as goal

abbrev pub invariant-loop : goal.invariant-loop
invariant-loop l =
    IsPrefixLen l.len l.buf × ((length l.buf ≡ length l.initial.buf) × ((l.line.n ≤ length l.form) × ((length l.form ≡ length l.initial.form) × (Waits l.initial.put l.put × IfSome l.line.half (λ h. h < 16)))))

-- The one line stands alone. Assumes nothing.
use Prim.Native.Nat.{ℕ, ◌≤◌}
use mathlib.Core.Path.{◌≡◌}
use mathlib.Core.List.{List}
use native.Mathlib.Omega.{arith}
use lib.ListN.{length, take}
use Rattle.meaning.specs.Run.{run}
use Rattle.lines.specs.declared.read.Got.TheVariants.{Form, Bad, End}
use Rattle.lines.specs.declared.read.Lines.{Lines}
use Rattle.lines.specs.Text.{out_most, line_most, Printed, no_line}
use Rattle.lines.proofs.Lengths.{no_line_most}
use Rattle.outcome.specs.Line.{line_of}
use Rattle.outcome.proofs.Outcomes.{run_counted, line_short}
use Rattle.optimise.specs.Only.{only_line, Only}

stands : (line text text' : List ℕ) (k : ℕ) → Printed line text text' 0 k → line_most ≤ length text → length line ≤ line_most → take k text' ≡ line
stands line text text' k p h l = p.stands (omega arith)

module _ (form text text' : List ℕ) (q : Lines) (room out k : ℕ) where
  abbrev reply : List ℕ
  reply = line_of (run (take q.n form) room out)

  abbrev now_waiting : Lines
  now_waiting = record { at = q.at; len = q.len; put = k; first = q.first; n = q.n; got = q.got }

  printed : Printed reply text text' 0 k → line_most ≤ length text → out ≤ out_most → take k text' ≡ reply
  printed p h o = stands reply text text' k p h (line_short out (run (take q.n form) room out) o (run_counted (take q.n form) room out))

  pub only_form : Printed reply text text' 0 k → q.got ≡ Form → line_most ≤ length text → out ≤ out_most → Only reply text' now_waiting
  unfolding only_line
  only_form p e h o = record { line = rw e (printed p h o); within = p.within (omega arith) }

  pub only_end : Printed reply text text' 0 k → q.got ≡ End → line_most ≤ length text → out ≤ out_most → Only reply text' now_waiting
  unfolding only_line
  only_end p e h o = record { line = rw e (printed p h o); within = p.within (omega arith) }

  pub only_bad : Printed no_line text text' 0 k → q.got ≡ Bad → line_most ≤ length text → Only reply text' now_waiting
  unfolding only_line
  only_bad p e h = record { line = rw e (stands no_line text text' k p h no_line_most); within = p.within (omega arith) }

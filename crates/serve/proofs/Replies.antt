-- Every reply fits the text, and is what its program prints. Assumes nothing.
use Prim.Native.Nat.{ℕ, ◌≤◌}
use mathlib.Core.List.{List}
use mathlib.Core.Path.{◌≡◌}
use lib.ListN.{length, take}
use Rattle.meaning.specs.Run.{run}
use Rattle.evaluation.specs.Bytes.{outcome}
use Rattle.form.specs.Bytes.{write_outcome}
use Rattle.lines.specs.declared.read.Got.TheVariants.{Form}
use Rattle.lines.specs.declared.read.Lines.{Lines}
use Rattle.lines.specs.Text.{out_most, line_most, Cleared, Printed}
use Rattle.lines.specs.Line.{Came, Turned}
use Rattle.lines.proofs.Waiting.{turned_form}
use Rattle.outcome.specs.Line.{line_of}
use Rattle.outcome.proofs.Outcomes as outcomes
use Rattle.match_line.specs.Line.{match_line}
use Rattle.match_line.proofs.Names as matches
use Rattle.rule_line.specs.Line.{rule_line}
use Rattle.rule_line.proofs.Telling as rules
use Rattle.texts.specs.Outcomes.{read_text_outcome, write_text_outcome, optimise_text_outcome, evaluate_text_outcome}
use Rattle.texts.specs.Faults.{fault_outcome}
use Rattle.text_line.specs.Line.{text_line, bare_line, fault_line}
use Rattle.text_line.proofs.Counts as texts
use Rattle.serve.specs.declared.Program.{Program}
use Rattle.serve.specs.declared.Program.TheVariants.{Optimise, Evaluate, Match, Rule, Read, ReadText, WriteText, OptimiseText, EvaluateText, TextFault}
use Rattle.serve.specs.Reply.{reply}

pub reply_short : (p : Program) (f : List ℕ) (first room out : ℕ) → out ≤ out_most → length (reply p room out f first) ≤ line_most
unfolding reply
reply_short Optimise f first room out h = outcomes.line_short out (run f room out) h (outcomes.run_counted f room out)
reply_short Evaluate f first room out h = outcomes.line_short out (outcome f first room out) h (outcomes.evaluation_counted f first room out)
reply_short Match f first room out h = matches.line_short f first room out h
reply_short Rule f first room out h = rules.line_short out h f first
reply_short Read f first room out h = outcomes.line_short out (write_outcome f room out) h (outcomes.write_counted f room out)
reply_short ReadText f first room out h = outcomes.line_short out (read_text_outcome f room out) h (texts.read_counted f room out)
reply_short WriteText f first room out h = texts.bare_short out (write_text_outcome f room out) h (texts.written_counted f room out)
reply_short OptimiseText f first room out h = texts.text_short out (optimise_text_outcome f room out) h (texts.optimised_counted f room out)
reply_short EvaluateText f first room out h = texts.text_short out (evaluate_text_outcome f first room out) h (texts.evaluated_counted f first room out)
reply_short TextFault f first room out h = texts.fault_short f room

module _ (p : Program) (f : List ℕ) (first room out : ℕ) (t t' : List ℕ) (at r : ℕ) where
  pub optimised : Printed (line_of (run f room out)) t t' at r → p ≡ Optimise → Printed (reply p room out f first) t t' at r
  unfolding reply
  optimised h e = rw e h

  pub evaluated : Printed (line_of (outcome f first room out)) t t' at r → p ≡ Evaluate → Printed (reply p room out f first) t t' at r
  unfolding reply
  evaluated h e = rw e h

  pub matched : Printed (match_line f first room out) t t' at r → p ≡ Match → Printed (reply p room out f first) t t' at r
  unfolding reply
  matched h e = rw e h

  pub ruled : Printed (rule_line f first out) t t' at r → p ≡ Rule → Printed (reply p room out f first) t t' at r
  unfolding reply
  ruled h e = rw e h

  pub written : Printed (line_of (write_outcome f room out)) t t' at r → p ≡ Read → Printed (reply p room out f first) t t' at r
  unfolding reply
  written h e = rw e h

  pub text_read : Printed (line_of (read_text_outcome f room out)) t t' at r → p ≡ ReadText → Printed (reply p room out f first) t t' at r
  unfolding reply
  text_read h e = rw e h

  pub text_written : Printed (bare_line (write_text_outcome f room out)) t t' at r → p ≡ WriteText → Printed (reply p room out f first) t t' at r
  unfolding reply
  text_written h e = rw e h

  pub text_optimised : Printed (text_line (optimise_text_outcome f room out)) t t' at r → p ≡ OptimiseText → Printed (reply p room out f first) t t' at r
  unfolding reply
  text_optimised h e = rw e h

  pub text_evaluated : Printed (text_line (evaluate_text_outcome f first room out)) t t' at r → p ≡ EvaluateText → Printed (reply p room out f first) t t' at r
  unfolding reply
  text_evaluated h e = rw e h

  pub text_faulted : Printed (fault_line (fault_outcome f room)) t t' at r → p ≡ TextFault → Printed (reply p room out f first) t t' at r
  unfolding reply
  text_faulted h e = rw e h

-- a turn on a form: its reply is short enough to stand whole
pub turned : (p : Program) (forms text text' : List ℕ) (s q : Lines) (at k room out : ℕ) → Printed (reply p room out (take q.n forms) q.first) text text' at k → Cleared text q.put at → Came forms s q → q.got ≡ Form → out ≤ out_most
    → Turned (reply p room out) forms text text' s (record { at = q.at; len = q.len; put = k; first = q.first; n = q.n; got = q.got })
turned p forms text text' s q at k room out h c a e o =
    turned_form (reply p room out) forms text s q at text' k h c a (reply_short p (take q.n forms) q.first room out o) e

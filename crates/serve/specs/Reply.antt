-- What each program prints for the bytes of its line or its two lines.
use Rattle.std.specs.Prelude.{ℕ, ◌≤◌, List, length}
use Rattle.meaning.specs.Limits.{room_least}
use Rattle.meaning.specs.Run.{run}
use Rattle.evaluation.specs.Bytes.{outcome}
use Rattle.form.specs.Bytes.{write_outcome}
use Rattle.lines.specs.Text.{out_most, line_most}
use Rattle.outcome.specs.Line.{line_of}
use Rattle.match_line.specs.Line.{match_line}
use Rattle.rule_line.specs.Line.{rule_line}
use Rattle.texts.specs.Outcomes.{read_text_outcome, write_text_outcome, optimise_text_outcome, evaluate_text_outcome}
use Rattle.texts.specs.Faults.{fault_outcome}
use Rattle.text_line.specs.Line.{text_line, bare_line, fault_line}
use Rattle.serve.specs.declared.Program.{Program}
use Rattle.serve.specs.declared.Program.TheVariants.{Optimise, Evaluate, Match, Rule, Read, ReadText, WriteText, OptimiseText, EvaluateText, TextFault}

-- the program, how many bytes of room are lent, how many of output; the bytes, and how many of them are the first line's
unfoldable pub reply : Program → ℕ → ℕ → List ℕ → ℕ → List ℕ
unfolding line_of match_line rule_line text_line bare_line fault_line
reply Optimise room out forms first = line_of (run forms room out)
reply Evaluate room out forms first = line_of (outcome forms first room out)
reply Match room out forms first = match_line forms first room out
reply Rule room out forms first = rule_line forms first out
reply Read room out forms first = line_of (write_outcome forms room out)
reply ReadText room out texts first = line_of (read_text_outcome texts room out)
reply WriteText room out forms first = bare_line (write_text_outcome forms room out)
reply OptimiseText room out texts first = text_line (optimise_text_outcome texts room out)
reply EvaluateText room out texts first = text_line (evaluate_text_outcome texts first room out)
reply TextFault room out text first = fault_line (fault_outcome text room)

-- the lent bytes are enough: room for a rule, an output whose line fits the text
pub record Lent (room out text : List ℕ) : Type 0 where
  pub room_enough : room_least ≤ length room
  pub out_small : length out ≤ out_most
  pub text_long : line_most ≤ length text

-- What is printed for the one line that is read.
use Rattle.std.specs.Prelude.{ℕ, ◌≤◌, ◌≡◌, List, length, take}
use Rattle.lines.specs.declared.read.Got.{Got}
use Rattle.lines.specs.declared.read.Got.TheVariants.{Form, Bad, End}
use Rattle.lines.specs.declared.read.Lines.{Lines}
use Rattle.lines.specs.Text.{no_line}

-- the reply to a form, `no line` for any other line; no line at all is the empty form
unfoldable pub only_line : Got → List ℕ → List ℕ
unfolding no_line
only_line Form reply = reply
only_line Bad reply = no_line
only_line End reply = reply

-- what waits is that line, whole, and nothing else
pub record Only (reply text : List ℕ) (r : Lines) : Type 0 where
  pub line : take r.put text ≡ only_line r.got reply
  pub within : r.put ≤ length text

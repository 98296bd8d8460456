-- What waits to be written: it waits still or was written, and a line that is printed where there is room for any stands behind it, whole.
use mathlib.Core.Path.{◌≡◌, sym, ◌∙◌, ap}
use mathlib.Core.List.{List, [], ◌++◌, append-nil}
use Prim.Native.Nat.{ℕ, ◌+◌, ◌≤◌}
use native.Mathlib.Omega.{arith}
use lib.ListN.{length, take}
use Rattle.lines.specs.declared.read.Got.TheVariants.{Form, Bad, End}
use Rattle.lines.specs.declared.read.Lines.{Lines}
use Rattle.lines.specs.Text.{line_most, Waits, still, written, Cleared, Adds, behind, alone, Printed, no_line}
use Rattle.lines.specs.Line.{Came, line_for, Turned}
use Rattle.lines.proofs.Lengths.{no_line_most}

pub waits_on : (a b c : ℕ) → Waits a b → Waits b c → Waits a c
waits_on a b c (still e) (still f) = still (f ∙ e)
waits_on a b c (written e) (still f) = written (f ∙ e)
waits_on a b c (still e) (written f) = written f
waits_on a b c (written e) (written f) = written f

-- the line stands behind what waits, or alone
module _ (line text text' : List ℕ) (put at r : ℕ) where
  line_adds : Printed line text text' at r → Waits put at → at + line_most ≤ length text → length line ≤ line_most → Adds line (take put text) (take r text')
  line_adds p (still e) h l = behind (p.stands (omega arith) ∙ ap (λ (k : ℕ). take k text ++ line) e)
  line_adds p (written e) h l = alone (p.stands (omega arith) ∙ ap (λ (k : ℕ). take k text ++ line) e)

nothing_adds : (text : List ℕ) (put at : ℕ) → Waits put at → Adds [] (take put text) (take at text)
nothing_adds text put at (still e) = behind (ap (λ (k : ℕ). take k text) e ∙ sym (append-nil (take put text)))
nothing_adds text put at (written e) = alone (ap (λ (k : ℕ). take k text) e)

-- a turn, by what came: q is what came, and r is q with what waits now
module _ (reply : List ℕ → ℕ → List ℕ) (forms text : List ℕ) (s q : Lines) (at : ℕ) where
  abbrev now_waiting : ℕ → Lines
  now_waiting k = record { at = q.at; len = q.len; put = k; first = q.first; n = q.n; got = q.got }

  pub turned_form : (text' : List ℕ) (k : ℕ) → Printed (reply (take q.n forms) q.first) text text' at k → Cleared text q.put at → Came forms s q → length (reply (take q.n forms) q.first) ≤ line_most → q.got ≡ Form
      → Turned reply forms text text' s (now_waiting k)
  unfolding line_for
  turned_form text' k p c a l e =
      let h : at + line_most ≤ length text = c.room in
      let m : length text' ≡ length text = p.long in
      record {
        adds = rw e (line_adds (reply (take q.n forms) q.first) text text' s.put at k p (waits_on s.put q.put at a.waits c.waits) h l);
        within = p.within (omega arith);
      }

  pub turned_bad : (text' : List ℕ) (k : ℕ) → Printed no_line text text' at k → Cleared text q.put at → Came forms s q → q.got ≡ Bad → Turned reply forms text text' s (now_waiting k)
  unfolding line_for
  turned_bad text' k p c a e =
      let h : at + line_most ≤ length text = c.room in
      record {
        adds = rw e (line_adds no_line text text' s.put at k p (waits_on s.put q.put at a.waits c.waits) h no_line_most);
        within = p.within (omega arith);
      }

  pub turned_end : Cleared text q.put at → Came forms s q → q.got ≡ End → Turned reply forms text text s (now_waiting at)
  unfolding line_for
  turned_end c a e =
      let h : at + line_most ≤ length text = c.room in
      record {
        adds = rw e (nothing_adds text s.put at (waits_on s.put q.put at a.waits c.waits));
        within = omega arith;
      }

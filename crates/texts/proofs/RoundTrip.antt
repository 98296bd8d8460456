-- A form's text is read as the form is, and working from a text is working from the form of its tree. Assumes nothing.
use Prim.Native.Nat.{ℕ, ◌≤◌, ◌<◌}
use mathlib.Core.Path.{◌≡◌, sym, ◌∙◌, ap}
use mathlib.Core.List.{List, []}
use lib.ListN.{length}
use native.Mathlib.Omega.{arith}
use Rattle.meaning.specs.Tree.{Tree}
use Rattle.meaning.specs.Limits.{unit_limit}
use Rattle.meaning.specs.Meter.{done}
use Rattle.meaning.specs.Form.{Reading, write, read_form, IsBytes}
use Rattle.meaning.specs.Run.{worked_on, worked}
use Rattle.meaning.proofs.Tests.{leb_true}
use Rattle.meaning.proofs.ReadWrite.{form_read}
use Rattle.meaning.proofs.Shortest.{no_longer, atoms_bytes, read_again}
use Rattle.notation.specs.Texts.{text_limit, text_of}
use Rattle.notation.specs.Grammar.{Token, tree_of_text, read_text}
use Rattle.notation.proofs.ReadBack.{reads_back}
use Rattle.notation.proofs.Short.{text_within}

-- ---- a text that parses

module _ (text : List ℕ) (t : Tree) (ts : List Token) (h : tree_of_text text ≡ done t ts) (k : length text ≤ text_limit) where
  -- It is read as the form of its tree is, whatever is charged.
  pub text_parsed : (u : ℕ) → read_text text u ≡ read_form (write t) u
  unfolding read_text
  text_parsed u = rw (leb_true (length text) text_limit k, h, read_text)

  -- Optimising from text is optimising the form of its tree.
  pub text_run : worked_on (read_text text 0) ≡ worked (write t)
  unfolding worked
  text_run = ap worked_on (text_parsed 0)

-- ---- there and back

-- a form in any spelling, read from u units on
module _ (form : List ℕ) (b : IsBytes form) (t : Tree) (s : Reading) (u : ℕ) (l : u ≤ unit_limit) (h : read_form form u ≡ done t s) where
  -- The text of a form's tree is within the text's limit,
  pub text_limited : length (text_of t) < text_limit
  text_limited =
      let r = form_read form u t s h in
      let k = no_longer form b t s u h in
      let m = r.short in
      let c = r.cheap l in
      text_within t (omega arith) (omega arith)

  -- and it is read as the form is: the same tree, for the same units.
  pub round_trip : read_text (text_of t) u ≡ done t s
  round_trip =
      let k = text_limited in
      text_parsed (text_of t) t [] (reads_back t (atoms_bytes form b t s u h)) (omega arith) u ∙ read_again form b t s u l h

-- Optimising a form's text is optimising the form.
pub same_run : (form : List ℕ) → IsBytes form → (t : Tree) (s : Reading) → read_form form 0 ≡ done t s → worked_on (read_text (text_of t) 0) ≡ worked form
unfolding worked
same_run form b t s h = ap worked_on (round_trip form b t s 0 (omega arith) h ∙ sym h)

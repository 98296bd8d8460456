-- The steps of `evaluate_text`: the program's form, and the environment's behind it.
use Rattle.std.specs.Prelude.{ℕ, ◌≤◌, ◌≡◌, List, length, take, drop, Result, Ok, Err}
use Rattle.refusals.specs.declared.Refusal.{Refusal}
use Rattle.meaning.specs.Tree.{Tree}
use Rattle.meaning.specs.Meter.{Out, done}
use Rattle.meaning.specs.Form.{Reading}
use Rattle.form.specs.Spans.{Stops}
use Rattle.form.specs.Both.{read_both}
use Rattle.notation.specs.Grammar.{read_text}
use Rattle.text_reader.specs.Converts.{Converts}
use Rattle.texts.specs.declared.Forms.{Forms}
use Rattle.texts.specs.Outcomes.{read_texts}

-- bytes of two forms
abbrev pub forms_most : ℕ
forms_most = 16_384

-- a reading is not refused (data, as `Stops` is)
pub data Reads (o : Out Reading Tree) : Type 0 where
  reads : (t : Tree) (s : Reading) → o ≡ done t s → Reads o

-- the text is read, and the first n bytes of f are read as it is
pub record FirstTo (text f : List ℕ) (n : ℕ) : Type 0 where
  pub converts : Converts text f n
  pub read : Reads (read_text text 0)

unfoldable pub FirstOk : List ℕ → List ℕ → Result ℕ Refusal → Type 0
unfolding read_text
FirstOk text f (Ok n) = FirstTo text f n
FirstOk text f (Err e) = Stops (read_text text 0) e

-- of the first `end` bytes of f, n and the rest are read as both texts are
pub record BothTo (first second f : List ℕ) (n end : ℕ) : Type 0 where
  pub within : end ≤ length f
  pub is : read_texts first second ≡ read_both (take n (take end f)) (drop n (take end f))

unfoldable pub BothOk : List ℕ → List ℕ → List ℕ → Result Forms Refusal → Type 0
unfolding read_texts
BothOk first second f (Ok a) = BothTo first second f a.first a.both
BothOk first second f (Err e) = Stops (read_texts first second) e

-- The public functions of the notation: from the bytes of a text or a form, and the lengths of the lent room and output, to the outcome.
use Rattle.std.specs.Prelude.{ℕ, List, [], ◌∷◌, length, take, drop}
use Rattle.meaning.specs.Tree.{Tree}
use Rattle.meaning.specs.Meter.{Out, done, stop, Steps, Spent}
use Rattle.meaning.specs.Form.{Reading, read_form}
use Rattle.meaning.specs.Outcome.{Outcome, deliver, ended, in_room}
use Rattle.meaning.specs.Run.{mark_number, worked_on}
use Rattle.form.specs.Both.{Both}
use Rattle.form.specs.Bytes.{delivered_write}
use Rattle.evaluation.specs.Bytes.{worked_on as evaluated-on}
use Rattle.notation.specs.Texts.{text_of}
use Rattle.notation.specs.Grammar.{read_text}

-- a tree, written as text: its length is told before the other numbers
unfoldable pub deliver_text : ℕ → Tree → List ℕ → Outcome
unfolding deliver text_of
deliver_text out-length t numbers = deliver out-length (text_of t) (length (text_of t) ∷ numbers)

-- ---- text in, serialised form out

-- length and units
unfoldable pub read_text_outcome : List ℕ → ℕ → ℕ → Outcome
unfolding delivered_write read_text ended in_room
read_text_outcome text room-length out-length = in_room room-length (ended (delivered_write out-length) (read_text text 0))

-- ---- serialised form in, text out

-- length and units
unfoldable pub delivered_text : ℕ → Tree → Reading → Outcome
unfolding deliver_text
delivered_text out-length t s = deliver_text out-length t (s.units ∷ [])

unfoldable pub write_text_outcome : List ℕ → ℕ → ℕ → Outcome
unfolding delivered_text read_form ended in_room
write_text_outcome form room-length out-length = in_room room-length (ended (delivered_text out-length) (read_form form 0))

-- ---- optimising, from text to text

-- the finished tree as text, "whatever its serialised length": length, passes, units and mark
unfoldable pub delivered_run : ℕ → Tree → Spent → Outcome
unfolding deliver_text mark_number
delivered_run out-length t s = deliver_text out-length t (s.passes ∷ s.units ∷ mark_number s.mark ∷ [])

unfoldable pub optimise_text_outcome : List ℕ → ℕ → ℕ → Outcome
unfolding delivered_run worked_on read_text ended in_room
optimise_text_outcome text room-length out-length = in_room room-length (ended (delivered_run out-length) (worked_on (read_text text 0)))

-- ---- evaluating, from text to text

-- the program's text whole, then the environment's from the units that the program cost
unfoldable pub read_texts : List ℕ → List ℕ → Out Reading Both
unfolding read_text
read_texts first second = elim (read_text first 0) [
  | done t s ↦ elim (read_text second s.units) [
    | done u r ↦ done (record { one = t; other = u }) r
    | stop n r ↦ stop n r
  ]
  | stop n s ↦ stop n s
]

-- the value as text: length, steps and units
unfoldable pub delivered_value : ℕ → Tree → Steps → Outcome
unfolding deliver_text
delivered_value out-length t s = deliver_text out-length t (s.steps ∷ s.units ∷ [])

-- both texts, how many bytes the program's has
unfoldable pub evaluate_text_outcome : List ℕ → ℕ → ℕ → ℕ → Outcome
unfolding delivered_value evaluated-on read_texts ended in_room
evaluate_text_outcome texts first room-length out-length = in_room room-length (ended (delivered_value out-length) (evaluated-on (read_texts (take first texts) (drop first texts))))

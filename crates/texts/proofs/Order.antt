-- 02's order of a text's refusals: 16 whatever it says; then 15; then 2; then what the form of its tree is refused with. Assumes nothing.
use Prim.Native.Nat.{ℕ, ◌≤◌, ◌<◌}
use mathlib.Core.Path.{◌≡◌, ◌∙◌}
use mathlib.Core.List.{List, []}
use lib.ListN.{length}
use Rattle.refusals.specs.declared.Refusal.{Refusal}
use Rattle.refusals.specs.declared.Refusal.TheVariants.{FormLong, NoParse, TextLong}
use Rattle.meaning.specs.Tree.{Tree}
use Rattle.meaning.specs.Limits.{form_limit}
use Rattle.meaning.specs.Meter.{done, stop}
use Rattle.meaning.specs.Form.{Reading, write, read_form}
use Rattle.meaning.proofs.Tests.{leb_true, leb_no}
use Rattle.notation.specs.Texts.{text_limit}
use Rattle.notation.specs.Grammar.{Token, tree_of_text, read_text}
use Rattle.texts.proofs.RoundTrip.{text_parsed}

module _ (text : List ℕ) (u : ℕ) where
  -- nothing of the text was read yet
  abbrev unread : Reading
  unread = record { left = []; units = u }

  -- 16: a text over its limit, whatever it says
  pub too_long : text_limit < length text → read_text text u ≡ stop TextLong unread
  unfolding read_text
  too_long h = rw (leb_no (length text) text_limit h, read_text)

  module _ (k : length text ≤ text_limit) where
    -- 15: a text that does not parse
    pub no_parse : (n : Refusal) (ts : List Token) → tree_of_text text ≡ stop n ts → read_text text u ≡ stop NoParse unread
    unfolding read_text
    no_parse n ts h = rw (leb_true (length text) text_limit k, h, read_text)

    module _ (t : Tree) (ts : List Token) (h : tree_of_text text ≡ done t ts) where
      -- 2: a tree whose written form is too long
      pub form_too_long : form_limit < length (write t) → read_text text u ≡ stop FormLong (record { left = write t; units = u })
      unfolding read_form
      form_too_long l = text_parsed text t ts h k u ∙ rw (leb_no (length (write t)) form_limit l, read_form)

      -- any other text is read as the form of its tree
      pub read_as_form : read_text text u ≡ read_form (write t) u
      read_as_form = text_parsed text t ts h k u

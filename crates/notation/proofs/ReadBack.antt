-- A tree is read back from its text. Assumes nothing.
use mathlib.Core.Path.{◌≡◌, ◌∙◌, ap}
use mathlib.Core.List.{List, [], ◌∷◌}
use lib.ListN.{length}
use native.Mathlib.Omega.{arith}
use Rattle.meaning.specs.Tree.{Tree}
use Rattle.meaning.specs.Meter.{done}
use Rattle.meaning.specs.Form.{IsBytes, EveryAtom}
use Rattle.notation.specs.declared.Place.TheVariants.{Code}
use Rattle.notation.specs.Texts.{text_of}
use Rattle.notation.specs.Grammar.{Token, whole, tree_of_text}
use Rattle.notation.proofs.TokenLaws.{first_at, more_at, text_tokens}
use Rattle.notation.proofs.ParseLaws.{whole_read}

-- The text of a tree, of any size, is read as that tree.
pub reads_back : (t : Tree) → EveryAtom IsBytes t → tree_of_text (text_of t) ≡ done t []
unfolding tree_of_text
reads_back t h =
    ap (λ (ts : List Token). whole (length ts) ts) (text_tokens t h)
    ∙ whole_read t (length (first_at t Code ∷ more_at t Code)) h (omega arith)

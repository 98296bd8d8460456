-- The test for a proper list says whether it has elements to list. Assumes nothing.
use mathlib.Core.Path.{◌≡◌, refl}
use mathlib.Core.List.{List, [], ◌∷◌}
use mathlib.Core.Bool.{true, false}
use mathlib.Core.Option.{none, some}
use Rattle.meaning.specs.Tree.{Tree, atom, pair, proper_list}
use Rattle.meaning.specs.Substitute.{is_proper}
use Rattle.meaning.proofs.Tests.{not_true, not_false}

pub proper_yes : (t : Tree) → is_proper t ≡ true → (es : List Tree) × (proper_list t ≡ some es)
unfolding is_proper proper_list
proper_yes (atom []) h = ([], refl)
proper_yes (atom (b ∷ bs)) h = not_false h
proper_yes (pair l r) h = let (es, e) = proper_yes r h in (l ∷ es, rw e)

pub proper_no : (t : Tree) → is_proper t ≡ false → proper_list t ≡ none
unfolding is_proper proper_list
proper_no (atom []) h = not_true h
proper_no (atom (b ∷ bs)) h = refl
proper_no (pair l r) h = rw (proper_no r h)

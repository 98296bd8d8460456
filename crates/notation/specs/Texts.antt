-- Document 02, "Ask 1": the text of a tree.
use Rattle.std.specs.Prelude.{ℕ, List, [], ◌∷◌, ◌++◌, Bool, true, false}
use Rattle.meaning.specs.Tree.{Tree, atom, pair, is_byte}
use Rattle.notation.specs.declared.Place.{Place}
use Rattle.notation.specs.declared.Place.TheVariants.{Operator, Code, Data}
use Rattle.notation.specs.Words.{atom_text}

-- bytes of a text: refusal 16
abbrev pub text_limit : ℕ
text_limit = 32_768

-- the head of a list read as code: "a pair as head too" is read as code
abbrev pub head_in : Place → Place
head_in Operator = Operator
head_in Code = Operator
head_in Data = Data

-- the atom 1
unfoldable pub is_one : Tree → Bool
unfolding is_byte
is_one (atom b) = is_byte 1 b
is_one (pair l r) = false

-- what follows an element: "all that follows a head of 1 is data"
unfoldable pub after : Place → Tree → Place
unfolding is_one
after Operator t = elim (is_one t) [ true ↦ Data | false ↦ Code ]
after Code t = Code
after Data t = Data

-- the place after an element that is the atom 1 (true), or another
abbrev pub place_after : Place → Bool → Place
place_after Operator true = Data
place_after Operator false = Code
place_after Code one = Code
place_after Data one = Data

unfoldable mutual
  unfolding atom_text after

  -- "lists in parentheses"
  pub text_at : Tree → Place → List ℕ
  text_at (atom b) p = atom_text p b
  text_at (pair l r) p = 0x28 ∷ (text_at l (head_in p) ++ text_rest r (after (head_in p) l))

  -- the rest of a list: one space between parts; "a dot before a last part" that is no nil; the closing bracket
  pub text_rest : Tree → Place → List ℕ
  text_rest (atom []) p = 0x29 ∷ []
  text_rest (atom (b ∷ bs)) p = 0x20 ∷ 0x2e ∷ 0x20 ∷ (atom_text p (b ∷ bs) ++ (0x29 ∷ []))
  text_rest (pair l r) p = 0x20 ∷ (text_at l p ++ text_rest r (after p l))

-- "the whole form .. read as code"
unfoldable pub text_of : Tree → List ℕ
unfolding text_at
text_of t = text_at t Code

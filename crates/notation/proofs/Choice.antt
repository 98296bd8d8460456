-- Document 02, "Ask 1": which spelling the writer chooses for an atom, and examples of texts and trees. Assumes nothing.
use Prim.Native.Nat.{ℕ, ◌-◌, ◌≤◌}
use mathlib.Core.Path.{◌≡◌, refl}
use mathlib.Core.List.{List, [], ◌∷◌, map}
use mathlib.Core.Option.{Option, none, some}
use lib.ListN.{get_or}
use native.Mathlib.Omega.{arith}
use borrow.Author.Tests.{le-leb, lt-leb}
use Rattle.meaning.specs.Tree.{Tree, atom, pair, nil, byte}
use Rattle.meaning.specs.Meter.{done, stop}
use Rattle.notation.specs.declared.Place.{Place}
use Rattle.notation.specs.declared.Place.TheVariants.{Operator, Code, Data}
use Rattle.notation.specs.Words.{names, name_of, name_at, hex, atom_text}
use Rattle.notation.specs.Texts.{text_of}
use Rattle.notation.specs.Grammar.{tree_of_text}

-- ---- an atom

-- "nil as `()`", at every place
pub nil_text : (p : Place) → atom_text p [] ≡ 0x28 ∷ 0x29 ∷ []
unfolding atom_text
nil_text p = refl

-- "a name in operator place where one fits": 1 to 9 there
pub name_text : (k : ℕ) → 1 ≤ k → k ≤ 9 → atom_text Operator (k ∷ []) ≡ get_or names (k - 1) 0 ∷ []
unfolding atom_text name_at name_of
name_text k h i = rw (le-leb 1 k h, le-leb k 9 i, name_of, atom_text)

-- the names of 1 to 9: q a i c f r l x =
pub name_texts : map (λ k. atom_text Operator (k ∷ [])) (1 ∷ 2 ∷ 3 ∷ 4 ∷ 5 ∷ 6 ∷ 7 ∷ 8 ∷ 9 ∷ []) ≡
    (0x71 ∷ []) ∷ (0x61 ∷ []) ∷ (0x69 ∷ []) ∷ (0x63 ∷ []) ∷ (0x66 ∷ []) ∷ (0x72 ∷ []) ∷ (0x6c ∷ []) ∷ (0x78 ∷ []) ∷ (0x3d ∷ []) ∷ []
unfolding atom_text
name_texts = refl

-- "else `0x` with two digits a byte": every other atom in operator place,
pub zero_text : atom_text Operator (0 ∷ []) ≡ 0x30 ∷ 0x78 ∷ hex (0 ∷ [])
unfolding atom_text
zero_text = refl

pub high_text : (k : ℕ) → 10 ≤ k → atom_text Operator (k ∷ []) ≡ 0x30 ∷ 0x78 ∷ hex (k ∷ [])
unfolding atom_text name_at name_of
high_text k h = let one : 1 ≤ k = omega arith in rw (le-leb 1 k one, lt-leb k 9 h, name_of, atom_text)

pub long_text : (a b : ℕ) (bs : List ℕ) → atom_text Operator (a ∷ b ∷ bs) ≡ 0x30 ∷ 0x78 ∷ hex (a ∷ b ∷ bs)
unfolding atom_text
long_text a b bs = refl

-- every atom elsewhere in code,
pub code_text : (b : ℕ) (bs : List ℕ) → atom_text Code (b ∷ bs) ≡ 0x30 ∷ 0x78 ∷ hex (b ∷ bs)
unfolding atom_text
code_text b bs = refl

-- and every atom of data
pub data_text : (b : ℕ) (bs : List ℕ) → atom_text Data (b ∷ bs) ≡ 0x30 ∷ 0x78 ∷ hex (b ∷ bs)
unfolding atom_text
data_text b bs = refl

-- ---- examples

pub record Example : Type 0 where
  pub tree : Tree
  pub text : List ℕ

unfoldable pub written : List Example
written =
    -- (f . 0x05)
    record { tree = pair (byte 5) (byte 5); text = 0x28 ∷ 0x66 ∷ 0x20 ∷ 0x2e ∷ 0x20 ∷ 0x30 ∷ 0x78 ∷ 0x30 ∷ 0x35 ∷ 0x29 ∷ [] }
    -- (q 0x05 0x01)
    ∷ record { tree = pair (byte 1) (pair (byte 5) (pair (byte 1) nil)); text = 0x28 ∷ 0x71 ∷ 0x20 ∷ 0x30 ∷ 0x78 ∷ 0x30 ∷ 0x35 ∷ 0x20 ∷ 0x30 ∷ 0x78 ∷ 0x30 ∷ 0x31 ∷ 0x29 ∷ [] }
    -- ((f 0x01) 0x02)
    ∷ record { tree = pair (pair (byte 5) (pair (byte 1) nil)) (pair (byte 2) nil); text = 0x28 ∷ 0x28 ∷ 0x66 ∷ 0x20 ∷ 0x30 ∷ 0x78 ∷ 0x30 ∷ 0x31 ∷ 0x29 ∷ 0x20 ∷ 0x30 ∷ 0x78 ∷ 0x30 ∷ 0x32 ∷ 0x29 ∷ [] }
    -- ()
    ∷ record { tree = nil; text = 0x28 ∷ 0x29 ∷ [] }
    -- 0x05
    ∷ record { tree = byte 5; text = 0x30 ∷ 0x78 ∷ 0x30 ∷ 0x35 ∷ [] }
    -- (q () 0x01)
    ∷ record { tree = pair (byte 1) (pair nil (pair (byte 1) nil)); text = 0x28 ∷ 0x71 ∷ 0x20 ∷ 0x28 ∷ 0x29 ∷ 0x20 ∷ 0x30 ∷ 0x78 ∷ 0x30 ∷ 0x31 ∷ 0x29 ∷ [] }
    -- (q (0x05 0x01) . 0x06)
    ∷ record { tree = pair (byte 1) (pair (pair (byte 5) (pair (byte 1) nil)) (byte 6)); text = 0x28 ∷ 0x71 ∷ 0x20 ∷ 0x28 ∷ 0x30 ∷ 0x78 ∷ 0x30 ∷ 0x35 ∷ 0x20 ∷ 0x30 ∷ 0x78 ∷ 0x30 ∷ 0x31 ∷ 0x29 ∷ 0x20 ∷ 0x2e ∷ 0x20 ∷ 0x30 ∷ 0x78 ∷ 0x30 ∷ 0x36 ∷ 0x29 ∷ [] }
    -- (() () . 0xff00)
    ∷ record { tree = pair nil (pair nil (atom (0xff ∷ 0 ∷ []))); text = 0x28 ∷ 0x28 ∷ 0x29 ∷ 0x20 ∷ 0x28 ∷ 0x29 ∷ 0x20 ∷ 0x2e ∷ 0x20 ∷ 0x30 ∷ 0x78 ∷ 0x66 ∷ 0x66 ∷ 0x30 ∷ 0x30 ∷ 0x29 ∷ [] }
    ∷ []

pub texts_written : map (λ e. text_of e.tree) written ≡ map (λ e. e.text) written
unfolding written text_of
texts_written = refl

-- the tree of a text, where there is one
unfoldable pub tree_read : List ℕ → Option Tree
unfolding tree_of_text
tree_read text = elim (tree_of_text text) [ done t ts ↦ some t | stop n ts ↦ none ]

unfoldable pub parsed : List Example
parsed =
    -- (5 . (6))
    record { tree = pair (byte 5) (pair (byte 6) nil); text = 0x28 ∷ 0x35 ∷ 0x20 ∷ 0x2e ∷ 0x20 ∷ 0x28 ∷ 0x36 ∷ 0x29 ∷ 0x29 ∷ [] }
    -- -0
    ∷ record { tree = nil; text = 0x2d ∷ 0x30 ∷ [] }
    -- ""
    ∷ record { tree = nil; text = 0x22 ∷ 0x22 ∷ [] }
    -- ()
    ∷ record { tree = nil; text = 0x28 ∷ 0x29 ∷ [] }
    -- 0
    ∷ record { tree = nil; text = 0x30 ∷ [] }
    -- 128
    ∷ record { tree = atom (0 ∷ 0x80 ∷ []); text = 0x31 ∷ 0x32 ∷ 0x38 ∷ [] }
    -- -128
    ∷ record { tree = atom (0x80 ∷ []); text = 0x2d ∷ 0x31 ∷ 0x32 ∷ 0x38 ∷ [] }
    -- -129
    ∷ record { tree = atom (0xff ∷ 0x7f ∷ []); text = 0x2d ∷ 0x31 ∷ 0x32 ∷ 0x39 ∷ [] }
    -- -1
    ∷ record { tree = atom (0xff ∷ []); text = 0x2d ∷ 0x31 ∷ [] }
    -- 007
    ∷ record { tree = atom (7 ∷ []); text = 0x30 ∷ 0x30 ∷ 0x37 ∷ [] }
    -- (f"ab")
    ∷ record { tree = pair (byte 5) (pair (atom (0x61 ∷ 0x62 ∷ [])) nil); text = 0x28 ∷ 0x66 ∷ 0x22 ∷ 0x61 ∷ 0x62 ∷ 0x22 ∷ 0x29 ∷ [] }
    -- (q . (5 1))
    ∷ record { tree = pair (byte 1) (pair (byte 5) (pair (byte 1) nil)); text = 0x28 ∷ 0x71 ∷ 0x20 ∷ 0x2e ∷ 0x20 ∷ 0x28 ∷ 0x35 ∷ 0x20 ∷ 0x31 ∷ 0x29 ∷ 0x29 ∷ [] }
    -- (f . ((f)))
    ∷ record { tree = pair (byte 5) (pair (pair (byte 5) nil) nil); text = 0x28 ∷ 0x66 ∷ 0x20 ∷ 0x2e ∷ 0x20 ∷ 0x28 ∷ 0x28 ∷ 0x66 ∷ 0x29 ∷ 0x29 ∷ 0x29 ∷ [] }
    -- ((q . 5) 6)
    ∷ record { tree = pair (pair (byte 1) (byte 5)) (pair (byte 6) nil); text = 0x28 ∷ 0x28 ∷ 0x71 ∷ 0x20 ∷ 0x2e ∷ 0x20 ∷ 0x35 ∷ 0x29 ∷ 0x20 ∷ 0x36 ∷ 0x29 ∷ [] }
    -- 0xAbc0
    ∷ record { tree = atom (0xab ∷ 0xc0 ∷ []); text = 0x30 ∷ 0x78 ∷ 0x41 ∷ 0x62 ∷ 0x63 ∷ 0x30 ∷ [] }
    -- blanks, a tab, a line's end and a carriage return around the parts of (5 . 0x06)
    ∷ record { tree = pair (byte 5) (byte 6); text = 0x20 ∷ 0x28 ∷ 0x09 ∷ 0x35 ∷ 0x0d ∷ 0x0a ∷ 0x2e ∷ 0x20 ∷ 0x30 ∷ 0x78 ∷ 0x30 ∷ 0x36 ∷ 0x20 ∷ 0x29 ∷ 0x20 ∷ [] }
    ∷ []

pub texts_parsed : map (λ e. tree_read e.text) parsed ≡ map (λ e. some e.tree) parsed
unfolding parsed tree_read
texts_parsed = refl

-- texts of no tree
unfoldable pub refused : List (List ℕ)
refused =
    -- (c . (f 1))
    (0x28 ∷ 0x63 ∷ 0x20 ∷ 0x2e ∷ 0x20 ∷ 0x28 ∷ 0x66 ∷ 0x20 ∷ 0x31 ∷ 0x29 ∷ 0x29 ∷ [])
    -- (q f)
    ∷ (0x28 ∷ 0x71 ∷ 0x20 ∷ 0x66 ∷ 0x29 ∷ [])
    -- (. 5)
    ∷ (0x28 ∷ 0x2e ∷ 0x20 ∷ 0x35 ∷ 0x29 ∷ [])
    -- (5 .)
    ∷ (0x28 ∷ 0x35 ∷ 0x20 ∷ 0x2e ∷ 0x29 ∷ [])
    -- (5 . 6 7)
    ∷ (0x28 ∷ 0x35 ∷ 0x20 ∷ 0x2e ∷ 0x20 ∷ 0x36 ∷ 0x20 ∷ 0x37 ∷ 0x29 ∷ [])
    -- 5 6
    ∷ (0x35 ∷ 0x20 ∷ 0x36 ∷ [])
    -- the empty text
    ∷ ([])
    -- "ab
    ∷ (0x22 ∷ 0x61 ∷ 0x62 ∷ [])
    -- 0x5
    ∷ (0x30 ∷ 0x78 ∷ 0x35 ∷ [])
    -- 0x
    ∷ (0x30 ∷ 0x78 ∷ [])
    -- 0X05
    ∷ (0x30 ∷ 0x58 ∷ 0x30 ∷ 0x35 ∷ [])
    -- +5
    ∷ (0x2b ∷ 0x35 ∷ [])
    -- -
    ∷ (0x2d ∷ [])
    -- (1.2)
    ∷ (0x28 ∷ 0x31 ∷ 0x2e ∷ 0x32 ∷ 0x29 ∷ [])
    -- (
    ∷ (0x28 ∷ [])
    -- )
    ∷ (0x29 ∷ [])
    -- ()()
    ∷ (0x28 ∷ 0x29 ∷ 0x28 ∷ 0x29 ∷ [])
    -- f
    ∷ (0x66 ∷ [])
    -- (1 f)
    ∷ (0x28 ∷ 0x31 ∷ 0x20 ∷ 0x66 ∷ 0x29 ∷ [])
    -- (5 . . 6)
    ∷ (0x28 ∷ 0x35 ∷ 0x20 ∷ 0x2e ∷ 0x20 ∷ 0x2e ∷ 0x20 ∷ 0x36 ∷ 0x29 ∷ [])
    -- (5 .  . 6)
    ∷ (0x28 ∷ 0x35 ∷ 0x20 ∷ 0x2e ∷ 0x20 ∷ 0x20 ∷ 0x2e ∷ 0x20 ∷ 0x36 ∷ 0x29 ∷ [])
    ∷ []

pub texts_refused : map tree_read refused ≡ map (λ t. none) refused
unfolding refused tree_read
texts_refused = refl

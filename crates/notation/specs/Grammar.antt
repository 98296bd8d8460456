-- Document 02, "Ask 1": the tree of a text, or none.
use Rattle.std.specs.Prelude.{ℕ, zero, suc, ◌+◌, ◌-◌, List, [], ◌∷◌, ◌++◌, Bool, ◌&&◌, eqb, leb, length}
use Rattle.std.proofs.Math.Bool.{true, false}
use Rattle.std.proofs.Math.Option.{none, some}
use Rattle.refusals.specs.declared.Refusal.TheVariants.{NoParse, TextLong}
use Rattle.meaning.specs.Tree.{Tree, atom, pair, nil, is_byte}
use Rattle.meaning.specs.Meter.{Out, done, stop, M, ◌>>=◌, ◌>>◌, give, refuse, hold}
use Rattle.meaning.specs.Form.{Reading, write, read_form}
use Rattle.notation.specs.declared.Place.{Place}
use Rattle.notation.specs.declared.Place.TheVariants.{Operator, Code}
use Rattle.notation.specs.declared.Kind.{Kind}
use Rattle.notation.specs.declared.Kind.TheVariants.{Blank, Opens, Closes, Quotes, Plain}
use Rattle.notation.specs.Words.{word_bytes}
use Rattle.notation.specs.Texts.{text_limit, head_in, after}

-- ---- tokens, and where they begin

-- brackets, a dot that stands alone, a word, quoted text; or what no text may have
pub data Token : Type 0 where
  opening closing dot wrong : Token
  word quoted : List ℕ → Token

-- a token, and the number of the byte at which it begins, from 0 on
pub data Spot : Type 0 where
  spot : Token → ℕ → Spot

-- what a byte does outside quotes: space, tab, CR, LF separate; "lists in parentheses", "double-quoted text"
unfoldable pub kind_of : ℕ → Kind
kind_of c = elim (eqb c 0x20) [
  | true ↦ Blank
  | false ↦ elim (eqb c 0x28) [
    | true ↦ Opens
    | false ↦ elim (eqb c 0x29) [
      | true ↦ Closes
      | false ↦ elim (eqb c 0x22) [
        | true ↦ Quotes
        | false ↦ elim (eqb c 0x09) [
          | true ↦ Blank
          | false ↦ elim (eqb c 0x0a) [ true ↦ Blank | false ↦ elim (eqb c 0x0d) [ true ↦ Blank | false ↦ Plain ] ]
        ]
      ]
    ]
  ]
]

-- a dot alone is no word
unfoldable pub word_or_dot : List ℕ → Token
unfolding is_byte
word_or_dot w = elim (is_byte 0x2e w) [ true ↦ dot | false ↦ word w ]

-- a word that ends before the byte i, before what follows it; none where none was begun
unfoldable pub ending : List ℕ → ℕ → List Spot → List Spot
unfolding word_or_dot
ending [] i ss = ss
ending (c ∷ cs) i ss = spot (word_or_dot (c ∷ cs)) (i - length (c ∷ cs)) ∷ ss

unfoldable mutual
  unfolding kind_of ending

  -- the tokens of a text from the byte i on, where the word w was begun
  pub spots_from : List ℕ → ℕ → List ℕ → List Spot
  spots_from [] i w = ending w i []
  spots_from (c ∷ cs) i w = elim (kind_of c) [
    | Plain ↦ spots_from cs (i + 1) (w ++ (c ∷ []))
    | Blank ↦ ending w i (spots_from cs (i + 1) [])
    | Opens ↦ ending w i (spot opening i ∷ spots_from cs (i + 1) [])
    | Closes ↦ ending w i (spot closing i ∷ spots_from cs (i + 1) [])
    | Quotes ↦ ending w i (quoted_from cs (i + 1) i [])
  ]

  -- "quoted text is bytes `20` to `7e` without the quote": what follows the quote at q. Another byte there is wrong; so is a quote that is not closed
  pub quoted_from : List ℕ → ℕ → ℕ → List ℕ → List Spot
  quoted_from [] i q s = spot wrong q ∷ []
  quoted_from (c ∷ cs) i q s = elim (eqb c 0x22) [
    | true ↦ spot (quoted s) q ∷ spots_from cs (i + 1) []
    | false ↦ elim (leb 0x20 c && leb c 0x7e) [ true ↦ quoted_from cs (i + 1) q (s ++ (c ∷ [])) | false ↦ spot wrong i ∷ [] ]
  ]

-- the tokens of a text, with their places
unfoldable pub spots : List ℕ → List Spot
unfolding spots_from
spots text = spots_from text 0 []

-- the tokens alone
unfoldable pub signs : List Spot → List Token
signs [] = []
signs (spot t i ∷ ss) = t ∷ signs ss

-- the tokens of a text
unfoldable pub tokens : List ℕ → List Token
unfolding spots signs
tokens text = signs (spots text)

-- ---- lists

-- work over the tokens that are left: refusal 15 is all that can stop it, and leaves the token at which it came, and those after it
abbrev pub P : Type 0 → Type 0
P A = M (List Token) A

-- the next token; a text that ends early doesn't parse
unfoldable pub first_token : List Token → Out (List Token) Token
first_token [] = stop NoParse []
first_token (t ∷ ts) = done t ts

unfoldable pub next_token : P Token
unfolding first_token
next_token = λ ts. first_token ts

-- the token t, which was the next, may not stand there
unfoldable pub misplaced : {A : Type 0} → Token → P A
misplaced t = λ ts. stop NoParse (t ∷ ts)

-- an atom at a place, or a list, which `list` reads
unfoldable pub element : P Tree → Place → Token → P Tree
unfolding word_bytes give misplaced
element list p opening = list
element list p (word w) = elim (word_bytes p w) [ some b ↦ give (atom b) | none ↦ misplaced (word w) ]
element list p (quoted s) = give (atom s)
element list p closing = misplaced closing
element list p dot = misplaced dot
element list p wrong = misplaced wrong

-- the bracket that must follow a last part
unfoldable pub closes : Token → P (Unit {0})
unfolding give misplaced
closes closing = give tt
closes opening = misplaced opening
closes dot = misplaced dot
closes wrong = misplaced wrong
closes (word w) = misplaced (word w)
closes (quoted s) = misplaced (quoted s)

-- the rest of a list is read by `rest`, from the place of the next element on, and whether an element came before
module _ (rest : Place → Bool → P Tree) where
  -- an element that the token t begins, and the rest of the list after it
  unfoldable pub element_and_rest : Place → Token → P Tree
  unfolding element after give ◌>>=◌
  element_and_rest p t = do
    e ← element (rest (head_in p) false) p t
    r ← rest (after p e) true
    give (pair e r)

  -- "a dot before a last part": a list there goes on with the list around it
  unfoldable pub last_part : Place → P Tree
  unfolding next_token element closes give ◌>>=◌ ◌>>◌
  last_part p = do
    t ← next_token
    e ← element (rest p false) p t
    c ← next_token
    closes c
    give e

  -- what the token t begins in a list
  unfoldable pub in_list : Place → Bool → Token → P Tree
  unfolding element_and_rest last_part give misplaced
  in_list p begun closing = give nil
  in_list p begun dot = elim begun [ true ↦ last_part p | false ↦ misplaced dot ]
  in_list p begun opening = element_and_rest p opening
  in_list p begun (word w) = element_and_rest p (word w)
  in_list p begun (quoted s) = element_and_rest p (quoted s)
  in_list p begun wrong = misplaced wrong

-- the rest of a list. (The count is of tokens: as many as there are is enough.)
unfoldable pub rest_of : ℕ → Place → Bool → P Tree
unfolding next_token in_list refuse ◌>>=◌
rest_of zero p begun = refuse NoParse
rest_of (suc k) p begun = next_token >>= λ t. in_list (λ q b. rest_of k q b) p begun t

-- no token is left
unfoldable pub no_more : List Token → Bool
no_more [] = true
no_more (t ∷ ts) = false

-- nothing follows the expression
unfoldable pub all_read : P (Unit {0})
unfolding no_more hold
all_read = λ ts. hold (no_more ts) NoParse ts

-- one expression and no more
unfoldable pub whole : ℕ → P Tree
unfolding next_token element rest_of all_read give ◌>>=◌ ◌>>◌
whole k = do
  t ← next_token
  e ← element (rest_of k Operator false) Code t
  all_read
  give e

-- the tree of a text, or that it doesn't parse
unfoldable pub tree_of_text : List ℕ → Out (List Token) Tree
unfolding tokens whole
tree_of_text text = whole (length (tokens text)) (tokens text)

-- ---- 02: "16 for text over 32,768 bytes ..; 15 for text that doesn't parse; 2 for a tree whose serialised form is too long; then 5 and 7 in the order of that form"

-- the reading of a text, from u units on
unfoldable pub read_text : List ℕ → ℕ → Out Reading Tree
unfolding tree_of_text write read_form
read_text text u = elim (leb (length text) text_limit) [
  | true ↦ elim (tree_of_text text) [
    | done t ts ↦ read_form (write t) u
    | stop n ts ↦ stop NoParse (record { left = []; units = u })
  ]
  | false ↦ stop TextLong (record { left = []; units = u })
]

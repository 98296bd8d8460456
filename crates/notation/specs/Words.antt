-- Document 02, "Ask 1": where an atom stands, and its spellings there.
use Rattle.std.specs.Prelude.{ℕ, zero, suc, ◌+◌, ◌-◌, ◌*◌, ◌/◌, ◌%◌, List, [], ◌∷◌, true, false, ◌&&◌, eqb, leb, ltb, get_or}
use Rattle.std.proofs.Math.Option.{Option, none, some}
use Rattle.notation.specs.declared.Place.{Place}
use Rattle.notation.specs.declared.Place.TheVariants.{Operator, Code, Data}
use Rattle.meaning.specs.Number.{Signed, plus, minus, negative, bytes_of}

-- "An operator place is the head, in the tree, of a list read as code" (`Operator`); elsewhere in code (`Code`); "all that follows a head of 1 is data" (`Data`)

-- ---- names: "the names q a i c f r l x = in operator place"

-- the names of the operators 1 to 9, in their order: qaicfrlx=
abbrev pub names : List ℕ
names = 0x71 ∷ 0x61 ∷ 0x69 ∷ 0x63 ∷ 0x66 ∷ 0x72 ∷ 0x6c ∷ 0x78 ∷ 0x3d ∷ []

-- the name of an operator
unfoldable pub name_of : ℕ → Option ℕ
name_of k = elim (leb 1 k && leb k 9) [ true ↦ some (get_or names (k - 1) 0) | false ↦ none ]

-- where a name stands among names numbered from k on
unfoldable pub numbered : ℕ → ℕ → List ℕ → Option ℕ
numbered c k [] = none
numbered c k (n ∷ ns) = elim (eqb c n) [ true ↦ some k | false ↦ numbered c (suc k) ns ]

-- the name that fits these bytes at a place
unfoldable pub name_at : Place → List ℕ → Option ℕ
unfolding name_of
name_at Operator [] = none
name_at Operator (b ∷ []) = name_of b
name_at Operator (b ∷ c ∷ bs) = none
name_at Code bs = none
name_at Data bs = none

-- what comes of a result, where there is one
unfoldable pub and_then : {A B : Type 0} → Option A → (A → Option B) → Option B
and_then none f = none
and_then (some a) f = f a

-- one that may be missing, or else another
unfoldable pub or_else : {A : Type 0} → Option A → Option A → Option A
or_else none o = o
or_else (some a) o = some a

-- the operator that a word names at a place
unfoldable pub named : Place → List ℕ → Option (List ℕ)
unfolding numbered and_then
named Operator [] = none
named Operator (c ∷ []) = and_then (numbered c 1 names) λ k. some (k ∷ [])
named Operator (c ∷ d ∷ w) = none
named Code w = none
named Data w = none

-- ---- hex: "`0x` takes whole bytes, at least one"

-- a digit below 16, in lower case
unfoldable pub hex_digit : ℕ → ℕ
hex_digit d = elim (ltb d 10) [ true ↦ 0x30 + d | false ↦ 0x57 + d ]

-- "two digits a byte"
unfoldable pub hex : List ℕ → List ℕ
unfolding hex_digit
hex [] = []
hex (b ∷ bs) = hex_digit (b / 16) ∷ hex_digit (b % 16) ∷ hex bs

-- a digit's value, in either case
unfoldable pub hex_value : ℕ → Option ℕ
hex_value c = elim (leb 0x30 c && leb c 0x39) [
  | true ↦ some (c - 0x30)
  | false ↦ elim (leb 0x61 c && leb c 0x66) [
    | true ↦ some (c - 0x57)
    | false ↦ elim (leb 0x41 c && leb c 0x46) [ true ↦ some (c - 0x37) | false ↦ none ]
  ]
]

-- whole bytes
unfoldable pub hex_bytes : List ℕ → Option (List ℕ)
unfolding hex_value and_then
hex_bytes [] = some []
hex_bytes (c ∷ []) = none
hex_bytes (c ∷ d ∷ ds) = and_then (hex_value c) λ h. and_then (hex_value d) λ l. and_then (hex_bytes ds) λ bs. some ((16 * h + l) ∷ bs)

-- a word that begins with 0x
unfoldable pub hex_word : List ℕ → Option (List ℕ)
unfolding hex_bytes
hex_word [] = none
hex_word (z ∷ []) = none
hex_word (z ∷ x ∷ []) = none
hex_word (z ∷ x ∷ d ∷ ds) = elim (eqb z 0x30 && eqb x 0x78) [ true ↦ hex_bytes (d ∷ ds) | false ↦ none ]

-- ---- "decimal whole numbers"

-- digits after a number n
unfoldable pub decimal_from : ℕ → List ℕ → Option ℕ
decimal_from n [] = some n
decimal_from n (c ∷ cs) = elim (leb 0x30 c && leb c 0x39) [ true ↦ decimal_from (n * 10 + (c - 0x30)) cs | false ↦ none ]

-- at least one digit
unfoldable pub decimal : List ℕ → Option ℕ
unfolding decimal_from
decimal [] = none
decimal (c ∷ cs) = decimal_from 0 (c ∷ cs)

-- "minus sign allowed"
unfoldable pub signed_word : List ℕ → Option Signed
unfolding decimal and_then
signed_word [] = none
signed_word (c ∷ cs) = elim (eqb c 0x2d) [
  | true ↦ and_then (decimal cs) λ n. some (minus n)
  | false ↦ and_then (decimal (c ∷ cs)) λ n. some (plus n)
]

-- no top bit set: a zero byte before it where it is
unfoldable pub with_sign : List ℕ → List ℕ
unfolding negative
with_sign bs = elim (negative bs) [ true ↦ 0 ∷ bs | false ↦ bs ]

-- every bit the other way
unfoldable pub turned_over : List ℕ → List ℕ
turned_over [] = []
turned_over (b ∷ bs) = (255 - b) ∷ turned_over bs

-- "its shortest signed bytes, 0 being nil": -n is n - 1 with every bit the other way, and -1 is ff
unfoldable pub signed_bytes : Signed → List ℕ
unfolding bytes_of with_sign turned_over
signed_bytes (plus n) = with_sign (bytes_of n)
signed_bytes (minus zero) = []
signed_bytes (minus (suc zero)) = 255 ∷ []
signed_bytes (minus (suc (suc n))) = turned_over (with_sign (bytes_of (suc n)))

-- ---- an atom's text, and the atom of a word

-- "a name in operator place where one fits, else `0x` with two digits a byte, nil as `()`"
unfoldable pub atom_text : Place → List ℕ → List ℕ
unfolding name_at hex
atom_text p [] = 0x28 ∷ 0x29 ∷ []
atom_text p (b ∷ bs) = elim (name_at p (b ∷ bs)) [ some c ↦ c ∷ [] | none ↦ 0x30 ∷ 0x78 ∷ hex (b ∷ bs) ]

-- a name in operator place, a `0x` atom or a number: "a bare word elsewhere doesn't parse"
unfoldable pub word_bytes : Place → List ℕ → Option (List ℕ)
unfolding named hex_word signed_word signed_bytes and_then or_else
word_bytes p w = or_else (named p w) (or_else (hex_word w) (and_then (signed_word w) λ s. some (signed_bytes s)))

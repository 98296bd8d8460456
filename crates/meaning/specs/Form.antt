-- Document 01, "Serialised form", with 02's Ask 3: the shortest form of a tree, which is written, and reading it in any spelling.
use Prim.Native.Nat.{ℕ, zero, suc, ◌+◌, ◌-◌, ◌*◌, ◌/◌, ◌%◌, ◌^◌, ◌≤◌, ◌<◌}
use Rattle.std.specs.Prelude.{◌≡◌, List, [], ◌∷◌, ◌++◌, Bool, eqb, leb, ltb, length, get_or}
use Rattle.std.proofs.Math.Bool.{true, false}
use Rattle.refusals.specs.declared.Refusal.TheVariants.{FormLong, EndsEarly, BadPrefix, AtomLong, BytesAfter, UnitsOut}
use Rattle.meaning.specs.Tree.{Tree, atom, pair, nil, byte, is_empty}
use Rattle.meaning.specs.Limits.{form_limit, atom_limit, unit_limit, pair_cost, atom_cost}
use Rattle.meaning.specs.Meter.{Out, done, stop, M, ◌>>=◌, ◌>>◌, give, refuse, hold}

-- ---- writing

-- the shortest prefix for n bytes: "`81` to `bf`: length in the low 6 bits. `c0` to `df`: 5 bits and 1 byte more" and so on, big-endian
unfoldable pub write_length : ℕ → List ℕ
write_length n =
    elim (ltb n 0x40) [
      | true ↦ (0x80 + n) ∷ []
      | false ↦ elim (ltb n 0x2000) [
        | true ↦ (0xc0 + n / 2 ^ 8) ∷ n % 2 ^ 8 ∷ []
        | false ↦ elim (ltb n 0x10_0000) [
          | true ↦ (0xe0 + n / 2 ^ 16) ∷ n / 2 ^ 8 % 2 ^ 8 ∷ n % 2 ^ 8 ∷ []
          | false ↦ elim (ltb n 0x800_0000) [
            | true ↦ (0xf0 + n / 2 ^ 24) ∷ n / 2 ^ 16 % 2 ^ 8 ∷ n / 2 ^ 8 % 2 ^ 8 ∷ n % 2 ^ 8 ∷ []
            | false ↦ (0xf8 + n / 2 ^ 32) ∷ n / 2 ^ 24 % 2 ^ 8 ∷ n / 2 ^ 16 % 2 ^ 8 ∷ n / 2 ^ 8 % 2 ^ 8 ∷ n % 2 ^ 8 ∷ []
          ]
        ]
      ]
    ]

-- "`80` is nil. `00` to `7f` is a one-byte atom"; any other has its length before it
unfoldable pub write_atom : List ℕ → List ℕ
unfolding write_length
write_atom [] = 0x80 ∷ []
write_atom (x ∷ []) = elim (ltb x 0x80) [ true ↦ x ∷ [] | false ↦ 0x81 ∷ x ∷ [] ]
write_atom (x ∷ y ∷ bs) = write_length (length (x ∷ y ∷ bs)) ++ (x ∷ y ∷ bs)

-- these are written behind their length: any but nil and a byte below `80`
unfoldable pub needs_prefix : List ℕ → Bool
needs_prefix [] = false
needs_prefix (x ∷ []) = leb 0x80 x
needs_prefix (x ∷ y ∷ bs) = true

-- "`ff` starts a pair: left part, then right part"
unfoldable pub write : Tree → List ℕ
unfolding write_atom
write (atom b) = write_atom b
write (pair l r) = 0xff ∷ (write l ++ write r)

-- ---- reading: the bytes that are left and the units charged, or a refusal

pub record Reading : Type 0 where
  pub left : List ℕ
  pub units : ℕ

-- what a reading allows: an atom of so many bytes; so many units in all
pub record Bounds : Type 0 where
  pub atom_fits : ℕ → Bool
  pub units_fit : ℕ → Bool

-- 01's limits
abbrev pub limits : Bounds
limits = record { atom_fits = λ n. leb n atom_limit; units_fit = λ u. leb u unit_limit }

-- reading without limits, as demand 3 needs it: a finished tree may be longer than a form may be
abbrev pub no_limits : Bounds
no_limits = record { atom_fits = λ n. true; units_fit = λ u. true }

unfoldable pub first_of : List ℕ → ℕ → Out Reading ℕ
first_of [] u = stop EndsEarly (record { left = []; units = u })
first_of (b ∷ bs) u = done b (record { left = bs; units = u })

-- the next byte: refusal 3, "form ends early"
unfoldable pub next : M Reading ℕ
unfolding first_of
next = λ s. first_of s.left s.units

-- k bytes more of a length that begins with v, big-endian
unfoldable pub more : ℕ → ℕ → M Reading ℕ
unfolding next give ◌>>=◌
more zero v = give v
more (suc k) v = next >>= λ b. more k (v * 256 + b)

-- "any length prefix from `81` to `fb` with whatever length it states"; "`fc`, `fd`, `fe` count as having no more prefix bytes and aren't carried"
unfoldable pub length_from : ℕ → M Reading ℕ
unfolding more refuse give
length_from b =
    elim (ltb b 0xc0) [
      | true ↦ give (b - 0x80)
      | false ↦ elim (ltb b 0xe0) [
        | true ↦ more 1 (b - 0xc0)
        | false ↦ elim (ltb b 0xf0) [
          | true ↦ more 2 (b - 0xe0)
          | false ↦ elim (ltb b 0xf8) [
            | true ↦ more 3 (b - 0xf0)
            | false ↦ elim (ltb b 0xfc) [
              | true ↦ more 4 (b - 0xf8)
              | false ↦ refuse BadPrefix
            ]
          ]
        ]
      ]
    ]

-- n bytes
unfoldable pub body : ℕ → M Reading (List ℕ)
unfolding next give ◌>>=◌
body zero = give []
body (suc n) = do
  b ← next
  bs ← body n
  give (b ∷ bs)

module _ (b : Bounds) where
  -- refusal 7, at the reader
  unfoldable pub spend : ℕ → M Reading (Unit {0})
  spend c = λ s. elim (b.units_fit (s.units + c)) [
    | true ↦ done tt (record { left = s.left; units = s.units + c })
    | false ↦ stop UnitsOut (record { left = s.left; units = unit_limit })
  ]

  -- 01's order at one atom, without what 02 takes out of it: missing prefix bytes 3; bad prefix 4; over 64 bytes 5; missing body 3; units 7
  unfoldable pub read_long : ℕ → M Reading Tree
  unfolding length_from hold body spend atom_cost give ◌>>=◌ ◌>>◌
  read_long p = do
    n ← length_from p
    hold (b.atom_fits n) AtomLong
    bs ← body n
    spend (atom_cost bs)
    give (atom bs)

  unfoldable pub read_atom : ℕ → M Reading Tree
  unfolding spend read_long give ◌>>◌
  read_atom p =
      elim (ltb p 0x80) [
        | true ↦ spend 5 >> give (byte p)
        | false ↦ elim (eqb p 0x80) [ true ↦ give nil | false ↦ read_long p ]
      ]

  -- one tree; "a pair is charged after its parts". (The count is of nested parts: the form's own length is enough.)
  unfoldable pub read : ℕ → M Reading Tree
  unfolding read_atom spend refuse give ◌>>=◌ ◌>>◌ next
  read zero = refuse EndsEarly
  read (suc k) = next >>= λ p. elim (eqb p 0xff) [
    | true ↦ (do
      l ← read k
      r ← read k
      spend pair_cost
      give (pair l r))
    | false ↦ read_atom p
  ]

-- refusal 6: "bytes after the form"
unfoldable pub at_end : M Reading (Unit {0})
unfolding hold is_empty
at_end = λ s. hold (is_empty s.left) BytesAfter s

-- one tree and no more, from u units on
unfoldable pub read_whole : Bounds → List ℕ → ℕ → Out Reading Tree
unfolding read at_end give ◌>>=◌ ◌>>◌
read_whole b bs u = (read b (length bs) >>= λ t. at_end >> give t) (record { left = bs; units = u })

-- refusal 2, then reading within 01's limits
unfoldable pub read_form : List ℕ → ℕ → Out Reading Tree
unfolding read_whole
read_form bs u = elim (leb (length bs) form_limit) [
  | true ↦ read_whole limits bs u
  | false ↦ stop FormLong (record { left = bs; units = u })
]

-- these bytes read, without limits, as t
unfoldable pub ReadsAs : List ℕ → Tree → Type 0
unfolding read_whole
ReadsAs bs t = (s : Reading) × (read_whole no_limits bs 0 ≡ done t s)

-- ---- what the demands say of bytes and of trees

-- every one is below 256 (past the end stands 0)
unfoldable pub IsBytes : List ℕ → Type 0
IsBytes l = (i : ℕ) → get_or l i 0 < 256

-- "they were shortest": whatever tree the bytes read as, no fewer bytes read as it
unfoldable pub Shortest : List ℕ → Type 0
unfolding ReadsAs IsBytes
Shortest bs = (t : Tree) → ReadsAs bs t → (cs : List ℕ) → IsBytes cs → ReadsAs cs t → length bs ≤ length cs

-- P holds of the bytes of every atom
unfoldable pub EveryAtom : (List ℕ → Type 0) → Tree → Type 0
EveryAtom P (atom b) = P b
EveryAtom P (pair l r) = EveryAtom P l × EveryAtom P r

-- "atom at most 64 bytes": every atom of a tree
unfoldable pub Narrow : Tree → Type 0
unfolding EveryAtom
Narrow t = EveryAtom (λ b. length b ≤ atom_limit) t

-- every atom has fewer than 2 ^ 34 bytes: the longest prefix can say its length
unfoldable pub Writable : Tree → Type 0
unfolding EveryAtom
Writable t = EveryAtom (λ b. length b < 2 ^ 34) t

-- "a pair costs 8, an atom of n bytes costs 4 + n, nil costs nothing": a whole tree
unfoldable pub tree_cost : Tree → ℕ
unfolding atom_cost
tree_cost (atom b) = atom_cost b
tree_cost (pair l r) = tree_cost l + tree_cost r + pair_cost

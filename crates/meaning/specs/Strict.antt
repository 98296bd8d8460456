-- Document 01 before 02's Ask 3: a reader that took each tree's shortest form and refused all others, to say what stays of its answers.
use Rattle.std.specs.Prelude.{ℕ, zero, suc, List, true, false, eqb, leb, ltb, length}
use Rattle.refusals.specs.declared.Refusal.TheVariants.{FormLong, EndsEarly, BadPrefix, AtomLong}
use Rattle.meaning.specs.Tree.{Tree, atom, pair, nil, byte}
use Rattle.meaning.specs.Limits.{form_limit, pair_cost, atom_cost}
use Rattle.meaning.specs.Meter.{Out, stop, M, ◌>>=◌, ◌>>◌, give, refuse, hold}
use Rattle.meaning.specs.Form.{Reading, limits, needs_prefix, next, length_from, body, spend, at_end}

-- the least length that a prefix may say: one that a shorter prefix can say was overlong
unfoldable pub least_from : ℕ → ℕ
least_from p =
    elim (ltb p 0xc0) [
      | true ↦ 0
      | false ↦ elim (ltb p 0xe0) [
        | true ↦ 0x40
        | false ↦ elim (ltb p 0xf0) [
          | true ↦ 0x2000
          | false ↦ elim (ltb p 0xf8) [ true ↦ 0x10_0000 | false ↦ 0x800_0000 ]
        ]
      ]
    ]

-- "bad prefix or overlong length 4; over 64 bytes 5; missing body 3; `81` before a body byte below `80` 4; units 7"
unfoldable pub strict_long : ℕ → M Reading Tree
unfolding length_from least_from hold body needs_prefix spend atom_cost give ◌>>=◌ ◌>>◌
strict_long p = do
  n ← length_from p
  hold (leb (least_from p) n) BadPrefix
  hold (limits.atom_fits n) AtomLong
  bs ← body n
  hold (needs_prefix bs) BadPrefix
  spend limits (atom_cost bs)
  give (atom bs)

-- "`80` is nil. `00` to `7f` is a one-byte atom": as Form's `read_atom`
unfoldable pub strict_atom : ℕ → M Reading Tree
unfolding spend strict_long give ◌>>◌
strict_atom p =
    elim (ltb p 0x80) [
      | true ↦ spend limits 5 >> give (byte p)
      | false ↦ elim (eqb p 0x80) [ true ↦ give nil | false ↦ strict_long p ]
    ]

-- one tree: as Form's `read`, but for its atoms
unfoldable pub strict : ℕ → M Reading Tree
unfolding strict_atom spend refuse give ◌>>=◌ ◌>>◌ next
strict zero = refuse EndsEarly
strict (suc k) = next >>= λ p. elim (eqb p 0xff) [
  | true ↦ (do
    l ← strict k
    r ← strict k
    spend limits pair_cost
    give (pair l r))
  | false ↦ strict_atom p
]

-- refusal 2, then one tree and no more: as Form's `read_form`
unfoldable pub strict_form : List ℕ → ℕ → Out Reading Tree
unfolding strict at_end give ◌>>=◌ ◌>>◌
strict_form bs u = elim (leb (length bs) form_limit) [
  | true ↦ (strict (length bs) >>= λ t. at_end >> give t) (record { left = bs; units = u })
  | false ↦ stop FormLong (record { left = bs; units = u })
]

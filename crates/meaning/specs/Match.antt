-- pattern_match.rs: any tree may be the pattern; at most two names, compared by bytes. A match that fails says where.
use Rattle.std.specs.Prelude.{ℕ, ◌-◌, List, [], ◌∷◌, ◌++◌, Bool, true, false, ◌&&◌, not, leb, length, replicate}
use Rattle.std.proofs.Math.Option.{Option, none, some}
use Rattle.meaning.specs.Limits.{path_limit, place_turns}
use Rattle.meaning.specs.Number.{onto, bytes_of}
use Rattle.meaning.specs.Tree.{Tree, atom, pair, same_bytes, equal_to, is_byte}

pub record Binding : Type 0 where
  pub name : List ℕ
  pub node : Tree

-- `Some` and `None`; a failure has the turns from the expression's root "of the first disagreement": false is left, true is right
pub data Match : Type 0 where
  matched : List Binding → Match
  no_match : List Bool → Match
  too_many_names : Match

-- `ATOM_MATCH`, "$"
abbrev pub atom_match : ℕ
atom_match = 36

-- `SEXP_MATCH`, ":"
abbrev pub sexp_match : ℕ
sexp_match = 58

-- `bindings.get`
unfoldable pub get : List ℕ → List Binding → Option Tree
unfolding same_bytes
get n [] = none
get n (b ∷ bs) = elim (same_bytes n b.name) [ true ↦ some b.node | false ↦ get n bs ]

-- `new_bindings.insert`: "A third name makes the matcher answer at once 'too many names'"
unfoldable pub insert : Binding → List Binding → Match
insert b [] = matched (b ∷ [])
insert b (c ∷ []) = matched (c ∷ b ∷ [])
insert b (c ∷ d ∷ bs) = too_many_names

-- `unify_bindings`
unfoldable pub unify_bindings : List Binding → List ℕ → Tree → Match
unfolding get equal_to insert
unify_bindings ks n t = elim (get n ks) [
  | some u ↦ elim (equal_to u t) [ true ↦ matched ks | false ↦ no_match [] ]
  | none ↦ insert (record { name = n; node = t }) ks
]

-- the pattern (a . b) at the atom s; `($ . $)` and `(: . :)` give no bindings at all
unfoldable pub at_atom : List ℕ → List ℕ → List ℕ → List Binding → Match
unfolding is_byte unify_bindings
at_atom a b s ks = elim (is_byte atom_match a) [
  | true ↦ elim (is_byte atom_match b) [
    | true ↦ elim (is_byte atom_match s) [ true ↦ matched [] | false ↦ no_match [] ]
    | false ↦ unify_bindings ks b (atom s)
  ]
  | false ↦ elim (is_byte sexp_match a) [
    | true ↦ elim (is_byte sexp_match b && is_byte sexp_match s) [ true ↦ matched [] | false ↦ unify_bindings ks b (atom s) ]
    | false ↦ no_match []
  ]
]

-- `and_then`
infixl 50 ◌and_then◌
unfoldable pub ◌and_then◌ : Match → (List Binding → Match) → Match
matched ks and_then f = f ks
no_match ds and_then f = no_match ds
too_many_names and_then f = too_many_names

-- the match of a part inside the whole: a failure is a turn further from the root
unfoldable pub in_part : Bool → Match → Match
in_part d (matched ks) = matched ks
in_part d (no_match ds) = no_match (d ∷ ds)
in_part d too_many_names = too_many_names

-- `match_sexp`: pattern, expression, known bindings
unfoldable pub match_sexp : Tree → Tree → List Binding → Match
unfolding same_bytes at_atom unify_bindings is_byte ◌and_then◌ in_part
match_sexp (atom p) (atom s) ks = elim (same_bytes p s) [ true ↦ matched ks | false ↦ no_match [] ]
match_sexp (atom p) (pair l r) ks = no_match []
match_sexp (pair (atom a) (atom b)) (atom s) ks = at_atom a b s ks
match_sexp (pair (atom a) (atom b)) (pair l r) ks = elim (is_byte sexp_match a && not (is_byte sexp_match b)) [
  | true ↦ unify_bindings ks b (pair l r)
  | false ↦ in_part false (match_sexp (atom a) l ks) and_then λ ks'. in_part true (match_sexp (atom b) r ks')
]
match_sexp (pair (atom a) (pair c d)) (atom s) ks = no_match []
match_sexp (pair (atom a) (pair c d)) (pair l r) ks = in_part false (match_sexp (atom a) l ks) and_then λ ks'. in_part true (match_sexp (pair c d) r ks')
match_sexp (pair (pair c d) q) (atom s) ks = no_match []
match_sexp (pair (pair c d) q) (pair l r) ks = in_part false (match_sexp (pair c d) l ks) and_then λ ks'. in_part true (match_sexp q r ks')

-- `.and_then(|t| t.get(..))`: what a match binds a name to
unfoldable pub got : List ℕ → Match → Option Tree
unfolding get
got n (matched ks) = get n ks
got n (no_match ds) = none
got n too_many_names = none

-- ---- a failure without its turns

-- what the Rust says, and what the rules ask
pub data Verdict : Type 0 where
  yes : List Binding → Verdict
  no third_name : Verdict

unfoldable pub verdict : Match → Verdict
verdict (matched ks) = yes ks
verdict (no_match ds) = no
verdict too_many_names = third_name

-- ---- the place of a failure

-- "as a path from the expression's root", which is 1; "held in 64 bytes; a deeper one is given as zero". What is no failure has no place
unfoldable pub place : Match → ℕ
unfolding onto
place (no_match ds) = elim (leb (length ds) place_turns) [ true ↦ onto ds 1 | false ↦ 0 ]
place (matched ks) = 0
place too_many_names = 0

-- 64 bytes, big-endian: zeros before the shortest ones
unfoldable pub place_bytes : ℕ → List ℕ
unfolding bytes_of
place_bytes n = replicate (path_limit - length (bytes_of n)) 0 ++ bytes_of n

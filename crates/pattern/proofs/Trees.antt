-- match_sexp by the shape of pattern and expression, as the code tests it.
use mathlib.Core.Path.{◌≡◌, refl}
use mathlib.Core.List.{List, [], ◌∷◌}
use mathlib.Core.Bool.{Bool, true, false, ◌&&◌, not}
use Prim.Native.Nat.{ℕ}
use native.Mathlib.Omega.{arith}
use Rattle.meaning.specs.Tree.{Tree, atom, pair, is_byte, same_bytes}
use Rattle.meaning.specs.Match.{Match, matched, no_match, too_many_names, Binding, atom_match, sexp_match, match_sexp, at_atom, unify_bindings, ◌and_then◌, in_part}
use Rattle.sexp.specs.Tests.{is_byte_tree}
use Rattle.pattern.specs.Cases.{takes_any, in_parts}

-- ---- takes-any

pub any_head : (x y : Tree) → false ≡ is_byte_tree sexp_match x → false ≡ takes_any x y
unfolding is_byte_tree takes_any
any_head (atom a) (atom b) e = rw (← e, takes_any)
any_head (atom a) (pair c d) e = refl
any_head (pair c d) y e = refl

pub any_pair : (x c d : Tree) → false ≡ takes_any x (pair c d)
unfolding takes_any
any_pair (atom a) c d = refl
any_pair (pair a b) c d = refl

pub any_atom : (x : Tree) (b : List ℕ) → true ≡ is_byte_tree sexp_match x → not (is_byte_tree sexp_match (atom b)) ≡ takes_any x (atom b)
unfolding is_byte_tree takes_any
any_atom (atom a) b e = rw (← e, takes_any)
any_atom (pair c d) b e = let z : ◌≡◌ {A = ℕ} 0 1 = cc in absurd (omega arith)

-- ---- the pattern is an atom

module _ (p : List ℕ) (ks : List Binding) where
  pub atom_pair : (l r : Tree) → no_match [] ≡ match_sexp (atom p) (pair l r) ks
  unfolding match_sexp
  atom_pair l r = refl

  pub atom_same : (s : List ℕ) → true ≡ same_bytes p s → matched ks ≡ match_sexp (atom p) (atom s) ks
  unfolding match_sexp
  atom_same s e = rw (← e, match_sexp)

  pub atom_other : (s : List ℕ) → false ≡ same_bytes p s → no_match [] ≡ match_sexp (atom p) (atom s) ks
  unfolding match_sexp
  atom_other s e = rw (← e, match_sexp)

-- ---- the pattern (x . y) at the atom s

pub at_pair : (x c d : Tree) (s : List ℕ) (ks : List Binding) → no_match [] ≡ match_sexp (pair x (pair c d)) (atom s) ks
unfolding match_sexp
at_pair (atom a) c d s ks = refl
at_pair (pair a b) c d s ks = refl

-- a head that is a byte is an atom
head : (P : Tree → Type 0) (k : ℕ) (x : Tree) → true ≡ is_byte_tree k x → ((a : List ℕ) → true ≡ is_byte k a → P (atom a)) → P x
unfolding is_byte_tree
head P k (atom a) e h = h a e
head P k (pair c d) e h = let z : ◌≡◌ {A = ℕ} 0 1 = cc in absurd (omega arith)

abbrev At : Tree → List ℕ → List ℕ → List Binding → Match
At x b s ks = match_sexp (pair x (atom b)) (atom s) ks

module _ (b s : List ℕ) (ks : List Binding) where
  -- ($ . y)
  module _ (x : Tree) (e : true ≡ is_byte_tree atom_match x) where
    pub dollar_both : true ≡ is_byte_tree atom_match (atom b) → true ≡ is_byte_tree atom_match (atom s) → matched [] ≡ At x b s ks
    unfolding is_byte_tree match_sexp at_atom
    dollar_both eb es = head (λ t. matched [] ≡ At t b s ks) atom_match x e (λ a ea. rw (← ea, ← eb, ← es, match_sexp, at_atom))

    pub dollar_one : true ≡ is_byte_tree atom_match (atom b) → false ≡ is_byte_tree atom_match (atom s) → no_match [] ≡ At x b s ks
    unfolding is_byte_tree match_sexp at_atom
    dollar_one eb es = head (λ t. no_match [] ≡ At t b s ks) atom_match x e (λ a ea. rw (← ea, ← eb, ← es, match_sexp, at_atom))

    pub dollar_name : false ≡ is_byte_tree atom_match (atom b) → unify_bindings ks b (atom s) ≡ At x b s ks
    unfolding is_byte_tree match_sexp at_atom
    dollar_name eb = head (λ t. unify_bindings ks b (atom s) ≡ At t b s ks) atom_match x e (λ a ea. rw (← ea, ← eb, match_sexp, at_atom))

  -- (: . y)
  module _ (x : Tree) (d : false ≡ is_byte_tree atom_match x) (e : true ≡ is_byte_tree sexp_match x) where
    colon : (m : Match) → ((a : List ℕ) → false ≡ is_byte atom_match a → true ≡ is_byte sexp_match a → m ≡ At (atom a) b s ks) → m ≡ At x b s ks
    unfolding is_byte_tree
    colon m h = head (λ t. false ≡ is_byte_tree atom_match t → m ≡ At t b s ks) sexp_match x e (λ a ea da. h a da ea) d

    pub colon_both : true ≡ (is_byte_tree sexp_match (atom b) && is_byte_tree sexp_match (atom s)) → matched [] ≡ At x b s ks
    unfolding is_byte_tree match_sexp at_atom
    colon_both es = colon (matched []) (λ a da ea. rw (← da, ← ea, ← es, match_sexp, at_atom))

    pub colon_name : false ≡ (is_byte_tree sexp_match (atom b) && is_byte_tree sexp_match (atom s)) → unify_bindings ks b (atom s) ≡ At x b s ks
    unfolding is_byte_tree match_sexp at_atom
    colon_name es = colon (unify_bindings ks b (atom s)) (λ a da ea. rw (← da, ← ea, ← es, match_sexp, at_atom))

  -- any other head
  pub at_other : (x : Tree) → false ≡ is_byte_tree atom_match x → false ≡ is_byte_tree sexp_match x → no_match [] ≡ At x b s ks
  unfolding is_byte_tree match_sexp at_atom
  at_other (atom a) d e = rw (← d, ← e, match_sexp, at_atom)
  at_other (pair c q) d e = refl

-- ---- the pattern (x . y) at the pair (l . r)

pub pair_any : (x : Tree) (b : List ℕ) (l r : Tree) (ks : List Binding) → true ≡ takes_any x (atom b) → unify_bindings ks b (pair l r) ≡ match_sexp (pair x (atom b)) (pair l r) ks
unfolding takes_any match_sexp
pair_any (atom a) b l r ks e = rw (← e, match_sexp)
pair_any (pair c d) b l r ks e = let z : ◌≡◌ {A = ℕ} 0 1 = cc in absurd (omega arith)

pub pair_parts : (x y l r : Tree) (ks : List Binding) → false ≡ takes_any x y → in_parts x y l r ks ≡ match_sexp (pair x y) (pair l r) ks
unfolding takes_any match_sexp
pair_parts (atom a) (atom b) l r ks e = rw (← e, match_sexp)
pair_parts (atom a) (pair c d) l r ks e = refl
pair_parts (pair c d) y l r ks e = refl

module _ (x y l r : Tree) (ks : List Binding) where
  pub parts_matched : (js : List Binding) → matched js ≡ match_sexp x l ks → in_part true (match_sexp y r js) ≡ in_parts x y l r ks
  unfolding ◌and_then◌ in_part
  parts_matched js e = rw (← e)

  pub parts_not : (ds : List Bool) → no_match ds ≡ match_sexp x l ks → no_match (false ∷ ds) ≡ in_parts x y l r ks
  unfolding ◌and_then◌ in_part
  parts_not ds e = rw (← e)

  pub parts_many : too_many_names ≡ match_sexp x l ks → too_many_names ≡ in_parts x y l r ks
  unfolding ◌and_then◌ in_part
  parts_many e = rw (← e)

-- A pattern with at most two names never meets a third. Assumes nothing.
use Prim.Native.Nat.{ℕ, ◌+◌, ◌≤◌}
use mathlib.Core.Path.{◌≡◌, refl, subst}
use native.Mathlib.Omega.{arith}
use mathlib.Core.List.{List, [], ◌∷◌, map}
use mathlib.Core.Bool.{Bool, true, false, ◌&&◌, not}
use mathlib.Core.Option.{Option, none, some}
use lib.ListN.{length}
use Rattle.meaning.specs.Tree.{Tree, atom, pair, same_bytes, equal_to, is_byte}
use Rattle.meaning.specs.Match.{Match, Binding, matched, no_match, too_many_names, atom_match, sexp_match, get, insert, unify_bindings, at_atom, ◌and_then◌, in_part, match_sexp}
use Rattle.meaning.specs.Substitute.{cons_pattern}
use Rattle.meaning.specs.Rules.{cons_optimizer_pattern, apply_pattern, atom_pattern, quote_pattern_1, apply_null_pattern_1}
use Rattle.meaning.proofs.Verdict.{in_part_keeps}

-- how many names a pattern has at most: a pair of two atoms may be one
unfoldable pub names : Tree → ℕ
names (atom b) = 0
names (pair (atom a) (atom b)) = 1
names (pair (atom a) (pair c d)) = names (pair c d)
names (pair (pair c d) q) = names (pair c d) + names q

-- not too many, and at most n bindings
Few : ℕ → Match → Type 0
Few n (matched ks) = length ks ≤ n
Few n (no_match ds) = Unit {0}
Few n too_many_names = ⊥

few_if : (n : ℕ) (b : Bool) (m k : Match) → Few n m → Few n k → Few n (elim b [ true ↦ m | false ↦ k ])
few_if n true m k f g = f
few_if n false m k f g = g

few_both : (n k : ℕ) (p l q r : Tree) (ks : List Binding) → Few n (match_sexp p l ks) → ((js : List Binding) → length js ≤ n → Few k (match_sexp q r js))
    → Few k (in_part false (match_sexp p l ks) and_then λ js. in_part true (match_sexp q r js))
unfolding Few ◌and_then◌ in_part
few_both n k p l q r ks f g = go (match_sexp p l ks) f
  where
    go : (m : Match) → Few n m → Few k (in_part false m and_then λ js. in_part true (match_sexp q r js))
    go (matched js) h = in_part_keeps (Few k) (λ ds es i. tt) true (match_sexp q r js) (g js h)
    go (no_match ds) h = tt
    go too_many_names h = absurd h

few_insert : (n : ℕ) (b : Binding) (ks : List Binding) → length ks + 1 ≤ n → n ≤ 2 → Few n (insert b ks)
unfolding Few insert
few_insert n b [] h i = omega arith
few_insert n b (c ∷ []) h i = omega arith
few_insert n b (c ∷ d ∷ ks) h i = omega arith

few_unify : (n : ℕ) (ks : List Binding) (x : List ℕ) (t : Tree) → length ks + 1 ≤ n → n ≤ 2 → Few n (unify_bindings ks x t)
unfolding Few unify_bindings
few_unify n ks x t h i = go (get x ks)
  where
    go : (o : Option Tree) → Few n (elim o [
      | some u ↦ elim (equal_to u t) [ true ↦ matched ks | false ↦ no_match [] ]
      | none ↦ insert (record { name = x; node = t }) ks
    ])
    go none = few_insert n _ ks h i
    go (some u) = few_if n (equal_to u t) (matched ks) (no_match []) (omega arith) tt

-- the number of bindings grows by the pattern's names at most
few_match : (n : ℕ) (p s : Tree) (ks : List Binding) → length ks + names p ≤ n → n ≤ 2 → Few n (match_sexp p s ks)
unfolding names Few match_sexp at_atom
few_match n (atom p) (atom s) ks h i = few_if n (same_bytes p s) (matched ks) (no_match []) (omega arith) tt
few_match n (atom p) (pair l r) ks h i = tt
few_match n (pair (atom a) (atom b)) (atom s) ks h i =
    few_if n (is_byte atom_match a) _ _
    (few_if n (is_byte atom_match b) _ _ (few_if n (is_byte atom_match s) (matched []) (no_match []) (omega arith) tt) (few_unify n ks b (atom s) h i))
    (few_if n (is_byte sexp_match a) _ (no_match [])
    (few_if n (is_byte sexp_match b && is_byte sexp_match s) (matched []) _ (omega arith) (few_unify n ks b (atom s) h i)) tt)
few_match n (pair (atom a) (atom b)) (pair l r) ks h i =
    few_if n (is_byte sexp_match a && not (is_byte sexp_match b)) _ _
    (few_unify n ks b (pair l r) h i)
    (few_both n n (atom a) l (atom b) r ks (few_match n (atom a) l ks (omega arith) i) (λ js k. few_match n (atom b) r js (omega arith) i))
few_match n (pair (atom a) (pair c d)) (atom s) ks h i = tt
few_match n (pair (atom a) (pair c d)) (pair l r) ks h i =
    few_both (length ks) n (atom a) l (pair c d) r ks (few_match (length ks) (atom a) l ks (omega arith) (omega arith))
    (λ js k. few_match n (pair c d) r js (omega arith) i)
few_match n (pair (pair c d) q) (atom s) ks h i = tt
few_match n (pair (pair c d) q) (pair l r) ks h i =
    few_both (length ks + names (pair c d)) n (pair c d) l q r ks (few_match (length ks + names (pair c d)) (pair c d) l ks (omega arith) (omega arith))
    (λ js k. few_match n q r js (omega arith) i)

-- 01: "A third name makes the matcher answer at once 'too many names', which no rule's pattern can meet"
pub never_too_many : (p s : Tree) → names p ≤ 2 → match_sexp p s [] ≡ too_many_names → ⊥
unfolding Few
never_too_many p s h e = subst (Few 2) e (few_match 2 p s [] (omega arith) (omega arith))

-- the rules' patterns, and their names
pub rules_names : map names (cons_pattern
    ∷ cons_optimizer_pattern 5
    ∷ cons_optimizer_pattern 6
    ∷ apply_pattern
    ∷ atom_pattern 5
    ∷ atom_pattern 6
    ∷ quote_pattern_1
    ∷ apply_null_pattern_1
    ∷ []) ≡ 2 ∷ 2 ∷ 2 ∷ 2 ∷ 1 ∷ 1 ∷ 1 ∷ 1 ∷ []
unfolding names cons_pattern cons_optimizer_pattern apply_pattern atom_pattern quote_pattern_1 apply_null_pattern_1
rules_names = refl

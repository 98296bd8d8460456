-- A match binds names to narrow trees only, and substitution makes a narrow tree, where the expression is narrow. Assumes nothing.
use Prim.Native.Nat.{ℕ}
use mathlib.Core.List.{List, [], ◌∷◌}
use mathlib.Core.Bool.{Bool, true, false, ◌&&◌, not}
use mathlib.Core.Option.{Option, none, some}
use Rattle.meaning.specs.Tree.{Tree, atom, pair, enlist, same_bytes, equal_to, is_byte}
use Rattle.meaning.specs.Match.{Binding, Match, matched, no_match, too_many_names, atom_match, sexp_match, get, insert, unify_bindings, at_atom, ◌and_then◌, in_part, match_sexp, got}
use Rattle.meaning.specs.Substitute.{sub_turns, first_name, rest_name, cons_pattern, or_else, cons_f, cons_r, path_from_args, is_proper, sub_args, sub_each}
use Rattle.meaning.specs.Form.{Narrow}
use Rattle.meaning.proofs.Verdict.{in_part_keeps}
use Rattle.meaning.proofs.Atoms.{narrow_nil, narrow_byte}
use Rattle.meaning.proofs.Yields.{Every, IfSome, either_way}

-- ---- the matcher

abbrev NodeNarrow : Binding → Type 0
NodeNarrow k = Narrow k.node

IfMatched : Match → Type 0
IfMatched (matched ks) = Every NodeNarrow ks
IfMatched (no_match ds) = Unit {0}
IfMatched too_many_names = Unit {0}

get_narrow : (n : List ℕ) (ks : List Binding) → Every NodeNarrow ks → IfSome Narrow (get n ks)
unfolding get Every IfSome
get_narrow n [] h = tt
get_narrow n (k ∷ ks) h = either_way (IfSome Narrow) (same_bytes n k.name) _ _ h.0 (get_narrow n ks h.1)

insert_narrow : (k : Binding) (ks : List Binding) → NodeNarrow k → Every NodeNarrow ks → IfMatched (insert k ks)
unfolding insert IfMatched Every
insert_narrow k [] h hs = (h, tt)
insert_narrow k (c ∷ []) h hs = (hs.0, (h, tt))
insert_narrow k (c ∷ d ∷ ks) h hs = tt

unify_narrow : (ks : List Binding) (n : List ℕ) (t : Tree) → Narrow t → Every NodeNarrow ks → IfMatched (unify_bindings ks n t)
unfolding unify_bindings IfMatched
unify_narrow ks n t h hs = go (get n ks)
  where
    go : (o : Option Tree) → IfMatched (elim o [
      | some u ↦ elim (equal_to u t) [ true ↦ matched ks | false ↦ no_match [] ]
      | none ↦ insert (record { name = n; node = t }) ks
    ])
    go (some u) = either_way IfMatched (equal_to u t) _ _ hs tt
    go none = insert_narrow (record { name = n; node = t }) ks h hs

at_atom_narrow : (a b s : List ℕ) (ks : List Binding) → Narrow (atom s) → Every NodeNarrow ks → IfMatched (at_atom a b s ks)
unfolding at_atom IfMatched Every
at_atom_narrow a b s ks h hs =
    either_way IfMatched (is_byte atom_match a) _ _
    (either_way IfMatched (is_byte atom_match b) _ _ (either_way IfMatched (is_byte atom_match s) _ _ tt tt) (unify_narrow ks b (atom s) h hs))
    (either_way IfMatched (is_byte sexp_match a) _ _
    (either_way IfMatched (is_byte sexp_match b && is_byte sexp_match s) _ _ tt (unify_narrow ks b (atom s) h hs)) tt)

and_then_narrow : (m : Match) (f : List Binding → Match) → IfMatched m → ((ks : List Binding) → Every NodeNarrow ks → IfMatched (f ks)) → IfMatched (in_part false m and_then λ ks. in_part true (f ks))
unfolding ◌and_then◌ in_part IfMatched
and_then_narrow (matched ks) f h k = in_part_keeps IfMatched (λ ds es i. tt) true (f ks) (k ks h)
and_then_narrow (no_match ds) f h k = tt
and_then_narrow too_many_names f h k = tt

match_narrow : (p s : Tree) (ks : List Binding) → Narrow s → Every NodeNarrow ks → IfMatched (match_sexp p s ks)
unfolding match_sexp IfMatched Narrow
match_narrow (atom p) (atom s) ks h hs = either_way IfMatched (same_bytes p s) _ _ hs tt
match_narrow (atom p) (pair l r) ks h hs = tt
match_narrow (pair (atom a) (atom b)) (atom s) ks h hs = at_atom_narrow a b s ks h hs
match_narrow (pair (atom a) (atom b)) (pair l r) ks h hs =
    either_way IfMatched (is_byte sexp_match a && not (is_byte sexp_match b)) _ _
    (unify_narrow ks b (pair l r) h hs)
    (and_then_narrow (match_sexp (atom a) l ks) (λ js. match_sexp (atom b) r js) (match_narrow (atom a) l ks h.0 hs) (λ js hj. match_narrow (atom b) r js h.1 hj))
match_narrow (pair (atom a) (pair c d)) (atom s) ks h hs = tt
match_narrow (pair (atom a) (pair c d)) (pair l r) ks h hs =
    and_then_narrow (match_sexp (atom a) l ks) (λ js. match_sexp (pair c d) r js) (match_narrow (atom a) l ks h.0 hs) (λ js hj. match_narrow (pair c d) r js h.1 hj)
match_narrow (pair (pair c d) q) (atom s) ks h hs = tt
match_narrow (pair (pair c d) q) (pair l r) ks h hs =
    and_then_narrow (match_sexp (pair c d) l ks) (λ js. match_sexp q r js) (match_narrow (pair c d) l ks h.0 hs) (λ js hj. match_narrow q r js h.1 hj)

-- whatever a name of a pattern is bound to
pub got_narrow : (n : List ℕ) (p r : Tree) → Narrow r → IfSome Narrow (got n (match_sexp p r []))
unfolding got IfMatched IfSome Every
got_narrow n p r h = go (match_sexp p r []) (match_narrow p r [] h tt)
  where
    go : (m : Match) → IfMatched m → IfSome Narrow (got n m)
    go (matched ks) k = get_narrow n ks k
    go (no_match ds) k = tt
    go too_many_names k = tt

pub or_else_narrow : (o : Option Tree) (t : Tree) → IfSome Narrow o → Narrow t → Narrow (or_else o t)
unfolding or_else IfSome
or_else_narrow none t h k = k
or_else_narrow (some u) t h k = h

-- ---- substitution

cons_f_narrow : (args : Tree) → Narrow args → Narrow (cons_f args)
unfolding cons_f enlist Narrow
cons_f_narrow args h = or_else_narrow (got first_name (match_sexp cons_pattern args [])) _ (got_narrow first_name cons_pattern args h) (narrow_byte 5, (h, narrow_nil))

cons_r_narrow : (args : Tree) → Narrow args → Narrow (cons_r args)
unfolding cons_r enlist Narrow
cons_r_narrow args h = or_else_narrow (got rest_name (match_sexp cons_pattern args [])) _ (got_narrow rest_name cons_pattern args h) (narrow_byte 6, (h, narrow_nil))

path_narrow : (ds : List Bool) (args : Tree) → Narrow args → Narrow (path_from_args ds args)
unfolding path_from_args
path_narrow [] args h = h
path_narrow (false ∷ ds) args h = path_narrow ds (cons_f args) (cons_f_narrow args h)
path_narrow (true ∷ ds) args h = path_narrow ds (cons_r args) (cons_r_narrow args h)

mutual
  unfolding sub_args sub_each Narrow

  pub sub_narrow : (t args : Tree) → Narrow t → Narrow args → Narrow (sub_args t args)
  sub_narrow (atom b) args h k = path_narrow (sub_turns b) args k
  sub_narrow (pair (atom o) r) args h k =
      either_way Narrow (is_byte 1 o) _ _ h (either_way Narrow (is_proper r) _ _ (h.0, sub_each_narrow r args h.1 k) k)
  sub_narrow (pair (pair x y) r) args h k = either_way Narrow (is_proper r) _ _ (sub_narrow (pair x y) args h.0 k, sub_each_narrow r args h.1 k) k

  sub_each_narrow : (t args : Tree) → Narrow t → Narrow args → Narrow (sub_each t args)
  sub_each_narrow (atom b) args h k = h
  sub_each_narrow (pair l r) args h k = (sub_narrow l args h.0 k, sub_each_narrow r args h.1 k)

-- Each of the eight rules keeps a tree narrow. Assumes nothing.
use Prim.Native.Nat.{ℕ, ◌+◌, ◌*◌}
use mathlib.Core.List.{List, [], ◌∷◌}
use mathlib.Core.Bool.{Bool, true, false, ◌&&◌, not}
use mathlib.Core.Option.{Option, none, some}
use lib.Dec.{leb}
use lib.ListN.{length}
use Rattle.meaning.specs.Tree.{Tree, atom, pair, nil, enlist, proper_list, is_quote, non_nil, quote}
use Rattle.meaning.specs.Number.{node_path_index, compose_paths, bytes_of}
use Rattle.meaning.specs.Limits.{path_limit, pair_cost, atom_cost}
use Rattle.meaning.specs.Meter.{W, Spent, ◌>>=◌, ◌>>◌, give, charge, mark_if}
use Rattle.meaning.specs.Match.{Match, matched, no_match, too_many_names, match_sexp, got}
use Rattle.meaning.specs.Constant.{seems_constant}
use Rattle.meaning.specs.Substitute.{first_name, rest_name, sub_args, sub_cost, reads_low}
use Rattle.meaning.specs.Rules.{cons_optimizer_pattern, cons_optimizer, constant_optimizer, sexp_name, args_name, apply_pattern, Applied, applied, not_applied, both_got, applied_of, is_args_call, cons_q_a_optimizer, each, non_constant, none_of, settle, var_change_optimizer_cons_eval, same_trees, relist, children, children_optimizer, atom_name, atom_pattern, path_to, misread, longer, path_optimizer, nil_if, quote_pattern_1, quote_null_optimizer, apply_null_pattern_1, apply_null_optimizer}
use Rattle.meaning.specs.Form.{Narrow}
use Rattle.meaning.proofs.Tests.{leb_yes}
use Rattle.meaning.proofs.Atoms.{narrow_nil, narrow_byte}
use Rattle.meaning.proofs.Yields.{Every, IfSome, either_way, Yields, y_bind, y_seq, y_give, y_refuse, y_if, y_within}
use Rattle.meaning.proofs.NarrowEvaluate.{AllNarrow, elements_narrow, evaluate_narrow}
use Rattle.meaning.proofs.NarrowMatch.{got_narrow, or_else_narrow, sub_narrow}

-- work on a tree that keeps it narrow
abbrev pub KeepsNarrow : (Tree → W Tree) → Type 0
KeepsNarrow f = (t : Tree) → Narrow t → Yields Narrow (f t)

enlist_narrow : (ts : List Tree) → AllNarrow ts → Narrow (enlist ts)
unfolding enlist Narrow Every
enlist_narrow [] h = narrow_nil
enlist_narrow (t ∷ ts) h = (h.0, enlist_narrow ts h.1)

-- ---- 1.

pub cons_narrow : (r : Tree) → Narrow r → Narrow (cons_optimizer r)
unfolding cons_optimizer
cons_narrow r h =
    or_else_narrow (got first_name (match_sexp (cons_optimizer_pattern 5) r [])) _ (got_narrow first_name (cons_optimizer_pattern 5) r h)
    (or_else_narrow (got rest_name (match_sexp (cons_optimizer_pattern 6) r [])) _ (got_narrow rest_name (cons_optimizer_pattern 6) r h) h)

-- ---- 2.

pub constant_narrow : KeepsNarrow constant_optimizer
unfolding constant_optimizer quote Narrow
constant_narrow r h =
    y_if (not (is_quote r) && seems_constant r && non_nil r)
    (λ _. y_bind (y_within (evaluate_narrow r nil h narrow_nil)) (λ v hv. y_seq (charge (5 + pair_cost)) (y_give (quote v) (narrow_byte 1, hv))))
    (λ _. y_give r h)

-- ---- 3.

IfApplied : Applied → Type 0
IfApplied (applied s a) = Narrow s × Narrow a
IfApplied not_applied = Unit {0}

applied_narrow : (r : Tree) → Narrow r → IfApplied (applied_of r)
unfolding applied_of both_got IfApplied IfSome
applied_narrow r h =
    go (got sexp_name (match_sexp apply_pattern r [])) (got args_name (match_sexp apply_pattern r [])) (got_narrow sexp_name apply_pattern r h) (got_narrow args_name apply_pattern r h)
  where
    go : (s a : Option Tree) → IfSome Narrow s → IfSome Narrow a → IfApplied (both_got s a)
    go none a hs ha = tt
    go (some s) none hs ha = tt
    go (some s) (some a) hs ha = (hs, ha)

pub cons_q_a_narrow : (r : Tree) → Narrow r → Narrow (cons_q_a_optimizer r)
unfolding cons_q_a_optimizer IfApplied
cons_q_a_narrow r h = go (applied_of r) (applied_narrow r h)
  where
    go : (x : Applied) → IfApplied x → Narrow (elim x [ applied s a ↦ elim (is_args_call a) [ true ↦ s | false ↦ r ] | not_applied ↦ r ])
    go (applied s a) k = either_way Narrow (is_args_call a) _ _ k.0 h
    go not_applied k = h

-- ---- 4., 5.

module _ (again : Tree → W Tree) (keeps : KeepsNarrow again) where
  each_narrow : (ts : List Tree) → AllNarrow ts → Yields AllNarrow (each again ts)
  unfolding each Every
  each_narrow [] h = y_give [] tt
  each_narrow (t ∷ ts) h = y_bind (keeps t h.0) (λ u hu. y_bind (each_narrow ts h.1) (λ us hus. y_give (u ∷ us) (hu, hus)))

  settle_narrow : (r new : Tree) (low : Bool) → Narrow r → Narrow new → Yields Narrow (settle again r new low)
  unfolding settle IfSome
  settle_narrow r new low h k =
      y_if (seems_constant new)
      (λ _. y_bind (keeps new k) (λ t ht. y_seq (mark_if low) (y_give t ht)))
      (λ _. go (proper_list new) (elements_narrow new k))
    where
      go : (o : Option (List Tree)) → IfSome AllNarrow o → Yields {S = Spent} Narrow (elim o as (λ x. W Tree) [
        | none ↦ give r
        | some es ↦ (each again es >>= λ us. elim (none_of non_constant us) [
          | true ↦ charge (pair_cost * length us) >> (mark_if low >> give (enlist us))
          | false ↦ give r
        ])
      ])
      go none _ = y_give r h
      go (some es) hes =
          y_bind (each_narrow es hes) (λ us hus. y_if (none_of non_constant us)
          (λ _. y_seq (charge (pair_cost * length us)) (y_seq (mark_if low) (y_give (enlist us) (enlist_narrow us hus))))
          (λ _. y_give r h))

  pub var_change_narrow : KeepsNarrow (var_change_optimizer_cons_eval again)
  unfolding var_change_optimizer_cons_eval IfApplied
  var_change_narrow r h = go (applied_of r) (applied_narrow r h)
    where
      go : (x : Applied) → IfApplied x → Yields {S = Spent} Narrow (elim x as (λ x. W Tree) [
        | applied s a ↦ charge (sub_cost s a) >> settle again r (sub_args s a) (reads_low s)
        | not_applied ↦ give r
      ])
      go (applied s a) k = y_seq (charge (sub_cost s a)) (settle_narrow r (sub_args s a) (reads_low s) h (sub_narrow s a k.0 k.1))
      go not_applied k = y_give r h

  relist_narrow : (r : Tree) (es us : List Tree) → Narrow r → AllNarrow us → Yields Narrow (relist r es us)
  unfolding relist
  relist_narrow r es us h hus =
      y_if (same_trees es us) (λ _. y_give r h) (λ _. y_seq (charge (pair_cost * length us)) (y_give (enlist us) (enlist_narrow us hus)))

  pub children_narrow : KeepsNarrow (children_optimizer again)
  unfolding children_optimizer children IfSome
  children_narrow r h = y_if (is_quote r) (λ _. y_give r h) (λ _. go (proper_list r) (elements_narrow r h))
    where
      go : (o : Option (List Tree)) → IfSome AllNarrow o → Yields Narrow (children again r o)
      go none k = y_give r h
      go (some []) k = y_give r h
      go (some (e ∷ es)) k = y_bind (each_narrow (e ∷ es) k) (λ us hus. relist_narrow r (e ∷ es) us h hus)

-- ---- 6.

path_to_narrow : (bs : List ℕ) (off : Bool) → Yields Narrow (path_to bs off)
unfolding path_to Narrow
path_to_narrow bs off =
    y_if (leb (length bs) path_limit)
    (λ e. y_seq (mark_if off) (y_seq (charge (atom_cost bs)) (y_give (atom bs) (leb_yes _ _ e))))
    (λ _. y_refuse _)

longer_narrow : (r : Tree) (o : Option Tree) (q : ℕ) → Narrow r → Yields Narrow (longer r o q)
unfolding longer
longer_narrow r none q h = y_give r h
longer_narrow r (some (atom b)) q h = path_to_narrow (bytes_of (compose_paths (node_path_index b) q)) (misread b)
longer_narrow r (some (pair x y)) q h = y_give r h

pub path_narrow : KeepsNarrow path_optimizer
unfolding path_optimizer
path_narrow r h = go (match_sexp (atom_pattern 5) r [])
  where
    go : (m : Match) → Yields {S = Spent} Narrow (elim m as (λ x. W Tree) [
      | matched ks ↦ longer r (got atom_name (matched ks)) 2
      | no_match ds ↦ longer r (got atom_name (match_sexp (atom_pattern 6) r [])) 3
      | too_many_names ↦ longer r (got atom_name (match_sexp (atom_pattern 6) r [])) 3
    ])
    go (matched ks) = longer_narrow r (got atom_name (matched ks)) 2 h
    go (no_match ds) = longer_narrow r (got atom_name (match_sexp (atom_pattern 6) r [])) 3 h
    go too_many_names = longer_narrow r (got atom_name (match_sexp (atom_pattern 6) r [])) 3 h

-- ---- 7., 8.

nil_if_narrow : (m : Match) (r : Tree) → Narrow r → Narrow (nil_if m r)
unfolding nil_if
nil_if_narrow (matched ks) r h = narrow_nil
nil_if_narrow (no_match ds) r h = h
nil_if_narrow too_many_names r h = h

pub quote_null_narrow : (r : Tree) → Narrow r → Narrow (quote_null_optimizer r)
unfolding quote_null_optimizer
quote_null_narrow r h = nil_if_narrow (match_sexp quote_pattern_1 r []) r h

pub apply_null_narrow : (r : Tree) → Narrow r → Narrow (apply_null_optimizer r)
unfolding apply_null_optimizer
apply_null_narrow r h = nil_if_narrow (match_sexp apply_null_pattern_1 r []) r h

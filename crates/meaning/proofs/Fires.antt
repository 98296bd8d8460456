-- Each rule that a pattern starts does rewrite the form that 01 names. Assumes nothing.
use Prim.Native.Nat.{ℕ}
use mathlib.Core.Path.{◌≡◌, refl}
use mathlib.Core.List.{List, [], ◌∷◌}
use mathlib.Core.Bool.{Bool, true, false}
use Rattle.meaning.specs.Tree.{Tree, atom, pair, nil, byte, quote}
use Rattle.meaning.specs.Number.{node_path_index, compose_paths, bytes_of}
use Rattle.meaning.specs.Match.{matched, match_sexp}
use Rattle.meaning.specs.Substitute.{first_name, rest_name, cons_pattern}
use Rattle.meaning.specs.Rules.{cons_optimizer, sexp_name, args_name, apply_pattern, applied, applied_of, cons_q_a_optimizer, path_to, misread, path_optimizer, quote_null_optimizer, apply_null_optimizer}
use Rattle.meaning.proofs.MatchLaws.{bind, match_any}
use Rattle.meaning.proofs.Shapes.{cons_of, apply_of, part_of}
use Rattle.meaning.proofs.Parts.{side, part_byte, part_path}

cons_matches : (a b : Tree) → match_sexp cons_pattern (cons_of a b) [] ≡ matched (bind first_name a ∷ bind rest_name b ∷ [])
unfolding match_sexp cons_pattern
cons_matches a b = rw (match_any 102 105 (114 ∷ 115 ∷ 116 ∷ []) a []) (rw (match_any 114 101 (115 ∷ 116 ∷ []) b (bind first_name a ∷ [])))

apply_matches : (s a : Tree) → match_sexp apply_pattern (apply_of s a) [] ≡ matched (bind sexp_name s ∷ bind args_name a ∷ [])
unfolding match_sexp apply_pattern
apply_matches s a = rw (match_any 115 101 (120 ∷ 112 ∷ []) s []) (rw (match_any 97 114 (103 ∷ 115 ∷ []) a (bind sexp_name s ∷ [])))

-- "`(f (c A B))` gives A, `(r (c A B))` gives B"
pub cons_fires : (d : Bool) (a b : Tree) → cons_optimizer (part_of (part_byte d) (cons_of a b)) ≡ side d a b
unfolding cons_optimizer part_byte side
cons_fires false a b = rw (cons_matches a b)
cons_fires true a b = rw (cons_matches a b)

-- "`(a (q . S) ARGS)`"
pub applied_fires : (s a : Tree) → applied_of (apply_of s a) ≡ applied s a
unfolding applied_of
applied_fires s a = rw (apply_matches s a)

-- "`(a (q . S) 1)` gives S"
pub cons_q_a_fires : (s : Tree) → cons_q_a_optimizer (apply_of s (byte 1)) ≡ s
unfolding cons_q_a_optimizer
cons_q_a_fires s = rw (applied_fires s (byte 1))

-- "`(f N)` and `(r N)` become compose(N, 2) and compose(N, 3)"
pub path_fires : (d : Bool) (b : List ℕ) → path_optimizer (part_of (part_byte d) (atom b))
    ≡ path_to (bytes_of (compose_paths (node_path_index b) (part_path d))) (misread b)
unfolding path_optimizer part_byte part_path
path_fires false b = refl
path_fires true b = refl

-- "`(q . 0)` and `(a 0 . any)` become nil"
pub quote_null_fires : quote_null_optimizer (quote nil) ≡ nil
unfolding quote_null_optimizer quote
quote_null_fires = refl

pub apply_null_fires : (t : Tree) → apply_null_optimizer (pair (byte 2) (pair nil t)) ≡ nil
unfolding apply_null_optimizer
apply_null_fires t = rw (match_any 114 101 (115 ∷ 116 ∷ []) t [])

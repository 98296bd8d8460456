-- optimize.rs: the eight rules, in its order. `again` is `optimize_sexp_` one deeper. Those that call it are defined over the state K that a run is
-- done in: of what is spent alone, under their own names, and with a log.
use Rattle.std.specs.Prelude.{ℕ, ◌+◌, ◌*◌, List, [], ◌∷◌, Bool, true, false, ◌&&◌, not, eqb, leb, length}
use Rattle.std.proofs.Math.Option.{Option, none, some}
use Rattle.refusals.specs.declared.Refusal.TheVariants.{PathLong}
use Rattle.meaning.specs.Tree.{Tree, atom, pair, nil, byte, enlist, proper_list, equal_to, is_byte, non_nil, is_quote, quote}
use Rattle.meaning.specs.Number.{number, node_path_index, compose_paths, bytes_of}
use Rattle.meaning.specs.Limits.{path_limit, pair_cost, atom_cost}
use Rattle.meaning.specs.Meter.{M, W, Over, alone, ◌>>=◌, ◌>>◌, give, refuse, charge, within, mark_if}
use Rattle.meaning.specs.Evaluate.{evaluate}
use Rattle.meaning.specs.Match.{Match, matched, no_match, too_many_names, match_sexp, got, atom_match}
use Rattle.meaning.specs.Constant.{seems_constant}
use Rattle.meaning.specs.Substitute.{first_name, rest_name, any_sexp, cons_pattern, or_else, sub_args, sub_cost, reads_low}

-- ---- 1. `cons_optimizer`: "`(f (c A B))` gives A, `(r (c A B))` gives B"

-- (f (c (: . first) (: . rest))) for 5, (r (c ..)) for 6
unfoldable pub cons_optimizer_pattern : ℕ → Tree
unfolding enlist cons_pattern
cons_optimizer_pattern o = enlist (byte o ∷ cons_pattern ∷ [])

unfoldable pub cons_optimizer : Tree → Tree
unfolding got match_sexp cons_optimizer_pattern or_else
cons_optimizer r =
    or_else (got first_name (match_sexp (cons_optimizer_pattern 5) r []))
    (or_else (got rest_name (match_sexp (cons_optimizer_pattern 6) r [])) r)

-- ---- 2. `constant_optimizer`: "a form that seems constant, isn't quoted and isn't nil becomes the quote of its value under nil"

-- the quote of its value under nil is charged: an atom of one byte and a pair
unfoldable pub worked_out : Tree → W Tree
unfolding within evaluate charge give ◌>>=◌ ◌>>◌ quote
worked_out r = do
  v ← within (evaluate r nil)
  charge (5 + pair_cost)
  give (quote v)

unfoldable pub constant_optimizer : Tree → W Tree
unfolding is_quote seems_constant non_nil worked_out give
constant_optimizer r = elim (not (is_quote r) && seems_constant r && non_nil r) [ true ↦ worked_out r | false ↦ give r ]

-- ---- 3. `cons_q_a_optimizer`: "`(a (q . S) 1)` gives S"

-- "sexp" and "args"
abbrev pub sexp_name : List ℕ
sexp_name = 115 ∷ 101 ∷ 120 ∷ 112 ∷ []

abbrev pub args_name : List ℕ
args_name = 97 ∷ 114 ∷ 103 ∷ 115 ∷ []

-- `cons_q_a_optimizer_pattern`: (a (q . (: . sexp)) (: . args))
unfoldable pub apply_pattern : Tree
unfolding enlist
apply_pattern = enlist (byte 2 ∷ pair (byte 1) (any_sexp sexp_name) ∷ any_sexp args_name ∷ [])

-- the S and the ARGS of (a (q . S) ARGS)
pub data Applied : Type 0 where
  applied : Tree → Tree → Applied
  not_applied : Applied

unfoldable pub both_got : Option Tree → Option Tree → Applied
both_got none a = not_applied
both_got (some s) none = not_applied
both_got (some s) (some a) = applied s a

unfoldable pub applied_of : Tree → Applied
unfolding both_got got match_sexp apply_pattern
applied_of r = both_got (got sexp_name (match_sexp apply_pattern r [])) (got args_name (match_sexp apply_pattern r []))

-- `is_args_call`
unfoldable pub is_args_call : Tree → Bool
unfolding is_byte
is_args_call (atom b) = is_byte 1 b
is_args_call (pair l r) = false

unfoldable pub cons_q_a_optimizer : Tree → Tree
unfolding applied_of is_args_call
cons_q_a_optimizer r = elim (applied_of r) [
  | applied s a ↦ elim (is_args_call a) [ true ↦ s | false ↦ r ]
  | not_applied ↦ r
]

-- ---- 4. `var_change_optimizer_cons_eval`: "`(a (q . S) ARGS)` substitutes"

-- every element, left to right
unfoldable pub each : {S : Type 0} → (Tree → M S Tree) → List Tree → M S (List Tree)
unfolding ◌>>=◌ give
each f [] = give []
each f (t ∷ ts) = do
  u ← f t
  us ← each f ts
  give (u ∷ us)

-- an operand that `non_constant_count` counts: "a pair headed by an atom other than the byte 1"
unfoldable pub non_constant : Tree → Bool
unfolding is_byte
non_constant (atom b) = false
non_constant (pair (atom o) r) = not (is_byte 1 o)
non_constant (pair (pair a b) r) = false

unfoldable pub none_of : (Tree → Bool) → List Tree → Bool
none_of f [] = true
none_of f (t ∷ ts) = not (f t) && none_of f ts

-- what becomes of the changed body of r: "kept if it seems constant (then it is optimised), or if it is a proper list none of whose
-- optimised operands is" counted; "otherwise the rule gives back its input". `low`: substitution read a low atom
unfoldable pub settle_over : (K : Over) → (Tree → M K.S Tree) → Tree → Tree → Bool → M K.S Tree
unfolding seems_constant proper_list each none_of non_constant charge mark_if enlist give ◌>>=◌ ◌>>◌
settle_over K again r new low = elim (seems_constant new) [
  | true ↦ (do
    t ← again new
    K.in_run (mark_if low)
    give t)
  | false ↦ elim (proper_list new) [
    | none ↦ give r
    | some es ↦ (do
      us ← each again es
      elim (none_of non_constant us) [
        | true ↦ (do
          K.in_run (charge (pair_cost * length us))
          K.in_run (mark_if low)
          give (enlist us))
        | false ↦ give r
      ])
  ]
]

unfoldable pub settle : (Tree → W Tree) → Tree → Tree → Bool → W Tree
unfolding settle_over
settle = settle_over alone

unfoldable pub var_change_optimizer_cons_eval_over : (K : Over) → (Tree → M K.S Tree) → Tree → M K.S Tree
unfolding applied_of sub_args sub_cost reads_low settle_over charge give ◌>>◌
var_change_optimizer_cons_eval_over K again r = elim (applied_of r) [
  | applied s a ↦ K.in_run (charge (sub_cost s a)) >> settle_over K again r (sub_args s a) (reads_low s)
  | not_applied ↦ give r
]

unfoldable pub var_change_optimizer_cons_eval : (Tree → W Tree) → Tree → W Tree
unfolding var_change_optimizer_cons_eval_over settle
var_change_optimizer_cons_eval = var_change_optimizer_cons_eval_over alone

-- ---- 5. `children_optimizer`: "every element of a non-empty proper list not headed by the byte 1 is worked, head included"

-- no element is `different`
unfoldable pub same_trees : List Tree → List Tree → Bool
unfolding equal_to
same_trees [] [] = true
same_trees [] (u ∷ us) = false
same_trees (t ∷ ts) [] = false
same_trees (t ∷ ts) (u ∷ us) = equal_to t u && same_trees ts us

unfoldable pub relist : Tree → List Tree → List Tree → W Tree
unfolding same_trees charge enlist give ◌>>◌
relist r es us = elim (same_trees es us) [ true ↦ give r | false ↦ charge (pair_cost * length us) >> give (enlist us) ]

unfoldable pub children_over : (K : Over) → (Tree → M K.S Tree) → Tree → Option (List Tree) → M K.S Tree
unfolding each relist give ◌>>=◌
children_over K again r none = give r
children_over K again r (some []) = give r
children_over K again r (some (e ∷ es)) = each again (e ∷ es) >>= λ us. K.in_run (relist r (e ∷ es) us)

unfoldable pub children : (Tree → W Tree) → Tree → Option (List Tree) → W Tree
unfolding children_over
children = children_over alone

unfoldable pub children_optimizer_over : (K : Over) → (Tree → M K.S Tree) → Tree → M K.S Tree
unfolding is_quote children_over proper_list give
children_optimizer_over K again r = elim (is_quote r) [ true ↦ give r | false ↦ children_over K again r (proper_list r) ]

unfoldable pub children_optimizer : (Tree → W Tree) → Tree → W Tree
unfolding children_optimizer_over children
children_optimizer = children_optimizer_over alone

-- ---- 6. `path_optimizer`: "`(f N)` and `(r N)` become compose(N, 2) and compose(N, 3)"

-- "atom"
abbrev pub atom_name : List ℕ
atom_name = 97 ∷ 116 ∷ 111 ∷ 109 ∷ []

-- (f ($ . atom)) for 5, (r ($ . atom)) for 6
unfoldable pub atom_pattern : ℕ → Tree
unfolding enlist
atom_pattern o = enlist (byte o ∷ pair (byte atom_match) (atom atom_name) ∷ [])

-- "11 before the result is charged"
unfoldable pub path_to : List ℕ → Bool → W Tree
unfolding atom_cost charge mark_if give ◌>>◌ refuse
path_to bs off = elim (leb (length bs) path_limit) [
  | true ↦ (do
    mark_if off
    charge (atom_cost bs)
    give (atom bs))
  | false ↦ refuse PathLong
]

-- the mark's cause (b): "an atom whose `NodePath` index differs from its unsigned value"
unfoldable pub misread : List ℕ → Bool
unfolding node_path_index number
misread b = not (eqb (node_path_index b) (number b))

-- `NodePath::new(Some(atom)).add(..)`, where the name `atom` is bound to an atom
unfoldable pub longer : Tree → Option Tree → ℕ → W Tree
unfolding path_to bytes_of compose_paths node_path_index misread give
longer r none q = give r
longer r (some (atom b)) q = path_to (bytes_of (compose_paths (node_path_index b) q)) (misread b)
longer r (some (pair x y)) q = give r

unfoldable pub path_optimizer : Tree → W Tree
unfolding match_sexp longer got atom_pattern give
path_optimizer r = elim (match_sexp (atom_pattern 5) r []) [
  | matched ks ↦ longer r (got atom_name (matched ks)) 2
  | no_match ds ↦ longer r (got atom_name (match_sexp (atom_pattern 6) r [])) 3
  | too_many_names ↦ longer r (got atom_name (match_sexp (atom_pattern 6) r [])) 3
]

-- ---- 7., 8. "`(q . 0)` and `(a 0 . any)` become nil"

unfoldable pub nil_if : Match → Tree → Tree
nil_if (matched ks) r = nil
nil_if (no_match ds) r = r
nil_if too_many_names r = r

-- `quote_pattern_1`: (q . 0)
unfoldable pub quote_pattern_1 : Tree
quote_pattern_1 = pair (byte 1) nil

unfoldable pub quote_null_optimizer : Tree → Tree
unfolding nil_if match_sexp quote_pattern_1
quote_null_optimizer r = nil_if (match_sexp quote_pattern_1 r []) r

-- `apply_null_pattern_1`: (a 0 . (: . rest))
unfoldable pub apply_null_pattern_1 : Tree
apply_null_pattern_1 = pair (byte 2) (pair nil (any_sexp rest_name))

unfoldable pub apply_null_optimizer : Tree → Tree
unfolding nil_if match_sexp apply_null_pattern_1
apply_null_optimizer r = nil_if (match_sexp apply_null_pattern_1 r []) r

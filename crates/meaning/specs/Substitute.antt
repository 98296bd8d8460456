-- optimize.rs, `sub_args` and what it calls: the substituted tree, what making it costs, and whether a low atom was read.
use Rattle.std.specs.Prelude.{ℕ, ◌+◌, List, [], ◌∷◌, Bool, true, false, ◌&&◌, ◌||◌, not, eqb}
use Rattle.std.proofs.Math.Option.{Option, none, some}
use Rattle.meaning.specs.Tree.{Tree, atom, pair, byte, enlist, is_empty, is_byte}
use Rattle.meaning.specs.Number.{plus, minus, number_from_u8, turns}
use Rattle.meaning.specs.Limits.{pair_cost}
use Rattle.meaning.specs.Match.{sexp_match, match_sexp, got}

-- ---- how substitution reads an atom

-- "Substitution reads an atom as signed big-endian: 1 or less gives the new arguments whole; else low bit first"
unfoldable pub sub_turns : List ℕ → List Bool
unfolding number_from_u8 turns
sub_turns b = elim (number_from_u8 b) [ plus n ↦ turns n | minus n ↦ [] ]

-- the mark's cause (a): "an atom of the body of signed value 0 or less"
unfoldable pub is_low : List ℕ → Bool
unfolding number_from_u8
is_low b = elim (number_from_u8 b) [ plus n ↦ eqb n 0 | minus n ↦ true ]

-- ---- `cons_f` and `cons_r`

-- "first" and "rest"
abbrev pub first_name : List ℕ
first_name = 102 ∷ 105 ∷ 114 ∷ 115 ∷ 116 ∷ []

abbrev pub rest_name : List ℕ
rest_name = 114 ∷ 101 ∷ 115 ∷ 116 ∷ []

-- (: . name)
abbrev pub any_sexp : List ℕ → Tree
any_sexp n = pair (byte sexp_match) (atom n)

-- `cons_pattern`: (c (: . first) (: . rest))
unfoldable pub cons_pattern : Tree
unfolding enlist
cons_pattern = enlist (byte 4 ∷ any_sexp first_name ∷ any_sexp rest_name ∷ [])

-- what a name is bound to, else a tree
unfoldable pub or_else : Option Tree → Tree → Tree
or_else none t = t
or_else (some u) t = u

unfoldable pub cons_f : Tree → Tree
unfolding or_else got match_sexp cons_pattern enlist
cons_f args = or_else (got first_name (match_sexp cons_pattern args [])) (enlist (byte 5 ∷ args ∷ []))

unfoldable pub cons_r : Tree → Tree
unfolding or_else got match_sexp cons_pattern enlist
cons_r args = or_else (got rest_name (match_sexp cons_pattern args [])) (enlist (byte 6 ∷ args ∷ []))

-- either charges an atom of one byte and two pairs, where the arguments are not (c A B)
unfoldable pub part_cost : Tree → ℕ
unfolding got match_sexp cons_pattern
part_cost args = elim (got first_name (match_sexp cons_pattern args [])) [ some t ↦ 0 | none ↦ 5 + (pair_cost + pair_cost) ]

-- ---- `path_from_args`, by the turns that are left ("the shortened path atoms .. are free")

unfoldable pub path_from_args : List Bool → Tree → Tree
unfolding cons_f cons_r
path_from_args [] args = args
path_from_args (false ∷ ds) args = path_from_args ds (cons_f args)
path_from_args (true ∷ ds) args = path_from_args ds (cons_r args)

unfoldable pub path_cost : List Bool → Tree → ℕ
unfolding part_cost cons_f cons_r
path_cost [] args = 0
path_cost (false ∷ ds) args = part_cost args + path_cost ds (cons_f args)
path_cost (true ∷ ds) args = part_cost args + path_cost ds (cons_r args)

-- ---- `sub_args`

-- `proper_list(..)` is `Some`
unfoldable pub is_proper : Tree → Bool
unfolding is_empty
is_proper (atom b) = is_empty b
is_proper (pair l r) = is_proper r

unfoldable mutual
  unfolding path_from_args sub_turns is_byte is_proper

  -- body, new arguments: "quotes stay; an improper tail gives the new arguments"
  pub sub_args : Tree → Tree → Tree
  sub_args (atom b) args = path_from_args (sub_turns b) args
  sub_args (pair (atom o) r) args = elim (is_byte 1 o) [
    | true ↦ pair (atom o) r
    | false ↦ elim (is_proper r) [ true ↦ pair (atom o) (sub_each r args) | false ↦ args ]
  ]
  sub_args (pair (pair x y) r) args = elim (is_proper r) [ true ↦ pair (sub_args (pair x y) args) (sub_each r args) | false ↦ args ]

  -- `map_m` over the operands, then `enlist`
  pub sub_each : Tree → Tree → Tree
  sub_each (atom b) args = atom b
  sub_each (pair l r) args = pair (sub_args l args) (sub_each r args)

unfoldable mutual
  unfolding path_cost sub_turns is_byte is_proper

  -- the list's pairs are charged as they are made; a pair in head place is worked before the tail is found improper
  pub sub_cost : Tree → Tree → ℕ
  sub_cost (atom b) args = path_cost (sub_turns b) args
  sub_cost (pair (atom o) r) args = elim (is_byte 1 o) [
    | true ↦ 0
    | false ↦ elim (is_proper r) [ true ↦ pair_cost + sub_each_cost r args | false ↦ 0 ]
  ]
  sub_cost (pair (pair x y) r) args = sub_cost (pair x y) args + elim (is_proper r) [ true ↦ pair_cost + sub_each_cost r args | false ↦ 0 ]

  pub sub_each_cost : Tree → Tree → ℕ
  sub_each_cost (atom b) args = 0
  sub_each_cost (pair l r) args = sub_cost l args + (pair_cost + sub_each_cost r args)

unfoldable mutual
  unfolding is_low is_byte is_proper

  -- substitution read a low atom, even in a part that is then dropped
  pub reads_low : Tree → Bool
  reads_low (atom b) = is_low b
  reads_low (pair (atom o) r) = not (is_byte 1 o) && is_proper r && reads_low_each r
  reads_low (pair (pair x y) r) = reads_low (pair x y) || is_proper r && reads_low_each r

  pub reads_low_each : Tree → Bool
  reads_low_each (atom b) = false
  reads_low_each (pair l r) = reads_low l || reads_low_each r

-- What substitution on nodes answers: meaning's tree, its cost and its low atoms.
use Rattle.refusals.specs.declared.Refusal.{Refusal}
use Rattle.std.specs.Prelude.{Result, Ok, Err}
use Rattle.std.specs.Prelude.{ℕ, ◌+◌, ◌≡◌, List, [], Bool, true, false, ◌&&◌, ◌||◌}
use Rattle.std.proofs.Math.Option.{Option}
use Rattle.meaning.specs.Tree.{Tree, atom, pair}
use Rattle.meaning.specs.Limits.{pair_cost}
use Rattle.meaning.specs.Match.{match_sexp, got}
use Rattle.meaning.specs.Substitute.{first_name, rest_name, cons_pattern, cons_f, cons_r, is_proper, sub_args, sub_each, sub_cost, sub_each_cost, reads_low, reads_low_each}
use Rattle.store.specs.declared.Charges.{Charges}
use Rattle.store.specs.declared.Made.{Made}
use Rattle.store.specs.Makers.{Bought, Over}
use Rattle.substitute.specs.declared.Substituted.{Substituted}

-- ---- one turn: false is left, true is right

-- what `cons_pattern` binds on that side
unfoldable pub got_part : Bool → Tree → Option Tree
unfolding got match_sexp cons_pattern
got_part false args = got first_name (match_sexp cons_pattern args [])
got_part true args = got rest_name (match_sexp cons_pattern args [])

-- `cons_f` or `cons_r`
unfoldable pub cons_part : Bool → Tree → Tree
unfolding cons_f cons_r
cons_part false args = cons_f args
cons_part true args = cons_r args

-- ---- the head of a list that is no quote: an atom stays, and is not read; a pair is worked

unfoldable pub head_tree : Tree → Tree → Tree
unfolding sub_args
head_tree (atom b) args = atom b
head_tree (pair x y) args = sub_args (pair x y) args

unfoldable pub head_cost : Tree → Tree → ℕ
unfolding sub_cost
head_cost (atom b) args = 0
head_cost (pair x y) args = sub_cost (pair x y) args

unfoldable pub head_low : Tree → Bool
unfolding reads_low
head_low (atom b) = false
head_low (pair x y) = reads_low (pair x y)

-- ---- the list of a head that is worked already, as `sub_args` makes it

unfoldable pub list_tree : Tree → Tree → Tree → Tree
unfolding is_proper sub_each
list_tree first rest args = elim (is_proper rest) [ true ↦ pair first (sub_each rest args) | false ↦ args ]

unfoldable pub list_cost : Tree → Tree → ℕ
unfolding is_proper sub_each_cost
list_cost rest args = elim (is_proper rest) [ true ↦ pair_cost + sub_each_cost rest args | false ↦ 0 ]

unfoldable pub list_low : Bool → Tree → Bool
unfolding is_proper reads_low_each
list_low low rest = low || is_proper rest && reads_low_each rest

-- ---- the answer

-- the node stands for t, at a cost in units; l says whether a low atom was read
pub record Replaced (f s s' : List ℕ) (c : Charges) (cost : ℕ) (t : Tree) (l : Bool) (x : Substituted) : Type 0 where
  pub bought : Bought f s s' c x.ch cost x.node t
  pub low : x.low ≡ l

-- or the cost goes over the units
unfoldable pub SubOk : List ℕ → List ℕ → List ℕ → Charges → ℕ → Tree → Bool → Result Substituted Refusal → Type 0
SubOk f s s' c cost t low (Ok x) = Replaced f s s' c cost t low x
SubOk f s s' c cost t low (Err r) = Over c cost r

-- a maker's answer as one of substitution's
abbrev pub sub_made : Bool → Result Made Refusal → Result Substituted Refusal
sub_made low (Ok m) = Ok (record { ch = m.ch; low = low; node = m.node })
sub_made low (Err r) = Err r

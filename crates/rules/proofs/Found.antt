-- What the matcher found, with the patterns as the definitions have them. Assumes nothing.
use Rattle.std.specs.Prelude.{Option as Got, Some, None}
use Prim.Native.Nat.{ℕ}
use mathlib.Core.Path.{◌≡◌, sym, ap}
use mathlib.Core.List.{List, []}
use mathlib.Core.Option.{Option, none, some}
use Rattle.meaning.specs.Tree.{Tree}
use Rattle.meaning.specs.Match as meaning
use Rattle.meaning.proofs.RuleDiffers.{Unmatched, none_matched, too_many}
use Rattle.meaning.proofs.Verdict.{is_matched, is_failed, is_third}
use Rattle.store.specs.declared.Charges.{Charges}
use Rattle.store.specs.Nodes.{tree_at}
use Rattle.store.specs.Store.{Ready}
use Rattle.pattern.specs.declared.Bindings.{Bindings}
use Rattle.pattern.specs.declared.Match.{Match}
use Rattle.pattern.specs.declared.Match.TheVariants.{Matched, NoMatch, TooManyNames}
use Rattle.pattern.specs.Bound.{bindings_at, Bound, match_at, BoundIn, MatchOk, got_at, GotIn, GotOk}
use Rattle.patterns.specs.Patterns.{Shows}

-- ---- a name

module _ (f s s' : List ℕ) (c : Charges) (g : Got ℕ) (o : Option Tree) (h : GotOk f s s' c g o) where
  pub found_tree : (n : ℕ) → g ≡ Some n → o ≡ some (tree_at f s' n)
  unfolding got_at
  found_tree n e = let z : some (tree_at f s' n) ≡ o = rw e at h.answer in sym z

  pub found_ready : (n : ℕ) → g ≡ Some n → Ready f s' c n
  unfolding GotIn
  found_ready n e = rw e at h.found

  pub found_none : g ≡ None → o ≡ none
  unfolding got_at
  found_none e = let z : none ≡ o = rw e at h.answer in sym z

-- ---- a match

module _ (f s s' : List ℕ) (c : Charges) (a : Match) (m : meaning.Match) (h : MatchOk f s s' c a m) where
  pub match_bindings : (ks : Bindings) → a ≡ Matched ks → m ≡ meaning.matched (bindings_at f s' ks)
  unfolding match_at
  match_bindings ks e = sym (is_matched m (bindings_at f s' ks) (rw e at h.answer))

  pub match_bound : (ks : Bindings) → a ≡ Matched ks → Bound f s' c ks
  unfolding BoundIn
  match_bound ks e = rw e at h.bound

  pub match_none : a ≡ NoMatch → Unmatched m
  unfolding match_at
  match_none e = let (ds, z) = is_failed m (rw e at h.answer) in rw (← z) (none_matched ds)

  pub match_many : a ≡ TooManyNames → Unmatched m
  unfolding match_at
  match_many e = rw (← is_third m (rw e at h.answer)) too_many

-- ---- the pattern at a node

-- the pattern's tree in the place of its node
pub at_pattern : {f s : List ℕ} {c : Charges} {k : ℕ} {p : Tree} (n : ℕ) → Shows f s c k p → meaning.match_sexp (tree_at f s k) (tree_at f s n) [] ≡ meaning.match_sexp p (tree_at f s n) []
at_pattern {f} {s} n h = ap (λ t. meaning.match_sexp t (tree_at f s n) []) h.tree

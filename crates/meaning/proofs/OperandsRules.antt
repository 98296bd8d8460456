-- Rules 4 and 5 by the walk that they share. Assumes nothing.
use Prim.Native.Nat.{◌*◌}
use mathlib.Core.Path.{◌≡◌, refl, sym, ◌∙◌, ap}
use mathlib.Core.List.{List, [], ◌∷◌}
use mathlib.Core.Bool.{Bool, true, false, ◌&&◌, ◌||◌, not}
use mathlib.Core.Option.{Option, none, some}
use lib.ListN.{length}
use Rattle.meaning.specs.Tree.{Tree, enlist, proper_list, equal_to}
use Rattle.meaning.specs.Limits.{pair_cost}
use Rattle.meaning.specs.Meter.{W, Spent, ◌>>=◌, ◌>>◌, give, charge, mark_if}
use Rattle.meaning.specs.Constant.{seems_constant}
use Rattle.meaning.specs.Substitute.{or_else}
use Rattle.meaning.specs.Rules.{each, non_constant, none_of, settle, same_trees, relist, children, settle_over}
use Rattle.meaning.proofs.Tests.{not_true}
use Rattle.meaning.proofs.TreeLaws.{proper_list_sound}
use Rattle.meaning.proofs.BindLaws.{bind_same}
use Rattle.meaning.proofs.Operands.{as_wanted, work, counts, differs}
use Rattle.meaning.proofs.OperandsLaw.{built, built_then, Verdict, is_made, work_then}

-- ---- rule 5

pub de_morgan : (a b : Bool) → not (a && b) ≡ (not a || not b)
de_morgan true b = refl
de_morgan false b = refl

none_differ : not (same_trees [] []) ≡ false
unfolding same_trees
none_differ = refl

one_differs : (t u : Tree) (ts us : List Tree) → not (same_trees (t ∷ ts) (u ∷ us)) ≡ (differs t u || not (same_trees ts us))
unfolding same_trees
one_differs t u ts us = de_morgan (equal_to t u) (same_trees ts us)

-- some element differs
abbrev some_differ : Verdict differs
some_differ = record { set = λ es us. not (same_trees es us); at_end = none_differ; one_more = one_differs }

-- rule 5 walks its list, and gives what was made of it, or the list itself
pub children_works : (again : Tree → W Tree) (r : Tree) (es : List Tree) → proper_list r ≡ some es → (s : Spent)
    → children again r (some es) s ≡ (work differs true again false r >>= λ o. give (or_else o r)) s
unfolding children relist work or_else built give ◌>>=◌
children_works again r [] p s = rw (proper_list_sound r [] p)
children_works again r (e ∷ es) p s =
    bind_same (each again (e ∷ es)) (relist r (e ∷ es)) (λ us. built (is_made true some_differ false (e ∷ es) us) us >>= or_same) s
    (λ us x. ends (same_trees (e ∷ es) us) us x)
    ∙ sym (work_then differs true again some_differ r e es (proper_list_sound r (e ∷ es) p) false or_same s)
  where
    or_same : Option Tree → W Tree
    or_same o = give (or_else o r)

    end : Bool → List Tree → W Tree
    end b us = elim b [ true ↦ give r | false ↦ charge (pair_cost * length us) >> give (enlist us) ]

    ends : (b : Bool) (us : List Tree) (x : Spent) → end b us x ≡ (built (not b) us >>= or_same) x
    ends true us x = refl
    ends false us x = sym (built_then us or_same x)

-- ---- rule 4

double_not : (b : Bool) → not (not b) ≡ b
double_not true = refl
double_not false = refl

none_count : not (none_of non_constant []) ≡ false
unfolding none_of
none_count = refl

one_counts : (t u : Tree) (ts us : List Tree) → not (none_of non_constant (u ∷ us)) ≡ (counts t u || not (none_of non_constant us))
unfolding none_of
one_counts t u ts us = de_morgan (not (non_constant u)) (none_of non_constant us) ∙ ap (◌|| not (none_of non_constant us)) (double_not (non_constant u))

-- some operand counts
abbrev some_count : Verdict counts
some_count = record { set = λ es us. not (none_of non_constant us); at_end = none_count; one_more = one_counts }

-- what rule 4 gives: the list that was made, with its mark, or its input
unfoldable pub kept_or : Tree → Bool → Option Tree → W Tree
unfolding mark_if give ◌>>◌
kept_or r low none = give r
kept_or r low (some m) = mark_if low >> give m

-- rule 4 walks the changed body where that is a list that does not seem constant
pub settle_works : (again : Tree → W Tree) (r new : Tree) (low : Bool) (es : List Tree) → seems_constant new ≡ false → proper_list new ≡ some es → (s : Spent)
    → settle again r new low s ≡ (work counts false again false new >>= kept_or r low) s
unfolding settle as_wanted built kept_or
settle_works again r new low [] c p s = not_true (rw (proper_list_sound new [] p) at c)
settle_works again r new low (e ∷ es) c p s = rw (c, p, settle_over)
    (bind_same (each again (e ∷ es)) (λ us. end (none_of non_constant us) us) (λ us. built (is_made false some_count false (e ∷ es) us) us >>= kept_or r low) s
    (λ us x. ends (none_of non_constant us) us x)
    ∙ sym (work_then counts false again some_count new e es (proper_list_sound new (e ∷ es) p) false (kept_or r low) s))
  where
    end : Bool → List Tree → W Tree
    end b us = elim b [ true ↦ charge (pair_cost * length us) >> (mark_if low >> give (enlist us)) | false ↦ give r ]

    ends : (b : Bool) (us : List Tree) (x : Spent) → end b us x ≡ (built (not (not b)) us >>= kept_or r low) x
    ends true us x = sym (built_then us (kept_or r low) x)
    ends false us x = refl

-- To walk a list with a flag, and to make it anew from its end, is to work every element and then charge for the list at once. Assumes nothing.
use Prim.Native.Nat.{◌*◌}
use mathlib.Core.Path.{◌≡◌, refl, sym, ◌∙◌, ap}
use mathlib.Core.List.{List, [], ◌∷◌}
use mathlib.Core.Bool.{Bool, true, false, ◌||◌, or_assoc, or-false}
use mathlib.Core.Option.{Option, none, some}
use lib.ListN.{length}
use native.Mathlib.Omega.{arith}
use Rattle.meaning.specs.Tree.{Tree, pair, nil, enlist}
use Rattle.meaning.specs.Limits.{pair_cost}
use Rattle.meaning.specs.Meter.{W, Spent, ◌>>=◌, ◌>>◌, give, charge}
use Rattle.meaning.specs.Rules.{each}
use Rattle.meaning.proofs.Charges.{charge_both}
use Rattle.meaning.proofs.BindLaws.{bind_assoc, bind_same, bind_head}
use Rattle.meaning.proofs.Operands.{as_wanted, ending, before, work}

-- the list us, made at once
unfoldable pub built : Bool → List Tree → W (Option Tree)
unfolding charge enlist give ◌>>◌
built true us = charge (pair_cost * length us) >> give (some (enlist us))
built false us = give none

pub built_then : {A : Type 0} (us : List Tree) (f : Option Tree → W A) (s : Spent) → (built true us >>= f) s ≡ (charge (pair_cost * length us) >> f (some (enlist us))) s
unfolding built ◌>>◌ give ◌>>=◌
built_then us f s = bind_assoc (charge (pair_cost * length us)) (λ x. give (some (enlist us))) f s

-- one element more is one charge more
built_before : (b : Bool) (us : List Tree) (u : Tree) (s : Spent) → (built b us >>= before u) s ≡ built b (u ∷ us) s
unfolding built before enlist give ◌>>◌ ◌>>=◌
built_before false us u s = refl
built_before true us u s =
    built_then us (before u) s
    ∙ sym (bind_assoc (charge (pair_cost * length us)) (λ x. charge pair_cost) (λ x. give (some (pair u (enlist us)))) s)
    ∙ bind_head (charge (pair_cost * length us) >> charge pair_cost) (charge (pair_cost * length (u ∷ us))) (λ x. give (some (pair u (enlist us)))) s
    (charge_both (pair_cost * length us) pair_cost s ∙ ap (λ n. charge n s) (omega arith))

-- a verdict over all elements which says whether the test ever set the flag
pub record Verdict (test : Tree → Tree → Bool) : Type 0 where
  pub set : List Tree → List Tree → Bool
  pub at_end : set [] [] ≡ false
  pub one_more : (t u : Tree) (ts us : List Tree) → set (t ∷ ts) (u ∷ us) ≡ (test t u || set ts us)

-- is the list made, once its elements es were worked into us?
abbrev pub is_made : {test : Tree → Tree → Bool} → Bool → Verdict test → Bool → List Tree → List Tree → Bool
is_made wanted v flag es us = as_wanted wanted (flag || v.set es us)

module _ (test : Tree → Tree → Bool) (wanted : Bool) (again : Tree → W Tree) (v : Verdict test) where
  -- the rest of a list, with a worked element before it
  abbrev Rest : List Tree → Type 0
  Rest es = (flag : Bool) (u : Tree) (s : Spent) → (work test wanted again flag (enlist es) >>= before u) s ≡ (each again es >>= λ us. built (is_made wanted v flag es us) (u ∷ us)) s

  -- a list, from its rest
  whole : (e : Tree) (es : List Tree) → Rest es → (flag : Bool) (s : Spent)
      → work test wanted again flag (enlist (e ∷ es)) s ≡ (each again (e ∷ es) >>= λ us. built (is_made wanted v flag (e ∷ es) us) us) s
  unfolding work each enlist
  whole e es ih flag s =
      bind_same (again e) (λ u. work test wanted again (flag || test e u) (enlist es) >>= before u) (λ u. each again es >>= λ us. end (u ∷ us)) s
      (λ u t. ih (flag || test e u) u t ∙ bind_same (each again es) (λ us. built (is_made wanted v (flag || test e u) es us) (u ∷ us)) (λ us. end (u ∷ us)) t
      (λ us x. ap (λ b. built (as_wanted wanted b) (u ∷ us) x) (or_assoc flag (test e u) (v.set es us) ∙ ap (flag ||◌) (sym (v.one_more e u es us)))))
      ∙ sym (bind_assoc (again e) (λ u. each again es >>= λ us. give (u ∷ us)) end s
      ∙ bind_same (again e) (λ u. (each again es >>= λ us. give (u ∷ us)) >>= end) (λ u. each again es >>= λ us. end (u ∷ us)) s
      (λ u t. bind_assoc (each again es) (λ us. give (u ∷ us)) end t))
    where
      end : List Tree → W (Option Tree)
      end us = built (is_made wanted v flag (e ∷ es) us) us

  rest : (es : List Tree) → Rest es
  unfolding work each enlist built give ◌>>=◌
  rest [] flag u s = rw (v.at_end, or-false flag) (go (as_wanted wanted flag))
    where
      go : (b : Bool) → before u (ending b nil) s ≡ built b (u ∷ []) s
      go true = refl
      go false = refl
  rest (e ∷ es) flag u s =
      bind_head (work test wanted again flag (enlist (e ∷ es))) (each again (e ∷ es) >>= λ us. built (is_made wanted v flag (e ∷ es) us) us) (before u) s (whole e es (rest es) flag s)
      ∙ bind_assoc (each again (e ∷ es)) (λ us. built (is_made wanted v flag (e ∷ es) us) us) (before u) s
      ∙ bind_same (each again (e ∷ es)) (λ us. built (is_made wanted v flag (e ∷ es) us) us >>= before u) (λ us. built (is_made wanted v flag (e ∷ es) us) (u ∷ us)) s
      (λ us t. built_before (is_made wanted v flag (e ∷ es) us) us u t)

  -- a list that is not empty: work every element, and then make the list at once, or not
  pub work_list : (e : Tree) (es : List Tree) (flag : Bool) (s : Spent)
      → work test wanted again flag (enlist (e ∷ es)) s ≡ (each again (e ∷ es) >>= λ us. built (is_made wanted v flag (e ∷ es) us) us) s
  work_list e es flag s = whole e es (rest es) flag s

  -- and what follows it
  pub work_then : {A : Type 0} (t e : Tree) (es : List Tree) → t ≡ enlist (e ∷ es) → (flag : Bool) (f : Option Tree → W A) (s : Spent)
      → (work test wanted again flag t >>= f) s ≡ (each again (e ∷ es) >>= λ us. built (is_made wanted v flag (e ∷ es) us) us >>= f) s
  work_then t e es i flag f s =
      bind_head (work test wanted again flag t) (each again (e ∷ es) >>= λ us. built (is_made wanted v flag (e ∷ es) us) us) f s
      (ap (λ z. work test wanted again flag z s) i ∙ work_list e es flag s)
      ∙ bind_assoc (each again (e ∷ es)) (λ us. built (is_made wanted v flag (e ∷ es) us) us) f s

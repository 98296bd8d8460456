-- One expression keeps the values of another, and a list does where its elements do. Assumes nothing.
use Prim.Native.Nat.{ℕ}
use mathlib.Core.Path.{◌≡◌, refl, sym, subst}
use mathlib.Core.List.{List, [], ◌∷◌}
use mathlib.Core.Bool.{false}
use Rattle.meaning.specs.Tree.{Tree, atom, pair, enlist, is_quote}
use Rattle.meaning.specs.Evaluate.{Gives}
use Rattle.meaning.proofs.Pointwise.{Pointwise, no_more, one_more}
use Rattle.meaning.proofs.GivesLaws.{ListGives, Valued, gives_inv}
use Rattle.meaning.proofs.CallLaws.{call_moves}

-- where e has a value, e' has the same
unfoldable pub Keeps : Tree → Tree → Type 0
Keeps e e' = (env v : Tree) → Gives e env v → Gives e' env v

pub keeps_refl : (e : Tree) → Keeps e e
unfolding Keeps
keeps_refl e env v g = g

pub keeps_trans : (a b c : Tree) → Keeps a b → Keeps b c → Keeps a c
unfolding Keeps
keeps_trans a b c h k env v g = k env v (h env v g)

pub keeps_at : {r s t u : Tree} → r ≡ s → t ≡ u → Keeps s u → Keeps r t
keeps_at p q k = rw (p, q) k

list_gives : (env : Tree) {es us : List Tree} → Pointwise Keeps es us → (vs : List Tree) → ListGives (enlist es) env vs → ListGives (enlist us) env vs
unfolding Keeps ListGives enlist
list_gives env no_more vs g = g
list_gives env (one_more k ks) [] g = absurd g
list_gives env (one_more k ks) (v ∷ vs) g = (k env v g.0, list_gives env ks vs g.1)

-- a list that is no quote, every element of which is replaced by one that keeps its values; its head stays as it is, if it is an atom
pub list_keeps : (e u : Tree) (es us : List Tree) → is_quote (pair e (enlist es)) ≡ false → ((b : List ℕ) → e ≡ atom b → u ≡ atom b) → Pointwise Keeps es us
    → Keeps (pair e (enlist es)) (pair u (enlist us))
unfolding Keeps Valued is_quote
list_keeps (atom b) u es us nq st ks env v g =
    subst (λ x. Gives (pair x (enlist us)) env v) (sym (st b refl)) (call_moves b (enlist es) (enlist us) env env v nq (list_gives env ks) g)
list_keeps (pair x y) u es us nq st ks env v g = absurd (gives_inv (pair (pair x y) (enlist es)) env v g)

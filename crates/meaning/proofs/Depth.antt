-- What is done with some calls left to nest is done the same with more. Assumes nothing.
use Prim.Native.Nat.{ℕ, zero, suc, ◌≤◌}
use mathlib.Core.Path.{◌≡◌, ◌∙◌}
use native.Mathlib.Omega.{arith}
use Rattle.meaning.specs.Tree.{Tree}
use Rattle.meaning.specs.Limits.{pass_limit}
use Rattle.meaning.specs.Meter.{W, Spent, done, ◌>>=◌}
use Rattle.meaning.specs.Driver.{optimize_sexp}
use Rattle.meaning.proofs.MeterLaws.{not_stop, bind_inv, bind_at}
use Rattle.meaning.proofs.Walk.{Kept, walk_loop}

-- where the first is done, the second is done the same
abbrev pub Also : {A : Type 0} → W A → W A → Type 0
Also {A} m n = (s t : Spent) (a : A) → m s ≡ done a t → n s ≡ done a t

pub also_same : {A : Type 0} (m : W A) → Also m m
also_same m s t a h = h

pub also_bind : {A B : Type 0} {m n : W A} {f g : A → W B} → Also m n → ((a : A) → Also (f a) (g a)) → Also (m >>= f) (n >>= g)
also_bind {m} {n} {f} {g} mn fg s t b h =
    let (a, x, p, q) = bind_inv m f s t b h in
    bind_at n g s x a (mn s x a p) ∙ fg a x t b q

-- this is kept by the ways of putting work together: so, with `deeper`, of each rule and each pass too
abbrev pub to_be_also : Kept
to_be_also = record {
  rel = λ m n. Also m n;
  by_give = λ a. also_same _;
  by_refuse = λ n h. also_same _;
  by_bind = λ mn fg. also_bind mn fg;
  by_charge = λ c. also_same _;
  by_pass = also_same _;
  by_mark = λ b. also_same _;
  by_evaluate = λ e env. also_same _;
}

-- a call that is done with h calls left to nest is done the same with d, if d is not less
pub deeper : (h d : ℕ) → h ≤ d → (t : Tree) → Also (optimize_sexp h t) (optimize_sexp d t)
unfolding optimize_sexp
deeper zero d l t = λ s x u e. not_stop e
deeper (suc h) zero l t = absurd (omega arith)
deeper (suc h) (suc d) l t = walk_loop to_be_also (optimize_sexp h) (optimize_sexp d) (deeper h d (omega arith)) (suc pass_limit) t

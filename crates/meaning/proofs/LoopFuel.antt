-- Enough turns are enough for the driver's loop: each turn takes a pass, so before the turns run out the passes do. Assumes nothing.
use Prim.Native.Nat.{ℕ, zero, suc, ◌+◌, ◌≤◌}
use mathlib.Core.Path.{◌≡◌, sym, ◌∙◌}
use mathlib.Core.Bool.{true, false}
use native.Mathlib.Omega.{arith}
use Rattle.refusals.specs.declared.Refusal.TheVariants.{PassesOut}
use Rattle.meaning.specs.Tree.{Tree, atom, pair, equal_to}
use Rattle.meaning.specs.Limits.{pass_limit}
use Rattle.meaning.specs.Meter.{M, Spent, W, Over, alone, stop, ◌>>=◌, ◌>>◌, give, one_pass}
use Rattle.meaning.specs.Driver.{optimizers_over, optimizers, pass_over, pass, loop_over, loop, optimize_sexp}
use Rattle.meaning.proofs.Tests.{leb_no}
use Rattle.meaning.proofs.MeterLaws.{seq_stop}
use Rattle.meaning.proofs.Turn.{turn}
use Rattle.meaning.proofs.Agree.{Leaves, Agree, agree_give, agree_if, agree_less, agree_bind, agree_seq}
use Rattle.meaning.proofs.Passes.{passes_of, one_pass_more, NeverFalls, alike_pass, driver_never_falls}

pub passes_out : (s : Spent) → pass_limit ≤ s.passes → one_pass s ≡ stop PassesOut s
unfolding one_pass
passes_out s l = rw (leb_no (s.passes + 1) pass_limit (omega arith), one_pass)

-- over a state with a count of passes
module _ (K : Over) (count : K.S → ℕ) (more : (k : ℕ) → Agree count k (suc k) (K.in_run one_pass) (K.in_run one_pass))
    (out : (s : K.S) → pass_limit ≤ count s → K.in_run one_pass s ≡ stop PassesOut s) (again : Tree → M K.S Tree)
    (alike : (k : ℕ) (t : Tree) → Agree count k k (pass_over K 1 (optimizers_over K again) t) (pass_over K 1 (optimizers_over K again) t)) where
  -- where the passes are spent, any turn on a pair is refused
  spent : (n : ℕ) (l r : Tree) (s : K.S) → pass_limit ≤ count s → loop_over K again (suc n) (pair l r) s ≡ stop PassesOut s
  unfolding loop_over
  spent n l r s h = seq_stop (K.in_run one_pass) _ s s PassesOut (out s h)

  alike_spent : (n m k : ℕ) → pass_limit ≤ k → (l r : Tree) → Agree count k k (loop_over K again (suc n) (pair l r)) (loop_over K again (suc m) (pair l r))
  unfolding Leaves
  alike_spent n m k h l r = record {
    same = λ s i. spent n l r s (omega arith) ∙ sym (spent m l r s (omega arith));
    leaves = λ s i. rw (spent n l r s (omega arith)) tt;
  }

  alike_turns : (n m k : ℕ) → pass_limit ≤ n + k → pass_limit ≤ m + k → (t : Tree) → Agree count k k (loop_over K again (suc n) t) (loop_over K again (suc m) t)
  unfolding loop_over
  alike_turns zero m k i j (atom b) = agree_give count k (atom b)
  alike_turns zero m k i j (pair l r) = alike_spent zero m k (omega arith) l r
  alike_turns (suc n) zero k i j (atom b) = agree_give count k (atom b)
  alike_turns (suc n) zero k i j (pair l r) = alike_spent (suc n) zero k (omega arith) l r
  alike_turns (suc n) (suc m) k i j (atom b) = agree_give count k (atom b)
  alike_turns (suc n) (suc m) k i j (pair l r) =
      agree_less count k (omega arith)
      (agree_seq count (more k)
      (agree_bind count (alike (suc k) (pair l r)) λ t.
      agree_if count (equal_to (pair l r) t) (agree_give count (suc k) (pair l r)) (alike_turns n m (suc k) (omega arith) (omega arith) t)))

  -- two counts of turns that are both enough do the same
  pub enough_over : (n m : ℕ) (t : Tree) (s : K.S) → pass_limit ≤ n + count s → pass_limit ≤ m + count s → loop_over K again (suc n) t s ≡ loop_over K again (suc m) t s
  enough_over n m t s i j = (alike_turns n m (count s) i j t).same s (omega arith)

  -- a turn on a pair, and then the loop as from its beginning, where the count is enough
  pub next_over : (n : ℕ) → pass_limit ≤ n → (l r : Tree) (s : K.S) → loop_over K again (suc n) (pair l r) s
      ≡ (K.in_run one_pass >> (pass_over K 1 (optimizers_over K again) (pair l r) >>= λ w. elim (equal_to (pair l r) w) [ true ↦ give (pair l r) | false ↦ loop_over K again (suc n) w ])) s
  unfolding loop_over
  next_over zero h l r s = absurd (omega arith)
  next_over (suc n) h l r s =
      (agree_seq count (more 0)
      (agree_bind count (alike 1 (pair l r)) λ w.
      agree_if count (equal_to (pair l r) w) (agree_give count 1 (pair l r)) (alike_turns n (suc n) 1 (omega arith) (omega arith) w))
      ).same s (omega arith)

module _ (again : Tree → W Tree) (up : NeverFalls again) where
  alike_alone : (k : ℕ) (t : Tree) → Agree passes_of k k (pass_over alone 1 (optimizers_over alone again) t) (pass_over alone 1 (optimizers_over alone again) t)
  unfolding pass optimizers
  alike_alone k t = alike_pass again up k 1 t

  -- so, within the limit of passes, any count that is enough stands for the driver's
  pub enough_to_loop : (n : ℕ) (t : Tree) (s : Spent) → s.passes ≤ pass_limit → suc pass_limit ≤ n + s.passes → loop again n t s ≡ loop again (suc pass_limit) t s
  unfolding loop
  enough_to_loop zero t s f l = absurd (omega arith)
  enough_to_loop (suc n) t s f l = enough_over alone passes_of one_pass_more passes_out again alike_alone n pass_limit t s (omega arith) (omega arith)

  next_turn : (l r : Tree) (s : Spent) → loop again (suc pass_limit) (pair l r) s
      ≡ (one_pass >> (turn again (pair l r) >>= λ w. elim (equal_to (pair l r) w) [ true ↦ give (pair l r) | false ↦ loop again (suc pass_limit) w ])) s
  unfolding loop pass optimizers
  next_turn l r s = next_over alone passes_of one_pass_more passes_out again alike_alone pass_limit (omega arith) l r s

-- a call on a pair: a turn, and then a call on what it gave, unless that is the pair
pub next_call : (d : ℕ) (l r : Tree) (s : Spent) → optimize_sexp (suc d) (pair l r) s
    ≡ (one_pass >> (turn (optimize_sexp d) (pair l r) >>= λ w. elim (equal_to (pair l r) w) [ true ↦ give (pair l r) | false ↦ optimize_sexp (suc d) w ])) s
unfolding optimize_sexp
next_call d l r s = next_turn (optimize_sexp d) (driver_never_falls d) l r s

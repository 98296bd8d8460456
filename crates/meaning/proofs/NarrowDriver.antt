-- The driver keeps a tree narrow, so that every finished tree reads back from its written form. Assumes nothing.
use Prim.Native.Nat.{ℕ, zero, suc}
use mathlib.Core.Path.{◌≡◌}
use mathlib.Core.List.{List, [], ◌∷◌}
use Rattle.meaning.specs.Tree.{Tree, atom, pair, equal_to}
use Rattle.meaning.specs.Limits.{pass_limit, nesting_limit}
use Rattle.meaning.specs.Meter.{done, W, Spent, give, one_pass}
use Rattle.meaning.specs.Form.{write, ReadsAs, Narrow}
use Rattle.meaning.specs.Driver.{optimizers, ends_pass, pass, loop, optimize_sexp}
use Rattle.meaning.specs.Run.{after_reading, worked}
use Rattle.meaning.proofs.Atoms.{narrow_writable}
use Rattle.meaning.proofs.WriteRead.{reads_as_written}
use Rattle.meaning.proofs.ReadWrite.{form_read}
use Rattle.meaning.proofs.RunLaws.{worked_inv}
use Rattle.meaning.proofs.Yields.{Every, y_bind, y_seq, y_give, y_refuse, y_if}
use Rattle.meaning.proofs.NarrowRules.{KeepsNarrow, cons_narrow, constant_narrow, cons_q_a_narrow, var_change_narrow, children_narrow, path_narrow, quote_null_narrow, apply_null_narrow}

-- a rule that only rewrites
rewrites_narrow : (f : Tree → Tree) → ((t : Tree) → Narrow t → Narrow (f t)) → KeepsNarrow (λ r. give (f r))
rewrites_narrow f k t h = y_give (f t) (k t h)

optimizers_narrow : (again : Tree → W Tree) → KeepsNarrow again → Every KeepsNarrow (optimizers again)
unfolding optimizers Every
optimizers_narrow again keeps = (rewrites_narrow _ cons_narrow, (constant_narrow, (rewrites_narrow _ cons_q_a_narrow, (var_change_narrow again keeps, (children_narrow again keeps, (path_narrow, (rewrites_narrow _ quote_null_narrow, (rewrites_narrow _ apply_null_narrow, tt))))))))

pass_narrow : (n : ℕ) (fs : List (Tree → W Tree)) → Every KeepsNarrow fs → KeepsNarrow (pass n fs)
unfolding pass ends_pass Every
pass_narrow n [] k r h = y_give r h
pass_narrow n (f ∷ fs) k r h = y_bind (k.0 r h) (λ t ht. y_if (equal_to r t) (λ _. pass_narrow (suc n) fs k.1 r h) (λ _. y_give t ht))

loop_narrow : (again : Tree → W Tree) → KeepsNarrow again → (n : ℕ) → KeepsNarrow (loop again n)
unfolding loop
loop_narrow again keeps zero t h = y_refuse _
loop_narrow again keeps (suc n) (atom b) h = y_give (atom b) h
loop_narrow again keeps (suc n) (pair l r) h =
    y_seq one_pass (y_bind (pass_narrow 1 (optimizers again) (optimizers_narrow again keeps) (pair l r) h)
    (λ t ht. y_if (equal_to (pair l r) t) (λ _. y_give (pair l r) h) (λ _. loop_narrow again keeps n t ht)))

drive_narrow : (d : ℕ) → KeepsNarrow (optimize_sexp d)
unfolding optimize_sexp
drive_narrow zero t h = y_refuse _
drive_narrow (suc d) t h = loop_narrow (optimize_sexp d) (drive_narrow d) (suc pass_limit) t h

-- The driver keeps narrow.
pub optimize_narrow : (d : ℕ) (t u : Tree) (s s' : Spent) → optimize_sexp d t s ≡ done u s' → Narrow t → Narrow u
optimize_narrow d t u s s' e h = (drive_narrow d t h).result s s' u e

-- Every atom of a finished tree has at most 64 bytes.
pub worked_narrow : (form : List ℕ) (u : Tree) (s : Spent) → worked form ≡ done u s → Narrow u
worked_narrow form u s h =
    let (t, r, e, k) = worked_inv form u s h in
    optimize_narrow nesting_limit t u (after_reading r) s k (form_read form 0 t r e).narrow

-- So a finished tree is what its written form reads as.
pub worked_reads_back : (form : List ℕ) (u : Tree) (s : Spent) → worked form ≡ done u s → ReadsAs (write u) u
worked_reads_back form u s h = reads_as_written u (narrow_writable u (worked_narrow form u s h))

-- What holds of every outcome that delivers a tree, and how long its line is at most. Assumes nothing.
use Prim.Native.Nat.{ℕ, ◌+◌, ◌*◌, ◌≤◌}
use mathlib.Core.Path.{◌≡◌, refl}
use mathlib.Core.List.{List, [], ◌∷◌}
use native.Mathlib.Omega.{arith}
use lib.Dec.{leb}
use lib.ListN.{length, take, drop, length-append}
use borrow.Author.Tests.{leb-true}
use Rattle.refusals.specs.declared.Refusal.{Refusal}
use Rattle.refusals.specs.Numbers.{number_of}
use Rattle.meaning.specs.Tree.{Tree}
use Rattle.meaning.specs.Form.{read_form, write}
use Rattle.meaning.specs.Outcome.{Outcome, Tag, answered, refused, deliver, deliver_tree}
use Rattle.meaning.specs.Run.{run, worked, deliver_run, mark_number}
use Rattle.meaning.proofs.Tests.{on_bool}
use Rattle.meaning.proofs.Lent.{every}
use Rattle.evaluation.specs.Bytes as evaluation
use Rattle.form.specs.Bytes as form
use Rattle.lines.specs.Text.{out_most, line_most, ok_tree, numbers_line}
use Rattle.lines.proofs.Lengths.{tree_length, end_most, no_most}
use Rattle.outcome.specs.Line.{line_with, ok_line, line_of}

-- ---- outcomes that deliver a tree

-- an answer's bytes fit m bytes, their count is told first, and at most three numbers behind it
unfoldable pub Counted : ℕ → Outcome → Type 0
Counted m (answered bytes tag ns) = (length bytes ≤ m) × ((ns ≡ length bytes ∷ drop 1 ns) × (length (drop 1 ns) ≤ 3))
Counted m (refused n) = Unit {0}

pub counted_refused : (m : ℕ) (n : Refusal) → Counted m (refused n)
unfolding Counted
counted_refused m n = tt

pub counted_deliver : (m : ℕ) (bytes ns : List ℕ) → length ns ≤ 3 → Counted m (deliver m bytes (length bytes ∷ ns))
unfolding deliver Counted
counted_deliver m bytes ns h = on_bool (leb (length bytes) m) (λ e. rw (e, deliver) (leb-true (length bytes) m e, (refl, h))) (λ e. rw (e, deliver) tt)

pub counted_tree : (m : ℕ) (t : Tree) (ns : List ℕ) → length ns ≤ 3 → Counted m (deliver_tree m t ns)
unfolding deliver_tree
counted_tree m t ns h = counted_deliver m (write t) ns h

pub run_counted : (f : List ℕ) (room m : ℕ) → Counted m (run f room m)
unfolding run deliver_run
run_counted f room m = every (Counted m) (deliver_run m) (counted_refused m) (λ t s. counted_tree m t (s.passes ∷ s.units ∷ mark_number s.mark ∷ []) (omega arith)) room (worked f)

pub evaluation_counted : (f : List ℕ) (first room m : ℕ) → Counted m (evaluation.outcome f first room m)
unfolding evaluation.outcome evaluation.delivered
evaluation_counted f first room m = every (Counted m) (evaluation.delivered m) (counted_refused m) (λ t s. counted_tree m t (s.steps ∷ s.units ∷ []) (omega arith)) room (evaluation.worked (take first f) (drop first f))

pub write_counted : (f : List ℕ) (room m : ℕ) → Counted m (form.write_outcome f room m)
unfolding form.write_outcome form.delivered_write
write_counted f room m = every (Counted m) (form.delivered_write m) (counted_refused m) (λ t s. counted_tree m t (s.units ∷ []) (omega arith)) room (read_form f 0)

-- ---- the longest line

-- a line is short where that of an answer is
pub with_most : (ok : List ℕ → List ℕ → List ℕ) (o : Outcome) → ((bytes : List ℕ) (tag : Tag) (ns : List ℕ) → o ≡ answered bytes tag ns → length (ok bytes ns) ≤ line_most) → length (line_with ok o) ≤ line_most
unfolding line_with
with_most ok (answered bytes tag ns) h = h bytes tag ns refl
with_most ok (refused n) h = no_most (number_of n)

ok_most : (m : ℕ) (bytes ns : List ℕ) → m ≤ out_most → length bytes ≤ m → length ns ≤ 3 → length (ok_line bytes ns) ≤ line_most
unfolding ok_line
ok_most m bytes ns h b n =
    let a : length (ok_line bytes ns) ≡ length (ok_tree bytes) + length (numbers_line ns) = length-append (ok_tree bytes) (numbers_line ns) in
    let t : length (ok_tree bytes) ≡ 2 * length bytes + 3 = tree_length bytes in
    let e : length (numbers_line ns) ≤ 21 * length ns + 1 = end_most ns in
    omega arith

pub line_short : (m : ℕ) (o : Outcome) → m ≤ out_most → Counted m o → length (line_of o) ≤ line_most
unfolding line_of Counted
line_short m o h c = with_most (λ bytes ns. ok_line bytes (drop 1 ns)) o (λ bytes tag ns e. go bytes tag ns (rw e at c))
  where
    go : (bytes : List ℕ) (tag : Tag) (ns : List ℕ) → Counted m (answered bytes tag ns) → length (ok_line bytes (drop 1 ns)) ≤ line_most
    go bytes tag ns d = ok_most m bytes (drop 1 ns) h d.0 d.1.1

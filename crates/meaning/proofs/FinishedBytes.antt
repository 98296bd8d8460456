-- Demand 3 on bytes: what an unmarked answer's bytes read as has the values of what the form reads as. Assumes nothing.
use Prim.Native.Nat.{ℕ}
use mathlib.Core.Path.{◌≡◌, sym, ◌∙◌, subst, ap}
use mathlib.Core.List.{List}
use mathlib.Core.Bool.{Bool, false}
use Rattle.meaning.specs.Tree.{Tree}
use Rattle.meaning.specs.Limits.{nesting_limit}
use Rattle.meaning.specs.Meter.{done, Spent}
use Rattle.meaning.specs.Form.{Reading, read_form, ReadsAs}
use Rattle.meaning.specs.Evaluate.{Gives}
use Rattle.meaning.specs.Driver.{optimize_sexp}
use Rattle.meaning.specs.Run.{finished, after_reading, run}
use Rattle.meaning.proofs.WriteRead.{one_tree}
use Rattle.meaning.proofs.NarrowDriver.{worked_reads_back}
use Rattle.meaning.proofs.RunLaws.{Answer, run_inv, worked_read, worked_inv}

-- demand 3 on trees
abbrev pub KeepsValues : Type 0
KeepsValues = (d : ℕ) (t u : Tree) (s s' : Spent) → optimize_sexp d t s ≡ done u s' → s'.mark ≡ false → (env v : Tree) → Gives t env v → Gives u env v

-- an answer's bytes read as the finished tree
answer_reads : {form bytes : List ℕ} {out-length passes units : ℕ} {mark : Bool} (a : Answer form out-length bytes passes units mark) → ReadsAs bytes a.tree
answer_reads {form} a = subst (λ bs. ReadsAs bs a.tree) (sym a.written) (worked_reads_back form a.tree a.spent a.finished)

-- Where a run answers, its form and its answer's bytes read as trees (so that the next law always speaks of some).
pub trees_of_answer : (form : List ℕ) (room-length out-length : ℕ) (bytes : List ℕ) (passes units : ℕ) (mark : Bool) → run form room-length out-length ≡ finished bytes passes units mark
    → (t : Tree) × (r : Reading) × (u : Tree) × (read_form form 0 ≡ done t r) × ReadsAs bytes u
trees_of_answer form room-length out-length bytes passes units mark h =
    let a = run_inv form room-length out-length bytes passes units mark h in
    let (t, r, e, _) = worked_inv form a.tree a.spent a.finished in
    (t, r, a.tree, e, answer_reads a)

-- Where a run answers with mark 0, and the form reads as t and the answer's bytes as u: every value that t has in an environment, u has too.
pub finished_bytes : KeepsValues → (form : List ℕ) (room-length out-length : ℕ) (bytes : List ℕ) (passes units : ℕ) (t u env v : Tree)
    → run form room-length out-length ≡ finished bytes passes units false → (r : Reading) → read_form form 0 ≡ done t r → ReadsAs bytes u → Gives t env v → Gives u env v
finished_bytes keeps form room-length out-length bytes passes units t u env v h r e reads gives =
    let a = run_inv form room-length out-length bytes passes units false h in
    let same : a.tree ≡ u = one_tree bytes a.tree u (answer_reads a) reads in
    let unmarked : a.spent.mark ≡ false = ap (λ (s : Spent). s.mark) a.counted in
    subst (λ w. Gives w env v) same
    (keeps nesting_limit t a.tree (after_reading r) a.spent (sym (worked_read form t r e) ∙ a.finished) unmarked env v gives)

-- The three demands, in words and as theorems about the definitions. Assumes nothing.
--
-- What a run is: `run form room-length out-length` (specs/Run.antt), the form's bytes and how much room and output are lent, to
-- `finished bytes passes units mark` or `refused n`; `out_after` and `room_after` (specs/Outcome.antt) say what every lent byte holds then.
use Prim.Native.Nat.{ℕ, ◌≤◌}
use mathlib.Core.Path.{◌≡◌, refl, subst}
use mathlib.Core.List.{List, []}
use mathlib.Core.Logic.{◌↔◌}
use mathlib.Core.Bool.{Bool, false}
use lib.ListN.{length}
use native.Mathlib.Omega.{arith}
use Rattle.refusals.specs.declared.Refusal.{Refusal}
use Rattle.refusals.specs.Numbers.{number_of}
use Rattle.refusals.proofs.Only.{number_least}
use Rattle.meaning.specs.Tree.{Tree}
use Rattle.meaning.specs.Limits.{form_limit, unit_limit}
use Rattle.meaning.specs.Meter.{done, Spent, Steps}
use Rattle.meaning.specs.Form.{Reading, read_form, write, ReadsAs, Narrow, tree_cost, IsBytes, Shortest}
use Rattle.meaning.specs.Strict.{strict_form}
use Rattle.meaning.specs.Evaluate.{Gives, evaluate}
use Rattle.meaning.specs.Driver.{optimize_sexp}
use Rattle.meaning.specs.Outcome.{refused, out_after}
use Rattle.meaning.specs.Run.{finished, run}
use Rattle.meaning.proofs.Atoms.{narrow_writable}
use Rattle.meaning.proofs.WriteRead.{form_write}
use Rattle.meaning.proofs.Unless.{Unless}
use Rattle.meaning.proofs.Shortest.{written_shortest, read_again, back_exactly}
use Rattle.meaning.proofs.StrictLaws.{Four, form_kept}
use Rattle.meaning.proofs.Lent.{InTable}
use Rattle.meaning.proofs.RunLaws.{answer_fits, run_table}
use Rattle.meaning.proofs.BoundedEval.{evaluated}
use Rattle.meaning.proofs.Finished.{finished as keeps-values}
use Rattle.meaning.proofs.FinishedBytes.{finished_bytes}

-- ---- Demand 1. "Every byte string is answered or refused with the number that document 01 gives; every run ends; a refusal writes nothing."

-- `run` is a function, so there is one outcome for every byte string and every lent length, and it ends. A refusal's number is one of 1 to 14.
pub demand_1_number : (form : List ℕ) (room-length out-length : ℕ) (n : Refusal) → run form room-length out-length ≡ refused n → (1 ≤ number_of n) × (number_of n ≤ 14)
unfolding InTable
demand_1_number form room-length out-length n e = (number_least n, subst InTable e (run_table form room-length out-length))

-- a refusal leaves the output as it came in
pub demand_1_silent : (n : Refusal) (out : List ℕ) → out_after (refused n) out ≡ out
unfolding out_after
demand_1_silent n out = refl

-- an answer fits into the output
pub demand_1_fits : (form : List ℕ) (room-length out-length : ℕ) (bytes : List ℕ) (passes units : ℕ) (mark : Bool)
    → run form room-length out-length ≡ finished bytes passes units mark → length bytes ≤ out-length
demand_1_fits = answer_fits

-- ---- Demand 2. "Writing and reading again gives the same tree, and the bytes return exactly when they were shortest." (That code equals these
-- definitions is each function's contract; that the definitions are the Rust's is compared by running: Table, Readings, oracle/check-definitions.)

-- the same tree, for the same units
pub demand_2_again : (bytes : List ℕ) (t : Tree) (s : Reading) → IsBytes bytes → read_form bytes 0 ≡ done t s → read_form (write t) 0 ≡ done t s
demand_2_again bytes t s b h = read_again bytes b t s 0 (omega arith) h

-- the bytes exactly when they were shortest
pub demand_2_back : (bytes : List ℕ) (t : Tree) (s : Reading) → IsBytes bytes → read_form bytes 0 ≡ done t s → (write t ≡ bytes) ↔ Shortest bytes
demand_2_back bytes t s b h = back_exactly bytes b t s h

-- "The writer still uses the shortest."
pub demand_2_shortest : (t : Tree) → Narrow t → Shortest (write t)
demand_2_shortest t h = written_shortest t (narrow_writable t h)

-- What was answered when only the shortest was taken keeps its answer; what was refused keeps its number, unless that was 4.
pub demand_2_kept : (bytes : List ℕ) (u : ℕ) → Unless Four (strict_form bytes u) (read_form bytes u)
demand_2_kept = form_kept

-- and every tree within the limits is read back from what is written of it
pub demand_2_forth : (t : Tree) → length (write t) ≤ form_limit → Narrow t → tree_cost t ≤ unit_limit
    → read_form (write t) 0 ≡ done t (record { left = []; units = tree_cost t })
demand_2_forth = form_write

-- where the bounded evaluator gives a value, the unbounded gives the same
pub demand_2_value : (e env v : Tree) (s t : Steps) → evaluate e env s ≡ done v t → Gives e env v
demand_2_value = evaluated

-- ---- Demand 3. "Where the answer has no mark, the finished tree gives every value that the source gives, in every environment."

-- on trees, at any nesting
pub demand_3 : (d : ℕ) (t u : Tree) (s s' : Spent) → optimize_sexp d t s ≡ done u s' → s'.mark ≡ false
    → (env v : Tree) → Gives t env v → Gives u env v
demand_3 = keeps-values

-- on bytes: the form reads as t, the answer's bytes read, without limits, as u
pub demand_3_bytes : (form : List ℕ) (room-length out-length : ℕ) (bytes : List ℕ) (passes units : ℕ) (t u env v : Tree)
    → run form room-length out-length ≡ finished bytes passes units false
    → (r : Reading) → read_form form 0 ≡ done t r → ReadsAs bytes u → Gives t env v → Gives u env v
demand_3_bytes = finished_bytes keeps-values

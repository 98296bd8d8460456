-- The three demands, in words and as theorems about what `optimise` promises. Assumes nothing.
--
-- `optimise(form, room, out)` asks nothing of its caller and ensures `Optimised form room out answer room' out'` (specs/Optimised.antt):
-- form, room and out are the lent bytes before, room' and out' after. The check proves that it ends on every input.
-- What the definitions are is in crates/meaning: `run`, `read_form`, `optimize_sexp`, `write`, `Gives`.
use Rattle.std.specs.Prelude.{Result, Ok, Err}
use Prim.Native.Nat.{ℕ, ◌<◌, ◌≤◌}
use mathlib.Core.Path.{◌≡◌, sym, ◌∙◌, ap, ap₂, subst}
use mathlib.Core.List.{List}
use mathlib.Core.Bool.{Bool, false}
use lib.ListN.{length, take, drop}
use Rattle.refusals.specs.declared.Refusal.{Refusal}
use Rattle.refusals.specs.declared.Refusal.TheVariants.{RoomSmall}
use Rattle.refusals.specs.Numbers.{number_of}
use Rattle.meaning.specs.Tree.{Tree}
use Rattle.meaning.specs.Limits.{room_least, nesting_limit}
use Rattle.meaning.specs.Meter.{done, Spent}
use Rattle.meaning.specs.Form.{Reading, read_form, write, ReadsAs}
use Rattle.meaning.specs.Evaluate.{Gives}
use Rattle.meaning.specs.Driver.{optimize_sexp}
use Rattle.meaning.specs.Outcome.{Outcome, out_after, zeroed, room_after, told}
use Rattle.meaning.specs.Run.{finished, after_reading, run}
use Rattle.meaning.proofs.Lent.{room_enough}
use Rattle.meaning.proofs.RunLaws.{run_inv, worked_inv, run_zeros}
use Rattle.meaning.proofs.FinishedBytes.{trees_of_answer}
use Rattle.meaning.proofs.Demands as meant
use Rattle.optimiser.specs.declared.Report.{Report}
use Rattle.optimiser.specs.Optimised.{says, Optimised}
use Rattle.optimiser.proofs.OnlyOne.{lossless, only_one}
use Rattle.optimiser.proofs.Answers.{answers, refuses}
use Rattle.optimiser.proofs.Bytes.{optimise_small}

module _ (form room out room' out' : List ℕ) where
  -- ---- Demand 1. "Every byte string is answered, or refused with a number from 1 to 14; every run ends; a refusal writes nothing."

  -- A refusal has such a number, and leaves the output as it came in.
  pub demand_1_refused : (n : Refusal) → Optimised form room out (Err n) room' out' → (1 ≤ number_of n) × (number_of n ≤ 14) × (out' ≡ out)
  unfolding out_after
  demand_1_refused n h =
      let (least, most) = meant.demand_1_number form (length room) (length out) n (refuses form room out room' out' n h) in
      (least, most, h.delivers.out ∙ ap (λ (o : Outcome). out_after o out) (refuses form room out room' out' n h))

  -- An answer fits into the output, and touches no byte past its length.
  pub demand_1_answered : (r : Report) → Optimised form room out (Ok r) room' out' → (r.length ≤ length out) × (drop r.length out' ≡ drop r.length out)
  demand_1_answered r h =
      let a = answers form room out room' out' r h in
      (subst (λ (l : ℕ). l ≤ length out) a.long (meant.demand_1_fits form (length room) (length out) a.bytes r.passes r.units r.mark a.ran), a.rest)

  -- A room of 65,536 bytes or more is all zero after every return; a smaller one is refused by number 1, and nothing is touched.
  pub demand_1_room : (a : Result Report Refusal) → Optimised form room out a room' out' → room_least ≤ length room → room' ≡ zeroed room
  unfolding run
  demand_1_room a h l = h.room ∙ ap (λ (o : Outcome). room_after o room) (room_enough (length room) _ l) ∙ (run_zeros form (length out)).so room

  pub demand_1_small : (a : Result Report Refusal) → Optimised form room out a room' out' → length room < room_least → (a ≡ Err RoomSmall) × (room' ≡ room) × (out' ≡ out)
  demand_1_small a h l = only_one form room out room' room out' out a (Err RoomSmall) h (optimise_small form room out l)

  -- ---- Demand 2. "The finished tree, and each failure, is the Rust's", as the definitions have it. (That the definitions are the Rust's is
  -- compared by running. Writing and reading again: crates/meaning/proofs/Demands.antt, and of the function `write` crates/form/proofs/Back.antt.)

  -- The whole outcome is the definition's: the answer, the output and the room.
  pub demand_2_exact : (a : Result Report Refusal) (o : Outcome) → run form (length room) (length out) ≡ o → Optimised form room out a room' out'
      → (says a ≡ told o) × (out' ≡ out_after o out) × (room' ≡ room_after o room)
  demand_2_exact a o e h = (h.delivers.answer ∙ ap told e, h.delivers.out ∙ ap (λ (x : Outcome). out_after x out) e, h.room ∙ ap (λ (x : Outcome). room_after x room) e)

  -- In an answer the form reads as a tree t, `optimize_sexp` makes u of it, what is written is u, and the report says what that took.
  pub demand_2_answered : (r : Report) → Optimised form room out (Ok r) room' out'
      → (t u : Tree) × (x : Reading) × (read_form form 0 ≡ done t x)
      × (optimize_sexp nesting_limit t (after_reading x) ≡ done u (record { units = r.units; passes = r.passes; mark = r.mark }))
      × (take r.length out' ≡ write u)
  demand_2_answered r h =
      let a = answers form room out room' out' r h in
      let i = run_inv form (length room) (length out) a.bytes r.passes r.units r.mark a.ran in
      let (t, x, e, d) = worked_inv form i.tree i.spent i.finished in
      (t, i.tree, x, e, d ∙ ap (λ (s : Spent). done i.tree s) i.counted, a.front ∙ i.written)

  -- No other outcome meets the promise.
  pub demand_2_only_one : (room₂ out₂ : List ℕ) (a b : Result Report Refusal) → Optimised form room out a room' out' → Optimised form room out b room₂ out₂
      → (a ≡ b) × (room' ≡ room₂) × (out' ≡ out₂)
  demand_2_only_one room₂ out₂ a b h k = only_one form room out room' room₂ out' out₂ a b h k

  -- What the room and the output held before does not matter: their lengths alone do.
  pub demand_2_held : (room₁ out₁ room₁' out₁' : List ℕ) (a b : Result Report Refusal) → length room ≡ length room₁ → length out ≡ length out₁
      → Optimised form room out a room' out' → Optimised form room₁ out₁ b room₁' out₁' → a ≡ b
  demand_2_held room₁ out₁ room₁' out₁' a b r o h k =
      lossless.same a b (h.delivers.answer ∙ ap₂ (λ (m n : ℕ). told (run form m n)) r o ∙ sym k.delivers.answer)

  -- ---- Demand 3. "Where the answer carries no mark, the finished tree gives every value that the source gives, in every environment."

  -- the form reads as t, the bytes that the answer wrote read, without limits, as u
  pub demand_3 : (r : Report) → Optimised form room out (Ok r) room' out' → r.mark ≡ false
      → (t u : Tree) (x : Reading) → read_form form 0 ≡ done t x → ReadsAs (take r.length out') u → (env v : Tree) → Gives t env v → Gives u env v
  demand_3 r h m t u x e reads env v gives =
      let a = answers form room out room' out' r h in
      let ran : run form (length room) (length out) ≡ finished a.bytes r.passes r.units false = a.ran ∙ ap (λ (b : Bool). finished a.bytes r.passes r.units b) m in
      meant.demand_3_bytes form (length room) (length out) a.bytes r.passes r.units t u env v ran x e (subst (λ (bs : List ℕ). ReadsAs bs u) a.front reads) gives

  -- and of every answer there are such t and u
  pub demand_3_trees : (r : Report) → Optimised form room out (Ok r) room' out'
      → (t u : Tree) × (x : Reading) × (read_form form 0 ≡ done t x) × ReadsAs (take r.length out') u
  demand_3_trees r h =
      let a = answers form room out room' out' r h in
      let (t, x, u, e, reads) = trees_of_answer form (length room) (length out) a.bytes r.passes r.units r.mark a.ran in
      (t, u, x, e, subst (λ (bs : List ℕ). ReadsAs bs u) (sym a.front) reads)

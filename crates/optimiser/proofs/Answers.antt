-- What an answer or a refusal of `optimise` says of the definition's run, and what the lent bytes then hold. Assumes nothing.
use Rattle.std.specs.Prelude.{Ok, Err}
use Prim.Native.Nat.{ℕ}
use mathlib.Core.Path.{◌≡◌, sym, ◌∙◌, ap}
use mathlib.Core.List.{List, [], ◌∷◌}
use lib.ListN.{length, take, drop}
use Rattle.refusals.specs.declared.Refusal.{Refusal}
use Rattle.meaning.specs.Outcome.{plain, answered, refused}
use Rattle.meaning.specs.Run.{mark_number, finished, run}
use Rattle.meaning.proofs.Lent as lent
use Rattle.meaning.proofs.RunLaws.{run_length}
use Rattle.optimiser.specs.declared.Report.{Report}
use Rattle.optimiser.specs.Optimised.{says, Optimised}

-- the run answered: its bytes stand at the front of the output, which is as it was from there on
pub record Answers (form room out : List ℕ) (r : Report) (out' : List ℕ) : Type 0 where
  pub bytes : List ℕ
  pub ran : run form (length room) (length out) ≡ finished bytes r.passes r.units r.mark
  pub long : length bytes ≡ r.length
  pub front : take r.length out' ≡ bytes
  pub rest : drop r.length out' ≡ drop r.length out

module _ (form room out room' out' : List ℕ) where
  pub answers : (r : Report) → Optimised form room out (Ok r) room' out' → Answers form room out r out'
  unfolding says
  answers r h =
      let a = lent.told_answer (run form (length room) (length out)) plain (r.length ∷ r.passes ∷ r.units ∷ mark_number r.mark ∷ []) out out' h.delivers.answer h.delivers.out in
      let l : length a.bytes ≡ r.length = run_length form (length room) (length out) a.bytes r.length _ a.is in
      record {
        bytes = a.bytes;
        ran = a.is ∙ ap (λ (n : ℕ). answered a.bytes plain (n ∷ r.passes ∷ r.units ∷ mark_number r.mark ∷ [])) (sym l);
        long = l;
        front = ap (λ (n : ℕ). take n out') (sym l) ∙ a.front;
        rest = ap (λ (n : ℕ). drop n out') (sym l) ∙ a.rest ∙ ap (λ (n : ℕ). drop n out) l;
      }

  pub refuses : (n : Refusal) → Optimised form room out (Err n) room' out' → run form (length room) (length out) ≡ refused n
  unfolding says
  refuses n h = lent.told_refusal (run form (length room) (length out)) n h.delivers.answer

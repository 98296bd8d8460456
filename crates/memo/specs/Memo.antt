-- What the memo is asked, and what it answers.
use Rattle.std.specs.Prelude.{Option, Some, None}
use Rattle.std.specs.Prelude.{ℕ, ◌<◌, ◌≤◌, ◌≡◌, List, false}
use Rattle.meaning.specs.Tree.{equal_to}
use Rattle.meaning.specs.Limits.{height_at}
use Rattle.meaning.specs.Meter.{done}
use Rattle.meaning.specs.Driver.{optimize_sexp}
use Rattle.meaning.proofs.CostRun.{Fits}
use Rattle.store.specs.Nodes.{tree_at}
use Rattle.store.specs.Store.{Ready}
use Rattle.store.specs.Makers.{Grown}
use Rattle.run_state.specs.declared.Work.{Work}
use Rattle.run_state.specs.declared.State.{State}
use Rattle.run_state.specs.declared.Notes.{Notes}
use Rattle.run_state.specs.Work.{spent_of, Did}
use Rattle.run_state.specs.State.{Valid}
use Rattle.memo.specs.Policy.{memo_says, unless_noted, row_after, used_after}

-- ---- a lookup

-- a hit is the call: its result, its charges, its mark
pub record Hit (f s : List ℕ) (w w' : Work) (n nest : ℕ) : Type 0 where
  pub did : Did f s s w (tree_at f s n) (optimize_sexp (height_at nest) (tree_at f s n) (spent_of w)) w'
  pub grown : Grown f s s w.ch w'.ch
  pub mark : w'.mark ≡ w.mark

unfoldable pub AnswerOk : List ℕ → List ℕ → Work → ℕ → ℕ → Option Work → Type 0
AnswerOk f s w n nest (Some w') = Hit f s w w' n nest
AnswerOk f s w n nest None = Unit

-- what `lookup` answers: by the policy, and rightly
pub record Looked (f s : List ℕ) (row : List (List ℕ)) (w : Work) (used n nest : ℕ) (notes : Notes) (a : Option Work) : Type 0 where
  pub right : AnswerOk f s w n nest a
  pub says : a ≡ unless_noted notes (memo_says f s row w used n nest)

-- ---- storing

-- a call on n at nesting `nest`, which began with b spent, ended at r with a spent
pub record Ended (f s : List ℕ) (b a : Work) (n r nest : ℕ) : Type 0 where
  pub fits : Fits (spent_of b)
  pub nests : nest ≤ 65
  pub expr : Ready f s a.ch n
  pub result : Ready f s a.ch r
  pub gives : optimize_sexp (height_at nest) (tree_at f s n) (spent_of b) ≡ done (tree_at f s r) (spent_of a)
  pub differs : (n ≡ r → ⊥) → equal_to (tree_at f s n) (tree_at f s r) ≡ false

-- what fits an entry's numbers
pub record Small (b a : Work) (n r nest : ℕ) : Type 0 where
  pub expr : n < 65536
  pub result : r < 65536
  pub passes : b.passes ≤ a.passes
  pub passes_most : a.passes < 65536
  pub units : b.ch.units ≤ a.ch.units
  pub units_most : a.ch.units ≤ 32768
  pub nests : nest ≤ 65

-- the state after storing: the same work, and a sound memo
pub record Kept (f s : List ℕ) (row : List (List ℕ)) (st q : State) : Type 0 where
  pub work : q.w ≡ st.w
  pub valid : Valid f s row q

-- what `store` did: by the policy, and rightly
pub record Stored (f s : List ℕ) (row row' : List (List ℕ)) (st : State) (b : Work) (n r nest : ℕ) (q : State) : Type 0 where
  pub kept : Kept f s row' st q
  pub filled : row' ≡ row_after f s row st b n r nest
  pub used : q.used ≡ used_after row st b

-- The entries that find looks at, what it finds and what lookup says of that: their needs, and that the answer is right. Assumes nothing.
use Rattle.std.specs.Prelude.{Option, None}
use mathlib.Core.Path.{◌≡◌, refl, sym, ◌∙◌}
use mathlib.Core.List.{List}
use mathlib.Core.Bool.{Bool, true, false, ◌&&◌}
use Prim.Native.Nat.{ℕ, zero, suc, ◌+◌, ◌-◌, ◌<◌, ◌≤◌}
use native.Mathlib.Omega.{arith}
use lib.Dec.{eqb, leb, ltb}
use borrow.Author.Tests.{ltb-true, lt-ltb, le-ltb, leb-true}
use Rattle.meaning.proofs.Tests.{on_bool, not_false, and_inv}
use Rattle.store.specs.Cells.{Room}
use Rattle.store.specs.Nodes.{tree_at, print_of}
use Rattle.store.specs.Store.{Ready}
use Rattle.store.proofs.Ready.{room}
use Rattle.run_state.specs.declared.Entry.{Entry}
use Rattle.run_state.specs.declared.Notes.{Notes}
use Rattle.run_state.specs.declared.Notes.TheVariants.{Nothing, Counts}
use Rattle.run_state.specs.declared.Work.{Work}
use Rattle.run_state.specs.State.{entry_at, Sounds}
use Rattle.run_state.proofs.Entries.{sound_at}
use Rattle.memo.specs.declared.Verdict.{Verdict}
use Rattle.memo.specs.Policy.{low_print, deep_limit, look_limit, alike_in, candidate, or_else, first_hit, hit_says, says_at, memo_says, unless_noted}
use Rattle.memo.specs.Memo.{AnswerOk, Looked}
use Rattle.memo.proofs.Comparing.{alike_right}
use Rattle.memo.proofs.Hits.{Matches, unknown, hit_right}

-- ---- find

module _ (f s : List ℕ) (w : Work) (used : ℕ) (row : List (List ℕ)) (v : Sounds f s w.ch w.mark used row) (i : ℕ) (l : i < used) (e : Entry) (ee : e ≡ entry_at row i) where
  pub entry_ready : Ready f s w.ch e.expr
  entry_ready = rw ee (sound_at v i l).expr

  pub entry_room : (x : ℕ) → x ≡ e.expr → Room s x
  entry_room x ex = rw ex (room f s w.ch e.expr entry_ready)

-- before the entry at i, with `left` looks left
pub record Searching (f s : List ℕ) (row : List (List ℕ)) (n nest used left i : ℕ) : Type 0 where
  pub within : i ≤ used
  pub rest : first_hit f s row n nest (used - i) left i ≡ first_hit f s row n nest used look_limit 0

module _ (f s : List ℕ) (row : List (List ℕ)) (n nest used : ℕ) where
  module _ (left i : ℕ) (g : Searching f s row n nest used left i) where
    pub found_none : used ≤ i → used ≡ first_hit f s row n nest used look_limit 0
    unfolding first_hit
    found_none l =
        let o : i ≤ used = g.within in
        let z : used - i ≡ 0 = omega arith in
        let y : used ≡ i = omega arith in
        y ∙ (rw z at g.rest)

    module _ (l : i < used) (e : Entry) (ee : e ≡ entry_at row i) (key : ℕ) (ek : key ≡ print_of (tree_at f s n)) (u : Bool) (eu : u ≡ candidate f s key nest e) where
      turn : first_hit f s row n nest (suc (used - (i + 1))) left i ≡ first_hit f s row n nest used look_limit 0
      turn = let z : used - i ≡ suc (used - (i + 1)) = omega arith in rw z at g.rest

      test : candidate f s (print_of (tree_at f s n)) nest (entry_at row i) ≡ u
      test = sym (eu ∙ rw (ek, ee))

      pub passed : u ≡ false → Searching f s row n nest used left (i + 1)
      unfolding first_hit
      passed q = record { within = omega arith; rest = sym (rw (test, q, first_hit)) ∙ turn }

      module _ (q : u ≡ true) (x : ℕ) (ex : x ≡ e.expr) (v : Verdict) (ev : v ≡ alike_in f s (suc deep_limit) left x n) where
        compared : or_else i v (λ k. first_hit f s row n nest (used - (i + 1)) k (i + 1)) ≡ first_hit f s row n nest used look_limit 0
        unfolding first_hit or_else
        compared = sym (rw (test, q, first_hit, ev, ex, ee)) ∙ turn

        pub found : v.same ≡ true → i ≡ first_hit f s row n nest used look_limit 0
        unfolding or_else
        found h = rw h at compared

        pub further : v.same ≡ false → Searching f s row n nest used v.left (i + 1)
        unfolding or_else
        further h = record { within = omega arith; rest = rw h at compared }

-- ---- what is found matches

second : (a b c : Bool) → (a && b && c) ≡ true → b ≡ true
second true b c e = (and_inv b c e).0
second false b c e = not_false e

module _ (f s : List ℕ) (row : List (List ℕ)) (n nest : ℕ) where
  matched : (i looks : ℕ) → candidate f s (print_of (tree_at f s n)) nest (entry_at row i) ≡ true → (alike_in f s (suc deep_limit) looks (entry_at row i).expr n).same ≡ true → Matches f s n nest (entry_at row i)
  unfolding candidate
  matched i looks c h = record {
    tree = alike_right f s (suc deep_limit) looks (entry_at row i).expr n h;
    height = leb-true ((entry_at row i).height + nest) 65 (second (eqb (entry_at row i).print (low_print (print_of (tree_at f s n)))) (leb ((entry_at row i).height + nest) 65) (eqb (print_of (tree_at f s (entry_at row i).expr)) (print_of (tree_at f s n))) c);
  }

  hit_matches : (k looks i j : ℕ) → first_hit f s row n nest k looks i ≡ j → j < i + k → Matches f s n nest (entry_at row j)
  unfolding first_hit or_else
  hit_matches zero looks i j e l = absurd (omega arith)
  hit_matches (suc k) looks i j e l = on_bool (candidate f s (print_of (tree_at f s n)) nest (entry_at row i))
      (λ y. on_bool (alike_in f s (suc deep_limit) looks (entry_at row i).expr n).same
      (λ x. let z : i ≡ j = rw (y, first_hit, x, or_else) at e in rw (← z) (matched i looks y x))
      (λ x. hit_matches k _ (i + 1) j (rw (y, first_hit, x, or_else) at e) (omega arith)))
      (λ y. hit_matches k looks (i + 1) j (rw (y, first_hit) at e) (omega arith))

-- ---- lookup

module _ (f s : List ℕ) (row : List (List ℕ)) (w : Work) (used n nest : ℕ) (r : Ready f s w.ch n) (v : Sounds f s w.ch w.mark used row) where
  -- what the memo says is right where every entry in use is sound
  pub says_right : AnswerOk f s w n nest (memo_says f s row w used n nest)
  unfolding memo_says says_at
  says_right = go (first_hit f s row n nest used look_limit 0) refl
    where
      go : (i : ℕ) → first_hit f s row n nest used look_limit 0 ≡ i → AnswerOk f s w n nest (says_at row w used i)
      go i e = on_bool (ltb i used)
          (λ y. let l = ltb-true i used y in rw y (hit_right f s w n nest (entry_at row i) (sound_at v i l) (hit_matches f s row n nest used look_limit 0 i e (omega arith)) r))
          (λ y. rw y (unknown f s w n nest))

  looked : (a : Option Work) → a ≡ memo_says f s row w used n nest → Looked f s row w used n nest Nothing a
  unfolding unless_noted
  looked a e = record { right = rw e says_right; says = e }

  -- it is not asked
  pub noting : (notes : Notes) → notes ≡ Counts → Looked f s row w used n nest notes None
  unfolding unless_noted
  noting notes e = rw e (record { right = unknown f s w n nest; says = refl })

  module _ (i : ℕ) (ei : i ≡ first_hit f s row n nest used look_limit 0) (notes : Notes) (silent : notes ≡ Nothing) where
    pub miss : i ≡ used → Looked f s row w used n nest notes None
    unfolding memo_says says_at
    miss e = rw silent (looked None (rw (← ei, le-ltb i used (omega arith))))

    pub hit : i < used → (e : Entry) → e ≡ entry_at row i → (a : Option Work) → a ≡ hit_says w e → Looked f s row w used n nest notes a
    unfolding memo_says says_at
    hit l e ee a ea = rw silent (looked a (rw (← ei, lt-ltb i used l, ea, ee)))

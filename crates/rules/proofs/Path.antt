-- Rule 6: what each call and each return needs. Assumes nothing.
use Rattle.refusals.specs.declared.Refusal.{Refusal}
use Rattle.std.specs.Prelude.{Result, Option as Got, Some, None}
use Prim.Native.Nat.{ℕ, ◌-◌, ◌≤◌, ◌<◌}
use native.Mathlib.Omega.{arith}
use mathlib.Core.Path.{◌≡◌, refl, sym, ◌∙◌, ap}
use mathlib.Core.List.{List, []}
use mathlib.Core.Bool.{◌||◌}
use mathlib.Core.Option.{some}
use lib.ListN.{length, take, drop, length-take, length-drop}
use lib.Seq.{take_all}
use borrow.Author.Tests.{le-leb, lt-leb}
use Rattle.refusals.specs.declared.Refusal.TheVariants.{PathLong}
use Rattle.meaning.specs.Tree.{atom}
use Rattle.meaning.specs.Limits.{path_limit, atom_cost}
use Rattle.meaning.specs.Number.{node_path_index, compose_paths, bytes_of}
use Rattle.meaning.specs.Meter.{stop, Spent, ◌>>◌, give, charge, mark_if}
use Rattle.meaning.specs.Match as meaning
use Rattle.meaning.specs.Rules.{atom_name, atom_pattern, path_to, longer, path_optimizer}
use Rattle.meaning.specs.Rules.{misread as Rules·misread}
use Rattle.meaning.proofs.MeterLaws.{seq_at}
use Rattle.meaning.proofs.RuleDiffers.{Unmatched, path_first, path_second, path_differs}
use Rattle.store.specs.declared.Cell.{Cell}
use Rattle.store.specs.declared.Cell.TheVariants.{Pair, Atom}
use Rattle.store.specs.declared.Charges.{Charges}
use Rattle.store.specs.declared.Made.{Made}
use Rattle.store.specs.Cells.{Room, cell_at, bytes_at}
use Rattle.store.specs.Nodes.{tree_at}
use Rattle.store.specs.Store.{Held, Ready}
use Rattle.store.specs.Makers.{Grown, MadeOk}
use Rattle.store.proofs.Ready.{room, grown_none, grown_ready, grown_tree, look_pair, look_atom}
use Rattle.paths.specs.declared.path_rule.Lengthened.{Lengthened}
use Rattle.paths.specs.Lengthens.{Lengthens}
use Rattle.paths.proofs.ShortestLaws.{held_len}
use Rattle.pattern.specs.declared.Bindings.{Bindings}
use Rattle.pattern.specs.declared.Match.{Match}
use Rattle.pattern.specs.declared.Match.TheVariants.{Matched, NoMatch, TooManyNames}
use Rattle.pattern.specs.Bound.{bindings_at, Named, MatchOk, got_at, GotIn, GotOk}
use Rattle.patterns.specs.declared.Patterns.{Patterns}
use Rattle.patterns.specs.Patterns.{Patterned}
use Rattle.patterns.proofs.Laws.{patterned_grown}
use Rattle.run_state.specs.declared.Outcome.TheVariants.{Same, Stopped}
use Rattle.run_state.specs.declared.Work.{Work}
use Rattle.run_state.specs.Work.{spent_of, with_last, marked_work, work_made, Did}
use Rattle.rules.specs.Rule.{PathAsks, LongerAsks}
use Rattle.run_state.proofs.Does.{did_same, did_stopped, did_after}
use Rattle.run_state.proofs.Charged.{did_made}
use Rattle.rules.proofs.Found.{match_bindings, match_none, match_many, at_pattern}

-- ---- the atom

pub path_room : (f s : List ℕ) (c : Charges) (a : ℕ) → Named f s c a → Room s a
path_room f s c a h = room f s c a h.ready

-- ---- the longer path

-- the last bytes of 65, as the code lends them
abbrev pub last_bytes : Lengthened → List ℕ
last_bytes l = take (65 - (65 - l.path.len)) (drop (65 - l.path.len) l.path.bytes)

module _ (b : List ℕ) (q : ℕ) (l : Lengthened) (h : Lengthens b q l) where
  -- too long
  long_stops : (x : Spent) → path_limit < l.path.len → path_to (bytes_of (compose_paths (node_path_index b) q)) (Rules·misread b) x ≡ stop PathLong x
  unfolding path_to
  long_stops x o = let e = lt-leb (length (bytes_of (compose_paths (node_path_index b) q))) path_limit (h.over o) in rw (e, path_to)

  module _ (o : l.path.len ≤ path_limit) where
    last_shown : last_bytes l ≡ bytes_of (compose_paths (node_path_index b) q)
    last_shown =
        let p = (h.fits o).path in
        let w : length l.path.bytes ≡ 65 = p.wide in
        let i : length (drop (65 - l.path.len) l.path.bytes) ≤ 65 - (65 - l.path.len) = simp length-drop (omega arith) in
        take_all (65 - (65 - l.path.len)) (drop (65 - l.path.len) l.path.bytes) i ∙ p.shown

    short_goes : (x : Spent) → path_to (bytes_of (compose_paths (node_path_index b) q)) (Rules·misread b) x
        ≡ (charge (atom_cost (bytes_of (compose_paths (node_path_index b) q))) >> give (atom (bytes_of (compose_paths (node_path_index b) q)))) (record { units = x.units; passes = x.passes; mark = x.mark || Rules·misread b })
    unfolding path_to mark_if
    short_goes x =
        let k : length (bytes_of (compose_paths (node_path_index b) q)) ≤ path_limit = rw (← held_len (h.fits o).path) o in
        let e = le-leb (length (bytes_of (compose_paths (node_path_index b) q))) path_limit k in
        rw (e, path_to) (seq_at (mark_if (Rules·misread b)) (charge (atom_cost (bytes_of (compose_paths (node_path_index b) q))) >> give (atom (bytes_of (compose_paths (node_path_index b) q)))) x _ tt refl)

module _ (f s : List ℕ) (w r : Work) (n a k : ℕ) (z : List ℕ) (l : Lengthened) (h : Lengthens z k l) (e : z ≡ bytes_at f s a) (p : PathAsks f s w.ch n) where
  lengthened : Lengthens (bytes_at f s a) k l
  lengthened = rw e at h

  pub path_long : 64 < l.path.len → r ≡ with_last w (Stopped PathLong)
      → Did f s s w (tree_at f s n) (path_to (bytes_of (compose_paths (node_path_index (bytes_at f s a)) k)) (Rules·misread (bytes_at f s a)) (spent_of w)) r
  path_long o i = did_stopped f s s w r _ _ PathLong (spent_of w) i (long_stops (bytes_at f s a) k l lengthened (spent_of w) o)

  pub path_made : (s₁ : List ℕ) (m : Result Made Refusal) (v : Work) → MadeOk f s s₁ w.ch (atom_cost (last_bytes l)) (atom (last_bytes l)) m → l.path.len ≤ 64 → v ≡ marked_work w l.misread → r ≡ work_made v m
      → Did f s s₁ w (tree_at f s n) (path_to (bytes_of (compose_paths (node_path_index (bytes_at f s a)) k)) (Rules·misread (bytes_at f s a)) (spent_of w)) r
  path_made s₁ m v b o ev er =
      let y : last_bytes l ≡ bytes_of (compose_paths (node_path_index (bytes_at f s a)) k) = last_shown (bytes_at f s a) k l lengthened o in
      let b' : MadeOk f s s₁ w.ch (atom_cost (bytes_of (compose_paths (node_path_index (bytes_at f s a)) k))) (atom (bytes_of (compose_paths (node_path_index (bytes_at f s a)) k))) m = rw y at b in
      let x : v ≡ marked_work w (Rules·misread (bytes_at f s a)) = ev ∙ ap (marked_work w) (lengthened.fits o).misread in
      did_made f s s s₁ w (marked_work w (Rules·misread (bytes_at f s a))) r w.ch (tree_at f s n) (atom (bytes_of (compose_paths (node_path_index (bytes_at f s a)) k))) _ m _
      (grown_none f s w.ch p.ready.held) b' (short_goes (bytes_at f s a) k l lengthened o (spent_of w)) (p.other _) (er ∙ ap (λ u. work_made u m) x)

pub path_held : (f s : List ℕ) (c : Charges) (n : ℕ) → PathAsks f s c n → Held f s c
path_held f s c n p = p.ready.held

pub path_wide : (z : List ℕ) (k : ℕ) (l : Lengthened) → Lengthens z k l → l.path.len ≤ 64 → 65 ≤ length l.path.bytes
path_wide z k l h o = let w : length l.path.bytes ≡ 65 = (h.fits o).path.wide in omega arith

pub path_few : (l : Lengthened) → l.path.len ≤ 64 → length (last_bytes l) ≤ 256
path_few l o = simp length-take (omega arith)

-- ---- what the name is bound to

module _ (f s : List ℕ) (w r : Work) (n k : ℕ) (g : Got ℕ) (h : LongerAsks f s w.ch n g) where
  pub longer_none : g ≡ None → r ≡ with_last w Same → Did f s s w (tree_at f s n) (longer (tree_at f s n) (got_at f s g) k (spent_of w)) r
  unfolding longer got_at give
  longer_none e i = did_same f s s w r _ _ i (grown_none f s w.ch h.ready.held) (rw e)

  module _ (a : ℕ) (e : g ≡ Some a) where
    pub longer_ready : Ready f s w.ch a
    unfolding GotIn
    longer_ready = rw e at h.found

    is_found : got_at f s g ≡ some (tree_at f s a)
    unfolding got_at
    is_found = rw e

    pub longer_room : Room s a
    longer_room = room f s w.ch a longer_ready

    pub longer_asks : PathAsks f s w.ch n
    longer_asks = record { ready = h.ready; other = λ bs. h.other (tree_at f s a) bs is_found }

    module _ (q : Cell) (eq : q ≡ cell_at s a) where
      pub longer_pair : (x y : ℕ) → q ≡ Pair x y → r ≡ with_last w Same → Did f s s w (tree_at f s n) (longer (tree_at f s n) (got_at f s g) k (spent_of w)) r
      unfolding longer give
      longer_pair x y i j = did_same f s s w r _ _ j (grown_none f s w.ch h.ready.held) (rw (is_found, look_pair f s w.ch a x y q i eq))

      pub longer_named : q ≡ Atom → Named f s w.ch a
      longer_named i = record { ready = longer_ready; is_atom = sym eq ∙ i }

      pub longer_atom : (s₁ : List ℕ) → Did f s s₁ w (tree_at f s n) (path_to (bytes_of (compose_paths (node_path_index (bytes_at f s a)) k)) (Rules·misread (bytes_at f s a)) (spent_of w)) r → q ≡ Atom
          → Did f s s₁ w (tree_at f s n) (longer (tree_at f s n) (got_at f s g) k (spent_of w)) r
      unfolding longer
      longer_atom s₁ d i = rw (is_found, look_atom f s a q eq i) d

-- ---- the two patterns

-- where the pattern for o bound a name in n, no path is what n stands for
module _ (f s s₁ : List ℕ) (c : Charges) (n o : ℕ) (g : Got ℕ) (gr : Grown f s s₁ c c) (found : GotIn f s₁ c g) (is : got_at f s₁ g ≡ meaning.got atom_name (meaning.match_sexp (atom_pattern o) (tree_at f s n) [])) (r : Ready f s c n) where
  asks : LongerAsks f s₁ c n g
  asks = record {
    ready = grown_ready gr r;
    found = found;
    other = λ t bs e. rw (grown_tree gr r) (path_differs o (tree_at f s n) t bs (sym is ∙ e));
  }

module _ (f s s₁ : List ℕ) (w : Work) (n k : ℕ) (p : Patterns) (g : Got ℕ) (h : GotOk f s s₁ w.ch g (meaning.got atom_name (meaning.match_sexp (tree_at f s p.rest_atom) (tree_at f s n) []))) (ready : Ready f s w.ch n) (patterned : Patterned f s w.ch p) where
  rest_is : got_at f s₁ g ≡ meaning.got atom_name (meaning.match_sexp (atom_pattern 6) (tree_at f s n) [])
  rest_is = h.answer ∙ ap (meaning.got atom_name) (at_pattern n patterned.rest_atom)

  pub rest_asks : LongerAsks f s₁ w.ch n g
  rest_asks = asks f s s₁ w.ch n 6 g h.grown h.found rest_is ready

  pub rest_goes : (s₂ : List ℕ) (r : Work) → Did f s₁ s₂ w (tree_at f s₁ n) (longer (tree_at f s₁ n) (got_at f s₁ g) k (spent_of w)) r
      → Did f s s₂ w (tree_at f s n) (longer (tree_at f s n) (meaning.got atom_name (meaning.match_sexp (atom_pattern 6) (tree_at f s n) [])) k (spent_of w)) r
  rest_goes s₂ r d = did_after f s s₁ s₂ w _ _ h.grown r (rw (rest_is, grown_tree h.grown ready) at d)

module _ (f s s₁ : List ℕ) (w : Work) (n : ℕ) (p : Patterns) (m : Match) (h : MatchOk f s s₁ w.ch m (meaning.match_sexp (tree_at f s p.first_atom) (tree_at f s n) [])) (ready : Ready f s w.ch n) (patterned : Patterned f s w.ch p) where
  first_is : meaning.match_sexp (tree_at f s p.first_atom) (tree_at f s n) [] ≡ meaning.match_sexp (atom_pattern 5) (tree_at f s n) []
  first_is = at_pattern n patterned.first_atom

  module _ (ks : Bindings) (e : m ≡ Matched ks) (g : Got ℕ) (i : GotOk f s₁ s₁ w.ch g (meaning.get atom_name (bindings_at f s₁ ks))) where
    bound : meaning.match_sexp (atom_pattern 5) (tree_at f s n) [] ≡ meaning.matched (bindings_at f s₁ ks)
    bound = sym first_is ∙ match_bindings f s s₁ w.ch m _ h ks e

    name_is : got_at f s₁ g ≡ meaning.got atom_name (meaning.match_sexp (atom_pattern 5) (tree_at f s n) [])
    unfolding meaning.got
    name_is = i.answer ∙ ap (meaning.got atom_name) (sym bound)

    pub first_asks : LongerAsks f s₁ w.ch n g
    first_asks = asks f s s₁ w.ch n 5 g h.grown i.found name_is ready

    pub first_goes : (s₂ : List ℕ) (r : Work) → Did f s₁ s₂ w (tree_at f s₁ n) (longer (tree_at f s₁ n) (got_at f s₁ g) 2 (spent_of w)) r → Did f s s₂ w (tree_at f s n) (path_optimizer (tree_at f s n) (spent_of w)) r
    unfolding meaning.got
    first_goes s₂ r d =
        let z : path_optimizer (tree_at f s n) (spent_of w) ≡ longer (tree_at f s n) (got_at f s₁ g) 2 (spent_of w) = path_first (tree_at f s n) (bindings_at f s₁ ks) bound (spent_of w) ∙ ap (λ o. longer (tree_at f s n) o 2 (spent_of w)) (sym i.answer) in
        rw z (did_after f s s₁ s₂ w _ _ h.grown r (rw (grown_tree h.grown ready) at d))

  pub second_ready : Ready f s₁ w.ch n
  second_ready = grown_ready h.grown ready

  pub second_patterned : Patterned f s₁ w.ch p
  second_patterned = patterned_grown h.grown patterned

  second : Unmatched (meaning.match_sexp (tree_at f s p.first_atom) (tree_at f s n) []) → (s₂ : List ℕ) (r : Work)
      → Did f s₁ s₂ w (tree_at f s₁ n) (longer (tree_at f s₁ n) (meaning.got atom_name (meaning.match_sexp (atom_pattern 6) (tree_at f s₁ n) [])) 3 (spent_of w)) r
      → Did f s s₂ w (tree_at f s n) (path_optimizer (tree_at f s n) (spent_of w)) r
  second u s₂ r d = rw (path_second (tree_at f s n) _ (sym first_is) u (spent_of w)) (did_after f s s₁ s₂ w _ _ h.grown r (rw (grown_tree h.grown ready) at d))

  pub second_none : (s₂ : List ℕ) (r : Work) → Did f s₁ s₂ w (tree_at f s₁ n) (longer (tree_at f s₁ n) (meaning.got atom_name (meaning.match_sexp (atom_pattern 6) (tree_at f s₁ n) [])) 3 (spent_of w)) r → m ≡ NoMatch
      → Did f s s₂ w (tree_at f s n) (path_optimizer (tree_at f s n) (spent_of w)) r
  second_none s₂ r d e = second (match_none f s s₁ w.ch m _ h e) s₂ r d

  pub second_many : (s₂ : List ℕ) (r : Work) → Did f s₁ s₂ w (tree_at f s₁ n) (longer (tree_at f s₁ n) (meaning.got atom_name (meaning.match_sexp (atom_pattern 6) (tree_at f s₁ n) [])) 3 (spent_of w)) r → m ≡ TooManyNames
      → Did f s s₂ w (tree_at f s n) (path_optimizer (tree_at f s n) (spent_of w)) r
  second_many s₂ r d e = second (match_many f s s₁ w.ch m _ h e) s₂ r d

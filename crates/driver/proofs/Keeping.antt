-- The memo in the driver's cycle: every entry stays valid, and what ended is stored. Assumes nothing.
use Rattle.std.specs.Prelude.{Option as Perhaps, Some}
use mathlib.Core.Path.{◌≡◌, refl, sym, ◌∙◌, ap, subst}
use mathlib.Core.List.{List}
use mathlib.Core.Bool.{Bool, true, false, ◌||◌}
use mathlib.Core.Option.{Option, none, some}
use Prim.Native.Nat.{ℕ, zero, suc, ◌+◌, ◌<◌}
use native.Mathlib.Omega.{arith}
use lib.ListN.{get_or}
use lib.Dec.{leb}
use Rattle.refusals.specs.declared.Refusal.{Refusal}
use Rattle.meaning.specs.Tree.{Tree, pair}
use Rattle.meaning.specs.Limits.{unit_limit, pair_cost, height_at}
use Rattle.meaning.specs.Meter.{Out, done, stop, Spent, charge, give, mark_if, ◌>>◌, ◌>>=◌}
use Rattle.meaning.specs.Driver.{optimize_sexp}
use Rattle.meaning.proofs.Tests.{on_bool}
use Rattle.meaning.proofs.CostRun.{steady_pass}
use Rattle.meaning.proofs.MemoMark.{Marked, still_marked}
use Rattle.meaning.proofs.Operands.{before, join, ending}
use Rattle.store.specs.declared.Charges.{Charges}
use Rattle.store.specs.Nodes.{tree_at}
use Rattle.store.specs.Makers.{Grown, Answered}
use Rattle.store.proofs.Ready.{grown_none, grown_ready, grown_tree}
use Rattle.patterns.specs.declared.Patterns.{Patterns}
use Rattle.run_state.specs.declared.Outcome.{Outcome}
use Rattle.run_state.specs.declared.Outcome.TheVariants.{Same, Changed, Stopped}
use Rattle.run_state.specs.declared.Work.{Work}
use Rattle.run_state.specs.Work.{spent_of, with_last, Says, Did}
use Rattle.run_state.proofs.Does.{says_same, says_changed}
use Rattle.driver_parts.specs.declared.Element.{Element}
use Rattle.driver_parts.specs.Turns.{again, optimizer, one_turn, Fine, kept, KeptBody, KeptList, Started, EndsAt, Begins, Begun, outcome_of}
use Rattle.driver_parts.specs.Walk.{wrap, Walks, Walked, PutBefore, Became}
use Rattle.driver_parts.proofs.Kept.{fine_fits}
use Rattle.driver_parts.proofs.Numbers.{rule_marks}
use Rattle.driver_parts.proofs.Looping.{Looping, loop_ends}
use Rattle.run_state.specs.declared.State.{State}
use Rattle.run_state.specs.State.{Sounds, Valid, UnlessStopped, Still}
use Rattle.memo.specs.Memo.{Hit, AnswerOk, Ended, Kept}
use Rattle.run_state.proofs.Entries.{sounds_grown, valid_still, still_stopped, valid_same, valid_changed}

-- a state whose work is now q
abbrev with_work : State → Work → State
with_work st q = record { w = q; used = st.used }

-- ---- nothing was worked

module _ (f s : List ℕ) (row : List (List ℕ)) (st : State) (q : Work) where
  pub stops : (w : Work) (r : Refusal) → q ≡ with_last w (Stopped r) → Still f s row (record { w = q; used = st.used })
  stops w r e = still_stopped f s row (with_work st q) r (ap (λ (v : Work). v.last) e)

  valid_with : (o : Outcome) → q ≡ with_last st.w o → Valid f s row st → Valid f s row (with_work st q)
  valid_with o e v = rw e v

  pub said : (o : Outcome) → q ≡ with_last st.w o → Valid f s row st → Still f s row (record { w = q; used = st.used })
  said o e v = valid_still f s row (with_work st q) (valid_with o e v)

pub valid_answered : (f s t : List ℕ) (row : List (List ℕ)) (c : Charges) (m : Bool) (used : ℕ) (a b : Bool) → Answered f s t c a b → Sounds f s c m used row → Sounds f t c m used row
valid_answered f s t row c m used a b d v = sounds_grown v d.grown (λ e. e)

pub said_grown : (f s t : List ℕ) (row : List (List ℕ)) (st : State) (q : Work) → Grown f s t st.w.ch st.w.ch → q ≡ with_last st.w Same → Valid f s row st → Still f t row (record { w = q; used = st.used })
said_grown f s t row st q g e v = said f t row st q Same e (sounds_grown v g (λ z. z))

-- ---- work was done

module _ (f s t : List ℕ) (row : List (List ℕ)) (st : State) (q : Work) (v : Valid f s row st) where
  by_did : (x : Tree) (def : Out Spent Tree) → ((u : Tree) → def ≡ done u (spent_of q) → st.w.mark ≡ true → q.mark ≡ true) → Did f s t st.w x def q → Still f t row (with_work st q)
  unfolding Did Says Still UnlessStopped
  by_did x def m d = go q.last d
    where
      go : (o : Outcome) → Says f s t st.w q x def o → UnlessStopped o (Valid f t row (with_work st q))
      go Same d = sounds_grown v d.grown (m x d.gives)
      go (Changed n) d = sounds_grown v d.grown (m (tree_at f t n) d.gives)
      go (Stopped r) d = tt

  by_walked : (def : Out Spent (Option Tree)) → ((u : Option Tree) → def ≡ done u (spent_of q) → st.w.mark ≡ true → q.mark ≡ true) → Walked f s t st.w def q → Still f t row (with_work st q)
  unfolding Walked Walks Still UnlessStopped
  by_walked def m d = go q.last d
    where
      go : (o : Outcome) → Walks f s t st.w q def o → UnlessStopped o (Valid f t row (with_work st q))
      go Same d = sounds_grown v d.grown (m none d.gives)
      go (Changed n) d = sounds_grown v d.grown (m (some (tree_at f t n)) d.gives)
      go (Stopped r) d = tt

-- a rule that did not call the driver, or any other: no mark is taken away
pub rule_still : (f s t : List ℕ) (row : List (List ℕ)) (st : State) (q : Work) (p : Patterns) (nest n rule : ℕ) → Did f s t st.w (tree_at f s n) (optimizer (again nest) rule (tree_at f s n) (spent_of st.w)) q
    → Fine f s st.w p n → Valid f s row st → Still f t row (record { w = q; used = st.used })
rule_still f s t row st q p nest n rule d h v =
    by_did f s t row st q v (tree_at f s n) _ (λ u e. rule_marks (height_at (nest + 1)) rule (tree_at f s n) u (spent_of st.w) (spent_of q) (fine_fits f s st.w p n h) e) d

-- rule 4's changed body is given back
kept_marks : (low : Bool) (y u : Tree) (s x : Spent) → kept low y s ≡ done u x → Marked s x
unfolding kept mark_if give ◌>>◌ ◌>>=◌
kept_marks low y u s x h e =
    let j : ◌≡◌ {A = Spent} (record { units = s.units; passes = s.passes; mark = s.mark || low }) x = cc in
    sym (ap (λ (z : Spent). z.mark) j) ∙ ap (◌|| low) e

module _ (f s t : List ℕ) (row : List (List ℕ)) (st : State) (q : Work) (x y : Tree) (low : Bool) (d : Did f s t st.w x (kept low y (spent_of st.w)) q) (v : Still f s row st) where
  kept_same : st.w.last ≡ Same → Still f t row (record { w = q; used = st.used })
  kept_same e = by_did f s t row st q (valid_same f s row st e v) x _ (λ u z. kept_marks low y u (spent_of st.w) (spent_of q) z) d

  kept_changed : (m : ℕ) → st.w.last ≡ Changed m → Still f t row (record { w = q; used = st.used })
  kept_changed m e = by_did f s t row st q (valid_changed f s row st m e v) x _ (λ u z. kept_marks low y u (spent_of st.w) (spent_of q) z) d

-- ---- the memo after a body was kept or not

module _ (f s t : List ℕ) (row : List (List ℕ)) (st : State) (q : Work) (r : ℕ) (low : Bool) (v : Still f s row st) where
  pub body_still : (new : ℕ) → KeptBody f s t st.w r new low q st.w.last → Still f t row (record { w = q; used = st.used })
  unfolding KeptBody
  body_still new k = go st.w.last refl k
    where
      go : (o : Outcome) → st.w.last ≡ o → KeptBody f s t st.w r new low q o → Still f t row (record { w = q; used = st.used })
      go Same e d = kept_same f s t row st q (tree_at f s r) (tree_at f s new) low d v e
      go (Changed m) e d = kept_changed f s t row st q (tree_at f s r) (tree_at f s m) low d v m e
      go (Stopped u) e z = still_stopped f t row (record { w = q; used = st.used }) u (ap (λ (y : Work). y.last) z.work ∙ e)

  pub list_still : KeptList f s t st.w r low q st.w.last → Still f t row (record { w = q; used = st.used })
  unfolding KeptList
  list_still k = go st.w.last refl k
    where
      go : (o : Outcome) → st.w.last ≡ o → KeptList f s t st.w r low q o → Still f t row (record { w = q; used = st.used })
      go Same e z = rw (z.work, z.room) v
      go (Changed m) e d = kept_changed f s t row st q (tree_at f s r) (tree_at f s m) low d v m e
      go (Stopped u) e z = still_stopped f t row (record { w = q; used = st.used }) u (ap (λ (y : Work). y.last) z.work ∙ e)

-- ---- a list was made: units only

abbrev mark_of : Out Spent (Option Tree) → Bool
mark_of (done a x) = x.mark
mark_of (stop n x) = x.mark

charge_mark : (c : ℕ) (a : Option Tree) (x : Spent) → mark_of ((charge c >> give a) x) ≡ x.mark
unfolding charge give ◌>>◌ ◌>>=◌
charge_mark c a x = on_bool (leb (x.units + c) unit_limit) (λ e. rw (e, charge, mark_of)) (λ e. rw (e, charge, mark_of))

join_mark : (u : Tree) (o : Out Spent (Option Tree)) → mark_of (join u o) ≡ mark_of o
unfolding join before give
join_mark u (done none x) = refl
join_mark u (done (some t) x) = charge_mark pair_cost (some (pair u t)) x
join_mark u (stop n x) = refl

wrap_mark : (f s got : List ℕ) (k : ℕ) (o : Out Spent (Option Tree)) → mark_of (wrap f s got k o) ≡ mark_of o
unfolding wrap
wrap_mark f s got zero o = refl
wrap_mark f s got (suc k) o = wrap_mark f s got k (join (tree_at f s (get_or got k 0)) o) ∙ join_mark (tree_at f s (get_or got k 0)) o

module _ (f s t : List ℕ) (row : List (List ℕ)) (st : State) (q : Work) (got : List ℕ) (k n : ℕ) (make : Bool) (d : Walked f s t st.w (wrap f s got k (done (ending make (tree_at f s n)) (spent_of st.w))) q) where
  pub built : Valid f s row st → Still f t row (record { w = q; used = st.used })
  built v =
      by_walked f s t row st q v _
      (λ u e m. sym (ap mark_of e) ∙ wrap_mark f s got k (done (ending make (tree_at f s n)) (spent_of st.w)) ∙ m) d

  built_changed : (m : ℕ) → st.w.last ≡ Changed m → Still f s row st → Still f t row (record { w = q; used = st.used })
  built_changed m e v = built (valid_changed f s row st m e v)

-- the first results were put before it, where it was made
pub put_still : (f s t : List ℕ) (row : List (List ℕ)) (st : State) (q : Work) (got : List ℕ) (k : ℕ) → PutBefore f s t st.w got k q st.w.last → Still f s row st → Still f t row (record { w = q; used = st.used })
unfolding PutBefore ending
put_still f s t row st q got k z v = go st.w.last refl z
  where
    go : (o : Outcome) → st.w.last ≡ o → PutBefore f s t st.w got k q o → Still f t row (with_work st q)
    go Same e z = rw (z.work, z.room) v
    go (Changed m) e z = built_changed f s t row st q got k m true z m e v
    go (Stopped u) e z = rw (z.work, z.room) v

-- an element that was not refused
pub element_valid : (f s : List ℕ) (row : List (List ℕ)) (st : State) (h : ℕ) (count flag : Bool) (z : Perhaps Element) (m : Element) → Became f s h count flag z st.w.last → z ≡ Some m → Still f s row st → Valid f s row st
unfolding Became
element_valid f s row st h count flag z m y e v = go st.w.last refl (subst (λ (a : Perhaps Element). Became f s h count flag a st.w.last) e y)
  where
    go : (o : Outcome) → st.w.last ≡ o → Became f s h count flag (Some m) o → Valid f s row st
    go Same i q = valid_same f s row st i v
    go (Changed n) i q = valid_changed f s row st n i v
    go (Stopped u) i q = absurd q

-- ---- turn

pub atom_still : (f s : List ℕ) (row : List (List ℕ)) (st : State) (b q : Work) (n m : ℕ) → Begun f s st.w n b → b.last ≡ Changed m → q ≡ with_last b Same → Valid f s row st → Still f s row (record { w = q; used = st.used })
unfolding Begun Begins
atom_still f s row st b q n m d e eq v =
    let a : EndsAt f s st.w b n m = subst (Begins f s st.w b n) e d in
    said f s row st q Same (eq ∙ ap (λ (y : Work). with_last y Same) a.work) v

-- ---- drive

-- a hit

module _ (f s : List ℕ) (st : State) (n nest : ℕ) (a : Perhaps Work) (k : AnswerOk f s st.w n nest a) (d : Work) (e : a ≡ Some d) where
  hit : Hit f s st.w d n nest
  unfolding AnswerOk
  hit = rw e at k

  pub hit_did : Did f s s st.w (tree_at f s n) (optimize_sexp (height_at nest) (tree_at f s n) (spent_of st.w)) d
  hit_did = hit.did

  pub hit_still : (row : List (List ℕ)) → Valid f s row st → Still f s row (record { w = d; used = st.used })
  hit_still row v = valid_still f s row (with_work st d) (sounds_grown v hit.grown (λ z. hit.mark ∙ z))

-- a call that ended
ended : (f : List ℕ) (p : Patterns) (nest : ℕ) (s t : List ℕ) (w q : Work) (n r : ℕ) (moved : Bool) → Fine f s w p n → nest < 65 → (moved ≡ false → r ≡ n)
    → Did f s t w (tree_at f s n) (optimize_sexp (height_at nest) (tree_at f s n) (spent_of w)) q → q.last ≡ outcome_of moved r → Ended f t w q n r nest
unfolding outcome_of
ended f p nest s t w q n r true h l o d e =
    let z = says_changed f s t w q _ _ d r e in
    let i : tree_at f t n ≡ tree_at f s n = grown_tree z.grown h.ready in
    record {
      fits = fine_fits f s w p n h;
      nests = omega arith;
      expr = grown_ready z.grown h.ready;
      result = z.ready;
      gives = rw i z.gives;
      differs = λ k. rw i z.differs;
    }
ended f p nest s t w q n r false h l o d e =
    let z = says_same f s t w q _ _ d e in
    let i : tree_at f t n ≡ tree_at f s n = grown_tree z.grown h.ready in
    let j : r ≡ n = o refl in
    record {
      fits = fine_fits f s w p n h;
      nests = omega arith;
      expr = grown_ready z.grown h.ready;
      result = rw j (grown_ready z.grown h.ready);
      gives = rw (j, i) z.gives;
      differs = λ k. absurd (k (sym j));
    }

kept_did : (f s t : List ℕ) (row : List (List ℕ)) (w : Work) (x : Tree) (def : Out Spent Tree) (st q : State) → Kept f t row st q → Did f s t w x def st.w → Did f s t w x def q.w
kept_did f s t row w x def st q k d = subst (λ (v : Work). Did f s t w x def v) (sym k.work) d

module _ (f : List ℕ) (p : Patterns) (nest : ℕ) (room₀ : List ℕ) (w₀ : Work) (n : ℕ) (room : List ℕ) (w : Work) (r : ℕ) (moved : Bool) (i : Looping f p nest room₀ w₀ n room w r moved)
    (r₁ : List ℕ) (w₁ : Work) (d : Did f room r₁ w (tree_at f room r) (one_turn (again nest) (tree_at f room r) (spent_of w)) w₁) (e : w₁.last ≡ Same) (q : Work) (eq : q ≡ with_last w₁ (outcome_of moved r)) where
  end_did : Did f room₀ r₁ w₀ (tree_at f room₀ n) (optimize_sexp (height_at nest) (tree_at f room₀ n) (spent_of w₀)) q
  end_did = loop_ends f p nest room₀ w₀ n room w r moved i r₁ w₁ d q eq e

  pub end_ended : Ended f r₁ w₀ q n r nest
  end_ended = ended f p nest room₀ r₁ w₀ q n r moved i.start i.nests i.own end_did (ap (λ (v : Work). v.last) eq)

  pub end_stored : (used : ℕ) (row : List (List ℕ)) (s₂ : State) → Kept f r₁ row (record { w = q; used = used }) s₂ → Did f room₀ r₁ w₀ (tree_at f room₀ n) (optimize_sexp (height_at nest) (tree_at f room₀ n) (spent_of w₀)) s₂.w
  end_stored used row s₂ z = kept_did f room₀ r₁ row w₀ _ _ (record { w = q; used = used }) s₂ z end_did

pub turn_valid : (f s : List ℕ) (row : List (List ℕ)) (st : State) (q : Work) (o : Outcome) → q ≡ with_last st.w o → st.w.last ≡ Same → Still f s row st → Valid f s row (record { w = q; used = st.used })
turn_valid f s row st q o eq e v = valid_with f s row st q o eq (valid_same f s row st e v)

pub stored_still : (f s : List ℕ) (row : List (List ℕ)) (st q : State) → Kept f s row st q → Still f s row q
stored_still f s row st q k = valid_still f s row q k.valid

-- a turn begins
pub begun_valid : (f s : List ℕ) (row : List (List ℕ)) (st : State) (p : Patterns) (r : ℕ) (b : Work) → Begun f s st.w r b → b.last ≡ Same → Fine f s st.w p r → Valid f s row st
    → Valid f s row (record { w = b; used = st.used })
unfolding Begun Begins
begun_valid f s row st p r b d e h v =
    let a : Started f s st.w b r = subst (Begins f s st.w b r) e d in
    let g : Grown f s s st.w.ch b.ch = subst (λ (c : Charges). Grown f s s st.w.ch c) (sym a.charges) (grown_none f s st.w.ch h.ready.held) in
    sounds_grown v g (still_marked steady_pass (spent_of st.w) (spent_of st.w) (spent_of b) tt (fine_fits f s st.w p r h) a.pays (λ z. z))

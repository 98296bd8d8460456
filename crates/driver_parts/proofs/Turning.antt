-- turn: what holds at its loop's head, and each need there. Assumes nothing.
use mathlib.Core.Path.{◌≡◌, refl, sym, ◌∙◌, ap, subst}
use mathlib.Core.List.{List, ◌∷◌}
use mathlib.Core.Bool.{true, false}
use Prim.Native.Nat.{ℕ, suc, ◌+◌, ◌<◌, ◌≤◌}
use native.Mathlib.Omega.{arith}
use lib.Dec.{leb}
use lib.ListN.{length}
use Rattle.refusals.specs.declared.Refusal.{Refusal}
use Rattle.meaning.specs.Tree.{Tree, atom, pair, equal_to}
use Rattle.meaning.specs.Limits.{pass_limit, height_at}
use Rattle.meaning.specs.Meter.{W, Out, done, stop, Spent, give, one_pass}
use Rattle.meaning.specs.Operator.{is_pair}
use Rattle.meaning.specs.Driver.{optimizers, ends_pass, pass}
use Rattle.meaning.proofs.Tests.{on_bool, not_true, not_false, leb_yes}
use Rattle.meaning.proofs.Turn.{turn}
use Rattle.meaning.proofs.Outcomes.{rule_same, rule_changes, rule_stops, no_rule}
use Rattle.meaning.proofs.MeterLaws.{not_stop, seq_at, seq_stop}
use Rattle.store.specs.declared.Charges.{Charges}
use Rattle.store.specs.Nodes.{tree_at}
use Rattle.store.specs.Makers.{Grown}
use Rattle.store.proofs.Ready.{grown_none, grown_both, grown_tree}
use Rattle.patterns.specs.declared.Patterns.{Patterns}
use Rattle.run_state.specs.declared.Outcome.TheVariants.{Same, Changed, Stopped}
use Rattle.run_state.specs.declared.Work.{Work}
use Rattle.run_state.specs.Work.{spent_of, with_last, Did}
use Rattle.run_state.proofs.Does.{did_same, says_same, says_changed, says_stopped}
use Rattle.driver_parts.specs.Turns.{again, optimizer, one_turn, Fine, Started, EndsAt, PassesOut, Begins, Begun}
use Rattle.driver_parts.proofs.Saying.{say_same, say_changed, say_stopped, renamed, goes_on}
use Rattle.driver_parts.proofs.Kept.{fine_same, fine_fits}
use Rattle.driver_parts.proofs.Numbers.{rules_from, rules_more, rules_none, rule_fits}

-- ---- the start of a turn, by its outcome

module _ (f s : List ℕ) (w w' : Work) (n : ℕ) where
  begun_pair : Begun f s w n w' → w'.last ≡ Same → Started f s w w' n
  unfolding Begun Begins
  begun_pair b e = subst (Begins f s w w' n) e b

  begun_atom : (m : ℕ) → Begun f s w n w' → w'.last ≡ Changed m → EndsAt f s w w' n m
  unfolding Begun Begins
  begun_atom m b e = subst (Begins f s w w' n) e b

  begun_out : (r : Refusal) → Begun f s w n w' → w'.last ≡ Stopped r → PassesOut f s w n r
  unfolding Begun Begins
  begun_out r b e = subst (Begins f s w w' n) e b

-- a pass is one more, within the limit
pub pass_pays : (s x : Spent) → one_pass s ≡ done tt x → (x.passes ≡ s.passes + 1) × (x.passes ≤ pass_limit)
unfolding one_pass
pass_pays s x h = on_bool (leb (s.passes + 1) pass_limit) (λ e. yes e (rw (e, one_pass) at h)) (λ e. not_stop (rw (e, one_pass) at h))
  where
    yes : leb (s.passes + 1) pass_limit ≡ true → ◌≡◌ {A = Out Spent (Unit {0})} (done tt (record { units = s.units; passes = s.passes + 1; mark = s.mark })) (done tt x) → (x.passes ≡ s.passes + 1) × (x.passes ≤ pass_limit)
    yes e k =
        let j : ◌≡◌ {A = Spent} (record { units = s.units; passes = s.passes + 1; mark = s.mark }) x = cc in
        let i : s.passes + 1 ≡ x.passes = ap (λ (y : Spent). y.passes) j in
        (sym i, omega (arith, leb_yes (s.passes + 1) pass_limit e))

-- ---- a turn, of a tree that is a pair or an atom

module _ (next : Tree → W Tree) where
  turn_atom : (t : Tree) (s : Spent) → is_pair t ≡ false → one_turn next t s ≡ done t s
  unfolding is_pair one_turn give
  turn_atom (atom b) s h = refl
  turn_atom (pair l r) s h = not_true h

  turn_out : (t : Tree) (s x : Spent) (m : Refusal) → is_pair t ≡ true → one_pass s ≡ stop m x → one_turn next t s ≡ stop m x
  unfolding is_pair one_turn
  turn_out (atom b) s x m h e = not_false h
  turn_out (pair l r) s x m h e = seq_stop one_pass (pass 1 (optimizers next) (pair l r)) s x m e

  turn_pair : (t : Tree) (s x : Spent) → is_pair t ≡ true → one_pass s ≡ done tt x → one_turn next t s ≡ pass 1 (rules_from next 1) t x
  unfolding is_pair one_turn
  turn_pair (atom b) s x h e = not_false h
  turn_pair (pair l r) s x h e = seq_at one_pass (pass 1 (optimizers next) (pair l r)) s x tt e

-- ---- a rule in the rest of a pass

module _ (nest k : ℕ) (t : Tree) (s x : Spent) (a : 0 < k) (b : k ≤ 8) where
  abbrev rest : ℕ → W Tree
  rest j = pass j (rules_from (again nest) j) t

  split : pass k (rules_from (again nest) k) t s ≡ pass k (optimizer (again nest) k ∷ rules_from (again nest) (k + 1)) t s
  split = ap (λ (fs : List (Tree → W Tree)). pass k fs t s) (rules_more (again nest) k a b)

  rest_same : optimizer (again nest) k t s ≡ done t x → rest k s ≡ rest (k + 1) x
  rest_same e =
      let z : suc k ≡ k + 1 = omega arith in
      split ∙ rule_same k (optimizer (again nest) k) (rules_from (again nest) (k + 1)) t s x e ∙ ap (λ (j : ℕ). pass j (rules_from (again nest) (k + 1)) t x) z

  rest_changes : (u : Tree) → optimizer (again nest) k t s ≡ done u x → equal_to t u ≡ false → rest k s ≡ done u x
  unfolding ends_pass give
  rest_changes u e z = split ∙ rule_changes k (optimizer (again nest) k) (rules_from (again nest) (k + 1)) t s x u e z

  rest_stops : (m : Refusal) → optimizer (again nest) k t s ≡ stop m x → rest k s ≡ stop m x
  rest_stops m e = split ∙ rule_stops k (optimizer (again nest) k) (rules_from (again nest) (k + 1)) t s x m e

rest_ends : (nest k : ℕ) (t : Tree) (s : Spent) → 9 ≤ k → k ≤ 9 → pass k (rules_from (again nest) k) t s ≡ done t s
rest_ends nest k t s a b =
    let z : k ≡ 8 + 1 = omega arith in
    ap (λ (j : ℕ). pass j (rules_from (again nest) j) t s) z ∙ ap (λ (fs : List (Tree → W Tree)). pass 9 fs t s) (rules_none (again nest) 8 (omega arith) (omega arith)) ∙ no_rule 9 t s

-- ---- the invariant: the rules from this number on give what the whole pass gives

pub record Turning (f : List ℕ) (p : Patterns) (nest : ℕ) (room₀ : List ℕ) (w₀ : Work) (n : ℕ) (room : List ℕ) (w : Work) (rule : ℕ) : Type 0 where
  pub start : Fine f room₀ w₀ p n
  pub fine : Fine f room w p n
  pub nests : nest < 65
  pub grown : Grown f room₀ room w₀.ch w.ch
  pub least : 0 < rule
  pub most : rule ≤ 9
  pub same : w.last ≡ Same
  pub rest : pass rule (rules_from (again nest) rule) (tree_at f room₀ n) (spent_of w) ≡ turn (again nest) (tree_at f room₀ n) (spent_of w₀)

module _ (f : List ℕ) (p : Patterns) (nest : ℕ) (s : List ℕ) (w : Work) (n : ℕ) (h : Fine f s w p n) (b : Work) (d : Begun f s w n b) where
  pub at_atom : (m : ℕ) (q : Work) → q ≡ with_last b Same → b.last ≡ Changed m → Did f s s w (tree_at f s n) (one_turn (again nest) (tree_at f s n) (spent_of w)) q
  at_atom m q eq e =
      let a = begun_atom f s w b n m d e in
      did_same f s s w q _ _ (eq ∙ ap (λ (v : Work). with_last v Same) a.work) (grown_none f s w.ch h.ready.held) (turn_atom (again nest) (tree_at f s n) (spent_of w) a.atoms)

  pub passes_out : (u : Refusal) → b.last ≡ Stopped u → Did f s s w (tree_at f s n) (one_turn (again nest) (tree_at f s n) (spent_of w)) b
  passes_out u e =
      let a = begun_out f s w b n u d e in
      say_stopped f s s w b _ _ u (spent_of w) e (turn_out (again nest) (tree_at f s n) (spent_of w) (spent_of w) u a.pairs a.refusal)

  module _ (e : b.last ≡ Same) where
    abbrev started : Started f s w b n
    started = begun_pair f s w b n d e

    grows : Grown f s s w.ch b.ch
    grows = subst (λ (c : Charges). Grown f s s w.ch c) (sym started.charges) (grown_none f s w.ch h.ready.held)

    pub turn_starts : nest < 65 → Turning f p nest s b n s b 1
    turn_starts l =
        let k : Fine f s b p n = fine_same f s s w b p n h grows (pass_pays (spent_of w) (spent_of b) started.pays).1 in
        record {
          start = k;
          fine = k;
          nests = l;
          grown = grown_none f s b.ch k.ready.held;
          least = omega arith;
          most = omega arith;
          same = e;
          rest = refl;
        }

    -- what the pass did, the turn did
    pub turn_whole : (t : List ℕ) (q : Work) → Did f s t b (tree_at f s n) (turn (again nest) (tree_at f s n) (spent_of b)) q → Did f s t w (tree_at f s n) (one_turn (again nest) (tree_at f s n) (spent_of w)) q
    turn_whole t q k =
        renamed f s t w q (tree_at f s n) _ _ (goes_on f s s t w b q (tree_at f s n) _ grows k)
        (sym (turn_pair (again nest) (tree_at f s n) (spent_of w) (spent_of b) started.pairs started.pays))

module _ (f : List ℕ) (p : Patterns) (nest : ℕ) (room₀ : List ℕ) (w₀ : Work) (n : ℕ) (room : List ℕ) (w : Work) (rule : ℕ) (i : Turning f p nest room₀ w₀ n room w rule) where
  pub turn_fine : Fine f room w p n
  turn_fine = i.fine

  pub turn_nest : nest < 65
  turn_nest = i.nests

  pub turn_least : 0 < rule
  turn_least = i.least

  pub turn_most : rule < 9 → rule ≤ 8
  turn_most l = omega arith

  pub turn_long : length room ≡ length room₀
  turn_long = i.grown.long

  pub turn_ends : 9 ≤ rule → Did f room₀ room w₀ (tree_at f room₀ n) (turn (again nest) (tree_at f room₀ n) (spent_of w₀)) w
  turn_ends l = say_same f room₀ room w₀ w _ _ i.same (record { grown = i.grown; gives = sym i.rest ∙ rest_ends nest rule (tree_at f room₀ n) (spent_of w) l i.most })

  module _ (r₁ : List ℕ) (w₁ : Work) (d : Did f room r₁ w (tree_at f room n) (optimizer (again nest) rule (tree_at f room n) (spent_of w)) w₁) (l : rule < 9) where
    abbrev x : Tree
    x = tree_at f room₀ n

    stands : tree_at f room n ≡ x
    stands = grown_tree i.grown i.start.ready

    did : Did f room r₁ w x (optimizer (again nest) rule x (spent_of w)) w₁
    did = subst (λ (t : Tree). Did f room r₁ w t (optimizer (again nest) rule t (spent_of w)) w₁) stands d

    pub rule_stopped : (u : Refusal) → w₁.last ≡ Stopped u → Did f room₀ r₁ w₀ (tree_at f room₀ n) (turn (again nest) (tree_at f room₀ n) (spent_of w₀)) w₁
    rule_stopped u e =
        let z = says_stopped f room r₁ w w₁ _ _ did u e in
        say_stopped f room₀ r₁ w₀ w₁ _ _ u z.after e (sym i.rest ∙ rest_stops nest rule x (spent_of w) z.after i.least (turn_most l) u z.stops)

    pub rule_changed : (m : ℕ) → w₁.last ≡ Changed m → Did f room₀ r₁ w₀ (tree_at f room₀ n) (turn (again nest) (tree_at f room₀ n) (spent_of w₀)) w₁
    rule_changed m e =
        let z = says_changed f room r₁ w w₁ _ _ did m e in
        say_changed f room₀ r₁ w₀ w₁ _ _ m e
        (record {
          grown = grown_both i.grown z.grown;
          ready = z.ready;
          gives = sym i.rest ∙ rest_changes nest rule x (spent_of w) (spent_of w₁) i.least (turn_most l) (tree_at f r₁ m) z.gives z.differs;
          differs = z.differs;
        })

    pub rule_next : w₁.last ≡ Same → Turning f p nest room₀ w₀ n r₁ w₁ (rule + 1)
    rule_next e =
        let z = says_same f room r₁ w w₁ _ _ did e in
        record {
          start = i.start;
          fine = fine_same f room r₁ w w₁ p n i.fine z.grown (rule_fits (height_at (nest + 1)) rule x x (spent_of w) (spent_of w₁) (fine_fits f room w p n i.fine) z.gives).1;
          nests = i.nests;
          grown = grown_both i.grown z.grown;
          least = omega arith;
          most = omega arith;
          same = e;
          rest = sym (rest_same nest rule x (spent_of w) (spent_of w₁) i.least (turn_most l) z.gives) ∙ i.rest;
        }

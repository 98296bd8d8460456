-- Rules 1, 3, 7 and 8, which only rewrite: what each return needs. Assumes nothing.
use Rattle.std.specs.Prelude.{Option as Got, Some, None}
use Prim.Native.Nat.{ℕ}
use mathlib.Core.Path.{◌≡◌, refl, sym, ◌∙◌, ap, ap₂}
use mathlib.Core.List.{List, []}
use mathlib.Core.Bool.{Bool, true, false}
use mathlib.Core.Option.{Option, none}
use Rattle.meaning.specs.Tree.{Tree, atom, pair, nil, equal_to}
use Rattle.meaning.specs.Meter.{done, give}
use Rattle.meaning.specs.Match as meaning
use Rattle.meaning.specs.Substitute.{first_name, rest_name}
use Rattle.meaning.specs.Rules.{cons_optimizer_pattern, cons_optimizer, sexp_name, args_name, apply_pattern, applied, not_applied, both_got, applied_of, is_args_call, cons_q_a_optimizer, quote_pattern_1, quote_null_optimizer, apply_null_pattern_1, apply_null_optimizer}
use Rattle.meaning.specs.Rules.{Applied as Rules-as-Applied}
use Rattle.meaning.proofs.RuleDiffers.{Unmatched, none_matched, too_many, cons_first, cons_rest, cons_same, args_call_gives, args_call_same, not_applied_same, quote_null_gives, quote_null_same, apply_null_gives, apply_null_same}
use Rattle.store.specs.declared.Charges.{Charges}
use Rattle.store.specs.Cells.{Room}
use Rattle.store.specs.Nodes.{tree_at}
use Rattle.store.specs.Store.{Ready}
use Rattle.store.specs.Makers.{Grown}
use Rattle.store.proofs.Ready.{room, nil_ready, grown_both, grown_ready, grown_tree}
use Rattle.sexp.specs.Tests.{is_byte_tree}
use Rattle.pattern.specs.declared.Bindings.{Bindings}
use Rattle.pattern.specs.declared.Match.{Match}
use Rattle.pattern.specs.declared.Match.TheVariants.{Matched, NoMatch, TooManyNames}
use Rattle.pattern.specs.Bound.{bindings_at, MatchOk, got_at, GotIn, GotOk}
use Rattle.patterns.specs.Patterns.{Shows}
use Rattle.patterns.proofs.Laws.{shows_grown}
use Rattle.run_state.specs.declared.Outcome.TheVariants.{Same, Changed}
use Rattle.run_state.specs.declared.Work.{Work}
use Rattle.rules.specs.declared.Applied.{Applied}
use Rattle.run_state.specs.Work.{spent_of, with_last, Did}
use Rattle.rules.specs.Rule.{both_of, applied_at, AppliedIn, AppliedOk}
use Rattle.run_state.proofs.Does.{did_same, did_changed}
use Rattle.rules.proofs.Found.{found_tree, found_ready, found_none, match_bindings, match_none, match_many, at_pattern}

-- ---- a rule that only rewrites: the tree itself, or another

module _ (f s s' : List ℕ) (w : Work) (n : ℕ) (rule : Tree → Tree) (g : Grown f s s' w.ch w.ch) where
  same : (q : Work) → q ≡ with_last w Same → rule (tree_at f s n) ≡ tree_at f s n → Did f s s' w (tree_at f s n) (give (rule (tree_at f s n)) (spent_of w)) q
  unfolding give
  same q e i = did_same f s s' w q _ _ e g (ap (λ t. done t (spent_of w)) i)

  changed : (q : Work) (m : ℕ) (t : Tree) → q ≡ with_last w (Changed m) → Ready f s' w.ch m → tree_at f s' m ≡ t → (rule (tree_at f s n) ≡ t) × (equal_to (tree_at f s n) t ≡ false)
      → Did f s s' w (tree_at f s n) (give (rule (tree_at f s n)) (spent_of w)) q
  unfolding give
  changed q m t e r i z = did_changed f s s' w q _ _ m t e g r i (ap (λ t. done t (spent_of w)) z.0) z.1

-- ---- 1.

module _ (f s s₁ : List ℕ) (w q : Work) (n k : ℕ) (g : Got ℕ) (h : GotOk f s s₁ w.ch g (meaning.got first_name (meaning.match_sexp (tree_at f s k) (tree_at f s n) []))) (p : Shows f s w.ch k (cons_optimizer_pattern 5)) where
  first : Option Tree
  first = meaning.got first_name (meaning.match_sexp (cons_optimizer_pattern 5) (tree_at f s n) [])

  is_first : meaning.got first_name (meaning.match_sexp (tree_at f s k) (tree_at f s n) []) ≡ first
  unfolding first
  is_first = ap (meaning.got first_name) (at_pattern n p)

  pub cons_one : (a : ℕ) → g ≡ Some a → q ≡ with_last w (Changed a) → Did f s s₁ w (tree_at f s n) (give (cons_optimizer (tree_at f s n)) (spent_of w)) q
  unfolding first
  cons_one a e i = changed f s s₁ w n cons_optimizer h.grown q a (tree_at f s₁ a) i (found_ready f s s₁ w.ch g _ h a e) refl (cons_first (tree_at f s n) (tree_at f s₁ a) (sym is_first ∙ found_tree f s s₁ w.ch g _ h a e))

  -- the second pattern, in the room after
  module _ (e : g ≡ None) (r : Ready f s w.ch n) (s₂ : List ℕ) (k₂ : ℕ) (g₂ : Got ℕ) (h₂ : GotOk f s₁ s₂ w.ch g₂ (meaning.got rest_name (meaning.match_sexp (tree_at f s₁ k₂) (tree_at f s₁ n) [])))
      (p₂ : Shows f s w.ch k₂ (cons_optimizer_pattern 6)) where
    none_first : first ≡ none
    none_first = sym is_first ∙ found_none f s s₁ w.ch g _ h e

    is_rest : meaning.got rest_name (meaning.match_sexp (tree_at f s₁ k₂) (tree_at f s₁ n) []) ≡ meaning.got rest_name (meaning.match_sexp (cons_optimizer_pattern 6) (tree_at f s n) [])
    is_rest = ap₂ (λ x y. meaning.got rest_name (meaning.match_sexp x y [])) (shows_grown h.grown p₂).tree (grown_tree h.grown r)

    pub cons_two : (b : ℕ) → g₂ ≡ Some b → q ≡ with_last w (Changed b) → Did f s s₂ w (tree_at f s n) (give (cons_optimizer (tree_at f s n)) (spent_of w)) q
    unfolding first
    cons_two b e₂ i =
        changed f s s₂ w n cons_optimizer (grown_both h.grown h₂.grown) q b (tree_at f s₂ b) i (found_ready f s₁ s₂ w.ch g₂ _ h₂ b e₂) refl
        (cons_rest (tree_at f s n) (tree_at f s₂ b) none_first (sym is_rest ∙ found_tree f s₁ s₂ w.ch g₂ _ h₂ b e₂))

    pub cons_none : g₂ ≡ None → q ≡ with_last w Same → Did f s s₂ w (tree_at f s n) (give (cons_optimizer (tree_at f s n)) (spent_of w)) q
    unfolding first
    cons_none e₂ i = same f s s₂ w n cons_optimizer (grown_both h.grown h₂.grown) q i (cons_same (tree_at f s n) none_first (sym is_rest ∙ found_none f s₁ s₂ w.ch g₂ _ h₂ e₂))

pub cons_pattern_2 : (f s s₁ : List ℕ) (c : Charges) (g : Got ℕ) (o : Option Tree) (k : ℕ) (p : Tree) → GotOk f s s₁ c g o → Shows f s c k p → Ready f s₁ c k
cons_pattern_2 f s s₁ c g o k p h r = grown_ready h.grown r.ready

pub after_got : (f s s₁ : List ℕ) (c : Charges) (g : Got ℕ) (o : Option Tree) (n : ℕ) → GotOk f s s₁ c g o → Ready f s c n → Ready f s₁ c n
after_got f s s₁ c g o n h r = grown_ready h.grown r

-- ---- 3.

pub call_of : (s a : Got ℕ) (x y : ℕ) → s ≡ Some x → a ≡ Some y → Some (record { body = x; args = y }) ≡ both_of s a
call_of s a x y e i = rw (e, i)

pub other_args : (s a : Got ℕ) (x : ℕ) → s ≡ Some x → a ≡ None → None ≡ both_of s a
other_args s a x e i = rw (e, i)

pub other_sexp : (s a : Got ℕ) → s ≡ None → None ≡ both_of s a
other_sexp s a e = rw e

-- two names of one match
both_named : (f s : List ℕ) (c : Charges) (x y : Got ℕ) → GotIn f s c x → GotIn f s c y → (applied_at f s (both_of x y) ≡ both_got (got_at f s x) (got_at f s y)) × AppliedIn f s c (both_of x y)
unfolding applied_at AppliedIn both_got got_at GotIn
both_named f s c (Some x) (Some y) h k = (refl, (h, k))
both_named f s c (Some x) None h k = (refl, tt)
both_named f s c None (Some y) h k = (refl, tt)
both_named f s c None None h k = (refl, tt)

module _ (f s s₁ : List ℕ) (c : Charges) (n k : ℕ) (a : Match) (h : MatchOk f s s₁ c a (meaning.match_sexp (tree_at f s k) (tree_at f s n) [])) (p : Shows f s c k apply_pattern) where
  pub applied_named : (ks : Bindings) → a ≡ Matched ks → (x y : Got ℕ) → GotOk f s₁ s₁ c x (meaning.get sexp_name (bindings_at f s₁ ks)) → GotOk f s₁ s₁ c y (meaning.get args_name (bindings_at f s₁ ks)) → (q : Got Applied) → q ≡ both_of x y
      → AppliedOk f s s₁ c q (applied_of (tree_at f s n))
  unfolding applied_of meaning.got
  applied_named ks e x y hx hy q i =
      let m : meaning.match_sexp apply_pattern (tree_at f s n) [] ≡ meaning.matched (bindings_at f s₁ ks) = sym (at_pattern n p) ∙ match_bindings f s s₁ c a _ h ks e in
      let (z, w) = both_named f s₁ c x y hx.found hy.found in
      rw i (record { answer = z ∙ ap₂ both_got hx.answer hy.answer ∙ rw m; found = w; grown = h.grown })

  unmatched : (m : meaning.Match) → meaning.match_sexp apply_pattern (tree_at f s n) [] ≡ m → Unmatched m → not_applied ≡ applied_of (tree_at f s n)
  unfolding applied_of meaning.got both_got
  unmatched m e (none_matched ds) = rw e
  unmatched m e too_many = rw e

  other : Unmatched (meaning.match_sexp (tree_at f s k) (tree_at f s n) []) → AppliedOk f s s₁ c None (applied_of (tree_at f s n))
  unfolding applied_at AppliedIn
  other u = record { answer = unmatched _ (sym (at_pattern n p)) u; found = tt; grown = h.grown }

  pub applied_none : a ≡ NoMatch → AppliedOk f s s₁ c None (applied_of (tree_at f s n))
  applied_none e = other (match_none f s s₁ c a _ h e)

  pub applied_many : a ≡ TooManyNames → AppliedOk f s s₁ c None (applied_of (tree_at f s n))
  applied_many e = other (match_many f s s₁ c a _ h e)

args_test : (t : Tree) → is_byte_tree 1 t ≡ is_args_call t
unfolding is_byte_tree is_args_call
args_test (atom b) = refl
args_test (pair l r) = refl

module _ (f s s₁ : List ℕ) (c : Charges) (a : Got Applied) (m : Rules-as-Applied) (h : AppliedOk f s s₁ c a m) where
  pub applied_trees : (v : Applied) → a ≡ Some v → m ≡ applied (tree_at f s₁ v.body) (tree_at f s₁ v.args)
  unfolding applied_at
  applied_trees v e = let z : applied (tree_at f s₁ v.body) (tree_at f s₁ v.args) ≡ m = rw e at h.answer in sym z

  pub applied_body : (v : Applied) → a ≡ Some v → Ready f s₁ c v.body
  unfolding AppliedIn
  applied_body v e = let z : Ready f s₁ c v.body × Ready f s₁ c v.args = rw e at h.found in z.0

  pub applied_args : (v : Applied) → a ≡ Some v → Ready f s₁ c v.args
  unfolding AppliedIn
  applied_args v e = let z : Ready f s₁ c v.body × Ready f s₁ c v.args = rw e at h.found in z.1

  pub applied_room : (v : Applied) → a ≡ Some v → Room s₁ v.args
  applied_room v e = room f s₁ c v.args (applied_args v e)

  pub applied_other : a ≡ None → m ≡ not_applied
  unfolding applied_at
  applied_other e = let z : not_applied ≡ m = rw e at h.answer in sym z

module _ (f s s₁ : List ℕ) (w q : Work) (n : ℕ) (a : Got Applied) (h : AppliedOk f s s₁ w.ch a (applied_of (tree_at f s n))) where
  module _ (v : Applied) (e : a ≡ Some v) (u : Bool) (eu : u ≡ is_byte_tree 1 (tree_at f s₁ v.args)) where
    abbrev x : ℕ
    x = v.body

    abbrev y : ℕ
    y = v.args

    pub args_yes : u ≡ true → q ≡ with_last w (Changed x) → Did f s s₁ w (tree_at f s n) (give (cons_q_a_optimizer (tree_at f s n)) (spent_of w)) q
    args_yes z i =
        changed f s s₁ w n cons_q_a_optimizer h.grown q x (tree_at f s₁ x) i (applied_body f s s₁ w.ch a _ h v e) refl
        (args_call_gives (tree_at f s n) (tree_at f s₁ x) (tree_at f s₁ y) (applied_trees f s s₁ w.ch a _ h v e) (sym (args_test (tree_at f s₁ y)) ∙ sym eu ∙ z))

    pub args_no : u ≡ false → q ≡ with_last w Same → Did f s s₁ w (tree_at f s n) (give (cons_q_a_optimizer (tree_at f s n)) (spent_of w)) q
    args_no z i =
        same f s s₁ w n cons_q_a_optimizer h.grown q i
        (args_call_same (tree_at f s n) (tree_at f s₁ x) (tree_at f s₁ y) (applied_trees f s s₁ w.ch a _ h v e) (sym (args_test (tree_at f s₁ y)) ∙ sym eu ∙ z))

  pub not_call : a ≡ None → q ≡ with_last w Same → Did f s s₁ w (tree_at f s n) (give (cons_q_a_optimizer (tree_at f s n)) (spent_of w)) q
  not_call e i = same f s s₁ w n cons_q_a_optimizer h.grown q i (not_applied_same (tree_at f s n) (applied_other f s s₁ w.ch a _ h e))

-- ---- 7., 8.

module _ (f s s₁ : List ℕ) (w q : Work) (n k : ℕ) (a : Match) (h : MatchOk f s s₁ w.ch a (meaning.match_sexp (tree_at f s k) (tree_at f s n) [])) where
  nil_here : Ready f s₁ w.ch 0
  nil_here = nil_ready f s₁ w.ch h.grown.held

  pub quote_nil : (ks : Bindings) → a ≡ Matched ks → Shows f s w.ch k quote_pattern_1 → q ≡ with_last w (Changed 0) → Did f s s₁ w (tree_at f s n) (give (quote_null_optimizer (tree_at f s n)) (spent_of w)) q
  quote_nil ks e p i = changed f s s₁ w n quote_null_optimizer h.grown q 0 nil i nil_here h.grown.held.nil_at (quote_null_gives (tree_at f s n) (bindings_at f s₁ ks) (sym (at_pattern n p) ∙ match_bindings f s s₁ w.ch a _ h ks e))

  pub quote_none : a ≡ NoMatch → Shows f s w.ch k quote_pattern_1 → q ≡ with_last w Same → Did f s s₁ w (tree_at f s n) (give (quote_null_optimizer (tree_at f s n)) (spent_of w)) q
  quote_none e p i = same f s s₁ w n quote_null_optimizer h.grown q i (quote_null_same (tree_at f s n) _ (sym (at_pattern n p)) (match_none f s s₁ w.ch a _ h e))

  pub quote_many : a ≡ TooManyNames → Shows f s w.ch k quote_pattern_1 → q ≡ with_last w Same → Did f s s₁ w (tree_at f s n) (give (quote_null_optimizer (tree_at f s n)) (spent_of w)) q
  quote_many e p i = same f s s₁ w n quote_null_optimizer h.grown q i (quote_null_same (tree_at f s n) _ (sym (at_pattern n p)) (match_many f s s₁ w.ch a _ h e))

  pub apply_nil : (ks : Bindings) → a ≡ Matched ks → Shows f s w.ch k apply_null_pattern_1 → q ≡ with_last w (Changed 0) → Did f s s₁ w (tree_at f s n) (give (apply_null_optimizer (tree_at f s n)) (spent_of w)) q
  apply_nil ks e p i = changed f s s₁ w n apply_null_optimizer h.grown q 0 nil i nil_here h.grown.held.nil_at (apply_null_gives (tree_at f s n) (bindings_at f s₁ ks) (sym (at_pattern n p) ∙ match_bindings f s s₁ w.ch a _ h ks e))

  pub apply_none : a ≡ NoMatch → Shows f s w.ch k apply_null_pattern_1 → q ≡ with_last w Same → Did f s s₁ w (tree_at f s n) (give (apply_null_optimizer (tree_at f s n)) (spent_of w)) q
  apply_none e p i = same f s s₁ w n apply_null_optimizer h.grown q i (apply_null_same (tree_at f s n) _ (sym (at_pattern n p)) (match_none f s s₁ w.ch a _ h e))

  pub apply_many : a ≡ TooManyNames → Shows f s w.ch k apply_null_pattern_1 → q ≡ with_last w Same → Did f s s₁ w (tree_at f s n) (give (apply_null_optimizer (tree_at f s n)) (spent_of w)) q
  apply_many e p i = same f s s₁ w n apply_null_optimizer h.grown q i (apply_null_same (tree_at f s n) _ (sym (at_pattern n p)) (match_many f s s₁ w.ch a _ h e))

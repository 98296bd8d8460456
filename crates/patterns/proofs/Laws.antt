-- Trees laid one after the other, and patterns that stay laid. Assumes nothing.
use Prim.Native.Nat.{ℕ, ◌+◌}
use native.Mathlib.Omega.{arith}
use mathlib.Core.Path.{◌≡◌, refl, ◌∙◌, ap, ap₂}
use mathlib.Core.List.{List}
use lib.ListN.{length}
use Rattle.meaning.specs.Tree.{Tree, atom, pair, nil, byte, enlist}
use Rattle.meaning.specs.Match.{atom_match}
use Rattle.meaning.specs.Substitute.{first_name, rest_name, any_sexp, cons_pattern}
use Rattle.meaning.specs.Rules.{cons_optimizer_pattern, sexp_name, args_name, apply_pattern, atom_name, atom_pattern, quote_pattern_1, apply_null_pattern_1}
use Rattle.store.specs.declared.Charges.{Charges}
use Rattle.store.specs.declared.Made.{Made}
use Rattle.store.specs.Nodes.{tree_at}
use Rattle.store.specs.Store.{Ready}
use Rattle.store.specs.Makers.{Grown, LaidOk}
use Rattle.store.proofs.Ready.{grown_both, grown_ready, grown_tree}
use Rattle.patterns.specs.declared.Patterns.{Patterns}
use Rattle.patterns.specs.declared.Both.{Both}
use Rattle.patterns.specs.declared.Others.{Others}
use Rattle.patterns.specs.Patterns.{Shows, Patterned, BothLaid, OthersLaid, PatternsLaid}

-- ---- what a change of the store keeps

module _ {f s s' : List ℕ} {c c' : Charges} (g : Grown f s s' c c') where
  pub shows_grown : {n : ℕ} {t : Tree} → Shows f s c n t → Shows f s' c' n t
  shows_grown h = record { ready = grown_ready g h.ready; tree = grown_tree g h.ready ∙ h.tree }

  -- patterns once laid stay
  pub patterned_grown : {p : Patterns} → Patterned f s c p → Patterned f s' c' p
  patterned_grown h = record {
    cons = shows_grown h.cons;
    first_cons = shows_grown h.first_cons;
    rest_cons = shows_grown h.rest_cons;
    apply = shows_grown h.apply;
    first_atom = shows_grown h.first_atom;
    rest_atom = shows_grown h.rest_atom;
    quote_nil = shows_grown h.quote_nil;
    apply_nil = shows_grown h.apply_nil;
  }

-- ---- one tree laid after another

module _ {f s s₁ : List ℕ} {c : Charges} {k : ℕ} {t : Tree} {o : Made} (h : LaidOk f s s₁ c k t o) where
  pub laid_new : Shows f s₁ o.ch o.node t
  laid_new = record { ready = h.stands.ready; tree = h.stands.tree }

  pub laid_old : {m : ℕ} → Ready f s c m → Ready f s₁ o.ch m
  laid_old r = grown_ready h.stands.grown r

  pub laid_long : length s₁ ≡ length s
  laid_long = h.stands.grown.long

  -- the second stands for u, whatever it was said to be made of
  pub laid_then : {s₂ : List ℕ} {k' : ℕ} {t' : Tree} {a : Made} → LaidOk f s₁ s₂ o.ch k' t' a → (j : ℕ) (u : Tree) → k + k' ≡ j → t' ≡ u → LaidOk f s s₂ c j u a
  laid_then {k'} {a} g j u n e =
      let x : o.ch.free ≡ c.free + k = h.free in
      let y : a.ch.free ≡ o.ch.free + k' = g.free in
      record {
        stands = record { grown = grown_both h.stands.grown g.stands.grown; ready = g.stands.ready; tree = g.stands.tree ∙ e };
        units = g.units ∙ h.units;
        free = omega arith;
      }

-- (b . x)
pub headed : (f s s₁ s₂ : List ℕ) (c : Charges) (b x : ℕ) (o a : Made) → LaidOk f s₁ s₂ o.ch 15 (pair (tree_at f s₁ o.node) (tree_at f s₁ x)) a
    → LaidOk f s s₁ c 6 (byte b) o → Ready f s c x → LaidOk f s s₂ c 21 (pair (byte b) (tree_at f s x)) a
headed f s s₁ s₂ c b x o a g h r = laid_then h g 21 _ refl (ap₂ pair h.stands.tree (grown_tree h.stands.grown r))

-- (x . name)
pub named : (f s s₁ s₂ n : List ℕ) (c : Charges) (x : ℕ) (o a : Made) → LaidOk f s₁ s₂ o.ch 21 (pair (byte x) (tree_at f s₁ o.node)) a
    → LaidOk f s s₁ c (5 + length n) (atom n) o → LaidOk f s s₂ c (26 + length n) (pair (byte x) (atom n)) a
named f s s₁ s₂ n c x o a g h = laid_then h g (26 + length n) _ (omega arith) (ap (pair (byte x)) h.stands.tree)

-- (b x)
pub called : (f s s₁ s₂ : List ℕ) (c : Charges) (b x : ℕ) (o a : Made) → LaidOk f s₁ s₂ o.ch 21 (pair (byte b) (tree_at f s₁ o.node)) a
    → LaidOk f s s₁ c 15 (pair (tree_at f s x) (tree_at f s 0)) o → Ready f s c x → LaidOk f s s₂ c 36 (pair (byte b) (pair (tree_at f s x) nil)) a
called f s s₁ s₂ c b x o a g h r = laid_then h g 36 _ refl (ap (pair (byte b)) (h.stands.tree ∙ ap (pair (tree_at f s x)) r.held.nil_at))

-- (b x y)
pub called_2 : {f s s₁ s₂ s₃ : List ℕ} {c : Charges} {b x : ℕ} {o p a : Made} (y : ℕ) → LaidOk f s₂ s₃ p.ch 21 (pair (byte b) (tree_at f s₂ p.node)) a
    → LaidOk f s₁ s₂ o.ch 15 (pair (tree_at f s₁ x) (tree_at f s₁ o.node)) p → LaidOk f s s₁ c 15 (pair (tree_at f s y) (tree_at f s 0)) o → Ready f s c x
    → LaidOk f s s₃ c 51 (pair (byte b) (pair (tree_at f s x) (pair (tree_at f s y) nil))) a
called_2 {f} {s} {s₁} {s₂} {c} {b} {x} {o} {p} y g h₂ h₁ r =
    let y₁ : tree_at f s₁ o.node ≡ pair (tree_at f s y) nil = h₁.stands.tree ∙ ap (pair (tree_at f s y)) r.held.nil_at in
    let u : LaidOk f s s₂ c 30 (pair (tree_at f s x) (pair (tree_at f s y) nil)) p = laid_then h₁ h₂ 30 _ refl (ap₂ pair (grown_tree h₁.stands.grown r) y₁) in
    laid_then u g 51 _ refl (ap (pair (byte b)) u.stands.tree)

-- ---- the patterns

module _ {f s s₁ s₂ s₃ : List ℕ} {c : Charges} {a b o : Made} where
  -- (c (: . first) (: . rest))
  pub cons_laid : LaidOk f s₂ s₃ b.ch 51 (pair (byte 4) (pair (tree_at f s₂ a.node) (pair (tree_at f s₂ b.node) nil))) o
      → LaidOk f s₁ s₂ a.ch 30 (any_sexp rest_name) b → LaidOk f s s₁ c 31 (any_sexp first_name) a → LaidOk f s s₃ c 112 cons_pattern o
  unfolding cons_pattern enlist
  cons_laid g h₂ h₁ =
      let u : LaidOk f s s₂ c 61 (any_sexp rest_name) b = laid_then h₁ h₂ 61 _ refl refl in
      laid_then u g 112 _ refl (ap₂ (λ x y. pair (byte 4) (pair x (pair y nil))) (shows_grown h₂.stands.grown (laid_new h₁)).tree h₂.stands.tree)

  -- (a 0 . (: . rest))
  pub apply_nil_laid : LaidOk f s₂ s₃ b.ch 21 (pair (byte 2) (tree_at f s₂ b.node)) o → LaidOk f s₁ s₂ a.ch 15 (pair (tree_at f s₁ 0) (tree_at f s₁ a.node)) b
      → LaidOk f s s₁ c 30 (any_sexp rest_name) a → LaidOk f s s₃ c 66 apply_null_pattern_1 o
  unfolding apply_null_pattern_1
  apply_nil_laid g h₂ h₁ =
      let u : LaidOk f s s₂ c 45 (pair nil (any_sexp rest_name)) b = laid_then h₁ h₂ 45 _ refl (ap₂ pair h₁.stands.ready.held.nil_at h₁.stands.tree) in
      laid_then u g 66 _ refl (ap (pair (byte 2)) u.stands.tree)

-- (a (q . (: . sexp)) (: . args))
pub apply_laid : {f s s₁ s₂ s₃ s₄ : List ℕ} {c : Charges} {x q a o : Made} → LaidOk f s₃ s₄ a.ch 51 (pair (byte 2) (pair (tree_at f s₃ q.node) (pair (tree_at f s₃ a.node) nil))) o → LaidOk f s₂ s₃ q.ch 30 (any_sexp args_name) a
    → LaidOk f s₁ s₂ x.ch 21 (pair (byte 1) (tree_at f s₁ x.node)) q → LaidOk f s s₁ c 30 (any_sexp sexp_name) x → LaidOk f s s₄ c 132 apply_pattern o
unfolding apply_pattern enlist
apply_laid {f} {s} {s₁} {s₂} {s₃} {s₄} {c} {x} {q} {a} g h₃ h₂ h₁ =
    let u : LaidOk f s s₂ c 51 (pair (byte 1) (any_sexp sexp_name)) q = laid_then h₁ h₂ 51 _ refl (ap (pair (byte 1)) h₁.stands.tree) in
    let v : LaidOk f s s₃ c 81 (any_sexp args_name) a = laid_then u h₃ 81 _ refl refl in
    laid_then v g 132 _ refl (ap₂ (λ y z. pair (byte 2) (pair y (pair z nil))) (shows_grown h₃.stands.grown (laid_new u)).tree h₃.stands.tree)

-- (f x) and (r x)
pub both_laid : (f s s₁ s₂ : List ℕ) (c : Charges) (x : ℕ) (o p : Made) → LaidOk f s₁ s₂ o.ch 36 (pair (byte 6) (pair (tree_at f s₁ x) nil)) p
    → LaidOk f s s₁ c 36 (pair (byte 5) (pair (tree_at f s x) nil)) o → Ready f s c x
    → BothLaid f s s₂ c 72 (tree_at f s x) (record { inner = x; first = o.node; rest = p.node; ch = p.ch })
both_laid f s s₁ s₂ c x o p g h r =
    let u : LaidOk f s s₂ c 72 (pair (byte 6) (pair (tree_at f s x) nil)) p = laid_then h g 72 _ refl (ap (λ y. pair (byte 6) (pair y nil)) (grown_tree h.stands.grown r)) in
    let k : Grown f s s₂ c p.ch = u.stands.grown in
    record {
      grown = k;
      inner = record { ready = grown_ready k r; tree = grown_tree k r };
      first = shows_grown g.stands.grown (laid_new h);
      rest = laid_new u;
      units = u.units;
      free = u.free;
    }

-- the two of a pattern that was laid before them
pub both_then : {f s s₁ s₂ : List ℕ} {c : Charges} {k k' : ℕ} {t t' : Tree} {o : Made} {a : Both} → LaidOk f s s₁ c k t o → BothLaid f s₁ s₂ o.ch k' t' a → (j : ℕ) → k + k' ≡ j → t' ≡ t
    → BothLaid f s s₂ c j t a
both_then {c} {k} {k'} {o} {a} h g j n e =
    let x : o.ch.free ≡ c.free + k = h.free in
    let y : a.ch.free ≡ o.ch.free + k' = g.free in
    rw (← e) (record {
      grown = grown_both h.stands.grown g.grown;
      inner = g.inner;
      first = g.first;
      rest = g.rest;
      units = g.units ∙ h.units;
      free = omega arith;
    })

module _ (f s s₁ s₂ : List ℕ) (c : Charges) (o : Made) (a : Both) (g : BothLaid f s₁ s₂ o.ch 72 (tree_at f s₁ o.node) a) where
  pub cons_both : LaidOk f s s₁ c 112 cons_pattern o → BothLaid f s s₂ c 184 cons_pattern a
  cons_both h = both_then h g 184 refl h.stands.tree

  pub atom_both : LaidOk f s s₁ c 30 (pair (byte atom_match) (atom atom_name)) o → BothLaid f s s₂ c 102 (pair (byte atom_match) (atom atom_name)) a
  atom_both h = both_then h g 102 refl h.stands.tree

pub others_laid : {f s s₁ s₂ s₃ : List ℕ} {c : Charges} {a q n : Made} → LaidOk f s₂ s₃ q.ch 66 apply_null_pattern_1 n → LaidOk f s₁ s₂ a.ch 21 (pair (byte 1) (tree_at f s₁ 0)) q
    → LaidOk f s s₁ c 132 apply_pattern a → OthersLaid f s s₃ c (record { apply = a.node; quote_nil = q.node; apply_nil = n.node; ch = n.ch })
unfolding quote_pattern_1
others_laid {f} {s} {s₁} {s₂} {s₃} {c} {a} {q} {n} h₃ h₂ h₁ =
    let u : LaidOk f s s₂ c 153 (pair (byte 1) nil) q = laid_then h₁ h₂ 153 _ refl (ap (pair (byte 1)) h₁.stands.ready.held.nil_at) in
    let v : LaidOk f s s₃ c 219 apply_null_pattern_1 n = laid_then u h₃ 219 _ refl refl in
    record {
      grown = v.stands.grown;
      apply = shows_grown h₃.stands.grown (shows_grown h₂.stands.grown (laid_new h₁));
      quote_nil = shows_grown h₃.stands.grown (laid_new u);
      apply_nil = laid_new h₃;
      units = v.units;
      free = v.free;
    }

pub patterns_laid : {f s s₁ s₂ s₃ : List ℕ} {c : Charges} {a b : Both} {o : Others} → OthersLaid f s₂ s₃ b.ch o → BothLaid f s₁ s₂ a.ch 102 (pair (byte atom_match) (atom atom_name)) b
    → BothLaid f s s₁ c 184 cons_pattern a
    → PatternsLaid f s s₃ c (record {
      patterns = record { cons = a.inner; first_cons = a.first; rest_cons = a.rest; apply = o.apply; first_atom = b.first; rest_atom = b.rest; quote_nil = o.quote_nil; apply_nil = o.apply_nil };
      ch = o.ch;
    })
unfolding cons_optimizer_pattern atom_pattern enlist
patterns_laid {f} {s} {s₁} {s₂} {s₃} {c} {a} {b} {o} h₃ h₂ h₁ =
    let k : Grown f s₁ s₃ a.ch o.ch = grown_both h₂.grown h₃.grown in
    let x : a.ch.free ≡ c.free + 184 = h₁.free in
    let y : b.ch.free ≡ a.ch.free + 102 = h₂.free in
    let z : o.ch.free ≡ b.ch.free + 219 = h₃.free in
    record {
      grown = grown_both h₁.grown k;
      patterned = record {
        cons = shows_grown k h₁.inner;
        first_cons = shows_grown k h₁.first;
        rest_cons = shows_grown k h₁.rest;
        apply = h₃.apply;
        first_atom = shows_grown h₃.grown h₂.first;
        rest_atom = shows_grown h₃.grown h₂.rest;
        quote_nil = h₃.quote_nil;
        apply_nil = h₃.apply_nil;
      };
      units = h₃.units ∙ h₂.units ∙ h₁.units;
      free = omega arith;
    }

-- One purchase after another. Assumes nothing.
use Rattle.std.specs.Prelude.{Result, Ok, Err}
use Prim.Native.Nat.{ℕ, ◌+◌, ◌<◌}
use native.Mathlib.Omega.{arith}
use mathlib.Core.Path.{◌≡◌, refl, ◌∙◌, ap₂}
use mathlib.Core.List.{List, [], ◌∷◌}
use mathlib.Core.Bool.{Bool}
use Rattle.refusals.specs.declared.Refusal.{Refusal}
use Rattle.meaning.specs.Tree.{Tree, pair, nil, byte}
use Rattle.meaning.specs.Limits.{unit_limit, pair_cost, atom_cost}
use Rattle.store.specs.declared.Charges.{Charges}
use Rattle.store.specs.declared.Made.{Made}
use Rattle.store.specs.Nodes.{tree_at}
use Rattle.store.specs.Store.{Ready}
use Rattle.store.specs.Makers.{Grown, Bought, Over, MadeOk}
use Rattle.store.proofs.Ready.{grown_both, grown_ready, grown_tree, nil_ready}
use Rattle.store.proofs.Charging.{made_node, made_over}
use Rattle.substitute.specs.Sub.{sub_made}

-- nothing bought: a node that is there already
pub bought_none : {f s s' : List ℕ} {c : Charges} {q : ℕ} (t : Tree) → Grown f s s' c c → Ready f s' c q → tree_at f s' q ≡ t → Bought f s s' c c 0 q t
bought_none t g r e = record { stands = record { grown = g; ready = r; tree = e }; units = omega arith; free = refl }

-- the store only grew since: what was bought before is there
module _ {f s s₁ : List ℕ} {c c₁ : Charges} {k q : ℕ} {t : Tree} (h : Bought f s s₁ c c₁ k q t) where
  pub bought_ready : {m : ℕ} → Ready f s c m → Ready f s₁ c₁ m
  bought_ready r = grown_ready h.stands.grown r

  pub bought_tree : {m : ℕ} → Ready f s c m → tree_at f s₁ m ≡ tree_at f s m
  bought_tree r = grown_tree h.stands.grown r

  pub bought_then : {s₂ : List ℕ} {c₂ : Charges} {k' q' : ℕ} {t' : Tree} → Bought f s₁ s₂ c₁ c₂ k' q' t' → Bought f s s₂ c c₂ (k + k') q' t'
  bought_then {c₂} {k'} g =
      let x : c₁.units ≡ c.units + k = h.units in
      let y : c₂.units ≡ c₁.units + k' = g.units in
      record {
        stands = record { grown = grown_both h.stands.grown g.stands.grown; ready = g.stands.ready; tree = g.stands.tree };
        units = omega arith;
        free = g.free ∙ h.free;
      }

  pub over_then : {k' : ℕ} {r : Refusal} → Over c₁ k' r → Over c (k + k') r
  over_then {k'} o =
      let x : c₁.units ≡ c.units + k = h.units in
      let y : unit_limit < c₁.units + k' = o.over in
      record { refusal = o.refusal; over = omega arith }

  pub made_then : (s₂ : List ℕ) (k' : ℕ) (t' : Tree) (a : Result Made Refusal) → MadeOk f s₁ s₂ c₁ k' t' a → MadeOk f s s₂ c (k + k') t' a
  unfolding MadeOk
  made_then s₂ k' t' (Ok x) g = bought_then g
  made_then s₂ k' t' (Err r) g = over_then g

-- what was made is there
pub made_ready : (f s s' : List ℕ) (c : Charges) (k : ℕ) (t : Tree) (a : Result Made Refusal) → MadeOk f s s' c k t a → (x : Made) → a ≡ Ok x → Ready f s' x.ch x.node
made_ready f s s' c k t a h x e = (made_node f s s' c k t a h x e).stands.ready

-- what was made before it is there still
pub made_kept : (f s s₁ s₂ : List ℕ) (c : Charges) (x y : Made) (k k' : ℕ) (t t' : Tree) (a b : Result Made Refusal) → MadeOk f s₁ s₂ x.ch k' t' b → b ≡ Ok y → MadeOk f s s₁ c k t a → a ≡ Ok x → Ready f s₂ y.ch x.node
made_kept f s s₁ s₂ c x y k k' t t' a b h i g e = bought_ready (made_node f s₁ s₂ x.ch k' t' b h y i) (made_ready f s s₁ c k t a g x e)

-- a refusal at once refuses more
pub over_more : {c : Charges} {k : ℕ} {r : Refusal} (k' : ℕ) → Over c k r → Over c (k + k') r
over_more {c} {k} k' o = let x : unit_limit < c.units + k = o.over in record { refusal = o.refusal; over = omega arith }

pub made_refused : (f s s' : List ℕ) (c : Charges) (k : ℕ) (t : Tree) (r : Refusal) → Over c k r → MadeOk f s s' c k t (Err r)
unfolding MadeOk
made_refused f s s' c k t r o = o

-- ---- (o args): an atom, and two pairs

module _ (f s s₁ : List ℕ) (c : Charges) (o : ℕ) (a₁ : Result Made Refusal) (h₁ : MadeOk f s s₁ c (atom_cost (o ∷ [])) (byte o) a₁) where
  pub call_stops : (s' : List ℕ) (x : Tree) (r : Refusal) → a₁ ≡ Err r → MadeOk f s s' c (5 + (pair_cost + pair_cost)) x (Err r)
  unfolding atom_cost
  call_stops s' x r e = made_refused f s s' c _ x r (over_more (pair_cost + pair_cost) (made_over f s s₁ c 5 (byte o) a₁ h₁ r e))

  module _ (n₁ : Made) (e₁ : a₁ ≡ Ok n₁) where
    abbrev c₁ : Charges
    c₁ = n₁.ch

    b₁ : Bought f s s₁ c c₁ 5 n₁.node (byte o)
    unfolding atom_cost
    b₁ = made_node f s s₁ c 5 (byte o) a₁ h₁ n₁ e₁

    pub call_args : (m : ℕ) → Ready f s c m → Ready f s₁ c₁ m
    call_args m r = bought_ready b₁ r

    pub call_nil : Ready f s₁ c₁ 0
    call_nil = nil_ready f s₁ c₁ b₁.stands.ready.held

    module _ (s₂ : List ℕ) (a₂ : Result Made Refusal) (args : ℕ) (h₂ : MadeOk f s₁ s₂ c₁ pair_cost (pair (tree_at f s₁ args) (tree_at f s₁ 0)) a₂) where
      pub call_stops_2 : (s' : List ℕ) (x : Tree) (r : Refusal) → a₂ ≡ Err r → MadeOk f s s' c (5 + (pair_cost + pair_cost)) x (Err r)
      call_stops_2 s' x r e = made_refused f s s' c _ x r (over_then b₁ (over_more pair_cost (made_over f s₁ s₂ c₁ pair_cost _ a₂ h₂ r e)))

      pub call_made : (n₂ : Made) → a₂ ≡ Ok n₂ → (s₃ : List ℕ) (a₃ : Result Made Refusal) → MadeOk f s₂ s₃ n₂.ch pair_cost (pair (tree_at f s₂ n₁.node) (tree_at f s₂ n₂.node)) a₃ → Ready f s c args
          → MadeOk f s s₃ c (5 + (pair_cost + pair_cost)) (pair (byte o) (pair (tree_at f s args) nil)) a₃
      call_made n₂ e₂ s₃ a₃ h₃ r =
          let b₂ : Bought f s₁ s₂ c₁ n₂.ch pair_cost n₂.node (pair (tree_at f s₁ args) (tree_at f s₁ 0)) = made_node f s₁ s₂ c₁ pair_cost (pair (tree_at f s₁ args) (tree_at f s₁ 0)) a₂ h₂ n₂ e₂ in
          let e : tree_at f s₂ n₁.node ≡ byte o = bought_tree b₂ b₁.stands.ready ∙ b₁.stands.tree in
          let i : tree_at f s₂ n₂.node ≡ pair (tree_at f s args) nil = b₂.stands.tree ∙ ap₂ pair (bought_tree b₁ r) b₁.stands.ready.held.nil_at in
          let h : MadeOk f s₂ s₃ n₂.ch pair_cost (pair (byte o) (pair (tree_at f s args) nil)) a₃ = rw (e, i) at h₃ in
          made_then b₁ s₃ (pair_cost + pair_cost) _ a₃ (made_then b₂ s₃ pair_cost _ a₃ h)

-- ---- a maker's answer as one of substitution's

pub sub_node : (low : Bool) (m : Result Made Refusal) (x : Made) → m ≡ Ok x → Ok (record { ch = x.ch; low = low; node = x.node }) ≡ sub_made low m
sub_node low m x e = rw e

pub sub_refused : (low : Bool) (m : Result Made Refusal) (r : Refusal) → m ≡ Err r → Err r ≡ sub_made low m
sub_refused low m r e = rw e

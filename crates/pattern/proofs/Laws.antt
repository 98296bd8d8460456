-- What each call and each return of the matcher's functions needs. The premises stand in the order: latest call, tests, cells, nodes.
use Rattle.std.specs.Prelude.{Option as Got, Some, None}
use mathlib.Core.Path.{◌≡◌, refl, sym, ◌∙◌, ap}
use mathlib.Core.List.{List, [], ◌∷◌}
use mathlib.Core.Bool.{Bool, true, false, ◌&&◌, not}
use mathlib.Core.Option.{Option, none, some}
use mathlib.Core.Logic.{◌⊎◌, inl, inr}
use Prim.Native.Nat.{ℕ, ◌<◌}
use native.Mathlib.Omega.{arith}
use lib.Dec.{eqb}
use Rattle.std.specs.Cmp.Lexicographic.{pointwise}
use Rattle.meaning.specs.Tree.{Tree, atom, pair, same_bytes, equal_to}
use Rattle.meaning.specs.Match as meaning
use Rattle.meaning.proofs.Verdict.{is_matched, is_failed, is_third, in_part_verdict}
use Rattle.store.specs.declared.Cell.{Cell}
use Rattle.store.specs.declared.Cell.TheVariants.{Pair, Atom}
use Rattle.store.specs.declared.Charges.{Charges}
use Rattle.store.specs.Cells.{cell_at, bytes_at, Room}
use Rattle.store.specs.Nodes.{tree_at}
use Rattle.store.specs.Store.{Held, Ready}
use Rattle.store.specs.Makers.{Answered}
use Rattle.store.proofs.Ready as ready
use Rattle.store.proofs.Trees.{tree_pair}
use Rattle.sexp.specs.Tests.{is_byte_tree}
use Rattle.pattern.specs.declared.Bindings.{Bindings}
use Rattle.pattern.specs.declared.Match.{Match}
use Rattle.pattern.specs.declared.Match.TheVariants.{Matched, NoMatch, TooManyNames}
use Rattle.pattern.specs.Bound.{binding_at, bindings_at, Named, Bound, no_bindings, inserted, match_at, BoundIn, MatchOk, got_at, GotIn, GotOk}
use Rattle.pattern.specs.Cases.{takes_any, in_parts}
use Rattle.pattern.proofs.Trees as trees
use Rattle.pattern.proofs.Kept as kept

-- ---- answers

-- the same answer for what is equal
pub match_as : {f s s' : List ℕ} {c : Charges} {a : Match} {m m' : meaning.Match} → m ≡ m' → MatchOk f s s' c a m → MatchOk f s s' c a m'
match_as e h = record { answer = h.answer ∙ ap meaning.verdict e; bound = h.bound; grown = h.grown }

module _ {f s : List ℕ} {c : Charges} {m : meaning.Match} where
  -- with no change of the room
  pub match_known : (ks : Bindings) → Bound f s c ks → meaning.matched (bindings_at f s ks) ≡ m → MatchOk f s s c (Matched ks) m
  unfolding match_at BoundIn meaning.verdict
  match_known ks h e = record { answer = ap meaning.verdict e; bound = h; grown = ready.grown_none f s c h.first_node.held }

  pub match_none : Held f s c → meaning.matched [] ≡ m → MatchOk f s s c (Matched no_bindings) m
  match_none h e = match_known no_bindings (kept.none_bound h) (ap meaning.matched (kept.none_are f s) ∙ e)

  pub match_not : Held f s c → meaning.no_match [] ≡ m → MatchOk f s s c NoMatch m
  unfolding match_at BoundIn meaning.verdict
  match_not h e = record { answer = ap meaning.verdict e; bound = tt; grown = ready.grown_none f s c h }

-- what is bound are nodes; what is found is one
pub bound_of : {f s s' : List ℕ} {c : Charges} {a : Match} {m : meaning.Match} {ks : Bindings} → MatchOk f s s' c a m → a ≡ Matched ks → Bound f s' c ks
unfolding BoundIn
bound_of h e = rw e at h.bound

pub found_of : {f s s' : List ℕ} {c : Charges} {g : Got ℕ} {t : Option Tree} {n : ℕ} → GotOk f s s' c g t → g ≡ Some n → Ready f s' c n
unfolding GotIn
found_of h e = rw e at h.found

-- ---- unify_bindings

module _ (ks : List meaning.Binding) (n : List ℕ) (t : Tree) where
  found_equal : (u : Tree) → some u ≡ meaning.get n ks → true ≡ equal_to u t → meaning.matched ks ≡ meaning.unify_bindings ks n t
  unfolding meaning.unify_bindings
  found_equal u e d = rw (← e, ← d, meaning.unify_bindings)

  found_other : (u : Tree) → some u ≡ meaning.get n ks → false ≡ equal_to u t → meaning.no_match [] ≡ meaning.unify_bindings ks n t
  unfolding meaning.unify_bindings
  found_other u e d = rw (← e, ← d, meaning.unify_bindings)

  not_found : none ≡ meaning.get n ks → meaning.insert (record { name = n; node = t }) ks ≡ meaning.unify_bindings ks n t
  unfolding meaning.unify_bindings
  not_found e = rw (← e, meaning.unify_bindings)

module _ (f s : List ℕ) (c : Charges) (ks : Bindings) (z : List ℕ) (n m : ℕ) (g : Got ℕ) where
  -- the name is known
  module _ (u : ℕ) (h : GotOk f s s c g (meaning.get z (bindings_at f s ks))) (e : g ≡ Some u) (ez : z ≡ bytes_at f s n) where
    is_at : some (tree_at f s u) ≡ meaning.get (bytes_at f s n) (bindings_at f s ks)
    unfolding got_at
    is_at = rw (← ez) (rw e at h.answer)

    module _ (s₁ : List ℕ) (r : Bool) (a : Answered f s s₁ c r (equal_to (tree_at f s u) (tree_at f s m))) (b : Bound f s c ks) where
      pub unify_same : r ≡ true → MatchOk f s s₁ c (Matched ks) (meaning.unify_bindings (bindings_at f s ks) (bytes_at f s n) (tree_at f s m))
      unfolding match_at BoundIn meaning.verdict
      unify_same d = record {
        answer = ap meaning.yes (kept.bindings_after a.grown b) ∙ ap meaning.verdict (found_equal (bindings_at f s ks) (bytes_at f s n) (tree_at f s m) (tree_at f s u) is_at (sym d ∙ a.answer));
        bound = kept.bound_after a.grown b;
        grown = a.grown;
      }

      pub unify_other : r ≡ false → MatchOk f s s₁ c NoMatch (meaning.unify_bindings (bindings_at f s ks) (bytes_at f s n) (tree_at f s m))
      unfolding match_at BoundIn meaning.verdict
      unify_other d = record {
        answer = ap meaning.verdict (found_other (bindings_at f s ks) (bytes_at f s n) (tree_at f s m) (tree_at f s u) is_at (sym d ∙ a.answer));
        bound = tt;
        grown = a.grown;
      }

  -- it is not
  pub unify_new : (a : Match) → a ≡ inserted ks n m → g ≡ None → GotOk f s s c g (meaning.get z (bindings_at f s ks)) → z ≡ bytes_at f s n → Bound f s c ks → Named f s c n → Ready f s c m → MatchOk f s s c a (meaning.unify_bindings (bindings_at f s ks) (bytes_at f s n) (tree_at f s m))
  unfolding got_at binding_at
  unify_new a ea e h ez b o r =
      let w : none ≡ meaning.get (bytes_at f s n) (bindings_at f s ks) = rw (← ez) (rw e at h.answer) in
      rw ea (record {
        answer = kept.insert_is ks b o r ∙ ap meaning.verdict (not_found (bindings_at f s ks) (bytes_at f s n) (tree_at f s m) w);
        bound = kept.insert_bound ks b o r;
        grown = ready.grown_none f s c r.held;
      })

-- ---- tests

-- a cell that is some pair, for an arm that binds no parts
pub record SomePair (q : Cell) : Type 0 where
  pub left : ℕ
  pub right : ℕ
  pub is : q ≡ Pair left right

pub some_pair : (q : Cell) (l r : ℕ) → q ≡ Pair l r → SomePair q
some_pair q l r e = record { left = l; right = r; is = e }

module _ (f s : List ℕ) (a b : ℕ) (u : Bool) (eu : u ≡ is_byte_tree meaning.sexp_match (tree_at f s a)) where
  pub any_no : u ≡ false → u ≡ takes_any (tree_at f s a) (tree_at f s b)
  any_no e = e ∙ trees.any_head (tree_at f s a) (tree_at f s b) (sym e ∙ eu)

  module _ (q : Cell) (eq : q ≡ cell_at s b) where
    pub any_pair : SomePair q → false ≡ takes_any (tree_at f s a) (tree_at f s b)
    any_pair h = rw (tree_pair f s b h.left h.right (sym eq ∙ h.is)) (trees.any_pair (tree_at f s a) (tree_at f s h.left) (tree_at f s h.right))

    pub any_atom : (v : Bool) → q ≡ Atom → v ≡ is_byte_tree meaning.sexp_match (tree_at f s b) → u ≡ true → not v ≡ takes_any (tree_at f s a) (tree_at f s b)
    any_atom v h ev e =
        let z = ready.look_atom f s b q eq h in
        rw ev (rw z (trees.any_atom (tree_at f s a) (bytes_at f s b) (sym e ∙ eu)))

-- ---- match_atom: the pattern is the atom p

module _ (f s : List ℕ) (c : Charges) (p n : ℕ) (ks : Bindings) (q : Cell) (eq : q ≡ cell_at s n) (hp : Named f s c p) (b : Bound f s c ks) where
  pub atom_at_pair : SomePair q → MatchOk f s s c NoMatch (meaning.match_sexp (tree_at f s p) (tree_at f s n) (bindings_at f s ks))
  atom_at_pair h = match_not hp.ready.held (rw (kept.name_tree hp, tree_pair f s n h.left h.right (sym eq ∙ h.is)) (trees.atom_pair (bytes_at f s p) (bindings_at f s ks) (tree_at f s h.left) (tree_at f s h.right)))

  module _ (z : List ℕ) (u : Bool) (eu : u ≡ same_bytes z (bytes_at f s n)) (ez : z ≡ bytes_at f s p) (h : q ≡ Atom) where
    pub atom_yes : u ≡ true → MatchOk f s s c (Matched ks) (meaning.match_sexp (tree_at f s p) (tree_at f s n) (bindings_at f s ks))
    atom_yes e = match_known ks b (rw (kept.name_tree hp, ready.look_atom f s n q eq h) (trees.atom_same (bytes_at f s p) (bindings_at f s ks) (bytes_at f s n) (rw (← ez) (sym e ∙ eu))))

    pub atom_no : u ≡ false → MatchOk f s s c NoMatch (meaning.match_sexp (tree_at f s p) (tree_at f s n) (bindings_at f s ks))
    atom_no e = match_not hp.ready.held (rw (kept.name_tree hp, ready.look_atom f s n q eq h) (trees.atom_other (bytes_at f s p) (bindings_at f s ks) (bytes_at f s n) (rw (← ez) (sym e ∙ eu))))

-- ---- at_atom: the pattern (a . b) at the atom n

pub name_here : (f s : List ℕ) (c : Charges) (n : ℕ) (q : Cell) → q ≡ cell_at s n → q ≡ Atom → Ready f s c n → Named f s c n
name_here f s c n q eq e r = record { ready = r; is_atom = sym eq ∙ e }

module _ (f s : List ℕ) (c : Charges) (a b n : ℕ) (ks : Bindings) where
  abbrev Goal : List ℕ → Match → Type 0
  Goal s₁ r = MatchOk f s s₁ c r (meaning.match_sexp (pair (tree_at f s a) (tree_at f s b)) (tree_at f s n) (bindings_at f s ks))

  pub at_pair : (q : Cell) → q ≡ cell_at s b → SomePair q → Named f s c n → Goal s NoMatch
  at_pair q eq h hn = match_not hn.ready.held (rw (kept.name_tree hn, tree_pair f s b h.left h.right (sym eq ∙ h.is)) (trees.at_pair (tree_at f s a) (tree_at f s h.left) (tree_at f s h.right) (bytes_at f s n) (bindings_at f s ks)))

  module _ (q : Cell) (eq : q ≡ cell_at s b) (h : q ≡ Atom) (hn : Named f s c n) where
    shape : {m : meaning.Match} → m ≡ meaning.match_sexp (pair (tree_at f s a) (atom (bytes_at f s b))) (atom (bytes_at f s n)) (bindings_at f s ks) → m ≡ meaning.match_sexp (pair (tree_at f s a) (tree_at f s b)) (tree_at f s n) (bindings_at f s ks)
    shape e = rw (ready.look_atom f s b q eq h, kept.name_tree hn) e

    test_b : {v x : Bool} → v ≡ is_byte_tree meaning.atom_match (tree_at f s b) → v ≡ x → x ≡ is_byte_tree meaning.atom_match (atom (bytes_at f s b))
    test_b ev d = rw (ready.look_atom f s b q eq h) at (sym d ∙ ev)

    test_n : {v x : Bool} → v ≡ is_byte_tree meaning.atom_match (tree_at f s n) → v ≡ x → x ≡ is_byte_tree meaning.atom_match (atom (bytes_at f s n))
    test_n ev d = rw (kept.name_tree hn) at (sym d ∙ ev)

    test_both : {v x : Bool} → v ≡ (is_byte_tree meaning.sexp_match (tree_at f s b) && is_byte_tree meaning.sexp_match (tree_at f s n)) → v ≡ x → x ≡ (is_byte_tree meaning.sexp_match (atom (bytes_at f s b)) && is_byte_tree meaning.sexp_match (atom (bytes_at f s n)))
    test_both ev d = rw (ready.look_atom f s b q eq h, kept.name_tree hn) at (sym d ∙ ev)

    unified : {m : meaning.Match} {s₁ : List ℕ} {r : Match} → MatchOk f s s₁ c r (meaning.unify_bindings (bindings_at f s ks) (bytes_at f s b) (tree_at f s n)) → meaning.unify_bindings (bindings_at f s ks) (bytes_at f s b) (atom (bytes_at f s n)) ≡ m → MatchOk f s s₁ c r m
    unified g e = match_as (rw (kept.name_tree hn) e) g

    -- ($ . b)
    module _ (u : Bool) (eu : u ≡ is_byte_tree meaning.atom_match (tree_at f s a)) (d : u ≡ true) (v : Bool) (ev : v ≡ is_byte_tree meaning.atom_match (tree_at f s b)) where
      module _ (dv : v ≡ true) (w : Bool) (ew : w ≡ is_byte_tree meaning.atom_match (tree_at f s n)) where
        pub dollar_both : (k : Bindings) → k ≡ no_bindings → w ≡ true → Goal s (Matched k)
        dollar_both k ek dw = rw ek (match_none hn.ready.held (shape (trees.dollar_both (bytes_at f s b) (bytes_at f s n) (bindings_at f s ks) (tree_at f s a) (sym d ∙ eu) (test_b ev dv) (test_n ew dw))))

        pub dollar_one : w ≡ false → Goal s NoMatch
        dollar_one dw = match_not hn.ready.held (shape (trees.dollar_one (bytes_at f s b) (bytes_at f s n) (bindings_at f s ks) (tree_at f s a) (sym d ∙ eu) (test_b ev dv) (test_n ew dw)))

      pub dollar_name : (s₁ : List ℕ) (r : Match) → MatchOk f s s₁ c r (meaning.unify_bindings (bindings_at f s ks) (bytes_at f s b) (tree_at f s n)) → v ≡ false → Goal s₁ r
      dollar_name s₁ r g dv = unified g (shape (trees.dollar_name (bytes_at f s b) (bytes_at f s n) (bindings_at f s ks) (tree_at f s a) (sym d ∙ eu) (test_b ev dv)))

    -- any other head
    module _ (u : Bool) (eu : u ≡ is_byte_tree meaning.atom_match (tree_at f s a)) (d : u ≡ false) (v : Bool) (ev : v ≡ is_byte_tree meaning.sexp_match (tree_at f s a)) where
      pub other_head : v ≡ false → Goal s NoMatch
      other_head dv = match_not hn.ready.held (shape (trees.at_other (bytes_at f s b) (bytes_at f s n) (bindings_at f s ks) (tree_at f s a) (sym d ∙ eu) (sym dv ∙ ev)))

      -- (: . b)
      module _ (dv : v ≡ true) (w : Bool) (ew : w ≡ (is_byte_tree meaning.sexp_match (tree_at f s b) && is_byte_tree meaning.sexp_match (tree_at f s n))) where
        pub colon_both : (k : Bindings) → k ≡ no_bindings → w ≡ true → Goal s (Matched k)
        colon_both k ek dw = rw ek (match_none hn.ready.held (shape (trees.colon_both (bytes_at f s b) (bytes_at f s n) (bindings_at f s ks) (tree_at f s a) (sym d ∙ eu) (sym dv ∙ ev) (test_both ew dw))))

        pub colon_name : (s₁ : List ℕ) (r : Match) → MatchOk f s s₁ c r (meaning.unify_bindings (bindings_at f s ks) (bytes_at f s b) (tree_at f s n)) → w ≡ false → Goal s₁ r
        colon_name s₁ r g dw = unified g (shape (trees.colon_name (bytes_at f s b) (bytes_at f s n) (bindings_at f s ks) (tree_at f s a) (sym d ∙ eu) (sym dv ∙ ev) (test_both ew dw)))

-- ---- match_node

-- what takes any pair ends in a name
pub any_named : (f s : List ℕ) (c : Charges) (a b : ℕ) (u : Bool) → u ≡ takes_any (tree_at f s a) (tree_at f s b) → u ≡ true → Ready f s c b → Named f s c b
any_named f s c a b u eu d r = go (cell_at s b) refl
  where
    go : (q : Cell) → cell_at s b ≡ q → Named f s c b
    go (Pair l r') e =
        let w : false ≡ takes_any (tree_at f s a) (tree_at f s b) = rw (tree_pair f s b l r' e) (trees.any_pair (tree_at f s a) (tree_at f s l) (tree_at f s r')) in
        let z : ◌≡◌ {A = ℕ} 0 1 = cc in
        absurd (omega arith)
    go Atom e = record { ready = r; is_atom = e }

module _ (f s : List ℕ) (c : Charges) (p a b : ℕ) (q : Cell) (ep : q ≡ Pair a b) (eq : q ≡ cell_at s p) where
  pub below_left : Ready f s c p → (k : ℕ) → p ≡ k → a < k
  below_left r k e = let z : a < p = ready.falls_left f s c p a b q ep eq in omega arith

  pub room_left : Ready f s c p → Room s a
  room_left r = ready.room_left f s c p a b q ep eq (ready.room f s c p r)

  pub room_right : Ready f s c p → Room s b
  room_right r = ready.room_right f s c p a b q ep eq (ready.room f s c p r)

  pub any_name : (u : Bool) → u ≡ takes_any (tree_at f s a) (tree_at f s b) → u ≡ true → Ready f s c p → Named f s c b
  any_name u eu d r = any_named f s c a b u eu d (ready.ready_right f s c p a b q ep eq r)

  pub below_right : Ready f s c p → (k : ℕ) → p ≡ k → b < k
  below_right r k e = let z : b < p = ready.falls_right f s c p a b q ep eq in omega arith

-- the pattern is a pair, the expression an atom
pub whole_atom : {f s s₁ : List ℕ} {c : Charges} {p n a b : ℕ} {ks : Bindings} {x : Match} {q : Cell} → MatchOk f s s₁ c x (meaning.match_sexp (pair (tree_at f s a) (tree_at f s b)) (tree_at f s n) (bindings_at f s ks)) → q ≡ cell_at s p → q ≡ Pair a b → Ready f s c p → Ready f s c n → Bound f s c ks → MatchOk f s s₁ c x (meaning.match_sexp (tree_at f s p) (tree_at f s n) (bindings_at f s ks))
whole_atom {f} {s} {s₁} {c} {p} {n} {a} {b} h eq ep rp rn bd = rw (tree_pair f s p a b (sym eq ∙ ep)) h

-- both are pairs
module _ (f s : List ℕ) (c : Charges) (p n a b l r : ℕ) (ks : Bindings) (q q' : Cell) (eq : q ≡ cell_at s p) (ep : q ≡ Pair a b) (eq' : q' ≡ cell_at s n) (ep' : q' ≡ Pair l r) (rp : Ready f s c p) where
  abbrev Whole : meaning.Match
  Whole = meaning.match_sexp (tree_at f s p) (tree_at f s n) (bindings_at f s ks)

  pub any_is : (u : Bool) → u ≡ takes_any (tree_at f s a) (tree_at f s b) → u ≡ true → meaning.unify_bindings (bindings_at f s ks) (bytes_at f s b) (tree_at f s n) ≡ Whole
  any_is u eu d =
      let nb : Named f s c b = any_named f s c a b u eu d (ready.ready_right f s c p a b q ep eq rp) in
      let t : true ≡ takes_any (tree_at f s a) (atom (bytes_at f s b)) = rw (kept.name_tree nb) at (sym d ∙ eu) in
      rw (tree_pair f s p a b (sym eq ∙ ep), kept.name_tree nb, tree_pair f s n l r (sym eq' ∙ ep')) (trees.pair_any (tree_at f s a) (bytes_at f s b) (tree_at f s l) (tree_at f s r) (bindings_at f s ks) t)

  parts_are : (u : Bool) → u ≡ takes_any (tree_at f s a) (tree_at f s b) → u ≡ false → in_parts (tree_at f s a) (tree_at f s b) (tree_at f s l) (tree_at f s r) (bindings_at f s ks) ≡ Whole
  parts_are u eu d = rw (tree_pair f s p a b (sym eq ∙ ep), tree_pair f s n l r (sym eq' ∙ ep')) (trees.pair_parts (tree_at f s a) (tree_at f s b) (tree_at f s l) (tree_at f s r) (bindings_at f s ks) (sym d ∙ eu))

module _ {f s s₁ : List ℕ} {c : Charges} {p n a b l r : ℕ} {ks : Bindings} {x : Match} {q q' : Cell} {u : Bool} where
  pub whole_any : MatchOk f s s₁ c x (meaning.unify_bindings (bindings_at f s ks) (bytes_at f s b) (tree_at f s n)) → u ≡ takes_any (tree_at f s a) (tree_at f s b) → u ≡ true → q ≡ cell_at s p → q ≡ Pair a b → q' ≡ cell_at s n → q' ≡ Pair l r → Ready f s c p → Ready f s c n → Bound f s c ks → MatchOk f s s₁ c x (meaning.match_sexp (tree_at f s p) (tree_at f s n) (bindings_at f s ks))
  whole_any h eu d eq ep eq' ep' rp rn bd = match_as (any_is f s c p n a b l r ks q q' eq ep eq' ep' rp u eu d) h

  -- the left part did not match
  pub whole_not : MatchOk f s s₁ c x (meaning.match_sexp (tree_at f s a) (tree_at f s l) (bindings_at f s ks)) → x ≡ NoMatch → u ≡ takes_any (tree_at f s a) (tree_at f s b) → u ≡ false → q ≡ cell_at s p → q ≡ Pair a b → q' ≡ cell_at s n → q' ≡ Pair l r → Ready f s c p → Ready f s c n → Bound f s c ks → MatchOk f s s₁ c NoMatch (meaning.match_sexp (tree_at f s p) (tree_at f s n) (bindings_at f s ks))
  unfolding match_at BoundIn meaning.verdict
  whole_not h ex eu d eq ep eq' ep' rp rn bd =
      let (ds, e) = is_failed (meaning.match_sexp (tree_at f s a) (tree_at f s l) (bindings_at f s ks)) (rw ex at h.answer) in
      record {
        answer = ap meaning.verdict (trees.parts_not (tree_at f s a) (tree_at f s b) (tree_at f s l) (tree_at f s r) (bindings_at f s ks) ds e ∙ parts_are f s c p n a b l r ks q q' eq ep eq' ep' rp u eu d);
        bound = tt;
        grown = h.grown;
      }

  pub whole_many : MatchOk f s s₁ c x (meaning.match_sexp (tree_at f s a) (tree_at f s l) (bindings_at f s ks)) → x ≡ TooManyNames → u ≡ takes_any (tree_at f s a) (tree_at f s b) → u ≡ false → q ≡ cell_at s p → q ≡ Pair a b → q' ≡ cell_at s n → q' ≡ Pair l r → Ready f s c p → Ready f s c n → Bound f s c ks → MatchOk f s s₁ c TooManyNames (meaning.match_sexp (tree_at f s p) (tree_at f s n) (bindings_at f s ks))
  unfolding match_at BoundIn meaning.verdict
  whole_many h ex eu d eq ep eq' ep' rp rn bd =
      let e : meaning.too_many_names ≡ meaning.match_sexp (tree_at f s a) (tree_at f s l) (bindings_at f s ks) = is_third _ (rw ex at h.answer) in
      record {
        answer = ap meaning.verdict (trees.parts_many (tree_at f s a) (tree_at f s b) (tree_at f s l) (tree_at f s r) (bindings_at f s ks) e ∙ parts_are f s c p n a b l r ks q q' eq ep eq' ep' rp u eu d);
        bound = tt;
        grown = h.grown;
      }

  pub whole_failed : MatchOk f s s₁ c x (meaning.match_sexp (tree_at f s a) (tree_at f s l) (bindings_at f s ks)) → ((js : Bindings) → x ≡ Matched js → ⊥) → u ≡ takes_any (tree_at f s a) (tree_at f s b) → u ≡ false → q ≡ cell_at s p → q ≡ Pair a b → q' ≡ cell_at s n → q' ≡ Pair l r → Ready f s c p → Ready f s c n → Bound f s c ks → MatchOk f s s₁ c x (meaning.match_sexp (tree_at f s p) (tree_at f s n) (bindings_at f s ks))
  whole_failed h z eu d eq ep eq' ep' rp rn bd = go x refl
    where
      go : (y : Match) → x ≡ y → MatchOk f s s₁ c x (meaning.match_sexp (tree_at f s p) (tree_at f s n) (bindings_at f s ks))
      go (Matched js) e = absurd (z js e)
      go NoMatch e = rw e (whole_not h e eu d eq ep eq' ep' rp rn bd)
      go TooManyNames e = rw e (whole_many h e eu d eq ep eq' ep' rp rn bd)

  -- it did, and then the right part was matched
  pub whole_both : {s₂ : List ℕ} {y : Match} {js : Bindings} → MatchOk f s₁ s₂ c y (meaning.match_sexp (tree_at f s₁ b) (tree_at f s₁ r) (bindings_at f s₁ js)) → MatchOk f s s₁ c x (meaning.match_sexp (tree_at f s a) (tree_at f s l) (bindings_at f s ks)) → x ≡ Matched js → u ≡ takes_any (tree_at f s a) (tree_at f s b) → u ≡ false → q ≡ cell_at s p → q ≡ Pair a b → q' ≡ cell_at s n → q' ≡ Pair l r → Ready f s c p → Ready f s c n → Bound f s c ks → MatchOk f s s₂ c y (meaning.match_sexp (tree_at f s p) (tree_at f s n) (bindings_at f s ks))
  unfolding match_at
  whole_both {s₂} {y} {js} g h ex eu d eq ep eq' ep' rp rn bd =
      let tb : tree_at f s₁ b ≡ tree_at f s b = ready.grown_tree h.grown (ready.ready_right f s c p a b q ep eq rp) in
      let tr : tree_at f s₁ r ≡ tree_at f s r = ready.grown_tree h.grown (ready.ready_right f s c n l r q' ep' eq' rn) in
      let e : meaning.matched (bindings_at f s₁ js) ≡ meaning.match_sexp (tree_at f s a) (tree_at f s l) (bindings_at f s ks) = is_matched _ _ (rw ex at h.answer) in
      let i : meaning.in_part true (meaning.match_sexp (tree_at f s b) (tree_at f s r) (bindings_at f s₁ js)) ≡ meaning.match_sexp (tree_at f s p) (tree_at f s n) (bindings_at f s ks) =
      trees.parts_matched (tree_at f s a) (tree_at f s b) (tree_at f s l) (tree_at f s r) (bindings_at f s ks) (bindings_at f s₁ js) e ∙ parts_are f s c p n a b l r ks q q' eq ep eq' ep' rp u eu d in
      record {
        answer = g.answer ∙ rw (tb, tr) (sym (in_part_verdict true (meaning.match_sexp (tree_at f s b) (tree_at f s r) (bindings_at f s₁ js))) ∙ ap meaning.verdict i);
        bound = g.bound;
        grown = ready.grown_both h.grown g.grown;
      }

-- the nodes that the right part's match is asked of
pub after_match : {f s s₁ : List ℕ} {c : Charges} {x : Match} {m : meaning.Match} {k : ℕ} → MatchOk f s s₁ c x m → Ready f s c k → Ready f s₁ c k
after_match h r = ready.grown_ready h.grown r

-- ---- what a match binds a name to: the law for a caller

module _ {f s s' : List ℕ} {c : Charges} {a : Match} {m : meaning.Match} (h : MatchOk f s s' c a m) where
  pub got_in : {ks : Bindings} → a ≡ Matched ks → (name : List ℕ) → meaning.get name (bindings_at f s' ks) ≡ meaning.got name m
  unfolding match_at meaning.got
  got_in {ks} e name = ap (meaning.got name) (is_matched m (bindings_at f s' ks) (rw e at h.answer))

  pub got_not : a ≡ NoMatch → (name : List ℕ) → none ≡ meaning.got name m
  unfolding match_at meaning.got
  got_not e name = let (ds, i) = is_failed m (rw e at h.answer) in ap (meaning.got name) i

  pub got_many : a ≡ TooManyNames → (name : List ℕ) → none ≡ meaning.got name m
  unfolding match_at meaning.got
  got_many e name = ap (meaning.got name) (is_third m (rw e at h.answer))

-- ---- matched_node and got_node

pub bound_none : (f s : List ℕ) (c : Charges) (k : Bindings) (n : ℕ) → k ≡ no_bindings → Ready f s c n → Bound f s c k
bound_none f s c k n e r = rw e (kept.none_bound r.held)

pub from_none : (f s s₁ : List ℕ) (c : Charges) (a : Match) (x y : Tree) (k : Bindings) → MatchOk f s s₁ c a (meaning.match_sexp x y (bindings_at f s k)) → k ≡ no_bindings → MatchOk f s s₁ c a (meaning.match_sexp x y [])
from_none f s s₁ c a x y k h e = match_as (rw e (ap (meaning.match_sexp x y) (kept.none_are f s))) h

module _ {f s s₁ : List ℕ} {c : Charges} {a : Match} {m : meaning.Match} where
  pub got_matched : {g : Got ℕ} {ks : Bindings} (name : List ℕ) → GotOk f s₁ s₁ c g (meaning.get name (bindings_at f s₁ ks)) → MatchOk f s s₁ c a m → a ≡ Matched ks → GotOk f s s₁ c g (meaning.got name m)
  got_matched {g} {ks} name k h e = record { answer = k.answer ∙ got_in h e name; found = k.found; grown = h.grown }

  pub got_failed : (name : List ℕ) → MatchOk f s s₁ c a m → (a ≡ NoMatch) ⊎ (a ≡ TooManyNames) → GotOk f s s₁ c None (meaning.got name m)
  unfolding got_at GotIn
  got_failed name h (inl e) = record { answer = got_not h e name; found = tt; grown = h.grown }
  got_failed name h (inr e) = record { answer = got_many h e name; found = tt; grown = h.grown }

-- the two tests of bytes are one
bytes_tested : (x y : List ℕ) → pointwise eqb x y ≡ same_bytes x y
unfolding same_bytes
bytes_tested [] [] = refl
bytes_tested [] (b ∷ y) = refl
bytes_tested (a ∷ x) [] = refl
bytes_tested (a ∷ x) (b ∷ y) = ap (eqb a b &&◌) (bytes_tested x y)

pub bytes_alike : (x y z : List ℕ) (u : Bool) → u ≡ pointwise eqb x z → z ≡ y → u ≡ same_bytes x y
bytes_alike x y z u e ez = e ∙ rw ez (bytes_tested x y)

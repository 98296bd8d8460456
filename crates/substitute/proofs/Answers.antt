-- What each call and each return of substitution needs. Assumes nothing.
use Rattle.std.specs.Prelude.{Result, Ok, Err}
use Prim.Native.Nat.{ℕ, ◌+◌, ◌*◌, ◌<◌}
use native.Mathlib.Omega.{arith}
use native.Mathlib.Nat.{add_comm, zero-add}
use mathlib.Core.Path.{◌≡◌, refl, sym, ◌∙◌, ap, ap₂}
use mathlib.Core.List.{List}
use mathlib.Core.Bool.{Bool, true, false, ◌||◌}
use Rattle.refusals.specs.declared.Refusal.{Refusal}
use Rattle.meaning.specs.Tree.{Tree, atom, pair, is_byte}
use Rattle.meaning.specs.Limits.{pair_cost}
use Rattle.meaning.specs.Substitute.{sub_turns, is_low, path_from_args, path_cost, is_proper, sub_args, sub_each, sub_cost, sub_each_cost, reads_low, reads_low_each}
use Rattle.store.specs.declared.Cell.{Cell}
use Rattle.store.specs.declared.Cell.TheVariants.{Pair, Atom}
use Rattle.store.specs.declared.Charges.{Charges}
use Rattle.store.specs.declared.Made.{Made}
use Rattle.store.specs.Cells.{cell_at, bytes_at}
use Rattle.store.specs.Nodes.{tree_at}
use Rattle.store.specs.Store.{Ready}
use Rattle.store.specs.Makers.{Grown, Over, MadeOk}
use Rattle.store.proofs.Ready.{grown_none, grown_ready, grown_tree, falls_left, falls_right, look_pair, look_atom, ready_right}
use Rattle.sexp.specs.Tests.{is_byte_tree}
use Rattle.pattern.specs.Bound.{Named}
use Rattle.patterns.specs.Patterns.{Shows}
use Rattle.patterns.proofs.Laws.{shows_grown}
use Rattle.substitute.specs.declared.Substituted.{Substituted}
use Rattle.substitute.specs.Sub.{head_tree, head_cost, head_low, list_tree, list_cost, list_low, Replaced, SubOk, sub_made}
use Rattle.substitute.proofs.Bought.{bought_none, bought_then, over_then, over_more}
use Rattle.substitute.proofs.Turns.{named_tree}

-- ---- the definition by the head of the body

list_of_head : (h r args : Tree) → is_byte_tree 1 h ≡ false
    → (sub_cost (pair h r) args ≡ head_cost h args + list_cost r args) × (sub_args (pair h r) args ≡ list_tree (head_tree h args) r args) × (reads_low (pair h r) ≡ list_low (head_low h) r)
unfolding sub_cost sub_args reads_low head_cost head_tree head_low list_cost list_tree list_low is_byte_tree
list_of_head (atom b) r args q = let z : is_byte 1 b ≡ false = q in (rw (z, sub_cost) (sym (zero-add (list_cost r args))), rw (z, sub_args), rw z)
list_of_head (pair x y) r args q = (refl, refl, refl)

quote_stays : (h r args : Tree) → is_byte_tree 1 h ≡ true → (sub_cost (pair h r) args ≡ 0) × (sub_args (pair h r) args ≡ pair h r) × (reads_low (pair h r) ≡ false)
unfolding sub_cost sub_args reads_low is_byte_tree
quote_stays (atom b) r args q = let z : is_byte 1 b ≡ true = q in (rw (z, sub_cost), rw (z, sub_args), rw z)
quote_stays (pair x y) r args q = let z : false ≡ true = q in (cc, cc, cc)

proper_list : (h r args : Tree) (l : Bool) → is_proper r ≡ true
    → (list_cost r args ≡ pair_cost + sub_each_cost r args) × (list_tree h r args ≡ pair h (sub_each r args)) × (list_low l r ≡ (l || reads_low_each r))
unfolding list_cost list_tree list_low
proper_list h r args l e = (rw (e, list_cost), rw (e, list_tree), rw (e, list_low))

or_false : (l : Bool) → (l || false) ≡ l
or_false true = refl
or_false false = refl

improper_list : (h r args : Tree) (l : Bool) → is_proper r ≡ false → (list_cost r args ≡ 0) × (list_tree h r args ≡ args) × (list_low l r ≡ l)
unfolding list_cost list_tree list_low
improper_list h r args l e = (rw (e, list_cost), rw (e, list_tree), rw (e, list_low) (or_false l))

-- ---- answers

pub sub_is : (f s s' : List ℕ) (c : Charges) (k k' : ℕ) (t t' : Tree) (l l' : Bool) (a : Result Substituted Refusal) → SubOk f s s' c k t l a → k' ≡ k → t' ≡ t → l' ≡ l → SubOk f s s' c k' t' l' a
sub_is f s s' c k k' t t' l l' a h x y z = rw (x, y, z) h

pub sub_stop : (f s s' : List ℕ) (c : Charges) (k : ℕ) (t : Tree) (l : Bool) (r : Refusal) → Over c k r → SubOk f s s' c k t l (Err r)
unfolding SubOk
sub_stop f s s' c k t l r o = o

-- nothing made: a node that was there
pub sub_none : (f s : List ℕ) (c : Charges) (n : ℕ) (l : Bool) → Ready f s c n → SubOk f s s c 0 (tree_at f s n) l (Ok (record { ch = c; low = l; node = n }))
unfolding SubOk
sub_none f s c n l r = record { bought = bought_none (tree_at f s n) (grown_none f s c r.held) r refl; low = refl }

module _ (f s s₁ : List ℕ) (c : Charges) (k : ℕ) (t : Tree) (l : Bool) (a : Result Substituted Refusal) (h : SubOk f s s₁ c k t l a) where
  pub sub_over : (r : Refusal) → a ≡ Err r → Over c k r
  unfolding SubOk
  sub_over r e = rw e at h

  pub sub_done : (x : Substituted) → a ≡ Ok x → Replaced f s s₁ c k t l x
  unfolding SubOk
  sub_done x e = rw e at h

-- one after another: what was there is there, and costs add up
module _ {f s s₁ : List ℕ} {c : Charges} {k : ℕ} {t : Tree} {l : Bool} {x : Substituted} (h : Replaced f s s₁ c k t l x) where
  pub done_grown : Grown f s s₁ c x.ch
  done_grown = h.bought.stands.grown

  pub done_new : Ready f s₁ x.ch x.node
  done_new = h.bought.stands.ready

  pub done_old : (m : ℕ) → Ready f s c m → Ready f s₁ x.ch m
  done_old m r = grown_ready done_grown r

  pub done_tree : (m : ℕ) → Ready f s c m → tree_at f s₁ m ≡ tree_at f s m
  done_tree m r = grown_tree done_grown r

  pub done_shows : (m : ℕ) (u : Tree) → Shows f s c m u → Shows f s₁ x.ch m u
  done_shows m u q = shows_grown done_grown q

  pub sub_then : (s₂ : List ℕ) (k' : ℕ) (t' : Tree) (l' : Bool) (a : Result Substituted Refusal) → SubOk f s₁ s₂ x.ch k' t' l' a → SubOk f s s₂ c (k + k') t' l' a
  unfolding SubOk
  sub_then s₂ k' t' l' (Ok y) g = record { bought = bought_then h.bought g.bought; low = g.low }
  sub_then s₂ k' t' l' (Err r) g = over_then h.bought g

-- what `a || b` comes to, by a
pub low_first : (a b : Bool) → a ≡ true → true ≡ (a || b)
low_first a b e = rw e refl

pub low_second : (a b : Bool) → a ≡ false → b ≡ (a || b)
low_second a b e = rw e refl

pub made_sub : (f s s' : List ℕ) (c : Charges) (k : ℕ) (t : Tree) (l : Bool) (m : Result Made Refusal) → MadeOk f s s' c k t m → SubOk f s s' c k t l (sub_made l m)
unfolding MadeOk SubOk
made_sub f s s' c k t l (Ok x) h = record { bought = h; low = refl }
made_sub f s s' c k t l (Err r) h = h

-- ---- an atom of the body

pub atom_done : (f s s' : List ℕ) (c : Charges) (n args : ℕ) (l : Bool) (m : Result Made Refusal) (a : Result Substituted Refusal)
    → MadeOk f s s' c (path_cost (sub_turns (bytes_at f s n)) (tree_at f s args)) (path_from_args (sub_turns (bytes_at f s n)) (tree_at f s args)) m → l ≡ is_low (bytes_at f s n) → a ≡ sub_made l m → Named f s c n
    → SubOk f s s' c (sub_cost (tree_at f s n) (tree_at f s args)) (sub_args (tree_at f s n) (tree_at f s args)) (reads_low (tree_at f s n)) a
unfolding sub_cost sub_args reads_low
atom_done f s s' c n args l m a h e i r = rw (named_tree r, i, ← e) (made_sub f s s' c _ _ l m h)

-- ---- the measure falls

module _ (f s : List ℕ) (c : Charges) (body g rest t : ℕ) (q : Cell) (i : q ≡ Pair g rest) (e : q ≡ cell_at s body) (r : Ready f s c body) (z : 2 * body ≡ t) where
  pub below_head : 2 * g < t
  below_head = let o : g < body = falls_left f s c body g rest q i e in omega arith

  pub below_tail : 2 * rest < t
  below_tail = let o : rest < body = falls_right f s c body g rest q i e in omega arith

  pub below_first : 2 * g + 1 < t
  below_first = let o : g < body = falls_left f s c body g rest q i e in omega arith

  pub below_list : 2 * rest + 1 < t
  below_list = let o : rest < body = falls_right f s c body g rest q i e in omega arith

pub named : (f s : List ℕ) (c : Charges) (n : ℕ) (q : Cell) → q ≡ Atom → q ≡ cell_at s n → Ready f s c n → Named f s c n
named f s c n q i e r = record { ready = r; is_atom = sym e ∙ i }

-- a cell that is some pair, for an arm that does not bind both parts
pub record SomePair (q : Cell) : Type 0 where
  pub left : ℕ
  pub right : ℕ
  pub is : q ≡ Pair left right

abbrev pub some_pair : (q : Cell) (l r : ℕ) → q ≡ Pair l r → SomePair q
some_pair q l r e = record { left = l; right = r; is = e }

pub record LeftPair (q : Cell) (l : ℕ) : Type 0 where
  pub right : ℕ
  pub is : q ≡ Pair l right

abbrev pub left_pair : (q : Cell) (l r : ℕ) → q ≡ Pair l r → LeftPair q l
left_pair q l r e = record { right = r; is = e }

-- ---- the body is a pair

module _ (f s : List ℕ) (c : Charges) (body g args : ℕ) (q : Cell) (e : q ≡ cell_at s body) (n : LeftPair q g) (r : Ready f s c body) where
  tree : tree_at f s body ≡ pair (tree_at f s g) (tree_at f s n.right)
  tree = look_pair f s c body g n.right q n.is e

  pub tail_ready : Ready f s c n.right
  tail_ready = ready_right f s c body g n.right q n.is e r

  module _ (u : Bool) (eu : u ≡ is_byte_tree 1 (tree_at f s g)) where
    pub quote_kept : u ≡ true → SubOk f s s c (sub_cost (tree_at f s body) (tree_at f s args)) (sub_args (tree_at f s body) (tree_at f s args)) (reads_low (tree_at f s body)) (Ok (record { ch = c; low = false; node = body }))
    quote_kept z =
        let (k, t, l) = quote_stays (tree_at f s g) (tree_at f s n.right) (tree_at f s args) (sym eu ∙ z) in
        sub_is f s s c 0 _ (tree_at f s body) _ false _ _ (sub_none f s c body false r) (ap (λ w. sub_cost w (tree_at f s args)) tree ∙ k) (ap (λ w. sub_args w (tree_at f s args)) tree ∙ t ∙ sym tree) (ap reads_low tree ∙ l)

    -- no quote: the head, then the list
    module _ (no : u ≡ false) (s₁ : List ℕ) (a : Result Substituted Refusal) (h : SubOk f s s₁ c (head_cost (tree_at f s g) (tree_at f s args)) (head_tree (tree_at f s g) (tree_at f s args)) (head_low (tree_at f s g)) a) where
      pub head_stops : (w : Refusal) → a ≡ Err w
          → SubOk f s s₁ c (sub_cost (tree_at f s body) (tree_at f s args)) (sub_args (tree_at f s body) (tree_at f s args)) (reads_low (tree_at f s body)) (Err w)
      head_stops w z =
          let (k, t, l) = list_of_head (tree_at f s g) (tree_at f s n.right) (tree_at f s args) (sym eu ∙ no) in
          rw (tree, k) (sub_stop f s s₁ c _ _ _ w (over_more (list_cost (tree_at f s n.right) (tree_at f s args)) (sub_over f s s₁ c _ _ _ a h w z)))

      module _ (v : Substituted) (z : a ≡ Ok v) where
        rep : Replaced f s s₁ c (head_cost (tree_at f s g) (tree_at f s args)) (head_tree (tree_at f s g) (tree_at f s args)) (head_low (tree_at f s g)) v
        rep = sub_done f s s₁ c _ _ _ a h v z

        pub head_listed : (s₂ : List ℕ) (b : Result Substituted Refusal)
            → SubOk f s₁ s₂ v.ch (list_cost (tree_at f s₁ n.right) (tree_at f s₁ args)) (list_tree (tree_at f s₁ v.node) (tree_at f s₁ n.right) (tree_at f s₁ args)) (list_low v.low (tree_at f s₁ n.right)) b
            → Ready f s c args
            → SubOk f s s₂ c (sub_cost (tree_at f s body) (tree_at f s args)) (sub_args (tree_at f s body) (tree_at f s args)) (reads_low (tree_at f s body)) b
        head_listed s₂ b p ra =
            let (k, t, l) = list_of_head (tree_at f s g) (tree_at f s n.right) (tree_at f s args) (sym eu ∙ no) in
            let er : tree_at f s₁ n.right ≡ tree_at f s n.right = done_tree rep n.right tail_ready in
            let ea : tree_at f s₁ args ≡ tree_at f s args = done_tree rep args ra in
            let ev : tree_at f s₁ v.node ≡ head_tree (tree_at f s g) (tree_at f s args) = rep.bought.stands.tree in
            let p' : SubOk f s₁ s₂ v.ch (list_cost (tree_at f s n.right) (tree_at f s args)) (list_tree (head_tree (tree_at f s g) (tree_at f s args)) (tree_at f s n.right) (tree_at f s args)) (list_low (head_low (tree_at f s g)) (tree_at f s n.right)) b =
            rw (er, ea, ev, rep.low) at p in
            rw (tree, k, t, l) (sub_then rep s₂ _ _ _ b p')

  -- an operand, and those after it
  module _ (s₁ : List ℕ) (a : Result Substituted Refusal) (h : SubOk f s s₁ c (sub_cost (tree_at f s g) (tree_at f s args)) (sub_args (tree_at f s g) (tree_at f s args)) (reads_low (tree_at f s g)) a) where
    pub each_stops : (w : Refusal) → a ≡ Err w
        → SubOk f s s₁ c (sub_each_cost (tree_at f s body) (tree_at f s args)) (sub_each (tree_at f s body) (tree_at f s args)) (reads_low_each (tree_at f s body)) (Err w)
    unfolding sub_each_cost
    each_stops w z = rw tree (sub_stop f s s₁ c _ _ _ w (over_more (pair_cost + sub_each_cost (tree_at f s n.right) (tree_at f s args)) (sub_over f s s₁ c _ _ _ a h w z)))

    module _ (v : Substituted) (z : a ≡ Ok v) where
      one : Replaced f s s₁ c (sub_cost (tree_at f s g) (tree_at f s args)) (sub_args (tree_at f s g) (tree_at f s args)) (reads_low (tree_at f s g)) v
      one = sub_done f s s₁ c _ _ _ a h v z

      pub each_tail : Ready f s₁ v.ch n.right
      each_tail = done_old one n.right tail_ready

      pub each_args : Ready f s c args → Ready f s₁ v.ch args
      each_args ra = done_old one args ra

      pub each_shows : (m : ℕ) (u : Tree) → Shows f s c m u → Shows f s₁ v.ch m u
      each_shows m u q = done_shows one m u q

      module _ (s₂ : List ℕ) (b : Result Substituted Refusal) (p : SubOk f s₁ s₂ v.ch (sub_each_cost (tree_at f s₁ n.right) (tree_at f s₁ args)) (sub_each (tree_at f s₁ n.right) (tree_at f s₁ args)) (reads_low_each (tree_at f s₁ n.right)) b) (ra : Ready f s c args) where
        others : SubOk f s₁ s₂ v.ch (sub_each_cost (tree_at f s n.right) (tree_at f s args)) (sub_each (tree_at f s n.right) (tree_at f s args)) (reads_low_each (tree_at f s n.right)) b
        others = rw (done_tree one n.right tail_ready, done_tree one args ra) at p

        pub each_stops_2 : (w : Refusal) → b ≡ Err w
            → SubOk f s s₂ c (sub_each_cost (tree_at f s body) (tree_at f s args)) (sub_each (tree_at f s body) (tree_at f s args)) (reads_low_each (tree_at f s body)) (Err w)
        unfolding sub_each_cost
        each_stops_2 w j =
            let o : Over v.ch (sub_each_cost (tree_at f s n.right) (tree_at f s args) + pair_cost) w = over_more pair_cost (sub_over f s₁ s₂ v.ch _ _ _ b others w j) in
            let o' : Over v.ch (pair_cost + sub_each_cost (tree_at f s n.right) (tree_at f s args)) w = rw (add_comm (sub_each_cost (tree_at f s n.right) (tree_at f s args)) pair_cost) at o in
            rw tree (sub_stop f s s₂ c _ _ _ w (over_then one.bought o'))

        module _ (y : Substituted) (j : b ≡ Ok y) where
          two : Replaced f s₁ s₂ v.ch (sub_each_cost (tree_at f s n.right) (tree_at f s args)) (sub_each (tree_at f s n.right) (tree_at f s args)) (reads_low_each (tree_at f s n.right)) y
          two = sub_done f s₁ s₂ v.ch _ _ _ b others y j

          pub each_first : Ready f s₂ y.ch v.node
          each_first = done_old two v.node (done_new one)

          pub each_made : (s₃ : List ℕ) (m : Result Made Refusal) (l : Bool) (z : Result Substituted Refusal) → MadeOk f s₂ s₃ y.ch pair_cost (pair (tree_at f s₂ v.node) (tree_at f s₂ y.node)) m → l ≡ (v.low || y.low) → z ≡ sub_made l m
              → SubOk f s s₃ c (sub_each_cost (tree_at f s body) (tree_at f s args)) (sub_each (tree_at f s body) (tree_at f s args)) (reads_low_each (tree_at f s body)) z
          unfolding sub_each_cost sub_each reads_low_each
          each_made s₃ m l z h₃ el ez =
              let e₁ : tree_at f s₂ v.node ≡ sub_args (tree_at f s g) (tree_at f s args) = done_tree two v.node (done_new one) ∙ one.bought.stands.tree in
              let e₂ : tree_at f s₂ y.node ≡ sub_each (tree_at f s n.right) (tree_at f s args) = two.bought.stands.tree in
              let m₃ : MadeOk f s₂ s₃ y.ch pair_cost (pair (sub_args (tree_at f s g) (tree_at f s args)) (sub_each (tree_at f s n.right) (tree_at f s args))) m = rw (e₁, e₂) at h₃ in
              let a₃ = sub_then one s₃ _ _ l (sub_made l m) (sub_then two s₃ _ _ l (sub_made l m) (made_sub f s₂ s₃ y.ch pair_cost _ l m m₃)) in
              let k : sub_each_cost (tree_at f s n.right) (tree_at f s args) + pair_cost ≡ pair_cost + sub_each_cost (tree_at f s n.right) (tree_at f s args) = add_comm (sub_each_cost (tree_at f s n.right) (tree_at f s args)) pair_cost in
              rw (tree, ez)
              (sub_is f s s₃ c _ _ _ _ l _ (sub_made l m) a₃ (ap (sub_cost (tree_at f s g) (tree_at f s args) +◌) (sym k)) refl (ap₂ ◌||◌ (sym one.low) (sym two.low) ∙ sym el))

-- an end of a list stays
pub each_end : (f s : List ℕ) (c : Charges) (n args : ℕ) (q : Cell) → q ≡ cell_at s n → q ≡ Atom → Ready f s c n
    → SubOk f s s c (sub_each_cost (tree_at f s n) (tree_at f s args)) (sub_each (tree_at f s n) (tree_at f s args)) (reads_low_each (tree_at f s n)) (Ok (record { ch = c; low = false; node = n }))
unfolding sub_each_cost sub_each reads_low_each
each_end f s c n args q e i r =
    let z : tree_at f s n ≡ atom (bytes_at f s n) = look_atom f s n q e i in
    rw z (rw z at (sub_none f s c n false r))

-- ---- the head of a list that is no quote

module _ (f s : List ℕ) (c : Charges) (g args : ℕ) (q : Cell) (e : q ≡ cell_at s g) where
  pub head_atom : q ≡ Atom → Ready f s c g
      → SubOk f s s c (head_cost (tree_at f s g) (tree_at f s args)) (head_tree (tree_at f s g) (tree_at f s args)) (head_low (tree_at f s g)) (Ok (record { ch = c; low = false; node = g }))
  unfolding head_cost head_tree head_low
  head_atom i r =
      let z : tree_at f s g ≡ atom (bytes_at f s g) = look_atom f s g q e i in
      rw z (rw z at (sub_none f s c g false r))

  pub head_pair : (s₁ : List ℕ) (a : Result Substituted Refusal) → SubOk f s s₁ c (sub_cost (tree_at f s g) (tree_at f s args)) (sub_args (tree_at f s g) (tree_at f s args)) (reads_low (tree_at f s g)) a → SomePair q
      → SubOk f s s₁ c (head_cost (tree_at f s g) (tree_at f s args)) (head_tree (tree_at f s g) (tree_at f s args)) (head_low (tree_at f s g)) a
  unfolding head_cost head_tree head_low
  head_pair s₁ a h i =
      let z : tree_at f s g ≡ pair (tree_at f s i.left) (tree_at f s i.right) = look_pair f s c g i.left i.right q i.is e in
      rw z (rw z at h)

-- ---- the list of a head that is worked

module _ (f s : List ℕ) (c : Charges) (first rest args : ℕ) (l u : Bool) (eu : u ≡ is_proper (tree_at f s rest)) where
  pub list_improper : u ≡ false → Ready f s c args
      → SubOk f s s c (list_cost (tree_at f s rest) (tree_at f s args)) (list_tree (tree_at f s first) (tree_at f s rest) (tree_at f s args)) (list_low l (tree_at f s rest)) (Ok (record { ch = c; low = l; node = args }))
  list_improper z ra =
      let (k, t, w) = improper_list (tree_at f s first) (tree_at f s rest) (tree_at f s args) l (sym eu ∙ z) in
      sub_is f s s c 0 _ (tree_at f s args) _ l _ _ (sub_none f s c args l ra) k t w

  module _ (yes : u ≡ true) (s₁ : List ℕ) (a : Result Substituted Refusal) (h : SubOk f s s₁ c (sub_each_cost (tree_at f s rest) (tree_at f s args)) (sub_each (tree_at f s rest) (tree_at f s args)) (reads_low_each (tree_at f s rest)) a) where
    pub list_stops : (w : Refusal) → a ≡ Err w
        → SubOk f s s₁ c (list_cost (tree_at f s rest) (tree_at f s args)) (list_tree (tree_at f s first) (tree_at f s rest) (tree_at f s args)) (list_low l (tree_at f s rest)) (Err w)
    list_stops w z =
        let (k, t, i) = proper_list (tree_at f s first) (tree_at f s rest) (tree_at f s args) l (sym eu ∙ yes) in
        let o : Over c (sub_each_cost (tree_at f s rest) (tree_at f s args) + pair_cost) w = over_more pair_cost (sub_over f s s₁ c _ _ _ a h w z) in
        rw (k, add_comm pair_cost (sub_each_cost (tree_at f s rest) (tree_at f s args))) (sub_stop f s s₁ c _ _ _ w o)

    module _ (v : Substituted) (z : a ≡ Ok v) where
      tail : Replaced f s s₁ c (sub_each_cost (tree_at f s rest) (tree_at f s args)) (sub_each (tree_at f s rest) (tree_at f s args)) (reads_low_each (tree_at f s rest)) v
      tail = sub_done f s s₁ c _ _ _ a h v z

      pub list_made : (s₂ : List ℕ) (m : Result Made Refusal) (d : Bool) (b : Result Substituted Refusal) → MadeOk f s₁ s₂ v.ch pair_cost (pair (tree_at f s₁ first) (tree_at f s₁ v.node)) m → d ≡ (l || v.low) → b ≡ sub_made d m → Ready f s c first
          → SubOk f s s₂ c (list_cost (tree_at f s rest) (tree_at f s args)) (list_tree (tree_at f s first) (tree_at f s rest) (tree_at f s args)) (list_low l (tree_at f s rest)) b
      list_made s₂ m d b h₂ ed eb r =
          let (k, t, i) = proper_list (tree_at f s first) (tree_at f s rest) (tree_at f s args) l (sym eu ∙ yes) in
          let m₂ : MadeOk f s₁ s₂ v.ch pair_cost (pair (tree_at f s first) (sub_each (tree_at f s rest) (tree_at f s args))) m = rw (done_tree tail first r, tail.bought.stands.tree) at h₂ in
          let a₂ = sub_then tail s₂ _ _ d (sub_made d m) (made_sub f s₁ s₂ v.ch pair_cost _ d m m₂) in
          rw eb
          (sub_is f s s₂ c _ _ _ _ d _ (sub_made d m) a₂ (k ∙ add_comm pair_cost (sub_each_cost (tree_at f s rest) (tree_at f s args))) t (i ∙ ap (l ||◌) (sym tail.low) ∙ sym ed))

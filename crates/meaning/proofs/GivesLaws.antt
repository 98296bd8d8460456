-- What it means for an expression to have a value, one level deep and with no count of depth. Assumes nothing.
use Prim.Native.Nat.{ℕ, zero, suc, ◌+◌}
use mathlib.Core.Path.{◌≡◌, refl, sym, ◌∙◌, subst, ap}
use mathlib.Core.List.{List, [], ◌∷◌}
use mathlib.Core.Bool.{Bool, true, false}
use mathlib.Core.Option.{Option, none, some}
use lib.ListN.{length}
use native.Mathlib.Nat.{add_comm}
use Rattle.meaning.specs.Tree.{Tree, atom, pair, enlist, proper_list}
use Rattle.meaning.specs.Number.{number, lookup}
use Rattle.meaning.specs.Operator.{Op, Head, quoted, op, other, head_of, takes, Made, makes, runs, cannot, perform}
use Rattle.meaning.specs.Evaluate.{Result, value, fails, short, found, ◌then◌, each_value, finish, call, operate, eval, Gives}
use Rattle.meaning.proofs.TreeLaws.{proper_list_sound}
use Rattle.meaning.proofs.Pointwise.{Pointwise, no_more, one_more, pointwise_map, pointwise_length}
use Rattle.meaning.proofs.EvalDepth.{eval_up, not_fails, not_short}

-- ---- the view: it goes as `step` does

-- a list that ends in nil, and the value of each of its elements
unfoldable pub ListGives : Tree → Tree → List Tree → Type 0
ListGives (atom []) env [] = Unit {0}
ListGives (atom []) env (v ∷ vs) = ⊥
ListGives (atom (b ∷ bs)) env vs = ⊥
ListGives (pair l r) env [] = ⊥
ListGives (pair l r) env (v ∷ vs) = Gives l env v × ListGives r env vs

-- what an operator made of its arguments comes to v
unfoldable pub Finishes : Made → Tree → Type 0
Finishes (makes t c) v = t ≡ v
Finishes (runs p e) v = Gives p e v
Finishes cannot v = ⊥

-- a call of o with the arguments r has the value v
pub record Called (o : Op) (r env v : Tree) : Type 0 where
  pub vs : List Tree
  pub args : ListGives r env vs
  pub counted : takes o (length vs) ≡ true
  pub finishes : Finishes (perform o vs) v

unfoldable pub Headed : Head → Tree → Tree → Tree → Type 0
Headed quoted r env v = r ≡ v
Headed (op o) r env v = Called o r env v
Headed other r env v = ⊥

unfoldable pub Valued : Tree → Tree → Tree → Type 0
unfolding Headed head_of
Valued (atom b) env v = lookup (number b) env ≡ some v
Valued (pair (atom o) r) env v = Headed (head_of o) r env v
Valued (pair (pair a b) r) env v = ⊥

-- ---- a list's elements

-- every expression of a list has its value
abbrev pub GivesAll : Tree → List Tree → List Tree → Type 0
GivesAll env = Pointwise (λ e v. Gives e env v)

enlist_gives : (env : Tree) {es vs : List Tree} → GivesAll env es vs → ListGives (enlist es) env vs
unfolding enlist ListGives
enlist_gives env no_more = tt
enlist_gives env (one_more g gs) = (g, enlist_gives env gs)

list_intro : (r env : Tree) (es vs : List Tree) → proper_list r ≡ some es → GivesAll env es vs → ListGives r env vs
list_intro r env es vs h a = subst (λ x. ListGives x env vs) (sym (proper_list_sound r es h)) (enlist_gives env a)

list_inv : (r env : Tree) (vs : List Tree) → ListGives r env vs → (es : List Tree) × (proper_list r ≡ some es) × GivesAll env es vs
unfolding proper_list ListGives
list_inv (atom []) env [] g = ([], refl, no_more)
list_inv (atom []) env (v ∷ vs) g = absurd g
list_inv (atom (b ∷ bs)) env vs g = absurd g
list_inv (pair l r) env [] g = absurd g
list_inv (pair l r) env (v ∷ vs) g = let (es, e, a) = list_inv r env vs g.1 in (l ∷ es, rw e, one_more g.0 a)

-- ---- arguments at one depth

abbrev AllAt : ℕ → Tree → List Tree → List Tree → Type 0
AllAt n env = Pointwise (λ e v. eval n e env ≡ value v)

all_up : (k n : ℕ) (env : Tree) {es vs : List Tree} → AllAt n env es vs → AllAt (k + n) env es vs
all_up k n env = pointwise_map (λ e v p. eval_up k n e env v p)

-- a depth that is enough for all
gather : (env : Tree) {es vs : List Tree} → GivesAll env es vs → (n : ℕ) × AllAt n env es vs
unfolding Gives
gather env no_more = (0, no_more)
gather env (one_more g gs) =
    let (m, a) = gather env gs in
    (m + g.0, one_more (eval_up m g.0 _ env _ g.1) (rw (add_comm g.0 m) at (all_up g.0 m env a)))

each_at : (n : ℕ) (env : Tree) {es vs : List Tree} → AllAt n env es vs → (f : List Tree → Result) → each_value (eval n) es env f ≡ f vs
unfolding each_value
each_at n env no_more f = refl
each_at n env (one_more {y = v} p a) f = rw p (each_at n env a (λ ws. f (v ∷ ws)))

-- what `then` had before it gave a value
then_inv : (m : Result) (f : Tree → Result) (v : Tree) → (m then f) ≡ value v → (w : Tree) × (m ≡ value w) × (f w ≡ value v)
unfolding ◌then◌
then_inv (value w) f v h = (w, refl, h)
then_inv fails f v h = not_fails h
then_inv short f v h = not_short h

each_inv : (n : ℕ) (env : Tree) (es : List Tree) (f : List Tree → Result) (v : Tree) → each_value (eval n) es env f ≡ value v
    → (vs : List Tree) × GivesAll env es vs × (f vs ≡ value v)
unfolding each_value Gives
each_inv n env [] f v h = ([], no_more, h)
each_inv n env (e ∷ es) f v h =
    let (w, p, k) = then_inv (eval n e env) _ v h in
    let (ws, a, l) = each_inv n env es (λ ws. f (w ∷ ws)) v k in
    (w ∷ ws, one_more (n, p) a, l)

-- ---- what an operator made

finish_inv : (n : ℕ) (m : Made) (v : Tree) → finish (eval n) m ≡ value v → Finishes m v
unfolding finish Finishes Gives
finish_inv n (makes t c) v h = cc
finish_inv n (runs p e) v h = (n, h)
finish_inv n cannot v h = not_fails h

finish_intro : (m : Made) (v : Tree) → Finishes m v → (n : ℕ) × (finish (eval n) m ≡ value v)
unfolding finish Finishes Gives
finish_intro (makes t c) v h = (0, ap value h)
finish_intro (runs p e) v h = h
finish_intro cannot v h = absurd h

finish_up : (k n : ℕ) (m : Made) (v : Tree) → finish (eval n) m ≡ value v → finish (eval (k + n)) m ≡ value v
unfolding finish
finish_up k n (makes t c) v h = h
finish_up k n (runs p e) v h = eval_up k n p e v h
finish_up k n cannot v h = not_fails h

-- ---- calls

-- a call as it is worked
pub called : (o : Op) (r env v : Tree) (es vs : List Tree) → proper_list r ≡ some es → takes o (length es) ≡ true → GivesAll env es vs → Finishes (perform o vs) v
    → Called o r env v
called o r env v es vs q t a f =
    record { vs = vs; args = list_intro r env es vs q a; counted = ap (takes o) (sym (pointwise_length a)) ∙ t; finishes = f }

call_inv : (n : ℕ) (o : Op) (r env v : Tree) → call (eval n) o (proper_list r) env ≡ value v → Called o r env v
unfolding call
call_inv n o r env v h = go (proper_list r) refl h
  where
    counted : (es : List Tree) → proper_list r ≡ some es → (b : Bool) → takes o (length es) ≡ b
        → elim b [ true ↦ each_value (eval n) es env (λ vs. finish (eval n) (perform o vs)) | false ↦ fails ] ≡ value v → Called o r env v
    counted es q true t k =
        let (vs, a, p) = each_inv n env es (λ vs. finish (eval n) (perform o vs)) v k in
        called o r env v es vs q t a (finish_inv n (perform o vs) v p)
    counted es q false t k = not_fails k

    go : (x : Option (List Tree)) → proper_list r ≡ x → call (eval n) o x env ≡ value v → Called o r env v
    go none q k = not_fails k
    go (some es) q k = counted es q (takes o (length es)) refl k

call_intro : (o : Op) (r env v : Tree) → Called o r env v → (n : ℕ) × (call (eval n) o (proper_list r) env ≡ value v)
unfolding call
call_intro o r env v c =
    let (es, q, g) = list_inv r env c.vs c.args in
    let t : takes o (length es) ≡ true = ap (takes o) (pointwise_length g) ∙ c.counted in
    let (n, a) = gather env g in
    let (m, p) = finish_intro (perform o c.vs) v c.finishes in
    let f : finish (eval (m + n)) (perform o c.vs) ≡ value v = rw (add_comm n m) at (finish_up n m (perform o c.vs) v p) in
    (m + n, rw (q, t, call) (each_at (m + n) env (all_up m n env a) (λ vs. finish (eval (m + n)) (perform o vs)) ∙ f))

-- ---- the two directions, and that there is one value only

-- an expression that has a value has it in one of these ways
pub gives_inv : (e env v : Tree) → Gives e env v → Valued e env v
unfolding Gives eval Valued
gives_inv e env v (zero, h) = not_short h
gives_inv (atom b) env v (suc n, h) = go (lookup (number b) env) h
  where
    go : (x : Option Tree) → found x ≡ value v → x ≡ some v
    go none k = not_fails k
    go (some t) k = cc
gives_inv (pair (atom o) r) env v (suc n, h) = go (head_of o) h
  where
    go : (x : Head) → operate (eval n) x r env ≡ value v → Headed x r env v
    go quoted k = cc
    go (op o) k = call_inv n o r env v k
    go other k = not_fails k
gives_inv (pair (pair a b) r) env v (suc n, h) = not_fails h

-- and each of these ways gives it
pub gives_intro : (e env v : Tree) → Valued e env v → Gives e env v
unfolding Gives eval Valued found
gives_intro (atom b) env v h = (1, ap found h)
gives_intro (pair (atom o) r) env v h = go (head_of o) refl h
  where
    go : (x : Head) → head_of o ≡ x → Headed x r env v → Gives (pair (atom o) r) env v
    go quoted q k = (1, rw q (ap value k))
    go (op o) q k = let (n, p) = call_intro o r env v k in (suc n, rw q p)
    go other q k = absurd k
gives_intro (pair (pair a b) r) env v h = absurd h

-- an expression has at most one value
pub gives_same : (e env v w : Tree) → Gives e env v → Gives e env w → v ≡ w
unfolding Gives
gives_same e env v w (n, p) (m, q) =
    let p' : eval (m + n) e env ≡ value v = eval_up m n e env v p in
    let q' : eval (m + n) e env ≡ value w = rw add_comm (eval_up n m e env w q) in
    cc

-- The values of quotes and of calls of `f`, `r`, `c` and `a`. Assumes nothing.
use Prim.Native.Nat.{ℕ, zero, suc}
use mathlib.Core.Path.{◌≡◌, refl, sym, ◌∙◌, subst}
use mathlib.Core.List.{List, [], ◌∷◌}
use mathlib.Core.Bool.{Bool, true, false}
use mathlib.Core.Option.{some}
use Rattle.meaning.specs.Tree.{Tree, atom, pair, nil, byte, is_byte, quote}
use Rattle.meaning.specs.Number.{number, lookup}
use Rattle.meaning.specs.Operator.{Op, apply, cons, first, rest, Head, quoted, op, other, head_number, head_of, takes, perform}
use Rattle.meaning.specs.Evaluate.{Gives}
use Rattle.meaning.proofs.Tests.{not_true}
use Rattle.meaning.proofs.TreeLaws.{is_byte_sound}
use Rattle.meaning.proofs.Parts.{side, part_byte}
use Rattle.meaning.proofs.GivesLaws.{ListGives, Finishes, Called, Headed, Valued, gives_inv, gives_intro}
use Rattle.meaning.proofs.Shapes.{cons_of, apply_of, part_of}

-- ---- nil and quotes

pub nil_gives : (env : Tree) → Gives nil env nil
unfolding Valued lookup number
nil_gives env = gives_intro nil env nil refl

pub nil_inv : (env v : Tree) → Gives nil env v → nil ≡ v
unfolding Valued lookup number
nil_inv env v g = let h : some nil ≡ some v = gives_inv nil env v g in cc

pub quote_gives : (t env : Tree) → Gives (quote t) env t
unfolding quote Valued
quote_gives t env = gives_intro (pair (byte 1) t) env t refl

pub quote_inv : (t env v : Tree) → Gives (quote t) env v → t ≡ v
unfolding quote Valued
quote_inv t env v g = gives_inv (pair (byte 1) t) env v g

-- a quote has its value in every environment
pub quote_anywhere : (o : List ℕ) (r env env' v : Tree) → is_byte 1 o ≡ true → Gives (pair (atom o) r) env v → Gives (pair (atom o) r) env' v
unfolding quote
quote_anywhere o r env env' v h =
    subst (λ x. Gives (pair (atom x) r) env v → Gives (pair (atom x) r) env' v) (sym (is_byte_sound 1 o h))
    (λ g. subst (Gives (quote r) env') (quote_inv r env v g) (quote_gives r env'))

-- no head but the byte 1 is a quote's
quoted_number : (n : ℕ) → head_number n ≡ quoted → n ≡ 1
unfolding head_number
quoted_number zero h = cc
quoted_number (suc zero) h = refl
quoted_number (suc (suc zero)) h = cc
quoted_number (suc (suc (suc zero))) h = cc
quoted_number (suc (suc (suc (suc zero)))) h = cc
quoted_number (suc (suc (suc (suc (suc zero))))) h = cc
quoted_number (suc (suc (suc (suc (suc (suc zero)))))) h = cc
quoted_number (suc (suc (suc (suc (suc (suc (suc zero))))))) h = cc
quoted_number (suc (suc (suc (suc (suc (suc (suc (suc zero)))))))) h = cc
quoted_number (suc (suc (suc (suc (suc (suc (suc (suc (suc zero))))))))) h = cc
quoted_number (suc (suc (suc (suc (suc (suc (suc (suc (suc (suc n)))))))))) h = cc

pub quoted_byte : (b : List ℕ) → head_of b ≡ quoted → is_byte 1 b ≡ true
unfolding head_of is_byte
quoted_byte [] h = cc
quoted_byte (x ∷ []) h = rw (quoted_number x h)
quoted_byte (x ∷ y ∷ b) h = cc

-- ---- a call's value depends on its arguments' values alone

pub call_moves : (o : List ℕ) (r r' env env' v : Tree) → is_byte 1 o ≡ false → ((vs : List Tree) → ListGives r env vs → ListGives r' env' vs)
    → Gives (pair (atom o) r) env v → Gives (pair (atom o) r') env' v
unfolding Valued
call_moves o r r' env env' v nq f g = gives_intro (pair (atom o) r') env' v (go (head_of o) refl (gives_inv (pair (atom o) r) env v g))
  where
    go : (x : Head) → head_of o ≡ x → Headed x r env v → Headed x r' env' v
    go quoted q k = not_true (sym (quoted_byte o q) ∙ nq)
    go (op x) q c = record { vs = c.vs; args = f c.vs c.args; counted = c.counted; finishes = c.finishes }
    go other q k = k

-- ---- one argument, two arguments

called_1 : (o : Op) (x env v : Tree) → Called o (pair x nil) env v → (w : Tree) × Gives x env w × Finishes (perform o (w ∷ [])) v
unfolding ListGives
called_1 o x env v c = go c.vs c.args c.finishes
  where
    go : (vs : List Tree) → ListGives (pair x nil) env vs → Finishes (perform o vs) v → (w : Tree) × Gives x env w × Finishes (perform o (w ∷ [])) v
    go [] a f = absurd a
    go (w ∷ []) a f = (w, a.0, f)
    go (w ∷ u ∷ vs) a f = absurd a.1

called_2 : (o : Op) (x y env v : Tree) → Called o (pair x (pair y nil)) env v
    → (w u : Tree) × Gives x env w × Gives y env u × Finishes (perform o (w ∷ u ∷ [])) v
unfolding ListGives
called_2 o x y env v c = go c.vs c.args c.finishes
  where
    go : (vs : List Tree) → ListGives (pair x (pair y nil)) env vs → Finishes (perform o vs) v
        → (w u : Tree) × Gives x env w × Gives y env u × Finishes (perform o (w ∷ u ∷ [])) v
    go [] a f = absurd a
    go (w ∷ []) a f = absurd a.1
    go (w ∷ u ∷ []) a f = (w, u, a.0, a.1.0, f)
    go (w ∷ u ∷ x ∷ vs) a f = absurd a.1.1

-- ---- `f` and `r`

part_op : Bool → Op
part_op false = first
part_op true = rest

part_finish : (d : Bool) (w v : Tree) → Finishes (perform (part_op d) (w ∷ [])) v → (l r : Tree) × (w ≡ pair l r) × (side d l r ≡ v)
unfolding Finishes perform part_op side
part_finish false (atom b) v h = absurd h
part_finish false (pair l r) v h = (l, r, refl, h)
part_finish true (atom b) v h = absurd h
part_finish true (pair l r) v h = (l, r, refl, h)

-- (f X) or (r X) has the value of a part of the pair that X gives
pub part_inv : (d : Bool) (x env v : Tree) → Gives (part_of (part_byte d) x) env v → (l r : Tree) × Gives x env (pair l r) × (side d l r ≡ v)
unfolding Valued part_byte part_op
part_inv d x env v g =
    let (w, gx, f) = called_1 (part_op d) x env v (go d (gives_inv _ env v g)) in
    let (l, r, e, s) = part_finish d w v f in
    (l, r, subst (Gives x env) e gx, s)
  where
    go : (d : Bool) → Valued (part_of (part_byte d) x) env v → Called (part_op d) (pair x nil) env v
    go false c = c
    go true c = c

pub part_intro : (d : Bool) (x env l r : Tree) → Gives x env (pair l r) → Gives (part_of (part_byte d) x) env (side d l r)
unfolding Valued ListGives takes Finishes perform part_byte side
part_intro false x env l r g =
    gives_intro (part_of 5 x) env l (record { vs = pair l r ∷ []; args = (g, tt); counted = refl; finishes = refl })
part_intro true x env l r g =
    gives_intro (part_of 6 x) env r (record { vs = pair l r ∷ []; args = (g, tt); counted = refl; finishes = refl })

-- ---- `c` and `a`

cons_inv : (a b env w : Tree) → Gives (cons_of a b) env w → (x y : Tree) × Gives a env x × Gives b env y × (pair x y ≡ w)
unfolding Valued Finishes perform
cons_inv a b env w g = called_2 cons a b env w (gives_inv (cons_of a b) env w g)

-- a part of (c A B) is A or B
pub cons_part : (d : Bool) (a b env l r : Tree) → Gives (cons_of a b) env (pair l r) → Gives (side d a b) env (side d l r)
unfolding side
cons_part d a b env l r g = let (x, y, gx, gy, e) = cons_inv a b env (pair l r) g in go d x y e gx gy
  where
    go : (d : Bool) (x y : Tree) → pair x y ≡ pair l r → Gives a env x → Gives b env y → Gives (side d a b) env (side d l r)
    go false x y e gx gy = let i : x ≡ l = cc in subst (Gives a env) i gx
    go true x y e gx gy = let i : y ≡ r = cc in subst (Gives b env) i gy

-- (a (q . S) ARGS) has the value of S in the value of ARGS
pub apply_inv : (s a env v : Tree) → Gives (apply_of s a) env v → (e : Tree) × Gives a env e × Gives s e v
unfolding Valued Finishes perform quote
apply_inv s a env v g =
    let (p, e, gp, ge, h) = called_2 apply (pair (byte 1) s) a env v (gives_inv (apply_of s a) env v g) in
    (e, ge, subst (λ x. Gives x e v) (sym (quote_inv s env p gp)) h)

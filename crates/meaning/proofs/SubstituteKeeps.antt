-- Substitution: the changed body has in env the value that the body has in the value of the new arguments. Assumes nothing.
use Prim.Native.Nat.{ℕ, zero, suc, ◌-◌, ◌^◌, ◌≤◌}
use mathlib.Core.Path.{◌≡◌, refl, sym, ◌∙◌, subst}
use native.Mathlib.Omega.{arith}
use mathlib.Core.List.{List, [], ◌∷◌}
use mathlib.Core.Bool.{Bool, true, false}
use mathlib.Core.Option.{some}
use lib.Dec.{eqb}
use lib.ListN.{length}
use Rattle.meaning.specs.Tree.{Tree, atom, pair, is_byte, is_empty}
use Rattle.meaning.specs.Number.{plus, minus, number, negative, number_from_u8, turns, follow}
use Rattle.meaning.specs.Operator.{Head, quoted, op, other, head_of}
use Rattle.meaning.specs.Evaluate.{Gives}
use Rattle.meaning.specs.Match.{Match, matched, no_match, too_many_names, match_sexp, got}
use Rattle.meaning.specs.Substitute.{sub_turns, is_low, cons_pattern, or_else, cons_f, cons_r, path_from_args, is_proper, sub_args, sub_each, reads_low, reads_low_each}
use Rattle.meaning.proofs.Tests.{on_bool, not_true, or_no}
use Rattle.meaning.proofs.PathLaws.{lookup_turns}
use Rattle.meaning.proofs.Parts.{side, part_byte, part_name}
use Rattle.meaning.proofs.GivesLaws.{ListGives, Headed, Valued, gives_inv}
use Rattle.meaning.proofs.Shapes.{part_of, cons_shape}
use Rattle.meaning.proofs.CallLaws.{quote_anywhere, quoted_byte, call_moves, part_intro, cons_part}
use Rattle.meaning.proofs.RewriteKeeps.{bound_part}

-- ---- one turn

part_gives : (d : Bool) (a env l r : Tree) → Gives a env (pair l r)
    → Gives (or_else (got (part_name d) (match_sexp cons_pattern a [])) (part_of (part_byte d) a)) env (side d l r)
unfolding or_else got
part_gives d a env l r g = go (match_sexp cons_pattern a []) refl
  where
    go : (m : Match) → match_sexp cons_pattern a [] ≡ m → Gives (or_else (got (part_name d) m) (part_of (part_byte d) a)) env (side d l r)
    go (matched ks) e =
        let (x, y, i, j) = cons_shape a [] ks refl e in
        subst (λ z. Gives z env (side d l r)) (sym (bound_part d x y (part_of (part_byte d) a) ks j))
        (cons_part d x y env l r (subst (λ z. Gives z env (pair l r)) i g))
    go (no_match ds) e = part_intro d a env l r g
    go too_many_names e = part_intro d a env l r g

path_gives : (ds : List Bool) (a env w v : Tree) → Gives a env w → follow ds w ≡ some v → Gives (path_from_args ds a) env v
unfolding path_from_args follow cons_f cons_r part_name part_byte side
path_gives [] a env w v g h = let e : w ≡ v = cc in subst (Gives a env) e g
path_gives (d ∷ ds) a env (atom b) v g h = absurd (let z : ◌≡◌ {A = ℕ} 0 1 = cc in omega arith)
path_gives (false ∷ ds) a env (pair l r) v g h = path_gives ds (cons_f a) env l v (part_gives false a env l r g) h
path_gives (true ∷ ds) a env (pair l r) v g h = path_gives ds (cons_r a) env r v (part_gives true a env l r g) h

-- ---- an atom of the body

not_zero : (n : ℕ) → eqb n 0 ≡ false → 1 ≤ n
not_zero zero h = not_true h
not_zero (suc n) h = omega arith

-- an atom that is not low is read as the evaluator reads it
not_low : (b : List ℕ) → is_low b ≡ false → (sub_turns b ≡ turns (number b)) × (1 ≤ number b)
unfolding is_low sub_turns number_from_u8
not_low b h =
    on_bool (negative b)
    (λ e. let n : number_from_u8 b ≡ minus (256 ^ length b - number b) = rw (e, number_from_u8) in not_true (rw (n, is_low) at h))
    (λ e. let n : number_from_u8 b ≡ plus (number b) = rw (e, number_from_u8) in (rw (n, sub_turns), not_zero (number b) (rw (n, is_low) at h)))

atom_gives : (b : List ℕ) (a env w v : Tree) → Gives a env w → Gives (atom b) w v → is_low b ≡ false → Gives (path_from_args (sub_turns b) a) env v
unfolding Valued
atom_gives b a env w v ga g h =
    let (e, z) = not_low b h in
    subst (λ ds. Gives (path_from_args ds a) env v) (sym e)
    (path_gives (turns (number b)) a env w v ga (sym (lookup_turns (number b) w z) ∙ gives_inv (atom b) w v g))

-- ---- a list of the body

list_is_proper : (r env : Tree) (vs : List Tree) → ListGives r env vs → is_proper r ≡ true
unfolding ListGives is_proper is_empty
list_is_proper (atom []) env vs g = refl
list_is_proper (atom (b ∷ bs)) env vs g = absurd g
list_is_proper (pair l r) env [] g = absurd g
list_is_proper (pair l r) env (v ∷ vs) g = list_is_proper r env vs g.1

-- a call that has a value has a proper list of arguments
call_is_proper : (o : List ℕ) (r env v : Tree) → is_byte 1 o ≡ false → Gives (pair (atom o) r) env v → is_proper r ≡ true
unfolding Valued
call_is_proper o r env v nq g = go (head_of o) refl (gives_inv (pair (atom o) r) env v g)
  where
    go : (x : Head) → head_of o ≡ x → Headed x r env v → is_proper r ≡ true
    go quoted q k = not_true (sym (quoted_byte o q) ∙ nq)
    go (op x) q c = list_is_proper r env c.vs c.args
    go other q k = absurd k

call_gives : (o : List ℕ) (r a env w v : Tree) → ((vs : List Tree) → ListGives r w vs → reads_low_each r ≡ false → ListGives (sub_each r a) env vs)
    → Gives (pair (atom o) r) w v → reads_low (pair (atom o) r) ≡ false → Gives (sub_args (pair (atom o) r) a) env v
unfolding sub_args reads_low
call_gives o r a env w v each g h =
    on_bool (is_byte 1 o)
    (λ e. rw (e, sub_args) (quote_anywhere o r w env v e g))
    (λ e.
    let p : is_proper r ≡ true = call_is_proper o r w v e g in
    let low : reads_low_each r ≡ false = rw (e, p) at h in
    rw (e, sub_args) (rw (p, sub_args) (call_moves o r (sub_each r a) w env v e (λ vs k. each vs k low) g)))

mutual
  unfolding sub_args reads_low Valued ListGives

  -- where no atom of the body b is low: b's value in the value of a is the value of the changed body
  pub sub_gives : (b a env w v : Tree) → Gives a env w → Gives b w v → reads_low b ≡ false → Gives (sub_args b a) env v
  sub_gives (atom b) a env w v ga g h = atom_gives b a env w v ga g h
  sub_gives (pair (atom o) r) a env w v ga g h = call_gives o r a env w v (λ vs k l. sub_list r a env w vs ga k l) g h
  sub_gives (pair (pair x y) r) a env w v ga g h = absurd (gives_inv (pair (pair x y) r) w v g)

  sub_list : (r a env w : Tree) (vs : List Tree) → Gives a env w → ListGives r w vs → reads_low_each r ≡ false → ListGives (sub_each r a) env vs
  sub_list (atom []) a env w [] ga g h = tt
  sub_list (atom []) a env w (v ∷ vs) ga g h = absurd g
  sub_list (atom (b ∷ bs)) a env w vs ga g h = absurd g
  sub_list (pair l r) a env w [] ga g h = absurd g
  sub_list (pair l r) a env w (v ∷ vs) ga g h =
      let (hl, hr) = or_no (reads_low l) (reads_low_each r) h in
      (sub_gives l a env w v ga g.0 hl, sub_list r a env w vs ga g.1 hr)

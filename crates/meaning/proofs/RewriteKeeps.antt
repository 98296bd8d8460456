-- The four rules that only rewrite keep values. Assumes nothing.
use mathlib.Core.Path.{◌≡◌, refl, sym, ◌∙◌, subst, ap}
use mathlib.Core.List.{List, [], ◌∷◌}
use mathlib.Core.Bool.{Bool, true, false}
use mathlib.Core.Option.{some}
use Rattle.meaning.specs.Tree.{Tree, atom, pair, nil, byte, same_bytes, quote}
use Rattle.meaning.specs.Number.{number, lookup}
use Rattle.meaning.specs.Operator.{apply, perform}
use Rattle.meaning.specs.Evaluate.{Gives}
use Rattle.meaning.specs.Match.{Binding, Match, matched, no_match, too_many_names, match_sexp, got}
use Rattle.meaning.specs.Substitute.{first_name, rest_name, or_else}
use Rattle.meaning.specs.Rules.{cons_optimizer_pattern, cons_optimizer, Applied, applied, not_applied, applied_of, is_args_call, cons_q_a_optimizer, nil_if, quote_pattern_1, quote_null_optimizer, apply_null_pattern_1, apply_null_optimizer}
use Rattle.meaning.proofs.TreeLaws.{is_byte_sound}
use Rattle.meaning.proofs.Parts.{side, part_byte, part_name}
use Rattle.meaning.proofs.GivesLaws.{ListGives, Finishes, Called, Valued, gives_inv}
use Rattle.meaning.proofs.MatchLaws.{bind}
use Rattle.meaning.proofs.Shapes.{cons_of, apply_of, part_of, part_of_cons_shape, applied_shape, quote_null_shape, apply_null_shape}
use Rattle.meaning.proofs.CallLaws.{nil_gives, nil_inv, quote_inv, part_inv, cons_part, apply_inv}
use Rattle.meaning.proofs.Keeps.{Keeps, keeps_refl, keeps_at}

-- ---- 1. (f (c A B)) and (r (c A B))

-- what (c A B) binds to such a name is A or B
pub bound_part : (d : Bool) (a b t : Tree) (ks : List Binding) → ks ≡ bind first_name a ∷ bind rest_name b ∷ []
    → or_else (got (part_name d) (matched ks)) t ≡ side d a b
unfolding or_else got same_bytes part_name side
bound_part d a b t ks e = ap (λ js. or_else (got (part_name d) (matched js)) t) e ∙ go d
  where
    go : (d : Bool) → or_else (got (part_name d) (matched (bind first_name a ∷ bind rest_name b ∷ []))) t ≡ side d a b
    go false = refl
    go true = refl

part_of_cons : (d : Bool) (a b : Tree) → Keeps (part_of (part_byte d) (cons_of a b)) (side d a b)
unfolding Keeps
part_of_cons d a b env v g =
    let (l, r, k, i) = part_inv d (cons_of a b) env v g in
    subst (Gives (side d a b) env) i (cons_part d a b env l r k)

or_part : (d : Bool) (r t : Tree) → Keeps r t → Keeps r (or_else (got (part_name d) (match_sexp (cons_optimizer_pattern (part_byte d)) r [])) t)
unfolding or_else got
or_part d r t k = go (match_sexp (cons_optimizer_pattern (part_byte d)) r []) refl
  where
    go : (m : Match) → match_sexp (cons_optimizer_pattern (part_byte d)) r [] ≡ m → Keeps r (or_else (got (part_name d) m) t)
    go (matched ks) e =
        let (a, b, i, j) = part_of_cons_shape (part_byte d) r ks e in
        keeps_at i (bound_part d a b t ks j) (part_of_cons d a b)
    go (no_match ds) e = k
    go too_many_names e = k

-- `cons_optimizer` keeps values
pub cons_keeps : (r : Tree) → Keeps r (cons_optimizer r)
unfolding cons_optimizer part_name part_byte
cons_keeps r = or_part false r _ (or_part true r r (keeps_refl r))

-- ---- 3. (a (q . S) 1)

is_args_call_sound : (t : Tree) → is_args_call t ≡ true → t ≡ byte 1
unfolding is_args_call
is_args_call_sound (atom b) h = ap atom (is_byte_sound 1 b h)
is_args_call_sound (pair l r) h = cc

whole_env : (s : Tree) → Keeps (apply_of s (byte 1)) s
unfolding Keeps Valued lookup number
whole_env s env v g =
    let (e, ge, gs) = apply_inv s (byte 1) env v g in
    let h : some env ≡ some e = gives_inv (byte 1) env e ge in
    let i : e ≡ env = cc in
    subst (λ x. Gives s x v) i gs

-- `cons_q_a_optimizer` keeps values
pub cons_q_a_keeps : (r : Tree) → Keeps r (cons_q_a_optimizer r)
unfolding cons_q_a_optimizer
cons_q_a_keeps r = go (applied_of r) refl
  where
    whole : (s a : Tree) → r ≡ apply_of s a → (b : Bool) → is_args_call a ≡ b → Keeps r (elim b [ true ↦ s | false ↦ r ])
    whole s a e true h = rw (e, is_args_call_sound a h) (whole_env s)
    whole s a e false h = keeps_refl r

    go : (x : Applied) → applied_of r ≡ x → Keeps r (elim x [ applied s a ↦ elim (is_args_call a) [ true ↦ s | false ↦ r ] | not_applied ↦ r ])
    go (applied s a) e = whole s a (applied_shape r s a e) (is_args_call a) refl
    go not_applied e = keeps_refl r

-- ---- 7., 8. (q . 0) and (a 0 . any)

-- nil may stand for whatever a pattern matches, if it keeps that
nil_keeps : (p r : Tree) → ((ks : List Binding) → match_sexp p r [] ≡ matched ks → Keeps r nil) → Keeps r (nil_if (match_sexp p r []) r)
unfolding nil_if
nil_keeps p r f = go (match_sexp p r []) refl
  where
    go : (m : Match) → match_sexp p r [] ≡ m → Keeps r (nil_if m r)
    go (matched ks) e = f ks e
    go (no_match ds) e = keeps_refl r
    go too_many_names e = keeps_refl r

nil_quoted : Keeps (quote nil) nil
unfolding Keeps
nil_quoted env v g = subst (Gives nil env) (quote_inv nil env v g) (nil_gives env)

pub quote_null_keeps : (r : Tree) → Keeps r (quote_null_optimizer r)
unfolding quote_null_optimizer quote
quote_null_keeps r = nil_keeps quote_pattern_1 r (λ ks e. keeps_at (quote_null_shape r ks e) refl nil_quoted)

nil_applied : (t : Tree) → Keeps (pair (byte 2) (pair nil t)) nil
unfolding Keeps Valued ListGives Finishes perform
nil_applied t env v g = let c : Called apply (pair nil t) env v = gives_inv (pair (byte 2) (pair nil t)) env v g in go c.vs c.args c.finishes
  where
    go : (vs : List Tree) → ListGives (pair nil t) env vs → Finishes (perform apply vs) v → Gives nil env v
    go [] a f = absurd a
    go (p ∷ []) a f = absurd f
    go (p ∷ e ∷ []) a f =
        subst (Gives nil env) (nil_inv e v (subst (λ x. Gives x e v) (sym (nil_inv env p a.0)) f)) (nil_gives env)
    go (p ∷ e ∷ x ∷ vs) a f = absurd f

pub apply_null_keeps : (r : Tree) → Keeps r (apply_null_optimizer r)
unfolding apply_null_optimizer
apply_null_keeps r = nil_keeps apply_null_pattern_1 r (λ ks e. let (t, i) = apply_null_shape r ks e in keeps_at i refl (nil_applied t))

-- What was answered before 02's Ask 3 keeps its answer, and what was refused keeps its number, unless that was 4. Assumes nothing.
use Prim.Native.Nat.{ℕ, zero, suc}
use mathlib.Core.Path.{◌≡◌, refl}
use mathlib.Core.List.{List}
use mathlib.Core.Bool.{Bool, true, false}
use lib.Dec.{leb, eqb, ltb}
use lib.ListN.{length}
use Rattle.refusals.specs.declared.Refusal.{Refusal}
use Rattle.refusals.specs.declared.Refusal.TheVariants.{FormLong, EndsEarly, BadPrefix, AtomLong}
use Rattle.meaning.specs.Tree.{Tree, atom, pair, nil, byte}
use Rattle.meaning.specs.Limits.{form_limit, pair_cost, atom_cost}
use Rattle.meaning.specs.Meter.{stop, ◌>>=◌, ◌>>◌, give, refuse, hold}
use Rattle.meaning.specs.Form.{Reading, limits, needs_prefix, next, length_from, body, spend, read_long, read_atom, read, at_end, read_whole, read_form}
use Rattle.meaning.specs.Strict.{least_from, strict_long, strict_atom, strict, strict_form}
use Rattle.meaning.proofs.Unless.{Unless, same, Alike, alike, alike_bind, alike_seq, alike_if, alike_held}

-- refusal 4
pub Four : Refusal → Type 0
Four n = n ≡ BadPrefix

long_kept : (p : ℕ) → Alike Four (strict_long p) (read_long limits p)
unfolding strict_long read_long Four
long_kept p = alike_bind (alike (length_from p)) (λ n.
    alike_held (leb (least_from p) n) BadPrefix refl
    (alike_seq (alike (hold (limits.atom_fits n) AtomLong))
    (alike_bind (alike (body n)) (λ bs.
    alike_held (needs_prefix bs) BadPrefix refl (alike (spend limits (atom_cost bs) >> give (atom bs)))))))

atom_kept : (p : ℕ) → Alike Four (strict_atom p) (read_atom limits p)
unfolding strict_atom read_atom
atom_kept p = alike_if (ltb p 0x80) (alike (spend limits 5 >> give (byte p))) (alike_if (eqb p 0x80) (alike (give nil)) (long_kept p))

tree_kept : (k : ℕ) → Alike Four (strict k) (read limits k)
unfolding strict read
tree_kept zero = alike (refuse EndsEarly)
tree_kept (suc k) = alike_bind (alike next) (λ p.
    alike_if (eqb p 0xff)
    (alike_bind (tree_kept k) (λ l. alike_bind (tree_kept k) (λ r. alike (spend limits pair_cost >> give (pair l r)))))
    (atom_kept p))

-- Every byte string, from any units on: the same outcome, unless the strict reader says 4.
pub form_kept : (bs : List ℕ) (u : ℕ) → Unless Four (strict_form bs u) (read_form bs u)
unfolding strict_form read_form read_whole
form_kept bs u = go (leb (length bs) form_limit)
  where
    s : Reading
    s = record { left = bs; units = u }

    go : (b : Bool) → Unless Four {S = Reading} {A = Tree} (elim b [ true ↦ (strict (length bs) >>= λ t. at_end >> give t) s | false ↦ stop FormLong s ])
        (elim b [ true ↦ (read limits (length bs) >>= λ t. at_end >> give t) s | false ↦ stop FormLong s ])
    go true = (alike_bind (tree_kept (length bs)) (λ t. alike (at_end >> give t))).so s
    go false = same refl

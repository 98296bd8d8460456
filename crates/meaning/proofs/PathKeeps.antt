-- `path_optimizer` keeps values where it sets no mark. Assumes nothing.
use Prim.Native.Nat.{ℕ, zero, suc, ◌≤◌}
use mathlib.Core.Path.{◌≡◌, refl, ◌∙◌, subst, ap}
use native.Mathlib.Omega.{arith}
use mathlib.Core.List.{List, []}
use mathlib.Core.Bool.{Bool, true, false, not}
use mathlib.Core.Option.{Option, none, some}
use lib.Dec.{leb, eqb}
use lib.ListN.{length}
use Rattle.meaning.specs.Tree.{Tree, atom, pair}
use Rattle.meaning.specs.Number.{number, node_path_index, lookup, compose_paths, bytes_of}
use Rattle.meaning.specs.Limits.{path_limit}
use Rattle.meaning.specs.Meter.{W}
use Rattle.meaning.specs.Match.{Match, matched, no_match, too_many_names, match_sexp, got}
use Rattle.meaning.specs.Rules.{atom_name, atom_pattern, path_to, misread, longer, path_optimizer}
use Rattle.meaning.proofs.Tests.{not_true, eqb_sound}
use Rattle.meaning.proofs.PathLaws.{and_then, lookup_compose}
use Rattle.meaning.proofs.BytesOf.{number_bytes_of}
use Rattle.meaning.proofs.Parts.{side, part_byte, part_path}
use Rattle.meaning.proofs.GivesLaws.{Valued, gives_inv, gives_intro}
use Rattle.meaning.proofs.Shapes.{part_of, part_of_atom_shape}
use Rattle.meaning.proofs.CallLaws.{part_inv}
use Rattle.meaning.proofs.Sure.{sure_give, sure_refuse, sure_seq, sure_if, sure_map}
use Rattle.meaning.proofs.Quiet.{Quiet, quiet_charge, quiet_mark}
use Rattle.meaning.proofs.Keeps.{Keeps, keeps_refl, keeps_at}
use Rattle.meaning.proofs.Good.{GoodRule}

-- ---- (f N) is the path 2 after N, (r N) the path 3

lookup_part : (d : Bool) (l r : Tree) → lookup (part_path d) (pair l r) ≡ some (side d l r)
unfolding lookup part_path side
lookup_part false l r = refl
lookup_part true l r = refl

-- a path that leads to a pair is not 0
path_pos : (n : ℕ) (env l r : Tree) → lookup n env ≡ some (pair l r) → 1 ≤ n
unfolding lookup
path_pos zero env l r h = let z : ◌≡◌ {A = ℕ} 0 1 = cc in omega arith
path_pos (suc n) env l r h = omega arith

part_pos : (d : Bool) → 1 ≤ part_path d
unfolding part_path
part_pos false = omega arith
part_pos true = omega arith

-- the composed path has the values of (f N), (r N), where N is read unsigned
longer_path : (d : Bool) (b : List ℕ) → Keeps (part_of (part_byte d) (atom b)) (atom (bytes_of (compose_paths (number b) (part_path d))))
unfolding Keeps Valued and_then
longer_path d b env v g =
    let (l, r, k, i) = part_inv d (atom b) env v g in
    let h : lookup (number b) env ≡ some (pair l r) = gives_inv (atom b) env (pair l r) k in
    let c = lookup_compose (number b) (part_path d) env (path_pos (number b) env l r h) (part_pos d) in
    let e : and_then (lookup (number b) env) (lookup (part_path d)) ≡ some v = ap (λ o. and_then o (lookup (part_path d))) h ∙ lookup_part d l r ∙ ap some i in
    gives_intro (atom _) env v (ap (λ n. lookup n env) (number_bytes_of (compose_paths (number b) (part_path d))) ∙ c ∙ e)

-- ---- the rule

path_to_good : (bs : List ℕ) (off : Bool) → Quiet (path_to bs off) (λ u. (u ≡ atom bs) × (off ≡ false))
unfolding path_to
path_to_good bs off =
    sure_if (leb (length bs) path_limit)
    (λ e. sure_seq (quiet_mark off) (sure_seq (quiet_charge _) (sure_give _ (λ x m. (refl, m)))))
    (λ e. sure_refuse _)

not_misread : (b : List ℕ) → misread b ≡ false → node_path_index b ≡ number b
unfolding misread
not_misread b h = eqb_sound (node_path_index b) (number b) (go (eqb (node_path_index b) (number b)) h)
  where
    go : (x : Bool) → not x ≡ false → x ≡ true
    go true k = refl
    go false k = not_true k

longer_good : (r : Tree) (o : Option Tree) (q : ℕ) → ((b : List ℕ) → o ≡ some (atom b) → Keeps r (atom (bytes_of (compose_paths (number b) q))))
    → Quiet (longer r o q) (λ u. Keeps r u)
unfolding longer
longer_good r none q f = sure_give _ (keeps_refl r)
longer_good r (some (atom b)) q f =
    sure_map (λ u k. keeps_at refl (k.0 ∙ ap (λ n. atom (bytes_of (compose_paths n q))) (not_misread b k.1)) (f b refl)) (path_to_good _ _)
longer_good r (some (pair x y)) q f = sure_give _ (keeps_refl r)

part_good : (d : Bool) (r : Tree) → Quiet (longer r (got atom_name (match_sexp (atom_pattern (part_byte d)) r [])) (part_path d)) (λ u. Keeps r u)
part_good d r = longer_good r _ (part_path d) (λ b e. keeps_at (part_of_atom_shape (part_byte d) r (atom b) e) refl (longer_path d b))

-- 6. where the path rule sets no mark, N was read so
pub path_good : GoodRule path_optimizer
unfolding path_optimizer part_byte part_path
path_good r = go (match_sexp (atom_pattern 5) r []) refl
  where
    go : (m : Match) → match_sexp (atom_pattern 5) r [] ≡ m → Quiet (elim m as (λ x. W Tree) [
      | matched ks ↦ longer r (got atom_name (matched ks)) 2
      | no_match ds ↦ longer r (got atom_name (match_sexp (atom_pattern 6) r [])) 3
      | too_many_names ↦ longer r (got atom_name (match_sexp (atom_pattern 6) r [])) 3
    ]) (λ u. Keeps r u)
    go (matched ks) e = subst (λ m. Quiet (longer r (got atom_name m) 2) (λ u. Keeps r u)) e (part_good false r)
    go (no_match ds) e = part_good true r
    go too_many_names e = part_good true r

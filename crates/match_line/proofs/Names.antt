-- A match binds at most two names, and each has at most 64 bytes; so its parts' line is short. Assumes nothing.
use mathlib.Core.Path.{◌≡◌, refl, ap, subst}
use mathlib.Core.List.{List, [], ◌∷◌, ◌++◌}
use mathlib.Core.Bool.{true, false, ◌&&◌, not}
use mathlib.Core.Option.{Option, none, some}
use Prim.Native.Nat.{ℕ, ◌+◌, ◌*◌, ◌≤◌}
use native.Mathlib.Omega.{arith}
use lib.Dec.{ltb}
use borrow.Author.Tests.{lt-ltb}
use lib.ListN.{length, take, drop, length-append}
use Rattle.meaning.specs.Tree.{Tree, atom, pair, same_bytes, equal_to, is_byte}
use Rattle.meaning.specs.Limits.{atom_limit, path_limit}
use Rattle.meaning.specs.Number.{number, bytes_of}
use Rattle.meaning.specs.Meter.{Out, done, stop}
use Rattle.meaning.specs.Form.{Reading, read_form, Narrow, write_length, write_atom, write}
use Rattle.meaning.specs.Match as meaning
use Rattle.refusals.specs.Numbers.{number_of}
use Rattle.meaning.specs.Outcome.{Outcome, plain, no_match, too_many_names, answered, refused}
use Rattle.meaning.proofs.Tests.{on_bool}
use Rattle.meaning.proofs.Verdict.{in_part_keeps}
use Rattle.meaning.proofs.ReadWrite.{form_read}
use Rattle.meaning.proofs.Yields.{either_way}
use Rattle.form.specs.Both.{Both, read_both}
use Rattle.matcher.specs.Outcome.{worked, parts, joined, outcome}
use Rattle.matcher.proofs.Whole.{Parted, match_parted, match_placed}
use Rattle.lines.specs.Hex.{hex_of}
use Rattle.lines.specs.Text.{out_most, line_most}
use Rattle.lines.proofs.Lengths.{hex_length, no_most}
use Rattle.match_line.specs.Line.{binding_text, bindings_text, bound_line, no_match_at, no_match_line, too_many_line, bound, line_of, match_line}

abbrev pub Short : meaning.Binding → Type 0
Short k = length k.name ≤ atom_limit

unfoldable pub Few : List meaning.Binding → Type 0
Few [] = Unit {0}
Few (j ∷ []) = Short j
Few (j ∷ k ∷ []) = Short j × Short k
Few (j ∷ k ∷ l ∷ ks) = ⊥

-- ---- the matcher, where the pattern's atoms have at most 64 bytes

IfMatched : meaning.Match → Type 0
IfMatched (meaning.matched ks) = Few ks
IfMatched (meaning.no_match ds) = Unit {0}
IfMatched meaning.too_many_names = Unit {0}

insert_few : (k : meaning.Binding) (ks : List meaning.Binding) → Short k → Few ks → IfMatched (meaning.insert k ks)
unfolding meaning.insert IfMatched Few
insert_few k [] h hs = h
insert_few k (c ∷ []) h hs = (hs, h)
insert_few k (c ∷ d ∷ ks) h hs = tt

unify_few : (ks : List meaning.Binding) (n : List ℕ) (t : Tree) → length n ≤ atom_limit → Few ks → IfMatched (meaning.unify_bindings ks n t)
unfolding meaning.unify_bindings IfMatched
unify_few ks n t h hs = go (meaning.get n ks)
  where
    go : (o : Option Tree) → IfMatched (elim o [
      | some u ↦ elim (equal_to u t) [ true ↦ meaning.matched ks | false ↦ meaning.no_match [] ]
      | none ↦ meaning.insert (record { name = n; node = t }) ks
    ])
    go (some u) = either_way IfMatched (equal_to u t) _ _ hs tt
    go none = insert_few (record { name = n; node = t }) ks h hs

at_atom_few : (a b s : List ℕ) (ks : List meaning.Binding) → length b ≤ atom_limit → Few ks → IfMatched (meaning.at_atom a b s ks)
unfolding meaning.at_atom IfMatched Few
at_atom_few a b s ks h hs =
    either_way IfMatched (is_byte meaning.atom_match a) _ _
    (either_way IfMatched (is_byte meaning.atom_match b) _ _ (either_way IfMatched (is_byte meaning.atom_match s) _ _ tt tt) (unify_few ks b (atom s) h hs))
    (either_way IfMatched (is_byte meaning.sexp_match a) _ _
    (either_way IfMatched (is_byte meaning.sexp_match b && is_byte meaning.sexp_match s) _ _ tt (unify_few ks b (atom s) h hs)) tt)

then_few : (m : meaning.Match) (f : List meaning.Binding → meaning.Match) → IfMatched m → ((ks : List meaning.Binding) → Few ks → IfMatched (f ks)) → IfMatched (meaning.◌and_then◌ (meaning.in_part false m) (λ ks. meaning.in_part true (f ks)))
unfolding meaning.◌and_then◌ meaning.in_part IfMatched
then_few (meaning.matched ks) f h k = in_part_keeps IfMatched (λ ds es i. tt) true (f ks) (k ks h)
then_few (meaning.no_match ds) f h k = tt
then_few meaning.too_many_names f h k = tt

match_few : (p s : Tree) (ks : List meaning.Binding) → Narrow p → Few ks → IfMatched (meaning.match_sexp p s ks)
unfolding meaning.match_sexp IfMatched Narrow
match_few (atom p) (atom s) ks h hs = either_way IfMatched (same_bytes p s) _ _ hs tt
match_few (atom p) (pair l r) ks h hs = tt
match_few (pair (atom a) (atom b)) (atom s) ks h hs = at_atom_few a b s ks h.1 hs
match_few (pair (atom a) (atom b)) (pair l r) ks h hs =
    either_way IfMatched (is_byte meaning.sexp_match a && not (is_byte meaning.sexp_match b)) _ _
    (unify_few ks b (pair l r) h.1 hs)
    (then_few (meaning.match_sexp (atom a) l ks) (λ js. meaning.match_sexp (atom b) r js) (match_few (atom a) l ks h.0 hs) (λ js hj. match_few (atom b) r js h.1 hj))
match_few (pair (atom a) (pair c d)) (atom s) ks h hs = tt
match_few (pair (atom a) (pair c d)) (pair l r) ks h hs =
    then_few (meaning.match_sexp (atom a) l ks) (λ js. meaning.match_sexp (pair c d) r js) (match_few (atom a) l ks h.0 hs) (λ js hj. match_few (pair c d) r js h.1 hj)
match_few (pair (pair c d) q) (atom s) ks h hs = tt
match_few (pair (pair c d) q) (pair l r) ks h hs =
    then_few (meaning.match_sexp (pair c d) l ks) (λ js. meaning.match_sexp q r js) (match_few (pair c d) l ks h.0 hs) (λ js hj. match_few q r js h.1 hj)

-- ---- the work on two forms

-- the atoms of a pattern that was read have at most 64 bytes
IfBoth : Out Reading Both → Type 0
IfBoth (done b r) = Narrow b.one
IfBoth (stop n r) = Unit {0}

both_narrow : (p e : List ℕ) → IfBoth (read_both p e)
unfolding read_both IfBoth
both_narrow p e = first (read_form p 0) refl
  where
    second : (t : Tree) → Narrow t → (o : Out Reading Tree) → IfBoth (elim o [ done u r ↦ done (record { one = t; other = u }) r | stop n r ↦ stop n r ])
    second t h (done u r) = h
    second t h (stop n r) = tt

    first : (o : Out Reading Tree) → read_form p 0 ≡ o → IfBoth (elim o [
      | done t s ↦ elim (read_form e s.units) [ done u r ↦ done (record { one = t; other = u }) r | stop n r ↦ stop n r ]
      | stop n s ↦ stop n s
    ])
    first (done t s) i = second t (form_read p 0 t s i).narrow (read_form e s.units)
    first (stop n s) i = tt

-- what was worked binds few names
IfDone : Out Reading meaning.Match → Type 0
IfDone (done x s) = IfMatched x
IfDone (stop n s) = Unit {0}

worked_few : (p e : List ℕ) → IfDone (worked p e)
unfolding worked IfDone IfBoth Few
worked_few p e = go (read_both p e) (both_narrow p e)
  where
    go : (o : Out Reading Both) → IfBoth o → IfDone (elim o [ done b r ↦ done (meaning.match_sexp b.one b.other []) r | stop n r ↦ stop n r ])
    go (done b r) h = match_few b.one b.other [] h tt
    go (stop n r) h = tt

-- the bindings of a plain answer: few, and those that the work bound
module _ (forms : List ℕ) (first m : ℕ) (bytes ns : List ℕ) (p : Parted forms first m bytes ns) where
  pub parted_few : Few p.ks
  unfolding IfDone IfMatched
  parted_few = subst IfDone p.is (worked_few (take first forms) (drop first forms))

  pub parted_bound : bound (worked (take first forms) (drop first forms)) ≡ p.ks
  unfolding bound
  parted_bound = ap bound p.is

-- ---- how long the line is at most

atom_longer : (bs : List ℕ) → length bs ≤ length (write_atom bs)
unfolding write_atom
atom_longer [] = omega arith
atom_longer (x ∷ []) = on_bool (ltb x 0x80) (λ e. rw (e, write_atom) (omega arith)) (λ e. rw (e, write_atom) (omega arith))
atom_longer (x ∷ y ∷ bs) = omega (arith, length-append (write_length (length (x ∷ y ∷ bs))) (x ∷ y ∷ bs))

binding_length : (name tree : List ℕ) → length (binding_text name tree) ≡ 2 * length name + 2 * length tree + 2
unfolding binding_text
binding_length name tree = omega (arith, length-append (hex_of name) (61 ∷ hex_of tree), hex_length name, hex_length tree)

bindings_most : (ks : List meaning.Binding) → length (bindings_text ks) ≤ 2 * length (joined (parts ks)) + 2 * length ks
unfolding bindings_text joined parts write
bindings_most [] = omega arith
bindings_most (k ∷ ks) =
    let name : List ℕ = write_atom k.name in
    let tree : List ℕ = write k.node in
    let h : length (bindings_text ks) ≤ 2 * length (joined (parts ks)) + 2 * length ks = bindings_most ks in
    let a : length (bindings_text (k ∷ ks)) ≡ length (binding_text k.name tree) + length (bindings_text ks) = length-append (binding_text k.name tree) (bindings_text ks) in
    let b : length (binding_text k.name tree) ≡ 2 * length k.name + 2 * length tree + 2 = binding_length k.name tree in
    let c : length (joined (parts (k ∷ ks))) ≡ length name + length (tree ++ joined (parts ks)) = length-append name (tree ++ joined (parts ks)) in
    let d : length (tree ++ joined (parts ks)) ≡ length tree + length (joined (parts ks)) = length-append tree (joined (parts ks)) in
    let e : length k.name ≤ length name = atom_longer k.name in
    omega arith

few_most : (ks : List meaning.Binding) → Few ks → length ks ≤ 2
unfolding Few
few_most [] h = omega arith
few_most (j ∷ []) h = omega arith
few_most (j ∷ k ∷ []) h = omega arith
few_most (j ∷ k ∷ l ∷ ks) h = absurd h

parted_most : (forms : List ℕ) (first m : ℕ) (bytes ns : List ℕ) (p : Parted forms first m bytes ns) → m ≤ out_most → length (bound_line p.ks) ≤ line_most
unfolding bound_line
parted_most forms first m bytes ns p h =
    let a : length (bindings_text p.ks ++ (10 ∷ [])) ≡ length (bindings_text p.ks) + 1 = length-append (bindings_text p.ks) (10 ∷ []) in
    let b : length (bindings_text p.ks) ≤ 2 * length (joined (parts p.ks)) + 2 * length p.ks = bindings_most p.ks in
    let c : length bytes ≡ length (joined (parts p.ks)) = ap length p.bytes_are in
    let d : length bytes ≤ m = p.fits in
    let e : length p.ks ≤ 2 = few_most p.ks (parted_few forms first m bytes ns p) in
    omega arith

prefix_most : (n : ℕ) → n ≤ path_limit → length (write_length n) ≤ 2
unfolding write_length
prefix_most n h = on_bool (ltb n 0x40) (λ e. rw (e, write_length) (omega arith)) (λ e. rw (e, lt-ltb n 0x2000 (omega arith), write_length) (omega arith))

pub atom_most : (bs : List ℕ) → length bs ≤ path_limit → length (write_atom bs) ≤ length bs + 2
unfolding write_atom
atom_most [] h = omega arith
atom_most (x ∷ []) h = on_bool (ltb x 0x80) (λ e. rw (e, write_atom) (omega arith)) (λ e. rw (e, write_atom) (omega arith))
atom_most (x ∷ y ∷ bs) h = omega (arith, length-append (write_length (length (x ∷ y ∷ bs))) (x ∷ y ∷ bs), prefix_most (length (x ∷ y ∷ bs)) h)

place_most : (place : List ℕ) → length (bytes_of (number place)) ≤ path_limit → length (no_match_line place) ≤ line_most
unfolding no_match_line no_match_at
place_most place h =
    let b : List ℕ = write_atom (bytes_of (number place)) in
    omega (arith, length-append (hex_of b) (10 ∷ []), hex_length b, atom_most (bytes_of (number place)) h)

pub line_short : (forms : List ℕ) (first room-length m : ℕ) → m ≤ out_most → length (match_line forms first room-length m) ≤ line_most
unfolding match_line line_of too_many_line
line_short forms first room-length m h = go (outcome forms first room-length m) refl
  where
    go : (o : Outcome) → outcome forms first room-length m ≡ o → length (line_of (bound (worked (take first forms) (drop first forms))) o) ≤ line_most
    go (answered bytes plain ns) e =
        let p : Parted forms first m bytes ns = match_parted forms first m bytes ns room-length e in
        rw (parted_bound forms first m bytes ns p) (parted_most forms first m bytes ns p h)
    go (answered bytes no_match ns) e = place_most ns (match_placed forms first m bytes ns room-length e)
    go (answered bytes too_many_names ns) e = omega arith
    go (refused n) e = no_most (number_of n)

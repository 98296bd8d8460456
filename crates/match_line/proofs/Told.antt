-- What an answer says is printed. Assumes nothing.
use mathlib.Core.Path.{◌≡◌, sym, ◌∙◌, ap, ap₂, subst}
use mathlib.Core.List.{List, [], ◌∷◌, ◌++◌, append-nil, append_assoc}
use Prim.Native.Nat.{ℕ, ◌+◌, ◌-◌, ◌≤◌}
use native.Mathlib.Omega.{arith}
use lib.ListN.{length, take, drop, length-append, length-drop}
use lib.Seq.{take_at, drop_at, take_all, length-take-le}
use borrow.Author.Tests.{eq-eqb, ne_eqb}
use Rattle.std.specs.Prelude.{Ok, Err}
use Rattle.refusals.specs.declared.Refusal.{Refusal}
use Rattle.refusals.specs.Numbers.{number_of}
use Rattle.meaning.specs.Limits.{atom_limit, path_limit}
use Rattle.meaning.specs.Form.{write_atom, write}
use Rattle.meaning.specs.Number.{number, bytes_of}
use Rattle.meaning.specs.Match.{Binding}
use Rattle.meaning.specs.Outcome.{Outcome, plain, no_match, too_many_names, refused, out_after}
use Rattle.meaning.proofs.Lent.{Answers, told_answer, told_refusal}
use Rattle.form.specs.Writes.{Wrote}
use Rattle.form.proofs.Lend.{wrote_length}
use Rattle.matcher.specs.declared.Parts.{Parts}
use Rattle.matcher.specs.declared.Matching.{Matching}
use Rattle.matcher.specs.declared.Verdict.TheVariants.{Matched, NoMatch, TooManyNames}
use Rattle.matcher.specs.Outcome.{worked, parts, joined, end, outcome, says_at, says, Matches, Within}
use Rattle.matcher.proofs.Whole.{Parted, match_parted, match_placed}
use Rattle.lines.specs.Hex.{hex_of}
use Rattle.lines.specs.Text.{Printed, no_number}
use Rattle.lines.proofs.Printing as printing
use Rattle.match_line.specs.Line.{binding_text, bindings_text, bound_line, no_match_at, no_match_line, too_many_line, bound, line_of, match_line}
use Rattle.match_line.specs.Written.{name_in, NameFrom, both_in, ok_in}
use Rattle.match_line.proofs.Names.{Few, parted_few, parted_bound, atom_most}
use Rattle.match_line.proofs.Found.{both_written}

-- ---- a name and a tree

module _ (both s t u x y : List ℕ) (mid from at a b c r : ℕ) (n : NameFrom (take mid both) from) where
  pub both_printed : Printed (hex_of (take (length both - mid) (drop mid both))) x y c r → Printed (61 ∷ []) u x b c
      → Printed (hex_of (take (length (take mid both) - from) (drop from (take mid both)))) t u a b → Printed (32 ∷ []) s t at a → Printed (both_in both mid) s y at r
  unfolding both_in binding_text
  both_printed k h g f =
      let l : length (drop mid both) ≡ length both - mid = length-drop mid both in
      let m : length (drop from (take mid both)) ≡ length (take mid both) - from = length-drop from (take mid both) in
      let d : take (length both - mid) (drop mid both) ≡ drop mid both = take_all (length both - mid) (drop mid both) (omega arith) in
      let e : take (length (take mid both) - from) (drop from (take mid both)) ≡ name_in (take mid both) =
      take_all (length (take mid both) - from) (drop from (take mid both)) (omega arith) ∙ n.rest in
      let tree : Printed (hex_of (drop mid both)) x y c r = rw d at k in
      let name : Printed (hex_of (name_in (take mid both))) t u a b = rw e at g in
      printing.joined (32 ∷ []) (hex_of (name_in (take mid both)) ++ (61 ∷ hex_of (drop mid both))) s t y at a r
      (printing.joined (hex_of (name_in (take mid both))) (61 ∷ hex_of (drop mid both)) t u y a b r
      (printing.joined (61 ∷ []) (hex_of (drop mid both)) u x y b c r tree h) name) f

-- ---- the parts

module _ (out : List ℕ) (e : Parts) where
  abbrev first : List ℕ
  first = both_in (take e.node_1 out) e.name_1

  abbrev second : List ℕ
  second = both_in (take (e.node_2 - e.node_1) (drop e.node_1 out)) (e.name_2 - e.node_1)

  none_is : e.count ≡ 0 → ok_in out e ≡ 111 ∷ 107 ∷ []
  unfolding ok_in
  none_is n = rw (eq-eqb e.count 0 n, ok_in)

  one_is : (e.count ≡ 0 → ⊥) → e.count ≡ 1 → ok_in out e ≡ 111 ∷ 107 ∷ first
  unfolding ok_in
  one_is n m = rw (ne_eqb e.count 0 n, eq-eqb e.count 1 m, ok_in) (ap (λ (z : List ℕ). 111 ∷ 107 ∷ z) (append-nil first))

  two_is : (e.count ≡ 0 → ⊥) → (e.count ≡ 1 → ⊥) → ok_in out e ≡ 111 ∷ 107 ∷ (first ++ second)
  unfolding ok_in
  two_is n m = rw (ne_eqb e.count 0 n, ne_eqb e.count 1 m, ok_in)

  pub first_count : Within e (length out) → e.node_1 ≡ length (take e.node_1 out)
  first_count h = let a = h.second in let b = h.third in let c = h.last in sym (length-take-le e.node_1 out (omega arith))

  pub first_within : Within e (length out) → e.name_1 ≤ length (take e.node_1 out)
  first_within h = let a = h.first in let b = first_count h in omega arith

  module _ (s t : List ℕ) (at a : ℕ) where
    pub ok_none : Printed (111 ∷ 107 ∷ []) s t at a → e.count ≡ 0 → Printed (ok_in out e) s t at a
    ok_none p n = rw (none_is n) p

    pub ok_one : (u : List ℕ) (b : ℕ) → Printed first t u a b → Printed (111 ∷ 107 ∷ []) s t at a → (e.count ≡ 0 → ⊥) → e.count ≡ 1 → Printed (ok_in out e) s u at b
    ok_one u b q p n m = rw (one_is n m) (printing.joined (111 ∷ 107 ∷ []) first s t u at a b q p)

    pub ok_two : (u v : List ℕ) (b r : ℕ) → Printed second u v b r → Printed first t u a b → Printed (111 ∷ 107 ∷ []) s t at a
        → (e.count ≡ 0 → ⊥) → (e.count ≡ 1 → ⊥) → Printed (ok_in out e) s v at r
    ok_two u v b r o q p n m = rw (two_is n m) (printing.joined (111 ∷ 107 ∷ []) (first ++ second) s t v at a r (printing.joined first second t u v a b r o q) p)

-- ---- the parts of at most two bindings

two_parts : (a b : List ℕ) → joined (a ∷ b ∷ []) ≡ a ++ b
unfolding joined
two_parts a b = ap (λ (z : List ℕ). a ++ z) (append-nil b)

three_parts : (a b c : List ℕ) → joined (a ∷ b ∷ c ∷ []) ≡ (a ++ b) ++ c
unfolding joined
three_parts a b c = ap (λ (z : List ℕ). a ++ (b ++ z)) (append-nil c) ∙ sym (append_assoc a b c)

four_parts : (a b c d : List ℕ) → joined (a ∷ b ∷ c ∷ d ∷ []) ≡ (a ++ b) ++ (c ++ d)
unfolding joined
four_parts a b c d = ap (λ (z : List ℕ). a ++ (b ++ (c ++ z))) (append-nil d) ∙ sym (append_assoc a b (c ++ d))

one_part : (a : List ℕ) → joined (a ∷ []) ≡ a
unfolding joined
one_part a = append-nil a

-- the bytes w, of which the parts of e are the first
module _ (w : List ℕ) (e : Parts) (rest : List ℕ) where
  module _ (name tree : List ℕ) (short : length name ≤ atom_limit) (n₁ : e.name_1 ≡ length (write_atom name)) (t₁ : e.node_1 ≡ length (write_atom name ++ tree)) where
    first_is : (more : List ℕ) → w ≡ (write_atom name ++ tree) ++ more → first w e ≡ binding_text name tree
    first_is more j =
        ap (λ (z : List ℕ). both_in z e.name_1) (ap (take e.node_1) j ∙ take_at (write_atom name ++ tree) more e.node_1 (sym t₁))
        ∙ both_written name tree e.name_1 short (sym n₁)

    module _ (name' tree' : List ℕ) (short' : length name' ≤ atom_limit) (n₂ : e.name_2 ≡ length ((write_atom name ++ tree) ++ write_atom name'))
        (t₂ : e.node_2 ≡ length ((write_atom name ++ tree) ++ (write_atom name' ++ tree'))) (j : w ≡ (write_atom name ++ tree) ++ ((write_atom name' ++ tree') ++ rest)) where
      second_is : second w e ≡ binding_text name' tree'
      second_is =
          let front : List ℕ = write_atom name ++ tree in
          let a : length (front ++ write_atom name') ≡ length front + length (write_atom name') = length-append front (write_atom name') in
          let b : length (front ++ (write_atom name' ++ tree')) ≡ length front + length (write_atom name' ++ tree') = length-append front (write_atom name' ++ tree') in
          let c : length (write_atom name' ++ tree') ≡ e.node_2 - e.node_1 = omega arith in
          let d : length (write_atom name') ≡ e.name_2 - e.node_1 = omega arith in
          let behind : drop e.node_1 w ≡ (write_atom name' ++ tree') ++ rest = ap (drop e.node_1) j ∙ drop_at front ((write_atom name' ++ tree') ++ rest) e.node_1 (sym t₁) in
          ap (λ (z : List ℕ). both_in z (e.name_2 - e.node_1))
          (ap (take (e.node_2 - e.node_1)) behind ∙ take_at (write_atom name' ++ tree') rest (e.node_2 - e.node_1) c)
          ∙ both_written name' tree' (e.name_2 - e.node_1) short' d

  shown : (ks : List Binding) → Few ks → e.count ≡ length ks → e.name_1 ≡ end 1 ks → e.node_1 ≡ end 2 ks → e.name_2 ≡ end 3 ks → e.node_2 ≡ end 4 ks
      → w ≡ joined (parts ks) ++ rest → ok_in w e ≡ 111 ∷ 107 ∷ bindings_text ks
  unfolding Few bindings_text end parts write
  shown [] few c n₁ t₁ n₂ t₂ j = none_is w e c
  shown (k ∷ []) few c n₁ t₁ n₂ t₂ j =
      let name : List ℕ = write_atom k.name in
      let tree : List ℕ = write k.node in
      one_is w e (λ z. omega arith) c
      ∙ ap (λ (z : List ℕ). 111 ∷ 107 ∷ z)
      (first_is k.name tree few (n₁ ∙ ap length (one_part name)) (t₁ ∙ ap length (two_parts name tree)) rest (j ∙ ap (◌++ rest) (two_parts name tree))
      ∙ sym (append-nil (binding_text k.name tree)))
  shown (k ∷ l ∷ []) few c n₁ t₁ n₂ t₂ j =
      let name : List ℕ = write_atom k.name in
      let tree : List ℕ = write k.node in
      let name' : List ℕ = write_atom l.name in
      let tree' : List ℕ = write l.node in
      let a : e.name_1 ≡ length name = n₁ ∙ ap length (one_part name) in
      let b : e.node_1 ≡ length (name ++ tree) = t₁ ∙ ap length (two_parts name tree) in
      let i : w ≡ (name ++ tree) ++ ((name' ++ tree') ++ rest) = j ∙ ap (◌++ rest) (four_parts name tree name' tree') ∙ append_assoc (name ++ tree) (name' ++ tree') rest in
      two_is w e (λ z. omega arith) (λ z. omega arith)
      ∙ ap (λ (z : List ℕ). 111 ∷ 107 ∷ z)
      (ap₂ ◌++◌
      (first_is k.name tree few.0 a b ((name' ++ tree') ++ rest) i)
      (second_is k.name tree few.0 a b l.name tree' few.1 (n₂ ∙ ap length (three_parts name tree name')) (t₂ ∙ ap length (four_parts name tree name' tree')) i
      ∙ sym (append-nil (binding_text l.name tree'))))
  shown (k ∷ l ∷ m ∷ ks) few c n₁ t₁ n₂ t₂ j = absurd few

-- the ends, told as a list
shown_of : (w : List ℕ) (e : Parts) (rest : List ℕ) (ks : List Binding) → Few ks → e.count ∷ e.name_1 ∷ e.node_1 ∷ e.name_2 ∷ e.node_2 ∷ [] ≡ length ks ∷ end 1 ks ∷ end 2 ks ∷ end 3 ks ∷ end 4 ks ∷ []
    → w ≡ joined (parts ks) ++ rest → ok_in w e ≡ 111 ∷ 107 ∷ bindings_text ks
shown_of w e rest ks few x y = shown w e rest ks few (cc) (cc) (cc) (cc) (cc) y

-- ---- the place

module _ (path out : List ℕ) (h : length path ≤ path_limit) (l : path_limit + 2 ≤ length out) where
  pub path_atom : length path ≤ 256
  path_atom = omega arith

  pub path_fits : length (write_atom path) ≤ length out
  path_fits = let a : length (write_atom path) ≤ length path + 2 = atom_most path h in omega arith

  module _ (out₁ : List ℕ) (n : ℕ) (w : Wrote (write_atom path) n out out₁) where
    pub path_within : n ≤ length out₁
    path_within = let a = path_fits in let b : length out₁ ≡ length out = wrote_length (write_atom path) out out₁ n w path_fits in let c : n ≡ length (write_atom path) = w.count in omega arith

    pub path_count : n ≡ length (take n out₁)
    path_count = sym (length-take-le n out₁ path_within)

pub path_printed : (path out out₁ s t u v : List ℕ) (n at a b r : ℕ) → Printed (10 ∷ []) u v b r → Printed (hex_of (take n out₁)) t u a b → Printed (110 ∷ 111 ∷ 32 ∷ 109 ∷ 97 ∷ 116 ∷ 99 ∷ 104 ∷ 32 ∷ []) s t at a
    → Wrote (write_atom path) n out out₁ → Printed (no_match_at path) s v at r
unfolding no_match_at
path_printed path out out₁ s t u v n at a b r k g f w =
    let x : take n out₁ ≡ write_atom path = ap (take n) w.bytes ∙ take_at (write_atom path) (drop (length (write_atom path)) out) n (sym w.count) in
    let y : Printed (hex_of (write_atom path)) t u a b = rw x at g in
    printing.joined (110 ∷ 111 ∷ 32 ∷ 109 ∷ 97 ∷ 116 ∷ 99 ∷ 104 ∷ 32 ∷ []) (hex_of (write_atom path) ++ (10 ∷ [])) s t v at a r
    (printing.joined (hex_of (write_atom path)) (10 ∷ []) t u v a b r k y) f

module _ (place path : List ℕ) (e : path ≡ bytes_of (number place)) where
  pub place_path : length (bytes_of (number place)) ≤ path_limit → length path ≤ path_limit
  place_path h = rw e h

  pub place_printed : (s t : List ℕ) (at r : ℕ) → Printed (no_match_at path) s t at r → Printed (no_match_line place) s t at r
  unfolding no_match_line
  place_printed s t at r p = rw e at p

-- ---- the answer

module _ (forms : List ℕ) (first-length : ℕ) (s s' w w' : List ℕ) (m : Matching) (h : Matches (outcome forms first-length (length s) (length w)) s s' w w' m) where
  abbrev o : Outcome
  o = outcome forms first-length (length s) (length w)

  abbrev ks : List Binding
  ks = bound (worked (take first-length forms) (drop first-length forms))

  abbrev line : List ℕ
  line = match_line forms first-length (length s) (length w)

  pub matched_line : (e : Parts) (t u v : List ℕ) (at k r : ℕ) → Printed (10 ∷ []) u v k r → Printed (ok_in w' e) t u at k → m.answer ≡ Ok (Matched e) → Printed line t v at r
  unfolding says says_at match_line line_of bound_line out_after
  matched_line e t u v at k r q p i =
      let ends : List ℕ = e.count ∷ e.name_1 ∷ e.node_1 ∷ e.name_2 ∷ e.node_2 ∷ [] in
      let b : Answers o plain ends w w' = told_answer o plain ends w w' (sym (ap (says_at m.place) i) ∙ h.settles.delivers.answer) h.settles.delivers.out in
      let d : Parted forms first-length (length w) b.bytes ends = match_parted forms first-length (length w) b.bytes ends (length s) b.is in
      let x : ends ≡ length d.ks ∷ end 1 d.ks ∷ end 2 d.ks ∷ end 3 d.ks ∷ end 4 d.ks ∷ [] = d.numbers_are in
      let y : w' ≡ joined (parts d.ks) ++ drop (length b.bytes) w = h.settles.delivers.out ∙ ap (λ (z : Outcome). out_after z w) b.is ∙ ap (◌++ drop (length b.bytes) w) d.bytes_are in
      let z : ok_in w' e ≡ 111 ∷ 107 ∷ bindings_text d.ks = shown_of w' e (drop (length b.bytes) w) d.ks (parted_few forms first-length (length w) b.bytes ends d) x y in
      let f : Printed (111 ∷ 107 ∷ bindings_text d.ks) t u at k = rw z at p in
      let g : Printed (bound_line d.ks) t v at r = printing.joined (111 ∷ 107 ∷ bindings_text d.ks) (10 ∷ []) t u v at k r q f in
      rw (b.is, line_of, parted_bound forms first-length (length w) b.bytes ends d) g

  failed : m.answer ≡ Ok NoMatch → Answers o no_match m.place w w'
  unfolding says says_at
  failed i = told_answer o no_match m.place w w' (sym (ap (says_at m.place) i) ∙ h.settles.delivers.answer) h.settles.delivers.out

  pub place_held : m.answer ≡ Ok NoMatch → length (bytes_of (number m.place)) ≤ path_limit
  place_held i =
      let b : Answers o no_match m.place w w' = failed i in
      match_placed forms first-length (length w) b.bytes m.place (length s) b.is

  pub not_line : (t t' : List ℕ) (at r : ℕ) → Printed (no_match_line m.place) t t' at r → m.answer ≡ Ok NoMatch → Printed line t t' at r
  unfolding match_line line_of
  not_line t t' at r p i = let b : Answers o no_match m.place w w' = failed i in rw (b.is, line_of) p

  pub many_line : (t t' : List ℕ) (at r : ℕ) → Printed too_many_line t t' at r → m.answer ≡ Ok TooManyNames → Printed line t t' at r
  unfolding says says_at match_line line_of
  many_line t t' at r p i =
      let b : Answers o too_many_names [] w w' = told_answer o too_many_names [] w w' (sym (ap (says_at m.place) i) ∙ h.settles.delivers.answer) h.settles.delivers.out in rw (b.is, line_of) p

  pub no_line : (n : Refusal) (k : ℕ) (t t' : List ℕ) (at r : ℕ) → Printed (no_number k) t t' at r → k ≡ number_of n → m.answer ≡ Err n → Printed line t t' at r
  unfolding says says_at match_line line_of
  no_line n k t t' at r p e i =
      let b : o ≡ refused n = told_refusal o n (sym (ap (says_at m.place) i) ∙ h.settles.delivers.answer) in subst (λ (x : Outcome). Printed (line_of ks x) t t' at r) (sym b) (subst (λ (j : ℕ). Printed (no_number j) t t' at r) e p)

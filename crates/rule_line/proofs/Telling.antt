-- What was said is printed. Assumes nothing.
use Rattle.std.specs.Prelude.{Result, Ok, Err, Option, Some, None}
use mathlib.Core.Path.{◌≡◌, refl, sym, ◌∙◌, subst}
use mathlib.Core.Bool.{Bool, true, false, ◌&&◌}
use mathlib.Core.List.{List, [], ◌∷◌, ◌++◌}
use Prim.Native.Nat.{ℕ, ◌-◌, ◌<◌, ◌≤◌}
use native.Mathlib.Omega.{arith}
use lib.Dec.{eqb, leb}
use lib.ListN.{length, take, drop, get_or, length-append, length-drop}
use lib.Seq.{length-take-le, take_all}
use borrow.Author.Tests.{leb-true, le-leb, lt-leb, ne_eqb}
use mir.Val.{bool_byte}
use Rattle.refusals.specs.declared.Refusal.{Refusal}
use Rattle.refusals.specs.declared.Refusal.TheVariants.{OutputShort}
use Rattle.refusals.specs.Numbers.{number_of}
use Rattle.meaning.specs.Tree.{Tree, equal_to}
use Rattle.meaning.specs.Meter.{Out, done, stop, Spent}
use Rattle.meaning.specs.Form.{Reading, read_form, write}
use Rattle.meaning.specs.Run.{mark_number, after_reading}
use Rattle.meaning.proofs.Tests.{on_bool, and_inv}
use Rattle.meaning.proofs.Yields.{either_way}
use Rattle.store.specs.Nodes.{tree_at}
use Rattle.store.proofs.Places.{whether}
use Rattle.form.specs.Writes.{Writable, WroteAll, WroteNone, Delivered}
use Rattle.run_state.specs.declared.Outcome.TheVariants.{Same, Changed, Stopped}
use Rattle.run_state.specs.declared.Work.{Work}
use Rattle.run_state.specs.Work.{spent_of}
use Rattle.driver.specs.Alone.{one_rule}
use Rattle.lines.specs.Hex.{hex_of}
use Rattle.lines.specs.Text.{out_most, line_most, Printed, numbers_line, no_number, no_line}
use Rattle.lines.proofs.Printing.{joined}
use Rattle.lines.proofs.Front.{Front, front}
use Rattle.lines.proofs.Lengths.{hex_length, end_most, no_most, no_line_most}
use Rattle.outcome.proofs.Laws.{mark_byte}
use Rattle.rule_line.specs.Said.{Said, same, changed, refused, written, said_of, said, Applied}
use Rattle.rule_line.specs.Line.{line_of, rule_of, rule_line}
use Rattle.rule_line.proofs.Applying.{left_same, changed_at, refused_by}

-- ---- `same`

module _ (u : ℕ) (m : Bool) (s t v : List ℕ) (at a r : ℕ) where
  pub same_printed : Printed (numbers_line (u ∷ bool_byte m ∷ [])) t v a r → Printed (115 ∷ 97 ∷ 109 ∷ 101 ∷ []) s t at a → Printed (line_of (same u m)) s v at r
  unfolding line_of
  same_printed k h = subst (λ (n : ℕ). Printed ((115 ∷ 97 ∷ 109 ∷ 101 ∷ []) ++ numbers_line (u ∷ n ∷ [])) s v at r) (mark_byte m) (joined (115 ∷ 97 ∷ 109 ∷ 101 ∷ []) (numbers_line (u ∷ bool_byte m ∷ [])) s t v at a r k h)

-- ---- `changed` and the tree

pub tree_printed : (bs : List ℕ) (u : ℕ) (m : Bool) (s t v x : List ℕ) (at a b r : ℕ) → Printed (numbers_line (u ∷ bool_byte m ∷ [])) v x b r → Printed (hex_of bs) t v a b
    → Printed (99 ∷ 104 ∷ 97 ∷ 110 ∷ 103 ∷ 101 ∷ 100 ∷ 32 ∷ []) s t at a → Printed (line_of (changed bs u m)) s x at r
unfolding line_of
tree_printed bs u m s t v x at a b r k h g =
    subst (λ (n : ℕ). Printed ((99 ∷ 104 ∷ 97 ∷ 110 ∷ 103 ∷ 101 ∷ 100 ∷ 32 ∷ []) ++ (hex_of bs ++ numbers_line (u ∷ n ∷ []))) s x at r) (mark_byte m)
    (joined (99 ∷ 104 ∷ 97 ∷ 110 ∷ 103 ∷ 101 ∷ 100 ∷ 32 ∷ []) (hex_of bs ++ numbers_line (u ∷ bool_byte m ∷ [])) s t x at a r
    (joined (hex_of bs) (numbers_line (u ∷ bool_byte m ∷ [])) t v x a b r k h) g)

refusal_line : (n : Refusal) → no_number (number_of n) ≡ line_of (refused n)
unfolding line_of
refusal_line n = refl

-- ---- a changed tree, where the output has room

module _ (f s out out' : List ℕ) (m : ℕ) (w : Work) (e : Option ℕ) (d : Delivered (write (tree_at f s m)) out out' e) where
  abbrev bytes : List ℕ
  bytes = write (tree_at f s m)

  pub tree_short : (n : ℕ) (t t' : List ℕ) (at r : ℕ) → Printed (no_number n) t t' at r → n ≡ number_of OutputShort → e ≡ None
      → Printed (line_of (written (length out) (tree_at f s m) (spent_of w))) t t' at r
  unfolding written Delivered
  tree_short n t t' at r k j o =
      let x : WroteNone bytes out out' = rw o at d in
      rw (lt-leb (length bytes) (length out) x.over, written) (rw (j, refusal_line OutputShort) at k)

  module _ (k : ℕ) (o : e ≡ Some k) where
    all : WroteAll bytes k out out'
    unfolding Delivered
    all = rw o at d

    shown : Front bytes out' k
    shown = front bytes out out' k all.wrote.bytes all.wrote.count

    pub tree_within : k ≤ length out'
    tree_within = shown.within

    pub tree_count : k ≡ length (take k out')
    tree_count = sym (length-take-le k out' shown.within)

    pub tree_told : (t t' : List ℕ) (at r : ℕ) → Printed (line_of (changed (take k out') w.ch.units w.mark)) t t' at r
        → Printed (line_of (written (length out) (tree_at f s m) (spent_of w))) t t' at r
    unfolding written
    tree_told t t' at r p = rw (le-leb (length bytes) (length out) all.fits, written) (rw shown.bytes at p)

-- ---- the rule's outcome

module _ (k : ℕ) (f s : List ℕ) (w : Work) (a : Applied k f s w) (out t t' : List ℕ) (at r : ℕ) where
  pub told_same : Printed (line_of (same w.ch.units w.mark)) t t' at r → w.last ≡ Same → Printed (line_of (said k f (length out))) t t' at r
  told_same p e = rw ((left_same k f s w a e).is (length out)) p

  module _ (m : ℕ) where
    pub told_changed : Printed (line_of (written (length out) (tree_at f s m) (spent_of w))) t t' at r → w.last ≡ Changed m → Printed (line_of (said k f (length out))) t t' at r
    told_changed p e = rw ((changed_at k f s w a m e).is (length out)) p

  pub told_refused : (n : Refusal) (x : ℕ) → Printed (no_number x) t t' at r → x ≡ number_of n → w.last ≡ Stopped n → Printed (line_of (said k f (length out))) t t' at r
  told_refused n x p j e = rw ((refused_by k f s w a n e).is (length out)) (rw (j, refusal_line n) at p)

pub change_writable : (k : ℕ) (f s : List ℕ) (w : Work) (m : ℕ) → Applied k f s w → w.last ≡ Changed m → Writable f s m
change_writable k f s w m a e = (changed_at k f s w a m e).writable

-- ---- the rule's number

module _ (both : List ℕ) (first : ℕ) where
  pub no_rule_first : (first ≡ 1 → ⊥) → 0 ≡ rule_of both first
  unfolding rule_of
  no_rule_first h = rw (ne_eqb first 1 h, rule_of)

  pub no_rule_empty : length both ≡ 0 → 0 ≡ rule_of both first
  unfolding rule_of
  no_rule_empty h = go both h
    where
      neither : (b : Bool) → ◌≡◌ {A = ℕ} 0 (elim b [ true ↦ 0 | false ↦ 0 ])
      neither true = refl
      neither false = refl

      go : (l : List ℕ) → length l ≡ 0 → 0 ≡ rule_of l first
      go [] i = neither (eqb first 1 && leb 0 8)
      go (x ∷ xs) i = absurd (omega arith)

  pub no_rule_large : first ≡ 1 → 8 < get_or both 0 0 → 0 ≡ rule_of both first
  unfolding rule_of
  no_rule_large e h = rw (e, lt-leb (get_or both 0 0) 8 h, rule_of)

  pub rule_named : first ≡ 1 → get_or both 0 0 ≤ 8 → get_or both 0 0 ≡ rule_of both first
  unfolding rule_of
  rule_named e h = rw (e, le-leb (get_or both 0 0) 8 h, rule_of)

  rule_most : rule_of both first ≤ 8
  unfolding rule_of
  rule_most = on_bool (eqb first 1 && leb (get_or both 0 0) 8)
      (λ e. rw (e, rule_of) (leb-true (get_or both 0 0) 8 (and_inv (eqb first 1) (leb (get_or both 0 0) 8) e).1))
      (λ e. rw (e, rule_of) (omega arith))

  -- ---- two lines

  module _ (k : ℕ) (e : k ≡ rule_of both first) where
    pub answer_none : (out t t' : List ℕ) (at r : ℕ) → Printed no_line t t' at r → k ≡ 0 → Printed (rule_line both first (length out)) t t' at r
    unfolding rule_line
    answer_none out t t' at r p z = let i : rule_of both first ≡ 0 = sym e ∙ z in rw (i, rule_line) p

    module _ (z : k ≡ 0 → ⊥) where
      pub answer_long : 1 ≤ length both
      answer_long = whether (length both) 0 (λ i. absurd (z (e ∙ sym (no_rule_empty i)))) (λ i. omega arith)

      pub answer_rule : 0 < k
      answer_rule = whether k 0 (λ i. absurd (z i)) (λ i. omega arith)

      pub answer_most : k ≤ 8
      answer_most = omega (arith, rule_most)

      -- the second line's bytes, as the code lends them
      second : take (length both - 1) (drop 1 both) ≡ drop 1 both
      second = take_all (length both - 1) (drop 1 both) (simp length-drop (omega arith))

      pub answer_told : (out t t' : List ℕ) (at r : ℕ) → Printed (line_of (said k (take (length both - 1) (drop 1 both)) (length out))) t t' at r → Printed (rule_line both first (length out)) t t' at r
      unfolding rule_line
      answer_told out t t' at r p = let i : eqb (rule_of both first) 0 ≡ false = ne_eqb (rule_of both first) 0 (λ j. z (e ∙ j)) in rw (i, rule_line) (rw (e, second) at p)

-- ---- how long the line is at most

IsShort : Said → Type 0
IsShort x = length (line_of x) ≤ line_most

same_most : (u : ℕ) (m : Bool) → IsShort (same u m)
unfolding IsShort line_of
same_most u m = omega (arith, end_most (u ∷ mark_number m ∷ []))

changed_most : (bs : List ℕ) (u : ℕ) (m : Bool) → length bs ≤ out_most → IsShort (changed bs u m)
unfolding IsShort line_of
changed_most bs u m h = omega (arith, hex_length bs, end_most (u ∷ mark_number m ∷ []), length-append (hex_of bs) (numbers_line (u ∷ mark_number m ∷ [])))

refused_most : (n : Refusal) → IsShort (refused n)
unfolding IsShort line_of
refused_most n = no_most (number_of n)

module _ (out : ℕ) (h : out ≤ out_most) where
  written_most : (t : Tree) (s : Spent) → IsShort (written out t s)
  unfolding written
  written_most t s = on_bool (leb (length (write t)) out)
      (λ e. rw (e, written) (changed_most (write t) s.units s.mark (omega (arith, leb-true (length (write t)) out e))))
      (λ e. rw (e, written) (refused_most OutputShort))

  said_of_most : (t : Tree) (o : Out Spent Tree) → IsShort (said_of out t o)
  unfolding said_of
  said_of_most t (done u s) = either_way IsShort (equal_to t u) (same s.units s.mark) (written out u s) (same_most s.units s.mark) (written_most u s)
  said_of_most t (stop n s) = refused_most n

  said_most : (k : ℕ) (f : List ℕ) → IsShort (said k f out)
  unfolding said
  said_most k f = go (read_form f 0)
    where
      go : (o : Out Reading Tree) → IsShort (elim o [ done t r ↦ said_of out t (one_rule k t (after_reading r)) | stop n r ↦ refused n ])
      go (done t r) = said_of_most t (one_rule k t (after_reading r))
      go (stop n r) = refused_most n

  pub line_short : (both : List ℕ) (first : ℕ) → length (rule_line both first out) ≤ line_most
  unfolding rule_line IsShort
  line_short both first =
      either_way (λ (l : List ℕ). length l ≤ line_most) (eqb (rule_of both first) 0) no_line (line_of (said (rule_of both first) (drop 1 both) out))
      no_line_most (said_most (rule_of both first) (drop 1 both))

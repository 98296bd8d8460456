-- "Each form read stands in exactly one column", a report takes 4,096 forms, and no sum comes near 64 bits. Assumes nothing.
use mathlib.Core.Path.{◌≡◌, refl, sym, ◌∙◌, ap, subst}
use mathlib.Core.List.{List, [], ◌∷◌, ◌++◌}
use mathlib.Core.Bool.{Bool, true, false}
use Prim.Native.Nat.{ℕ, zero, suc, ◌+◌, ◌-◌, ◌*◌, ◌^◌, ◌<◌, ◌≤◌}
use native.Mathlib.Omega.{arith}
use lib.Dec.{eqb, leb, ltb}
use lib.ListN.{length, get_or, set, length-set}
use lib.Seq.{get_or-set_same, get_or-set_other}
use borrow.Author.Tests.{ltb-true, lt-ltb, le-ltb, eqb-true, eqb-false, eq-eqb, ne_eqb}
use Rattle.refusals.specs.declared.Refusal.{Refusal}
use Rattle.refusals.specs.declared.Refusal.TheVariants.{RoomSmall, OutputShort}
use Rattle.refusals.specs.Numbers.{number_of}
use Rattle.meaning.specs.Tree.{Tree}
use Rattle.meaning.specs.Limits.{room_least}
use Rattle.meaning.specs.Meter.{Out, done, stop, Spent, count_of}
use Rattle.meaning.specs.Form.{write}
use Rattle.meaning.specs.Outcome.{Outcome, answered, refused, deliver, deliver_tree, ended, in_room}
use Rattle.meaning.specs.Run.{mark_number, finished, worked, ends_in, deliver_run, run}
use Rattle.meaning.proofs.Tests.{on_bool, leb_yes}
use Rattle.meaning.proofs.LogRun.{work_within, work_refused, count_few}
use Rattle.totals.specs.declared.Savings.{Savings}
use Rattle.totals.specs.Savings.{form_most, output_most, none_yet, greater, rules_with, with_answer, with_refusal, with_outcome, with_form, savings_from, savings_of, sum_from, forms_of, small_all, is_open}
use Rattle.totals.proofs.Adding.{number_least}

-- ---- what a run comes to

module _ (form : List ℕ) (room-length out-length : ℕ) where
  -- an answer, or a refusal with a number of 01's table
  pub data Ran : Outcome → Type 0 where
    ran : (t : Tree) (s : Spent) → worked form ≡ done t s → length (write t) ≤ out-length → Ran (finished (write t) s.passes s.units s.mark)
    not_ran : (n : Refusal) → number_of n ≤ 14 → Ran (refused n)

  delivered : (o : Out Spent Tree) → worked form ≡ o → Ran (ended (deliver_run out-length) o)
  unfolding ended deliver_run deliver_tree deliver
  delivered (done t s) e = on_bool (leb (length (write t)) out-length) (λ y. rw (y, deliver) (ran t s e (leb_yes _ _ y))) (λ y. rw (y, deliver) (not_ran OutputShort (omega arith)))
  delivered (stop n s) e = not_ran n (work_refused form n s e)

  pub run_is : Ran (run form room-length out-length)
  unfolding run in_room
  run_is = on_bool (leb room_least room-length) (λ y. rw (y, in_room) (delivered (worked form) refl)) (λ y. rw (y, in_room) (not_ran RoomSmall (omega arith)))

-- ---- columns

-- the column of a number: 0 is answered
unfoldable pub column : Savings → ℕ → ℕ
column s zero = s.answered
column s (suc k) = get_or s.refused k 0

-- the number of the column in which an outcome is counted
unfoldable pub counted_in : Outcome → ℕ
counted_in (answered bytes tag numbers) = 0
counted_in (refused n) = number_of n

-- one more where the numbers are the same
unfoldable pub if_same : ℕ → ℕ → ℕ
if_same k n = elim (eqb k n) [ true ↦ 1 | false ↦ 0 ]

same_one : (k : ℕ) → if_same k k ≡ 1
unfolding if_same
same_one k = rw (if_same, eq-eqb k k refl)

other_none : (k n : ℕ) → (k ≡ n → ⊥) → if_same k n ≡ 0
unfolding if_same
other_none k n e = rw (if_same, ne_eqb k n e)

in_answered : (s : Savings) (a b c d : ℕ) (f : ℕ → ℕ) (k : ℕ) → column (with_answer s a b c d f) k ≡ column s k + if_same k 0
unfolding column with_answer
in_answered s a b c d f zero = ap (s.answered +◌) (sym (same_one 0))
in_answered s a b c d f (suc k) = let z = other_none (suc k) 0 (λ e. absurd (omega (arith, e))) in omega (arith, z)

in_refused : (s : Savings) (n : Refusal) → length s.refused ≡ 14 → number_of n ≤ 14 → (k : ℕ) → column (with_refusal s n) k ≡ column s k + if_same k (number_of n)
unfolding column with_refusal
in_refused s n l m zero = let y = number_least n in let z = other_none 0 (number_of n) (λ e. absurd (omega (arith, e, y))) in omega (arith, z)
in_refused s n l m (suc k) = on_bool (eqb k i) (λ y. same (eqb-true k i y)) (λ y. other (eqb-false k i y))
  where
    i : ℕ
    i = number_of n - 1

    least : 1 ≤ number_of n
    least = number_least n

    same : k ≡ i → get_or (set s.refused i (get_or s.refused i 0 + 1)) k 0 ≡ get_or s.refused k 0 + if_same (suc k) (number_of n)
    same e =
        let z : suc k ≡ number_of n = omega (arith, e, least) in
        ap (λ (j : ℕ). get_or (set s.refused i (get_or s.refused i 0 + 1)) j 0) e
        ∙ get_or-set_same s.refused i (get_or s.refused i 0 + 1) 0 (omega (arith, l, least))
        ∙ ap (λ (j : ℕ). get_or s.refused j 0 + 1) (sym e)
        ∙ ap (get_or s.refused k 0 +◌) (sym (ap (if_same (suc k)) (sym z) ∙ same_one (suc k)))

    other : (k ≡ i → ⊥) → get_or (set s.refused i (get_or s.refused i 0 + 1)) k 0 ≡ get_or s.refused k 0 + if_same (suc k) (number_of n)
    other e =
        let z = other_none (suc k) (number_of n) (λ q. e (omega (arith, q, least))) in
        get_or-set_other s.refused i k (get_or s.refused i 0 + 1) 0 e ∙ omega (arith, z)

-- "Each form read stands in exactly one column, answered or a refusal": that of its outcome gets one more, and no other does
pub in_one_column : (room-length : ℕ) (s : Savings) (form : List ℕ) → length s.refused ≡ 14 → (k : ℕ)
    → column (with_form room-length s form) k ≡ column s k + if_same k (counted_in (run form room-length output_most))
unfolding with_form with_outcome counted_in
in_one_column room-length s form l k = go (run form room-length output_most) (run_is form room-length output_most)
  where
    go : (o : Outcome) → Ran form room-length output_most o → column (with_outcome s form (ends_in form) o) k ≡ column s k + if_same k (counted_in o)
    go o (ran t x e f) = in_answered s (length form) (length (write t)) x.passes (mark_number x.mark) (λ j. count_of j (ends_in form)) k
    go o (not_ran n m) = in_refused s n l m k

-- and it is one of the fifteen
pub column_most : (room-length : ℕ) (form : List ℕ) → counted_in (run form room-length output_most) ≤ 14
unfolding counted_in
column_most room-length form = go (run form room-length output_most) (run_is form room-length output_most)
  where
    go : (o : Outcome) → Ran form room-length output_most o → counted_in o ≤ 14
    go o (ran t x e f) = omega arith
    go o (not_ran n m) = m

-- ---- all columns together

sum_more : (n k : ℕ) (ns : List ℕ) → sum_from (n + k) ns ≡ sum_from n ns + k
unfolding sum_from
sum_more n k [] = refl
sum_more n k (m ∷ ns) = let z : n + k + m ≡ n + m + k = omega arith in ap (λ (x : ℕ). sum_from x ns) z ∙ sum_more (n + m) k ns

sum_set : (n : ℕ) (ns : List ℕ) (i : ℕ) → i < length ns → sum_from n (set ns i (get_or ns i 0 + 1)) ≡ sum_from n ns + 1
unfolding sum_from
sum_set n [] i l = absurd (omega arith)
sum_set n (m ∷ ns) zero l = let z : n + (m + 1) ≡ n + m + 1 = omega arith in ap (λ (x : ℕ). sum_from x ns) z ∙ sum_more (n + m) 1 ns
sum_set n (m ∷ ns) (suc i) l = sum_set (n + m) ns i (omega arith)

-- ---- the numbers of a report over n forms

pub record Over (n : ℕ) (s : Savings) : Type 0 where
  pub forms : forms_of s ≡ n
  pub columns : length s.refused ≡ 14
  pub eight : length s.rules ≡ 8
  pub marked : s.marked ≤ n
  pub before : s.before ≤ n * 8192
  pub after : s.after ≤ n * 32768
  pub passes : s.passes ≤ 65536
  pub rules : (i : ℕ) → get_or s.rules i 0 ≤ n * 65536

greater_most : (a b : ℕ) → a ≤ 65536 → b ≤ 65536 → greater a b ≤ 65536
unfolding greater
greater_most a b l m = on_bool (ltb a b) (λ y. rw y m) (λ y. rw y l)

mark_most : (b : Bool) → mark_number b ≤ 1
unfolding mark_number
mark_most true = omega arith
mark_most false = omega arith

rules_most : (n : ℕ) (ns : List ℕ) (c : ℕ → ℕ) → ((i : ℕ) → get_or ns i 0 ≤ n * 65536) → ((k : ℕ) → c k ≤ 65536) → (i : ℕ) → get_or (rules_with ns c) i 0 ≤ suc n * 65536
unfolding rules_with
rules_most n ns c h m zero = let y = h 0 in let z = m 1 in omega (arith, y, z)
rules_most n ns c h m (suc zero) = let y = h 1 in let z = m 2 in omega (arith, y, z)
rules_most n ns c h m (suc (suc zero)) = let y = h 2 in let z = m 3 in omega (arith, y, z)
rules_most n ns c h m (suc (suc (suc zero))) = let y = h 3 in let z = m 4 in omega (arith, y, z)
rules_most n ns c h m (suc (suc (suc (suc zero)))) = let y = h 4 in let z = m 5 in omega (arith, y, z)
rules_most n ns c h m (suc (suc (suc (suc (suc zero))))) = let y = h 5 in let z = m 6 in omega (arith, y, z)
rules_most n ns c h m (suc (suc (suc (suc (suc (suc zero)))))) = let y = h 6 in let z = m 7 in omega (arith, y, z)
rules_most n ns c h m (suc (suc (suc (suc (suc (suc (suc zero))))))) = let y = h 7 in let z = m 8 in omega (arith, y, z)
rules_most n ns c h m (suc (suc (suc (suc (suc (suc (suc (suc i)))))))) = omega arith

over_answer : (n : ℕ) (s : Savings) (form : List ℕ) (t : Tree) (x : Spent) → Over n s → worked form ≡ done t x → length (write t) ≤ 32768
    → Over (suc n) (with_answer s (length form) (length (write t)) x.passes (mark_number x.mark) (λ k. count_of k (ends_in form)))
unfolding with_answer forms_of
over_answer n s form t x o e l =
    let w = work_within form t x e in
    let m = mark_most x.mark in
    record {
      forms = sum_more s.answered 1 s.refused ∙ (let z = o.forms in omega (arith, z));
      columns = o.columns;
      eight = refl;
      marked = let z = o.marked in omega (arith, z, m);
      before = let z = o.before in let y = w.short in omega (arith, z, y);
      after = let z = o.after in omega (arith, z, l);
      passes = greater_most s.passes x.passes o.passes w.passes;
      rules = rules_most n s.rules (λ k. count_of k (ends_in form)) o.rules (λ k. let z = count_few k (ends_in form) in let y = w.few in let v = w.passes in omega (arith, z, y, v));
    }

over_refusal : (n : ℕ) (s : Savings) (r : Refusal) → Over n s → number_of r ≤ 14 → Over (suc n) (with_refusal s r)
unfolding with_refusal forms_of
over_refusal n s r o l =
    let y = number_least r in
    record {
      forms = sum_set s.answered s.refused (number_of r - 1) (let z = o.columns in omega (arith, z, y)) ∙ (let z = o.forms in omega (arith, z));
      columns = length-set s.refused (number_of r - 1) (get_or s.refused (number_of r - 1) 0 + 1) ∙ o.columns;
      eight = o.eight;
      marked = let z = o.marked in omega (arith, z);
      before = let z = o.before in omega (arith, z);
      after = let z = o.after in omega (arith, z);
      passes = o.passes;
      rules = λ i. let z = o.rules i in omega (arith, z);
    }

pub over_form : (room-length n : ℕ) (s : Savings) (form : List ℕ) → Over n s → Over (suc n) (with_form room-length s form)
unfolding with_form with_outcome
over_form room-length n s form o = go (run form room-length output_most) (run_is form room-length output_most)
  where
    go : (u : Outcome) → Ran form room-length output_most u → Over (suc n) (with_outcome s form (ends_in form) u)
    go u (ran t x e l) = over_answer n s form t x o e l
    go u (not_ran r l) = over_refusal n s r o l

over_none : Over 0 none_yet
unfolding forms_of sum_from
over_none = record {
  forms = refl;
  columns = refl;
  eight = refl;
  marked = omega arith;
  before = omega arith;
  after = omega arith;
  passes = omega arith;
  rules = none;
}
  where
    none : (i : ℕ) → get_or (0 ∷ 0 ∷ 0 ∷ 0 ∷ 0 ∷ 0 ∷ 0 ∷ 0 ∷ []) i 0 ≤ 0 * 65536
    none zero = omega arith
    none (suc zero) = omega arith
    none (suc (suc zero)) = omega arith
    none (suc (suc (suc zero))) = omega arith
    none (suc (suc (suc (suc zero)))) = omega arith
    none (suc (suc (suc (suc (suc zero))))) = omega arith
    none (suc (suc (suc (suc (suc (suc zero)))))) = omega arith
    none (suc (suc (suc (suc (suc (suc (suc zero))))))) = omega arith
    none (suc (suc (suc (suc (suc (suc (suc (suc i)))))))) = omega arith

over_from : (room-length n : ℕ) (s : Savings) (fs : List (List ℕ)) → Over n s → Over (n + length fs) (savings_from room-length s fs)
unfolding savings_from
over_from room-length n s [] o = let z : n + 0 ≡ n = omega arith in rw z o
over_from room-length n s (f ∷ fs) o = let z : n + suc (length fs) ≡ suc n + length fs = omega arith in rw z (over_from room-length (suc n) (with_form room-length s f) fs (over_form room-length n s f o))

-- the report over a list has as many forms as the list, and its sums are within these bounds
pub over_list : (room-length : ℕ) (fs : List (List ℕ)) → Over (length fs) (savings_of room-length fs)
unfolding savings_of
over_list room-length fs = subst (λ (n : ℕ). Over n (savings_from room-length none_yet fs)) (omega arith) (over_from room-length 0 none_yet fs over_none)

-- ---- a report takes 4,096 forms, and no more

large : (n k : ℕ) → n ≤ k → k < 2 ^ 63 → ltb n (2 ^ 63) ≡ true
large n k l m = lt-ltb n (2 ^ 63) (below n k (2 ^ 63) l m)
  where
    below : (a b c : ℕ) → a ≤ b → b < c → a < c
    below a b c x y = omega arith

small_list : (k : ℕ) (ns : List ℕ) → k < 2 ^ 63 → ((i : ℕ) → get_or ns i 0 ≤ k) → small_all ns ≡ true
unfolding small_all
small_list k [] m h = refl
small_list k (n ∷ ns) m h = rw (large n k (h 0) m) (small_list k ns m (λ i. h (suc i)))

most : 268435456 < 2 ^ 63
most = ltb-true 268435456 (2 ^ 63) refl

open_over : (n : ℕ) (s : Savings) → Over n s → n < 4096 → is_open s ≡ true
unfolding is_open small_all
open_over n s o l =
    let a = large s.marked 268435456 (let z = o.marked in omega (arith, z)) most in
    let b = large s.before 268435456 (let z = o.before in omega (arith, z)) most in
    let c = large s.after 268435456 (let z = o.after in omega (arith, z)) most in
    let p = large s.passes 268435456 (let z = o.passes in omega (arith, z)) most in
    let d = small_list 268435456 s.rules most (λ i. let z = o.rules i in omega (arith, z)) in
    rw (o.forms, lt-ltb n form_most l, a, b, c, p) d

shut_over : (n : ℕ) (s : Savings) → Over n s → 4096 ≤ n → is_open s ≡ false
unfolding is_open
shut_over n s o l = rw (o.forms, le-ltb n form_most l)

-- "Exactly 4,096 forms make no refusal": a report over fewer takes another,
pub takes_more : (room-length : ℕ) (fs : List (List ℕ)) → length fs < 4096 → is_open (savings_of room-length fs) ≡ true
takes_more room-length fs l = open_over (length fs) (savings_of room-length fs) (over_list room-length fs) l

-- "17 for a 4,097th form": and one over 4,096 takes none
pub takes_none : (room-length : ℕ) (fs : List (List ℕ)) → 4096 ≤ length fs → is_open (savings_of room-length fs) ≡ false
takes_none room-length fs l = shut_over (length fs) (savings_of room-length fs) (over_list room-length fs) l

-- ---- one form after another

pub one_after : (room-length : ℕ) (s : Savings) (fs : List (List ℕ)) (f : List ℕ) → savings_from room-length s (fs ++ f ∷ []) ≡ with_form room-length (savings_from room-length s fs) f
unfolding savings_from
one_after room-length s [] f = refl
one_after room-length s (g ∷ fs) f = one_after room-length (with_form room-length s g) fs f

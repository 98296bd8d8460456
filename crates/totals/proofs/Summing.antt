-- How many forms a report has, and whether it takes another: each need. Assumes nothing.
use mathlib.Core.Path.{◌≡◌, refl, sym, ◌∙◌, ap}
use mathlib.Core.List.{List, [], ◌∷◌}
use mathlib.Core.Bool.{Bool, true, false, ◌&&◌}
use Prim.Native.Nat.{ℕ, suc, ◌+◌, ◌^◌, ◌<◌, ◌≤◌, min}
use lib.Dec.{ltb}
use Rattle.std.specs.List.{list_all}
use native.Mathlib.Omega.{arith}
use native.Mathlib.Decide.{dec_le}
use lib.ListN.{length, get_or, drop}
use lib.Seq.{drop-cons, drop-length}
use borrow.Author.Tests.{lt-ltb, le-ltb}
use Rattle.totals.specs.declared.Savings.{Savings}
use Rattle.totals.specs.Savings.{form_most, sum_from, forms_of, fewer, small_all, is_open}

-- ---- fewer

pub fewer_below : (n : ℕ) → n < 4096 → n ≡ fewer n
unfolding fewer
fewer_below n l = rw (lt-ltb n form_most l)

pub fewer_above : (n : ℕ) → 4096 ≤ n → 4096 ≡ fewer n
unfolding fewer
fewer_above n l = rw (le-ltb n form_most l)

pub fewer_least : (n : ℕ) → min n 4096 ≡ fewer n
fewer_least n = go (dec_le 4096 n)
  where
    go : Dec (4096 ≤ n) → min n 4096 ≡ fewer n
    go (yes l) = let e : min n 4096 ≡ 4096 = omega arith in e ∙ fewer_above n l
    go (no l) = let k : n < 4096 = omega (arith, l) in let e : min n 4096 ≡ n = omega arith in e ∙ fewer_below n k

fewer_most : (n : ℕ) → fewer n ≤ 4096
fewer_most n = go (dec_le 4096 n)
  where
    go : Dec (4096 ≤ n) → fewer n ≤ 4096
    go (yes l) = rw (← fewer_above n l) (omega arith)
    go (no l) = let k : n < 4096 = omega (arith, l) in rw (← fewer_below n k) (omega arith)

-- counting no further changes no sum's verdict
fewer_both : (a b : ℕ) → fewer (fewer a + fewer b) ≡ fewer (a + b)
fewer_both a b = go (dec_le 4096 a) (dec_le 4096 b)
  where
    go : Dec (4096 ≤ a) → Dec (4096 ≤ b) → fewer (fewer a + fewer b) ≡ fewer (a + b)
    go (yes l) k = sym (fewer_above (fewer a + fewer b) (let z = fewer_above a l in omega (arith, z))) ∙ fewer_above (a + b) (omega arith)
    go (no l) (yes k) = sym (fewer_above (fewer a + fewer b) (let z = fewer_above b k in omega (arith, z))) ∙ fewer_above (a + b) (omega arith)
    go (no l) (no k) =
        let x : a < 4096 = omega (arith, l) in
        let y : b < 4096 = omega (arith, k) in
        rw (← fewer_below a x, ← fewer_below b y)

-- ---- forms_in

fewer_more : (a b n : ℕ) → fewer a ≡ fewer b → fewer (a + n) ≡ fewer (b + n)
fewer_more a b n e = sym (fewer_both a n) ∙ ap (λ (x : ℕ). fewer (x + fewer n)) e ∙ fewer_both b n

fewer_sum : (a b : ℕ) (ns : List ℕ) → fewer a ≡ fewer b → fewer (sum_from a ns) ≡ fewer (sum_from b ns)
unfolding sum_from
fewer_sum a b [] e = e
fewer_sum a b (n ∷ ns) e = fewer_sum (a + n) (b + n) ns (fewer_more a b n e)

fewer_twice : (n : ℕ) → fewer (fewer n) ≡ fewer n
fewer_twice n = go (dec_le 4096 n)
  where
    go : Dec (4096 ≤ n) → fewer (fewer n) ≡ fewer n
    go (yes l) = sym (fewer_above (fewer n) (let z = fewer_above n l in omega (arith, z))) ∙ fewer_above n l
    go (no l) = let k : n < 4096 = omega (arith, l) in ap fewer (sym (fewer_below n k))

-- what is left to add to the total gives the whole
pub record Adding (answered : ℕ) (ns : List ℕ) (total i : ℕ) : Type 0 where
  pub capped : total ≡ fewer total
  pub most : total ≤ 4096
  pub bound : i ≤ length ns
  pub rest : fewer (sum_from total (drop i ns)) ≡ fewer (sum_from answered ns)

pub adding_starts : (answered : ℕ) (ns : List ℕ) (total : ℕ) → total ≡ fewer answered → Adding answered ns total 0
adding_starts answered ns total e = record {
  capped = e ∙ sym (fewer_twice answered) ∙ ap fewer (sym e);
  most = rw e (fewer_most answered);
  bound = omega arith;
  rest = fewer_sum total answered ns (ap fewer e ∙ fewer_twice answered);
}

module _ (answered : ℕ) (ns : List ℕ) (total i : ℕ) (a : Adding answered ns total i) where
  pub adding_fits : (n : ℕ) → n ≡ fewer (get_or ns i 0) → total + n < 2 ^ 64
  adding_fits n e = let z = fewer_most (get_or ns i 0) in small (total + n) (omega (arith, a.most, z, e))
    where
      small : (k : ℕ) → k ≤ 8192 → k < 2 ^ 64
      small k l = omega arith

  pub adding_next : i < length ns → (n t : ℕ) → n ≡ fewer (get_or ns i 0) → t ≡ fewer (total + n) → Adding answered ns t (i + 1)
  unfolding sum_from
  adding_next l n t en et =
      let z : i + 1 ≡ suc i = omega arith in
      let x : fewer t ≡ fewer (total + get_or ns i 0) = ap fewer et ∙ fewer_twice (total + n) ∙ ap (λ (y : ℕ). fewer (total + y)) en ∙ ap (λ (y : ℕ). fewer (y + fewer (get_or ns i 0))) a.capped ∙ fewer_both total (get_or ns i 0) in
      record {
        capped = et ∙ sym (fewer_twice (total + n)) ∙ ap fewer (sym et);
        most = rw et (fewer_most (total + n));
        bound = omega arith;
        rest =
            rw z
            (fewer_sum t (total + get_or ns i 0) (drop (suc i) ns) x
            ∙ ap (λ (l : List ℕ). fewer (sum_from total l)) (sym (drop-cons ns i 0 l))
            ∙ a.rest);
      }

  pub adding_ends : length ns ≤ i → total ≡ fewer (sum_from answered ns)
  unfolding sum_from
  adding_ends l =
      let z : i ≡ length ns = omega (arith, a.bound) in
      let e : drop i ns ≡ [] = ap (λ (k : ℕ). drop k ns) z ∙ drop-length ns in
      a.capped ∙ ap (λ (x : List ℕ). fewer (sum_from total x)) (sym e) ∙ a.rest

-- ---- all_small

pub small_each : (ns : List ℕ) → list_all (λ n. ltb n (2 ^ 63)) ns ≡ small_all ns
unfolding small_all
small_each [] = refl
small_each (n ∷ ns) = ap (λ b. ltb n (2 ^ 63) && b) (small_each ns)

-- ---- is_open

module _ (s : Savings) (n : ℕ) (e : n ≡ fewer (sum_from s.answered s.refused)) where
  pub full_not : 4096 ≤ n → false ≡ is_open s
  unfolding is_open forms_of
  full_not l = go (dec_le 4096 (sum_from s.answered s.refused))
    where
      go : Dec (4096 ≤ sum_from s.answered s.refused) → false ≡ is_open s
      go (yes k) = rw (le-ltb (sum_from s.answered s.refused) form_most k)
      go (no k) = let y : sum_from s.answered s.refused < 4096 = omega (arith, k) in let z = fewer_below (sum_from s.answered s.refused) y in absurd (omega (arith, z, e))

  module _ (few : n < 4096) where
    below : sum_from s.answered s.refused < 4096
    below = go (dec_le 4096 (sum_from s.answered s.refused))
      where
        go : Dec (4096 ≤ sum_from s.answered s.refused) → sum_from s.answered s.refused < 4096
        go (yes k) = let z = fewer_above (sum_from s.answered s.refused) k in absurd (omega (arith, z, e))
        go (no k) = omega (arith, k)

    pub sums_not : (b : Bool) → b ≡ small_all (s.marked ∷ s.before ∷ s.after ∷ s.passes ∷ []) → b ≡ false → false ≡ is_open s
    unfolding is_open forms_of
    sums_not b eb nb = rw (lt-ltb (sum_from s.answered s.refused) form_most below, ← eb, nb)

    pub sums_open : (b c : Bool) → b ≡ small_all (s.marked ∷ s.before ∷ s.after ∷ s.passes ∷ []) → b ≡ true → c ≡ small_all s.rules → c ≡ is_open s
    unfolding is_open forms_of
    sums_open b c eb nb ec = rw (lt-ltb (sum_from s.answered s.refused) form_most below, ← eb, nb, ← ec)

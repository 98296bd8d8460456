-- Reading, evaluating and the driver refuse with numbers of 01's table only, and with none that leaves the room as it came in. Assumes nothing.
use Prim.Native.Nat.{ℕ, zero, suc, ◌+◌, ◌*◌, ◌-◌}
use mathlib.Core.Path.{refl}
use mathlib.Core.List.{List, [], ◌∷◌}
use mathlib.Core.Bool.{Bool, true, false}
use mathlib.Core.Option.{Option, none, some}
use lib.Dec.{ltb, leb, eqb}
use lib.ListN.{length}
use Rattle.refusals.specs.declared.Refusal.{Refusal}
use Rattle.refusals.specs.declared.Refusal.TheVariants.{FormLong, EndsEarly, BadPrefix, AtomLong, BytesAfter, UnitsOut, Fails, NoOperator, StepsOut, PassesOut, TooDeep}
use Rattle.meaning.specs.Tree.{Tree, atom, pair, nil, byte, is_empty, proper_list}
use Rattle.meaning.specs.Number.{number, lookup}
use Rattle.meaning.specs.Limits.{form_limit, unit_limit, step_limit, pass_limit, pair_cost, atom_cost}
use Rattle.meaning.specs.Meter.{Out, done, stop, M, ◌>>=◌, ◌>>◌, give, refuse, hold, E, Steps, charge_e, one_step, Spent, charge, one_pass, mark_if, within}
use Rattle.meaning.specs.Form.{Reading, limits, first_of, next, more, length_from, body, spend, read_long, read_atom, read, at_end, read_whole, read_form}
use Rattle.meaning.specs.Operator.{Op, Head, quoted, op, other, head_of, takes, Made, makes, runs, cannot, perform}
use Rattle.meaning.specs.Evaluate.{RunnerB, found_b, each_value_b, finish_b, call_b, operate_b, step_b, eval_b, evaluate}
use Rattle.meaning.specs.Driver.{optimize_sexp}
use Rattle.meaning.proofs.Walk.{OfWork, Kept, walk_loop}

-- a refusal, if it is one, is one of work
unfoldable pub Touched : {S A : Type 0} → Out S A → Type 0
Touched (done a s) = Unit {0}
Touched (stop n s) = OfWork n

-- work whose refusals are all such ones
pub record Late {S A : Type 0} (m : M S A) : Type 0 where
  pub so : (s : S) → Touched (m s)

module _ {S : Type 0} where
  late_give : {A : Type 0} (a : A) → Late {S = S} (give a)
  unfolding give Touched
  late_give a = record { so = λ s. tt }

  late_refuse : {A : Type 0} (k : Refusal) → OfWork k → Late {S = S} {A = A} (refuse k)
  unfolding refuse Touched
  late_refuse k h = record { so = λ s. h }

  late_bind : {A B : Type 0} {m : M S A} {f : A → M S B} → Late m → ((a : A) → Late (f a)) → Late (m >>= f)
  unfolding ◌>>=◌ Touched
  late_bind {A} {B} {m} {f} h k = record { so = λ s. go (m s) (h.so s) }
    where
      go : (o : Out S A) → Touched o → Touched {S = S} {A = B} (elim o [ done a u ↦ f a u | stop n u ↦ stop n u ])
      go (done a u) t = (k a).so u
      go (stop n u) t = t

  late_seq : {A B : Type 0} {m : M S A} {k : M S B} → Late m → Late k → Late (m >> k)
  unfolding ◌>>◌
  late_seq h k = late_bind h (λ x. k)

  late_if : {A : Type 0} (b : Bool) {m k : M S A} → Late m → Late k → Late {S = S} {A = A} (elim b as (λ x. M S A) [ true ↦ m | false ↦ k ])
  late_if true h k = h
  late_if false h k = k

  late_hold : (b : Bool) (k : Refusal) → OfWork k → Late {S = S} (hold b k)
  unfolding hold
  late_hold true k h = late_give tt
  late_hold false k h = late_refuse k h

-- a test that goes on or refuses
touched_if : {S A : Type 0} (b : Bool) (a : A) (x y : S) (k : Refusal) → OfWork k → Touched {S = S} {A = A} (elim b [ true ↦ done a x | false ↦ stop k y ])
unfolding Touched
touched_if true a x y k h = tt
touched_if false a x y k h = h

-- ---- the reader

late_next : Late next
unfolding next first_of Touched
late_next = record { so = λ s. go s.left s.units }
  where
    go : (l : List ℕ) (u : ℕ) → Touched (first_of l u)
    go [] u = refl
    go (x ∷ l) u = tt

late_more : (k v : ℕ) → Late (more k v)
unfolding more
late_more zero v = late_give v
late_more (suc k) v = late_bind late_next (λ b. late_more k (v * 256 + b))

late_length : (p : ℕ) → Late (length_from p)
unfolding length_from
late_length p =
    late_if (ltb p 0xc0) (late_give (p - 0x80))
    (late_if (ltb p 0xe0) (late_more 1 (p - 0xc0))
    (late_if (ltb p 0xf0) (late_more 2 (p - 0xe0))
    (late_if (ltb p 0xf8) (late_more 3 (p - 0xf0))
    (late_if (ltb p 0xfc) (late_more 4 (p - 0xf8)) (late_refuse BadPrefix refl)))))

late_body : (n : ℕ) → Late (body n)
unfolding body
late_body zero = late_give []
late_body (suc n) = late_bind late_next (λ b. late_bind (late_body n) (λ bs. late_give (b ∷ bs)))

late_spend : (c : ℕ) → Late (spend limits c)
unfolding spend
late_spend c = record { so = λ s. touched_if (leb (s.units + c) unit_limit) tt _ _ UnitsOut refl }

late_atom : (p : ℕ) → Late (read_atom limits p)
unfolding read_atom read_long
late_atom p =
    late_if (ltb p 0x80) (late_seq (late_spend 5) (late_give (byte p)))
    (late_if (eqb p 0x80) (late_give nil)
    (late_bind (late_length p) (λ n.
    late_seq (late_hold (limits.atom_fits n) AtomLong refl)
    (late_bind (late_body n) (λ bs.
    late_seq (late_spend (atom_cost bs)) (late_give (atom bs)))))))

late_tree : (k : ℕ) → Late (read limits k)
unfolding read
late_tree zero = late_refuse EndsEarly refl
late_tree (suc k) = late_bind late_next (λ p.
    late_if (eqb p 0xff)
    (late_bind (late_tree k) (λ l. late_bind (late_tree k) (λ r. late_seq (late_spend pair_cost) (late_give (pair l r)))))
    (late_atom p))

late_end : Late at_end
unfolding at_end
late_end = record { so = λ s. (late_hold (is_empty s.left) BytesAfter refl).so s }

pub late_read : (bs : List ℕ) (u : ℕ) → Touched (read_form bs u)
unfolding read_form read_whole Touched
late_read bs u = go (leb (length bs) form_limit)
  where
    go : (b : Bool) → Touched {S = Reading} {A = Tree} (elim b [ true ↦ read_whole limits bs u | false ↦ stop FormLong (record { left = bs; units = u }) ])
    go true = (late_bind (late_tree (length bs)) (λ t. late_seq late_end (late_give t))).so (record { left = bs; units = u })
    go false = refl

-- ---- the evaluator

late_charge_e : (c : ℕ) → Late (charge_e c)
unfolding charge_e
late_charge_e c = record { so = λ s. touched_if (leb (s.units + c) unit_limit) tt _ _ UnitsOut refl }

late_step : Late one_step
unfolding one_step
late_step = record { so = λ s. touched_if (leb (s.steps + 1) step_limit) tt _ _ StepsOut refl }

late_found : (o : Option Tree) → Late (found_b o)
unfolding found_b
late_found none = late_refuse Fails refl
late_found (some t) = late_give t

module _ (run : RunnerB) (h : (e env : Tree) → Late (run e env)) where
  late_values : (es : List Tree) (env : Tree) → Late (each_value_b run es env)
  unfolding each_value_b
  late_values [] env = late_give []
  late_values (e ∷ es) env = late_bind (h e env) (λ v. late_bind (late_values es env) (λ vs. late_give (v ∷ vs)))

  late_finish : (m : Made) → Late (finish_b run m)
  unfolding finish_b
  late_finish (makes t c) = late_seq (late_charge_e c) (late_give t)
  late_finish (runs p e) = h p e
  late_finish cannot = late_refuse Fails refl

  late_call : (o : Op) (es : Option (List Tree)) (env : Tree) → Late (call_b run o es env)
  unfolding call_b
  late_call o none env = late_refuse Fails refl
  late_call o (some es) env = late_if (takes o (length es)) (late_bind (late_values es env) (λ vs. late_finish (perform o vs))) (late_refuse Fails refl)

  late_operate : (o : Head) (r env : Tree) → Late (operate_b run o r env)
  unfolding operate_b
  late_operate quoted r env = late_give r
  late_operate (op o) r env = late_call o (proper_list r) env
  late_operate other r env = late_refuse NoOperator refl

  late_expression : (e env : Tree) → Late (step_b run e env)
  unfolding step_b
  late_expression (atom b) env = late_found (lookup (number b) env)
  late_expression (pair (atom o) r) env = late_operate (head_of o) r env
  late_expression (pair (pair a b) r) env = late_refuse NoOperator refl

late_eval : (k : ℕ) (e env : Tree) → Late (eval_b k e env)
unfolding eval_b
late_eval zero e env = late_refuse StepsOut refl
late_eval (suc k) e env = late_seq late_step (late_expression (λ e' env'. eval_b k e' env') (late_eval k) e env)

pub late_evaluate : (e env : Tree) → Late (evaluate e env)
unfolding evaluate
late_evaluate e env = late_eval (suc step_limit) e env

-- ---- the driver

late_charge : (c : ℕ) → Late (charge c)
unfolding charge
late_charge c = record { so = λ s. touched_if (leb (s.units + c) unit_limit) tt _ _ UnitsOut refl }

late_pass : Late one_pass
unfolding one_pass
late_pass = record { so = λ s. touched_if (leb (s.passes + 1) pass_limit) tt _ _ PassesOut refl }

late_mark : (b : Bool) → Late (mark_if b)
unfolding mark_if Touched
late_mark b = record { so = λ s. tt }

late_within : {A : Type 0} (m : E A) → Late m → Late (within m)
unfolding within Touched
late_within {A} m h = record { so = λ s. go s (m (record { steps = 0; units = s.units })) (h.so (record { steps = 0; units = s.units })) }
  where
    go : (s : Spent) (o : Out Steps A) → Touched o → Touched {S = Spent} {A = A} (elim o [
      | done a e ↦ done a (record { units = e.units; passes = s.passes; mark = s.mark })
      | stop n e ↦ stop n (record { units = e.units; passes = s.passes; mark = s.mark })
    ])
    go s (done a e) t = tt
    go s (stop n e) t = t

to_be_late : Kept
to_be_late = record {
  rel = λ m n. Late m;
  by_give = λ a. late_give a;
  by_refuse = λ n h. late_refuse n h;
  by_bind = λ mn fg. late_bind mn fg;
  by_charge = late_charge;
  by_pass = late_pass;
  by_mark = late_mark;
  by_evaluate = λ e env. late_within (evaluate e env) (late_evaluate e env);
}

pub late_driver : (d : ℕ) (t : Tree) → Late (optimize_sexp d t)
unfolding optimize_sexp to_be_late
late_driver zero t = late_refuse TooDeep refl
late_driver (suc d) t = walk_loop to_be_late (λ u. optimize_sexp d u) (λ u. optimize_sexp d u) (late_driver d) (suc pass_limit) t

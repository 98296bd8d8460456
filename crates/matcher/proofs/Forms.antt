-- The two forms, read and matched: what each call and each return needs. Assumes nothing.
use mathlib.Core.Path.{◌≡◌, refl, sym, ◌∙◌, ap}
use mathlib.Core.List.{List, []}
use Prim.Native.Nat.{ℕ}
use lib.Dec.{leb}
use lib.ListN.{length}
use Rattle.std.specs.Prelude.{Result, Ok, Err}
use Rattle.refusals.specs.declared.Refusal.{Refusal}
use Rattle.meaning.specs.Meter.{Out, done, stop}
use Rattle.meaning.specs.Form.{Reading}
use Rattle.meaning.specs.Match as meaning
use Rattle.meaning.specs.Outcome.{no_match, answered, refused, deliver, ended}
use Rattle.meaning.proofs.Late.{Touched}
use Rattle.meaning.proofs.Yields.{either_way}
use Rattle.meaning.proofs.Verdict.{is_matched, is_failed, is_third}
use Rattle.store.specs.declared.Charges.{Charges}
use Rattle.store.specs.Nodes.{tree_at}
use Rattle.store.specs.Store.{Ready}
use Rattle.store.proofs.Ready as ready
use Rattle.form.specs.declared.Two.{Two}
use Rattle.form.specs.Spans.{Stops, stops}
use Rattle.form.specs.Both.{Both, read_both, TwoTo, TwoOk}
use Rattle.form.proofs.Both.{late_both}
use Rattle.pattern.specs.declared.Bindings.{Bindings}
use Rattle.pattern.specs.declared.Match.{Match}
use Rattle.pattern.specs.declared.Match.TheVariants.{Matched, NoMatch, TooManyNames}
use Rattle.pattern.specs.Bound.{bindings_at, match_at, BoundIn as bound-found, MatchOk}
use Rattle.matcher.specs.declared.Worked.{Worked}
use Rattle.matcher.specs.declared.Said.TheVariants.{Bound, NoMatch as not-matched, TooManyNames as too_many}
use Rattle.matcher.specs.Outcome.{worked, parts, joined, delivered, ending, place_of}
use Rattle.matcher.specs.Steps.{outcome_of, BoundIn, Shows, delivering}

-- ---- matched: two nodes

-- what was worked without a failure has no place
placeless_plain : (n : ℕ) (ks : List meaning.Binding) → meaning.place_bytes 0 ≡ place_of (delivered n (meaning.matched ks))
unfolding delivered deliver place_of
placeless_plain n ks = either_way (λ o. meaning.place_bytes 0 ≡ place_of o) (leb (length (joined (parts ks))) n) _ _ refl refl

module _ (f s s₁ : List ℕ) (c : Charges) (p n : ℕ) (a : Match) (h : MatchOk f s s₁ c a (meaning.match_sexp (tree_at f s p) (tree_at f s n) [])) where
  abbrev m : meaning.Match
  m = meaning.match_sexp (tree_at f s p) (tree_at f s n) []

  pub shows_bound : (w : Worked) (ks : Bindings) → w ≡ record { said = Ok (Bound ks c); place = meaning.place_bytes 0 } → a ≡ Matched ks → Shows f s₁ (delivering m) w
  unfolding delivering match_at bound-found outcome_of BoundIn
  shows_bound w ks ew e =
      let z : meaning.matched (bindings_at f s₁ ks) ≡ m = is_matched m (bindings_at f s₁ ks) (rw e at h.answer) in
      rw ew (record {
        is = λ k. ap (delivered k) (sym z);
        place = λ k. placeless_plain k (bindings_at f s₁ ks) ∙ ap (λ x. place_of (delivered k x)) z;
        bound = rw e at h.bound;
      })

  pub shows_many : (w : Worked) → w ≡ record { said = Ok too_many; place = meaning.place_bytes 0 } → a ≡ TooManyNames → Shows f s₁ (delivering m) w
  unfolding delivering match_at outcome_of BoundIn delivered place_of
  shows_many w ew e =
      let z : meaning.too_many_names ≡ m = is_third m (rw e at h.answer) in
      rw ew (record { is = λ k. ap (delivered k) (sym z); place = λ k. ap (λ x. place_of (delivered k x)) z; bound = tt })

  pub ready_after : (k : ℕ) → Ready f s c k → Ready f s₁ c k
  ready_after k r = ready.grown_ready h.grown r

  module _ (rp : Ready f s c p) (rn : Ready f s c n) where
    same_after : meaning.match_sexp (tree_at f s₁ p) (tree_at f s₁ n) [] ≡ m
    same_after = rw (ready.grown_tree h.grown rp, ready.grown_tree h.grown rn)

    pub fails_after : a ≡ NoMatch → meaning.no ≡ meaning.verdict (meaning.match_sexp (tree_at f s₁ p) (tree_at f s₁ n) [])
    unfolding match_at
    fails_after e = let z : meaning.no ≡ meaning.verdict m = rw e at h.answer in rw same_after z

    pub shows_failed : (s₂ place : List ℕ) → place ≡ meaning.place_bytes (meaning.place (meaning.match_sexp (tree_at f s₁ p) (tree_at f s₁ n) [])) → a ≡ NoMatch
        → Shows f s₂ (delivering m) (record { said = Ok not-matched; place = place })
    unfolding delivering match_at outcome_of BoundIn delivered place_of
    shows_failed s₂ place i e =
        let (ds, z) = is_failed m (rw e at h.answer) in
        let j : place ≡ meaning.place_bytes (meaning.place (meaning.no_match ds)) = i ∙ ap (λ x. meaning.place_bytes (meaning.place x)) (same_after ∙ sym z) in
        record {
          is = λ k. ap (delivered k) (sym z) ∙ ap (answered [] no_match) (sym j);
          place = λ k. j ∙ ap (λ x. place_of (delivered k x)) z;
          bound = tt;
        }

-- ---- work: two forms

module _ (f s : List ℕ) (p e : List ℕ) (r : Result Two Refusal) (o : TwoOk f s (read_both p e) r) where
  pub both_refused : (w : Worked) (n : Refusal) → w ≡ record { said = Err n; place = meaning.place_bytes 0 } → r ≡ Err n → Shows f s (ending p e) w
  unfolding TwoOk outcome_of BoundIn ending worked ended place_of
  both_refused w n ew i = rw ew (go (rw i at o))
    where
      go : Stops (read_both p e) n → Shows f s (ending p e) (record { said = Err n; place = meaning.place_bytes 0 })
      go (stops x h) =
          let z : (k : ℕ) → ending p e k ≡ refused n = λ k. rw (h, worked) in
          record { is = z; place = λ k. sym (ap place_of (z k)); bound = tt }

  module _ (x : Two) (i : r ≡ Ok x) where
    abbrev a : ℕ
    a = x.first

    abbrev b : ℕ
    b = x.second

    abbrev c : Charges
    c = x.ch

    to : TwoTo f s c a b (read_both p e)
    unfolding TwoOk
    to = rw i at o

    pub pattern_ready : Ready f s c a
    pattern_ready = to.first

    pub expression_ready : Ready f s c b
    expression_ready = to.second

    pub both_matched : (s₁ : List ℕ) (w : Worked) → Shows f s₁ (delivering (meaning.match_sexp (tree_at f s a) (tree_at f s b) [])) w → Shows f s₁ (ending p e) w
    unfolding delivering ending worked ended
    both_matched s₁ w h =
        let z : (k : ℕ) → ending p e k ≡ delivered k (meaning.match_sexp (tree_at f s a) (tree_at f s b) []) = λ k. rw (to.is, worked) in
        record { is = λ k. z k ∙ h.is k; place = λ k. h.place k ∙ sym (ap place_of (z k)); bound = h.bound }

-- none of its refusals leaves the room
pub worked_late : (p e : List ℕ) → Touched (worked p e)
unfolding worked Touched
worked_late p e = go (read_both p e) (late_both p e)
  where
    go : (o : Out Reading Both) → Touched o → Touched {S = Reading} {A = meaning.Match} (elim o [ done b r ↦ done (meaning.match_sexp b.one b.other []) r | stop n r ↦ stop n r ])
    go (done b r) h = tt
    go (stop n r) h = h

-- What a piece of work costs does not depend on what was spent before, as long as there is room. Assumes nothing.
use mathlib.Core.Path.{◌≡◌, sym, ◌∙◌, subst, ap, ap₂}
use mathlib.Core.Bool.{Bool, true, false}
use Rattle.refusals.specs.declared.Refusal.{Refusal}
use Rattle.meaning.specs.Meter.{M, done, stop, ◌>>=◌, ◌>>◌, give, refuse}
use Rattle.meaning.proofs.MeterLaws.{not_stop, bind_inv, bind_at}

-- states that add up, within limits: what was spent, and what a piece of work spends
pub record Costing : Type 1 where
  pub S : Type 0
  pub nothing : S
  pub add : S → S → S
  pub fits : S → Type 0
  -- past a limit, which this refusal says
  pub over : S → Refusal → Type 0
  pub add_nothing : (s : S) → add s nothing ≡ s
  pub add_add : (s c d : S) → add (add s c) d ≡ add s (add c d)
  pub fits_less : (s c : S) → fits (add s c) → fits s
  pub fits? : (s : S) → Dec (fits s)
  pub over_more : (s c : S) (n : Refusal) → over s n → over (add s c) n

module _ (K : Costing) where
  -- from u, where there is no room for c, m is refused, and by a limit that c would cross
  pub record Refused {A : Type 0} (m : M K.S A) (u c : K.S) : Type 0 where
    pub number : Refusal
    pub after : K.S
    pub stops : m u ≡ stop number after
    pub why : K.over (K.add u c) number

  -- m, which from s gave a and left t, costs c: from wherever there is room for c it gives a again, and from elsewhere it is refused
  pub record Costs {A : Type 0} (m : M K.S A) (a : A) (s t : K.S) : Type 0 where
    pub cost : K.S
    pub spent : t ≡ K.add s cost
    pub room : K.fits (K.add s cost)
    pub anew : (u : K.S) → K.fits (K.add u cost) → m u ≡ done a (K.add u cost)
    pub refused : (u : K.S) → K.fits u → ¬ (K.fits (K.add u cost)) → Refused m u cost

  -- whatever m is done from, it has a cost
  abbrev pub Steady : {A : Type 0} → M K.S A → Type 0
  Steady {A} m = (s t : K.S) (a : A) → K.fits s → m s ≡ done a t → Costs m a s t

  -- what steady work leaves is within the limits
  pub steady_fits : {A : Type 0} {m : M K.S A} → Steady m → (s t : K.S) (a : A) → K.fits s → m s ≡ done a t → K.fits t
  steady_fits st s t a r h = let k = st s t a r h in subst K.fits (sym k.spent) k.room

  -- to give costs nothing
  pub steady_give : {A : Type 0} (a : A) → Steady (give a)
  unfolding give
  steady_give a s t b r h =
      let i : a ≡ b = cc in let j : t ≡ s = cc in
      record {
        cost = K.nothing;
        spent = j ∙ sym (K.add_nothing s);
        room = subst K.fits (sym (K.add_nothing s)) r;
        anew = λ u q. ap₂ done i (sym (K.add_nothing u));
        refused = λ u q short. absurd (short (subst K.fits (sym (K.add_nothing u)) q));
      }

  pub steady_refuse : {A : Type 0} (n : Refusal) → Steady (refuse {A = A} n)
  unfolding refuse
  steady_refuse n s t b r h = not_stop h

  pub steady_if : {A : Type 0} (b : Bool) {m n : M K.S A} → Steady m → Steady n → Steady {A = A} (elim b as (λ x. M K.S A) [ true ↦ m | false ↦ n ])
  steady_if true sm sn = sm
  steady_if false sm sn = sn

  -- a charge: c is taken where there is room for it
  pub steady_charge : (m : M K.S (Unit {0})) (c : K.S) → ((u : K.S) → K.fits (K.add u c) → m u ≡ done tt (K.add u c))
      → ((u : K.S) → K.fits u → ¬ (K.fits (K.add u c)) → Refused m u c) → Steady m
  steady_charge m c takes refuses s t a r h = go (K.fits? (K.add s c))
    where
      go : Dec (K.fits (K.add s c)) → Costs m a s t
      go (yes p) =
          let e : m s ≡ done tt (K.add s c) = takes s p in
          let j : t ≡ K.add s c = cc in
          record { cost = c; spent = j; room = p; anew = takes; refused = refuses }
      go (no q) = not_stop (sym (refuses s r q).stops ∙ h)

  bind_stop : {A B : Type 0} (m : M K.S A) (f : A → M K.S B) (s t : K.S) (n : Refusal) → m s ≡ stop n t → (m >>= f) s ≡ stop n t
  unfolding ◌>>=◌
  bind_stop m f s t n p = rw (p, ◌>>=◌)

  -- the costs of two pieces of work add up; the first that lacks room is refused
  pub steady_bind : {A B : Type 0} {m : M K.S A} {f : A → M K.S B} → Steady m → ((a : A) → Steady (f a)) → Steady (m >>= f)
  steady_bind {A} {B} {m} {f} sm sf s t b r h =
      let (a, x, p, q) = bind_inv m f s t b h in
      joined a x (sm s x a r p) (sf a x t b (steady_fits sm s x a r p) q)
    where
      joined : (a : A) (x : K.S) → Costs m a s x → Costs (f a) b x t → Costs (m >>= f) b s t
      joined a x k l = record {
        cost = K.add k.cost l.cost;
        spent = l.spent ∙ ap (λ z. K.add z l.cost) k.spent ∙ K.add_add s k.cost l.cost;
        room = subst K.fits (ap (λ z. K.add z l.cost) k.spent ∙ K.add_add s k.cost l.cost) l.room;
        anew = λ u q.
            let q' = subst K.fits (sym (K.add_add u k.cost l.cost)) q in
            bind_at m f u (K.add u k.cost) a (k.anew u (K.fits_less _ l.cost q'))
            ∙ l.anew (K.add u k.cost) q'
            ∙ ap (done b) (K.add_add u k.cost l.cost);
        refused = λ u ok short. refused u ok short (K.fits? (K.add u k.cost));
      }
        where
          refused : (u : K.S) → K.fits u → ¬ (K.fits (K.add u (K.add k.cost l.cost))) → Dec (K.fits (K.add u k.cost))
              → Refused (m >>= f) u (K.add k.cost l.cost)
          refused u ok short (yes p) =
              let v = l.refused (K.add u k.cost) p (λ q. short (subst K.fits (K.add_add u k.cost l.cost) q)) in
              record {
                number = v.number;
                after = v.after;
                stops = bind_at m f u (K.add u k.cost) a (k.anew u p) ∙ v.stops;
                why = subst (λ z. K.over z v.number) (K.add_add u k.cost l.cost) v.why;
              }
          refused u ok short (no q) =
              let v = k.refused u ok q in
              record {
                number = v.number;
                after = v.after;
                stops = bind_stop m f u v.after v.number v.stops;
                why = subst (λ z. K.over z v.number) (K.add_add u k.cost l.cost) (K.over_more _ l.cost v.number v.why);
              }

  pub steady_seq : {A B : Type 0} {m : M K.S A} {n : M K.S B} → Steady m → Steady n → Steady (m >> n)
  unfolding ◌>>◌
  steady_seq sm sn = steady_bind sm (λ x. sn)

-- The answer and every lent byte: what each call and each return needs, and what a match's answer says of the definition's. Assumes nothing.
use mathlib.Core.Path.{◌≡◌, refl, sym, ◌∙◌, ap}
use mathlib.Core.List.{List, [], ◌∷◌}
use mathlib.Core.Bool.{Bool, true, false}
use Prim.Native.Nat.{ℕ, zero, suc, ◌<◌, ◌≤◌}
use native.Mathlib.Omega.{arith}
use lib.ListN.{length, take, drop, length-append}
use lib.Dec.{leb}
use borrow.Author.Tests.{le-leb, leb-true}
use Rattle.std.specs.Prelude.{Option, Some, None, Result, Ok, Err}
use Rattle.std.specs.Option.{ok_or}
use Rattle.refusals.specs.declared.Refusal.{Refusal}
use Rattle.refusals.specs.declared.Refusal.TheVariants.{RoomSmall, OutputShort}
use Rattle.meaning.specs.Limits.{room_least, path_limit}
use Rattle.meaning.specs.Number.{number, bytes_of}
use Rattle.meaning.specs.Meter.{Out, done, stop}
use Rattle.meaning.specs.Form.{Reading}
use Rattle.meaning.specs.Match as meaning
use Rattle.meaning.specs.Outcome.{plain, no_match, too_many_names, Outcome, answered, refused, deliver, ended, in_room, out_after, zeroed, told, Delivers}
use Rattle.meaning.proofs.Lent.{Zeros, zeros_answered, zeros_deliver, zeros_ended, room_small, room_enough, small_settles, zeroed_settles, told_answer}
use Rattle.store.specs.declared.Charges.{Charges}
use Rattle.form.specs.Writes.{Wrote}
use Rattle.pattern.specs.declared.Bindings.{Bindings}
use Rattle.pattern.specs.Bound.{bindings_at, Bound}
use Rattle.matcher.specs.declared.Parts.{Parts}
use Rattle.matcher.specs.declared.Worked.{Worked}
use Rattle.matcher.specs.declared.Said.{Said}
use Rattle.matcher.specs.declared.Said.TheVariants.{Bound as bound-to, NoMatch as not-matched, TooManyNames as too_many}
use Rattle.matcher.specs.declared.Verdict.{Verdict}
use Rattle.matcher.specs.declared.Matching.{Matching}
use Rattle.matcher.specs.declared.Verdict.TheVariants.{Matched, NoMatch, TooManyNames}
use Rattle.matcher.specs.Outcome.{worked, parts, joined, end, delivered, ending, outcome, says_at, says, place_of, Matches, Within}
use Rattle.matcher.specs.Steps.{outcome_of, BoundIn, Shows, placeless, Answers, placed}
use Rattle.matcher.proofs.Forms.{worked_late}
use Rattle.matcher.proofs.PlaceLaws.{place_number, place_short}

-- ---- deliver

module _ (out : List ℕ) (ks : List meaning.Binding) (r : Option Parts) (e : r ≡ placed (length out) ks) where
  pub parts_long : (n : Refusal) → Err n ≡ ok_or r OutputShort → r ≡ None → Answers (placeless (delivered (length out) (meaning.matched ks))) out out (Err n)
  unfolding placeless placed delivered deliver says_at told out_after
  parts_long n v d = let y : ◌≡◌ {A = Result Parts Refusal} (Err n) (Err OutputShort) = rw d at v in let j : n ≡ OutputShort = cc in rw j (record { at = λ p. go p (leb (length (joined (parts ks))) (length out)) refl (sym d ∙ e) })
    where
      go : (p : List ℕ) (b : Bool) → leb (length (joined (parts ks))) (length out) ≡ b → ◌≡◌ {A = Option Parts} None (elim b [ true ↦ Some (record { count = length ks; name_1 = end 1 ks; node_1 = end 2 ks; name_2 = end 3 ks; node_2 = end 4 ks }) | false ↦ None ]) → Delivers (says_at p) (delivered (length out) (meaning.matched ks)) out out (Err OutputShort)
      go p true h k = let z : ◌≡◌ {A = ℕ} 0 1 = cc in absurd (omega arith)
      go p false h k = rw (h, deliver) (record { answer = refl; out = refl })

  module _ (p : Parts) (d : r ≡ Some p) where
    pub parts_fit : length (joined (parts ks)) ≤ length out
    unfolding placed
    parts_fit = go (leb (length (joined (parts ks))) (length out)) refl (sym d ∙ e)
      where
        go : (b : Bool) → leb (length (joined (parts ks))) (length out) ≡ b → Some p ≡ elim b [ true ↦ Some (record { count = length ks; name_1 = end 1 ks; node_1 = end 2 ks; name_2 = end 3 ks; node_2 = end 4 ks }) | false ↦ None ] → length (joined (parts ks)) ≤ length out
        go true h k = leb-true (length (joined (parts ks))) (length out) h
        go false h k = let z : ◌≡◌ {A = ℕ} 0 1 = cc in absurd (omega arith)

    parts_are : Some p ≡ Some (record { count = length ks; name_1 = end 1 ks; node_1 = end 2 ks; name_2 = end 3 ks; node_2 = end 4 ks })
    unfolding placed
    parts_are = sym d ∙ e ∙ rw (le-leb (length (joined (parts ks))) (length out) parts_fit, placed)

    pub parts_written : (out₁ : List ℕ) (k : ℕ) → Wrote (joined (parts ks)) k out out₁ → Answers (placeless (delivered (length out) (meaning.matched ks))) out out₁ (Ok (Matched p))
    unfolding placeless delivered deliver says_at told out_after
    parts_written out₁ k w =
        let z : p ≡ record { count = length ks; name_1 = end 1 ks; node_1 = end 2 ks; name_2 = end 3 ks; node_2 = end 4 ks } = let y = parts_are in cc in
        rw (le-leb (length (joined (parts ks))) (length out) parts_fit, deliver) (record { at = λ q. record { answer = rw z; out = w.bytes } })

-- ---- answer

module _ (f s : List ℕ) (n : ℕ) (r : Result Said Refusal) (out out₁ : List ℕ) where
  pub answer_stop : (k : Refusal) → r ≡ Err k → Answers (outcome_of f s n r) out out (Err k)
  unfolding outcome_of says_at told out_after
  answer_stop k e = rw e (record { at = λ p. record { answer = refl; out = refl } })

  module _ (v : Said) (i : r ≡ Ok v) where
    pub bound_here : (ks : Bindings) (c : Charges) → BoundIn f s r → v ≡ bound-to ks c → Bound f s c ks
    unfolding BoundIn
    bound_here ks c h e = rw (i, e) at h

    pub answer_bound : (ks : Bindings) (c : Charges) (a : Result Verdict Refusal) → Answers (placeless (delivered n (meaning.matched (bindings_at f s ks)))) out out₁ a → v ≡ bound-to ks c → Answers (outcome_of f s n r) out out₁ a
    unfolding placeless outcome_of
    answer_bound ks c a d e = rw (i, e) (record { at = d.at })

    pub answer_failed : v ≡ not-matched → Answers (outcome_of f s n r) out out (Ok NoMatch)
    unfolding outcome_of says_at told out_after
    answer_failed e = rw (i, e) (record { at = λ p. record { answer = refl; out = refl } })

    pub answer_many : v ≡ too_many → Answers (outcome_of f s n r) out out (Ok TooManyNames)
    unfolding outcome_of says_at told out_after
    answer_many e = rw (i, e) (record { at = λ p. record { answer = refl; out = refl } })

-- ---- matches

zeros_delivered : (n : ℕ) (m : meaning.Match) → Zeros (delivered n m)
unfolding delivered
zeros_delivered n (meaning.matched ks) = zeros_deliver n (joined (parts ks)) _
zeros_delivered n (meaning.no_match ds) = zeros_answered [] no_match _
zeros_delivered n meaning.too_many_names = zeros_answered [] too_many_names []

module _ (f : List ℕ) (first : ℕ) (s w : List ℕ) where
  abbrev comes : Outcome
  comes = ending (take first f) (drop first f) (length w)

  zeros : Zeros comes
  unfolding ending
  zeros = zeros_ended (λ m x. delivered (length w) m) (λ m x. zeros_delivered (length w) m) (worked (take first f) (drop first f)) (worked_late (take first f) (drop first f))

  pub matches_small : (p : List ℕ) → p ≡ meaning.place_bytes 0 → length s < room_least → Matches (outcome f first (length s) (length w)) s s w w (record { answer = Err RoomSmall; place = p })
  unfolding outcome says says_at place_of
  matches_small p e h = record {
    settles = small_settles says comes s w (record { answer = Err RoomSmall; place = p }) refl h;
    place = e ∙ sym (ap place_of (room_small (length s) comes h));
  }

  module _ (h : room_least ≤ length s) (s₁ s₂ : List ℕ) (r : Worked) (a : Result Verdict Refusal) (w₁ : List ℕ) where
    pub matches_worked : s₂ ≡ zeroed s₁ → Answers (outcome_of f s₁ (length w) r.said) w w₁ a → Shows f s₁ (ending (take first f) (drop first f)) r → length s₁ ≡ length s
        → Matches (outcome f first (length s) (length w)) s s₂ w w₁ (record { answer = a; place = r.place })
    unfolding outcome says
    matches_worked z d o same =
        let e : Delivers (says_at r.place) comes w w₁ a = rw (o.is (length w)) (d.at r.place) in
        record {
          settles = zeroed_settles says comes s s₁ s₂ w w₁ (record { answer = a; place = r.place }) (record { answer = e.answer; out = e.out }) zeros h z same;
          place = o.place (length w) ∙ sym (ap place_of (room_enough (length s) comes h));
        }

-- ---- the ends stand in order in the output

rises : (k : ℕ) (ps : List (List ℕ)) → length (joined (take k ps)) ≤ length (joined (take (suc k) ps))
unfolding joined
rises zero ps = omega arith
rises (suc k) [] = omega arith
rises (suc k) (p ∷ ps) = omega (arith, rises k ps, length-append p (joined (take k ps)), length-append p (joined (take (suc k) ps)))

within_all : (k : ℕ) (ps : List (List ℕ)) → length (joined (take k ps)) ≤ length (joined ps)
unfolding joined
within_all zero ps = omega arith
within_all (suc k) [] = omega arith
within_all (suc k) (p ∷ ps) = omega (arith, within_all k ps, length-append p (joined (take k ps)), length-append p (joined ps))

-- ---- what a match's answer says

-- a plain answer comes of a match: its bytes are the parts
pub record Parted (f : List ℕ) (first limit : ℕ) (bytes ns : List ℕ) : Type 0 where
  pub ks : List meaning.Binding
  pub after : Reading
  pub is : worked (take first f) (drop first f) ≡ done (meaning.matched ks) after
  pub bytes_are : bytes ≡ joined (parts ks)
  pub numbers_are : ns ≡ length ks ∷ end 1 ks ∷ end 2 ks ∷ end 3 ks ∷ end 4 ks ∷ []
  pub fits : length bytes ≤ limit

module _ (f : List ℕ) (first limit : ℕ) (bytes ns : List ℕ) where
  parted : (o : Out Reading meaning.Match) → worked (take first f) (drop first f) ≡ o → ended (λ m s. delivered limit m) o ≡ answered bytes plain ns → Parted f first limit bytes ns
  unfolding ended delivered deliver
  parted (done (meaning.matched ks) x) e h = go (leb (length (joined (parts ks))) limit) refl h
    where
      go : (b : Bool) → leb (length (joined (parts ks))) limit ≡ b
          → elim b [ true ↦ answered (joined (parts ks)) plain (length ks ∷ end 1 ks ∷ end 2 ks ∷ end 3 ks ∷ end 4 ks ∷ []) | false ↦ refused OutputShort ] ≡ answered bytes plain ns → Parted f first limit bytes ns
      go true i k =
          let y : bytes ≡ joined (parts ks) = cc in
          let z : length (joined (parts ks)) ≤ limit = leb-true (length (joined (parts ks))) limit i in
          record { ks = ks; after = x; is = e; bytes_are = y; numbers_are = cc; fits = rw y z }
      go false i k = let z : ◌≡◌ {A = ℕ} 0 1 = cc in absurd (omega arith)
  parted (done (meaning.no_match ds) x) e h = let z : ◌≡◌ {A = ℕ} 0 1 = cc in absurd (omega arith)
  parted (done meaning.too_many_names x) e h = let z : ◌≡◌ {A = ℕ} 0 1 = cc in absurd (omega arith)
  parted (stop n x) e h = let z : ◌≡◌ {A = ℕ} 0 1 = cc in absurd (omega arith)

  pub match_parted : (n : ℕ) → outcome f first n limit ≡ answered bytes plain ns → Parted f first limit bytes ns
  unfolding outcome ending in_room
  match_parted n h = go (leb room_least n) h
    where
      go : (b : Bool) → elim b [ true ↦ ended (λ m s. delivered limit m) (worked (take first f) (drop first f)) | false ↦ refused RoomSmall ] ≡ answered bytes plain ns → Parted f first limit bytes ns
      go true k = parted (worked (take first f) (drop first f)) refl k
      go false k = let z : ◌≡◌ {A = ℕ} 0 1 = cc in absurd (omega arith)

-- a failure's numbers are the bytes of its place
module _ (f : List ℕ) (first limit : ℕ) (bytes ns : List ℕ) where
  abbrev Short : Type 0
  Short = length (bytes_of (number ns)) ≤ path_limit

  placed_short : (o : Out Reading meaning.Match) → ended (λ m s. delivered limit m) o ≡ answered bytes no_match ns → Short
  unfolding ended delivered deliver
  placed_short (done (meaning.matched ks) x) h = go (leb (length (joined (parts ks))) limit) h
    where
      go : (b : Bool) → elim b [ true ↦ answered (joined (parts ks)) plain (length ks ∷ end 1 ks ∷ end 2 ks ∷ end 3 ks ∷ end 4 ks ∷ []) | false ↦ refused OutputShort ] ≡ answered bytes no_match ns → Short
      go true k = let z : ◌≡◌ {A = ℕ} 0 1 = cc in absurd (omega arith)
      go false k = let z : ◌≡◌ {A = ℕ} 0 1 = cc in absurd (omega arith)
  placed_short (done (meaning.no_match ds) x) h =
      let e : ns ≡ meaning.place_bytes (meaning.place (meaning.no_match ds)) = cc in
      rw (e, place_number (meaning.place (meaning.no_match ds))) (place_short (meaning.no_match ds))
  placed_short (done meaning.too_many_names x) h = let z : ◌≡◌ {A = ℕ} 0 1 = cc in absurd (omega arith)
  placed_short (stop n x) h = let z : ◌≡◌ {A = ℕ} 0 1 = cc in absurd (omega arith)

  pub match_placed : (n : ℕ) → outcome f first n limit ≡ answered bytes no_match ns → length (bytes_of (number ns)) ≤ path_limit
  unfolding outcome ending in_room
  match_placed n h = go (leb room_least n) h
    where
      go : (b : Bool) → elim b [ true ↦ ended (λ m s. delivered limit m) (worked (take first f) (drop first f)) | false ↦ refused RoomSmall ] ≡ answered bytes no_match ns → Short
      go true k = placed_short (worked (take first f) (drop first f)) k
      go false k = let z : ◌≡◌ {A = ℕ} 0 1 = cc in absurd (omega arith)

pub ends_within : (f : List ℕ) (first n : ℕ) (s s' w w' : List ℕ) (m : Matching) (e : Parts) → Matches (outcome f first n (length w)) s s' w w' m → m.answer ≡ Ok (Matched e) → Within e (length w')
unfolding says says_at end
ends_within f first n s s' w w' m e k d =
    let h = k.settles in
    let t = told_answer (outcome f first n (length w)) plain (e.count ∷ e.name_1 ∷ e.node_1 ∷ e.name_2 ∷ e.node_2 ∷ []) w w' (rw d at h.delivers.answer) h.delivers.out in
    let p = match_parted f first (length w) t.bytes (e.count ∷ e.name_1 ∷ e.node_1 ∷ e.name_2 ∷ e.node_2 ∷ []) n t.is in
    let ps : List (List ℕ) = parts p.ks in
    let q : e.count ∷ e.name_1 ∷ e.node_1 ∷ e.name_2 ∷ e.node_2 ∷ [] ≡ length p.ks ∷ end 1 p.ks ∷ end 2 p.ks ∷ end 3 p.ks ∷ end 4 p.ks ∷ [] = p.numbers_are in
    let x : e.name_1 ≡ length (joined (take 1 ps)) = cc in
    let y : e.node_1 ≡ length (joined (take 2 ps)) = cc in
    let z : e.name_2 ≡ length (joined (take 3 ps)) = cc in
    let v : e.node_2 ≡ length (joined (take 4 ps)) = cc in
    let b : length t.bytes ≡ length (joined ps) = ap length p.bytes_are in
    record {
      first = omega (arith, rises 1 ps);
      second = omega (arith, rises 2 ps);
      third = omega (arith, rises 3 ps);
      last = omega (arith, within_all 4 ps, t.within);
    }

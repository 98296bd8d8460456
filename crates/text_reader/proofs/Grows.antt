-- The machine's form is the written form of the text's tree. Assumes nothing.
use Prim.Native.Nat.{ℕ, zero, suc, ◌≤◌}
use mathlib.Core.Path.{◌≡◌, refl, sym, ◌∙◌, ap}
use mathlib.Core.List.{List, [], ◌∷◌, ◌++◌, append_assoc}
use mathlib.Core.Bool.{Bool, true, false}
use mathlib.Core.Option.{Option, none, some}
use native.Mathlib.Omega.{arith}
use lib.ListN.{length}
use Rattle.refusals.specs.declared.Refusal.TheVariants.{NoParse}
use Rattle.meaning.specs.Tree.{Tree, atom, pair, nil}
use Rattle.meaning.specs.Form.{write, write_atom}
use Rattle.meaning.specs.Meter.{Out, done, stop, ◌>>=◌, ◌>>◌, give, refuse, hold}
use Rattle.meaning.proofs.MeterLaws.{not_stop, bind_inv}
use Rattle.notation.specs.declared.Place.{Place}
use Rattle.notation.specs.declared.Place.TheVariants.{Operator, Code, Data}
use Rattle.notation.specs.Words.{word_bytes}
use Rattle.notation.specs.Texts.{head_in, is_one, after}
use Rattle.notation.specs.Grammar.{Token, opening, closing, dot, wrong, word, quoted, P, first_token, next_token, misplaced, element, closes, element_and_rest, last_part, in_list, rest_of, no_more, all_read, whole}
use Rattle.text_reader.specs.declared.machine.Frame.{Frame}
use Rattle.text_reader.specs.declared.machine.Frame.TheVariants.{Outermost, AfterDot}
use Rattle.text_reader.specs.declared.machine.Want.{Want}
use Rattle.text_reader.specs.declared.machine.Want.TheVariants.{Whole, First, More, Last, Bracket, Nothing}
use Rattle.text_reader.specs.Machine.{Next, on, no, want_of, back, on_opening, pop, on_closing, on_dot, on_atom, on_word, on_token, at_end, run}

-- what comes of a part that was read
unfoldable pub onward : {A : Type 0} → Out (List Token) A → (A → List Token → Out (List Token) (List ℕ)) → Out (List Token) (List ℕ)
onward (done a us) K = K a us
onward (stop n us) K = stop n us

onward_bind : {A B : Type 0} (m : P A) (g : A → P B) (ts : List Token) (K : B → List Token → Out (List Token) (List ℕ)) → onward ((m >>= g) ts) K ≡ onward (m ts) (λ a us. onward (g a us) K)
unfolding onward ◌>>=◌
onward_bind {A} {B} m g ts K = go (m ts)
  where
    go : (o : Out (List Token) A) → onward {A = B} (elim o [ done a u ↦ g a u | stop n u ↦ stop n u ]) K ≡ onward o (λ a us. onward (g a us) K)
    go (done a us) = refl
    go (stop n us) = refl

onward_same : {A : Type 0} (o : Out (List Token) A) (K L : A → List Token → Out (List Token) (List ℕ)) → ((a : A) (us : List Token) → o ≡ done a us → K a us ≡ L a us) → onward o K ≡ onward o L
unfolding onward
onward_same (done a us) K L h = h a us refl
onward_same (stop n us) K L h = refl

onward_bind_give : {A B : Type 0} (m : P A) (g : A → B) (ts : List Token) (K : B → List Token → Out (List Token) (List ℕ)) → onward ((m >>= λ a. give (g a)) ts) K ≡ onward (m ts) (λ a us. K (g a) us)
unfolding onward ◌>>=◌ give
onward_bind_give {A} {B} m g ts K = go (m ts)
  where
    go : (o : Out (List Token) A) → onward {A = B} (elim o [ done a u ↦ give (g a) u | stop n u ↦ stop n u ]) K ≡ onward o (λ a us. K (g a) us)
    go (done a us) = refl
    go (stop n us) = refl

pair_written : (e r : Tree) (f : List ℕ) → f ++ ((0xff ∷ []) ++ (write e ++ write r)) ≡ f ++ write (pair e r)
unfolding write
pair_written e r f = refl

-- what is wanted in a list, before and after its first part
abbrev in_a_list : Place → Bool → Want
in_a_list p true = More p
in_a_list p false = First p

list_end : (p : Place) (b : Bool) (f : List ℕ) → at_end (in_a_list p b) f ≡ stop NoParse []
unfolding at_end
list_end p true f = refl
list_end p false f = refl

-- ---- what is read leaves fewer tokens

record Shorter {A : Type 0} (m : P A) : Type 0 where
  so : (ts : List Token) (a : A) (us : List Token) → m ts ≡ done a us → length us ≤ length ts

shorter_give : {A : Type 0} (a : A) → Shorter (give a)
unfolding give
shorter_give a = record { so = λ ts b us h. let z : us ≡ ts = cc in rw z (omega arith) }

shorter_refuse : {A : Type 0} → Shorter {A = A} (refuse NoParse)
unfolding refuse
shorter_refuse = record { so = λ ts b us h. not_stop h }

shorter_misplaced : {A : Type 0} (t : Token) → Shorter {A = A} (misplaced t)
unfolding misplaced
shorter_misplaced t = record { so = λ ts b us h. not_stop h }

shorter_bind : {A B : Type 0} {m : P A} {g : A → P B} → Shorter m → ((a : A) → Shorter (g a)) → Shorter (m >>= g)
shorter_bind {A} {B} {m} {g} h k = record {
  so = λ ts b us e.
      let (a, vs, i, j) = bind_inv m g ts us b e in
      let x : length vs ≤ length ts = h.so ts a vs i in
      let y : length us ≤ length vs = (k a).so vs b us j in
      omega arith;
}

shorter_seq : {A B : Type 0} {m : P A} {k : P B} → Shorter m → Shorter k → Shorter (m >> k)
unfolding ◌>>◌
shorter_seq h k = shorter_bind h (λ x. k)

shorter_next : Shorter next_token
unfolding next_token first_token
shorter_next = record { so = go }
  where
    go : (ts : List Token) (t : Token) (us : List Token) → first_token ts ≡ done t us → length us ≤ length ts
    go [] t us h = not_stop h
    go (t ∷ ts) a us h = let z : us ≡ ts = cc in rw z (omega arith)

shorter_element : (list : P Tree) → Shorter list → (p : Place) (t : Token) → Shorter (element list p t)
unfolding element
shorter_element list h p opening = h
shorter_element list h p (word w) = go (word_bytes p w)
  where
    go : (o : Option (List ℕ)) → Shorter {A = Tree} (elim o as (λ x. P Tree) [ some b ↦ give (atom b) | none ↦ misplaced (word w) ])
    go (some b) = shorter_give (atom b)
    go none = shorter_misplaced (word w)
shorter_element list h p (quoted s) = shorter_give (atom s)
shorter_element list h p closing = shorter_misplaced closing
shorter_element list h p dot = shorter_misplaced dot
shorter_element list h p wrong = shorter_misplaced wrong

shorter_closes : (t : Token) → Shorter (closes t)
unfolding closes
shorter_closes closing = shorter_give tt
shorter_closes opening = shorter_misplaced opening
shorter_closes dot = shorter_misplaced dot
shorter_closes wrong = shorter_misplaced wrong
shorter_closes (word w) = shorter_misplaced (word w)
shorter_closes (quoted s) = shorter_misplaced (quoted s)

module _ (rest : Place → Bool → P Tree) (h : (p : Place) (b : Bool) → Shorter (rest p b)) where
  shorter_part : (p : Place) (t : Token) → Shorter (element_and_rest rest p t)
  unfolding element_and_rest
  shorter_part p t = shorter_bind (shorter_element (rest (head_in p) false) (h (head_in p) false) p t) (λ e. shorter_bind (h (after p e) true) (λ r. shorter_give (pair e r)))

  shorter_last : (p : Place) → Shorter (last_part rest p)
  unfolding last_part
  shorter_last p = shorter_bind shorter_next (λ t. shorter_bind (shorter_element (rest p false) (h p false) p t) (λ e. shorter_bind shorter_next (λ c. shorter_seq (shorter_closes c) (shorter_give e))))

  shorter_in : (p : Place) (b : Bool) (t : Token) → Shorter (in_list rest p b t)
  unfolding in_list
  shorter_in p b closing = shorter_give nil
  shorter_in p true dot = shorter_last p
  shorter_in p false dot = shorter_misplaced dot
  shorter_in p b opening = shorter_part p opening
  shorter_in p b (word w) = shorter_part p (word w)
  shorter_in p b (quoted s) = shorter_part p (quoted s)
  shorter_in p b wrong = shorter_misplaced wrong

shorter_rest : (k : ℕ) (p : Place) (b : Bool) → Shorter (rest_of k p b)
unfolding rest_of
shorter_rest zero p b = shorter_refuse
shorter_rest (suc k) p b = shorter_bind shorter_next (λ t. shorter_in (λ q c. rest_of k q c) (shorter_rest k) p b t)

-- ---- a list is not the atom 1

pair_not_one : (rest : Place → Bool → P Tree) (p : Place) (t : Token) (ts : List Token) (e : Tree) (us : List Token) → element_and_rest rest p t ts ≡ done e us → is_one e ≡ false
unfolding element_and_rest give is_one
pair_not_one rest p t ts e us h =
    let (l, vs, i, j) = bind_inv (element (rest (head_in p) false) p t) (λ l. rest (after p l) true >>= λ r. give (pair l r)) ts us e h in
    let (r, ws, x, y) = bind_inv (rest (after p l) true) (λ r. give (pair l r)) vs us e j in
    let z : e ≡ pair l r = cc in
    rw z refl

not_one : (k : ℕ) (p : Place) (ts : List Token) (e : Tree) (us : List Token) → rest_of k p false ts ≡ done e us → is_one e ≡ false
unfolding rest_of refuse next_token first_token in_list misplaced give ◌>>=◌ is_one
not_one zero p ts e us h = not_stop h
not_one (suc k) p [] e us h = not_stop h
not_one (suc k) p (closing ∷ ts) e us h = let z : e ≡ nil = cc in rw z refl
not_one (suc k) p (dot ∷ ts) e us h = not_stop h
not_one (suc k) p (opening ∷ ts) e us h = pair_not_one (λ q c. rest_of k q c) p opening ts e us h
not_one (suc k) p (word w ∷ ts) e us h = pair_not_one (λ q c. rest_of k q c) p (word w) ts e us h
not_one (suc k) p (quoted s ∷ ts) e us h = pair_not_one (λ q c. rest_of k q c) p (quoted s) ts e us h
not_one (suc k) p (wrong ∷ ts) e us h = not_stop h

-- so what follows it is what is wanted once it is closed
back_is : (p : Place) (e : Tree) → is_one e ≡ false → want_of (back p) ≡ More (after p e)
unfolding want_of after
back_is Operator e h = rw (h, after) refl
back_is Code e h = refl
back_is Data e h = refl

-- ---- the machine reads the rest of a list as the definition does

-- what the machine makes of the rest of a list, once it is read
abbrev goes_on : Frame → List Frame → List ℕ → Tree → List Token → Out (List Token) (List ℕ)
goes_on j st f t us = run us (want_of j) st (f ++ write t)

unfoldable Follows : (Place → Bool → P Tree) → ℕ → Type 0
Follows rest k = (ts : List Token) → length ts ≤ k → (p : Place) (b : Bool) (j : Frame) (st : List Frame) (f : List ℕ) → run ts (in_a_list p b) (j ∷ st) f ≡ onward (rest p b ts) (goes_on j st f)

module _ (k : ℕ) (ih : Follows (λ q c. rest_of k q c) k) where
  rest : Place → Bool → P Tree
  rest q c = rest_of k q c

  -- an element and what is wanted after it
  follows_list : (ts : List Token) → length ts ≤ k → (p : Place) (b : Bool) (st : List Frame) (f : List ℕ)
      → run (opening ∷ ts) (in_a_list p b) st f ≡ onward (rest (head_in p) false ts) (λ e us. run us (More (after p e)) st ((f ++ (0xff ∷ [])) ++ write e))
  unfolding run on_token on_opening Follows rest
  follows_list ts h p b st f =
      begins b
      ∙ ih ts h (head_in p) false (back p) st (f ++ (0xff ∷ []))
      ∙ onward_same (rest_of k (head_in p) false ts) (goes_on (back p) st (f ++ (0xff ∷ []))) (λ e us. run us (More (after p e)) st ((f ++ (0xff ∷ [])) ++ write e))
      (λ e us i. ap (λ (w : Want). run us w st ((f ++ (0xff ∷ [])) ++ write e)) (back_is p e (not_one k (head_in p) ts e us i)))
    where
      begins : (b : Bool) → run (opening ∷ ts) (in_a_list p b) st f ≡ run ts (First (head_in p)) (back p ∷ st) (f ++ (0xff ∷ []))
      begins true = refl
      begins false = refl

  follows_atom : (ts : List Token) (p : Place) (b : Bool) (a : List ℕ) (st : List Frame) (f : List ℕ) → run (quoted a ∷ ts) (in_a_list p b) st f ≡ run ts (More (after p (atom a))) st ((f ++ (0xff ∷ [])) ++ write (atom a))
  unfolding run on_token on_atom write
  follows_atom ts p true a st f = refl
  follows_atom ts p false a st f = refl

  follows_word : (ts : List Token) (p : Place) (b : Bool) (v : List ℕ) (st : List Frame) (f : List ℕ)
      → run (word v ∷ ts) (in_a_list p b) st f ≡ onward (element (rest (head_in p) false) p (word v) ts) (λ e us. run us (More (after p e)) st ((f ++ (0xff ∷ [])) ++ write e))
  unfolding run on_token on_word on_atom element onward give refuse misplaced write
  follows_word ts p true v st f = go (word_bytes p v)
    where
      go : (o : Option (List ℕ))
          → elim (elim o as (λ x. Next) [ some a ↦ on_atom (More p) a st f | none ↦ no ]) as (λ x. Out (List Token) (List ℕ)) [ on w' st' f' ↦ run ts w' st' f' | no ↦ stop NoParse (word v ∷ ts) ]
          ≡ onward {A = Tree} (elim o as (λ x. P Tree) [ some a ↦ give (atom a) | none ↦ misplaced (word v) ] ts) (λ e us. run us (More (after p e)) st ((f ++ (0xff ∷ [])) ++ write e))
      go (some a) = refl
      go none = refl
  follows_word ts p false v st f = go (word_bytes p v)
    where
      go : (o : Option (List ℕ))
          → elim (elim o as (λ x. Next) [ some a ↦ on_atom (First p) a st f | none ↦ no ]) as (λ x. Out (List Token) (List ℕ)) [ on w' st' f' ↦ run ts w' st' f' | no ↦ stop NoParse (word v ∷ ts) ]
          ≡ onward {A = Tree} (elim o as (λ x. P Tree) [ some a ↦ give (atom a) | none ↦ misplaced (word v) ] ts) (λ e us. run us (More (after p e)) st ((f ++ (0xff ∷ [])) ++ write e))
      go (some a) = refl
      go none = refl

  -- the rest of the list after an element
  then_rest : (ts : List Token) → length ts ≤ k → (p : Place) (t : Token) (j : Frame) (st : List Frame) (f : List ℕ)
      → onward (element (rest (head_in p) false) p t ts) (λ e us. run us (More (after p e)) (j ∷ st) ((f ++ (0xff ∷ [])) ++ write e)) ≡ onward (element_and_rest rest p t ts) (goes_on j st f)
  unfolding element_and_rest Follows rest
  then_rest ts h p t j st f =
      onward_same (element (rest_of k (head_in p) false) p t ts) (λ e us. run us (More (after p e)) (j ∷ st) ((f ++ (0xff ∷ [])) ++ write e))
      (λ e us. onward ((rest_of k (after p e) true >>= λ r. give (pair e r)) us) (goes_on j st f)) after_element
      ∙ sym (onward_bind (element (rest_of k (head_in p) false) p t) (λ e. rest_of k (after p e) true >>= λ r. give (pair e r)) ts (goes_on j st f))
    where
      joined : (e r : Tree) → ((f ++ (0xff ∷ [])) ++ write e) ++ write r ≡ f ++ write (pair e r)
      joined e r = append_assoc (f ++ (0xff ∷ [])) (write e) (write r) ∙ append_assoc f (0xff ∷ []) (write e ++ write r) ∙ pair_written e r f

      after_element : (e : Tree) (us : List Token) → element (rest_of k (head_in p) false) p t ts ≡ done e us
          → run us (More (after p e)) (j ∷ st) ((f ++ (0xff ∷ [])) ++ write e) ≡ onward ((rest_of k (after p e) true >>= λ r. give (pair e r)) us) (goes_on j st f)
      after_element e us i =
          let s : length us ≤ length ts = (shorter_element (rest_of k (head_in p) false) (shorter_rest k (head_in p) false) p t).so ts e us i in
          ih us (omega arith) (after p e) true j st ((f ++ (0xff ∷ [])) ++ write e)
          ∙ onward_same (rest_of k (after p e) true us) (goes_on j st ((f ++ (0xff ∷ [])) ++ write e)) (λ r vs. goes_on j st f (pair e r) vs)
          (λ r vs x. ap (λ (l : List ℕ). run vs (want_of j) st l) (joined e r))
          ∙ sym (onward_bind_give (rest_of k (after p e) true) (λ r. pair e r) us (goes_on j st f))

  -- after a dot
  bracket : (us : List Token) (e : Tree) (j : Frame) (st : List Frame) (f : List ℕ) → run us Bracket (j ∷ st) (f ++ write e) ≡ onward ((next_token >>= λ c. closes c >> give e) us) (goes_on j st f)
  unfolding run on_token on_opening on_closing on_dot on_atom on_word pop at_end onward next_token first_token closes give refuse misplaced ◌>>=◌ ◌>>◌
  bracket [] e j st f = refl
  bracket (closing ∷ us) e j st f = refl
  bracket (opening ∷ us) e j st f = refl
  bracket (dot ∷ us) e j st f = refl
  bracket (wrong ∷ us) e j st f = refl
  bracket (word v ∷ us) e j st f = go (word_bytes Data v)
    where
      go : (o : Option (List ℕ)) → ◌≡◌ {A = Out (List Token) (List ℕ)} (elim (elim o as (λ x. Next) [ some a ↦ no | none ↦ no ]) as (λ x. Out (List Token) (List ℕ)) [ on w' st' f' ↦ run us w' st' f' | no ↦ stop NoParse (word v ∷ us) ]) (stop NoParse (word v ∷ us))
      go (some a) = refl
      go none = refl
  bracket (quoted a ∷ us) e j st f = refl

  -- what is wanted after a dot
  last_element : (ts : List Token) → length ts ≤ suc k → (p : Place) (j : Frame) (st : List Frame) (f : List ℕ)
      → run ts (Last p) (j ∷ st) f ≡ onward ((next_token >>= λ t. element (rest p false) p t) ts) (λ e us. run us Bracket (j ∷ st) (f ++ write e))
  unfolding run on_token on_opening on_closing on_dot on_atom on_word at_end onward next_token first_token element give refuse misplaced ◌>>=◌ write Follows rest want_of
  last_element [] h p j st f = refl
  last_element (opening ∷ ts) h p j st f = ih ts (omega arith) p false AfterDot (j ∷ st) f
  last_element (closing ∷ ts) h p j st f = refl
  last_element (dot ∷ ts) h p j st f = refl
  last_element (wrong ∷ ts) h p j st f = refl
  last_element (quoted a ∷ ts) h p j st f = refl
  last_element (word v ∷ ts) h p j st f = go (word_bytes p v)
    where
      go : (o : Option (List ℕ))
          → elim (elim o as (λ x. Next) [ some a ↦ on_atom (Last p) a (j ∷ st) f | none ↦ no ]) as (λ x. Out (List Token) (List ℕ)) [ on w' st' f' ↦ run ts w' st' f' | no ↦ stop NoParse (word v ∷ ts) ]
          ≡ onward {A = Tree} (elim o as (λ x. P Tree) [ some a ↦ give (atom a) | none ↦ misplaced (word v) ] ts) (λ e us. run us Bracket (j ∷ st) (f ++ write e))
      go (some a) = refl
      go none = refl

  follows_last : (ts : List Token) → length ts ≤ suc k → (p : Place) (j : Frame) (st : List Frame) (f : List ℕ) → run ts (Last p) (j ∷ st) f ≡ onward (last_part rest p ts) (goes_on j st f)
  unfolding last_part
  follows_last ts h p j st f =
      last_element ts h p j st f
      ∙ onward_bind next_token (λ t. element (rest p false) p t) ts (λ e us. run us Bracket (j ∷ st) (f ++ write e))
      ∙ onward_same (next_token ts) (λ t us. onward (element (rest p false) p t us) (λ e vs. run vs Bracket (j ∷ st) (f ++ write e)))
      (λ t us. onward ((element (rest p false) p t >>= λ e. next_token >>= λ c. closes c >> give e) us) (goes_on j st f))
      (λ t us i.
      onward_same (element (rest p false) p t us) (λ e vs. run vs Bracket (j ∷ st) (f ++ write e)) (λ e vs. onward ((next_token >>= λ c. closes c >> give e) vs) (goes_on j st f)) (λ e vs x. bracket vs e j st f)
      ∙ sym (onward_bind (element (rest p false) p t) (λ e. next_token >>= λ c. closes c >> give e) us (goes_on j st f)))
      ∙ sym (onward_bind next_token (λ t. element (rest p false) p t >>= λ e. next_token >>= λ c. closes c >> give e) ts (goes_on j st f))

  follows_token : (t : Token) (ts : List Token) → length ts ≤ k → (p : Place) (b : Bool) (j : Frame) (st : List Frame) (f : List ℕ) → run (t ∷ ts) (in_a_list p b) (j ∷ st) f ≡ onward (in_list rest p b t ts) (goes_on j st f)
  unfolding in_list run on_token on_closing on_dot pop onward give refuse misplaced ◌>>◌ ◌>>=◌ write write_atom element
  follows_token closing ts h p true j st f = refl
  follows_token closing ts h p false j st f = refl
  follows_token dot ts h p true j st f = follows_last ts (omega arith) p j st f
  follows_token dot ts h p false j st f = refl
  follows_token wrong ts h p true j st f = refl
  follows_token wrong ts h p false j st f = refl
  follows_token opening ts h p b j st f = follows_list ts h p b (j ∷ st) f ∙ then_rest ts h p opening j st f
  follows_token (word v) ts h p b j st f = follows_word ts p b v (j ∷ st) f ∙ then_rest ts h p (word v) j st f
  follows_token (quoted a) ts h p b j st f = follows_atom ts p b a (j ∷ st) f ∙ then_rest ts h p (quoted a) j st f

follows : (k : ℕ) → Follows (λ q c. rest_of k q c) k
unfolding Follows rest_of run refuse misplaced next_token first_token ◌>>=◌ onward rest
follows zero [] h p b j st f = list_end p b f
follows zero (t ∷ ts) h p b j st f = absurd (omega arith)
follows (suc k) [] h p b j st f = list_end p b f
follows (suc k) (t ∷ ts) h p b j st f = follows_token k (follows k) t ts (omega arith) p b j st f

-- ---- the whole text

-- nothing more is wanted
ends : (us : List Token) (e : Tree) → run us Nothing [] (write e) ≡ onward ((all_read >> give e) us) (λ t vs. done (write t) vs)
unfolding run on_token on_opening on_closing on_dot on_atom on_word at_end onward all_read no_more hold give refuse misplaced ◌>>◌ ◌>>=◌
ends [] e = refl
ends (closing ∷ us) e = refl
ends (opening ∷ us) e = refl
ends (dot ∷ us) e = refl
ends (wrong ∷ us) e = refl
ends (quoted a ∷ us) e = refl
ends (word v ∷ us) e = go (word_bytes Data v)
  where
    go : (o : Option (List ℕ)) → ◌≡◌ {A = Out (List Token) (List ℕ)} (elim (elim o as (λ x. Next) [ some a ↦ no | none ↦ no ]) as (λ x. Out (List Token) (List ℕ)) [ on w' st' f' ↦ run us w' st' f' | no ↦ stop NoParse (word v ∷ us) ]) (stop NoParse (word v ∷ us))
    go (some a) = refl
    go none = refl

first_element : (k : ℕ) (ts : List Token) → length ts ≤ suc k → run ts Whole [] [] ≡ onward ((next_token >>= λ t. element (rest_of k Operator false) Code t) ts) (λ e us. run us Nothing [] (write e))
unfolding run on_token on_opening on_closing on_dot on_atom on_word at_end onward next_token first_token element give refuse misplaced ◌>>=◌ write Follows want_of
first_element k [] h = refl
first_element k (opening ∷ ts) h = follows k ts (omega arith) Operator false Outermost [] []
first_element k (closing ∷ ts) h = refl
first_element k (dot ∷ ts) h = refl
first_element k (wrong ∷ ts) h = refl
first_element k (quoted a ∷ ts) h = refl
first_element k (word v ∷ ts) h = go (word_bytes Code v)
  where
    go : (o : Option (List ℕ))
        → elim (elim o as (λ x. Next) [ some a ↦ on_atom Whole a [] [] | none ↦ no ]) as (λ x. Out (List Token) (List ℕ)) [ on w' st' f' ↦ run ts w' st' f' | no ↦ stop NoParse (word v ∷ ts) ]
        ≡ onward {A = Tree} (elim o as (λ x. P Tree) [ some a ↦ give (atom a) | none ↦ misplaced (word v) ] ts) (λ e us. run us Nothing [] (write e))
    go (some a) = refl
    go none = refl

-- the machine's form is the written form of the tree that the definition reads
pub grows : (k : ℕ) (ts : List Token) → length ts ≤ suc k → run ts Whole [] [] ≡ onward (whole k ts) (λ t us. done (write t) us)
unfolding whole
grows k ts h =
    first_element k ts h
    ∙ onward_bind next_token (λ t. element (rest_of k Operator false) Code t) ts (λ e us. run us Nothing [] (write e))
    ∙ onward_same (next_token ts) (λ t us. onward (element (rest_of k Operator false) Code t us) (λ e vs. run vs Nothing [] (write e)))
    (λ t us. onward ((element (rest_of k Operator false) Code t >>= λ e. all_read >> give e) us) (λ u vs. done (write u) vs))
    (λ t us i.
    onward_same (element (rest_of k Operator false) Code t us) (λ e vs. run vs Nothing [] (write e)) (λ e vs. onward ((all_read >> give e) vs) (λ u ws. done (write u) ws)) (λ e vs x. ends vs e)
    ∙ sym (onward_bind (element (rest_of k Operator false) Code t) (λ e. all_read >> give e) us (λ u vs. done (write u) vs)))
    ∙ sym (onward_bind next_token (λ t. element (rest_of k Operator false) Code t >>= λ e. all_read >> give e) ts (λ u vs. done (write u) vs))

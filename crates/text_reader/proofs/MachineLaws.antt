-- What each return of the machine's steps needs. Assumes nothing.
use mathlib.Core.Logic.{◌⊎◌, inl, inr}
use mathlib.Core.Path.{◌≡◌, refl, sym, ◌∙◌, ap, subst}
use mathlib.Core.List.{List, [], ◌∷◌, ◌++◌, append-nil, append_assoc}
use mathlib.Core.Bool.{Bool, false}
use mathlib.Core.Option.{none, some}
use Prim.Native.Nat.{ℕ, zero, suc, ◌+◌, ◌<◌, ◌≤◌}
use native.Mathlib.Omega.{arith}
use lib.ListN.{length, set, drop, length-set}
use lib.Seq.{get_or-set_same, get_or-set_other}
use Rattle.meaning.specs.Tree.{atom, is_byte}
use Rattle.meaning.specs.Limits.{form_limit}
use Rattle.meaning.specs.Form.{write_atom}
use Rattle.meaning.proofs.Tests.{on_bool}
use Rattle.notation.specs.declared.Place.{Place}
use Rattle.notation.specs.declared.Place.TheVariants.{Operator, Code, Data}
use Rattle.notation.specs.Words.{word_bytes}
use Rattle.notation.specs.Texts.{is_one, after, place_after}
use Rattle.decimals.specs.declared.Spelled.{Spelled}
use Rattle.decimals.specs.declared.Spelled.TheVariants.{From, Long, Nothing as not-spelled}
use Rattle.decimals.specs.Spelling.{Spells, SpellsLong, spells_long, SpelledOk, Spelling}
use Rattle.text_reader.specs.declared.machine.Frame.{Frame}
use Rattle.text_reader.specs.declared.machine.Frame.TheVariants.{Outermost, AfterDot}
use Rattle.text_reader.specs.declared.machine.Want.{Want}
use Rattle.text_reader.specs.declared.machine.Want.TheVariants.{Whole, First, More, Last, Bracket, Nothing}
use Rattle.text_reader.specs.declared.machine.Reading.{Reading}
use Rattle.std.specs.Prelude.{Option, Some, None}
use Rattle.text_reader.specs.declared.machine.Opened.{Opened}
use Rattle.text_reader.specs.declared.machine.Wanted.{Wanted}
use Rattle.text_reader.specs.Forms.{Within, Emitted, Emits, pair_byte}
use Rattle.text_reader.specs.Machine.{Next, on, no, on_opening, pop, on_closing, on_atom, on_word, place_of}
use Rattle.text_reader.specs.Turns.{opening_of, wanted_after, stack_in, leads, StepOk, LeadsOn, leads_on, PassOk, AtomOk, LongOk, WordOk, PopOk}
use Rattle.text_reader.proofs.EmitLaws.{emits_none, part_over}

-- ---- leaves

pub no_byte : (b : List ℕ) → (length b ≡ 1 → ⊥) → false ≡ is_byte 1 b
unfolding is_byte
no_byte [] h = refl
no_byte (x ∷ []) h = absurd (h refl)
no_byte (x ∷ y ∷ b) h = refl

-- ---- the open lists in the frames

stack_kept : (fr : List Frame) (d i : ℕ) (v : Frame) → d ≤ i → stack_in (set fr i v) d ≡ stack_in fr d
unfolding stack_in
stack_kept fr zero i v h = refl
stack_kept fr (suc d) i v h = rw (get_or-set_other fr i d v Outermost (omega arith), stack_kept fr d i v (omega arith)) refl

pub stack_push : (fr : List Frame) (d : ℕ) (v : Frame) → d < length fr → stack_in (set fr d v) (suc d) ≡ v ∷ stack_in fr d
unfolding stack_in
stack_push fr d v h = rw (get_or-set_same fr d v Outermost h, stack_kept fr d d v (omega arith)) refl

sym_add_one : (d : ℕ) → suc d ≡ d + 1
sym_add_one d = omega arith

-- ---- an opening bracket

opened : Option Opened → List Frame → List ℕ → Next
opened (Some o) st f = on o.within (o.after ∷ st) (f ++ pair_byte o.pair)
opened None st f = no

opening_is : (w : Want) (st : List Frame) (f : List ℕ) → on_opening w st f ≡ opened (opening_of w) st f
unfolding on_opening opened
opening_is Whole st f = ap (λ (l : List ℕ). on (First Operator) (Outermost ∷ st) l) (sym (append-nil f))
opening_is (First p) st f = refl
opening_is (More p) st f = refl
opening_is (Last p) st f = ap (λ (l : List ℕ). on (First p) (AfterDot ∷ st) l) (sym (append-nil f))
opening_is Bracket st f = refl
opening_is Nothing st f = refl

pub open_done : (fr : List Frame) (f f' : List ℕ) (r : Reading) (g : Option ℕ) (o : Opened) (next : ℕ) → Some o ≡ opening_of r.want → Emits (pair_byte o.pair) f f' r.grown g → r.depth < length fr
    → StepOk on_opening fr (set fr r.depth o.after) f f' r next (Some (record { at = next; want = o.within; depth = r.depth + 1; grown = g }))
unfolding StepOk opened
open_done fr f f' r g o next i e h = record {
  at = refl;
  deep = omega arith;
  within = e.within;
  frames = length-set fr r.depth o.after;
  long = e.long;
  so = λ l m. leads (l ++ pair_byte o.pair) (e.so l m)
      (opening_is r.want (stack_in fr r.depth) l
      ∙ ap (λ (x : Option Opened). opened x (stack_in fr r.depth) l) (sym i)
      ∙ ap (λ (st : List Frame). on o.within st (l ++ pair_byte o.pair)) (sym (subst (λ (d : ℕ). stack_in (set fr r.depth o.after) d ≡ o.after ∷ stack_in fr r.depth) (sym_add_one r.depth) (stack_push fr r.depth o.after h))));
}

pub open_stuck : (fr : List Frame) (f : List ℕ) (r : Reading) (next : ℕ) (s : Option Reading) → None ≡ opening_of r.want → s ≡ None → StepOk on_opening fr fr f f r next s
unfolding StepOk opened
open_stuck fr f r next s i j =
    subst (λ (x : Option Reading). StepOk on_opening fr fr f f r next x) (sym j)
    (record { so = λ e. opening_is r.want (stack_in fr r.depth) e ∙ ap (λ (x : Option Opened). opened x (stack_in fr r.depth) e) (sym i) })

-- ---- a closing bracket

-- what was popped, once the list's end is emitted
popped : (fr : List Frame) (f f' : List ℕ) (r : Reading) (next : ℕ) (g : Option ℕ) (more : List ℕ) (s : Option Reading) → Emits more f f' r.grown g
    → ((e : List ℕ) → on_closing r.want (stack_in fr r.depth) e ≡ pop (stack_in fr r.depth) (e ++ more)) → PopOk fr r.depth g next s → StepOk on_closing fr fr f f' r next s
unfolding StepOk PopOk
popped fr f f' r next g more (Some q) e i h = record {
  at = h.at;
  deep = let z : q.depth ≤ r.depth = h.deep in omega arith;
  within = subst (λ (x : Option ℕ). Within x) (sym h.grown) e.within;
  frames = refl;
  long = e.long;
  so = λ l m. leads (l ++ more) (subst (λ (x : Option ℕ). Emitted (l ++ more) f' x) (sym h.grown) (e.so l m)) (i l ∙ h.so (l ++ more));
}
popped fr f f' r next g more None e i h = record { so = λ l. i l ∙ h.so (l ++ more) }

pub close_part : (fr : List Frame) (f f' : List ℕ) (r : Reading) (next : ℕ) (g : Option ℕ) (s : Option Reading) → PopOk fr r.depth g next s → Emits (0x80 ∷ []) f f' r.grown g
    → ((p : Place) × (r.want ≡ First p)) ⊎ ((p : Place) × (r.want ≡ More p)) → StepOk on_closing fr fr f f' r next s
unfolding on_closing
close_part fr f f' r next g s h e (inl i) = popped fr f f' r next g (0x80 ∷ []) s e (λ l. ap (λ (w : Want). on_closing w (stack_in fr r.depth) l) i.1) h
close_part fr f f' r next g s h e (inr i) = popped fr f f' r next g (0x80 ∷ []) s e (λ l. ap (λ (w : Want). on_closing w (stack_in fr r.depth) l) i.1) h

pub close_bracket : (fr : List Frame) (f : List ℕ) (r : Reading) (next : ℕ) (s : Option Reading) → PopOk fr r.depth r.grown next s → r.want ≡ Bracket → Within r.grown → StepOk on_closing fr fr f f r next s
unfolding on_closing
close_bracket fr f r next s h i k =
    popped fr f f r next r.grown [] s (emits_none k) (λ l. ap (λ (w : Want). on_closing w (stack_in fr r.depth) l) i ∙ ap (λ (m : List ℕ). pop (stack_in fr r.depth) m) (sym (append-nil l))) h

pub close_none : (fr : List Frame) (f : List ℕ) (r : Reading) (next : ℕ) → (r.want ≡ Whole) ⊎ (((p : Place) × (r.want ≡ Last p)) ⊎ (r.want ≡ Nothing)) → StepOk on_closing fr fr f f r next None
unfolding on_closing StepOk
close_none fr f r next (inl i) = record { so = λ e. ap (λ (w : Want). on_closing w (stack_in fr r.depth) e) i }
close_none fr f r next (inr (inl i)) = record { so = λ e. ap (λ (w : Want). on_closing w (stack_in fr r.depth) e) i.1 }
close_none fr f r next (inr (inr i)) = record { so = λ e. ap (λ (w : Want). on_closing w (stack_in fr r.depth) e) i }

-- ---- an atom

atomic : Option Wanted → List ℕ → List Frame → List ℕ → Next
atomic (Some w) b st f = on w.want st ((f ++ pair_byte w.pair) ++ write_atom b)
atomic None b st f = no

after_is : (p : Place) (b : List ℕ) → after p (atom b) ≡ place_after p (is_byte 1 b)
unfolding after is_one
after_is Operator b = on_bool (is_byte 1 b) (λ e. rw (e, after) refl) (λ e. rw (e, after) refl)
after_is Code b = refl
after_is Data b = refl

atom_is : (w : Want) (b : List ℕ) (st : List Frame) (f : List ℕ) → on_atom w b st f ≡ atomic (wanted_after w (is_byte 1 b)) b st f
unfolding on_atom atomic
atom_is Whole b st f = ap (λ (l : List ℕ). on Nothing st (l ++ write_atom b)) (sym (append-nil f))
atom_is (First p) b st f = ap (λ (q : Place). on (More q) st ((f ++ (0xff ∷ [])) ++ write_atom b)) (after_is p b)
atom_is (More p) b st f = ap (λ (q : Place). on (More q) st ((f ++ (0xff ∷ [])) ++ write_atom b)) (after_is p b)
atom_is (Last p) b st f = ap (λ (l : List ℕ). on Bracket st (l ++ write_atom b)) (sym (append-nil f))
atom_is Bracket b st f = refl
atom_is Nothing b st f = refl

-- an atom, by what is wanted after it
atom_as : (b : List ℕ) (w : Want) (o : Option Wanted) (one : Bool) (st : List Frame) (f : List ℕ) → o ≡ wanted_after w one → one ≡ is_byte 1 b → on_atom w b st f ≡ atomic o b st f
atom_as b w o one st f i k = atom_is w b st f ∙ ap (λ (x : Option Wanted). atomic x b st f) (sym (i ∙ ap (λ (x : Bool). wanted_after w x) k))

pub atom_done : (b f f' : List ℕ) (r : Reading) (g : Option ℕ) (o : Wanted) (one : Bool) (next : ℕ) → Some o ≡ wanted_after r.want one → Emits (pair_byte o.pair ++ write_atom b) f f' r.grown g
    → one ≡ is_byte 1 b → AtomOk b f f' r next (Some (record { at = next; want = o.want; depth = r.depth; grown = g }))
unfolding AtomOk PassOk atomic
atom_done b f f' r g o one next i e k = record {
  at = refl;
  deep = refl;
  within = e.within;
  long = e.long;
  so = λ st l m. leads_on (l ++ (pair_byte o.pair ++ write_atom b)) (e.so l m)
      (atom_as b r.want (Some o) one st l i k ∙ ap (λ (x : List ℕ). on o.want st x) (append_assoc l (pair_byte o.pair) (write_atom b)));
}

pub atom_stuck : (b f : List ℕ) (r : Reading) (one : Bool) (next : ℕ) (s : Option Reading) → None ≡ wanted_after r.want one → one ≡ is_byte 1 b → s ≡ None → AtomOk b f f r next s
unfolding AtomOk PassOk atomic
atom_stuck b f r one next s i k j =
    subst (λ (x : Option Reading). AtomOk b f f r next x) (sym j) (record { so = λ st e. atom_as b r.want None one st e i k })

-- more bytes than a form may have are not the byte 1
long_other : (b : List ℕ) → form_limit < length b → false ≡ is_byte 1 b
long_other b h = no_byte b (λ e. omega arith)

pub long_done : (r : Reading) (o : Wanted) (next : ℕ) → Some o ≡ wanted_after r.want false → LongOk r next (Some (record { at = next; want = o.want; depth = r.depth; grown = None }))
long_done r o next i = record { so = λ b f h. atom_done b f f r None o false next i (part_over o.pair b h) (long_other b h) }

pub long_stuck : (r : Reading) (next : ℕ) (s : Option Reading) → None ≡ wanted_after r.want false → s ≡ None → LongOk r next s
long_stuck r next s i j = record { so = λ b f h. atom_stuck b f r false next s i (long_other b h) j }

-- ---- a word

word_as : (w : Want) (v b : List ℕ) (st : List Frame) (e : List ℕ) → word_bytes (place_of w) v ≡ some b → on_word w v st e ≡ on_atom w b st e
unfolding on_word
word_as w v b st e i = rw (i, on_word) refl

led : {o o' : Next} {st : List Frame} {f : List ℕ} {q : Reading} → o ≡ o' → LeadsOn o' st f q → LeadsOn o st f q
led i (leads_on e m j) = leads_on e m (i ∙ j)

-- a word of the bytes b is an atom of them
word_atom : (v b f f' : List ℕ) (r : Reading) (next : ℕ) (t : Option Reading) → AtomOk b f f' r next t → word_bytes (place_of r.want) v ≡ some b → WordOk v f f' r next t
unfolding AtomOk WordOk PassOk
word_atom v b f f' r next (Some q) h y = record {
  at = h.at;
  deep = h.deep;
  within = h.within;
  long = h.long;
  so = λ st e m. led (word_as r.want v b st e y) (h.so st e m);
}
word_atom v b f f' r next None h y = record { so = λ st e. word_as r.want v b st e y ∙ h.so st e }

pub word_done : (v f f' s s' : List ℕ) (r : Reading) (next at : ℕ) (p : Place) (x : Spelled) (t : Option Reading) → AtomOk (drop at s') f f' r next t → Spelling (word_bytes p v) s s' x → x ≡ From at → p ≡ place_of r.want
    → WordOk v f f' r next t
unfolding SpelledOk
word_done v f f' s s' r next at p x t h k i j =
    let y : Spells (word_bytes p v) s' at = (rw i at k.ok) in
    word_atom v (drop at s') f f' r next t h (ap (λ (q : Place). word_bytes q v) (sym j) ∙ y.is)

pub word_long : (v f s s' : List ℕ) (r : Reading) (next : ℕ) (p : Place) (x : Spelled) (t : Option Reading) → LongOk r next t → Spelling (word_bytes p v) s s' x → x ≡ Long → p ≡ place_of r.want → WordOk v f f r next t
unfolding SpelledOk
word_long v f s s' r next p x t h k i j = spelled (rw i at k.ok)
  where
    spelled : SpellsLong (word_bytes p v) → WordOk v f f r next t
    spelled (spells_long b y l) = word_atom v b f f r next t (h.so b f l) (ap (λ (q : Place). word_bytes q v) (sym j) ∙ y)

pub word_stuck : (v f s s' : List ℕ) (r : Reading) (p : Place) (x : Spelled) (next : ℕ) → Spelling (word_bytes p v) s s' x → x ≡ not-spelled → p ≡ place_of r.want → WordOk v f f r next None
unfolding WordOk PassOk SpelledOk on_word
word_stuck v f s s' r p x next k i j =
    let y : word_bytes p v ≡ none = (rw i at k.ok) in
    let z : word_bytes (place_of r.want) v ≡ none = ap (λ (q : Place). word_bytes q v) (sym j) ∙ y in
    record { so = λ st e. rw (z, on_word) refl }

pub word_sub : (v s s' : List ℕ) (at : ℕ) (p : Place) (x : Spelled) → Spelling (word_bytes p v) s s' x → x ≡ From at → at ≤ length s'
unfolding SpelledOk
word_sub v s s' at p x k i = let y : Spells (word_bytes p v) s' at = (rw i at k.ok) in y.within
